-- What the machine reads is spelled.
use Rattle.std.proofs.Common.{◌≡◌, ℕ, Bool, true, false, List, [], ◌∷◌, ◌++◌, Option, Some, None, sym, subst, append_assoc}
use Rattle.pd_pl0_spell.specs.Words.{Equal, Adding, Multiplying, Word, Name, Number, Compares, Adds, Multiplies, Becomes, Writes, Open, Close, Comma, Semicolon, Period, ConstKey, VarKey, ProcedureKey, CallKey, BeginKey, EndKey, IfKey, ThenKey, WhileKey, DoKey, OddKey, Constant, Tree, parens, odd, compared, empty, assign, write, sequence, block, procedure, none, also}
use Rattle.pd_pl0_spell.specs.Names.{Rule, AVariable, AProcedure, Scope, declare, entered, Declaring, Assigning, broken_by, Rules, IsLetBe, Keeps}
use Rattle.pd_pl0_spell.specs.Grammar.{Expression, without_sign, with_sign, no_sum, adding, Term, of_factors, no_product, multiplying, a_name, a_number, in_parens, Condition, is_odd, comparison, an_empty, an_assignment, a_call, a_write, a_sequence, an_if, a_while, no_more_statements, next_statement, MoreConstants, no_more_constants, next_constant, no_constant, first_constant, MoreVariables, no_more_variables, next_variable, no_variable, first_variable, Block, a_block, no_more_procedures, next_procedure}
use Rattle.pd_pl0_spell.specs.Machine.{Left, Sign, Waiting, nothing, term_of, whole, Parts, block_of, with_name, parts_behind, Around, Main, Within, Keyword, ForIf, ForWhile, headed, Holder, InBlock, InSequence, InBody, holder_scope, Stack, AsAssigned, AsWritten, AsOdd, AsLeft, AsRight, InParens, stack_scope, State, BlockStart, BeforeConstant, BeforeEqual, BeforeNumber, AfterConstant, AfterConstants, BeforeVariable, AfterVariable, AfterVariables, BeforeProcedure, AfterProcedure, BeforeStatement, BeforeBecomes, BeforeCallee, AfterStatement, BeforeCondition, BeforeExpression, Wants, Has, Finished, block_ends, statement_ends, condition_ends, ends, after_operand, operand, expression, statement, procedures, variables, constants, step, broken_in, broken, final, followed}
use Rattle.pd_pl0_spell.proofs.Completes.{Cont, Comes, comes, comes_with, at_the_end, AfterTerm, AfterFactor, BeforeOperand, ExpressionThen, FollowsBlock, InProcedures, InVariables, InConstants, MoreConstantsThen, MoreVariablesThen, FollowsStatement, StatementThen, FollowsCondition, Follows, Completes}
use Rattle.pd_pl0_spell.proofs.Keeping.{kept, kept_by, run_within, none_is_not_some, some_same}
use Rattle.pd_pl0_spell.proofs.Forward.{joined_one, joined_none, append_none, Read, Assigned}

module _ (n : Rules) where
  -- One step back.
  abbrev pub Back : Option State → Tree → List Word → Type 0 → Type 0
  Back None T r C = Unit {0}
  Back (Some s) T r C = Completes n s T r → C

  back_map : (o : Option State) (T : Tree) (r : List Word) (C D : Type 0) → (C → D) → Back o T r C → Back o T r D
  back_map None T r C D g h = tt
  back_map (Some s) T r C D g h = λ c. g (h c)

  -- What has begun with an operand is a part of an expression.
  term_from : (s : Scope) (p : Waiting) (K : Cont) (ts : List Word) → BeforeOperand n s (record { sum = p.sum; product = None }) K ts → (a : Tree) × (r : List Word) × Term n s ts a r × AfterTerm n s p K a r
  term_from s p K ts (f, r, g, (a, r', m, h)) = (a, r', of_factors g m, h)

  expression_from : (s : Scope) (K : Cont) (ts : List Word) → BeforeOperand n s nothing K ts → ExpressionThen n s K ts
  expression_from s K ts b =
      let t = term_from s nothing K ts b in
      (t.3.0, t.3.1, without_sign t.2 t.3.2, t.3.3)

  signed_from : (s : Scope) (o : Adding) (K : Cont) (ts : List Word) → BeforeOperand n s (record { sum = Sign o; product = None }) K ts → ExpressionThen n s K (Adds o ∷ ts)
  signed_from s o K ts b =
      let t = term_from s (record { sum = Sign o; product = None }) K ts b in
      (t.3.0, t.3.1, with_sign t.2 t.3.2, t.3.3)

  -- What may follow the whole expression may follow its last factor.
  ended : (s : Scope) (p : Waiting) (K : Cont) (f : Tree) (ts : List Word) → K (whole p f) ts → AfterFactor n s p K f ts
  ended s p K f ts h = (_, _, no_product, (_, _, no_sum, h))

  sum_back : (s : Scope) (p : Waiting) (o : Adding) (f : Tree) (K : Cont) (r : List Word) → BeforeOperand n s (record { sum = Left o (whole p f); product = None }) K r → AfterFactor n s p K f (Adds o ∷ r)
  sum_back s p o f K r b =
      let t = term_from s (record { sum = Left o (whole p f); product = None }) K r b in
      let h : AfterTerm n s p K (term_of p f) (Adds o ∷ r) = (_, _, adding t.2 t.3.2, t.3.3) in
      (_, _, no_product, h)

  product_back : (s : Scope) (p : Waiting) (o : Multiplying) (f : Tree) (K : Cont) (r : List Word) → BeforeOperand n s (record { sum = p.sum; product = Some (o, term_of p f) }) K r → AfterFactor n s p K f (Multiplies o ∷ r)
  product_back s p o f K r (g, r', x, (a, r'', m, h)) = (a, r'', multiplying x m, h)

  -- A word that ends something.
  block_ends_back : (o : Around) (b T : Tree) (w : Word) (r : List Word) → Back (block_ends o b w) T r (FollowsBlock n o T b (w ∷ r))
  block_ends_back Main b T Period r = λ h. comes h
  block_ends_back Main b T _ r = tt
  block_ends_back (Within x q o) b T Semicolon r = λ h. comes h
  block_ends_back (Within x q o) b T _ r = tt

  statement_ends_back : (h : Holder) (a T : Tree) (w : Word) (r : List Word) → Back (statement_ends h a w) T r (FollowsStatement n h T a (w ∷ r))
  statement_ends_back (InBlock p o) a T w r = block_ends_back o (block_of p a) T w r
  statement_ends_back (InSequence ss h) a T Semicolon r = λ (b, r', s, (more, r'', m, g)). (also b more, r'', next_statement s m, subst (λ x. FollowsStatement n h T (sequence x) r'') (joined_one ss a (also b more)) g)
  statement_ends_back (InSequence ss h) a T EndKey r = λ g. (none, r, no_more_statements, g)
  statement_ends_back (InSequence ss h) a T _ r = tt
  statement_ends_back (InBody k c h) a T w r = statement_ends_back h (headed k c a) T w r

  condition_ends_back : (k : Keyword) (h : Holder) (c T : Tree) (w : Word) (r : List Word) → Back (condition_ends k h c w) T r (FollowsCondition n k h T c (w ∷ r))
  condition_ends_back ForIf h c T ThenKey r = λ g. comes g
  condition_ends_back ForIf h c T _ r = tt
  condition_ends_back ForWhile h c T DoKey r = λ g. comes g
  condition_ends_back ForWhile h c T _ r = tt

  ends_back : (k : Stack) (e T : Tree) (w : Word) (r : List Word) → Back (ends k e w) T r (Follows n k T e (w ∷ r))
  ends_back (AsAssigned x h) e T w r = statement_ends_back h (assign x e) T w r
  ends_back (AsWritten h) e T w r = statement_ends_back h (write e) T w r
  ends_back (AsOdd k h) e T w r = condition_ends_back k h (odd e) T w r
  ends_back (AsLeft k h) e T (Compares o) r = λ g. comes_with g
  ends_back (AsLeft k h) e T _ r = tt
  ends_back (AsRight k o a h) e T w r = condition_ends_back k h (compared o a e) T w r
  ends_back (InParens p k) e T Close r = λ g. comes g
  ends_back (InParens p k) e T _ r = tt

  after_back : (p : Waiting) (f : Tree) (k : Stack) (T : Tree) (w : Word) (r : List Word) → Back (after_operand p f k w) T r (AfterFactor n (stack_scope k) p (Follows n k T) f (w ∷ r))
  after_back p f k T (Adds o) r = sum_back (stack_scope k) p o f (Follows n k T) r
  after_back p f k T (Multiplies o) r = product_back (stack_scope k) p o f (Follows n k T) r
  after_back p f k T w r = back_map (ends k (whole p f) w) T r _ _ (ended (stack_scope k) p (Follows n k T) f (w ∷ r)) (ends_back k (whole p f) T w r)

  -- The beginning of an expression.
  parens_back : (p : Waiting) (k : Stack) (T : Tree) {e : Tree} {ts r : List Word} → Expression n (stack_scope k) ts e r → Comes Close (AfterFactor n (stack_scope k) p (Follows n k T) (parens e)) r → BeforeOperand n (stack_scope k) p (Follows n k T) (Open ∷ ts)
  parens_back p k T x (comes h) = (_, _, in_parens x, h)

  operand_back : (p : Waiting) (k : Stack) (T : Tree) (w : Word) (r : List Word) → Keeps n (broken_in (Read n k) w) → Back (operand p k w) T r (BeforeOperand n (stack_scope k) p (Follows n k T) (w ∷ r))
  operand_back p k T (Name x) r keeps = λ h. (_, _, a_name keeps, h)
  operand_back p k T (Number v) r keeps = λ h. (_, _, a_number, h)
  operand_back p k T Open r keeps = λ (e, r', x, h). parens_back p k T x h
  operand_back p k T _ r keeps = tt

  expression_back : (k : Stack) (T : Tree) (w : Word) (r : List Word) → Keeps n (broken_in (Read n k) w) → Back (expression k w) T r (ExpressionThen n (stack_scope k) (Follows n k T) (w ∷ r))
  expression_back k T (Adds o) r keeps = λ b. signed_from (stack_scope k) o (Follows n k T) r b
  expression_back k T w r keeps = back_map (operand nothing k w) T r _ _ (expression_from (stack_scope k) (Follows n k T) (w ∷ r)) (operand_back nothing k T w r keeps)

  comparison_back : (k : Keyword) (h : Holder) (T : Tree) {e : Tree} {ts r : List Word} → Expression n (holder_scope h) ts e r → Follows n (AsLeft k h) T e r → Completes n (BeforeCondition k h) T ts
  comparison_back k h T x (comes_with (e, r', y, g)) = (_, _, comparison x y, g)

  condition_back : (k : Keyword) (h : Holder) (T : Tree) (ts : List Word) → ExpressionThen n (holder_scope h) (Follows n (AsLeft k h) T) ts → Completes n (BeforeCondition k h) T ts
  condition_back k h T ts (e, r, x, g) = comparison_back k h T x g

  -- Statements.
  assignment_back : (x : List ℕ) (h : Holder) (T : Tree) {ts : List Word} → Keeps n (broken_by Assigning (holder_scope h) x) → Completes n (BeforeBecomes x h) T ts → StatementThen n h T (Name x ∷ ts)
  assignment_back x h T keeps (comes (e, r, y, g)) = (_, _, an_assignment keeps y, g)

  call_back : (h : Holder) (T : Tree) {ts : List Word} → Completes n (BeforeCallee h) T ts → StatementThen n h T (CallKey ∷ ts)
  call_back h T (comes_with (keeps, g)) = (_, _, a_call keeps, g)

  if_back : (h : Holder) (T : Tree) {c : Tree} {ts r : List Word} → Condition n (holder_scope h) ts c r → FollowsCondition n ForIf h T c r → StatementThen n h T (IfKey ∷ ts)
  if_back h T c (comes (a, r, s, g)) = (_, _, an_if c s, g)

  while_back : (h : Holder) (T : Tree) {c : Tree} {ts r : List Word} → Condition n (holder_scope h) ts c r → FollowsCondition n ForWhile h T c r → StatementThen n h T (WhileKey ∷ ts)
  while_back h T c (comes (a, r, s, g)) = (_, _, a_while c s, g)

  statement_back : (h : Holder) (T : Tree) (w : Word) (r : List Word) → Keeps n (broken_in (Assigned n (holder_scope h)) w) → Back (statement h w) T r (StatementThen n h T (w ∷ r))
  statement_back h T (Name x) r keeps = λ g. assignment_back x h T keeps g
  statement_back h T CallKey r keeps = λ g. call_back h T g
  statement_back h T Writes r keeps = λ (e, r', x, g). (_, _, a_write x, g)
  statement_back h T BeginKey r keeps = λ (a, r', s, (more, r'', m, g)). (_, _, a_sequence s m, g)
  statement_back h T IfKey r keeps = λ (c, r', x, g). if_back h T x g
  statement_back h T WhileKey r keeps = λ (c, r', x, g). while_back h T x g
  statement_back h T w r keeps = back_map (statement_ends h empty w) T r _ _ (λ g. (empty, w ∷ r, an_empty, g)) (statement_ends_back h empty T w r)

  -- Blocks.
  procedure_closed : (x : List ℕ) (p : Parts) (o : Around) (T : Tree) {b : Tree} {ts r : List Word} → Keeps n (broken_by Declaring p.scope x) → Block n (entered (declare x AProcedure p.scope)) ts b r → FollowsBlock n (Within x (with_name p x) o) T b r → InProcedures n p o T (ProcedureKey ∷ Name x ∷ Semicolon ∷ ts)
  procedure_closed x p o T {b = b} keeps d (comes (more, s, r, m, (a, r', g, h))) =
      (also (procedure x b) more, s, r, next_procedure keeps d m, (a, r', g, subst (λ ps. FollowsBlock n o T (block p.constants p.variables ps a) r') (joined_one p.procedures (procedure x b) more) h))

  block_read : (x : List ℕ) (p : Parts) (o : Around) (T : Tree) (ts : List Word) → Keeps n (broken_by Declaring p.scope x) → InConstants n (entered (with_name p x).scope) (Within x (with_name p x) o) T ts → InProcedures n p o T (ProcedureKey ∷ Name x ∷ Semicolon ∷ ts)
  block_read x p o T ts keeps (cs, s, r, c, (vs, s', r', v, (ps, s'', r'', q, (a, r''', g, h)))) = procedure_closed x p o T keeps (a_block c v q g) h

  procedure_back : (p : Parts) (o : Around) (T : Tree) {ts : List Word} → Completes n (BeforeProcedure p o) T ts → InProcedures n p o T (ProcedureKey ∷ ts)
  procedure_back p o T (comes_with {a = x} (keeps, comes {r = r} h)) = block_read x p o T r keeps h

  no_procedure_back : (p : Parts) (o : Around) (T : Tree) (ts : List Word) → StatementThen n (InBlock p o) T ts → InProcedures n p o T ts
  no_procedure_back p o T ts (a, r, g, h) = (none, p.scope, ts, no_more_procedures, (a, r, g, subst (λ ps. FollowsBlock n o T (block p.constants p.variables ps a) r) (sym (joined_none p.procedures)) h))

  procedures_back : (p : Parts) (o : Around) (T : Tree) (w : Word) (r : List Word) → Keeps n (broken_in (Assigned n p.scope) w) → Back (procedures p o w) T r (InProcedures n p o T (w ∷ r))
  procedures_back p o T ProcedureKey r keeps = λ g. procedure_back p o T g
  procedures_back p o T w r keeps = back_map (statement (InBlock p o) w) T r _ _ (no_procedure_back p o T (w ∷ r)) (statement_back (InBlock p o) T w r keeps)

  var_back : (cs : List Constant) (s : Scope) (o : Around) (T : Tree) {s' : Scope} {vs : List (List ℕ)} {ts r : List Word} → MoreVariables n s (Comma ∷ ts) vs s' r → InProcedures n (parts_behind cs vs s') o T r → InVariables n cs s o T (VarKey ∷ ts)
  var_back cs s o T (next_variable keeps m) h = (_, _, _, first_variable keeps m, h)

  variables_back : (cs : List Constant) (s : Scope) (o : Around) (T : Tree) (w : Word) (r : List Word) → Keeps n (broken_in (Assigned n s) w) → Back (variables cs s o w) T r (InVariables n cs s o T (w ∷ r))
  variables_back cs s o T VarKey r keeps = λ (vs, s', r', m, h). var_back cs s o T m h
  variables_back cs s o T w r keeps = back_map (procedures (parts_behind cs [] s) o w) T r _ _ (λ g. ([], s, w ∷ r, no_variable, g)) (procedures_back (parts_behind cs [] s) o T w r keeps)

  const_back : (s : Scope) (o : Around) (T : Tree) {s' : Scope} {cs : List Constant} {ts r : List Word} → MoreConstants n s (Comma ∷ ts) cs s' r → InVariables n cs s' o T r → InConstants n s o T (ConstKey ∷ ts)
  const_back s o T (next_constant keeps m) h = (_, _, _, first_constant keeps m, h)

  constants_back : (s : Scope) (o : Around) (T : Tree) (w : Word) (r : List Word) → Keeps n (broken_in (Assigned n s) w) → Back (constants s o w) T r (InConstants n s o T (w ∷ r))
  constants_back s o T ConstKey r keeps = λ (cs, s', r', m, h). const_back s o T m h
  constants_back s o T w r keeps = back_map (variables [] s o w) T r _ _ (λ g. ([], s, w ∷ r, no_constant, g)) (variables_back [] s o T w r keeps)

  constant_named : (cs : List Constant) (x : List ℕ) (s : Scope) (o : Around) (T : Tree) {ts : List Word} → Keeps n (broken_by Declaring s x) → Completes n (BeforeEqual cs x s o) T ts → MoreConstantsThen n cs s o T (Comma ∷ Name x ∷ ts)
  constant_named cs x s o T keeps (comes (comes_with {a = v} (more, s', r, m, h))) =
      (record { name = x; value = v } ∷ more, s', r, next_constant keeps m, subst (λ y. InVariables n y s' o T r) (append_assoc cs (record { name = x; value = v } ∷ []) more) h)

  variable_named : (cs : List Constant) (vs : List (List ℕ)) (x : List ℕ) (s : Scope) (o : Around) (T : Tree) (ts : List Word) → Keeps n (broken_by Declaring s x) → MoreVariablesThen n cs (vs ++ x ∷ []) (declare x AVariable s) o T ts → MoreVariablesThen n cs vs s o T (Comma ∷ Name x ∷ ts)
  variable_named cs vs x s o T ts keeps (more, s', r, m, h) =
      (x ∷ more, s', r, next_variable keeps m, subst (λ y. InProcedures n (parts_behind cs y s') o T r) (append_assoc vs (x ∷ []) more) h)

  pub backward : (s : State) (T : Tree) (w : Word) (r : List Word) → Keeps n (broken s w) → Back (step s w) T r (Completes n s T (w ∷ r))
  backward (BlockStart s o) T w r keeps = constants_back s o T w r keeps
  backward (BeforeConstant cs s o) T (Name x) r keeps = λ h. constant_named cs x s o T keeps h
  backward (BeforeEqual cs x s o) T (Compares Equal) r keeps = λ h. comes h
  backward (BeforeNumber cs x s o) T (Number v) r keeps = λ h. comes_with h
  backward (AfterConstant cs s o) T Comma r keeps = λ h. h
  backward (AfterConstant cs s o) T Semicolon r keeps = λ h. ([], s, r, no_more_constants, subst (λ y. InVariables n y s o T r) (sym (append_none cs)) h)
  backward (AfterConstants cs s o) T w r keeps = variables_back cs s o T w r keeps
  backward (BeforeVariable cs vs s o) T (Name x) r keeps = λ h. variable_named cs vs x s o T r keeps h
  backward (AfterVariable cs vs s o) T Comma r keeps = λ h. h
  backward (AfterVariable cs vs s o) T Semicolon r keeps = λ h. ([], s, r, no_more_variables, subst (λ y. InProcedures n (parts_behind cs y s) o T r) (sym (append_none vs)) h)
  backward (AfterVariables p o) T w r keeps = procedures_back p o T w r keeps
  backward (BeforeProcedure p o) T (Name x) r keeps = λ h. comes_with (keeps, h)
  backward (AfterProcedure x p o) T Semicolon r keeps = λ h. comes h
  backward (BeforeStatement h) T w r keeps = statement_back h T w r keeps
  backward (BeforeBecomes x h) T Becomes r keeps = λ g. comes g
  backward (BeforeCallee h) T (Name x) r keeps = λ g. comes_with (keeps, g)
  backward (AfterStatement a h) T w r keeps = statement_ends_back h a T w r
  backward (BeforeCondition k h) T OddKey r keeps = λ (e, r', x, g). (_, _, is_odd x, g)
  backward (BeforeCondition k h) T w r keeps = back_map (expression (AsLeft k h) w) T r _ _ (condition_back k h T (w ∷ r)) (expression_back (AsLeft k h) T w r keeps)
  backward (BeforeExpression k) T w r keeps = expression_back k T w r keeps
  backward (Wants p k) T w r keeps = operand_back p k T w r keeps
  backward (Has p f k) T w r keeps = after_back p f k T w r
  backward _ T w r keeps = tt

  final_back : (s : State) (T : Tree) → final s ≡ Some T → Completes n s T []
  final_back (Finished b) T h = at_the_end (some_same h)
  final_back _ T h = absurd (none_is_not_some h)

  -- What is read is spelled.
  pub sound : (ts : List Word) (s : State) (T : Tree) → run_within n s ts ≡ Some T → Completes n s T ts
  sound [] s T h = final_back s T h
  sound (w ∷ ts) s T h = go (broken s w) (step s w) (λ s'. sound ts s' T) (backward s T w ts) h
    where
      Later : Type 0
      Later = (s' : State) → run_within n s' ts ≡ Some T → Completes n s' T ts

      on : (o : Option State) → Later → Back o T ts (Completes n s T (w ∷ ts)) → followed o (λ s'. run_within n s' ts) ≡ Some T → Completes n s T (w ∷ ts)
      on None ih b h = absurd (none_is_not_some h)
      on (Some s') ih b h = b (ih s' h)

      as_kept : (l : Bool) (o : Option State) → Later → (IsLetBe l → Back o T ts (Completes n s T (w ∷ ts))) → followed (kept l o) (λ s'. run_within n s' ts) ≡ Some T → Completes n s T (w ∷ ts)
      as_kept true o ih b h = absurd (none_is_not_some h)
      as_kept false o ih b h = on o ih (b tt) h

      go : (x : Option Rule) (o : Option State) → Later → (Keeps n x → Back o T ts (Completes n s T (w ∷ ts))) → followed (kept_by n x o) (λ s'. run_within n s' ts) ≡ Some T → Completes n s T (w ∷ ts)
      go None o ih b h = on o ih (b tt) h
      go (Some rule) o ih b h = as_kept (n rule) o ih b h
