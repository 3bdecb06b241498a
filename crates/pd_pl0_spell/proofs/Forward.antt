-- The machine follows what is spelled.
use Rattle.std.proofs.Common.{◌≡◌, ℕ, List, [], ◌∷◌, ◌++◌, Option, Some, None, ◌⊎◌, inl, inr, Bool, true, false, refl, sym, ap, ◌∙◌, subst, append_assoc}
use Rattle.pd_pl0_spell.specs.Words.{Comparing, Word, Name, Adds, Multiplies, Writes, Comma, Semicolon, Period, ConstKey, VarKey, ProcedureKey, CallKey, BeginKey, EndKey, IfKey, WhileKey, OddKey, Constant, Tree, odd, compared, empty, assign, write, sequence, block, procedure, Trees, none, also, joined, with_last}
use Rattle.pd_pl0_spell.specs.Names.{Scope, Role, Declaring, Assigning, Calling, Reading, Rules, Keeps}
use Rattle.pd_pl0_spell.specs.Grammar.{Expression, without_sign, with_sign, MoreTerms, no_sum, adding, Term, of_factors, MoreFactors, no_product, multiplying, Factor, a_name, a_number, in_parens, Condition, is_odd, comparison, Statement, an_empty, an_assignment, a_call, a_write, a_sequence, an_if, a_while, MoreStatements, no_more_statements, next_statement, MoreConstants, no_more_constants, next_constant, Constants, no_constant, first_constant, MoreVariables, no_more_variables, next_variable, Variables, no_variable, first_variable, Block, a_block, Procedures, no_more_procedures, next_procedure}
use Rattle.pd_pl0_spell.specs.Machine.{Left, Sign, Waiting, nothing, term_of, whole, Parts, block_of, with_name, parts_behind, Around, Main, Within, Keyword, ForIf, ForWhile, headed, Holder, InBlock, InSequence, InBody, holder_scope, Stack, AsAssigned, AsWritten, AsOdd, AsLeft, AsRight, InParens, stack_scope, State, BlockStart, BeforeConstant, BeforeEqual, BeforeNumber, AfterConstant, AfterConstants, BeforeVariable, AfterVariable, AfterVariables, BeforeProcedure, AfterProcedure, BeforeStatement, BeforeBecomes, BeforeCallee, AfterStatement, BeforeCondition, BeforeExpression, Wants, Has, Finished, block_ends, statement_ends, condition_ends, after_operand, operand, expression, statement, procedures, variables, constants, step, role_next, broken_in, broken, final, followed}
use Rattle.pd_pl0_spell.proofs.Completes.{Cont, comes, ComesWith, comes_with, AtEnd, at_the_end, AfterTerm, AfterFactor, BeforeOperand, FollowsBlock, StatementOf, InProcedures, InVariables, InConstants, FollowsStatement, FollowsCondition, Follows, Completes}
use Rattle.pd_pl0_spell.proofs.Keeping.{run_within, keeps_kept, none_is_not_some}

pub joined_one : (xs : Trees) (x : Tree) (ys : Trees) → joined (with_last xs x) ys ≡ joined xs (also x ys)
joined_one none x ys = refl
joined_one (also y xs) x ys = ap (also y) (joined_one xs x ys)

pub joined_none : (xs : Trees) → joined xs none ≡ xs
joined_none none = refl
joined_none (also x xs) = ap (also x) (joined_none xs)

pub append_none : {A : Type 0} (xs : List A) → xs ++ [] ≡ xs
append_none [] = refl
append_none (x ∷ xs) = ap (λ ys. x ∷ ys) (append_none xs)

-- Only `;`, `end` and `.` end a statement.
unfoldable pub is_ender : Word → Bool
is_ender Semicolon = true
is_ender EndKey = true
is_ender Period = true
is_ender _ = false

block_goes_on : (o : Around) (b : Tree) (w : Word) → is_ender w ≡ false → block_ends o b w ≡ None
unfolding is_ender
block_goes_on Main b Period h = cc
block_goes_on Main b _ h = refl
block_goes_on (Within x q o) b Semicolon h = cc
block_goes_on (Within x q o) b _ h = refl

pub statement_goes_on : (h : Holder) (a : Tree) (w : Word) → is_ender w ≡ false → statement_ends h a w ≡ None
unfolding is_ender
statement_goes_on (InBlock p o) a w e = block_goes_on o (block_of p a) w e
statement_goes_on (InSequence ss h) a Semicolon e = cc
statement_goes_on (InSequence ss h) a EndKey e = cc
statement_goes_on (InSequence ss h) a _ e = refl
statement_goes_on (InBody k c h) a w e = statement_goes_on h (headed k c a) w e

abbrev pub parts : List Constant → List (List ℕ) → Trees → Scope → Parts
parts cs vs ps s = record { constants = cs; variables = vs; procedures = ps; scope = s }

module _ (n : Rules) where
  -- What begins a term begins with an operand.
  term_begun : (s : Scope) (p : Waiting) (K : Cont) {ts r : List Word} {a : Tree} → Term n s ts a r → AfterTerm n s p K a r → BeforeOperand n s (record { sum = p.sum; product = None }) K ts
  term_begun s p K (of_factors f m) h = (_, _, f, (_, _, m, h))

  -- Behind a part of an expression comes an operator of its level, or what may follow the part.
  after_sum : (s : Scope) (K : Cont) {a e : Tree} {ts r : List Word} → MoreTerms n s a ts e r → K e r → K a ts ⊎ ComesWith Adds (λ o. BeforeOperand n s (record { sum = Left o a; product = None }) K) ts
  after_sum s K no_sum h = inl h
  after_sum s K (adding {o = o} {a = a} t m) h = inr (comes_with (term_begun s (record { sum = Left o a; product = None }) K t (_, _, m, h)))

  after_product : (s : Scope) (p : Waiting) (K : Cont) {a e : Tree} {ts r : List Word} → MoreFactors n s a ts e r → AfterTerm n s p K e r → AfterTerm n s p K a ts ⊎ ComesWith Multiplies (λ o. BeforeOperand n s (record { sum = p.sum; product = Some (o, a) }) K) ts
  after_product s p K no_product h = inl h
  after_product s p K (multiplying t m) h = inr (comes_with (_, _, t, (_, _, m, h)))

  -- One step forward.
  abbrev pub Leads : Option State → Tree → List Word → Type 0
  Leads o T r = (s : State) × (o ≡ Some s) × Completes n s T r

  -- there is a next word, it breaks none of the rules in its role, and it leads on
  abbrev pub Goes : Option (Role × Scope) → (Word → Option State) → Tree → List Word → Type 0
  Goes u f T [] = ⊥
  Goes u f T (w ∷ r) = Keeps n (broken_in u w) × Leads (f w) T r

  leads_nowhere : (o : Option State) (T : Tree) (r : List Word) → o ≡ None → Leads o T r → ⊥
  leads_nowhere o T r e (s, h, g) = none_is_not_some (sym e ∙ h)

  -- The end of a statement.
  block_end_goes : (o : Around) (b T : Tree) (ts : List Word) → FollowsBlock n o T b ts → Goes None (block_ends o b) T ts
  block_end_goes Main b T _ (comes h) = (tt, (_, refl, h))
  block_end_goes (Within x q o) b T _ (comes h) = (tt, (_, refl, h))

  sequence_goes : (ss : Trees) (h : Holder) (a T : Tree) {more : Trees} {ts r : List Word} → MoreStatements n (holder_scope h) ts more r → FollowsStatement n h T (sequence (joined ss (also a more))) r → Goes None (statement_ends (InSequence ss h) a) T ts
  sequence_goes ss h a T no_more_statements g = (tt, (_, refl, g))
  sequence_goes ss h a T (next_statement {r' = r'} {a = b} {more = more} s m) g = (tt, (_, refl, (_, _, s, (_, _, m, subst (λ x. FollowsStatement n h T (sequence x) r') (sym (joined_one ss a (also b more))) g))))

  statement_end_goes : (h : Holder) (a T : Tree) (ts : List Word) → FollowsStatement n h T a ts → Goes None (statement_ends h a) T ts
  statement_end_goes (InBlock p o) a T ts g = block_end_goes o (block_of p a) T ts g
  statement_end_goes (InSequence ss h) a T ts (more, r, m, g) = sequence_goes ss h a T m g
  statement_end_goes (InBody k c h) a T ts g = statement_end_goes h (headed k c a) T ts g

  condition_end_goes : (k : Keyword) (h : Holder) (c T : Tree) {ts : List Word} → FollowsCondition n k h T c ts → Goes None (condition_ends k h c) T ts
  condition_end_goes ForIf h c T (comes g) = (tt, (_, refl, g))
  condition_end_goes ForWhile h c T (comes g) = (tt, (_, refl, g))

  no_operator : (k : Keyword) (h : Holder) (c : Tree) → ((o : _) → condition_ends k h c (Adds o) ≡ None) × ((o : _) → condition_ends k h c (Multiplies o) ≡ None)
  no_operator ForIf h c = ((λ o. refl), (λ o. refl))
  no_operator ForWhile h c = ((λ o. refl), (λ o. refl))

  -- The end of an expression.
  abbrev pub GoesAfter : Waiting → Tree → Stack → Tree → List Word → Type 0
  GoesAfter p f k T ts = Goes None (after_operand p f k) T ts

  abbrev pub Closes : Stack → Tree → Type 0
  Closes k T = (p : Waiting) (f : Tree) (r : List Word) → Follows n k T (whole p f) r → GoesAfter p f k T r

  assigned_closes : (p : Waiting) (f : Tree) (x : List ℕ) (h : Holder) (T : Tree) (r : List Word) → Goes None (statement_ends h (assign x (whole p f))) T r → GoesAfter p f (AsAssigned x h) T r
  unfolding is_ender
  assigned_closes p f x h T [] g = g
  assigned_closes p f x h T (Adds o ∷ r) g = absurd (leads_nowhere _ T r (statement_goes_on h (assign x (whole p f)) (Adds o) refl) g.1)
  assigned_closes p f x h T (Multiplies o ∷ r) g = absurd (leads_nowhere _ T r (statement_goes_on h (assign x (whole p f)) (Multiplies o) refl) g.1)
  assigned_closes p f x h T (w ∷ r) g = g

  written_closes : (p : Waiting) (f : Tree) (h : Holder) (T : Tree) (r : List Word) → Goes None (statement_ends h (write (whole p f))) T r → GoesAfter p f (AsWritten h) T r
  unfolding is_ender
  written_closes p f h T [] g = g
  written_closes p f h T (Adds o ∷ r) g = absurd (leads_nowhere _ T r (statement_goes_on h (write (whole p f)) (Adds o) refl) g.1)
  written_closes p f h T (Multiplies o ∷ r) g = absurd (leads_nowhere _ T r (statement_goes_on h (write (whole p f)) (Multiplies o) refl) g.1)
  written_closes p f h T (w ∷ r) g = g

  odd_closes : (p : Waiting) (f : Tree) (k : Keyword) (h : Holder) (T : Tree) (r : List Word) → Goes None (condition_ends k h (odd (whole p f))) T r → GoesAfter p f (AsOdd k h) T r
  odd_closes p f k h T [] g = g
  odd_closes p f k h T (Adds o ∷ r) g = absurd (leads_nowhere _ T r ((no_operator k h (odd (whole p f))).0 o) g.1)
  odd_closes p f k h T (Multiplies o ∷ r) g = absurd (leads_nowhere _ T r ((no_operator k h (odd (whole p f))).1 o) g.1)
  odd_closes p f k h T (w ∷ r) g = g

  right_closes : (p : Waiting) (f : Tree) (k : Keyword) (c : Comparing) (a : Tree) (h : Holder) (T : Tree) (r : List Word) → Goes None (condition_ends k h (compared c a (whole p f))) T r → GoesAfter p f (AsRight k c a h) T r
  right_closes p f k c a h T [] g = g
  right_closes p f k c a h T (Adds o ∷ r) g = absurd (leads_nowhere _ T r ((no_operator k h (compared c a (whole p f))).0 o) g.1)
  right_closes p f k c a h T (Multiplies o ∷ r) g = absurd (leads_nowhere _ T r ((no_operator k h (compared c a (whole p f))).1 o) g.1)
  right_closes p f k c a h T (w ∷ r) g = g

  left_closes : (p : Waiting) (f : Tree) (k : Keyword) (h : Holder) (T : Tree) {r : List Word} → Follows n (AsLeft k h) T (whole p f) r → GoesAfter p f (AsLeft k h) T r
  left_closes p f k h T (comes_with g) = (tt, (_, refl, g))

  parens_close : (p : Waiting) (f : Tree) (q : Waiting) (k : Stack) (T : Tree) {r : List Word} → Follows n (InParens q k) T (whole p f) r → GoesAfter p f (InParens q k) T r
  parens_close p f q k T (comes g) = (tt, (_, refl, g))

  closes : (k : Stack) (T : Tree) → Closes k T
  closes (AsAssigned x h) T p f r g = assigned_closes p f x h T r (statement_end_goes h (assign x (whole p f)) T r g)
  closes (AsWritten h) T p f r g = written_closes p f h T r (statement_end_goes h (write (whole p f)) T r g)
  closes (AsOdd k h) T p f r g = odd_closes p f k h T r (condition_end_goes k h (odd (whole p f)) T g)
  closes (AsLeft k h) T p f r g = left_closes p f k h T g
  closes (AsRight k c a h) T p f r g = right_closes p f k c a h T r (condition_end_goes k h (compared c a (whole p f)) T g)
  closes (InParens q k) T p f r g = parens_close p f q k T g

  sum_goes : (p : Waiting) (f : Tree) (k : Stack) (T : Tree) {r : List Word} → ComesWith Adds (λ o. BeforeOperand n (stack_scope k) (record { sum = Left o (whole p f); product = None }) (Follows n k T)) r → GoesAfter p f k T r
  sum_goes p f k T (comes_with h) = (tt, (_, refl, h))

  product_goes : (p : Waiting) (f : Tree) (k : Stack) (T : Tree) {r : List Word} → ComesWith Multiplies (λ o. BeforeOperand n (stack_scope k) (record { sum = p.sum; product = Some (o, term_of p f) }) (Follows n k T)) r → GoesAfter p f k T r
  product_goes p f k T (comes_with h) = (tt, (_, refl, h))

  term_goes : (p : Waiting) (f : Tree) (k : Stack) (T : Tree) (ts : List Word) → AfterTerm n (stack_scope k) p (Follows n k T) (term_of p f) ts → GoesAfter p f k T ts
  term_goes p f k T ts (e, r, m, h) = elim (after_sum (stack_scope k) (Follows n k T) m h) [ inl g ↦ closes k T p f ts g | inr g ↦ sum_goes p f k T g ]

  has_goes : (p : Waiting) (f : Tree) (k : Stack) (T : Tree) (ts : List Word) → AfterFactor n (stack_scope k) p (Follows n k T) f ts → GoesAfter p f k T ts
  has_goes p f k T ts (e, r, m, h) = elim (after_product (stack_scope k) p (Follows n k T) m h) [ inl g ↦ term_goes p f k T ts g | inr g ↦ product_goes p f k T g ]

  -- The beginning of an expression.
  abbrev pub Read : Stack → Option (Role × Scope)
  Read k = Some (Reading, stack_scope k)

  operand_goes : (p : Waiting) (k : Stack) (T : Tree) {f : Tree} {ts r : List Word} → Factor n (stack_scope k) ts f r → AfterFactor n (stack_scope k) p (Follows n k T) f r → Goes (Read k) (operand p k) T ts
  operand_goes p k T (a_name keeps) h = (keeps, (_, refl, h))
  operand_goes p k T a_number h = (tt, (_, refl, h))
  operand_goes p k T (in_parens e) h = (tt, (_, refl, (_, _, e, comes h)))

  before_operand_goes : (p : Waiting) (k : Stack) (T : Tree) (ts : List Word) → BeforeOperand n (stack_scope k) p (Follows n k T) ts → Goes (Read k) (operand p k) T ts
  before_operand_goes p k T ts (f, r, g, h) = operand_goes p k T g h

  unsigned_goes : (k : Stack) (T : Tree) (ts : List Word) → Goes (Read k) (operand nothing k) T ts → Goes (Read k) (expression k) T ts
  unsigned_goes k T [] h = h
  unsigned_goes k T (Adds o ∷ r) h = absurd (leads_nowhere None T r refl h.1)
  unsigned_goes k T (w ∷ r) h = h

  expression_goes : (k : Stack) (T : Tree) {e : Tree} {ts r : List Word} → Expression n (stack_scope k) ts e r → Follows n k T e r → Goes (Read k) (expression k) T ts
  expression_goes k T (without_sign {ts = ts} t m) h = unsigned_goes k T ts (before_operand_goes nothing k T ts (term_begun (stack_scope k) nothing (Follows n k T) t (_, _, m, h)))
  expression_goes k T (with_sign {o = o} t m) h = (tt, (_, refl, term_begun (stack_scope k) (record { sum = Sign o; product = None }) (Follows n k T) t (_, _, m, h)))

  no_odd : (k : Keyword) (h : Holder) (T : Tree) (ts : List Word) → Goes (Read (AsLeft k h)) (expression (AsLeft k h)) T ts → Goes (Read (AsLeft k h)) (step (BeforeCondition k h)) T ts
  no_odd k h T [] g = g
  no_odd k h T (OddKey ∷ r) g = absurd (leads_nowhere None T r refl g.1)
  no_odd k h T (w ∷ r) g = g

  condition_goes : (k : Keyword) (h : Holder) (T : Tree) {c : Tree} {ts r : List Word} → Condition n (holder_scope h) ts c r → FollowsCondition n k h T c r → Goes (Read (AsLeft k h)) (step (BeforeCondition k h)) T ts
  condition_goes k h T (is_odd e) g = (tt, (_, refl, (_, _, e, g)))
  condition_goes k h T (comparison {ts = ts} a b) g = no_odd k h T ts (expression_goes (AsLeft k h) T a (comes_with (_, _, b, g)))

  -- Statements.
  abbrev pub Assigned : Scope → Option (Role × Scope)
  Assigned s = Some (Assigning, s)

  empty_goes : (h : Holder) (T : Tree) (ts : List Word) → Goes None (statement_ends h empty) T ts → Goes (Assigned (holder_scope h)) (statement h) T ts
  unfolding is_ender
  empty_goes h T [] g = g
  empty_goes h T (Name x ∷ r) g = absurd (leads_nowhere _ T r (statement_goes_on h empty (Name x) refl) g.1)
  empty_goes h T (CallKey ∷ r) g = absurd (leads_nowhere _ T r (statement_goes_on h empty CallKey refl) g.1)
  empty_goes h T (Writes ∷ r) g = absurd (leads_nowhere _ T r (statement_goes_on h empty Writes refl) g.1)
  empty_goes h T (BeginKey ∷ r) g = absurd (leads_nowhere _ T r (statement_goes_on h empty BeginKey refl) g.1)
  empty_goes h T (IfKey ∷ r) g = absurd (leads_nowhere _ T r (statement_goes_on h empty IfKey refl) g.1)
  empty_goes h T (WhileKey ∷ r) g = absurd (leads_nowhere _ T r (statement_goes_on h empty WhileKey refl) g.1)
  empty_goes h T (w ∷ r) g = g

  statement_goes : (h : Holder) (T : Tree) {a : Tree} {ts r : List Word} → Statement n (holder_scope h) ts a r → FollowsStatement n h T a r → Goes (Assigned (holder_scope h)) (statement h) T ts
  statement_goes h T (an_empty {r = r}) g = empty_goes h T r (statement_end_goes h empty T r g)
  statement_goes h T (an_assignment keeps e) g = (keeps, (_, refl, comes (_, _, e, g)))
  statement_goes h T (a_call keeps) g = (tt, (_, refl, comes_with (keeps, g)))
  statement_goes h T (a_write e) g = (tt, (_, refl, (_, _, e, g)))
  statement_goes h T (a_sequence s m) g = (tt, (_, refl, (_, _, s, (_, _, m, g))))
  statement_goes h T (an_if c s) g = (tt, (_, refl, (_, _, c, comes (_, _, s, g))))
  statement_goes h T (a_while c s) g = (tt, (_, refl, (_, _, c, comes (_, _, s, g))))

  becomes_goes : (x : List ℕ) (h : Holder) (T : Tree) {ts : List Word} → Completes n (BeforeBecomes x h) T ts → Goes None (step (BeforeBecomes x h)) T ts
  becomes_goes x h T (comes g) = (tt, (_, refl, g))

  callee_goes : (h : Holder) (T : Tree) {ts : List Word} → Completes n (BeforeCallee h) T ts → Goes (Some (Calling, holder_scope h)) (step (BeforeCallee h)) T ts
  callee_goes h T (comes_with (keeps, g)) = (keeps, (_, refl, g))

  -- Blocks.
  no_procedure : (p : Parts) (o : Around) (T : Tree) (ts : List Word) → Goes (Assigned p.scope) (statement (InBlock p o)) T ts → Goes (Assigned p.scope) (procedures p o) T ts
  unfolding is_ender
  no_procedure p o T [] g = g
  no_procedure p o T (ProcedureKey ∷ r) g = absurd (leads_nowhere _ T r (statement_goes_on (InBlock p o) empty ProcedureKey refl) g.1)
  no_procedure p o T (w ∷ r) g = g

  pub block_begun : (o : Around) (T : Tree) {s : Scope} {b : Tree} {ts r : List Word} → Block n s ts b r → FollowsBlock n o T b r → InConstants n s o T ts
  block_begun o T (a_block c v p a) h = (_, _, _, c, (_, _, _, v, (_, _, _, p, (_, _, a, h))))

  procedures_go : (cs : List Constant) (vs : List (List ℕ)) (qs : Trees) (o : Around) (T : Tree) {s s' : Scope} {ps : Trees} {ts r : List Word} → Procedures n s ts ps s' r → StatementOf n (parts cs vs qs s) ps s' o T r → Goes (Assigned s) (procedures (parts cs vs qs s) o) T ts
  procedures_go cs vs qs o T (no_more_procedures {s = s} {r = r}) (a, r', g, h) =
      no_procedure (parts cs vs qs s) o T r (statement_goes (InBlock (parts cs vs qs s) o) T g (subst (λ ps. FollowsBlock n o T (block cs vs ps a) r') (joined_none qs) h))
  procedures_go cs vs qs o T (next_procedure {s = s} {x = x} {b = b} {more = more} keeps d m) (a, r', g, h) =
      (tt, (_, refl, comes_with (keeps, comes (block_begun (Within x (with_name (parts cs vs qs s) x) o) T d (comes (_, _, _, m, (a, r', g, subst (λ ps. FollowsBlock n o T (block cs vs ps a) r') (sym (joined_one qs (procedure x b) more)) h)))))))

  no_var : (cs : List Constant) (s : Scope) (o : Around) (T : Tree) (ts : List Word) → Goes (Assigned s) (procedures (parts_behind cs [] s) o) T ts → Goes (Assigned s) (variables cs s o) T ts
  unfolding is_ender
  no_var cs s o T [] g = g
  no_var cs s o T (VarKey ∷ r) g = absurd (leads_nowhere _ T r (statement_goes_on (InBlock (parts_behind cs [] s) o) empty VarKey refl) g.1)
  no_var cs s o T (w ∷ r) g = g

  variables_go : (cs : List Constant) (o : Around) (T : Tree) {s s' : Scope} {vs : List (List ℕ)} {ts r : List Word} → Variables n s ts vs s' r → InProcedures n (parts_behind cs vs s') o T r → Goes (Assigned s) (variables cs s o) T ts
  variables_go cs o T (no_variable {s = s} {r = r}) (ps, s', r', m, h) = no_var cs s o T r (procedures_go cs [] none o T m h)
  variables_go cs o T (first_variable keeps m) h = (tt, (_, refl, (_, _, _, next_variable keeps m, h)))

  no_const : (s : Scope) (o : Around) (T : Tree) (ts : List Word) → Goes (Assigned s) (variables [] s o) T ts → Goes (Assigned s) (constants s o) T ts
  unfolding is_ender
  no_const s o T [] g = g
  no_const s o T (ConstKey ∷ r) g = absurd (leads_nowhere _ T r (statement_goes_on (InBlock (parts_behind [] [] s) o) empty ConstKey refl) g.1)
  no_const s o T (w ∷ r) g = g

  constants_go : (o : Around) (T : Tree) {s s' : Scope} {cs : List Constant} {ts r : List Word} → Constants n s ts cs s' r → InVariables n cs s' o T r → Goes (Assigned s) (constants s o) T ts
  constants_go o T (no_constant {s = s} {r = r}) (vs, s', r', m, h) = no_const s o T r (variables_go [] o T m h)
  constants_go o T (first_constant keeps m) h = (tt, (_, refl, (_, _, _, next_constant keeps m, h)))

  more_constants_go : (cs : List Constant) (o : Around) (T : Tree) {s s' : Scope} {more : List Constant} {ts r : List Word} → MoreConstants n s ts more s' r → InVariables n (cs ++ more) s' o T r → Goes None (step (AfterConstant cs s o)) T ts
  more_constants_go cs o T (no_more_constants {s = s} {r = r}) h = (tt, (_, refl, subst (λ x. InVariables n x s o T r) (append_none cs) h))
  more_constants_go cs o T (next_constant keeps m) h = (tt, (_, refl, (_, _, _, next_constant keeps m, h)))

  constant_goes : (cs : List Constant) (o : Around) (T : Tree) {s s' : Scope} {more : List Constant} {ts r : List Word} → MoreConstants n s (Comma ∷ ts) more s' r → InVariables n (cs ++ more) s' o T r → Goes (Some (Declaring, s)) (step (BeforeConstant cs s o)) T ts
  constant_goes cs o T (next_constant {s' = s'} {x = x} {v = v} {r = r} {more = more} keeps m) h =
      (keeps, (_, refl, comes (comes_with (more, s', r, m, subst (λ y. InVariables n y s' o T r) (sym (append_assoc cs (record { name = x; value = v } ∷ []) more)) h))))

  equal_goes : (cs : List Constant) (x : List ℕ) (s : Scope) (o : Around) (T : Tree) {ts : List Word} → Completes n (BeforeEqual cs x s o) T ts → Goes None (step (BeforeEqual cs x s o)) T ts
  equal_goes cs x s o T (comes h) = (tt, (_, refl, h))

  number_goes : (cs : List Constant) (x : List ℕ) (s : Scope) (o : Around) (T : Tree) {ts : List Word} → Completes n (BeforeNumber cs x s o) T ts → Goes None (step (BeforeNumber cs x s o)) T ts
  number_goes cs x s o T (comes_with h) = (tt, (_, refl, h))

  more_variables_go : (cs : List Constant) (vs : List (List ℕ)) (o : Around) (T : Tree) {s s' : Scope} {more : List (List ℕ)} {ts r : List Word} → MoreVariables n s ts more s' r → InProcedures n (parts_behind cs (vs ++ more) s') o T r → Goes None (step (AfterVariable cs vs s o)) T ts
  more_variables_go cs vs o T (no_more_variables {s = s} {r = r}) h = (tt, (_, refl, subst (λ x. InProcedures n (parts_behind cs x s) o T r) (append_none vs) h))
  more_variables_go cs vs o T (next_variable keeps m) h = (tt, (_, refl, (_, _, _, next_variable keeps m, h)))

  variable_goes : (cs : List Constant) (vs : List (List ℕ)) (o : Around) (T : Tree) {s s' : Scope} {more : List (List ℕ)} {ts r : List Word} → MoreVariables n s (Comma ∷ ts) more s' r → InProcedures n (parts_behind cs (vs ++ more) s') o T r → Goes (Some (Declaring, s)) (step (BeforeVariable cs vs s o)) T ts
  variable_goes cs vs o T (next_variable {s' = s'} {x = x} {r = r} {more = more} keeps m) h =
      (keeps, (_, refl, (more, s', r, m, subst (λ y. InProcedures n (parts_behind cs y s') o T r) (sym (append_assoc vs (x ∷ []) more)) h)))

  procedure_goes : (p : Parts) (o : Around) (T : Tree) {ts : List Word} → Completes n (BeforeProcedure p o) T ts → Goes (Some (Declaring, p.scope)) (step (BeforeProcedure p o)) T ts
  procedure_goes p o T (comes_with (keeps, h)) = (keeps, (_, refl, h))

  semicolon_goes : (x : List ℕ) (p : Parts) (o : Around) (T : Tree) {ts : List Word} → Completes n (AfterProcedure x p o) T ts → Goes None (step (AfterProcedure x p o)) T ts
  semicolon_goes x p o T (comes h) = (tt, (_, refl, h))

  -- A program is at its end where the machine says so.
  abbrev pub Ends : State → Tree → List Word → Type 0
  Ends s T [] = final s ≡ Some T
  Ends s T (w ∷ r) = Keeps n (broken s w) × Leads (step s w) T r

  ends_of : (s : State) (T : Tree) (ts : List Word) → Goes (role_next s) (step s) T ts → Ends s T ts
  ends_of s T [] h = absurd h
  ends_of s T (w ∷ r) h = h

  finished_ends : (b T : Tree) {ts : List Word} → AtEnd (b ≡ T) ts → Ends (Finished b) T ts
  finished_ends b T (at_the_end e) = ap (λ x. Some x) e

  pub forward : (s : State) (T : Tree) (ts : List Word) → Completes n s T ts → Ends s T ts
  forward (BlockStart s o) T ts (cs, s', r, m, h) = ends_of (BlockStart s o) T ts (constants_go o T m h)
  forward (BeforeConstant cs s o) T ts (more, s', r, m, h) = ends_of (BeforeConstant cs s o) T ts (constant_goes cs o T m h)
  forward (BeforeEqual cs x s o) T ts h = ends_of (BeforeEqual cs x s o) T ts (equal_goes cs x s o T h)
  forward (BeforeNumber cs x s o) T ts h = ends_of (BeforeNumber cs x s o) T ts (number_goes cs x s o T h)
  forward (AfterConstant cs s o) T ts (more, s', r, m, h) = ends_of (AfterConstant cs s o) T ts (more_constants_go cs o T m h)
  forward (AfterConstants cs s o) T ts (vs, s', r, m, h) = ends_of (AfterConstants cs s o) T ts (variables_go cs o T m h)
  forward (BeforeVariable cs vs s o) T ts (more, s', r, m, h) = ends_of (BeforeVariable cs vs s o) T ts (variable_goes cs vs o T m h)
  forward (AfterVariable cs vs s o) T ts (more, s', r, m, h) = ends_of (AfterVariable cs vs s o) T ts (more_variables_go cs vs o T m h)
  forward (AfterVariables p o) T ts (ps, s', r, m, h) = ends_of (AfterVariables p o) T ts (procedures_go p.constants p.variables p.procedures o T m h)
  forward (BeforeProcedure p o) T ts h = ends_of (BeforeProcedure p o) T ts (procedure_goes p o T h)
  forward (AfterProcedure x p o) T ts h = ends_of (AfterProcedure x p o) T ts (semicolon_goes x p o T h)
  forward (BeforeStatement h) T ts (a, r, m, g) = ends_of (BeforeStatement h) T ts (statement_goes h T m g)
  forward (BeforeBecomes x h) T ts g = ends_of (BeforeBecomes x h) T ts (becomes_goes x h T g)
  forward (BeforeCallee h) T ts g = ends_of (BeforeCallee h) T ts (callee_goes h T g)
  forward (AfterStatement a h) T ts g = ends_of (AfterStatement a h) T ts (statement_end_goes h a T ts g)
  forward (BeforeCondition k h) T ts (c, r, m, g) = ends_of (BeforeCondition k h) T ts (condition_goes k h T m g)
  forward (BeforeExpression k) T ts (e, r, m, g) = ends_of (BeforeExpression k) T ts (expression_goes k T m g)
  forward (Wants p k) T ts h = ends_of (Wants p k) T ts (before_operand_goes p k T ts h)
  forward (Has p f k) T ts h = ends_of (Has p f k) T ts (has_goes p f k T ts h)
  forward (Finished b) T ts h = finished_ends b T h

  -- What is spelled is read, as this one tree.
  pub complete : (ts : List Word) (s : State) (T : Tree) → Completes n s T ts → run_within n s ts ≡ Some T
  complete [] s T h = forward s T [] h
  complete (w ∷ ts) s T h =
      let g : Ends s T (w ∷ ts) = forward s T (w ∷ ts) h in
      ap (λ o. followed o (λ s'. run_within n s' ts)) (keeps_kept n (broken s w) (step s w) g.0 ∙ g.1.1) ∙ complete ts g.1.0 T g.1.2
