-- What the machine reads is spelled.
use Rattle.std.proofs.Common.{◌≡◌, ℕ, Bool, true, false, List, [], ◌∷◌, ◌++◌, Option, Some, None, refl, sym, ap, ◌∙◌, subst, append_assoc}
use Rattle.std.specs.Prelude.{IsTrue}
use Rattle.pd_sl_spell.specs.Words.{Comparing, Adding, Multiplying, Word, Name, Number, Text, Or, And, Compares, Adds, Multiplies, Becomes, Open, Close, OpenBlock, CloseBlock, Comma, Semicolon, FunctionKey, WhileKey, IfKey, ElseKey, ReturnKey, BreakKey, ContinueKey, DebuggerKey, Tree, name, parens, call, assign, while, conditional, conditional_else, return_nothing, return, break, continue, debugger, block, function, Trees, none, also, with_last, expression_statement}
use Rattle.pd_sl_spell.specs.Grammar.{NoOperator, Expression, of_logic_terms, no_or, or, LogicTerm, of_logic_factors, no_and, and, LogicFactor, of_arithmetic, no_comparison, comparison, Arithmetic, of_terms, no_sum, adding, Term, of_factors, no_product, multiplying, a_name, an_assignment, a_text, a_number, in_parens, no_call, calling, no_argument, first_argument, no_more_arguments, next_argument, braces, no_more_statements, next_statement, Statement, a_while, an_if, a_bare_return, a_return, a_break, a_continue, a_debugger, an_expression, no_else, an_else, no_more_parameters, next_parameter, Parameters, no_parameter, first_parameter, a_function, no_more_functions, next_function, Program, first_function}
use Rattle.pd_sl_spell.specs.Machine.{Waiting, nothing, compared_of, term_of, arithmetic_of, logic_factor_of, logic_term_of, whole, OfWhile, OfThen, OfElse, Keyword, ForWhile, ForIf, head_of, Around, Body, Within, in_loop, Stack, AsStatement, AsValue, AsCondition, InParens, InArguments, InAssignment, State, Start, Between, AfterFunctionKey, AfterFunctionName, FirstParameter, AfterParameter, AfterComma, BeforeBody, Inside, AfterThen, AfterKey, AfterReturn, BeforeBlock, BeforeSemicolon, Wants, MayWant, Named, Callable, Has, ends, comparing, after_operand, after_callable, operand, closed_block, in_a_loop, inside, step, final, followed, run}
use Rattle.pd_sl_spell.proofs.Completes.{Cont, Comes, comes, AfterLogicTerm, AfterLogicFactor, AfterSide, AfterArithmetic, AfterTerm, AfterFactor, AfterCallee, BeforeOperand, Closed, AfterStatement, InBlock, Follows, BodyComes, Completes}
use Rattle.pd_sl_spell.proofs.Forward.{joined_one, joined_none}

none_is_not_some : {A : Type 0} {a : A} → None ≡ Some a → ⊥
none_is_not_some h = cc

some_same : {A : Type 0} {a b : A} → Some a ≡ Some b → a ≡ b
some_same h = cc

-- One step back.
abbrev pub Back : Option State → Trees → List Word → Type 0 → Type 0
Back None T r C = Unit {0}
Back (Some s) T r C = Completes s T r → C

back_map : (o : Option State) (T : Trees) (r : List Word) (C D : Type 0) → (C → D) → Back o T r C → Back o T r D
back_map None T r C D g h = tt
back_map (Some s) T r C D g h = λ c. g (h c)

-- What has begun with an operand is a part of an expression.
term_from : (p : Waiting) (K : Cont) (ts : List Word) → BeforeOperand (record { or = p.or; and = p.and; compare = p.compare; sum = p.sum; product = None }) K ts → (a : Tree) × (r : List Word) × Term ts a r × AfterTerm p K a r
term_from p K ts (f, r, g, (a, r', m, h)) = (a, r', of_factors g m, h)

arithmetic_from : (p : Waiting) (K : Cont) (ts : List Word) → BeforeOperand (record { or = p.or; and = p.and; compare = p.compare; sum = None; product = None }) K ts → (a : Tree) × (r : List Word) × Arithmetic ts a r × AfterArithmetic p K a r
arithmetic_from p K ts b =
    let t = term_from (record { or = p.or; and = p.and; compare = p.compare; sum = None; product = None }) K ts b in
    (t.3.0, t.3.1, of_terms t.2 t.3.2, t.3.3)

logic_factor_from : (p : Waiting) (K : Cont) (ts : List Word) → BeforeOperand (record { or = p.or; and = p.and; compare = None; sum = None; product = None }) K ts → (a : Tree) × (r : List Word) × LogicFactor ts a r × AfterLogicFactor p K a r
logic_factor_from p K ts b =
    let t = arithmetic_from (record { or = p.or; and = p.and; compare = None; sum = None; product = None }) K ts b in
    (t.3.0, t.3.1, of_arithmetic t.2 t.3.2, t.3.3)

logic_term_from : (p : Waiting) (K : Cont) (ts : List Word) → BeforeOperand (record { or = p.or; and = None; compare = None; sum = None; product = None }) K ts → (a : Tree) × (r : List Word) × LogicTerm ts a r × AfterLogicTerm p K a r
logic_term_from p K ts b =
    let t = logic_factor_from (record { or = p.or; and = None; compare = None; sum = None; product = None }) K ts b in
    (t.3.0, t.3.1, of_logic_factors t.2 t.3.2, t.3.3)

expression_from : (K : Cont) (ts : List Word) → BeforeOperand nothing K ts → (a : Tree) × (r : List Word) × Expression ts a r × K a r
expression_from K ts b =
    let t = logic_term_from nothing K ts b in
    (t.3.0, t.3.1, of_logic_terms t.2 t.3.2, t.3.3)

-- What may follow the whole expression may follow each part that is its last.
logic_term_ended : (p : Waiting) (K : Cont) (f : Tree) (ts : List Word) → K (whole p f) ts → AfterLogicTerm p K (logic_term_of p f) ts
logic_term_ended p K f ts h = (_, _, no_or, h)

logic_factor_ended : (p : Waiting) (K : Cont) (f : Tree) (ts : List Word) → AfterLogicTerm p K (logic_term_of p f) ts → AfterLogicFactor p K (logic_factor_of p f) ts
logic_factor_ended p K f ts h = (_, _, no_and, h)

arithmetic_ended : (p : Waiting) (K : Cont) (f : Tree) (ts : List Word) → AfterLogicFactor p K (logic_factor_of p f) ts → AfterArithmetic p K (arithmetic_of p f) ts
arithmetic_ended p K f ts h = go p.compare refl
  where
    go : (c : Option (Comparing × Tree)) → p.compare ≡ c → AfterSide c (AfterLogicFactor p K) (arithmetic_of p f) ts
    go None e = (_, _, no_comparison, subst (λ c. AfterLogicFactor p K (compared_of c (arithmetic_of p f)) ts) e h)
    go (Some c) e = subst (λ c. AfterLogicFactor p K (compared_of c (arithmetic_of p f)) ts) e h

term_ended : (p : Waiting) (K : Cont) (f : Tree) (ts : List Word) → AfterArithmetic p K (arithmetic_of p f) ts → AfterTerm p K (term_of p f) ts
term_ended p K f ts h = (_, _, no_sum, h)

factor_ended : (p : Waiting) (K : Cont) (f : Tree) (ts : List Word) → AfterTerm p K (term_of p f) ts → AfterFactor p K f ts
factor_ended p K f ts h = (_, _, no_product, h)

ended : (p : Waiting) (K : Cont) (f : Tree) (ts : List Word) → K (whole p f) ts → AfterFactor p K f ts
ended p K f ts h = factor_ended p K f ts (term_ended p K f ts (arithmetic_ended p K f ts (logic_factor_ended p K f ts (logic_term_ended p K f ts h))))

added_back : (ss : Trees) (o : Around) (T : Trees) (s : Tree) (r : List Word) → InBlock (with_last ss s) o T r → AfterStatement ss o T s r
added_back ss o T s r (more, r', h, c) = (more, r', h, subst (λ x. Closed o x T r') (joined_one ss s more) c)

arguments_back : (q : Waiting) (c : Tree) (es : Trees) (k : Stack) (T : Trees) (e : Tree) (r : List Word) → BeforeOperand nothing (Follows (InArguments q c (with_last es e) k) T) r → Follows (InArguments q c es k) T e (Comma ∷ r)
arguments_back q c es k T e r b =
    let t = expression_from (Follows (InArguments q c (with_last es e) k) T) r b in
    go t.0 t.1 t.2 t.3
  where
    go : (a : Tree) (r' : List Word) → Expression r a r' → Follows (InArguments q c (with_last es e) k) T a r' → Follows (InArguments q c es k) T e (Comma ∷ r)
    go a r' x (more, r'', m, h) = (also a more, r'', next_argument x m, subst (λ y. AfterCallee q (Follows k T) (call c y) r'') (joined_one es e (also a more)) h)

-- A word that is no operator ends the expression, and the assignments whose right side it is.
ends_back : (k : Stack) (e : Tree) (T : Trees) (w : Word) (r : List Word) → NoOperator (w ∷ r) → Back (ends k e w) T r (Follows k T e (w ∷ r))
ends_back (AsStatement ss o) e T Semicolon r clear = λ h. comes (added_back ss o T (expression_statement e) r h)
ends_back (AsStatement ss o) e T _ r clear = tt
ends_back (AsValue ss o) e T Semicolon r clear = λ h. comes (added_back ss o T (return e) r h)
ends_back (AsValue ss o) e T _ r clear = tt
ends_back (AsCondition w ss o) e T Close r clear = λ h. comes h
ends_back (AsCondition w ss o) e T _ r clear = tt
ends_back (InParens p k) e T Close r clear = λ h. comes h
ends_back (InParens p k) e T _ r clear = tt
ends_back (InArguments p c es k) e T Close r clear = λ h. (none, r, no_more_arguments, h)
ends_back (InArguments p c es k) e T Comma r clear = arguments_back p c es k T e r
ends_back (InArguments p c es k) e T _ r clear = tt
ends_back (InAssignment p x k) e T w r clear =
    back_map (ends k (whole p (assign x e)) w) T r _ _ (λ h. (clear, ended p (Follows k T) (assign x e) (w ∷ r) h)) (ends_back k (whole p (assign x e)) T w r clear)

comparing_back : (p : Waiting) (o : Comparing) (f : Tree) (k : Stack) (T : Trees) (r : List Word) (c : Option (Comparing × Tree)) → p.compare ≡ c → Back (comparing p c o (arithmetic_of p f) k) T r (AfterFactor p (Follows k T) f (Compares o ∷ r))
comparing_back p o f k T r (Some c) e = tt
comparing_back p o f k T r None e = λ b.
    let t = arithmetic_from (record { or = p.or; and = p.and; compare = Some (o, arithmetic_of p f); sum = None; product = None }) (Follows k T) r b in
    let h : AfterSide None (AfterLogicFactor p (Follows k T)) (arithmetic_of p f) (Compares o ∷ r) = (_, _, comparison t.2, t.3) in
    factor_ended p (Follows k T) f (Compares o ∷ r) (term_ended p (Follows k T) f (Compares o ∷ r)
    (subst (λ c. AfterSide c (AfterLogicFactor p (Follows k T)) (arithmetic_of p f) (Compares o ∷ r)) (sym e) h))

or_back : (p : Waiting) (f : Tree) (k : Stack) (T : Trees) (r : List Word) → BeforeOperand (record { or = Some (whole p f); and = None; compare = None; sum = None; product = None }) (Follows k T) r → AfterFactor p (Follows k T) f (Or ∷ r)
or_back p f k T r b =
    let t = logic_term_from (record { or = Some (whole p f); and = None; compare = None; sum = None; product = None }) (Follows k T) r b in
    let h : AfterLogicTerm p (Follows k T) (logic_term_of p f) (Or ∷ r) = (_, _, or t.2 t.3.2, t.3.3) in
    factor_ended p (Follows k T) f (Or ∷ r) (term_ended p (Follows k T) f (Or ∷ r) (arithmetic_ended p (Follows k T) f (Or ∷ r) (logic_factor_ended p (Follows k T) f (Or ∷ r) h)))

and_back : (p : Waiting) (f : Tree) (k : Stack) (T : Trees) (r : List Word) → BeforeOperand (record { or = p.or; and = Some (logic_term_of p f); compare = None; sum = None; product = None }) (Follows k T) r → AfterFactor p (Follows k T) f (And ∷ r)
and_back p f k T r b =
    let t = logic_factor_from (record { or = p.or; and = Some (logic_term_of p f); compare = None; sum = None; product = None }) (Follows k T) r b in
    let h : AfterLogicFactor p (Follows k T) (logic_factor_of p f) (And ∷ r) = (_, _, and t.2 t.3.2, t.3.3) in
    factor_ended p (Follows k T) f (And ∷ r) (term_ended p (Follows k T) f (And ∷ r) (arithmetic_ended p (Follows k T) f (And ∷ r) h))

sum_back : (p : Waiting) (o : Adding) (f : Tree) (k : Stack) (T : Trees) (r : List Word) → BeforeOperand (record { or = p.or; and = p.and; compare = p.compare; sum = Some (o, arithmetic_of p f); product = None }) (Follows k T) r → AfterFactor p (Follows k T) f (Adds o ∷ r)
sum_back p o f k T r b =
    let t = term_from (record { or = p.or; and = p.and; compare = p.compare; sum = Some (o, arithmetic_of p f); product = None }) (Follows k T) r b in
    let h : AfterTerm p (Follows k T) (term_of p f) (Adds o ∷ r) = (_, _, adding t.2 t.3.2, t.3.3) in
    factor_ended p (Follows k T) f (Adds o ∷ r) h

product_back : (p : Waiting) (o : Multiplying) (f : Tree) (k : Stack) (T : Trees) (r : List Word) → BeforeOperand (record { or = p.or; and = p.and; compare = p.compare; sum = p.sum; product = Some (o, term_of p f) }) (Follows k T) r → AfterFactor p (Follows k T) f (Multiplies o ∷ r)
product_back p o f k T r (g, r', x, (a, r'', m, h)) = (a, r'', multiplying x m, h)

after_back : (p : Waiting) (f : Tree) (k : Stack) (T : Trees) (w : Word) (r : List Word) → Back (after_operand p f k w) T r (AfterFactor p (Follows k T) f (w ∷ r))
after_back p f k T Or r = or_back p f k T r
after_back p f k T And r = and_back p f k T r
after_back p f k T (Compares o) r = comparing_back p o f k T r p.compare refl
after_back p f k T (Adds o) r = sum_back p o f k T r
after_back p f k T (Multiplies o) r = product_back p o f k T r
after_back p f k T w r = back_map (ends k (whole p f) w) T r _ _ (ended p (Follows k T) f (w ∷ r)) (ends_back k (whole p f) T w r tt)

uncalled : (p : Waiting) (c : Tree) (k : Stack) (T : Trees) (ts : List Word) → AfterFactor p (Follows k T) c ts → AfterCallee p (Follows k T) c ts
uncalled p c k T ts h = (c, ts, no_call, h)

callable_back : (p : Waiting) (c : Tree) (k : Stack) (T : Trees) (w : Word) (r : List Word) → Back (after_callable p c k w) T r (AfterCallee p (Follows k T) c (w ∷ r))
callable_back p c k T Open r = λ (es, r', a, (f, r'', m, h)). (f, r'', calling a m, h)
callable_back p c k T w r = back_map (after_operand p c k w) T r _ _ (uncalled p c k T (w ∷ r)) (after_back p c k T w r)

as_name : (p : Waiting) (x : List ℕ) (k : Stack) (T : Trees) (ts : List Word) → AfterCallee p (Follows k T) (name x) ts → Completes (Named p x k) T ts
as_name p x k T ts (f, r, m, h) = (f, r, a_name m, h)

assignment_back : (p : Waiting) (x : List ℕ) (k : Stack) (T : Trees) (r : List Word) → BeforeOperand nothing (Follows (InAssignment p x k) T) r → Completes (Named p x k) T (Becomes ∷ r)
assignment_back p x k T r b =
    let t = expression_from (Follows (InAssignment p x k) T) r b in
    (_, _, an_assignment t.2 t.3.0, t.3.1)

parens_back : (p : Waiting) (k : Stack) (T : Trees) {e : Tree} {ts r : List Word} → Expression ts e r → Comes Close (AfterFactor p (Follows k T) (parens e)) r → BeforeOperand p (Follows k T) (Open ∷ ts)
parens_back p k T x (comes h) = (_, _, in_parens x, h)

operand_back : (p : Waiting) (k : Stack) (T : Trees) (w : Word) (r : List Word) → Back (operand p k w) T r (BeforeOperand p (Follows k T) (w ∷ r))
operand_back p k T (Name x) r = λ h. h
operand_back p k T (Number n) r = λ h. (_, _, a_number, h)
operand_back p k T (Text s) r = λ h. (_, _, a_text, h)
operand_back p k T Open r = λ b.
    let t = expression_from (Follows (InParens p k) T) r b in
    parens_back p k T t.2 t.3
operand_back p k T _ r = tt

-- the first argument
argument_from : (p : Waiting) (c : Tree) (k : Stack) (T : Trees) (ts : List Word) → BeforeOperand nothing (Follows (InArguments p c none k) T) ts → Completes (MayWant p c k) T ts
argument_from p c k T ts b =
    let t = expression_from (Follows (InArguments p c none k) T) ts b in
    go t.0 t.1 t.2 t.3
  where
    go : (a : Tree) (r : List Word) → Expression ts a r → Follows (InArguments p c none k) T a r → Completes (MayWant p c k) T ts
    go a r x (more, r', m, h) = (also a more, r', first_argument x m, h)

-- Statements.
statement_back : (ss : Trees) (o : Around) (T : Trees) {s : Tree} {ts r : List Word} → Statement (in_loop o) ts s r → AfterStatement ss o T s r → InBlock ss o T ts
statement_back ss o T s (more, r', m, h) = (_, _, next_statement s m, h)

expression_back : (ss : Trees) (o : Around) (T : Trees) {e : Tree} {ts r : List Word} → Expression ts e r → Comes Semicolon (AfterStatement ss o T (expression_statement e)) r → InBlock ss o T ts
expression_back ss o T x (comes h) = statement_back ss o T (an_expression x) h

expression_in_block : (ss : Trees) (o : Around) (T : Trees) (ts : List Word) → BeforeOperand nothing (Follows (AsStatement ss o) T) ts → InBlock ss o T ts
expression_in_block ss o T ts b =
    let t = expression_from (Follows (AsStatement ss o) T) ts b in
    expression_back ss o T t.2 t.3

block_closed_back : (o : Around) (ss : Trees) (T : Trees) (r : List Word) → Completes (closed_block o ss) T r → Closed o ss T r
block_closed_back (Body fs x xs) ss T r (more, m, e) = (more, m, sym (joined_one fs (function x xs (block ss)) more) ∙ e)
block_closed_back (Within (OfWhile c) before o) ss T r h = added_back before o T (while c (block ss)) r h
block_closed_back (Within (OfThen c) before o) ss T r h = h
block_closed_back (Within (OfElse c b) before o) ss T r h = added_back before o T (conditional_else c b (block ss)) r h

loop_back : (l : Bool) (s : State) (T : Trees) (r : List Word) (C : Type 0) → (IsTrue l → Completes s T r → C) → Back (in_a_loop l s) T r C
loop_back true s T r C h = h refl
loop_back false s T r C h = tt

break_back : (ss : Trees) (o : Around) (T : Trees) {r : List Word} → IsTrue (in_loop o) → Comes Semicolon (AfterStatement ss o T break) r → InBlock ss o T (BreakKey ∷ r)
break_back ss o T l (comes h) = statement_back ss o T (a_break l) h

continue_back : (ss : Trees) (o : Around) (T : Trees) {r : List Word} → IsTrue (in_loop o) → Comes Semicolon (AfterStatement ss o T continue) r → InBlock ss o T (ContinueKey ∷ r)
continue_back ss o T l (comes h) = statement_back ss o T (a_continue l) h

debugger_back : (ss : Trees) (o : Around) (T : Trees) {r : List Word} → Comes Semicolon (AfterStatement ss o T debugger) r → InBlock ss o T (DebuggerKey ∷ r)
debugger_back ss o T (comes h) = statement_back ss o T a_debugger h

inside_back : (ss : Trees) (o : Around) (T : Trees) (w : Word) (r : List Word) → Back (inside ss o w) T r (InBlock ss o T (w ∷ r))
inside_back ss o T CloseBlock r = λ h. (none, r, no_more_statements, subst (λ x. Closed o x T r) (sym (joined_none ss)) (block_closed_back o ss T r h))
inside_back ss o T WhileKey r = λ (s, r', g, h). statement_back ss o T g h
inside_back ss o T IfKey r = λ (s, r', g, h). statement_back ss o T g h
inside_back ss o T ReturnKey r = λ (s, r', g, h). statement_back ss o T g h
inside_back ss o T BreakKey r = loop_back (in_loop o) (BeforeSemicolon break ss o) T r _ (λ l h. break_back ss o T l h)
inside_back ss o T ContinueKey r = loop_back (in_loop o) (BeforeSemicolon continue ss o) T r _ (λ l h. continue_back ss o T l h)
inside_back ss o T DebuggerKey r = λ h. debugger_back ss o T h
inside_back ss o T w r = back_map (operand nothing (AsStatement ss o) w) T r _ _ (expression_in_block ss o T (w ∷ r)) (operand_back nothing (AsStatement ss o) T w r)

then_back : (c b : Tree) (ss : Trees) (o : Around) (T : Trees) (ts : List Word) → InBlock (with_last ss (conditional c b)) o T ts → Completes (AfterThen c b ss o) T ts
then_back c b ss o T ts h = (_, _, no_else, added_back ss o T (conditional c b) ts h)

else_back : (c b : Tree) (ss : Trees) (o : Around) (T : Trees) {ts : List Word} → Comes OpenBlock (InBlock none (Within (OfElse c b) ss o) T) ts → Completes (AfterThen c b ss o) T (ElseKey ∷ ts)
else_back c b ss o T (comes (bs, r, m, h)) = (_, _, an_else (braces m), h)

while_body : (ss : Trees) (o : Around) (T : Trees) {e : Tree} {ts r : List Word} → Expression ts e (Close ∷ r) → Comes OpenBlock (InBlock none (Within (OfWhile e) ss o) T) r → Completes (AfterKey ForWhile ss o) T (Open ∷ ts)
while_body ss o T x (comes (bs, r, m, h)) = (_, _, a_while x (braces m), h)

then_body : (ss : Trees) (o : Around) (T : Trees) {e : Tree} {ts r : List Word} → Expression ts e (Close ∷ r) → Comes OpenBlock (InBlock none (Within (OfThen e) ss o) T) r → Completes (AfterKey ForIf ss o) T (Open ∷ ts)
then_body ss o T x (comes (bs, r, m, (s, r', me, h))) = (_, _, an_if x (braces m) me, h)

condition_body : (w : Keyword) (ss : Trees) (o : Around) (T : Trees) {e : Tree} {ts r : List Word} → Expression ts e r → Comes Close (Comes OpenBlock (InBlock none (Within (head_of w e) ss o) T)) r → Completes (AfterKey w ss o) T (Open ∷ ts)
condition_body ForWhile ss o T x (comes h) = while_body ss o T x h
condition_body ForIf ss o T x (comes h) = then_body ss o T x h

condition_back : (w : Keyword) (ss : Trees) (o : Around) (T : Trees) (ts : List Word) → BeforeOperand nothing (Follows (AsCondition w ss o) T) ts → Completes (AfterKey w ss o) T (Open ∷ ts)
condition_back w ss o T ts b =
    let t = expression_from (Follows (AsCondition w ss o) T) ts b in
    condition_body w ss o T t.2 t.3

value_back : (ss : Trees) (o : Around) (T : Trees) {e : Tree} {ts r : List Word} → Expression ts e r → Comes Semicolon (AfterStatement ss o T (return e)) r → Completes (AfterReturn ss o) T ts
value_back ss o T x (comes h) = (_, _, a_return x, h)

value_in_return : (ss : Trees) (o : Around) (T : Trees) (ts : List Word) → BeforeOperand nothing (Follows (AsValue ss o) T) ts → Completes (AfterReturn ss o) T ts
value_in_return ss o T ts b =
    let t = expression_from (Follows (AsValue ss o) T) ts b in
    value_back ss o T t.2 t.3

-- Functions.
head_back : (fs : Trees) (x : List ℕ) (T : Trees) {xs : List (List ℕ)} {ts r : List Word} → Parameters ts xs r → BodyComes fs x T xs r → Completes (AfterFunctionName fs x) T (Open ∷ ts)
head_back fs x T ps (comes (bs, r, m, h)) = (_, _, a_function ps (braces m), h)

comma_back : (fs : Trees) (x y : List ℕ) (xs : List (List ℕ)) (T : Trees) (r : List Word) → Completes (AfterParameter fs x (xs ++ y ∷ [])) T r → Completes (AfterComma fs x xs) T (Name y ∷ r)
comma_back fs x y xs T r (ys, r', m, h) = (y ∷ ys, r', next_parameter m, subst (λ zs. BodyComes fs x T zs r') (append_assoc xs (y ∷ []) ys) h)

start_back : (T : Trees) (r : List Word) → Completes (AfterFunctionKey none) T r → Program (FunctionKey ∷ r) T
start_back T r (f, r', g, (more, m, e)) = subst (λ x. Program (FunctionKey ∷ r) x) e (first_function g m)

append_none : (xs : List (List ℕ)) → xs ++ [] ≡ xs
append_none [] = refl
append_none (x ∷ xs) = ap (λ ys. x ∷ ys) (append_none xs)

pub backward : (s : State) (T : Trees) (w : Word) (r : List Word) → Back (step s w) T r (Completes s T (w ∷ r))
backward Start T FunctionKey r = start_back T r
backward (Between fs) T FunctionKey r = λ (f, r', g, (more, m, e)). (also f more, next_function g m, e)
backward (AfterFunctionKey fs) T (Name x) r = λ h. h
backward (AfterFunctionName fs x) T Open r = λ (xs, r', ps, h). head_back fs x T ps h
backward (FirstParameter fs x) T Close r = λ h. ([], r, no_parameter, h)
backward (FirstParameter fs x) T (Name y) r = λ (ys, r', m, h). (y ∷ ys, r', first_parameter m, h)
backward (AfterParameter fs x xs) T Close r = λ h. ([], r, no_more_parameters, subst (λ ys. BodyComes fs x T ys r) (sym (append_none xs)) h)
backward (AfterParameter fs x xs) T Comma r = λ h. h
backward (AfterComma fs x xs) T (Name y) r = comma_back fs x y xs T r
backward (BeforeBody fs x xs) T OpenBlock r = λ h. comes h
backward (Inside ss o) T w r = inside_back ss o T w r
backward (AfterThen c b ss o) T ElseKey r = λ h. else_back c b ss o T h
backward (AfterThen c b ss o) T w r = back_map (inside (with_last ss (conditional c b)) o w) T r _ _ (then_back c b ss o T (w ∷ r)) (inside_back (with_last ss (conditional c b)) o T w r)
backward (AfterKey w ss o) T Open r = condition_back w ss o T r
backward (AfterReturn ss o) T Semicolon r = λ h. (_, _, a_bare_return, added_back ss o T return_nothing r h)
backward (AfterReturn ss o) T w r = back_map (operand nothing (AsValue ss o) w) T r _ _ (value_in_return ss o T (w ∷ r)) (operand_back nothing (AsValue ss o) T w r)
backward (BeforeBlock h ss o) T OpenBlock r = λ g. comes g
backward (BeforeSemicolon s ss o) T Semicolon r = λ h. comes (added_back ss o T s r h)
backward (Wants p k) T w r = operand_back p k T w r
backward (MayWant p c k) T Close r = λ h. (none, r, no_argument, h)
backward (MayWant p c k) T w r = back_map (operand nothing (InArguments p c none k) w) T r _ _ (argument_from p c k T (w ∷ r)) (operand_back nothing (InArguments p c none k) T w r)
backward (Named p x k) T Becomes r = assignment_back p x k T r
backward (Named p x k) T w r = back_map (after_callable p (name x) k w) T r _ _ (as_name p x k T (w ∷ r)) (callable_back p (name x) k T w r)
backward (Callable p c k) T w r = callable_back p c k T w r
backward (Has p f k) T w r = after_back p f k T w r
backward _ T w r = tt

final_back : (s : State) (T : Trees) → final s ≡ Some T → Completes s T []
final_back (Between fs) T h = (none, no_more_functions, joined_none fs ∙ some_same h)
final_back _ T h = absurd (none_is_not_some h)

-- What is read is spelled.
pub sound : (ts : List Word) (s : State) (T : Trees) → run s ts ≡ Some T → Completes s T ts
sound [] s T h = final_back s T h
sound (w ∷ ts) s T h = go (step s w) (λ s'. sound ts s' T) (backward s T w ts) h
  where
    go : (o : Option State) → ((s' : State) → run s' ts ≡ Some T → Completes s' T ts) → Back o T ts (Completes s T (w ∷ ts)) → followed o (λ s'. run s' ts) ≡ Some T → Completes s T (w ∷ ts)
    go None ih b h = absurd (none_is_not_some h)
    go (Some s') ih b h = b (ih s' h)
