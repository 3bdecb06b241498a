-- The machine follows what is spelled.
use Rattle.std.proofs.Common.{◌≡◌, ℕ, List, [], ◌∷◌, ◌++◌, Option, Some, None, ◌⊎◌, inl, inr, refl, sym, ap, ◌∙◌, subst, append_assoc}
use Rattle.pd_sl_spell.specs.Words.{Comparing, Word, Name, Or, And, Compares, Adds, Multiplies, Becomes, Open, Close, OpenBlock, CloseBlock, Comma, Semicolon, FunctionKey, WhileKey, IfKey, ElseKey, ReturnKey, BreakKey, ContinueKey, DebuggerKey, Tree, name, parens, call, assign, while, conditional, conditional_else, return_nothing, return, break, continue, block, function, Trees, none, also, joined, with_last, expression_statement}
use Rattle.pd_sl_spell.specs.Grammar.{NoOperator, Expression, of_logic_terms, MoreLogicTerms, no_or, or, LogicTerm, of_logic_factors, MoreLogicFactors, no_and, and, LogicFactor, of_arithmetic, MayCompare, no_comparison, comparison, Arithmetic, of_terms, MoreTerms, no_sum, adding, Term, of_factors, MoreFactors, no_product, multiplying, Factor, a_name, an_assignment, a_text, a_number, in_parens, Calls, no_call, calling, Arguments, no_argument, first_argument, MoreArguments, no_more_arguments, next_argument, braces, Statements, no_more_statements, next_statement, Statement, a_while, an_if, a_bare_return, a_return, a_break, a_continue, a_debugger, an_expression, MayElse, no_else, an_else, MoreParameters, no_more_parameters, next_parameter, Parameters, no_parameter, first_parameter, AFunction, a_function, MoreFunctions, no_more_functions, next_function, Program, first_function}
use Rattle.pd_sl_spell.specs.Machine.{Waiting, nothing, compared_of, term_of, arithmetic_of, logic_factor_of, logic_term_of, whole, Head, OfWhile, OfThen, OfElse, Keyword, ForWhile, ForIf, head_of, Around, Body, Within, in_loop, Stack, AsStatement, AsValue, AsCondition, InParens, InArguments, InAssignment, State, Start, Between, AfterFunctionKey, AfterFunctionName, FirstParameter, AfterParameter, AfterComma, BeforeBody, Inside, AfterThen, AfterKey, AfterReturn, BeforeBlock, BeforeSemicolon, Wants, MayWant, Named, Callable, Has, ends, comparing, after_operand, after_callable, operand, closed_block, in_a_loop, inside, step, final, followed, run}
use Rattle.pd_sl_spell.proofs.Completes.{Cont, Comes, comes, ComesWith, comes_with, AfterLogicTerm, AfterLogicFactor, AfterSide, AfterArithmetic, AfterTerm, AfterFactor, AfterCallee, BeforeOperand, AfterFunction, Closed, AfterStatement, InBlock, Follows, BodyComes, Completes}

none_is_not_some : {A : Type 0} {a : A} → None ≡ Some a → ⊥
none_is_not_some h = cc

pub joined_one : (xs : Trees) (x : Tree) (ys : Trees) → joined (with_last xs x) ys ≡ joined xs (also x ys)
joined_one none x ys = refl
joined_one (also y xs) x ys = ap (also y) (joined_one xs x ys)

pub joined_none : (xs : Trees) → joined xs none ≡ xs
joined_none none = refl
joined_none (also x xs) = ap (also x) (joined_none xs)

-- What begins a part of an expression begins with an operand.
term_begun : (p : Waiting) (K : Cont) {ts r : List Word} {a : Tree} → Term ts a r → AfterTerm p K a r → BeforeOperand (record { or = p.or; and = p.and; compare = p.compare; sum = p.sum; product = None }) K ts
term_begun p K (of_factors f m) h = (_, _, f, (_, _, m, h))

arithmetic_begun : (p : Waiting) (K : Cont) {ts r : List Word} {a : Tree} → Arithmetic ts a r → AfterArithmetic p K a r → BeforeOperand (record { or = p.or; and = p.and; compare = p.compare; sum = None; product = None }) K ts
arithmetic_begun p K (of_terms t m) h = term_begun (record { or = p.or; and = p.and; compare = p.compare; sum = None; product = None }) K t (_, _, m, h)

logic_factor_begun : (p : Waiting) (K : Cont) {ts r : List Word} {a : Tree} → LogicFactor ts a r → AfterLogicFactor p K a r → BeforeOperand (record { or = p.or; and = p.and; compare = None; sum = None; product = None }) K ts
logic_factor_begun p K (of_arithmetic a m) h = arithmetic_begun (record { or = p.or; and = p.and; compare = None; sum = None; product = None }) K a (_, _, m, h)

logic_term_begun : (p : Waiting) (K : Cont) {ts r : List Word} {a : Tree} → LogicTerm ts a r → AfterLogicTerm p K a r → BeforeOperand (record { or = p.or; and = None; compare = None; sum = None; product = None }) K ts
logic_term_begun p K (of_logic_factors a m) h = logic_factor_begun (record { or = p.or; and = None; compare = None; sum = None; product = None }) K a (_, _, m, h)

pub begun : (K : Cont) {ts r : List Word} {a : Tree} → Expression ts a r → K a r → BeforeOperand nothing K ts
begun K (of_logic_terms a m) h = logic_term_begun nothing K a (_, _, m, h)

-- Behind a part of an expression comes an operator of its level, or what may follow the part.
after_or : (p : Waiting) (K : Cont) {a e : Tree} {ts r : List Word} → MoreLogicTerms a ts e r → K e r → K a ts ⊎ Comes Or (BeforeOperand (record { or = Some a; and = None; compare = None; sum = None; product = None }) K) ts
after_or p K no_or h = inl h
after_or p K (or {a = a} t m) h = inr (comes (logic_term_begun (record { or = Some a; and = None; compare = None; sum = None; product = None }) K t (_, _, m, h)))

after_and : (p : Waiting) (K : Cont) {a e : Tree} {ts r : List Word} → MoreLogicFactors a ts e r → AfterLogicTerm p K e r → AfterLogicTerm p K a ts ⊎ Comes And (BeforeOperand (record { or = p.or; and = Some a; compare = None; sum = None; product = None }) K) ts
after_and p K no_and h = inl h
after_and p K (and {a = a} t m) h = inr (comes (logic_factor_begun (record { or = p.or; and = Some a; compare = None; sum = None; product = None }) K t (_, _, m, h)))

after_compare : (p : Waiting) (K : Cont) {a e : Tree} {ts r : List Word} → MayCompare a ts e r → AfterLogicFactor p K e r → AfterLogicFactor p K a ts ⊎ ComesWith Compares (λ o. BeforeOperand (record { or = p.or; and = p.and; compare = Some (o, a); sum = None; product = None }) K) ts
after_compare p K no_comparison h = inl h
after_compare p K (comparison {o = o} {a = a} t) h = inr (comes_with (arithmetic_begun (record { or = p.or; and = p.and; compare = Some (o, a); sum = None; product = None }) K t h))

after_sum : (p : Waiting) (K : Cont) {a e : Tree} {ts r : List Word} → MoreTerms a ts e r → AfterArithmetic p K e r → AfterArithmetic p K a ts ⊎ ComesWith Adds (λ o. BeforeOperand (record { or = p.or; and = p.and; compare = p.compare; sum = Some (o, a); product = None }) K) ts
after_sum p K no_sum h = inl h
after_sum p K (adding {o = o} {a = a} t m) h = inr (comes_with (term_begun (record { or = p.or; and = p.and; compare = p.compare; sum = Some (o, a); product = None }) K t (_, _, m, h)))

after_product : (p : Waiting) (K : Cont) {a e : Tree} {ts r : List Word} → MoreFactors a ts e r → AfterTerm p K e r → AfterTerm p K a ts ⊎ ComesWith Multiplies (λ o. BeforeOperand (record { or = p.or; and = p.and; compare = p.compare; sum = p.sum; product = Some (o, a) }) K) ts
after_product p K no_product h = inl h
after_product p K (multiplying t m) h = inr (comes_with (_, _, t, (_, _, m, h)))

-- One step forward.
abbrev pub Leads : Option State → Trees → List Word → Type 0
Leads o T r = (s : State) × (o ≡ Some s) × Completes s T r

-- there is a next word, and it leads on
abbrev pub Goes : (Word → Option State) → Trees → List Word → Type 0
Goes f T [] = ⊥
Goes f T (w ∷ r) = Leads (f w) T r

-- what an end of the expression in this stack does
abbrev pub GoesAfter : Waiting → Tree → Stack → Trees → List Word → Type 0
GoesAfter p f k T ts = Goes (after_operand p f k) T ts

abbrev pub Closes : Stack → Trees → Type 0
Closes k T = (p : Waiting) (f : Tree) (r : List Word) → Follows k T (whole p f) r → GoesAfter p f k T r

or_goes : (p : Waiting) (f : Tree) (k : Stack) (T : Trees) {r : List Word} → Comes Or (BeforeOperand (record { or = Some (whole p f); and = None; compare = None; sum = None; product = None }) (Follows k T)) r → GoesAfter p f k T r
or_goes p f k T (comes h) = (_, refl, h)

and_goes : (p : Waiting) (f : Tree) (k : Stack) (T : Trees) {r : List Word} → Comes And (BeforeOperand (record { or = p.or; and = Some (logic_term_of p f); compare = None; sum = None; product = None }) (Follows k T)) r → GoesAfter p f k T r
and_goes p f k T (comes h) = (_, refl, h)

compare_goes : (p : Waiting) (f : Tree) (k : Stack) (T : Trees) {r : List Word} → p.compare ≡ None → ComesWith Compares (λ o. BeforeOperand (record { or = p.or; and = p.and; compare = Some (o, arithmetic_of p f); sum = None; product = None }) (Follows k T)) r → GoesAfter p f k T r
compare_goes p f k T e (comes_with {a = o} h) = (_, ap (λ c. comparing p c o (arithmetic_of p f) k) e, h)

sum_goes : (p : Waiting) (f : Tree) (k : Stack) (T : Trees) {r : List Word} → ComesWith Adds (λ o. BeforeOperand (record { or = p.or; and = p.and; compare = p.compare; sum = Some (o, arithmetic_of p f); product = None }) (Follows k T)) r → GoesAfter p f k T r
sum_goes p f k T (comes_with h) = (_, refl, h)

product_goes : (p : Waiting) (f : Tree) (k : Stack) (T : Trees) {r : List Word} → ComesWith Multiplies (λ o. BeforeOperand (record { or = p.or; and = p.and; compare = p.compare; sum = p.sum; product = Some (o, term_of p f) }) (Follows k T)) r → GoesAfter p f k T r
product_goes p f k T (comes_with h) = (_, refl, h)

logic_term_goes : (p : Waiting) (f : Tree) (k : Stack) (T : Trees) (cl : Closes k T) (ts : List Word) → AfterLogicTerm p (Follows k T) (logic_term_of p f) ts → GoesAfter p f k T ts
logic_term_goes p f k T cl ts (e, r, m, h) = elim (after_or p (Follows k T) m h) [ inl g ↦ cl p f ts g | inr g ↦ or_goes p f k T g ]

logic_factor_goes : (p : Waiting) (f : Tree) (k : Stack) (T : Trees) (cl : Closes k T) (ts : List Word) → AfterLogicFactor p (Follows k T) (logic_factor_of p f) ts → GoesAfter p f k T ts
logic_factor_goes p f k T cl ts (e, r, m, h) = elim (after_and p (Follows k T) m h) [ inl g ↦ logic_term_goes p f k T cl ts g | inr g ↦ and_goes p f k T g ]

arithmetic_goes : (p : Waiting) (f : Tree) (k : Stack) (T : Trees) (cl : Closes k T) (ts : List Word) → AfterArithmetic p (Follows k T) (arithmetic_of p f) ts → GoesAfter p f k T ts
arithmetic_goes p f k T cl ts h = go p.compare refl h
  where
    go : (c : Option (Comparing × Tree)) → p.compare ≡ c → AfterSide c (AfterLogicFactor p (Follows k T)) (arithmetic_of p f) ts → GoesAfter p f k T ts
    go None e (a, r, m, g) = elim (after_compare p (Follows k T) m g) [ inl g ↦ logic_factor_goes p f k T cl ts (subst (λ c. AfterLogicFactor p (Follows k T) (compared_of c (arithmetic_of p f)) ts) (sym e) g) | inr g ↦ compare_goes p f k T e g ]
    go (Some c) e g = logic_factor_goes p f k T cl ts (subst (λ c. AfterLogicFactor p (Follows k T) (compared_of c (arithmetic_of p f)) ts) (sym e) g)

term_goes : (p : Waiting) (f : Tree) (k : Stack) (T : Trees) (cl : Closes k T) (ts : List Word) → AfterTerm p (Follows k T) (term_of p f) ts → GoesAfter p f k T ts
term_goes p f k T cl ts (e, r, m, h) = elim (after_sum p (Follows k T) m h) [ inl g ↦ arithmetic_goes p f k T cl ts g | inr g ↦ sum_goes p f k T g ]

factor_goes : (p : Waiting) (f : Tree) (k : Stack) (T : Trees) (cl : Closes k T) (ts : List Word) → AfterFactor p (Follows k T) f ts → GoesAfter p f k T ts
factor_goes p f k T cl ts (e, r, m, h) = elim (after_product p (Follows k T) m h) [ inl g ↦ term_goes p f k T cl ts g | inr g ↦ product_goes p f k T g ]

-- A statement that was read is the last of those before what comes.
pub added : (ss : Trees) (o : Around) (T : Trees) (s : Tree) (r : List Word) → AfterStatement ss o T s r → InBlock (with_last ss s) o T r
added ss o T s r (more, r', h, c) = (more, r', h, subst (λ x. Closed o x T r') (sym (joined_one ss s more)) c)

statement_closes : (p : Waiting) (f : Tree) (ss : Trees) (o : Around) (T : Trees) {r : List Word} → Comes Semicolon (AfterStatement ss o T (expression_statement (whole p f))) r → GoesAfter p f (AsStatement ss o) T r
statement_closes p f ss o T (comes {r = r} h) = (_, refl, added ss o T (expression_statement (whole p f)) r h)

value_closes : (p : Waiting) (f : Tree) (ss : Trees) (o : Around) (T : Trees) {r : List Word} → Comes Semicolon (AfterStatement ss o T (return (whole p f))) r → GoesAfter p f (AsValue ss o) T r
value_closes p f ss o T (comes {r = r} h) = (_, refl, added ss o T (return (whole p f)) r h)

condition_closes : (p : Waiting) (f : Tree) (w : Keyword) (ss : Trees) (o : Around) (T : Trees) {r : List Word} → Comes Close (Comes OpenBlock (InBlock none (Within (head_of w (whole p f)) ss o) T)) r → GoesAfter p f (AsCondition w ss o) T r
condition_closes p f w ss o T (comes h) = (_, refl, h)

parens_close : (p : Waiting) (f : Tree) (q : Waiting) (k : Stack) (T : Trees) {r : List Word} → Comes Close (AfterFactor q (Follows k T) (parens (whole p f))) r → GoesAfter p f (InParens q k) T r
parens_close p f q k T (comes h) = (_, refl, h)

arguments_close : (p : Waiting) (f : Tree) (q : Waiting) (c : Tree) (es : Trees) (k : Stack) (T more : Trees) {r r' : List Word} → MoreArguments r more r' → AfterCallee q (Follows k T) (call c (joined es (also (whole p f) more))) r' → GoesAfter p f (InArguments q c es k) T r
arguments_close p f q c es k T more no_more_arguments h = (_, refl, h)
arguments_close p f q c es k T more (next_argument {e = e} {es = more'} {r' = r'} g m) h =
    (_, refl, begun (Follows (InArguments q c (with_last es (whole p f)) k) T) g (more', r', m, subst (λ x. AfterCallee q (Follows k T) (call c x) r') (sym (joined_one es (whole p f) (also e more'))) h))

-- What ends an assignment's right side ends the assignment.
assignment_closes : (p : Waiting) (f : Tree) (q : Waiting) (x : List ℕ) (k : Stack) (T : Trees) (r : List Word) → NoOperator r → GoesAfter q (assign x (whole p f)) k T r → GoesAfter p f (InAssignment q x k) T r
assignment_closes p f q x k T [] clear h = h
assignment_closes p f q x k T (Or ∷ r) clear h = absurd clear
assignment_closes p f q x k T (And ∷ r) clear h = absurd clear
assignment_closes p f q x k T (Compares o ∷ r) clear h = absurd clear
assignment_closes p f q x k T (Adds o ∷ r) clear h = absurd clear
assignment_closes p f q x k T (Multiplies o ∷ r) clear h = absurd clear
assignment_closes p f q x k T (w ∷ r) clear h = h

closes : (k : Stack) (T : Trees) → Closes k T
closes (AsStatement ss o) T p f r h = statement_closes p f ss o T h
closes (AsValue ss o) T p f r h = value_closes p f ss o T h
closes (AsCondition w ss o) T p f r h = condition_closes p f w ss o T h
closes (InParens q k) T p f r h = parens_close p f q k T h
closes (InArguments q c es k) T p f r (more, r', m, h) = arguments_close p f q c es k T more m h
closes (InAssignment q x k) T p f r (clear, h) = assignment_closes p f q x k T r clear (factor_goes q (assign x (whole p f)) k T (closes k T) r h)

has_goes : (p : Waiting) (f : Tree) (k : Stack) (T : Trees) (ts : List Word) → AfterFactor p (Follows k T) f ts → Goes (after_operand p f k) T ts
has_goes p f k T ts h = factor_goes p f k T (closes k T) ts h

-- no expression goes on with `(` or `=`, nor begins with a word that isn't an operand's
no_open : (k : Stack) (e : Tree) → ends k e Open ≡ None
no_open (AsStatement ss o) e = refl
no_open (AsValue ss o) e = refl
no_open (AsCondition w ss o) e = refl
no_open (InParens q k) e = refl
no_open (InArguments q c es k) e = refl
no_open (InAssignment q x k) e = no_open k (whole q (assign x e))

no_becomes : (k : Stack) (e : Tree) → ends k e Becomes ≡ None
no_becomes (AsStatement ss o) e = refl
no_becomes (AsValue ss o) e = refl
no_becomes (AsCondition w ss o) e = refl
no_becomes (InParens q k) e = refl
no_becomes (InArguments q c es k) e = refl
no_becomes (InAssignment q x k) e = no_becomes k (whole q (assign x e))

leads_nowhere : (o : Option State) (T : Trees) (r : List Word) → o ≡ None → Leads o T r → ⊥
leads_nowhere o T r e (s, h, g) = none_is_not_some (sym e ∙ h)

callable_goes : (p : Waiting) (f : Tree) (k : Stack) (T : Trees) (ts : List Word) → Goes (after_operand p f k) T ts → Goes (after_callable p f k) T ts
callable_goes p f k T [] h = h
callable_goes p f k T (Open ∷ r) h = absurd (leads_nowhere (ends k (whole p f) Open) T r (no_open k (whole p f)) h)
callable_goes p f k T (w ∷ r) h = h

callee_goes : (p : Waiting) (c : Tree) (k : Stack) (T : Trees) {f : Tree} {ts r : List Word} → Calls c ts f r → AfterFactor p (Follows k T) f r → Goes (after_callable p c k) T ts
callee_goes p c k T {ts = ts} no_call h = callable_goes p c k T ts (has_goes p c k T ts h)
callee_goes p c k T (calling a m) h = (_, refl, (_, _, a, (_, _, m, h)))

named_goes : (p : Waiting) (x : List ℕ) (k : Stack) (T : Trees) (ts : List Word) → Goes (after_callable p (name x) k) T ts → Goes (step (Named p x k)) T ts
named_goes p x k T [] h = h
named_goes p x k T (Becomes ∷ r) h = absurd (leads_nowhere (ends k (whole p (name x)) Becomes) T r (no_becomes k (whole p (name x))) h)
named_goes p x k T (w ∷ r) h = h

name_goes : (p : Waiting) (x : List ℕ) (k : Stack) (T : Trees) {f : Tree} {ts r : List Word} → Factor (Name x ∷ ts) f r → AfterFactor p (Follows k T) f r → Goes (step (Named p x k)) T ts
name_goes p x k T (a_name {ts = ts} c) h = named_goes p x k T ts (callee_goes p (name x) k T c h)
name_goes p x k T (an_assignment e clear) h = (_, refl, begun (Follows (InAssignment p x k) T) e (clear, h))

-- an operand comes, whatever the state is that takes it as `operand` does
operand_goes : (p : Waiting) (k : Stack) (T : Trees) {f : Tree} {ts r : List Word} → Factor ts f r → AfterFactor p (Follows k T) f r → Goes (operand p k) T ts
operand_goes p k T (a_name c) h = (_, refl, (_, _, a_name c, h))
operand_goes p k T (an_assignment e clear) h = (_, refl, (_, _, an_assignment e clear, h))
operand_goes p k T a_text h = (_, refl, h)
operand_goes p k T a_number h = (_, refl, h)
operand_goes p k T (in_parens e) h = (_, refl, begun (Follows (InParens p k) T) e (comes h))

before_operand_goes : (p : Waiting) (k : Stack) (T : Trees) (ts : List Word) → BeforeOperand p (Follows k T) ts → Goes (operand p k) T ts
before_operand_goes p k T ts (f, r, g, h) = operand_goes p k T g h

-- the first argument
first_goes : (p : Waiting) (c : Tree) (k : Stack) (T : Trees) (ts : List Word) → Goes (operand nothing (InArguments p c none k)) T ts → Goes (step (MayWant p c k)) T ts
first_goes p c k T [] h = h
first_goes p c k T (Close ∷ r) h = absurd (leads_nowhere None T r refl h)
first_goes p c k T (w ∷ r) h = h

arguments_go : (p : Waiting) (c : Tree) (k : Stack) (T : Trees) {es : Trees} {ts r : List Word} → Arguments ts es r → AfterCallee p (Follows k T) (call c es) r → Goes (step (MayWant p c k)) T ts
arguments_go p c k T no_argument h = (_, refl, h)
arguments_go p c k T (first_argument {ts = ts} e m) h = first_goes p c k T ts (before_operand_goes nothing (InArguments p c none k) T ts (begun (Follows (InArguments p c none k) T) e (_, _, m, h)))

-- Statements.

-- an expression that is a statement
expression_goes : (ss : Trees) (o : Around) (T : Trees) (ts : List Word) → Goes (operand nothing (AsStatement ss o)) T ts → Goes (inside ss o) T ts
expression_goes ss o T [] h = h
expression_goes ss o T (CloseBlock ∷ r) h = absurd (leads_nowhere None T r refl h)
expression_goes ss o T (WhileKey ∷ r) h = absurd (leads_nowhere None T r refl h)
expression_goes ss o T (IfKey ∷ r) h = absurd (leads_nowhere None T r refl h)
expression_goes ss o T (ReturnKey ∷ r) h = absurd (leads_nowhere None T r refl h)
expression_goes ss o T (BreakKey ∷ r) h = absurd (leads_nowhere None T r refl h)
expression_goes ss o T (ContinueKey ∷ r) h = absurd (leads_nowhere None T r refl h)
expression_goes ss o T (DebuggerKey ∷ r) h = absurd (leads_nowhere None T r refl h)
expression_goes ss o T (w ∷ r) h = h

statement_goes : (ss : Trees) (o : Around) (T : Trees) {ts r : List Word} {s : Tree} → Statement (in_loop o) ts s r → AfterStatement ss o T s r → Goes (inside ss o) T ts
statement_goes ss o T (a_while e b) h = (_, refl, (_, _, a_while e b, h))
statement_goes ss o T (an_if e b m) h = (_, refl, (_, _, an_if e b m, h))
statement_goes ss o T a_bare_return h = (_, refl, (_, _, a_bare_return, h))
statement_goes ss o T (a_return e) h = (_, refl, (_, _, a_return e, h))
statement_goes ss o T (a_break l) h = (_, ap (λ b. in_a_loop b (BeforeSemicolon break ss o)) l, comes h)
statement_goes ss o T (a_continue l) h = (_, ap (λ b. in_a_loop b (BeforeSemicolon continue ss o)) l, comes h)
statement_goes ss o T a_debugger h = (_, refl, comes h)
statement_goes ss o T (an_expression {ts = ts} e) h = expression_goes ss o T ts (before_operand_goes nothing (AsStatement ss o) T ts (begun (Follows (AsStatement ss o) T) e (comes h)))

-- the innermost block is closed
block_closes : (o : Around) (ss : Trees) (T : Trees) (r : List Word) → Closed o ss T r → Completes (closed_block o ss) T r
block_closes (Body fs x xs) ss T r (more, m, e) = (more, m, joined_one fs (function x xs (block ss)) more ∙ e)
block_closes (Within (OfWhile c) before o) ss T r h = added before o T (while c (block ss)) r h
block_closes (Within (OfThen c) before o) ss T r h = h
block_closes (Within (OfElse c b) before o) ss T r h = added before o T (conditional_else c b (block ss)) r h

statements_go : (ss : Trees) (o : Around) (T : Trees) {more : Trees} {ts r : List Word} → Statements (in_loop o) ts more r → Closed o (joined ss more) T r → Goes (inside ss o) T ts
statements_go ss o T (no_more_statements {r = r}) h = (_, refl, block_closes o ss T r (subst (λ x. Closed o x T r) (joined_none ss) h))
statements_go ss o T (next_statement s m) h = statement_goes ss o T s (_, _, m, h)

in_block_goes : (ss : Trees) (o : Around) (T : Trees) (ts : List Word) → InBlock ss o T ts → Goes (inside ss o) T ts
in_block_goes ss o T ts (more, r, m, h) = statements_go ss o T m h

append_none : (xs : List (List ℕ)) → xs ++ [] ≡ xs
append_none [] = refl
append_none (x ∷ xs) = ap (λ ys. x ∷ ys) (append_none xs)

-- behind the block of an `if` without `else`
then_goes : (c b : Tree) (ss : Trees) (o : Around) (T : Trees) (ts : List Word) → Goes (inside (with_last ss (conditional c b)) o) T ts → Goes (step (AfterThen c b ss o)) T ts
then_goes c b ss o T [] h = h
then_goes c b ss o T (ElseKey ∷ r) h = absurd (leads_nowhere None T r refl h)
then_goes c b ss o T (w ∷ r) h = h

else_goes : (c b : Tree) (ss : Trees) (o : Around) (T : Trees) {s : Tree} {ts r : List Word} → MayElse (in_loop o) c b ts s r → AfterStatement ss o T s r → Goes (step (AfterThen c b ss o)) T ts
else_goes c b ss o T (no_else {r = r}) h = then_goes c b ss o T r (in_block_goes (with_last ss (conditional c b)) o T r (added ss o T (conditional c b) r h))
else_goes c b ss o T (an_else (braces m)) h = (_, refl, comes (_, _, m, h))

-- an expression begins with an operand
first_factor : {ts r : List Word} {e : Tree} → Expression ts e r → (f : Tree) × (r' : List Word) × Factor ts f r'
first_factor e = let b = begun (λ a r. Unit {0}) e tt in (b.0, b.1, b.2)

no_while : {ts r : List Word} {f : Tree} → Factor (WhileKey ∷ ts) f r → ⊥
no_while h = elim h [ ]

no_if : {ts r : List Word} {f : Tree} → Factor (IfKey ∷ ts) f r → ⊥
no_if h = elim h [ ]

no_return : {ts r : List Word} {f : Tree} → Factor (ReturnKey ∷ ts) f r → ⊥
no_return h = elim h [ ]

no_semicolon : {ts r : List Word} {f : Tree} → Factor (Semicolon ∷ ts) f r → ⊥
no_semicolon h = elim h [ ]

while_goes : (ss : Trees) (o : Around) (T : Trees) {s : Tree} {ts r : List Word} → Statement (in_loop o) (WhileKey ∷ ts) s r → AfterStatement ss o T s r → Goes (step (AfterKey ForWhile ss o)) T ts
while_goes ss o T (a_while e (braces m)) h = (_, refl, begun (Follows (AsCondition ForWhile ss o) T) e (comes (comes (_, _, m, h))))
while_goes ss o T (an_expression e) h = absurd (no_while (first_factor e).2)

if_goes : (ss : Trees) (o : Around) (T : Trees) {s : Tree} {ts r : List Word} → Statement (in_loop o) (IfKey ∷ ts) s r → AfterStatement ss o T s r → Goes (step (AfterKey ForIf ss o)) T ts
if_goes ss o T (an_if e (braces m) me) h = (_, refl, begun (Follows (AsCondition ForIf ss o) T) e (comes (comes (_, _, m, (_, _, me, h)))))
if_goes ss o T (an_expression e) h = absurd (no_if (first_factor e).2)

value_goes : (ss : Trees) (o : Around) (T : Trees) (ts : List Word) → Goes (operand nothing (AsValue ss o)) T ts → Goes (step (AfterReturn ss o)) T ts
value_goes ss o T [] h = h
value_goes ss o T (Semicolon ∷ r) h = absurd (leads_nowhere None T r refl h)
value_goes ss o T (w ∷ r) h = h

return_goes : (ss : Trees) (o : Around) (T : Trees) {s : Tree} {ts r : List Word} → Statement (in_loop o) (ReturnKey ∷ ts) s r → AfterStatement ss o T s r → Goes (step (AfterReturn ss o)) T ts
return_goes ss o T (a_bare_return {r = r}) h = (_, refl, added ss o T return_nothing r h)
return_goes ss o T (a_return {ts = ts} e) h = value_goes ss o T ts (before_operand_goes nothing (AsValue ss o) T ts (begun (Follows (AsValue ss o) T) e (comes h)))
return_goes ss o T (an_expression e) h = absurd (no_return (first_factor e).2)

semicolon_goes : (s : Tree) (ss : Trees) (o : Around) (T : Trees) {ts : List Word} → Comes Semicolon (AfterStatement ss o T s) ts → Goes (step (BeforeSemicolon s ss o)) T ts
semicolon_goes s ss o T (comes {r = r} h) = (_, refl, added ss o T s r h)

brace_goes : (h : Head) (ss : Trees) (o : Around) (T : Trees) {ts : List Word} → Comes OpenBlock (InBlock none (Within h ss o) T) ts → Goes (step (BeforeBlock h ss o)) T ts
brace_goes h ss o T (comes g) = (_, refl, g)

-- Functions.
body_goes : (fs : Trees) (x : List ℕ) (xs : List (List ℕ)) (T : Trees) {ts : List Word} → BodyComes fs x T xs ts → Goes (step (BeforeBody fs x xs)) T ts
body_goes fs x xs T (comes h) = (_, refl, h)

function_goes : (fs : Trees) (T : Trees) {f : Tree} {ts r : List Word} → AFunction (FunctionKey ∷ ts) f r → AfterFunction fs f T r → Goes (step (AfterFunctionKey fs)) T ts
function_goes fs T (a_function ps b) h = (_, refl, (_, _, a_function ps b, h))

head_goes : (fs : Trees) (x : List ℕ) (T : Trees) {f : Tree} {ts r : List Word} → AFunction (FunctionKey ∷ Name x ∷ ts) f r → AfterFunction fs f T r → Goes (step (AfterFunctionName fs x)) T ts
head_goes fs x T (a_function ps (braces m)) h = (_, refl, (_, _, ps, comes (_, _, m, h)))

first_parameter_goes : (fs : Trees) (x : List ℕ) (T : Trees) {xs : List (List ℕ)} {ts r : List Word} → Parameters ts xs r → BodyComes fs x T xs r → Goes (step (FirstParameter fs x)) T ts
first_parameter_goes fs x T no_parameter h = (_, refl, h)
first_parameter_goes fs x T (first_parameter m) h = (_, refl, (_, _, m, h))

parameter_goes : (fs : Trees) (x : List ℕ) (xs : List (List ℕ)) (T : Trees) {ys : List (List ℕ)} {ts r : List Word} → MoreParameters ts ys r → BodyComes fs x T (xs ++ ys) r → Goes (step (AfterParameter fs x xs)) T ts
parameter_goes fs x xs T (no_more_parameters {r = r}) h = (_, refl, subst (λ ys. BodyComes fs x T ys r) (append_none xs) h)
parameter_goes fs x xs T (next_parameter m) h = (_, refl, (_, _, next_parameter m, h))

comma_goes : (fs : Trees) (x : List ℕ) (xs : List (List ℕ)) (T : Trees) {ys : List (List ℕ)} {ts r : List Word} → MoreParameters (Comma ∷ ts) ys r → BodyComes fs x T (xs ++ ys) r → Goes (step (AfterComma fs x xs)) T ts
comma_goes fs x xs T (next_parameter {x = y} {xs = ys} {r = r} m) h = (_, refl, (ys, r, m, subst (λ zs. BodyComes fs x T zs r) (sym (append_assoc xs (y ∷ []) ys)) h))

-- A program is at its end where the machine says so.
abbrev pub Ends : State → Trees → List Word → Type 0
Ends s T [] = final s ≡ Some T
Ends s T (w ∷ r) = Leads (step s w) T r

ends_of : (s : State) (T : Trees) (ts : List Word) → Goes (step s) T ts → Ends s T ts
ends_of s T [] h = absurd h
ends_of s T (w ∷ r) h = h

between_ends : (fs T : Trees) {more : Trees} {ts : List Word} → MoreFunctions ts more → joined fs more ≡ T → Ends (Between fs) T ts
between_ends fs T no_more_functions e = ap Some (sym (joined_none fs) ∙ e)
between_ends fs T (next_function (a_function ps b) m) e = (_, refl, (_, _, a_function ps b, (_, m, e)))

start_ends : (T : Trees) {ts : List Word} → Program ts T → Ends Start T ts
start_ends T (first_function (a_function ps b) m) = (_, refl, (_, _, a_function ps b, (_, m, refl)))

key_goes : (w : Keyword) (ss : Trees) (o : Around) (T : Trees) (ts : List Word) → Completes (AfterKey w ss o) T ts → Goes (step (AfterKey w ss o)) T ts
key_goes ForWhile ss o T ts (s, r, g, h) = while_goes ss o T g h
key_goes ForIf ss o T ts (s, r, g, h) = if_goes ss o T g h

pub forward : (s : State) (T : Trees) (ts : List Word) → Completes s T ts → Ends s T ts
forward Start T ts h = start_ends T h
forward (Between fs) T ts (more, m, e) = between_ends fs T m e
forward (AfterFunctionKey fs) T ts (f, r, g, h) = ends_of (AfterFunctionKey fs) T ts (function_goes fs T g h)
forward (AfterFunctionName fs x) T ts (f, r, g, h) = ends_of (AfterFunctionName fs x) T ts (head_goes fs x T g h)
forward (FirstParameter fs x) T ts (xs, r, g, h) = ends_of (FirstParameter fs x) T ts (first_parameter_goes fs x T g h)
forward (AfterParameter fs x xs) T ts (ys, r, g, h) = ends_of (AfterParameter fs x xs) T ts (parameter_goes fs x xs T g h)
forward (AfterComma fs x xs) T ts (ys, r, g, h) = ends_of (AfterComma fs x xs) T ts (comma_goes fs x xs T g h)
forward (BeforeBody fs x xs) T ts h = ends_of (BeforeBody fs x xs) T ts (body_goes fs x xs T h)
forward (Inside ss o) T ts h = ends_of (Inside ss o) T ts (in_block_goes ss o T ts h)
forward (AfterThen c b ss o) T ts (s, r, g, h) = ends_of (AfterThen c b ss o) T ts (else_goes c b ss o T g h)
forward (AfterKey w ss o) T ts h = ends_of (AfterKey w ss o) T ts (key_goes w ss o T ts h)
forward (AfterReturn ss o) T ts (s, r, g, h) = ends_of (AfterReturn ss o) T ts (return_goes ss o T g h)
forward (BeforeBlock w ss o) T ts h = ends_of (BeforeBlock w ss o) T ts (brace_goes w ss o T h)
forward (BeforeSemicolon s ss o) T ts h = ends_of (BeforeSemicolon s ss o) T ts (semicolon_goes s ss o T h)
forward (Wants p k) T ts h = ends_of (Wants p k) T ts (before_operand_goes p k T ts h)
forward (MayWant p c k) T ts (es, r, g, h) = ends_of (MayWant p c k) T ts (arguments_go p c k T g h)
forward (Named p x k) T ts (f, r, g, h) = ends_of (Named p x k) T ts (name_goes p x k T g h)
forward (Callable p c k) T ts (f, r, g, h) = ends_of (Callable p c k) T ts (callee_goes p c k T g h)
forward (Has p f k) T ts h = ends_of (Has p f k) T ts (has_goes p f k T ts h)

-- What is spelled is read, as this one tree.
pub complete : (ts : List Word) (s : State) (T : Trees) → Completes s T ts → run s ts ≡ Some T
complete [] s T h = forward s T [] h
complete (w ∷ ts) s T h =
    let g : Ends s T (w ∷ ts) = forward s T (w ∷ ts) h in
    ap (λ o. followed o (λ s'. run s' ts)) g.1 ∙ complete ts g.0 T g.2
