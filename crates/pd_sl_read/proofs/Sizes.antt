-- Each word takes the machine one place on.
use Rattle.std.proofs.Common.{◌≡◌, ℕ, ◌+◌, Bool, true, false, List, [], ◌∷◌, ◌++◌, Option, Some, None, refl, sym, ap, ◌∙◌}
use Rattle.pd_sl_spell.specs.Words.{Comparing, Adding, Multiplying, Word, Name, Number, Text, Or, And, Compares, Adds, Multiplies, Becomes, Open, Close, OpenBlock, CloseBlock, Comma, Semicolon, FunctionKey, WhileKey, IfKey, ElseKey, ReturnKey, BreakKey, ContinueKey, DebuggerKey, Tree, name, parens, call, assign, while, conditional, conditional_else, return_nothing, return, break, continue, debugger, expression_statement, block, function, Trees, none, also, with_last}
use Rattle.pd_sl_spell.specs.Machine
use Rattle.pd_sl_spell.specs.Machine.{Waiting, nothing, arithmetic_of, whole, Head, OfWhile, OfThen, OfElse, Keyword, ForWhile, ForIf, Around, Body, Within, Stack, AsStatement, AsValue, AsCondition, InParens, InArguments, InAssignment, State, Start, Between, AfterFunctionKey, AfterFunctionName, FirstParameter, AfterParameter, AfterComma, BeforeBody, Inside, AfterThen, AfterKey, AfterReturn, BeforeBlock, BeforeSemicolon, Wants, MayWant, Named, Callable, Has, ends, comparing, after_operand, after_callable, closed_block, in_a_loop, step}
use Rattle.pd_sl_read.specs.Places.{end_of, trees_end, parameters_end, more_parameters_end, body_place}
use Rattle.pd_sl_read.specs.Behind.{operand_place, block_place, inside_place, statement_place, expression_place, size}
use Rattle.pd_sl_read.proofs.Follows.{trees_end_last, argument_place_last, arguments_end_last, whole_end, term_end, arithmetic_end, logic_term_end}

-- what the states of a source have besides
abbrev pub IsRegular : State → Type 0
IsRegular (AfterParameter fs x []) = ⊥
IsRegular (AfterComma fs x []) = ⊥
IsRegular (BeforeSemicolon s ss o) = (i : ℕ) → end_of i s ≡ (i + 1) + 1
IsRegular _ = Unit {0}

abbrev pub Grows : ℕ → Option State → Type 0
Grows n None = Unit {0}
Grows n (Some s) = (size s ≡ n + 1) × IsRegular s

one_on : {m n : ℕ} → m ≡ n → n + 1 ≡ m + 1
one_on h = sym (ap (λ n. n + 1) h)

statement_grows : (ss : Trees) (o : Around) (t : Tree) (at : ℕ) → at + 1 ≡ end_of (statement_place ss o) t → Grows at (Some (Inside (with_last ss t) o))
statement_grows ss o t at h = (trees_end_last (inside_place o) ss t ∙ sym h, tt)

ends_grows : (k : Stack) (e : Tree) (w : Word) (at : ℕ) → at ≡ end_of (expression_place k) e → Grows at (ends k e w)
ends_grows (AsStatement ss o) e Semicolon at h = statement_grows ss o (expression_statement e) at (ap (λ n. n + 1) h)
ends_grows (AsStatement ss o) e w at h = tt
ends_grows (AsValue ss o) e Semicolon at h = statement_grows ss o (return e) at (ap (λ n. n + 1) h)
ends_grows (AsValue ss o) e w at h = tt
ends_grows (AsCondition ForWhile ss o) e Close at h = (one_on h, tt)
ends_grows (AsCondition ForIf ss o) e Close at h = (one_on h, tt)
ends_grows (AsCondition v ss o) e w at h = tt
ends_grows (InParens p k) e Close at h = (one_on h, tt)
ends_grows (InParens p k) e w at h = tt
ends_grows (InArguments p c es k) e Close at h = (arguments_end_last (end_of (operand_place (expression_place k) p) c + 1) es e ∙ one_on h, tt)
ends_grows (InArguments p c es k) e Comma at h = (argument_place_last (end_of (operand_place (expression_place k) p) c + 1) es e ∙ one_on h, tt)
ends_grows (InArguments p c es k) e w at h = tt
ends_grows (InAssignment p x k) e w at h = ends_grows k (whole p (assign x e)) w at (h ∙ whole_end (expression_place k) p (assign x e))

comparing_grows : (o a : Option Tree) (c : Option (Comparing × Tree)) (s : Option (Adding × Tree)) (m : Option (Multiplying × Tree)) (b : Comparing) (f : Tree) (k : Stack) →
    let p : Waiting = record { or = o; and = a; compare = c; sum = s; product = m } in Grows (size (Has p f k)) (comparing p c b (arithmetic_of p f) k)
comparing_grows o a None s m b f k =
    let p : Waiting = record { or = o; and = a; compare = None; sum = s; product = m } in
    (one_on (arithmetic_end (expression_place k) p f), tt)
comparing_grows o a (Some c) s m b f k = tt

operand_after_grows : (p : Waiting) (f : Tree) (k : Stack) (w : Word) → Grows (size (Has p f k)) (after_operand p f k w)
operand_after_grows p f k Or = (one_on (whole_end (expression_place k) p f), tt)
operand_after_grows p f k And = (one_on (logic_term_end (expression_place k) p f), tt)
operand_after_grows p f k (Compares o) = comparing_grows p.or p.and p.compare p.sum p.product o f k
operand_after_grows p f k (Adds o) = (one_on (arithmetic_end (expression_place k) p f), tt)
operand_after_grows p f k (Multiplies o) = (one_on (term_end (expression_place k) p f), tt)
operand_after_grows p f k w = ends_grows k (whole p f) w (size (Has p f k)) (whole_end (expression_place k) p f)

callable_grows : (p : Waiting) (f : Tree) (k : Stack) (w : Word) → Grows (size (Has p f k)) (after_callable p f k w)
callable_grows p f k Open = (refl, tt)
callable_grows p f k w = operand_after_grows p f k w

operand_grows : (p : Waiting) (k : Stack) (w : Word) → Grows (size (Wants p k)) (Machine.operand p k w)
operand_grows p k (Name x) = (refl, tt)
operand_grows p k (Number n) = (refl, tt)
operand_grows p k (Text s) = (refl, tt)
operand_grows p k Open = (refl, tt)
operand_grows p k w = tt

closed_grows : (o : Around) (ss : Trees) → Grows (statement_place ss o) (Some (closed_block o ss))
closed_grows (Body fs x xs) ss = (trees_end_last 0 fs (function x xs (block ss)), tt)
closed_grows (Within (OfWhile c) before o) ss = statement_grows before o (while c (block ss)) _ refl
closed_grows (Within (OfThen c) before o) ss = (refl, tt)
closed_grows (Within (OfElse c b) before o) ss = statement_grows before o (conditional_else c b (block ss)) _ refl

loop_grows : (b : Bool) (n : ℕ) (s : State) → Grows n (Some s) → Grows n (in_a_loop b s)
loop_grows true n s h = h
loop_grows false n s h = tt

inside_grows : (ss : Trees) (o : Around) (w : Word) → Grows (statement_place ss o) (Machine.inside ss o w)
inside_grows ss o CloseBlock = closed_grows o ss
inside_grows ss o WhileKey = (refl, tt)
inside_grows ss o IfKey = (refl, tt)
inside_grows ss o ReturnKey = (refl, tt)
inside_grows ss o BreakKey = loop_grows (Machine.in_loop o) _ _ (refl, λ i. refl)
inside_grows ss o ContinueKey = loop_grows (Machine.in_loop o) _ _ (refl, λ i. refl)
inside_grows ss o DebuggerKey = (refl, λ i. refl)
inside_grows ss o w = operand_grows nothing (AsStatement ss o) w

shifted : {m n : ℕ} (r : Option State) → m ≡ n → Grows m r → Grows n r
shifted None h g = tt
shifted (Some s) h g = (g.0 ∙ ap (λ n. n + 1) h, g.1)

more_parameters_last : (i : ℕ) (xs : List (List ℕ)) (x : List ℕ) → more_parameters_end i (xs ++ x ∷ []) ≡ (more_parameters_end i xs + 1) + 1
more_parameters_last i [] x = refl
more_parameters_last i (y ∷ ys) x = more_parameters_last ((i + 1) + 1) ys x

pub grows : (s : State) (w : Word) → IsRegular s → Grows (size s) (step s w)
grows Start FunctionKey g = (refl, tt)
grows Start w g = tt
grows (Between fs) FunctionKey g = (refl, tt)
grows (Between fs) w g = tt
grows (AfterFunctionKey fs) (Name x) g = (refl, tt)
grows (AfterFunctionKey fs) w g = tt
grows (AfterFunctionName fs x) Open g = (refl, tt)
grows (AfterFunctionName fs x) w g = tt
grows (FirstParameter fs x) Close g = (refl, tt)
grows (FirstParameter fs x) (Name y) g = (refl, tt)
grows (FirstParameter fs x) w g = tt
grows (AfterParameter fs x []) w g = absurd g
grows (AfterParameter fs x (z ∷ zs)) Close g = (refl, tt)
grows (AfterParameter fs x (z ∷ zs)) Comma g = (refl, tt)
grows (AfterParameter fs x (z ∷ zs)) w g = tt
grows (AfterComma fs x []) w g = absurd g
grows (AfterComma fs x (z ∷ zs)) (Name y) g = (more_parameters_last _ zs y, tt)
grows (AfterComma fs x (z ∷ zs)) w g = tt
grows (BeforeBody fs x xs) OpenBlock g = (refl, tt)
grows (BeforeBody fs x xs) w g = tt
grows (Inside ss o) w g = inside_grows ss o w
grows (AfterThen c b ss o) ElseKey g = (refl, tt)
grows (AfterThen c b ss o) w g = shifted (Machine.inside (with_last ss (conditional c b)) o w) (trees_end_last (inside_place o) ss (conditional c b)) (inside_grows (with_last ss (conditional c b)) o w)
grows (AfterKey v ss o) Open g = (refl, tt)
grows (AfterKey v ss o) w g = tt
grows (AfterReturn ss o) Semicolon g = statement_grows ss o return_nothing _ refl
grows (AfterReturn ss o) w g = operand_grows nothing (AsValue ss o) w
grows (BeforeBlock h ss o) OpenBlock g = (refl, tt)
grows (BeforeBlock h ss o) w g = tt
grows (BeforeSemicolon s ss o) Semicolon g = statement_grows ss o s _ (sym (g (statement_place ss o)))
grows (BeforeSemicolon s ss o) w g = tt
grows (Wants p k) w g = operand_grows p k w
grows (MayWant p c k) Close g = (refl, tt)
grows (MayWant p c k) w g = operand_grows nothing (InArguments p c none k) w
grows (Named p x k) Becomes g = (refl, tt)
grows (Named p x k) w g = callable_grows p (name x) k w
grows (Callable p c k) w g = callable_grows p c k w
grows (Has p f k) w g = operand_after_grows p f k w
