-- The reader without trees does what the machine with trees does.
use Rattle.std.proofs.Common.{◌≡◌, ℕ, ◌+◌, Bool, true, false, List, [], ◌∷◌, ◌++◌, Option, Some, None, refl, sym, ap, ◌∙◌, append_assoc, arith}
use Rattle.pd_tree.specs.declared.kind.Operator.{Operator}
use Rattle.pd_turn.specs.declared.Node.{Node}
use Rattle.pd_sl_spell.specs.Words.{Comparing, Adding, Multiplying, Word, Name, Number, Text, Or, And, Compares, Adds, Multiplies, Becomes, Open, Close, OpenBlock, CloseBlock, Comma, Semicolon, FunctionKey, WhileKey, IfKey, ElseKey, ReturnKey, BreakKey, ContinueKey, DebuggerKey, Tree, name, parens, call, assign, while, conditional, conditional_else, return_nothing, return, break, continue, debugger, expression_statement, block, function, Trees, none, also, with_last}
use Rattle.pd_sl_spell.specs.Machine
use Rattle.pd_sl_spell.specs.Machine.{Waiting, nothing, either_of, both_of, compared_of, sum_of, product_of, term_of, arithmetic_of, logic_factor_of, logic_term_of, whole, Head, OfWhile, OfThen, OfElse, Keyword, ForWhile, ForIf, Around, Body, Within, Stack, AsStatement, AsValue, AsCondition, InParens, InArguments, InAssignment, State, Start, Between, AfterFunctionKey, AfterFunctionName, FirstParameter, AfterParameter, AfterComma, BeforeBody, Inside, AfterThen, AfterKey, AfterReturn, BeforeBlock, BeforeSemicolon, Wants, MayWant, Named, Callable, Has, ends, comparing, after_operand, after_callable, closed_block, in_a_loop, step}
use Rattle.pd_sl_read.specs.declared.parts.Shape.TheVariants as shapes
use Rattle.pd_sl_read.specs.declared.parts.Part.{Part}
use Rattle.pd_sl_read.specs.declared.parts.Levels.{Levels}
use Rattle.pd_sl_read.specs.declared.parts.Frame.{Frame}
use Rattle.pd_sl_read.specs.declared.parts.Frame.TheVariants as frames
use Rattle.pd_sl_read.specs.declared.parts.Mode.{Mode}
use Rattle.pd_sl_read.specs.declared.parts.Mode.TheVariants as modes
use Rattle.pd_sl_read.specs.declared.parts.Head.TheVariants as heads
use Rattle.pd_sl_read.specs.Held.{Held, holding, node, fresh, or_waits, and_waits, compare_waits, sum_waits, product_waits, operator_node, term_folded, arithmetic_folded, logic_term_folded, expression_folded, counted_top, assignments_ended, ended, where_allowed, taken}
use Rattle.pd_sl_read.specs.Held as twin
use Rattle.pd_sl_read.specs.Places.{comparison, addition, multiplication, end_of, arguments_end, more_arguments_end, trees_end, count, length_of, post, argument_posts, more_argument_posts, posts, body_place}
use Rattle.pd_sl_read.specs.Behind.{shape, left_tree, behind, with_waiting, and_place, compare_place, sum_place, product_place, operand_place, to_and, to_compare, to_sum, to_product, waits, where_waiting, operator_of, levels, condition_end, block_place, head_posts, inside_place, around_posts, around_head, block_of, outer_frames, block_frames, statement_place, statement_posts, argument_place, expression_place, stack_posts, stack_frames, size, operand_posts, operand_levels, held, held_option}

abbrev pub Nodes : Type 0
Nodes = List (Node Part)

pub append_none : (xs : Nodes) → xs ++ [] ≡ xs
append_none [] = refl
append_none (x ∷ xs) = ap (λ ys. x ∷ ys) (append_none xs)

-- One tree more.
pub posts_last : (i : ℕ) (ts : Trees) (t : Tree) → posts i (with_last ts t) ≡ posts i ts ++ post (trees_end i ts) t
posts_last i none t = append_none (post i t)
posts_last i (also s ss) t = ap (λ x. post i s ++ x) (posts_last (end_of i s) ss t) ∙ sym (append_assoc (post i s) (posts (end_of i s) ss) (post (trees_end (end_of i s) ss) t))

pub trees_end_last : (i : ℕ) (ts : Trees) (t : Tree) → trees_end i (with_last ts t) ≡ end_of (trees_end i ts) t
trees_end_last i none t = refl
trees_end_last i (also s ss) t = trees_end_last (end_of i s) ss t

pub count_last : (ts : Trees) (t : Tree) → count (with_last ts t) ≡ count ts + 1
count_last none t = refl
count_last (also s ss) t = ap (λ n. n + 1) (count_last ss t)

more_arguments_end_last : (i : ℕ) (es : Trees) (e : Tree) → more_arguments_end i (with_last es e) ≡ end_of (more_arguments_end i es) e + 1
more_arguments_end_last i none e = refl
more_arguments_end_last i (also x xs) e = more_arguments_end_last (end_of (i + 1) x) xs e

pub argument_place_last : (i : ℕ) (es : Trees) (e : Tree) → argument_place i (with_last es e) ≡ end_of (argument_place i es) e + 1
argument_place_last i none e = refl
argument_place_last i (also x xs) e = more_arguments_end_last (end_of i x) xs e

pub arguments_end_last : (i : ℕ) (es : Trees) (e : Tree) → arguments_end i (with_last es e) ≡ end_of (argument_place i es) e + 1
arguments_end_last i none e = refl
arguments_end_last i (also x xs) e = more_arguments_end_last (end_of i x) xs e

more_argument_posts_last : (i : ℕ) (es : Trees) (e : Tree) → more_argument_posts i (with_last es e) ≡ more_argument_posts i es ++ post (more_arguments_end i es) e
more_argument_posts_last i none e = append_none (post (i + 1) e)
more_argument_posts_last i (also x xs) e = ap (λ ns. post (i + 1) x ++ ns) (more_argument_posts_last (end_of (i + 1) x) xs e) ∙ sym (append_assoc (post (i + 1) x) (more_argument_posts (end_of (i + 1) x) xs) (post (more_arguments_end (end_of (i + 1) x) xs) e))

argument_posts_last : (i : ℕ) (es : Trees) (e : Tree) → argument_posts i (with_last es e) ≡ argument_posts i es ++ post (argument_place i es) e
argument_posts_last i none e = append_none (post i e)
argument_posts_last i (also x xs) e = ap (λ ns. post i x ++ ns) (more_argument_posts_last (end_of i x) xs e) ∙ sym (append_assoc (post i x) (more_argument_posts (end_of i x) xs) (post (more_arguments_end (end_of i x) xs) e))

-- Where the part at each level ends.
product_end : (i : ℕ) (p : Option (Multiplying × Tree)) (f : Tree) → end_of (behind i (left_tree p)) f ≡ end_of i (product_of p f)
product_end i None f = refl
product_end i (Some a) f = refl

sum_end : (i : ℕ) (p : Option (Adding × Tree)) (f : Tree) → end_of (behind i (left_tree p)) f ≡ end_of i (sum_of p f)
sum_end i None f = refl
sum_end i (Some a) f = refl

compared_end : (i : ℕ) (p : Option (Comparing × Tree)) (f : Tree) → end_of (behind i (left_tree p)) f ≡ end_of i (compared_of p f)
compared_end i None f = refl
compared_end i (Some a) f = refl

both_end : (i : ℕ) (p : Option Tree) (f : Tree) → end_of (behind i p) f ≡ end_of i (both_of p f)
both_end i None f = refl
both_end i (Some a) f = refl

either_end : (i : ℕ) (p : Option Tree) (f : Tree) → end_of (behind i p) f ≡ end_of i (either_of p f)
either_end i None f = refl
either_end i (Some a) f = refl

pub term_end : (i : ℕ) (p : Waiting) (f : Tree) → end_of (operand_place i p) f ≡ end_of (product_place i p) (term_of p f)
term_end i p f = product_end (product_place i p) p.product f

pub arithmetic_end : (i : ℕ) (p : Waiting) (f : Tree) → end_of (operand_place i p) f ≡ end_of (sum_place i p) (arithmetic_of p f)
arithmetic_end i p f = term_end i p f ∙ sum_end (sum_place i p) p.sum (term_of p f)

logic_factor_end : (i : ℕ) (p : Waiting) (f : Tree) → end_of (operand_place i p) f ≡ end_of (compare_place i p) (logic_factor_of p f)
logic_factor_end i p f = arithmetic_end i p f ∙ compared_end (compare_place i p) p.compare (arithmetic_of p f)

pub logic_term_end : (i : ℕ) (p : Waiting) (f : Tree) → end_of (operand_place i p) f ≡ end_of (and_place i p) (logic_term_of p f)
logic_term_end i p f = logic_factor_end i p f ∙ both_end (and_place i p) p.and (logic_factor_of p f)

pub whole_end : (i : ℕ) (p : Waiting) (f : Tree) → end_of (operand_place i p) f ≡ end_of i (whole p f)
whole_end i p f = logic_term_end i p f ∙ either_end i p.or (logic_term_of p f)

-- The nodes of the part at each level.
joined : (ns as' bs : Nodes) (c : Node Part) → ((ns ++ as') ++ bs) ++ c ∷ [] ≡ ns ++ ((as' ++ bs) ++ c ∷ [])
joined ns as' bs c = simp append_assoc

product_done : (ns : Nodes) (i at : ℕ) (p : Option (Multiplying × Tree)) (f : Tree) → at ≡ end_of (behind i (left_tree p)) f → operator_node (operator_of multiplication p) i at (with_waiting ns i (left_tree p) ++ post (behind i (left_tree p)) f) ≡ ns ++ post i (product_of p f)
product_done ns i at None f h = refl
product_done ns i at (Some a) f h = ap (λ n. ((ns ++ post i a.1) ++ post (end_of i a.1 + 1) f) ++ node (shapes.Binary (multiplication a.0)) i n 2 ∷ []) h ∙ joined ns (post i a.1) (post (end_of i a.1 + 1) f) (node (shapes.Binary (multiplication a.0)) i (end_of (end_of i a.1 + 1) f) 2)

sum_done : (ns : Nodes) (i at : ℕ) (p : Option (Adding × Tree)) (f : Tree) → at ≡ end_of (behind i (left_tree p)) f → operator_node (operator_of addition p) i at (with_waiting ns i (left_tree p) ++ post (behind i (left_tree p)) f) ≡ ns ++ post i (sum_of p f)
sum_done ns i at None f h = refl
sum_done ns i at (Some a) f h = ap (λ n. ((ns ++ post i a.1) ++ post (end_of i a.1 + 1) f) ++ node (shapes.Binary (addition a.0)) i n 2 ∷ []) h ∙ joined ns (post i a.1) (post (end_of i a.1 + 1) f) (node (shapes.Binary (addition a.0)) i (end_of (end_of i a.1 + 1) f) 2)

compared_done : (ns : Nodes) (i at : ℕ) (p : Option (Comparing × Tree)) (f : Tree) → at ≡ end_of (behind i (left_tree p)) f → operator_node (operator_of comparison p) i at (with_waiting ns i (left_tree p) ++ post (behind i (left_tree p)) f) ≡ ns ++ post i (compared_of p f)
compared_done ns i at None f h = refl
compared_done ns i at (Some a) f h = ap (λ n. ((ns ++ post i a.1) ++ post (end_of i a.1 + 1) f) ++ node (shapes.Binary (comparison a.0)) i n 2 ∷ []) h ∙ joined ns (post i a.1) (post (end_of i a.1 + 1) f) (node (shapes.Binary (comparison a.0)) i (end_of (end_of i a.1 + 1) f) 2)

both_done : (ns : Nodes) (i at : ℕ) (p : Option Tree) (f : Tree) → at ≡ end_of (behind i p) f → operator_node (where_waiting shapes.And p) i at (with_waiting ns i p ++ post (behind i p) f) ≡ ns ++ post i (both_of p f)
both_done ns i at None f h = refl
both_done ns i at (Some a) f h = ap (λ n. ((ns ++ post i a) ++ post (end_of i a + 1) f) ++ node shapes.And i n 2 ∷ []) h ∙ joined ns (post i a) (post (end_of i a + 1) f) (node shapes.And i (end_of (end_of i a + 1) f) 2)

either_done : (ns : Nodes) (i at : ℕ) (p : Option Tree) (f : Tree) → at ≡ end_of (behind i p) f → operator_node (where_waiting shapes.Or p) i at (with_waiting ns i p ++ post (behind i p) f) ≡ ns ++ post i (either_of p f)
either_done ns i at None f h = refl
either_done ns i at (Some a) f h = ap (λ n. ((ns ++ post i a) ++ post (end_of i a + 1) f) ++ node shapes.Or i n 2 ∷ []) h ∙ joined ns (post i a) (post (end_of i a + 1) f) (node shapes.Or i (end_of (end_of i a + 1) f) 2)

term_done : (ns : Nodes) (i at : ℕ) (p : Waiting) (f : Tree) → at ≡ end_of (operand_place i p) f → term_folded (levels i p) at (waits ns i p ++ post (operand_place i p) f) ≡ to_product ns i p ++ post (product_place i p) (term_of p f)
term_done ns i at p f h = product_done (to_product ns i p) (product_place i p) at p.product f h

arithmetic_done : (ns : Nodes) (i at : ℕ) (p : Waiting) (f : Tree) → at ≡ end_of (operand_place i p) f → arithmetic_folded (levels i p) at (waits ns i p ++ post (operand_place i p) f) ≡ to_sum ns i p ++ post (sum_place i p) (arithmetic_of p f)
arithmetic_done ns i at p f h =
    ap (operator_node (operator_of addition p.sum) (sum_place i p) at) (term_done ns i at p f h)
    ∙ sum_done (to_sum ns i p) (sum_place i p) at p.sum (term_of p f) (h ∙ term_end i p f)

logic_factor_done : (ns : Nodes) (i at : ℕ) (p : Waiting) (f : Tree) → at ≡ end_of (operand_place i p) f → operator_node (operator_of comparison p.compare) (compare_place i p) at (arithmetic_folded (levels i p) at (waits ns i p ++ post (operand_place i p) f)) ≡ to_compare ns i p ++ post (compare_place i p) (logic_factor_of p f)
logic_factor_done ns i at p f h =
    ap (operator_node (operator_of comparison p.compare) (compare_place i p) at) (arithmetic_done ns i at p f h)
    ∙ compared_done (to_compare ns i p) (compare_place i p) at p.compare (arithmetic_of p f) (h ∙ arithmetic_end i p f)

logic_term_done : (ns : Nodes) (i at : ℕ) (p : Waiting) (f : Tree) → at ≡ end_of (operand_place i p) f → logic_term_folded (levels i p) at (waits ns i p ++ post (operand_place i p) f) ≡ to_and ns i p ++ post (and_place i p) (logic_term_of p f)
logic_term_done ns i at p f h =
    ap (operator_node (where_waiting shapes.And p.and) (and_place i p) at) (logic_factor_done ns i at p f h)
    ∙ both_done (to_and ns i p) (and_place i p) at p.and (logic_factor_of p f) (h ∙ logic_factor_end i p f)

expression_done : (ns : Nodes) (i at : ℕ) (p : Waiting) (f : Tree) → at ≡ end_of (operand_place i p) f → expression_folded (levels i p) at (waits ns i p ++ post (operand_place i p) f) ≡ ns ++ post i (whole p f)
expression_done ns i at p f h =
    ap (operator_node (where_waiting shapes.Or p.or) i at) (logic_term_done ns i at p f h)
    ∙ either_done ns i at p.or (logic_term_of p f) (h ∙ logic_term_end i p f)

-- Statements.
statement_added : (ss : Trees) (o : Around) (t : Tree) → statement_posts ss o ++ post (statement_place ss o) t ≡ statement_posts (with_last ss t) o
statement_added ss o t = append_assoc (around_posts o) (posts (inside_place o) ss) (post (statement_place ss o) t) ∙ ap (λ ns. around_posts o ++ ns) (sym (posts_last (inside_place o) ss t))

counted_follows : (ss : Trees) (o : Around) (t : Tree) (v : Option ℕ) → counted_top (frames.Block (block_of o (count ss) v) ∷ outer_frames o) ≡ block_frames o (with_last ss t) None
counted_follows ss o t v = ap (λ n. frames.Block (block_of o n None) ∷ outer_frames o) (sym (count_last ss t))

statement_done : (ss : Trees) (o : Around) (t : Tree) (v : Option ℕ) (ns : Nodes) → ns ≡ statement_posts ss o ++ post (statement_place ss o) t → Some (holding modes.Inside (counted_top (block_frames o ss v)) ns) ≡ Some (held (Inside (with_last ss t) o))
statement_done ss o t v ns h =
    ap (λ k. Some (holding modes.Inside k ns)) (counted_follows ss o t v)
    ∙ ap (λ xs. Some (holding modes.Inside (block_frames o (with_last ss t) None) xs)) (h ∙ statement_added ss o t)

one_more : (ns as' : Nodes) (c : Node Part) → (ns ++ as') ++ c ∷ [] ≡ ns ++ (as' ++ c ∷ [])
one_more ns as' c = append_assoc ns as' (c ∷ [])

two_more : (n : ℕ) → n + 2 ≡ (n + 1) + 1
two_more n = omega arith

call_regroup : (ns cs es e : Nodes) (x : Node Part) → (((ns ++ cs) ++ es) ++ e) ++ x ∷ [] ≡ ns ++ ((cs ++ (es ++ e)) ++ x ∷ [])
call_regroup ns cs es e x = simp append_assoc

-- A call of which the last argument ends.
call_done : (ns : Nodes) (i at : ℕ) (c : Tree) (es : Trees) (e : Tree) (xs : Nodes) → at ≡ end_of (argument_place (end_of i c + 1) es) e → xs ≡ ((ns ++ post i c) ++ argument_posts (end_of i c + 1) es) ++ post (argument_place (end_of i c + 1) es) e → xs ++ node shapes.Call i (at + 1) (count es + 2) ∷ [] ≡ ns ++ post i (call c (with_last es e))
call_done ns i at c es e xs h g =
    let j = end_of i c + 1 in
    let last = post (argument_place j es) e in
    ap (λ n. xs ++ node shapes.Call i n (count es + 2) ∷ []) (ap (λ n. n + 1) h ∙ sym (arguments_end_last j es e))
    ∙ ap (λ n. xs ++ node shapes.Call i (arguments_end j (with_last es e)) n ∷ []) (two_more (count es) ∙ ap (λ n. n + 1) (sym (count_last es e)))
    ∙ ap (λ ys. ys ++ node shapes.Call i (arguments_end j (with_last es e)) (count (with_last es e) + 1) ∷ []) g
    ∙ call_regroup ns (post i c) (argument_posts j es) last (node shapes.Call i (arguments_end j (with_last es e)) (count (with_last es e) + 1))
    ∙ ap (λ ys. ns ++ ((post i c ++ ys) ++ node shapes.Call i (arguments_end j (with_last es e)) (count (with_last es e) + 1) ∷ [])) (sym (argument_posts_last j es e))

wants_same : (g : ℕ → Levels) (k : List Frame) {m n : ℕ} {xs ys : Nodes} → m ≡ n → xs ≡ ys → Some (holding (modes.Wants (g m)) k xs) ≡ Some (holding (modes.Wants (g n)) k ys)
wants_same g k {m = m} {ys = ys} p q = ap (λ xs. Some (holding (modes.Wants (g m)) k xs)) q ∙ ap (λ n. Some (holding (modes.Wants (g n)) k ys)) p

-- A word that ends an expression.
ended_follows : (k : Stack) (e : Tree) (w : Word) (at : ℕ) (ns : Nodes) → at ≡ end_of (expression_place k) e → ns ≡ stack_posts k ++ post (expression_place k) e → ended at (shape w) (stack_frames k) ns ≡ held_option (ends k e w)
unfolding assignments_ended
ended_follows (AsStatement ss o) e Semicolon at ns h g = statement_done ss o (expression_statement e) None ns g
ended_follows (AsStatement ss o) e w at ns h g = refl
ended_follows (AsValue ss o) e Semicolon at ns h g =
    statement_done ss o (return e) (Some (statement_place ss o)) (ns ++ node shapes.Return (statement_place ss o) at 1 ∷ [])
    (ap (λ n. ns ++ node shapes.Return (statement_place ss o) n 1 ∷ []) h
    ∙ ap (λ xs. xs ++ node shapes.Return (statement_place ss o) (end_of (statement_place ss o + 1) e) 1 ∷ []) g
    ∙ one_more (statement_posts ss o) (post (statement_place ss o + 1) e) (node shapes.Return (statement_place ss o) (end_of (statement_place ss o + 1) e) 1))
ended_follows (AsValue ss o) e w at ns h g = refl
ended_follows (AsCondition ForWhile ss o) e Close at ns h g = ap (λ xs. Some (holding (modes.BeforeBlock heads.While (statement_place ss o)) (block_frames o ss None) xs)) g
ended_follows (AsCondition ForIf ss o) e Close at ns h g = ap (λ xs. Some (holding (modes.BeforeBlock heads.Then (statement_place ss o)) (block_frames o ss None) xs)) g
ended_follows (AsCondition v ss o) e w at ns h g = refl
ended_follows (InParens p k) e Close at ns h g = ap (λ xs. Some (holding (modes.Has (operand_levels p k)) (stack_frames k) xs)) g
ended_follows (InParens p k) e w at ns h g = refl
ended_follows (InArguments p c es k) e Close at ns h g = ap (λ xs. Some (holding (modes.Callable (operand_levels p k)) (stack_frames k) xs)) (call_done (operand_posts p k) (operand_place (expression_place k) p) at c es e ns h g)
ended_follows (InArguments p c es k) e Comma at ns h g =
    let i = operand_place (expression_place k) p in
    let j = end_of i c + 1 in
    wants_same fresh (frames.Arguments (operand_levels p k) (count es + 1) ∷ stack_frames k) (ap (λ n. n + 1) h ∙ sym (argument_place_last j es e)) (g ∙ append_assoc (operand_posts p k ++ post i c) (argument_posts j es) (post (argument_place j es) e) ∙ ap (λ xs. (operand_posts p k ++ post i c) ++ xs) (sym (argument_posts_last j es e)))
    ∙ ap (λ n. Some (holding (modes.Wants (fresh (argument_place j (with_last es e)))) (frames.Arguments (operand_levels p k) n ∷ stack_frames k) ((operand_posts p k ++ post i c) ++ argument_posts j (with_last es e)))) (sym (count_last es e))
ended_follows (InArguments p c es k) e w at ns h g = refl
ended_follows (InAssignment p x k) e w at ns h g =
    let i = expression_place k in
    let j = operand_place i p in
    ended_follows k (whole p (assign x e)) w at _ (h ∙ whole_end i p (assign x e))
    (ap (λ xs. expression_folded (levels i p) at xs) (ap (λ n. ns ++ node shapes.Assign j n 1 ∷ []) h ∙ ap (λ xs. xs ++ node shapes.Assign j (end_of ((j + 1) + 1) e) 1 ∷ []) g ∙ one_more (operand_posts p k) (post ((j + 1) + 1) e) (node shapes.Assign j (end_of ((j + 1) + 1) e) 1))
    ∙ expression_done (stack_posts k) i at p (assign x e) h)

-- A word behind an operand.
compares_follows : (o a : Option Tree) (c : Option (Comparing × Tree)) (s : Option (Adding × Tree)) (m : Option (Multiplying × Tree)) (b : Comparing) (f : Tree) (k : Stack) →
    let p : Waiting = record { or = o; and = a; compare = c; sum = s; product = m } in
    twin.compared (operator_of comparison c) (size (Has p f k)) (comparison b) (operand_levels p k) (stack_frames k) (operand_posts p k ++ post (operand_place (expression_place k) p) f) ≡ held_option (comparing p c b (arithmetic_of p f) k)
compares_follows o a None s m b f k =
    let p : Waiting = record { or = o; and = a; compare = None; sum = s; product = m } in
    let i = expression_place k in
    wants_same (compare_waits (comparison b) (levels i p)) (stack_frames k) (ap (λ n. n + 1) (arithmetic_end i p f)) (arithmetic_done (stack_posts k) i _ p f refl)
compares_follows o a (Some c) s m b f k = refl

operated_follows : (p : Waiting) (f : Tree) (k : Stack) (w : Word) → twin.operated (size (Has p f k)) (shape w) (operand_levels p k) (stack_frames k) (operand_posts p k ++ post (operand_place (expression_place k) p) f) ≡ held_option (after_operand p f k w)
operated_follows p f k Or =
    let i = expression_place k in
    wants_same (or_waits (levels i p)) (stack_frames k) (ap (λ n. n + 1) (whole_end i p f)) (expression_done (stack_posts k) i _ p f refl)
operated_follows p f k And =
    let i = expression_place k in
    wants_same (and_waits (levels i p)) (stack_frames k) (ap (λ n. n + 1) (logic_term_end i p f)) (logic_term_done (stack_posts k) i _ p f refl)
operated_follows p f k (Compares o) = compares_follows p.or p.and p.compare p.sum p.product o f k
operated_follows p f k (Adds o) =
    let i = expression_place k in
    wants_same (sum_waits (addition o) (levels i p)) (stack_frames k) (ap (λ n. n + 1) (arithmetic_end i p f)) (arithmetic_done (stack_posts k) i _ p f refl)
operated_follows p f k (Multiplies o) =
    let i = expression_place k in
    wants_same (product_waits (multiplication o) (levels i p)) (stack_frames k) (ap (λ n. n + 1) (term_end i p f)) (term_done (stack_posts k) i _ p f refl)
operated_follows p f k w =
    let i = expression_place k in
    ended_follows k (whole p f) w (size (Has p f k)) _ (whole_end i p f) (expression_done (stack_posts k) i _ p f refl)

called_follows : (p : Waiting) (f : Tree) (k : Stack) (w : Word) → twin.called (size (Has p f k)) (shape w) (operand_levels p k) (stack_frames k) (operand_posts p k ++ post (operand_place (expression_place k) p) f) ≡ held_option (after_callable p f k w)
called_follows p f k Open = refl
called_follows p f k w = operated_follows p f k w

-- A word where an operand comes.
operand_follows : (p : Waiting) (k : Stack) (w : Word) → twin.operand (operand_place (expression_place k) p) (shape w) (operand_levels p k) (stack_frames k) (operand_posts p k) ≡ held_option (Machine.operand p k w)
operand_follows p k (Name x) = refl
operand_follows p k (Number n) = refl
operand_follows p k (Text s) = refl
operand_follows p k Open = refl
operand_follows p k w = refl

argument_follows : (p : Waiting) (c : Tree) (k : Stack) (w : Word) → twin.operand (size (MayWant p c k)) (shape w) (fresh (size (MayWant p c k))) (frames.Arguments (operand_levels p k) 0 ∷ stack_frames k) (operand_posts p k ++ post (operand_place (expression_place k) p) c) ≡ held_option (Machine.operand nothing (InArguments p c none k) w)
argument_follows p c k w =
    ap (λ ns. twin.operand (size (MayWant p c k)) (shape w) (fresh (size (MayWant p c k))) (frames.Arguments (operand_levels p k) 0 ∷ stack_frames k) ns) (sym (append_none (operand_posts p k ++ post (operand_place (expression_place k) p) c)))
    ∙ operand_follows nothing (InArguments p c none k) w

empty_regroup : (ns cs : Nodes) (x : Node Part) → (ns ++ cs) ++ x ∷ [] ≡ ns ++ ((cs ++ []) ++ x ∷ [])
empty_regroup ns cs x = rw append_none (append_assoc ns cs (x ∷ []))

-- Blocks.
body_regroup : (ns as' : Nodes) (x y : Node Part) → ((ns ++ as') ++ x ∷ []) ++ y ∷ [] ≡ ns ++ ((as' ++ x ∷ []) ++ y ∷ [])
body_regroup ns as' x y = simp append_assoc

block_regroup : (ns cs as' : Nodes) (x : Node Part) → ((ns ++ cs) ++ as') ++ x ∷ [] ≡ ns ++ (cs ++ (as' ++ x ∷ []))
block_regroup ns cs as' x = simp append_assoc

statement_regroup : (ns cs as' : Nodes) (x y : Node Part) → (((ns ++ cs) ++ as') ++ x ∷ []) ++ y ∷ [] ≡ ns ++ ((cs ++ (as' ++ x ∷ [])) ++ y ∷ [])
statement_regroup ns cs as' x y = simp append_assoc

closed_follows : (o : Around) (ss : Trees) → Some (twin.block_done (statement_place ss o) (around_head o) (block_of o (count ss) None) (outer_frames o) (statement_posts ss o)) ≡ Some (held (closed_block o ss))
closed_follows (Body fs x xs) ss =
    let i = trees_end 0 fs in
    let j = body_place i xs in
    ap (λ ns. Some (holding modes.Between [] ns))
    (body_regroup (posts 0 fs) (posts (j + 1) ss) (node shapes.Body j (trees_end (j + 1) ss + 1) (count ss)) (node (shapes.Function (length_of xs)) i (trees_end (j + 1) ss + 1) 1)
    ∙ sym (posts_last 0 fs (function x xs (block ss))))
closed_follows (Within (OfWhile c) before o) ss =
    let i = statement_place before o in
    let j = condition_end i c in
    statement_done before o (while c (block ss)) None _ (statement_regroup (statement_posts before o) (post ((i + 1) + 1) c) (posts (j + 1) ss) (node shapes.Block j (trees_end (j + 1) ss + 1) (count ss)) (node shapes.While i (trees_end (j + 1) ss + 1) 2))
closed_follows (Within (OfThen c) before o) ss =
    let i = statement_place before o in
    let j = condition_end i c in
    ap (λ ns. Some (holding (modes.AfterThen i) (block_frames o before None) ns)) (block_regroup (statement_posts before o) (post ((i + 1) + 1) c) (posts (j + 1) ss) (node shapes.Block j (trees_end (j + 1) ss + 1) (count ss)))
closed_follows (Within (OfElse c b) before o) ss =
    let i = statement_place before o in
    let j = block_place i (OfElse c b) in
    statement_done before o (conditional_else c b (block ss)) None _ (statement_regroup (statement_posts before o) (head_posts i (OfElse c b)) (posts (j + 1) ss) (node shapes.Block j (trees_end (j + 1) ss + 1) (count ss)) (node shapes.If i (trees_end (j + 1) ss + 1) 3))

loop_follows : (b : Bool) (s : State) (h : Held) → h ≡ held s → where_allowed b h ≡ held_option (in_a_loop b s)
loop_follows true s h e = ap (λ x. Some x) e
loop_follows false s h e = refl

inside_follows : (ss : Trees) (o : Around) (w : Word) → twin.inside (statement_place ss o) (shape w) (block_frames o ss None) (statement_posts ss o) ≡ held_option (Machine.inside ss o w)
inside_follows ss o CloseBlock = closed_follows o ss
inside_follows ss o WhileKey = refl
inside_follows ss o IfKey = refl
inside_follows ss o ReturnKey = refl
inside_follows ss o BreakKey = loop_follows (Machine.in_loop o) (BeforeSemicolon break ss o) _ refl
inside_follows ss o ContinueKey = loop_follows (Machine.in_loop o) (BeforeSemicolon continue ss o) _ refl
inside_follows ss o DebuggerKey = refl
inside_follows ss o w = operand_follows nothing (AsStatement ss o) w

-- behind an `if` without `else`
after_then_follows : (c b : Tree) (ss : Trees) (o : Around) (w : Word) → let i = statement_place ss o in
    twin.inside (size (AfterThen c b ss o)) (shape w) (counted_top (block_frames o ss None)) ((statement_posts ss o ++ head_posts i (OfElse c b)) ++ node shapes.If i (size (AfterThen c b ss o)) 2 ∷ []) ≡ held_option (Machine.inside (with_last ss (conditional c b)) o w)
after_then_follows c b ss o w =
    let i = statement_place ss o in
    let at = size (AfterThen c b ss o) in
    let t = conditional c b in
    ap (λ k. twin.inside at (shape w) k ((statement_posts ss o ++ head_posts i (OfElse c b)) ++ node shapes.If i at 2 ∷ [])) (counted_follows ss o t None)
    ∙ ap (λ ns. twin.inside at (shape w) (block_frames o (with_last ss t) None) ns) (one_more (statement_posts ss o) (head_posts i (OfElse c b)) (node shapes.If i at 2) ∙ statement_added ss o t)
    ∙ ap (λ n. twin.inside n (shape w) (block_frames o (with_last ss t) None) (statement_posts (with_last ss t) o)) (sym (trees_end_last (inside_place o) ss t))
    ∙ inside_follows (with_last ss t) o w

begun_follows : (h : Head) (ss : Trees) (o : Around) → Some (holding modes.Inside (frames.Block (record { head = Rattle.pd_sl_read.specs.Behind.head h; first = statement_place ss o; brace = block_place (statement_place ss o) h; statements = 0; value_of = None; in_loop = twin.loops (Rattle.pd_sl_read.specs.Behind.head h) (Machine.in_loop o) }) ∷ block_frames o ss None) (statement_posts ss o ++ head_posts (statement_place ss o) h)) ≡ Some (held (Inside none (Within h ss o)))
begun_follows (OfWhile c) ss o = ap (λ ns. Some (holding modes.Inside (block_frames (Within (OfWhile c) ss o) none None) ns)) (sym (append_none _))
begun_follows (OfThen c) ss o = ap (λ ns. Some (holding modes.Inside (block_frames (Within (OfThen c) ss o) none None) ns)) (sym (append_none _))
begun_follows (OfElse c b) ss o = ap (λ ns. Some (holding modes.Inside (block_frames (Within (OfElse c b) ss o) none None) ns)) (sym (append_none _))

length_last : (xs : List (List ℕ)) (x : List ℕ) → length_of xs + 1 ≡ length_of (xs ++ x ∷ [])
length_last [] x = refl
length_last (y ∷ ys) x = ap (λ n. n + 1) (length_last ys x)

-- The reader takes a word as the machine does.
pub follows : (s : State) (w : Word) → taken (size s) (held s) (shape w) ≡ held_option (step s w)
follows Start FunctionKey = refl
follows Start w = refl
follows (Between fs) FunctionKey = refl
follows (Between fs) w = refl
follows (AfterFunctionKey fs) (Name x) = refl
follows (AfterFunctionKey fs) w = refl
follows (AfterFunctionName fs x) Open = refl
follows (AfterFunctionName fs x) w = refl
follows (FirstParameter fs x) Close = refl
follows (FirstParameter fs x) (Name y) = refl
follows (FirstParameter fs x) w = refl
follows (AfterParameter fs x xs) Close = refl
follows (AfterParameter fs x xs) Comma = refl
follows (AfterParameter fs x xs) w = refl
follows (AfterComma fs x xs) (Name y) = ap (λ n. Some (holding (modes.AfterParameter (trees_end 0 fs) n) [] (posts 0 fs))) (length_last xs y)
follows (AfterComma fs x xs) w = refl
follows (BeforeBody fs x xs) OpenBlock = ap (λ ns. Some (holding modes.Inside (block_frames (Body fs x xs) none None) ns)) (sym (append_none (posts 0 fs)))
follows (BeforeBody fs x xs) w = refl
follows (Inside ss o) w = inside_follows ss o w
follows (AfterThen c b ss o) ElseKey = refl
follows (AfterThen c b ss o) w = after_then_follows c b ss o w
follows (AfterKey v ss o) Open = refl
follows (AfterKey v ss o) w = refl
follows (AfterReturn ss o) Semicolon = statement_done ss o return_nothing None _ refl
follows (AfterReturn ss o) w = operand_follows nothing (AsValue ss o) w
follows (BeforeBlock h ss o) OpenBlock = begun_follows h ss o
follows (BeforeBlock h ss o) w = refl
follows (BeforeSemicolon s ss o) Semicolon = statement_done ss o s None _ refl
follows (BeforeSemicolon s ss o) w = refl
follows (Wants p k) w = operand_follows p k w
follows (MayWant p c k) Close = ap (λ ns. Some (holding (modes.Callable (operand_levels p k)) (stack_frames k) ns)) (empty_regroup (operand_posts p k) (post (operand_place (expression_place k) p) c) (node shapes.Call (operand_place (expression_place k) p) (size (MayWant p c k) + 1) 1))
follows (MayWant p c k) w = argument_follows p c k w
follows (Named p x k) Becomes = refl
follows (Named p x k) w = called_follows p (name x) k w
follows (Callable p c k) w = called_follows p c k w
follows (Has p f k) w = operated_follows p f k w
