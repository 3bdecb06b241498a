-- Counts are at most the number of words taken, and the depth is the number of frames.
use Rattle.std.proofs.Common.{◌≡◌, ℕ, suc, ◌+◌, ◌<◌, ◌≤◌, ◌^◌, Bool, true, false, List, [], ◌∷◌, ◌++◌, length, Option, Some, None, refl, sym, ap, ◌∙◌, length-append, arith}
use Rattle.std.specs.Prelude.{All, nat_lt}
use Rattle.std.proofs.lemmas.List.Elements.{All-cons}
use Rattle.pd_turn.specs.declared.Node.{Node}
use Rattle.pd_sl_spell.specs.Words.{Tree, name, number, text, parens, call, assign, either, both, compared, sum, product, while, conditional, conditional_else, return_nothing, return, break, continue, debugger, expression_statement, block, function, Trees, none, also}
use Rattle.pd_sl_spell.specs.Machine.{Waiting, OfWhile, OfThen, OfElse, Head, Around, Body, Within, Stack, AsStatement, AsValue, AsCondition, InParens, InArguments, InAssignment, State, Start, Between, AfterFunctionKey, AfterFunctionName, FirstParameter, AfterParameter, AfterComma, BeforeBody, Inside, AfterThen, AfterKey, AfterReturn, BeforeBlock, BeforeSemicolon, Wants, MayWant, Named, Callable, Has}
use Rattle.pd_sl_spell.specs.Refusals.{Opener, nodes, all_nodes}
use Rattle.pd_sl_spell.specs.Reading.{around_openers, stack_openers, openers}
use Rattle.pd_sl_read.specs.declared.parts.Part.{Part}
use Rattle.pd_sl_read.specs.declared.parts.Shape.{Shape}
use Rattle.pd_sl_read.specs.declared.parts.Shape.TheVariants as shapes
use Rattle.pd_sl_read.specs.declared.parts.Frame.{Frame}
use Rattle.pd_sl_read.specs.declared.parts.Frame.TheVariants as frames
use Rattle.pd_sl_read.specs.Held.{count_of, parameters_in, HasRoom}
use Rattle.pd_sl_read.specs.Places.{end_of, arguments_end, more_arguments_end, trees_end, more_parameters_end, parameters_end, body_place, count, length_of, post_as, argument_posts, more_argument_posts, posts}
use Rattle.pd_sl_read.specs.Behind.{behind, left_tree, and_place, compare_place, sum_place, product_place, operand_place, levels, condition_end, block_place, keyword, inside_place, block_of, outer_frames, block_frames, statement_place, argument_place, expression_place, stack_frames, size, held}
use Rattle.pd_sl_read.proofs.Follows.{Nodes}

parameters_grow : (i : ℕ) (xs : List (List ℕ)) → i + length_of xs ≤ more_parameters_end i xs
parameters_grow i [] = omega arith
parameters_grow i (x ∷ xs) = omega (arith, parameters_grow ((i + 1) + 1) xs)

some_parameters_grow : (i : ℕ) (xs : List (List ℕ)) → i + length_of xs ≤ parameters_end i xs
some_parameters_grow i [] = omega arith
some_parameters_grow i (x ∷ xs) = omega (arith, parameters_grow (i + 1) xs)

body_grows : (i : ℕ) (xs : List (List ℕ)) → i + length_of xs ≤ body_place i xs
body_grows i xs = omega (arith, some_parameters_grow (((i + 1) + 1) + 1) xs)

-- A tree has a word at least.
mutual
  tree_grows : (i : ℕ) (t : Tree) → i + 1 ≤ end_of i t
  tree_grows i (name x) = omega arith
  tree_grows i (number n) = omega arith
  tree_grows i (text s) = omega arith
  tree_grows i (parens e) = omega (arith, tree_grows (i + 1) e)
  tree_grows i (call c es) = omega (arith, tree_grows i c, arguments_grow (end_of i c + 1) es)
  tree_grows i (assign x e) = omega (arith, tree_grows ((i + 1) + 1) e)
  tree_grows i (either a b) = omega (arith, tree_grows i a, tree_grows (end_of i a + 1) b)
  tree_grows i (both a b) = omega (arith, tree_grows i a, tree_grows (end_of i a + 1) b)
  tree_grows i (compared o a b) = omega (arith, tree_grows i a, tree_grows (end_of i a + 1) b)
  tree_grows i (sum o a b) = omega (arith, tree_grows i a, tree_grows (end_of i a + 1) b)
  tree_grows i (product o a b) = omega (arith, tree_grows i a, tree_grows (end_of i a + 1) b)
  tree_grows i (while c b) = omega (arith, tree_grows ((i + 1) + 1) c, tree_grows (end_of ((i + 1) + 1) c + 1) b)
  tree_grows i (conditional c b) = omega (arith, tree_grows ((i + 1) + 1) c, tree_grows (end_of ((i + 1) + 1) c + 1) b)
  tree_grows i (conditional_else c b d) = omega (arith, tree_grows ((i + 1) + 1) c, tree_grows (end_of ((i + 1) + 1) c + 1) b, tree_grows (end_of (end_of ((i + 1) + 1) c + 1) b + 1) d)
  tree_grows i return_nothing = omega arith
  tree_grows i (return e) = omega (arith, tree_grows (i + 1) e)
  tree_grows i break = omega arith
  tree_grows i continue = omega arith
  tree_grows i debugger = omega arith
  tree_grows i (expression_statement e) = omega (arith, tree_grows i e)
  tree_grows i (block ss) = omega (arith, trees_grow (i + 1) ss)
  tree_grows i (function x xs b) = omega (arith, body_grows i xs, tree_grows (body_place i xs) b)

  arguments_grow : (i : ℕ) (es : Trees) → i + count es ≤ arguments_end i es
  arguments_grow i none = omega arith
  arguments_grow i (also e es) = omega (arith, tree_grows i e, more_arguments_grow (end_of i e) es)

  more_arguments_grow : (i : ℕ) (es : Trees) → i + count es ≤ more_arguments_end i es
  more_arguments_grow i none = omega arith
  more_arguments_grow i (also e es) = omega (arith, tree_grows (i + 1) e, more_arguments_grow (end_of (i + 1) e) es)

  trees_grow : (i : ℕ) (ts : Trees) → i + count ts ≤ trees_end i ts
  trees_grow i none = omega arith
  trees_grow i (also t ts) = omega (arith, tree_grows i t, trees_grow (end_of i t) ts)

behind_grows : (i : ℕ) (p : Option Tree) → i ≤ behind i p
behind_grows i None = omega arith
behind_grows i (Some a) = omega (arith, tree_grows i a)

operand_place_grows : (i : ℕ) (p : Waiting) → i ≤ operand_place i p
operand_place_grows i p = omega (arith, behind_grows i p.or, behind_grows (and_place i p) p.and, behind_grows (compare_place i p) (left_tree p.compare), behind_grows (sum_place i p) (left_tree p.sum), behind_grows (product_place i p) (left_tree p.product))

argument_place_grows : (i : ℕ) (es : Trees) → i + count es ≤ argument_place i es
argument_place_grows i none = omega arith
argument_place_grows i (also e es) = omega (arith, tree_grows i e, more_arguments_grow (end_of i e) es)

block_place_grows : (i : ℕ) (h : Head) → i ≤ block_place i h
block_place_grows i (OfWhile c) = omega (arith, tree_grows ((i + 1) + 1) c)
block_place_grows i (OfThen c) = omega (arith, tree_grows ((i + 1) + 1) c)
block_place_grows i (OfElse c b) = omega (arith, tree_grows ((i + 1) + 1) c, tree_grows (condition_end i c) b)

abbrev pub Few : ℕ → List Frame → Type 0
Few n k = All (λ f. count_of f ≤ n) k

few_more : (m n : ℕ) (k : List Frame) → m ≤ n → Few m k → Few n k
few_more m n k h g = λ i d lt. omega (arith, g i d lt)

few_cons : (n : ℕ) (f : Frame) (k : List Frame) → count_of f ≤ n → Few n k → Few n (f ∷ k)
few_cons n f k h g = All-cons (λ f. count_of f ≤ n) f k h g

few_none : (n : ℕ) → Few n []
few_none n = λ i d lt. absurd (omega arith)

few_outer : (o : Around) → Few (inside_place o) (outer_frames o)
few_outer (Body fs x xs) = few_none _
few_outer (Within h ss o) =
    let grown : inside_place o + count ss ≤ inside_place (Within h ss o) = omega (arith, trees_grow (inside_place o) ss, block_place_grows (statement_place ss o) h) in
    few_cons _ (frames.Block (block_of o (count ss) None)) (outer_frames o) (omega arith) (few_more (inside_place o) _ (outer_frames o) (omega arith) (few_outer o))

few_block : (o : Around) (ss : Trees) (v : Option ℕ) → Few (statement_place ss o) (block_frames o ss v)
few_block o ss v =
    let grown : inside_place o + count ss ≤ statement_place ss o = trees_grow (inside_place o) ss in
    few_cons _ (frames.Block (block_of o (count ss) v)) (outer_frames o) (omega arith) (few_more (inside_place o) _ (outer_frames o) (omega arith) (few_outer o))

few_stack : (k : Stack) → Few (expression_place k) (stack_frames k)
few_stack (AsStatement ss o) = few_block o ss None
few_stack (AsValue ss o) = few_more (statement_place ss o) (statement_place ss o + 1) (block_frames o ss (Some (statement_place ss o))) (omega arith) (few_block o ss (Some (statement_place ss o)))
few_stack (AsCondition w ss o) =
    let n = (statement_place ss o + 1) + 1 in
    few_cons n (frames.Condition (keyword w) (statement_place ss o)) (block_frames o ss None) (omega arith) (few_more (statement_place ss o) n (block_frames o ss None) (omega arith) (few_block o ss None))
few_stack (InParens p k) =
    let n = operand_place (expression_place k) p + 1 in
    few_cons n (frames.Parens (levels (expression_place k) p)) (stack_frames k) (omega arith) (few_more (expression_place k) n (stack_frames k) (omega (arith, operand_place_grows (expression_place k) p)) (few_stack k))
few_stack (InArguments p c es k) =
    let i = operand_place (expression_place k) p in
    let n = argument_place (end_of i c + 1) es in
    let grown : (end_of i c + 1) + count es ≤ argument_place (end_of i c + 1) es = argument_place_grows (end_of i c + 1) es in
    let callee : i + 1 ≤ end_of i c = tree_grows i c in
    let below : expression_place k ≤ i = operand_place_grows (expression_place k) p in
    few_cons n (frames.Arguments (levels (expression_place k) p) (count es)) (stack_frames k) (omega arith) (few_more (expression_place k) n (stack_frames k) (omega arith) (few_stack k))
few_stack (InAssignment p x k) =
    let n = (operand_place (expression_place k) p + 1) + 1 in
    few_cons n (frames.Assignment (levels (expression_place k) p)) (stack_frames k) (omega arith) (few_more (expression_place k) n (stack_frames k) (omega (arith, operand_place_grows (expression_place k) p)) (few_stack k))

few_operand : (p : Waiting) (k : Stack) (n : ℕ) → operand_place (expression_place k) p ≤ n → Few n (stack_frames k)
few_operand p k n h = few_more (expression_place k) n (stack_frames k) (omega (arith, operand_place_grows (expression_place k) p)) (few_stack k)

few_behind : (ss : Trees) (o : Around) (n : ℕ) → statement_place ss o ≤ n → Few n (block_frames o ss None)
few_behind ss o n h = few_more (statement_place ss o) n (block_frames o ss None) h (few_block o ss None)

pub few : (s : State) → Few (size s) (held s).stack
few Start = few_none 0
few (Between fs) = few_none (trees_end 0 fs)
few (AfterFunctionKey fs) = few_none (size (AfterFunctionKey fs))
few (AfterFunctionName fs x) = few_none (size (AfterFunctionName fs x))
few (FirstParameter fs x) = few_none (size (FirstParameter fs x))
few (AfterParameter fs x xs) = few_none (size (AfterParameter fs x xs))
few (AfterComma fs x xs) = few_none (size (AfterComma fs x xs))
few (BeforeBody fs x xs) = few_none (size (BeforeBody fs x xs))
few (Inside ss o) = few_block o ss None
few (AfterThen c b ss o) = few_behind ss o (size (AfterThen c b ss o)) (omega (arith, tree_grows ((statement_place ss o + 1) + 1) c, tree_grows (condition_end (statement_place ss o) c) b))
few (AfterKey w ss o) = few_behind ss o (size (AfterKey w ss o)) (omega arith)
few (AfterReturn ss o) = few_behind ss o (size (AfterReturn ss o)) (omega arith)
few (BeforeBlock h ss o) = few_behind ss o (size (BeforeBlock h ss o)) (block_place_grows (statement_place ss o) h)
few (BeforeSemicolon s ss o) = few_behind ss o (size (BeforeSemicolon s ss o)) (omega arith)
few (Wants p k) = few_operand p k (size (Wants p k)) (omega arith)
few (MayWant p c k) = few_cons (size (MayWant p c k)) (frames.Arguments (levels (expression_place k) p) 0) (stack_frames k) (omega arith) (few_operand p k (size (MayWant p c k)) (omega (arith, tree_grows (operand_place (expression_place k) p) c)))
few (Named p x k) = few_operand p k (size (Named p x k)) (omega arith)
few (Callable p f k) = few_operand p k (size (Callable p f k)) (omega (arith, tree_grows (operand_place (expression_place k) p) f))
few (Has p f k) = few_operand p k (size (Has p f k)) (omega (arith, tree_grows (operand_place (expression_place k) p) f))

pub room_for : (s : State) → size s + 3 < 2 ^ 32 → HasRoom 3 (held s).stack
room_for s h = λ i d lt. omega (arith, few s i d lt)

pub few_parameters : (s : State) → parameters_in (held s).mode ≤ size s
few_parameters Start = omega arith
few_parameters (Between fs) = omega arith
few_parameters (AfterFunctionKey fs) = omega arith
few_parameters (AfterFunctionName fs x) = omega arith
few_parameters (FirstParameter fs x) = omega arith
few_parameters (AfterParameter fs x xs) = omega (arith, some_parameters_grow (((trees_end 0 fs + 1) + 1) + 1) xs)
few_parameters (AfterComma fs x xs) = omega (arith, some_parameters_grow (((trees_end 0 fs + 1) + 1) + 1) xs)
few_parameters (BeforeBody fs x xs) = omega arith
few_parameters (Inside ss o) = omega arith
few_parameters (AfterThen c b ss o) = omega arith
few_parameters (AfterKey w ss o) = omega arith
few_parameters (AfterReturn ss o) = omega arith
few_parameters (BeforeBlock h ss o) = omega arith
few_parameters (BeforeSemicolon s ss o) = omega arith
few_parameters (Wants p k) = omega arith
few_parameters (MayWant p c k) = omega arith
few_parameters (Named p x k) = omega arith
few_parameters (Callable p f k) = omega arith
few_parameters (Has p f k) = omega arith

-- The depth.
block_depth : (o : Around) (ss : Trees) (v : Option ℕ) → length (around_openers o) ≡ length (block_frames o ss v)
block_depth (Body fs x xs) ss v = refl
block_depth (Within h before o) ss v = ap (λ n. suc n) (block_depth o before None)

stack_depth : (k : Stack) → length (stack_openers k) ≡ length (stack_frames k)
stack_depth (AsStatement ss o) = block_depth o ss None
stack_depth (AsValue ss o) = block_depth o ss (Some (statement_place ss o))
stack_depth (AsCondition w ss o) = ap (λ n. suc n) (block_depth o ss None)
stack_depth (InParens p k) = ap (λ n. suc n) (stack_depth k)
stack_depth (InArguments p c es k) = ap (λ n. suc n) (stack_depth k)
stack_depth (InAssignment p x k) = ap (λ n. suc n) (stack_depth k)

pub depth : (s : State) → nat_lt 200 (length (openers s)) ≡ nat_lt 200 (length (held s).stack)
depth Start = refl
depth (Between fs) = refl
depth (AfterFunctionKey fs) = refl
depth (AfterFunctionName fs x) = refl
depth (FirstParameter fs x) = refl
depth (AfterParameter fs x xs) = refl
depth (AfterComma fs x xs) = refl
depth (BeforeBody fs x xs) = refl
depth (Inside ss o) = ap (nat_lt 200) (block_depth o ss None)
depth (AfterThen c b ss o) = ap (nat_lt 200) (block_depth o ss None)
depth (AfterKey w ss o) = ap (nat_lt 200) (block_depth o ss None)
depth (AfterReturn ss o) = ap (nat_lt 200) (block_depth o ss None)
depth (BeforeBlock h ss o) = ap (nat_lt 200) (block_depth o ss None)
depth (BeforeSemicolon s ss o) = ap (nat_lt 200) (block_depth o ss None)
depth (Wants p k) = ap (nat_lt 200) (stack_depth k)
depth (MayWant p c k) = ap (λ n. nat_lt 200 (suc n)) (stack_depth k)
depth (Named p x k) = ap (nat_lt 200) (stack_depth k)
depth (Callable p f k) = ap (nat_lt 200) (stack_depth k)
depth (Has p f k) = ap (nat_lt 200) (stack_depth k)

-- The number of nodes.
two_and : (as' bs : Nodes) (c : Node Part) → length ((as' ++ bs) ++ c ∷ []) ≡ (1 + length as') + length bs
two_and as' bs c = simp length-append (omega arith)

one_and : (as' : Nodes) (c : Node Part) → length (as' ++ c ∷ []) ≡ 1 + length as'
one_and as' c = simp length-append (omega arith)

three_and : (as' bs cs : Nodes) (x : Node Part) → length (((as' ++ bs) ++ cs) ++ x ∷ []) ≡ ((1 + length as') + length bs) + length cs
three_and as' bs cs x = simp length-append (omega arith)

both_counted : (as' bs : Nodes) (c : Node Part) (m n : ℕ) → length as' ≡ m → length bs ≡ n → length ((as' ++ bs) ++ c ∷ []) ≡ (1 + m) + n
both_counted as' bs c m n p q = two_and as' bs c ∙ ap (λ x. (1 + x) + length bs) p ∙ ap (λ x. (1 + m) + x) q

both_more : (as' bs : Nodes) (m n : ℕ) → length as' ≡ m → length bs ≡ n → length (as' ++ bs) ≡ m + n
both_more as' bs m n p q = length-append as' bs ∙ ap (λ x. x + length bs) p ∙ ap (λ x. m + x) q

three_counted : (as' bs cs : Nodes) (x : Node Part) (l m n : ℕ) → length as' ≡ l → length bs ≡ m → length cs ≡ n → length (((as' ++ bs) ++ cs) ++ x ∷ []) ≡ ((1 + l) + m) + n
three_counted as' bs cs x l m n p q r = three_and as' bs cs x ∙ ap (λ y. ((1 + y) + length bs) + length cs) p ∙ ap (λ y. ((1 + l) + y) + length cs) q ∙ ap (λ y. ((1 + l) + m) + y) r

mutual
  pub counted : (s : Shape) (i : ℕ) (t : Tree) → length (post_as s i t) ≡ nodes t
  counted s i (name x) = refl
  counted s i (number n) = refl
  counted s i (text t) = refl
  counted s i (parens e) = counted shapes.Block (i + 1) e
  counted s i (call c es) = both_counted _ _ _ _ _ (counted shapes.Block i c) (arguments_counted (end_of i c + 1) es)
  counted s i (assign x e) = one_and _ _ ∙ ap (λ n. 1 + n) (counted shapes.Block ((i + 1) + 1) e)
  counted s i (either a b) = both_counted _ _ _ _ _ (counted shapes.Block i a) (counted shapes.Block (end_of i a + 1) b)
  counted s i (both a b) = both_counted _ _ _ _ _ (counted shapes.Block i a) (counted shapes.Block (end_of i a + 1) b)
  counted s i (compared o a b) = both_counted _ _ _ _ _ (counted shapes.Block i a) (counted shapes.Block (end_of i a + 1) b)
  counted s i (sum o a b) = both_counted _ _ _ _ _ (counted shapes.Block i a) (counted shapes.Block (end_of i a + 1) b)
  counted s i (product o a b) = both_counted _ _ _ _ _ (counted shapes.Block i a) (counted shapes.Block (end_of i a + 1) b)
  counted s i (while c b) = both_counted _ _ _ _ _ (counted shapes.Block ((i + 1) + 1) c) (counted shapes.Block (end_of ((i + 1) + 1) c + 1) b)
  counted s i (conditional c b) = both_counted _ _ _ _ _ (counted shapes.Block ((i + 1) + 1) c) (counted shapes.Block (end_of ((i + 1) + 1) c + 1) b)
  counted s i (conditional_else c b d) =
      three_counted _ _ _ _ _ _ _ (counted shapes.Block ((i + 1) + 1) c) (counted shapes.Block (end_of ((i + 1) + 1) c + 1) b) (counted shapes.Block (end_of (end_of ((i + 1) + 1) c + 1) b + 1) d)
  counted s i return_nothing = refl
  counted s i (return e) = one_and _ _ ∙ ap (λ n. 1 + n) (counted shapes.Block (i + 1) e)
  counted s i break = refl
  counted s i continue = refl
  counted s i debugger = refl
  counted s i (expression_statement e) = counted shapes.Block i e
  counted s i (block ss) = one_and _ _ ∙ ap (λ n. 1 + n) (all_counted (i + 1) ss)
  counted s i (function x xs b) = one_and _ _ ∙ ap (λ n. 1 + n) (counted shapes.Body (body_place i xs) b)

  arguments_counted : (i : ℕ) (es : Trees) → length (argument_posts i es) ≡ all_nodes es
  arguments_counted i none = refl
  arguments_counted i (also e es) = both_more _ _ _ _ (counted shapes.Block i e) (more_arguments_counted (end_of i e) es)

  more_arguments_counted : (i : ℕ) (es : Trees) → length (more_argument_posts i es) ≡ all_nodes es
  more_arguments_counted i none = refl
  more_arguments_counted i (also e es) = both_more _ _ _ _ (counted shapes.Block (i + 1) e) (more_arguments_counted (end_of (i + 1) e) es)

  pub all_counted : (i : ℕ) (ts : Trees) → length (posts i ts) ≡ all_nodes ts
  all_counted i none = refl
  all_counted i (also t ts) = both_more _ _ _ _ (counted shapes.Block i t) (all_counted (end_of i t) ts)
