-- The reader without trees does what the machine with trees does.
use Rattle.std.proofs.Common.{◌≡◌, ℕ, ◌+◌, ◌<◌, ◌^◌, List, [], ◌∷◌, ◌++◌, length, Option, Some, None, refl, sym, ap, ◌∙◌, append_assoc, arith}
use Rattle.std.specs.Prelude.{bytes_eq, cond}
use Rattle.std.proofs.Math.Nat.{min-eq_left}
use Rattle.pd_turn.specs.declared.Node.{Node}
use Rattle.pd_pl0_spell.specs.Words.{Equal, Adding, Plus, Minus, Multiplying, Word, Name, Number, Compares, Adds, Multiplies, Becomes, Writes, Open, Close, Comma, Semicolon, Period, ConstKey, VarKey, ProcedureKey, CallKey, BeginKey, EndKey, IfKey, ThenKey, WhileKey, DoKey, OddKey, Constant, Tree, odd, compared, empty, assign, write, sequence, procedure, Trees, none, also, with_last}
use Rattle.pd_pl0_spell.specs.Names.{AConstant, AVariable, AProcedure, Declaration, Scope, declare}
use Rattle.pd_pl0_spell.specs.Machine
use Rattle.pd_pl0_spell.specs.Machine.{Waiting, nothing, sum_of, product_of, term_of, whole, Parts, block_of, with_procedure, Around, Main, Within, Keyword, ForIf, ForWhile, headed, Holder, InBlock, InSequence, InBody, Stack, AsAssigned, AsWritten, AsOdd, AsLeft, AsRight, InParens, State, BlockStart, BeforeConstant, BeforeEqual, BeforeNumber, AfterConstant, AfterConstants, BeforeVariable, AfterVariable, AfterVariables, BeforeProcedure, AfterProcedure, BeforeStatement, BeforeBecomes, BeforeCallee, AfterStatement, BeforeCondition, BeforeExpression, Wants, Has, Finished, statement_ends, condition_ends, ends, after_operand, parts_behind, step}
use Rattle.pd_pl0_read.specs.declared.names.Declared.{Declared}
use Rattle.pd_pl0_read.specs.declared.parts.Shape.TheVariants as shapes
use Rattle.pd_pl0_read.specs.declared.parts.Part.{Part}
use Rattle.pd_pl0_read.specs.declared.parts.Levels.{Levels}
use Rattle.pd_pl0_read.specs.declared.parts.Purpose.{Purpose}
use Rattle.pd_pl0_read.specs.declared.parts.Word as declared
use Rattle.pd_pl0_read.specs.declared.parts.Frame.{Frame}
use Rattle.pd_pl0_read.specs.declared.parts.Frame.TheVariants as frames
use Rattle.pd_pl0_read.specs.declared.parts.Block.{Block}
use Rattle.pd_pl0_read.specs.declared.parts.Mode.{Mode}
use Rattle.pd_pl0_read.specs.declared.parts.Mode.TheVariants as modes
use Rattle.pd_pl0_read.specs.Entries.{Entries, entry_at}
use Rattle.pd_pl0_read.specs.Resolving as resolving
use Rattle.pd_pl0_read.specs.Resolving.{constants_declared, variables_declared, procedures_declared, declared_by, found_in, or_outer, slots, counted, declared_as, literal, value_of, resolved, meaning_of, factor_of}
use Rattle.pd_pl0_read.specs.Places.{node, comparison, addition, sign, multiplication, constants_end, declarations_end, end_of, statements_end, procedures_end, count, post, statement_posts, procedure_posts}
use Rattle.pd_pl0_read.specs.Held as twin
use Rattle.pd_pl0_read.specs.Held.{Held, Nodes, holding, more, fresh, sum_waits, product_waits, product_node, sum_node, term_folded, expression_folded, headings_ended, taken}
use Rattle.pd_pl0_read.specs.Behind
use Rattle.pd_pl0_read.specs.Behind.{shape, name_in, entries_of, around_scope, inner_scope, parts_scope, around_place, parts_place, around_posts, parts_posts, own_block, parts_block, around_blocks, around_frames, constant_blocks, variable_blocks, parts_blocks, keyword, holder_place, holder_scope, holder_blocks, holder_frames, holder_posts, before_of, behind_sum, behind_product, term_place, factor_place, levels, with_sum, with_product, waits, stack_scope, stack_blocks, expression_place, purpose, stack_posts, stack_frames, constant_place, variable_place, wants_posts, size, held, held_option}
use Rattle.pd_pl0_read.proofs.Maps.{found_inserted}
use Rattle.pd_pl0_read.proofs.Grows.{tree_grows, statements_grow, parts_grow, count_last, statements_end_last, procedures_end_last, length_last}

pub append_none : {A : Type 0} → (xs : List A) → xs ++ [] ≡ xs
append_none [] = refl
append_none (x ∷ xs) = ap (λ ys. x ∷ ys) (append_none xs)

pub more_is : (n : ℕ) → n + 1 < 2 ^ 32 → more n ≡ n + 1
more_is n h = min-eq_left (omega arith)

-- One tree more.
pub statement_posts_last : (s : Scope) (i : ℕ) (ts : Trees) (t : Tree) → statement_posts s i (with_last ts t) ≡ statement_posts s i ts ++ post s (statements_end i ts + 1) t
statement_posts_last s i none t = append_none (post s (i + 1) t)
statement_posts_last s i (also u us) t = ap (λ x. post s (i + 1) u ++ x) (statement_posts_last s (end_of (i + 1) u) us t) ∙ sym (append_assoc (post s (i + 1) u) (statement_posts s (end_of (i + 1) u) us) (post s (statements_end (end_of (i + 1) u) us + 1) t))

pub procedure_posts_last : (s : Scope) (i : ℕ) (ts : Trees) (t : Tree) → procedure_posts s i (with_last ts t) ≡ procedure_posts s i ts ++ post (procedures_declared ts s) (procedures_end i ts) t
procedure_posts_last s i none t = append_none (post s i t)
procedure_posts_last s i (also u us) t = ap (λ x. post s i u ++ x) (procedure_posts_last (declared_by u s) (end_of i u + 1) us t) ∙ sym (append_assoc (post s i u) (procedure_posts (declared_by u s) (end_of i u + 1) us) (post (procedures_declared us (declared_by u s)) (procedures_end (end_of i u + 1) us) t))

pub procedures_declared_last : (ts : Trees) (t : Tree) (s : Scope) → procedures_declared (with_last ts t) s ≡ declared_by t (procedures_declared ts s)
procedures_declared_last none t s = refl
procedures_declared_last (also u us) t s = procedures_declared_last us t (declared_by u s)

pub constants_declared_last : (cs : List Constant) (c : Constant) (s : Scope) → constants_declared (cs ++ c ∷ []) s ≡ declare c.name (AConstant c.value) (constants_declared cs s)
constants_declared_last [] c s = refl
constants_declared_last (d ∷ ds) c s = constants_declared_last ds c (declare d.name (AConstant d.value) s)

pub variables_declared_last : (vs : List (List ℕ)) (x : List ℕ) (s : Scope) → variables_declared (vs ++ x ∷ []) s ≡ declare x AVariable (variables_declared vs s)
variables_declared_last [] x s = refl
variables_declared_last (y ∷ ys) x s = variables_declared_last ys x (declare y AVariable s)

-- The blocks around stay as they are.
constants_around : (cs : List Constant) (s : Scope) → (constants_declared cs s).around ≡ s.around
constants_around [] s = refl
constants_around (c ∷ cs) s = constants_around cs (declare c.name (AConstant c.value) s)

variables_around : (vs : List (List ℕ)) (s : Scope) → (variables_declared vs s).around ≡ s.around
variables_around [] s = refl
variables_around (x ∷ xs) s = variables_around xs (declare x AVariable s)

declared_around : (t : Tree) (s : Scope) → (declared_by t s).around ≡ s.around
declared_around (procedure x b) s = refl
declared_around t s = refl

procedures_around : (ts : Trees) (s : Scope) → (procedures_declared ts s).around ≡ s.around
procedures_around none s = refl
procedures_around (also t ts) s = procedures_around ts (declared_by t s) ∙ declared_around t s

parts_around : (p : Parts) (o : Around) → (parts_scope p o).around ≡ (around_scope o).around
parts_around p o = procedures_around p.procedures (inner_scope p o) ∙ variables_around p.variables (constants_declared p.constants (around_scope o)) ∙ constants_around p.constants (around_scope o)

-- What a name finds.
entries_find : (x : List ℕ) (ds : List Declaration) → entry_at x (entries_of ds) ≡ found_in x ds
entries_find x [] = refl
entries_find x (d ∷ ds) =
    found_inserted x d.name (declared_as d.kind (slots ds)) (entries_of ds)
    ∙ ap (cond (bytes_eq x d.name) (Some (declared_as d.kind (slots ds)))) (entries_find x ds)

around_find : (up : ℕ) (x : List ℕ) (o : Around) → twin.found_from up x (around_blocks o) ≡ resolving.found_from up x (around_scope o).around
around_find up x Main = refl
around_find up x (Within y p o) =
    let s = declare y AProcedure (parts_scope p o) in
    ap (λ d. or_outer up d (twin.found_from (up + 1) x (around_blocks o))) (entries_find x s.own)
    ∙ ap (or_outer up (found_in x s.own)) (around_find (up + 1) x o ∙ ap (resolving.found_from (up + 1) x) (sym (parts_around p o)))

pub block_find : (x : List ℕ) (s : Scope) (o : Around) (m n p i : ℕ) → s.around ≡ (around_scope o).around → twin.found x (own_block s m n p i ∷ around_blocks o) ≡ resolved x s
block_find x s o m n p i h =
    ap (λ d. or_outer 0 d (twin.found_from (0 + 1) x (around_blocks o))) (entries_find x s.own)
    ∙ ap (or_outer 0 (found_in x s.own)) (around_find (0 + 1) x o ∙ ap (resolving.found_from (0 + 1) x) (sym h))

pub parts_find : (x : List ℕ) (p : Parts) (o : Around) → twin.found x (parts_blocks p o) ≡ resolved x (parts_scope p o)
parts_find x p o = block_find x (parts_scope p o) o (length p.constants) (length p.variables) (count p.procedures) (parts_place p o) (parts_around p o)

pub holder_find : (x : List ℕ) (h : Holder) → twin.found x (holder_blocks h) ≡ resolved x (holder_scope h)
holder_find x (InBlock p o) = parts_find x p o
holder_find x (InSequence ss h) = holder_find x h
holder_find x (InBody w c h) = holder_find x h

pub stack_find : (x : List ℕ) (k : Stack) → twin.found x (stack_blocks k) ≡ resolved x (stack_scope k)
stack_find x (AsAssigned y h) = holder_find x h
stack_find x (AsWritten h) = holder_find x h
stack_find x (AsOdd w h) = holder_find x h
stack_find x (AsLeft w h) = holder_find x h
stack_find x (AsRight w o a h) = holder_find x h
stack_find x (InParens p k) = stack_find x k

pub constants_find : (x : List ℕ) (cs : List Constant) (o : Around) (i : ℕ) → twin.found x (constant_blocks cs o i) ≡ resolved x (constants_declared cs (around_scope o))
constants_find x cs o i = block_find x (constants_declared cs (around_scope o)) o (length cs) 0 0 i (constants_around cs (around_scope o))

pub variables_find : (x : List ℕ) (cs : List Constant) (vs : List (List ℕ)) (o : Around) → twin.found x (variable_blocks cs vs o) ≡ resolved x (variables_declared vs (constants_declared cs (around_scope o)))
variables_find x cs vs o = block_find x (variables_declared vs (constants_declared cs (around_scope o))) o (length cs) (length vs) 0 (constants_end (around_place o) cs) (variables_around vs (constants_declared cs (around_scope o)) ∙ constants_around cs (around_scope o))

-- Expressions: where the parts end, and their nodes.
pub term_end : (i : ℕ) (p : Waiting) (f : Tree) → end_of (factor_place i p) f ≡ end_of (term_place i p) (term_of p f)
term_end i p f = go p.product
  where
    go : (b : Option (Multiplying × Tree)) → end_of (behind_product (term_place i p) b) f ≡ end_of (term_place i p) (product_of b f)
    go None = refl
    go (Some a) = refl

pub whole_end : (i : ℕ) (p : Waiting) (f : Tree) → end_of (factor_place i p) f ≡ end_of i (whole p f)
whole_end i p f = term_end i p f ∙ go p.sum (term_of p f)
  where
    go : (b : Machine.Before) (t : Tree) → end_of (behind_sum i b) t ≡ end_of i (sum_of b t)
    go Machine.Nothing t = refl
    go (Machine.Sign o) t = refl
    go (Machine.Left o a) t = refl

joined : (ns as' bs : Nodes) (c : Node Part) → ((ns ++ as') ++ bs) ++ c ∷ [] ≡ ns ++ ((as' ++ bs) ++ c ∷ [])
joined ns as' bs c = simp append_assoc

one_more : (ns as' : Nodes) (c : Node Part) → (ns ++ as') ++ c ∷ [] ≡ ns ++ (as' ++ c ∷ [])
one_more ns as' c = append_assoc ns as' (c ∷ [])

product_done : (s : Scope) (ns : Nodes) (i at : ℕ) (b : Option (Multiplying × Tree)) (f : Tree) → at ≡ end_of (behind_product i b) f → product_node (Behind.product_of b) i at (with_product s ns i b ++ post s (behind_product i b) f) ≡ ns ++ post s i (product_of b f)
product_done s ns i at None f h = refl
product_done s ns i at (Some a) f h =
    ap (λ n. ((ns ++ post s i a.1) ++ post s (end_of i a.1 + 1) f) ++ node (shapes.Binary (multiplication a.0)) i n 2 ∷ []) h
    ∙ joined ns (post s i a.1) (post s (end_of i a.1 + 1) f) (node (shapes.Binary (multiplication a.0)) i (end_of (end_of i a.1 + 1) f) 2)

sign_same : (o : Adding) → twin.sign_of (addition o) ≡ sign o
sign_same Plus = refl
sign_same Minus = refl

sum_done : (s : Scope) (ns : Nodes) (i at : ℕ) (b : Machine.Before) (f : Tree) → at ≡ end_of (behind_sum i b) f → sum_node (before_of b) i at (with_sum s ns i b ++ post s (behind_sum i b) f) ≡ ns ++ post s i (sum_of b f)
sum_done s ns i at Machine.Nothing f h = refl
sum_done s ns i at (Machine.Sign o) f h =
    ap (λ n. (ns ++ post s (i + 1) f) ++ node (twin.sign_of (addition o)) i n 1 ∷ []) h
    ∙ ap (λ x. (ns ++ post s (i + 1) f) ++ node x i (end_of (i + 1) f) 1 ∷ []) (sign_same o)
    ∙ one_more ns (post s (i + 1) f) (node (sign o) i (end_of (i + 1) f) 1)
sum_done s ns i at (Machine.Left o a) f h =
    ap (λ n. ((ns ++ post s i a) ++ post s (end_of i a + 1) f) ++ node (shapes.Binary (addition o)) i n 2 ∷ []) h
    ∙ joined ns (post s i a) (post s (end_of i a + 1) f) (node (shapes.Binary (addition o)) i (end_of (end_of i a + 1) f) 2)

term_done : (s : Scope) (ns : Nodes) (i at : ℕ) (p : Waiting) (f : Tree) → at ≡ end_of (factor_place i p) f → term_folded (levels i p) at (waits s ns i p ++ post s (factor_place i p) f) ≡ with_sum s ns i p.sum ++ post s (term_place i p) (term_of p f)
term_done s ns i at p f h = product_done s (with_sum s ns i p.sum) (term_place i p) at p.product f h

expression_done : (s : Scope) (ns : Nodes) (i at : ℕ) (p : Waiting) (f : Tree) → at ≡ end_of (factor_place i p) f → expression_folded (levels i p) at (waits s ns i p ++ post s (factor_place i p) f) ≡ ns ++ post s i (whole p f)
expression_done s ns i at p f h =
    ap (sum_node (before_of p.sum) i at) (term_done s ns i at p f h)
    ∙ sum_done s ns i at p.sum (term_of p f) (h ∙ term_end i p f)

-- Statements that end.
heading_same : (w : Keyword) (s : Scope) (i at : ℕ) (c a : Tree) → at ≡ end_of (end_of (i + 1) c + 1) a → (post s (i + 1) c ++ post s (end_of (i + 1) c + 1) a) ++ node (twin.heading_shape (keyword w)) i at 2 ∷ [] ≡ post s i (headed w c a)
heading_same ForIf s i at c a h = ap (λ n. (post s (i + 1) c ++ post s (end_of (i + 1) c + 1) a) ++ node shapes.If i n 2 ∷ []) h
heading_same ForWhile s i at c a h = ap (λ n. (post s (i + 1) c ++ post s (end_of (i + 1) c + 1) a) ++ node shapes.While i n 2 ∷ []) h

pub headed_end : (w : Keyword) (i : ℕ) (c a : Tree) → end_of (end_of (i + 1) c + 1) a ≡ end_of i (headed w c a)
headed_end ForIf i c a = refl
headed_end ForWhile i c a = refl

sequence_posts : (s : Scope) (i : ℕ) (ss : Trees) (a : Tree) → post s i (sequence (with_last ss a)) ≡ statement_posts s i (with_last ss a) ++ node shapes.Begin i (statements_end i (with_last ss a) + 1) (count (with_last ss a)) ∷ []
sequence_posts s i none a = refl
sequence_posts s i (also t ts) a = refl

two_regroup : (ns as' bs : Nodes) → (ns ++ as') ++ bs ≡ ns ++ (as' ++ bs)
two_regroup ns as' bs = append_assoc ns as' bs

procedure_regroup : (as' bs cs ds : Nodes) (x y : Node Part) → ((((as' ++ bs) ++ cs) ++ ds) ++ x ∷ []) ++ y ∷ [] ≡ as' ++ (bs ++ (((cs ++ ds) ++ x ∷ []) ++ y ∷ []))
procedure_regroup as' bs cs ds x y = simp append_assoc

ended_same : (m : Mode) (k : List Frame) (bs bs' : List Block) (ns ns' : Nodes) → bs ≡ bs' → ns ≡ ns' → Some (holding m k bs [] ns) ≡ Some (holding m k bs' [] ns')
ended_same m k bs bs' ns ns' h g = ap (λ b. Some (holding m k b [] ns)) h ∙ ap (λ l. Some (holding m k bs' [] l)) g

statement_follows : (h : Holder) (a : Tree) (w : Word) (at : ℕ) (ns : Nodes) → at ≡ end_of (holder_place h) a → ns ≡ holder_posts h ++ post (holder_scope h) (holder_place h) a → at + 2 < 2 ^ 32
    → twin.statement_ended at (shape w) (holder_frames h) (holder_blocks h) [] ns ≡ held_option (statement_ends h a w)
unfolding headings_ended
statement_follows (InBlock p Main) a Period at ns e g few =
    let body = parts_place p Main in
    let counts : more (count p.procedures) ≡ count p.procedures + 1 = more_is (count p.procedures) (omega (arith, parts_grow p Main, tree_grows body a, e)) in
    ap (λ n. Some (holding modes.Finished [] [] [] ((ns ++ node shapes.Body body at 1 ∷ []) ++ node (shapes.Main (length p.constants) (length p.variables)) 0 (at + 1) n ∷ []))) counts
    ∙ ap (λ n. Some (holding modes.Finished [] [] [] ((ns ++ node shapes.Body body n 1 ∷ []) ++ node (shapes.Main (length p.constants) (length p.variables)) 0 (n + 1) (count p.procedures + 1) ∷ []))) e
    ∙ ap (λ l. Some (holding modes.Finished [] [] [] ((l ++ node shapes.Body body (end_of body a) 1 ∷ []) ++ node (shapes.Main (length p.constants) (length p.variables)) 0 (end_of body a + 1) (count p.procedures + 1) ∷ []))) g
statement_follows (InBlock p Main) a w at ns e g few = refl
statement_follows (InBlock p (Within x q o)) a Semicolon at ns e g few =
    let t = procedure x (block_of p a) in
    let i = parts_place q o in
    let j = declarations_end (around_place o) q.constants q.variables in
    let body = parts_place p (Within x q o) in
    let s = declare x AProcedure (parts_scope q o) in
    let kind = shapes.Procedure (length p.constants) (length p.variables) in
    let few_inner : count p.procedures + 1 < 2 ^ 32 = omega (arith, parts_grow p (Within x q o), tree_grows body a, e) in
    let few_outer : count q.procedures + 1 < 2 ^ 32 = omega (arith, parts_grow q o, parts_grow p (Within x q o), tree_grows body a, e) in
    let last : at + 1 ≡ parts_place (with_procedure q x (block_of p a)) o = ap (λ n. n + 1) e ∙ sym (procedures_end_last j q.procedures t) in
    ended_same modes.AfterVariables (around_frames o) _ _ _ _
    (ap (λ n. own_block s (length q.constants) (length q.variables) n (at + 1) ∷ around_blocks o) (more_is (count q.procedures) few_outer ∙ sym (count_last q.procedures t))
    ∙ ap (λ n. own_block s (length q.constants) (length q.variables) (count (with_last q.procedures t)) n ∷ around_blocks o) last
    ∙ ap (λ r. own_block r (length q.constants) (length q.variables) (count (with_last q.procedures t)) (parts_place (with_procedure q x (block_of p a)) o) ∷ around_blocks o) (sym (procedures_declared_last q.procedures t (inner_scope q o))))
    (ap (λ n. (ns ++ node shapes.Body body at 1 ∷ []) ++ node kind i at n ∷ []) (more_is (count p.procedures) few_inner)
    ∙ ap (λ n. (ns ++ node shapes.Body body n 1 ∷ []) ++ node kind i n (count p.procedures + 1) ∷ []) e
    ∙ ap (λ l. (l ++ node shapes.Body body (end_of body a) 1 ∷ []) ++ node kind i (end_of body a) (count p.procedures + 1) ∷ []) g
    ∙ procedure_regroup (around_posts o) (procedure_posts (inner_scope q o) j q.procedures) (procedure_posts (inner_scope p (Within x q o)) (declarations_end (around_place (Within x q o)) p.constants p.variables) p.procedures) (post (parts_scope p (Within x q o)) body a) (node shapes.Body body (end_of body a) 1) (node kind i (end_of body a) (count p.procedures + 1))
    ∙ ap (λ l. around_posts o ++ l) (sym (procedure_posts_last (inner_scope q o) j q.procedures t)))
statement_follows (InBlock p (Within x q o)) a w at ns e g few = refl
statement_follows (InSequence ss h) a Semicolon at ns e g few =
    let i = holder_place h in
    let counts : more (count ss) ≡ count (with_last ss a) = more_is (count ss) (omega (arith, statements_grow i ss, tree_grows (statements_end i ss + 1) a, e)) ∙ sym (count_last ss a) in
    ap (λ n. Some (holding modes.BeforeStatement (frames.Sequence i n ∷ holder_frames h) (holder_blocks h) [] ns)) counts
    ∙ ap (λ l. Some (holding modes.BeforeStatement (frames.Sequence i (count (with_last ss a)) ∷ holder_frames h) (holder_blocks h) [] l))
    (g ∙ two_regroup (holder_posts h) (statement_posts (holder_scope h) i ss) (post (holder_scope h) (statements_end i ss + 1) a) ∙ ap (λ l. holder_posts h ++ l) (sym (statement_posts_last (holder_scope h) i ss a)))
statement_follows (InSequence ss h) a EndKey at ns e g few =
    let i = holder_place h in
    let s = holder_scope h in
    let counts : more (count ss) ≡ count (with_last ss a) = more_is (count ss) (omega (arith, statements_grow i ss, tree_grows (statements_end i ss + 1) a, e)) ∙ sym (count_last ss a) in
    let last : at ≡ statements_end i (with_last ss a) = e ∙ sym (statements_end_last i ss a) in
    ap (λ n. Some (holding modes.AfterStatement (holder_frames h) (holder_blocks h) [] (ns ++ node shapes.Begin i (at + 1) n ∷ []))) counts
    ∙ ap (λ n. Some (holding modes.AfterStatement (holder_frames h) (holder_blocks h) [] (ns ++ node shapes.Begin i (n + 1) (count (with_last ss a)) ∷ []))) last
    ∙ ap (λ l. Some (holding modes.AfterStatement (holder_frames h) (holder_blocks h) [] l))
    (ap (λ l. l ++ node shapes.Begin i (statements_end i (with_last ss a) + 1) (count (with_last ss a)) ∷ [])
    (g ∙ two_regroup (holder_posts h) (statement_posts s i ss) (post s (statements_end i ss + 1) a) ∙ ap (λ l. holder_posts h ++ l) (sym (statement_posts_last s i ss a)))
    ∙ one_more (holder_posts h) (statement_posts s i (with_last ss a)) _ ∙ ap (λ l. holder_posts h ++ l) (sym (sequence_posts s i ss a)))
statement_follows (InSequence ss h) a w at ns e g few = refl
statement_follows (InBody v c h) a w at ns e g few =
    let i = holder_place h in
    let s = holder_scope h in
    statement_follows h (headed v c a) w at (ns ++ node (twin.heading_shape (keyword v)) i at 2 ∷ []) (e ∙ headed_end v i c a)
    (ap (λ l. l ++ node (twin.heading_shape (keyword v)) i at 2 ∷ []) g ∙ joined (holder_posts h) (post s (i + 1) c) (post s (end_of (i + 1) c + 1) a) (node (twin.heading_shape (keyword v)) i at 2)
    ∙ ap (λ l. holder_posts h ++ l) (heading_same v s i at c a e)) few

-- Expressions that end.
condition_follows : (v : Keyword) (h : Holder) (c : Tree) (w : Word) (ns : Nodes) → ns ≡ holder_posts h ++ post (holder_scope h) (holder_place h + 1) c
    → twin.condition_ended (shape w) (frames.Heading (keyword v) (holder_place h) ∷ holder_frames h) (holder_blocks h) [] ns ≡ held_option (condition_ends v h c w)
condition_follows ForIf h c ThenKey ns g = ap (λ l. Some (holding modes.BeforeStatement (holder_frames (InBody ForIf c h)) (holder_blocks h) [] l)) g
condition_follows ForIf h c w ns g = refl
condition_follows ForWhile h c DoKey ns g = ap (λ l. Some (holding modes.BeforeStatement (holder_frames (InBody ForWhile c h)) (holder_blocks h) [] l)) g
condition_follows ForWhile h c w ns g = refl

-- a statement's frames are no parentheses
no_parens : (p : Purpose) (at : ℕ) (w : declared.Word) (h : Holder) (bs : List Block) (ns : Nodes) → twin.ended p at w (holder_frames h) bs [] ns ≡ twin.purpose_ended p at w (holder_frames h) bs [] ns
no_parens p at w (InBlock q Main) bs ns = refl
no_parens p at w (InBlock q (Within x r o)) bs ns = refl
no_parens p at w (InSequence ss h) bs ns = refl
no_parens p at w (InBody v c h) bs ns = refl

ends_follows : (k : Stack) (e : Tree) (w : Word) (at : ℕ) (ns : Nodes) → at ≡ end_of (expression_place k) e → ns ≡ stack_posts k ++ post (stack_scope k) (expression_place k) e → at + 2 < 2 ^ 32
    → twin.ended (purpose k) at (shape w) (stack_frames k) (stack_blocks k) [] ns ≡ held_option (ends k e w)
ends_follows (AsAssigned x h) e w at ns h1 g few =
    let i = holder_place h in
    let s = holder_scope h in
    let kind = shapes.Assign (meaning_of (resolved x s)) in
    no_parens (purpose (AsAssigned x h)) at (shape w) h (holder_blocks h) ns
    ∙ statement_follows h (assign x e) w at (ns ++ node kind i at 1 ∷ []) h1
    (ap (λ n. ns ++ node kind i n 1 ∷ []) h1 ∙ ap (λ l. l ++ node kind i (end_of ((i + 1) + 1) e) 1 ∷ []) g ∙ one_more (holder_posts h) (post s ((i + 1) + 1) e) (node kind i (end_of ((i + 1) + 1) e) 1)) few
ends_follows (AsWritten h) e w at ns h1 g few =
    let i = holder_place h in
    let s = holder_scope h in
    no_parens (purpose (AsWritten h)) at (shape w) h (holder_blocks h) ns
    ∙ statement_follows h (write e) w at (ns ++ node shapes.Write i at 1 ∷ []) h1
    (ap (λ n. ns ++ node shapes.Write i n 1 ∷ []) h1 ∙ ap (λ l. l ++ node shapes.Write i (end_of (i + 1) e) 1 ∷ []) g ∙ one_more (holder_posts h) (post s (i + 1) e) (node shapes.Write i (end_of (i + 1) e) 1)) few
ends_follows (AsOdd v h) e w at ns h1 g few =
    let i = holder_place h + 1 in
    let s = holder_scope h in
    condition_follows v h (odd e) w (ns ++ node shapes.Odd i at 1 ∷ [])
    (ap (λ n. ns ++ node shapes.Odd i n 1 ∷ []) h1 ∙ ap (λ l. l ++ node shapes.Odd i (end_of (i + 1) e) 1 ∷ []) g ∙ one_more (holder_posts h) (post s (i + 1) e) (node shapes.Odd i (end_of (i + 1) e) 1))
ends_follows (AsLeft v h) e (Compares o) at ns h1 g few = ap (λ l. Some (holding (modes.BeforeExpression (purpose (AsRight v o e h))) (stack_frames (AsLeft v h)) (holder_blocks h) [] l)) g
ends_follows (AsLeft v h) e w at ns h1 g few = refl
ends_follows (AsRight v o a h) e w at ns h1 g few =
    let i = holder_place h + 1 in
    let s = holder_scope h in
    let kind = shapes.Binary (comparison o) in
    condition_follows v h (compared o a e) w (ns ++ node kind i at 2 ∷ [])
    (ap (λ n. ns ++ node kind i n 2 ∷ []) h1 ∙ ap (λ l. l ++ node kind i (end_of (end_of i a + 1) e) 2 ∷ []) g ∙ joined (holder_posts h) (post s i a) (post s (end_of i a + 1) e) (node kind i (end_of (end_of i a + 1) e) 2))
ends_follows (InParens p k) e Close at ns h1 g few = ap (λ l. Some (holding (modes.Has (purpose k) (levels (expression_place k) p)) (stack_frames k) (stack_blocks k) [] l)) g
ends_follows (InParens p k) e w at ns h1 g few = refl

-- A word behind an operand.
wants_same : {at at' : ℕ} {ns ns' : Nodes} (p : Purpose) (f : ℕ → Levels) (k : List Frame) (bs : List Block) → at ≡ at' → ns ≡ ns' → Some (holding (modes.Wants p (f at)) k bs [] ns) ≡ Some (holding (modes.Wants p (f at')) k bs [] ns')
wants_same {at} {at'} {ns} {ns'} p f k bs h g = ap (λ n. Some (holding (modes.Wants p (f n)) k bs [] ns)) h ∙ ap (λ l. Some (holding (modes.Wants p (f at')) k bs [] l)) g

operated_follows : (p : Waiting) (f : Tree) (k : Stack) (w : Word) → size (Has p f k) + 2 < 2 ^ 32
    → twin.operated (purpose k) (levels (expression_place k) p) (size (Has p f k)) (shape w) (stack_frames k) (stack_blocks k) [] (wants_posts p k ++ post (stack_scope k) (factor_place (expression_place k) p) f) ≡ held_option (after_operand p f k w)
operated_follows p f k (Adds o) few =
    let i = expression_place k in
    wants_same (purpose k) (sum_waits (addition o) (levels i p)) (stack_frames k) (stack_blocks k) (ap (λ n. n + 1) (whole_end i p f)) (expression_done (stack_scope k) (stack_posts k) i _ p f refl)
operated_follows p f k (Multiplies o) few =
    let i = expression_place k in
    ap (λ l. Some (holding (modes.Wants (purpose k) (product_waits (multiplication o) (levels i p))) (stack_frames k) (stack_blocks k) [] l)) (term_done (stack_scope k) (stack_posts k) i _ p f refl)
operated_follows p f k w few =
    let i = expression_place k in
    ends_follows k (whole p f) w (size (Has p f k)) _ (whole_end i p f) (expression_done (stack_scope k) (stack_posts k) i _ p f refl) few

-- A word where an operand comes, and where an expression comes.
operand_follows : (p : Waiting) (k : Stack) (w : Word) → twin.operand (twin.found_at (shape w) (name_in w) (stack_blocks k)) (purpose k) (levels (expression_place k) p) (factor_place (expression_place k) p) (shape w) (stack_frames k) (stack_blocks k) [] (wants_posts p k) ≡ held_option (Machine.operand p k w)
operand_follows p k (Name x) = let i = factor_place (expression_place k) p in ap (λ f. Some (holding (modes.Has (purpose k) (levels (expression_place k) p)) (stack_frames k) (stack_blocks k) [] (wants_posts p k ++ node (factor_of f) i (i + 1) 0 ∷ []))) (stack_find x k)
operand_follows p k (Number n) = refl
operand_follows p k Open = refl
operand_follows p k w = refl

expression_follows : (k : Stack) (w : Word) → twin.expression (twin.found_at (shape w) (name_in w) (stack_blocks k)) (purpose k) (expression_place k) (shape w) (stack_frames k) (stack_blocks k) [] (stack_posts k) ≡ held_option (Machine.expression k w)
expression_follows k (Adds o) = refl
expression_follows k w = operand_follows nothing k w

condition_begins : (v : Keyword) (h : Holder) (w : Word) → twin.condition (twin.found_at (shape w) (name_in w) (holder_blocks h)) (holder_place h + 1) (shape w) (stack_frames (AsLeft v h)) (holder_blocks h) [] (holder_posts h) ≡ held_option (step (BeforeCondition v h) w)
condition_begins v h OddKey = refl
condition_begins v h w = expression_follows (AsLeft v h) w

-- The first word of a statement.
statement_begins : (h : Holder) (w : Word) → holder_place h + 2 < 2 ^ 32 → twin.statement (twin.found_at (shape w) (name_in w) (holder_blocks h)) (holder_place h) (shape w) (holder_frames h) (holder_blocks h) [] (holder_posts h) ≡ held_option (Machine.statement h w)
statement_begins h (Name x) few = ap (λ f. Some (holding (modes.BeforeBecomes (holder_place h) (meaning_of f)) (holder_frames h) (holder_blocks h) [] (holder_posts h))) (holder_find x h)
statement_begins h CallKey few = refl
statement_begins h Writes few = refl
statement_begins h BeginKey few = ap (λ l. Some (holding modes.BeforeStatement (holder_frames (InSequence none h)) (holder_blocks h) [] l)) (sym (append_none (holder_posts h)))
statement_begins h IfKey few = refl
statement_begins h WhileKey few = refl
statement_begins h w few = statement_follows h empty w (holder_place h) _ refl refl few

procedures_follow : (p : Parts) (o : Around) (w : Word) → parts_place p o + 2 < 2 ^ 32 → twin.procedures (twin.found_at (shape w) (name_in w) (parts_blocks p o)) (parts_place p o) (shape w) (around_frames o) (parts_blocks p o) [] (parts_posts p o) ≡ held_option (Machine.procedures p o w)
procedures_follow p o ProcedureKey few = refl
procedures_follow p o w few = statement_begins (InBlock p o) w few

-- Variables have the slots from 0 on.
variable_slots : (vs : List (List ℕ)) (s : Scope) → slots (variables_declared vs s).own ≡ slots s.own + length vs
variable_slots [] s = omega arith
variable_slots (x ∷ xs) s = omega (arith, variable_slots xs (declare x AVariable s))

constant_slots : (cs : List Constant) (s : Scope) → slots (constants_declared cs s).own ≡ slots s.own
constant_slots [] s = refl
constant_slots (c ∷ cs) s = constant_slots cs (declare c.name (AConstant c.value) s)

no_slots : (o : Around) → slots (around_scope o).own ≡ 0
no_slots Main = refl
no_slots (Within x p o) = refl

pub next_slot : (cs : List Constant) (vs : List (List ℕ)) (o : Around) → slots (variables_declared vs (constants_declared cs (around_scope o))).own ≡ length vs
next_slot cs vs o = omega (arith, variable_slots vs (constants_declared cs (around_scope o)), constant_slots cs (around_scope o), no_slots o)

-- what the states of a source have besides: the scopes are those of the declarations so far
abbrev pub IsRegularAround : Around → Type 0
IsRegularAround Main = Unit {0}
IsRegularAround (Within x p o) = (p.scope ≡ declare x AProcedure (parts_scope p o)) × IsRegularAround o

abbrev pub IsRegularHolder : Holder → Type 0
IsRegularHolder (InBlock p o) = (p.scope ≡ parts_scope p o) × IsRegularAround o
IsRegularHolder (InSequence ss h) = IsRegularHolder h
IsRegularHolder (InBody v c h) = IsRegularHolder h

abbrev pub IsRegularStack : Stack → Type 0
IsRegularStack (AsAssigned x h) = IsRegularHolder h
IsRegularStack (AsWritten h) = IsRegularHolder h
IsRegularStack (AsOdd v h) = IsRegularHolder h
IsRegularStack (AsLeft v h) = IsRegularHolder h
IsRegularStack (AsRight v o a h) = IsRegularHolder h
IsRegularStack (InParens p k) = IsRegularStack k

abbrev pub IsSome : {A : Type 0} → List A → Type 0
IsSome [] = ⊥
IsSome (x ∷ xs) = Unit {0}

abbrev pub AreConstants : List Constant → Scope → Around → Type 0
AreConstants cs s o = (s ≡ constants_declared cs (around_scope o)) × IsRegularAround o

abbrev pub AreVariables : List Constant → List (List ℕ) → Scope → Around → Type 0
AreVariables cs vs s o = (s ≡ variables_declared vs (constants_declared cs (around_scope o))) × IsRegularAround o

abbrev pub IsRegular : State → Type 0
IsRegular (BlockStart s o) = AreConstants [] s o
IsRegular (BeforeConstant cs s o) = AreConstants cs s o
IsRegular (BeforeEqual cs x s o) = AreConstants cs s o
IsRegular (BeforeNumber cs x s o) = AreConstants cs s o
IsRegular (AfterConstant cs s o) = IsSome cs × AreConstants cs s o
IsRegular (AfterConstants cs s o) = AreConstants cs s o
IsRegular (BeforeVariable cs vs s o) = AreVariables cs vs s o
IsRegular (AfterVariable cs vs s o) = IsSome vs × AreVariables cs vs s o
IsRegular (AfterVariables p o) = IsRegularHolder (InBlock p o)
IsRegular (BeforeProcedure p o) = IsRegularHolder (InBlock p o)
IsRegular (AfterProcedure x p o) = IsRegularAround (Within x p o)
IsRegular (BeforeStatement h) = IsRegularHolder h
IsRegular (BeforeBecomes x h) = IsRegularHolder h
IsRegular (BeforeCallee h) = IsRegularHolder h
IsRegular (AfterStatement a h) = IsRegularHolder h
IsRegular (BeforeCondition v h) = IsRegularHolder h
IsRegular (BeforeExpression k) = IsRegularStack k
IsRegular (Wants p k) = IsRegularStack k
IsRegular (Has p f k) = IsRegularStack k
IsRegular (Finished b) = Unit {0}

-- Declarations.
constant_follows : (cs : List Constant) (x : List ℕ) (v : ℕ) (s : Scope) (o : Around) → size (BeforeNumber cs x s o) + 2 < 2 ^ 32
    → Some (holding modes.AfterConstant (around_frames o) (twin.with_constant x (literal (value_of v)) (constant_blocks cs o (around_place o))) [] (around_posts o)) ≡ Some (held (AfterConstant (cs ++ record { name = x; value = v } ∷ []) (declare x (AConstant v) s) o))
constant_follows cs x v s o few =
    let c : Constant = record { name = x; value = v } in
    let r = constants_declared cs (around_scope o) in
    let counts : more (length cs) ≡ length (cs ++ c ∷ []) = more_is (length cs) (omega arith) ∙ sym (length_last cs c) in
    ap (λ n. Some (holding modes.AfterConstant (around_frames o) (own_block (declare x (AConstant v) r) n 0 0 (around_place o) ∷ around_blocks o) [] (around_posts o))) counts
    ∙ ap (λ q. Some (holding modes.AfterConstant (around_frames o) (own_block q (length (cs ++ c ∷ [])) 0 0 (around_place o) ∷ around_blocks o) [] (around_posts o))) (sym (constants_declared_last cs c (around_scope o)))

variable_follows : (cs : List Constant) (vs : List (List ℕ)) (x : List ℕ) (s : Scope) (o : Around) → size (BeforeVariable cs vs s o) + 2 < 2 ^ 32
    → Some (holding modes.AfterVariable (around_frames o) (twin.with_variable x (variable_blocks cs vs o)) [] (around_posts o)) ≡ Some (held (AfterVariable cs (vs ++ x ∷ []) (declare x AVariable s) o))
variable_follows cs vs x s o few =
    let r = variables_declared vs (constants_declared cs (around_scope o)) in
    let i = constants_end (around_place o) cs in
    let counts : more (length vs) ≡ length (vs ++ x ∷ []) = more_is (length vs) (omega arith) ∙ sym (length_last vs x) in
    ap (λ n. Some (holding modes.AfterVariable (around_frames o) (twin.block_of (Rattle.pd_pl0_read.specs.Entries.inserted x (Rattle.pd_pl0_read.specs.declared.names.Declared.TheVariants.Variable n) (entries_of r.own)) (length cs) (more (length vs)) 0 i ∷ around_blocks o) [] (around_posts o))) (sym (next_slot cs vs o))
    ∙ ap (λ n. Some (holding modes.AfterVariable (around_frames o) (own_block (declare x AVariable r) (length cs) n 0 i ∷ around_blocks o) [] (around_posts o))) counts
    ∙ ap (λ q. Some (holding modes.AfterVariable (around_frames o) (own_block q (length cs) (length (vs ++ x ∷ [])) 0 i ∷ around_blocks o) [] (around_posts o))) (sym (variables_declared_last vs x (constants_declared cs (around_scope o))))

-- behind the constants, where no variable comes
no_variables : (cs : List Constant) (s : Scope) (o : Around) (w : Word) → constants_end (around_place o) cs + 2 < 2 ^ 32
    → twin.procedures (twin.found_at (shape w) (name_in w) (constant_blocks cs o (constants_end (around_place o) cs))) (constants_end (around_place o) cs) (shape w) (around_frames o) (constant_blocks cs o (constants_end (around_place o) cs)) [] (around_posts o) ≡ held_option (Machine.procedures (parts_behind cs [] s) o w)
no_variables cs s o w few =
    ap (λ l. twin.procedures (twin.found_at (shape w) (name_in w) (constant_blocks cs o (constants_end (around_place o) cs))) (constants_end (around_place o) cs) (shape w) (around_frames o) (constant_blocks cs o (constants_end (around_place o) cs)) [] l) (sym (append_none (around_posts o)))
    ∙ procedures_follow (parts_behind cs [] s) o w few

variables_whole : (cs : List Constant) (vs : List (List ℕ)) (s : Scope) (o : Around) → IsSome vs
    → Some (holding modes.AfterVariables (around_frames o) (twin.declared_to (size (AfterVariable cs vs s o) + 1) (variable_blocks cs vs o)) [] (around_posts o)) ≡ Some (held (AfterVariables (parts_behind cs vs s) o))
variables_whole cs [] s o g = absurd g
variables_whole cs (x ∷ xs) s o g = ap (λ l. Some (holding modes.AfterVariables (around_frames o) (parts_blocks (parts_behind cs (x ∷ xs) s) o) [] l)) (sym (append_none (around_posts o)))

constants_whole : (cs : List Constant) (s : Scope) (o : Around) → IsSome cs
    → Some (holding modes.AfterConstants (around_frames o) (constant_blocks cs o (size (AfterConstant cs s o) + 1)) [] (around_posts o)) ≡ Some (held (AfterConstants cs s o))
constants_whole [] s o g = absurd g
constants_whole (c ∷ cs) s o g = refl

-- The reader takes a word as the machine does.
pub follows : (s : State) (w : Word) → size s + 2 < 2 ^ 32 → IsRegular s → taken (size s) (held s) (shape w) (name_in w) ≡ held_option (step s w)
follows (BlockStart s o) ConstKey few g = refl
follows (BlockStart s o) VarKey few g = refl
follows (BlockStart s o) w few g = no_variables [] s o w few
follows (BeforeConstant cs s o) (Name x) few g = refl
follows (BeforeConstant cs s o) w few g = refl
follows (BeforeEqual cs x s o) (Compares Equal) few g = refl
follows (BeforeEqual cs x s o) (Compares c) few g = refl
follows (BeforeEqual cs x s o) w few g = refl
follows (BeforeNumber cs x s o) (Number v) few g = constant_follows cs x v s o few
follows (BeforeNumber cs x s o) w few g = refl
follows (AfterConstant cs s o) Comma few g = refl
follows (AfterConstant cs s o) Semicolon few g = constants_whole cs s o g.0
follows (AfterConstant cs s o) w few g = refl
follows (AfterConstants cs s o) VarKey few g = refl
follows (AfterConstants cs s o) w few g = no_variables cs s o w few
follows (BeforeVariable cs vs s o) (Name x) few g = variable_follows cs vs x s o few
follows (BeforeVariable cs vs s o) w few g = refl
follows (AfterVariable cs vs s o) Comma few g = refl
follows (AfterVariable cs vs s o) Semicolon few g = variables_whole cs vs s o g.0
follows (AfterVariable cs vs s o) w few g = refl
follows (AfterVariables p o) w few g = procedures_follow p o w few
follows (BeforeProcedure p o) (Name x) few g = refl
follows (BeforeProcedure p o) w few g = refl
follows (AfterProcedure x p o) Semicolon few g = refl
follows (AfterProcedure x p o) w few g = refl
follows (BeforeStatement h) w few g = statement_begins h w few
follows (BeforeBecomes x h) Becomes few g = refl
follows (BeforeBecomes x h) w few g = refl
follows (BeforeCallee h) (Name x) few g = refl
follows (BeforeCallee h) w few g = refl
follows (AfterStatement a h) w few g = statement_follows h a w _ _ refl refl few
follows (BeforeCondition v h) w few g = condition_begins v h w
follows (BeforeExpression k) w few g = expression_follows k w
follows (Wants p k) w few g = operand_follows p k w
follows (Has p f k) w few g = operated_follows p f k w few
follows (Finished b) w few g = refl
