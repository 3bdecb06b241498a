-- The depth is the number of frames, the blocks are no more than the words taken, and the nodes are as many as the tree has.
use Rattle.std.proofs.Common.{◌≡◌, ℕ, suc, ◌+◌, ◌≤◌, [], ◌∷◌, ◌++◌, length, refl, ap, length-append, arith}
use Rattle.std.specs.Prelude.{nat_lt}
use Rattle.pd_turn.specs.declared.Node.{Node}
use Rattle.pd_pl0_spell.specs.Words.{Tree, name, number, parens, signed, sum, product, odd, compared, empty, assign, call, write, sequence, conditional, while, block, procedure, Trees, none, also}
use Rattle.pd_pl0_spell.specs.Names.{AProcedure, Scope, declare, entered}
use Rattle.pd_pl0_spell.specs.Machine.{Parts, Around, Main, Within, Holder, InBlock, InSequence, InBody, Stack, AsAssigned, AsWritten, AsOdd, AsLeft, AsRight, InParens, State, BlockStart, BeforeConstant, BeforeEqual, BeforeNumber, AfterConstant, AfterConstants, BeforeVariable, AfterVariable, AfterVariables, BeforeProcedure, AfterProcedure, BeforeStatement, BeforeBecomes, BeforeCallee, AfterStatement, BeforeCondition, BeforeExpression, Wants, Has, Finished}
use Rattle.pd_pl0_spell.specs.Refusals.{nodes, all_nodes}
use Rattle.pd_pl0_spell.specs.Reading.{around_openers, holder_openers, stack_openers, open_at}
use Rattle.pd_pl0_spell.specs.Reading as machine
use Rattle.pd_pl0_read.specs.declared.parts.Part.{Part}
use Rattle.pd_pl0_read.specs.Resolving.{constants_declared, variables_declared, procedures_declared, declared_by}
use Rattle.pd_pl0_read.specs.Places.{declarations_end, end_of, procedures_end, post, statement_posts, procedure_posts}
use Rattle.pd_pl0_read.specs.Held.{Nodes}
use Rattle.pd_pl0_read.specs.Behind.{around_place, parts_place, around_blocks, around_frames, holder_place, holder_frames, holder_blocks, stack_frames, stack_blocks, factor_place, expression_place, size, held}
use Rattle.pd_pl0_read.proofs.Grows.{constants_grow, parts_grow, tree_grows, statements_grow, factor_grows}

-- The depth.
around_depth : (o : Around) → length (around_openers o) ≡ length (around_frames o)
around_depth Main = refl
around_depth (Within x p o) = ap (λ n. suc n) (around_depth o)

holder_depth : (h : Holder) → length (holder_openers h) ≡ length (holder_frames h)
holder_depth (InBlock p o) = around_depth o
holder_depth (InSequence ss h) = ap (λ n. suc n) (holder_depth h)
holder_depth (InBody v c h) = ap (λ n. suc n) (holder_depth h)

stack_depth : (k : Stack) → length (stack_openers k) ≡ length (stack_frames k)
stack_depth (AsAssigned x h) = holder_depth h
stack_depth (AsWritten h) = holder_depth h
stack_depth (AsOdd v h) = ap (λ n. suc n) (holder_depth h)
stack_depth (AsLeft v h) = ap (λ n. suc n) (holder_depth h)
stack_depth (AsRight v o a h) = ap (λ n. suc n) (holder_depth h)
stack_depth (InParens p k) = ap (λ n. suc n) (stack_depth k)

frames_depth : (s : State) → machine.depth s ≡ length (held s).stack
frames_depth (BlockStart s o) = around_depth o
frames_depth (BeforeConstant cs s o) = around_depth o
frames_depth (BeforeEqual cs x s o) = around_depth o
frames_depth (BeforeNumber cs x s o) = around_depth o
frames_depth (AfterConstant cs s o) = around_depth o
frames_depth (AfterConstants cs s o) = around_depth o
frames_depth (BeforeVariable cs vs s o) = around_depth o
frames_depth (AfterVariable cs vs s o) = around_depth o
frames_depth (AfterVariables p o) = around_depth o
frames_depth (BeforeProcedure p o) = ap (λ n. suc n) (around_depth o)
frames_depth (AfterProcedure x p o) = ap (λ n. suc n) (around_depth o)
frames_depth (BeforeStatement h) = holder_depth h
frames_depth (BeforeBecomes x h) = holder_depth h
frames_depth (BeforeCallee h) = holder_depth h
frames_depth (AfterStatement a h) = holder_depth h
frames_depth (BeforeCondition v h) = ap (λ n. suc n) (holder_depth h)
frames_depth (BeforeExpression k) = stack_depth k
frames_depth (Wants p k) = stack_depth k
frames_depth (Has p f k) = stack_depth k
frames_depth (Finished b) = refl

pub depth : (s : State) → nat_lt 200 (machine.depth s) ≡ nat_lt 200 (length (held s).stack)
depth s = ap (nat_lt 200) (frames_depth s)

-- The blocks.
around_few : (o : Around) → length (around_blocks o) ≤ around_place o
around_few Main = omega arith
around_few (Within x p o) = omega (arith, around_few o, parts_grow p o)

parts_few : (p : Parts) (o : Around) → length (around_blocks o) ≤ parts_place p o
parts_few p o = omega (arith, around_few o, parts_grow p o)

holder_few : (h : Holder) → length (holder_blocks h) ≤ holder_place h + 1
holder_few (InBlock p o) = omega (arith, parts_few p o)
holder_few (InSequence ss h) = omega (arith, holder_few h, statements_grow (holder_place h) ss)
holder_few (InBody v c h) = omega (arith, holder_few h, tree_grows (holder_place h + 1) c)

stack_few : (k : Stack) → length (stack_blocks k) ≤ expression_place k + 1
stack_few (AsAssigned x h) = omega (arith, holder_few h)
stack_few (AsWritten h) = omega (arith, holder_few h)
stack_few (AsOdd v h) = omega (arith, holder_few h)
stack_few (AsLeft v h) = omega (arith, holder_few h)
stack_few (AsRight v o a h) = omega (arith, holder_few h, tree_grows (holder_place h + 1) a)
stack_few (InParens p k) = omega (arith, stack_few k, factor_grows (expression_place k) p)

pub blocks_few : (s : State) → length (held s).blocks ≤ size s + 1
blocks_few (BlockStart s o) = omega (arith, around_few o)
blocks_few (BeforeConstant cs s o) = omega (arith, around_few o)
blocks_few (BeforeEqual cs x s o) = omega (arith, around_few o)
blocks_few (BeforeNumber cs x s o) = omega (arith, around_few o)
blocks_few (AfterConstant cs s o) = omega (arith, around_few o)
blocks_few (AfterConstants cs s o) = omega (arith, around_few o, constants_grow (around_place o) cs)
blocks_few (BeforeVariable cs vs s o) = omega (arith, around_few o, constants_grow (around_place o) cs)
blocks_few (AfterVariable cs vs s o) = omega (arith, around_few o, constants_grow (around_place o) cs)
blocks_few (AfterVariables p o) = omega (arith, parts_few p o)
blocks_few (BeforeProcedure p o) = omega (arith, parts_few p o)
blocks_few (AfterProcedure x p o) = omega (arith, parts_few p o)
blocks_few (BeforeStatement h) = omega (arith, holder_few h)
blocks_few (BeforeBecomes x h) = omega (arith, holder_few h)
blocks_few (BeforeCallee h) = omega (arith, holder_few h)
blocks_few (AfterStatement a h) = omega (arith, holder_few h, tree_grows (holder_place h) a)
blocks_few (BeforeCondition v h) = omega (arith, holder_few h)
blocks_few (BeforeExpression k) = omega (arith, stack_few k)
blocks_few (Wants p k) = omega (arith, stack_few k, factor_grows (expression_place k) p)
blocks_few (Has p f k) = omega (arith, stack_few k, factor_grows (expression_place k) p, tree_grows (factor_place (expression_place k) p) f)
blocks_few (Finished b) = omega arith

-- The number of nodes.
one_and : (as' : Nodes) (c : Node Part) (n : ℕ) → length as' ≡ n → length (as' ++ c ∷ []) ≡ 1 + n
one_and as' c n h = simp length-append (omega (arith, h))

two_and : (as' bs : Nodes) (c : Node Part) (m n : ℕ) → length as' ≡ m → length bs ≡ n → length ((as' ++ bs) ++ c ∷ []) ≡ (1 + m) + n
two_and as' bs c m n h g = simp length-append (omega (arith, h, g))

both_more : (as' bs : Nodes) (m n : ℕ) → length as' ≡ m → length bs ≡ n → length (as' ++ bs) ≡ m + n
both_more as' bs m n h g = simp length-append (omega (arith, h, g))

block_and : (as' bs : Nodes) (c d : Node Part) (m n : ℕ) → length as' ≡ m → length bs ≡ n → length (((as' ++ bs) ++ c ∷ []) ++ d ∷ []) ≡ (2 + m) + n
block_and as' bs c d m n h g = simp length-append (omega (arith, h, g))

mutual
  pub counted : (s : Scope) (i : ℕ) (t : Tree) → length (post s i t) ≡ nodes t
  counted s i (name x) = refl
  counted s i (number n) = refl
  counted s i (parens e) = counted s (i + 1) e
  counted s i (signed o e) = one_and _ _ _ (counted s (i + 1) e)
  counted s i (sum o a b) = two_and _ _ _ _ _ (counted s i a) (counted s (end_of i a + 1) b)
  counted s i (product o a b) = two_and _ _ _ _ _ (counted s i a) (counted s (end_of i a + 1) b)
  counted s i (odd e) = one_and _ _ _ (counted s (i + 1) e)
  counted s i (compared o a b) = two_and _ _ _ _ _ (counted s i a) (counted s (end_of i a + 1) b)
  counted s i empty = refl
  counted s i (assign x e) = one_and _ _ _ (counted s ((i + 1) + 1) e)
  counted s i (call x) = refl
  counted s i (write e) = one_and _ _ _ (counted s (i + 1) e)
  counted s i (sequence none) = refl
  counted s i (sequence (also t ts)) = one_and _ _ _ (both_more _ _ _ _ (counted s (i + 1) t) (statements_counted s (end_of (i + 1) t) ts))
  counted s i (conditional c a) = two_and _ _ _ _ _ (counted s (i + 1) c) (counted s (end_of (i + 1) c + 1) a)
  counted s i (while c a) = two_and _ _ _ _ _ (counted s (i + 1) c) (counted s (end_of (i + 1) c + 1) a)
  counted s i (block cs vs ps a) =
      let inside = variables_declared vs (constants_declared cs s) in
      let first = declarations_end i cs vs in
      block_and _ _ _ _ _ _ (procedures_counted inside first ps) (counted (procedures_declared ps inside) (procedures_end first ps) a)
  counted s i (procedure x (block cs vs ps a)) =
      let inside = variables_declared vs (constants_declared cs (entered (declare x AProcedure s))) in
      let first = declarations_end (((i + 1) + 1) + 1) cs vs in
      block_and _ _ _ _ _ _ (procedures_counted inside first ps) (counted (procedures_declared ps inside) (procedures_end first ps) a)
  counted s i (procedure x b) = counted s (((i + 1) + 1) + 1) b

  statements_counted : (s : Scope) (i : ℕ) (ts : Trees) → length (statement_posts s i ts) ≡ all_nodes ts
  statements_counted s i none = refl
  statements_counted s i (also t ts) = both_more _ _ _ _ (counted s (i + 1) t) (statements_counted s (end_of (i + 1) t) ts)

  procedures_counted : (s : Scope) (i : ℕ) (ts : Trees) → length (procedure_posts s i ts) ≡ all_nodes ts
  procedures_counted s i none = refl
  procedures_counted s i (also t ts) = both_more _ _ _ _ (counted s i t) (procedures_counted (declared_by t s) (end_of i t + 1) ts)
