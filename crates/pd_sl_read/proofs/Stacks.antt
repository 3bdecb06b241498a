-- The reader's stack, which lies in a vector from the outermost frame on.
use Rattle.std.proofs.Common.{◌≡◌, ℕ, ◌+◌, ◌<◌, ◌^◌, List, [], ◌∷◌, ◌++◌, reverse, length, Option, Some, None, refl, sym, ap, subst, ◌∙◌, arith}
use Rattle.std.proofs.lemmas.List.{reverse-append}
use Rattle.std.proofs.lemmas.List.Elements.{All-head, All-tail, All-cons}
use Rattle.pd_turn.specs.declared.Node.{Node}
use Rattle.pd_sl_read.specs.declared.parts.Part.{Part}
use Rattle.pd_sl_read.specs.declared.parts.Levels.{Levels}
use Rattle.pd_sl_read.specs.declared.parts.Shape.TheVariants as shapes
use Rattle.pd_sl_read.specs.declared.parts.Frame.{Frame}
use Rattle.pd_sl_read.specs.declared.parts.Mode.{Mode}
use Rattle.pd_sl_read.specs.declared.parts.Frame.TheVariants.{Block, Condition, Parens, Arguments, Assignment}
use Rattle.pd_sl_read.specs.Held.{Held, holding, node, expression_folded, assignments_ended, counted, counted_top, count_of, HasRoom}

pub reverse_last : (xs : List Frame) (f : Frame) → reverse (xs ++ f ∷ []) ≡ f ∷ reverse xs
reverse_last xs f = reverse-append xs (f ∷ [])

pub room_tail : (n : ℕ) (f : Frame) (k : List Frame) → HasRoom n (f ∷ k) → HasRoom n k
room_tail n f k h = All-tail (λ f. count_of f + n < 2 ^ 32) f k h

pub room_popped : (n : ℕ) (f : Frame) (xs ys k : List Frame) → xs ≡ ys ++ f ∷ [] → k ≡ reverse xs → HasRoom n k → HasRoom n (reverse ys)
room_popped n f xs ys k e v h = room_tail n f (reverse ys) (subst (HasRoom n) (v ∙ ap reverse e ∙ reverse_last ys f) h)

-- Assignments end with the frames behind them as they were.
pub room_ended : (n at : ℕ) (k : List Frame) (ns : List (Node Part)) → HasRoom n k → HasRoom n (assignments_ended at k ns).0
unfolding assignments_ended
room_ended n at [] ns h = h
room_ended n at (Assignment l ∷ k) ns h = room_ended n at k _ (room_tail n (Assignment l) k h)
room_ended n at (f ∷ k) ns h = h

pub room_behind : (n at : ℕ) (k j : List Frame) (ns ms : List (Node Part)) → assignments_ended at k ns ≡ (j, ms) → HasRoom n k → HasRoom n j
room_behind n at k j ns ms e h = subst (λ r. HasRoom n r.0) e (room_ended n at k ns h)

count_counted : (f : Frame) → count_of f + 3 < 2 ^ 32 → count_of (counted f) + 2 < 2 ^ 32
count_counted (Block b) h = omega arith
count_counted (Condition w i) h = omega arith
count_counted (Parens l) h = omega arith
count_counted (Arguments l n) h = omega arith
count_counted (Assignment l) h = omega arith

pub room_less : (k : List Frame) → HasRoom 3 k → HasRoom 2 k
room_less k h = λ i d lt. omega (arith, h i d lt)

pub room_counted : (k : List Frame) → HasRoom 3 k → HasRoom 2 (counted_top k)
room_counted [] h = room_less [] h
room_counted (f ∷ k) h = All-cons (λ f. count_of f + 2 < 2 ^ 32) (counted f) k (count_counted f (All-head (λ f. count_of f + 3 < 2 ^ 32) f k h)) (room_less k (room_tail 3 f k h))

pub ended_one : (at : ℕ) (l : Levels) (k : List Frame) (ns : List (Node Part)) → assignments_ended at (Assignment l ∷ k) ns ≡ assignments_ended at k (expression_folded l at (ns ++ node shapes.Assign l.operand at 1 ∷ []))
unfolding assignments_ended
ended_one at l k ns = refl

pub ended_none : (at : ℕ) (ns : List (Node Part)) → assignments_ended at [] ns ≡ ([], ns)
unfolding assignments_ended
ended_none at ns = refl

-- an assignment on top
pub assignment_done : (at : ℕ) (l : Levels) (top : Frame) (xs ys : List Frame) (m : Mode) (ns : List (Node Part)) (h p f : Held) → xs ≡ ys ++ top ∷ [] → top ≡ Assignment l → holding m (reverse xs) ns ≡ h → p ≡ holding m (reverse ys) (ns ++ node shapes.Assign l.operand at 1 ∷ []) → f ≡ holding p.mode p.stack (expression_folded l at p.nodes) → assignments_ended at f.stack f.nodes ≡ assignments_ended at h.stack h.nodes
assignment_done at l top xs ys m ns h p f e i v q g =
    let run : Held → List Frame × List (Node Part) = λ r. assignments_ended at r.stack r.nodes in
    let run_folded : Held → List Frame × List (Node Part) = λ r. assignments_ended at r.stack (expression_folded l at r.nodes) in
    ap run g ∙ ap run_folded q ∙ sym (ended_one at l (reverse ys) ns)
    ∙ ap (λ k. assignments_ended at k ns) (sym (ap reverse e ∙ reverse_last ys top ∙ ap (λ t. t ∷ reverse ys) i))
    ∙ ap run v

-- any other frame on top
pub ended_other : (at : ℕ) (top : Frame) (k : List Frame) (ns : List (Node Part)) → ((l : Levels) → top ≡ Assignment l → ⊥) → assignments_ended at (top ∷ k) ns ≡ (top ∷ k, ns)
unfolding assignments_ended
ended_other at (Assignment l) k ns h = absurd (h l refl)
ended_other at (Block b) k ns h = refl
ended_other at (Condition w i) k ns h = refl
ended_other at (Parens l) k ns h = refl
ended_other at (Arguments l n) k ns h = refl

pub other_kept : (at : ℕ) (top : Frame) (xs ys zs : List Frame) (m : Mode) (ns : List (Node Part)) (h : Held) → ((l : Levels) → top ≡ Assignment l → ⊥) → xs ≡ ys ++ top ∷ [] → zs ≡ ys ++ top ∷ [] → holding m (reverse xs) ns ≡ h → assignments_ended at h.stack h.nodes ≡ (reverse zs, ns)
other_kept at top xs ys zs m ns h o e z v =
    let run : Held → List Frame × List (Node Part) = λ r. assignments_ended at r.stack r.nodes in
    let pair : List Frame → List Frame × List (Node Part) = λ k. (k, ns) in
    ap run (sym v) ∙ ap (λ k. assignments_ended at k ns) (ap reverse e ∙ reverse_last ys top) ∙ ended_other at top (reverse ys) ns o
    ∙ ap pair (sym (ap reverse z ∙ reverse_last ys top))

pub none_kept : (at : ℕ) (xs ys : List Frame) (m : Mode) (ns : List (Node Part)) (h : Held) → length xs ≡ 0 → xs ≡ ys ++ [] → holding m (reverse xs) ns ≡ h → assignments_ended at h.stack h.nodes ≡ (reverse ys, ns)
none_kept at [] [] m ns h e i v =
    let run : Held → List Frame × List (Node Part) = λ r. assignments_ended at r.stack r.nodes in
    ap run (sym v) ∙ ended_none at ns
none_kept at [] (y ∷ ys) m ns h e i v = absurd (cc)
none_kept at (x ∷ xs) ys m ns h e i v = absurd (omega arith)
