-- What a sink has taken after some pieces.
use Rattle.std.proofs.Common.{◌≡◌, ◌≤◌, ◌<◌, ◌+◌, ◌-◌, ◌∙◌, ℕ, List, [], ◌++◌, length, take, drop, refl, ap, sym, arith, Option, None, Some, append_assoc, inl, inr, Result, Ok, Err, OnErr}
use Rattle.std.specs.Io.KnownBytes.{append_known}
use Rattle.std.proofs.lemmas.List.{append-nil, take-take, take_all, length-take}
use Rattle.std.proofs.Math.Seq.{take-add}
use Rattle.std.proofs.lemmas.Bool.{cases_lt}
use Rattle.pd_top.specs.Answers.{Writing, IsWritten, IsWrittenInPart}

pub append_known-nil : (o : Option (List ℕ)) → append_known o [] ≡ o
append_known-nil None = refl
append_known-nil (Some xs) = ap Some (append-nil xs)

pub append_known-append : (o : Option (List ℕ)) (xs ys : List ℕ) → append_known (append_known o xs) ys ≡ append_known o (xs ++ ys)
append_known-append None xs ys = refl
append_known-append (Some zs) xs ys = ap Some (append_assoc zs xs ys)

-- the first bytes, and then some first bytes of the rest
pub piece_taken : (o now : Option (List ℕ)) (bs : List ℕ) (at n : ℕ) → now ≡ append_known o (take at bs)
    → append_known now (take n (drop at bs)) ≡ append_known o (take (at + n) bs)
piece_taken o now bs at n so_far =
    ap (λ x. append_known x (take n (drop at bs))) so_far
    ∙ append_known-append o (take at bs) (take n (drop at bs))
    ∙ ap (append_known o) (sym (take-add at n bs))

-- some first bytes of a piece are some first bytes of the rest
pub front_of_front : (m k : ℕ) (xs : List ℕ) → (n : ℕ) × (take m (take k xs) ≡ take n xs)
front_of_front m k xs = elim (cases_lt k m) [
  | inl above ↦ (k, take_all m (take k xs) (grind (arith, above, length-take)))
  | inr below ↦ (m, take-take m k xs below)
]

-- the piece from `at` to `to` is taken
pub whole_taken : (o now after : Option (List ℕ)) (bs : List ℕ) (at to : ℕ) → at ≤ to → now ≡ append_known o (take at bs)
    → after ≡ append_known now (take (to - at) (drop at bs)) → after ≡ append_known o (take to bs)
whole_taken o now after bs at to below so_far took =
    let sum : at + (to - at) ≡ to = omega (arith, below) in
    took ∙ piece_taken o now bs at (to - at) so_far ∙ ap (λ k. append_known o (take k bs)) sum

-- ---- the same, with the pieces that the sink accepted

-- a piece is written behind those before it
pub written_on : (now after : Writing) (bs : List ℕ) (at to : ℕ) → at ≤ to → IsWritten now (take at bs) → after.taken ≡ now.taken → after.accepted ≡ now.accepted
    → after.now ≡ append_known now.now (take (to - at) (drop at bs)) → after.accepts ≡ now.accepts ++ take (to - at) (drop at bs) → IsWritten after (take to bs)
written_on now after bs at to below so_far same also took accepts =
    let sum : at + (to - at) ≡ to = omega (arith, below) in
    record {
      taken = whole_taken after.taken now.now after.now bs at to below (so_far.taken ∙ ap (λ o. append_known o (take at bs)) (sym same)) took;
      accepted = accepts
          ∙ ap (λ xs. xs ++ take (to - at) (drop at bs)) (so_far.accepted ∙ ap (λ xs. xs ++ take at bs) (sym also))
          ∙ append_assoc after.accepted (take at bs) (take (to - at) (drop at bs))
          ∙ ap (λ xs. after.accepted ++ xs) (sym (take-add at (to - at) bs) ∙ ap (λ k. take k bs) sum);
    }

-- some first bytes of a piece are written behind those before it, and it isn't accepted
pub written_in_part : (now after : Writing) (bs : List ℕ) (at to m : ℕ) → at < length bs → IsWritten now (take at bs) → after.taken ≡ now.taken
    → after.accepted ≡ now.accepted → after.now ≡ append_known now.now (take m (take (to - at) (drop at bs))) → after.accepts ≡ now.accepts → IsWrittenInPart after bs
written_in_part now after bs at to m short so_far same also took accepts =
    let front = front_of_front m (to - at) (drop at bs) in
    let before : now.now ≡ append_known after.taken (take at bs) = so_far.taken ∙ ap (λ o. append_known o (take at bs)) (sym same) in
    record {
      first = at + front.0;
      pieces = at;
      within = omega arith;
      short = short;
      taken = took ∙ ap (append_known now.now) front.1 ∙ piece_taken after.taken now.now bs at front.0 before;
      accepted = accepts ∙ so_far.accepted ∙ ap (λ xs. xs ++ take at bs) (sym also);
    }

pub on_err : {T E : Type 0} (r : Result T E) (P : Type 0) → P → OnErr r P
on_err (Ok v) P p = tt
on_err (Err e) P p = p
