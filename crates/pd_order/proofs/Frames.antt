-- Of the frames at an event each is of a node of the program, and stands at one.
use Rattle.std.proofs.Common.{◌≡◌, ℕ, zero, suc, ◌-◌, ◌<◌, Bool, true, false, List, [], ◌∷◌, length, Option, Some, None, refl, subst}
use Rattle.std.specs.Prelude.{slice_get, nat_lt, cond}
use Rattle.std.specs.List.{All}
use Rattle.std.proofs.lemmas.Option.{same_Some}
use Rattle.std.proofs.lemmas.List.Elements.{All-head, All-tail}
use Rattle.pd_machine.specs.declared.run.Frame.{Frame}
use Rattle.pd_machine.specs.Events.{at_of, frame_of, root_of}

of_all : {X : Type 0} (Q : X → Type 0) (xs : List X) (k : ℕ) (x : X) → All Q xs → slice_get xs k ≡ Some x → Q x
of_all Q [] k x h e = absurd (cc)
of_all Q (y ∷ ys) zero x h e = subst Q (same_Some y x e) (All-head Q y ys h)
of_all Q (y ∷ ys) (suc k) x h e = of_all Q ys k x (All-tail Q y ys h) e

of_some : {X : Type 0} (Q : X → Type 0) (b : Bool) (xs : List X) (k : ℕ) (x : X) → All Q xs → cond b (slice_get xs k) None ≡ Some x → Q x
of_some Q true xs k x h e = of_all Q xs k x h e
of_some Q false xs k x h e = absurd (cc)

module _ (nodes : ℕ) (frames : List Frame) (placed : All (λ f. (f.root < nodes) × (f.at < nodes)) frames) where
  of_frame : (i : ℕ) (f : Frame) → frame_of frames i ≡ Some f → (f.root < nodes) × (f.at < nodes)
  of_frame i f e = of_some (λ f. (f.root < nodes) × (f.at < nodes)) (nat_lt i (length frames)) frames (length frames - suc i) f placed e

  by_root : (o : Option Frame) (r : ℕ) → ((f : Frame) → o ≡ Some f → (f.root < nodes) × (f.at < nodes)) → root_of o ≡ Some r → r < nodes
  by_root None r h e = absurd (cc)
  by_root (Some f) r h e = subst (λ n. n < nodes) (same_Some f.root r e) (h f refl).0

  by_place : (o : Option Frame) (n : ℕ) → ((f : Frame) → o ≡ Some f → (f.root < nodes) × (f.at < nodes)) → at_of o ≡ Some n → n < nodes
  by_place None n h e = absurd (cc)
  by_place (Some f) n h e = subst (λ m. m < nodes) (same_Some f.at n e) (h f refl).1

  -- what frame i is of
  pub root_below : (i r : ℕ) → root_of (frame_of frames i) ≡ Some r → r < nodes
  root_below i r e = by_root (frame_of frames i) r (of_frame i) e

  -- where it stands
  pub place_below : (i n : ℕ) → at_of (frame_of frames i) ≡ Some n → n < nodes
  place_below i n e = by_place (frame_of frames i) n (of_frame i) e
