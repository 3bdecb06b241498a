-- The events of whole runs are in order.
use Rattle.std.proofs.Common.{◌≡◌, ℕ, ◌+◌, ◌*◌, ◌<◌, ◌≤◌, List, [], ◌∷◌, length, Option, Some, None, refl, sym, ap, subst, ⊎_elim, arith}
use Rattle.pd_tree.specs.Program.{Program, item_at, no_item}
use Rattle.pd_tree.specs.WellFormed.{IsWellFormed, IsRootOf}
use Rattle.std.specs.List.{All}
use Rattle.std.proofs.lemmas.Bool.{cases_lt}
use Rattle.std.proofs.lemmas.List.{get_or_past}
use Rattle.std.proofs.lemmas.List.Elements.{All-nil, All-weaker}
use Rattle.pd_machine.specs.declared.run.Pending.{Pending}
use Rattle.pd_machine.specs.declared.run.Mode.{Mode}
use Rattle.pd_machine.specs.declared.run.Mode.TheVariants.{Entering, Starting, Coming}
use Rattle.pd_machine.specs.Events.{State, Told}
use Rattle.pd_machine.specs.Held.{IsOverAt}
use Rattle.pd_meaning.specs.Meaning.{Verdicts, ran, from_root, meaning_of}
use Rattle.pd_meaning.specs.Machine.{machine, start, after_turns}
use Rattle.pd_meaning.proofs.Whole.{machine_means}
use Rattle.pd_ending.proofs.Over.{over_in_time}
use Rattle.pd_order.specs.Order.{AreInOrder, IsPlaced}
use Rattle.pd_order.specs.Standing.{IsTold, IsToldAt}
use Rattle.pd_order.proofs.Turns.{orderly_told, start_orderly, turns_orderly}

module _ (P : ℕ → Type 0) (p : Program) (inside : (n : ℕ) → n < length p.nodes → P n) (roots : (i r : ℕ) → (item_at p i).root ≡ Some r → P r) (v : Verdicts) where
  over_told : (fuel root entry k : ℕ) (mode : Mode) (stack : List Pending) (s : State) → (item_at p entry).root ≡ Some root → after_turns p v k (start p fuel root) ≡ machine mode stack s → IsOverAt mode stack → IsTold P (length p.nodes) fuel s.events → IsTold P (length p.nodes) fuel (meaning_of p entry fuel v).events
  over_told fuel root entry k (Coming r) [] s item same over h = subst (λ x. IsTold P (length p.nodes) fuel x.events) (machine_means p v fuel root entry k r s item same) h
  over_told fuel root entry k (Coming r) (x ∷ stack) s item same over h = absurd over
  over_told fuel root entry k (Entering n) stack s item same over h = absurd over
  over_told fuel root entry k (Starting n) stack s item same over h = absurd over

  root_told : (fuel entry : ℕ) (x : Option ℕ) → (item_at p entry).root ≡ x → IsTold P (length p.nodes) fuel (meaning_of p entry fuel v).events
  unfolding meaning_of
  root_told fuel entry None item =
      subst (λ x. IsTold P (length p.nodes) fuel (ran fuel (from_root p v fuel x)).events) (sym item)
      (record { in_order = tt; placed = All-nil (IsToldAt P (length p.nodes)); bound = omega arith })
  root_told fuel entry (Some root) item =
      let k = 6 * fuel + 7 in
      let m = after_turns p v k (start p fuel root) in
      let begun = start_orderly P p inside roots v fuel fuel root (omega arith) (roots entry root item) in
      over_told fuel root entry k m.mode m.stack m.state item refl (over_in_time p v k (start p fuel root) (omega arith))
      (orderly_told P p inside roots v fuel m (turns_orderly P p inside roots v fuel k (start p fuel root) begun))

  pub meaning_told : (fuel entry : ℕ) → IsTold P (length p.nodes) fuel (meaning_of p entry fuel v).events
  meaning_told fuel entry = root_told fuel entry (item_at p entry).root refl

-- of every program, where nothing is asked of the nodes of frames
pub meaning_ordered : (p : Program) (v : Verdicts) (fuel entry : ℕ) → AreInOrder (meaning_of p entry fuel v).events
meaning_ordered p v fuel entry = (meaning_told (λ n. Unit {0}) p (λ n h. tt) (λ i r h. tt) v fuel entry).in_order

-- the root of an item is a node of the program
pub roots_below : (p : Program) → IsWellFormed p → (i r : ℕ) → (item_at p i).root ≡ Some r → r < length p.nodes
roots_below p linked i r h = ⊎_elim
    (λ (within : i < length p.items). (subst (IsRootOf p) h (linked.items i within)).0)
    (λ (past : length p.items ≤ i). let none : (item_at p i).root ≡ None = ap (λ x. x.root) (get_or_past p.items i no_item past) in absurd (cc))
    (cases_lt i (length p.items))

pub placed_by : (nodes : ℕ) (t : Told) → IsToldAt (λ n. n < nodes) nodes t → IsPlaced nodes t.event t.scene
placed_by nodes t h = record { node = h.0; depth = h.1; frames = h.2; innermost = h.3 }

pub meaning_placed : (p : Program) (v : Verdicts) (fuel entry : ℕ) → IsWellFormed p → All (λ t. IsPlaced (length p.nodes) t.event t.scene) (meaning_of p entry fuel v).events
meaning_placed p v fuel entry linked =
    All-weaker (IsToldAt (λ n. n < length p.nodes) (length p.nodes)) (λ t. IsPlaced (length p.nodes) t.event t.scene) (placed_by (length p.nodes)) (meaning_of p entry fuel v).events
    (meaning_told (λ n. n < length p.nodes) p (λ n h. h) (roots_below p linked) v fuel entry).placed

pub meaning_bound : (p : Program) (v : Verdicts) (fuel entry : ℕ) → length (meaning_of p entry fuel v).events ≤ 2 * fuel
meaning_bound p v fuel entry = (meaning_told (λ n. Unit {0}) p (λ n h. tt) (λ i r h. tt) v fuel entry).bound
