-- Of events in order each one's number is its place, and each end names the place of an Enter of its node.
use Rattle.std.proofs.Common.{◌≡◌, ℕ, zero, suc, List, [], ◌∷◌, ◌++◌, length, Some, refl, sym, ap, ◌∙◌, subst, inl, inr, ⊎_elim, arith}
use Rattle.std.specs.Prelude.{◌⊎◌, slice_get, drop}
use Rattle.std.specs.List.{All}
use Rattle.std.proofs.lemmas.Option.{same_Some}
use Rattle.std.proofs.lemmas.List.{append_assoc, append-nil, length_push}
use Rattle.std.proofs.lemmas.List.Elements.{All-nil, All-cons, All-head, All-tail, All-weaker}
use Rattle.pd_tree.specs.Program.{Program}
use Rattle.pd_machine.specs.declared.event.Event.{Event}
use Rattle.pd_machine.specs.declared.event.EventKind.{EventKind}
use Rattle.pd_machine.specs.declared.event.EventKind.TheVariants.{Enter, Return, Leave}
use Rattle.pd_machine.specs.Events.{Told}
use Rattle.pd_meaning.specs.Meaning.{Verdicts, meaning_of}
use Rattle.pd_order.specs.Order.{AreInOrder, AreInOrderFrom, Fits, open_with}
use Rattle.pd_order.proofs.Runs.{meaning_ordered}

-- ---- the places of a list with one more element

get-old : {A : Type 0} (xs : List A) (z : A) (k : ℕ) (x : A) → slice_get xs k ≡ Some x → slice_get (xs ++ z ∷ []) k ≡ Some x
get-old [] z k x h = cc
get-old (y ∷ ys) z zero x h = h
get-old (y ∷ ys) z (suc k) x h = get-old ys z k x h

get-new : {A : Type 0} (xs : List A) (z : A) → slice_get (xs ++ z ∷ []) (length xs) ≡ Some z
get-new [] z = refl
get-new (y ∷ ys) z = get-new ys z

get-split : {A : Type 0} (xs : List A) (z : A) (k : ℕ) (x : A) → slice_get (xs ++ z ∷ []) k ≡ Some x → (slice_get xs k ≡ Some x) ⊎ ((k ≡ length xs) × (z ≡ x))
get-split [] z zero x h = inr (refl, same_Some z x h)
get-split [] z (suc k) x h = cc
get-split (y ∷ ys) z zero x h = inl h
get-split (y ∷ ys) z (suc k) x h = ⊎_elim (λ i. inl i) (λ i. inr (ap suc i.0, i.1)) (get-split ys z k x h)

-- ---- lists of events

-- an event of this kind is an end
abbrev pub IsEnd : EventKind → Type 0
IsEnd Enter = ⊥
IsEnd _ = Unit {0}

-- an Enter of this node stands at this place
pub record IsEnteredAt (ts : List Told) (n place : ℕ) : Type 0 where
  pub enter : Told
  pub there : slice_get ts place ≡ Some enter
  pub kind_is : enter.event.kind ≡ Enter
  pub node_is : enter.event.node ≡ n

-- each event's number is its place, and each end names the place of an Enter of its node
pub record IsPaired (ts : List Told) : Type 0 where
  pub numbers : (k : ℕ) (t : Told) → slice_get ts k ≡ Some t → t.event.number ≡ k
  pub ends_named : (k : ℕ) (t : Told) → slice_get ts k ≡ Some t → IsEnd t.event.kind → IsEnteredAt ts t.event.node t.event.opened

entered_kept : (ts : List Told) (t : Told) (n place : ℕ) → IsEnteredAt ts n place → IsEnteredAt (ts ++ t ∷ []) n place
entered_kept ts t n place e = record { enter = e.enter; there = get-old ts t place e.enter e.there; kind_is = e.kind_is; node_is = e.node_is }

paired-push : (ts : List Told) (t : Told) → t.event.number ≡ length ts → (IsEnd t.event.kind → IsEnteredAt ts t.event.node t.event.opened) → IsPaired ts → IsPaired (ts ++ t ∷ [])
paired-push ts t number opened p = record {
  numbers = λ k x h. ⊎_elim
      (λ (i : slice_get ts k ≡ Some x). p.numbers k x i)
      (λ (i : (k ≡ length ts) × (t ≡ x)). cc (number, i.0, i.1))
      (get-split ts t k x h);
  ends_named = λ k x h e. ⊎_elim
      (λ (i : slice_get ts k ≡ Some x). entered_kept ts t x.event.node x.event.opened (p.ends_named k x i e))
      (λ (i : (k ≡ length ts) × (t ≡ x)).
      subst (λ (y : Told). IsEnd y.event.kind → IsEnteredAt (ts ++ t ∷ []) y.event.node y.event.opened) i.1
      (λ f. entered_kept ts t t.event.node t.event.opened (opened f)) e)
      (get-split ts t k x h);
}

-- ---- the open activations stand among the events

-- the Enter of an open activation stands at its place
abbrev Stands : List Told → Event → Type 0
Stands ts o = IsEnteredAt ts o.node o.number

end_opened : (ts : List Told) (kind : EventKind) (e : Event) (live : List Event) → Fits kind e live → All (Stands ts) live → IsEnd kind → IsEnteredAt ts e.node e.opened
end_opened ts Enter e live fits stand end = absurd end
end_opened ts (Return a) e [] fits stand end = absurd fits
end_opened ts (Return a) e (o ∷ live) fits stand end = subst (IsEnteredAt ts e.node) (sym fits.0) (subst (λ n. IsEnteredAt ts n o.number) (sym fits.1) (All-head (Stands ts) o live stand))
end_opened ts (Leave c) e [] fits stand end = absurd fits
end_opened ts (Leave c) e (o ∷ live) fits stand end = subst (IsEnteredAt ts e.node) (sym fits.0) (subst (λ n. IsEnteredAt ts n o.number) (sym fits.1) (All-head (Stands ts) o live stand))

all_dropped : (P : Event → Type 0) (live : List Event) → All P live → All P (drop 1 live)
all_dropped P [] h = h
all_dropped P (o ∷ live) h = All-tail P o live h

open_stand : (ts : List Told) (t : Told) (kind : EventKind) (live : List Event) → kind ≡ t.event.kind → t.event.number ≡ length ts → All (Stands ts) live → All (Stands (ts ++ t ∷ [])) (open_with kind t.event live)
open_stand ts t Enter live same number stand =
    All-cons (Stands (ts ++ t ∷ [])) t.event live
    (record { enter = t; there = ap (slice_get (ts ++ t ∷ [])) number ∙ get-new ts t; kind_is = sym same; node_is = refl })
    (All-weaker (Stands ts) (Stands (ts ++ t ∷ [])) (λ o h. entered_kept ts t o.node o.number h) live stand)
open_stand ts t (Return a) live same number stand =
    all_dropped (Stands (ts ++ t ∷ [])) live (All-weaker (Stands ts) (Stands (ts ++ t ∷ [])) (λ o h. entered_kept ts t o.node o.number h) live stand)
open_stand ts t (Leave c) live same number stand =
    all_dropped (Stands (ts ++ t ∷ [])) live (All-weaker (Stands ts) (Stands (ts ++ t ∷ [])) (λ o h. entered_kept ts t o.node o.number h) live stand)

paired_after : (past ts : List Told) (live : List Event) → AreInOrderFrom (length past) live ts → All (Stands past) live → IsPaired past → IsPaired (past ++ ts)
paired_after past [] live h stand p = subst IsPaired (sym (append-nil past)) p
paired_after past (t ∷ ts) live h stand p =
    let number : t.event.number ≡ length past = h.0.0 in
    let next = open_with t.event.kind t.event live in
    let size : suc (length past) ≡ length (past ++ t ∷ []) = omega (arith, length_push past t) in
    subst IsPaired (append_assoc past (t ∷ []) ts)
    (paired_after (past ++ t ∷ []) ts next (subst (λ n. AreInOrderFrom n next ts) size h.1)
    (open_stand past t t.event.kind live refl number stand)
    (paired-push past t number (end_opened past t.event.kind t.event live h.0.1 stand) p))

none_paired : IsPaired []
none_paired = record { numbers = λ k t h. absurd (cc); ends_named = λ k t h e. absurd (cc) }

pub in_order_paired : (ts : List Told) → AreInOrder ts → IsPaired ts
in_order_paired ts h = paired_after [] ts [] h (All-nil (Stands [])) none_paired

pub meaning_paired : (p : Program) (v : Verdicts) (fuel entry : ℕ) → IsPaired (meaning_of p entry fuel v).events
meaning_paired p v fuel entry = in_order_paired (meaning_of p entry fuel v).events (meaning_ordered p v fuel entry)
