-- Events in order are nested: the open activations are the same, told from the other end.
use Rattle.std.proofs.Common.{ℕ, suc, List, [], ◌∷◌, ◌++◌, map, refl, sym}
use Rattle.pd_machine.specs.declared.event.Event.{Event}
use Rattle.pd_machine.specs.declared.event.EventKind.{EventKind}
use Rattle.pd_machine.specs.declared.event.EventKind.TheVariants.{Enter, Return, Leave}
use Rattle.pd_machine.specs.Events.{Told}
use Rattle.pd_order.specs.Order.{open_with, Fits, AreInOrderFrom}
use Rattle.pd_running.specs.Running.{is_enter}
use Rattle.pd_running.specs.Nested.{Opening, IsNested}

-- the outermost first, of a list with the innermost first
abbrev turned : List Told → List Told
turned [] = []
turned (t ∷ ts) = turned ts ++ t ∷ []

abbrev told : List Told → List Event
told live = map (λ t. t.event) live

-- what follows of the events after this one
abbrev Follows : ℕ → List Told → Type 0
Follows n ts = (live : List Told) → AreInOrderFrom n (told live) ts → IsNested (turned live) n ts

opens : (k : EventKind) (live : List Told) (t : Told) (n : ℕ) (ts : List Told) → Fits k t.event (told live) → AreInOrderFrom (suc n) (open_with k t.event (told live)) ts → Follows (suc n) ts
    → Opening (is_enter k) (turned live) t (λ o. IsNested o (suc n) ts)
opens Enter live t n ts f h go = go (t ∷ live) h
opens (Return a) [] t n ts f h go = absurd f
opens (Return a) (x ∷ xs) t n ts f h go = (record { rest = turned xs; inner = x; open_is = refl; opened = sym f.0; node = sym f.1 }, go xs h)
opens (Leave c) [] t n ts f h go = absurd f
opens (Leave c) (x ∷ xs) t n ts f h go = (record { rest = turned xs; inner = x; open_is = refl; opened = sym f.0; node = sym f.1 }, go xs h)

pub nested_from : (ts : List Told) (n : ℕ) → Follows n ts
nested_from [] n live h = tt
nested_from (t ∷ ts) n live h = (h.0.0, opens t.event.kind live t n ts h.0.1 h.1 (nested_from ts (suc n)))
