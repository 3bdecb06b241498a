-- What the calls cost that serve one event.
use Rattle.std.specs.Prelude.{◌≡◌, ℕ, ◌+◌, ◌*◌, ◌≤◌, ◌==◌, Bool, true, false, List, [], ◌∷◌, length, count_by, Option, Some, None}
use Rattle.std.specs.List.{filter_map}
use Rattle.pd_board.specs.declared.answers.Known.{Known}
use Rattle.pd_board.specs.declared.answers.Drawn.{Drawn}
use Rattle.pd_core.specs.declared.view.View.{View}
use Rattle.pd_core.specs.Layout.{Layout, bindings}
use Rattle.pd_core.specs.Kinds.{clear_bit, set_disposed}
use Rattle.pd_core.specs.Views.{known, found_attached, found_disposed, gather}
use Rattle.pd_shared.specs.Took.{DrawSteps}
use Rattle.pd_shared.specs.Loading.{bit_loaded}
use Rattle.pd_shared.specs.Steps.{TookOne, ChainSteps}

-- ---- the calls, answers and their acts aside

-- a binding is drawn at an event, swept at a node, or passed; and a one-shot that was hit is disposed
pub data EventCall : Type 0 where
  draws : ℕ → ℕ → EventCall
  sweeps : ℕ → ℕ → EventCall
  passes : ℕ → EventCall
  disposes : ℕ → EventCall

abbrev pub DoesCall : Layout → EventCall → View → View → Type 0
DoesCall p (draws event b) v next = (drawn : Drawn) × (later : Known) × DrawSteps p event b v next drawn later
DoesCall p (sweeps n b) v next = TookOne p (clear_bit n b) v next
DoesCall p (passes b) v next = next ≡ v
DoesCall p (disposes b) v next = TookOne p (set_disposed b) v next

-- the calls, one after another, each of which does so
abbrev pub InTurn : (EventCall → View → View → Type 0) → List EventCall → View → View → Type 0
InTurn does [] v next = next ≡ v
InTurn does (x ∷ xs) v next = (m : View) × does x v m × InTurn does xs m next

-- the binding that a call draws, sweeps or passes, and whether it draws, sweeps, or disposes
abbrev pub met_by : EventCall → Option ℕ
met_by (draws event b) = Some b
met_by (sweeps n b) = Some b
met_by (passes b) = Some b
met_by (disposes b) = None

abbrev pub is_draw : EventCall → Bool
is_draw (draws event b) = true
is_draw _ = false

abbrev pub is_sweep : EventCall → Bool
is_sweep (sweeps n b) = true
is_sweep _ = false

abbrev pub is_disposal : EventCall → Bool
is_disposal (disposes b) = true
is_disposal _ = false

-- each binding is met at most as often as it stands in the list
abbrev pub MeetsOnly : List ℕ → List EventCall → Type 0
MeetsOnly bs xs = (b : ℕ) → count_by (λ c. c == b) (filter_map met_by xs) ≤ count_by (λ c. c == b) bs

-- the bindings whose bits the loaded rows had, each once
abbrev pub bits_of : Layout → View → List ℕ
bits_of p v = gather (bit_loaded v.loaded) (bindings p)

-- ---- how many steps they are

-- At most two steps for a draw, and one for a sweep and for a disposal: a binding that is known as disposed costs one where its bit is met
abbrev pub CallsCost : Type 0
CallsCost = (p : Layout) (xs : List EventCall) (v next : View) → InTurn (DoesCall p) xs v next
    → next.steps ≤ v.steps + (2 * count_by is_draw xs + count_by is_sweep xs + count_by is_disposal xs)

-- So an Enter, which meets the loaded bits alone, costs one load, one more for each row of the summary, at most two for each of these bits,
-- and one for each disposal
abbrev pub EnterCosts : Type 0
EnterCosts = (p : Layout) (n rows : ℕ) (xs : List EventCall) (v m next : View) → ChainSteps p n rows v m → InTurn (DoesCall p) xs m next → MeetsOnly (bits_of p m) xs
    → next.steps ≤ v.steps + (1 + rows + 2 * length (bits_of p m) + count_by is_disposal xs)

-- at a Return or a Leave a binding that is known as attached is drawn, and one that is known as disposed is passed
abbrev pub DoesEndCall : Layout → EventCall → View → View → Type 0
DoesEndCall p (draws event b) v next = (known v b ≡ found_attached) × DoesCall p (draws event b) v next
DoesEndCall p (passes b) v next = (known v b ≡ found_disposed) × (next ≡ v)
DoesEndCall p _ v next = ⊥

-- so it costs at most one step for each of the observers whose Enter was On
abbrev pub EndCosts : Type 0
EndCosts = (p : Layout) (observers : List ℕ) (xs : List EventCall) (v next : View) → InTurn (DoesEndCall p) xs v next → MeetsOnly observers xs → next.steps ≤ v.steps + length observers
