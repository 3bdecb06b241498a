-- Definition: how the events of a run are numbered and nested.
use Rattle.std.specs.Prelude.{◌≡◌, ℕ, suc, Bool, true, false, List, [], ◌∷◌, ◌++◌}
use Rattle.pd_machine.specs.Events.{Told}
use Rattle.pd_running.specs.Running.{is_enter}

-- an event ends the innermost of these open activations, and leaves the others
pub record Closing (live : List Told) (t : Told) : Type 0 where
  pub rest : List Told
  pub inner : Told
  pub open_is : live ≡ rest ++ inner ∷ []
  pub opened : inner.event.number ≡ t.event.opened
  pub node : inner.event.node ≡ t.event.node

-- what holds of the open activations after an event: it begins one more, or ends the innermost
abbrev pub Opening : Bool → List Told → Told → (List Told → Type 0) → Type 0
Opening true live t goes_on = goes_on (live ++ t ∷ [])
Opening false live t goes_on = (c : Closing live t) × goes_on c.rest

-- events from number n on, where these activations are live, the outermost first: they are numbered one by one, and each end is that
-- of the innermost activation that is open
abbrev pub IsNested : List Told → ℕ → List Told → Type 0
IsNested live n [] = Unit {0}
IsNested live n (t ∷ ts) = (t.event.number ≡ n) × Opening (is_enter t.event.kind) live t (λ o. IsNested o (suc n) ts)
