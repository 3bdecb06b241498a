-- For the code's proofs: no public contract needs it.
use Rattle.std.specs.Prelude.{ℕ, List, [], ◌∷◌, map}
use Rattle.pd_suspend.specs.declared.context.ContextRecord.{ContextRecord}
use Rattle.pd_running.specs.Running.{mark_in}
use Rattle.pd_paths.specs.declared.PathCount.{PathCount}
use Rattle.pd_paths.specs.Tally.{AreRising, IsTally}
use Rattle.pd_calltree.specs.Results.{log_in}

-- the log of binding b in each of these contexts rises, below the number of the context's events
abbrev pub AreCountable : ℕ → List ContextRecord → Type 0
AreCountable b [] = Unit {0}
AreCountable b (r ∷ rs) = AreRising 0 r.events (map mark_in (log_in b r)) × AreCountable b rs

-- these are the paths that the logs tell
abbrev pub AreTallied : ℕ → List ContextRecord → List (List PathCount) → Type 0
AreTallied b [] [] = Unit {0}
AreTallied b (r ∷ rs) (t ∷ ts) = IsTally r.events (map mark_in (log_in b r)) t × AreTallied b rs ts
AreTallied b _ _ = ⊥
