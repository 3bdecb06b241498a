-- Definition: when a run is over, and what a run without fuel has used.
use Rattle.std.specs.Prelude.{◌≡◌, ℕ, ◌+◌, ◌*◌, ◌≤◌}
use Rattle.pd_values.specs.declared.value.End.TheVariants.{Exhausted}
use Rattle.pd_tree.specs.Program.{Program}
use Rattle.pd_machine.specs.Held.{IsOverAt}
use Rattle.pd_meaning.specs.Meaning.{Verdicts, meaning_of}
use Rattle.pd_meaning.specs.Machine.{Machine, start, after_turns}

-- a result came to the end of the stack
abbrev pub IsOver : Machine → Type 0
IsOver m = IsOverAt m.mode m.stack

-- a run that is long enough is over, under all verdicts
abbrev pub EndsInTime : Type 0
EndsInTime = (p : Program) (v : Verdicts) (fuel root k : ℕ) → 6 * fuel + 7 ≤ k → IsOver (after_turns p v k (start p fuel root))

-- a run ends without fuel only where all its fuel was used
abbrev pub UsesAll : Type 0
UsesAll = (p : Program) (v : Verdicts) (fuel entry : ℕ) → (meaning_of p entry fuel v).finish ≡ Exhausted → (meaning_of p entry fuel v).used ≡ fuel
