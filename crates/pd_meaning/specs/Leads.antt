-- For the code's proofs: no public contract needs it.
-- Where a machine leads, when only the verdicts on the events so far are known.
use Rattle.std.specs.Prelude.{◌≡◌, ℕ, ◌<◌, [], ◌∷◌, length, Some}
use Rattle.pd_tree.specs.Program.{Program}
use Rattle.pd_meaning.specs.Meaning.{Verdicts, verdict_at, from_root}
use Rattle.pd_meaning.specs.Machine.{Machine, point}

-- two lists say the same of the events below a number
abbrev pub AgreeBelow : ℕ → Verdicts → Verdicts → Type 0
AgreeBelow n v u = (e : ℕ) → e < n → verdict_at v e ≡ verdict_at u e

-- the events of a list are below a number
abbrev pub AllBelow : ℕ → Verdicts → Type 0
AllBelow n [] = Unit {0}
AllBelow n (x ∷ xs) = (x.0 < n) × AllBelow n xs

-- a machine leads to the meaning under each list that agrees so far with what was kept
abbrev pub LeadsUnder : Program → ℕ → ℕ → Verdicts → Machine → Type 0
LeadsUnder p fuel root kept m = (v : Verdicts) → AgreeBelow (length m.state.events) v kept → point p v m ≡ from_root p v fuel (Some root)
