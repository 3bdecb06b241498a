-- Definition: what holds of the meaning and of the machine, as facts that a contract can promise.
use Rattle.pd_machine.specs.declared.run.NodeResult.{NodeResult}
use Rattle.pd_machine.specs.declared.run.Mode.TheVariants.{Coming}
use Rattle.std.specs.Prelude.{◌≡◌, ℕ, ◌≤◌, [], Some}
use Rattle.pd_tree.specs.Program.{Program, item_at}
use Rattle.pd_machine.specs.Events.{State}
use Rattle.pd_meaning.specs.Meaning.{Verdicts, ends, ran, meaning_of}
use Rattle.pd_meaning.specs.Machine.{Machine, machine, turn, point, start, after_turns}

-- a turn of the machine keeps the outcome to which it leads
abbrev pub TurnKeeps : Type 0
TurnKeeps = (p : Program) (v : Verdicts) (m : Machine) → point p v (turn p v m) ≡ point p v m

-- where the machine is over after some turns from its start, it has what the program means
abbrev pub MachineMeans : Type 0
MachineMeans = (p : Program) (v : Verdicts) (fuel root entry k : ℕ) (r : NodeResult) (s : State) → (item_at p entry).root ≡ Some root → after_turns p v k (start p fuel root) ≡ machine (Coming r) [] s → ran fuel (ends r s) ≡ meaning_of p entry fuel v

-- no run uses more than its fuel
abbrev pub UsesAtMost : ℕ → Type 0
UsesAtMost fuel = (p : Program) (v : Verdicts) (entry : ℕ) → (meaning_of p entry fuel v).used ≤ fuel
