-- For the code's proofs: no public contract needs it.
-- What the board's answers have grown by in the middle of an event.
use Rattle.std.specs.Prelude.{ℕ, List, ◌++◌, map}
use Rattle.std.specs.List.{filter_map}
use Rattle.pd_machine.specs.Events.{Told}
use Rattle.pd_plan.specs.declared.plan.Plan.{Plan}
use Rattle.pd_board.specs.declared.answers.ActResult.{ActResult}
use Rattle.pd_board.specs.declared.answers.Sight.{Sight}
use Rattle.pd_suspend.specs.declared.suspension.Suspension.{Suspension}
use Rattle.pd_record.specs.Replies.{Owed, of_act, of_hit, used_up_by, owed_of}

-- what the events before number n added, then the disposals of what was used up at n so far, then these acts of n
abbrev pub owed_to : Plan → List Sight → List Suspension → List Told → ℕ → List ActResult → List Owed
owed_to plan seen stops ts n acts = owed_of plan seen stops ts ++ (map of_hit (filter_map (used_up_by plan n) seen) ++ map of_act acts)
