-- Definition: the texts of suspensions, and of what acts and waits were answered.
use Rattle.std.specs.Prelude.{ℕ, if◌then◌else◌, List, [], ◌∷◌, flat_map, codes}
use Rattle.std.specs.Fmt.{decimal}
use Rattle.pd_values.specs.Operators.{show}
use Rattle.pd_tree.specs.Program.{Program, node_at, item_names}
use Rattle.pd_tree.specs.Kinds.{root_name_of}
use Rattle.pd_plan.specs.declared.plan.Resume.{Resume}
use Rattle.pd_plan.specs.declared.plan.Resume.TheVariants.{Continue, Into, Over, Out, Reenter, Return, Kill}
use Rattle.pd_board.specs.declared.answers.Attach.{Attach}
use Rattle.pd_board.specs.declared.answers.Attach.TheVariants as attaches
use Rattle.pd_board.specs.declared.answers.Dispose.{Dispose}
use Rattle.pd_board.specs.declared.answers.Dispose.TheVariants as disposes
use Rattle.pd_board.specs.declared.answers.Toggle.{Toggle}
use Rattle.pd_board.specs.declared.answers.Toggle.TheVariants as toggles
use Rattle.pd_board.specs.declared.answers.ActResult.{ActResult}
use Rattle.pd_board.specs.declared.answers.ActResult.TheVariants as acts
use Rattle.pd_board.specs.declared.waiting.Waited.{Waited}
use Rattle.pd_board.specs.declared.waiting.Waited.TheVariants.{Reached, AllEnded, Late}
use Rattle.pd_session.specs.declared.record.ActionResult.{ActionResult}
use Rattle.pd_session.specs.declared.record.ActionResult.TheVariants.{Act, Awaited}
use Rattle.pd_suspend.specs.declared.suspension.Anchor.{Anchor}
use Rattle.pd_suspend.specs.declared.suspension.Anchor.TheVariants.{Before, After}
use Rattle.pd_suspend.specs.declared.suspension.Reason.{Reason}
use Rattle.pd_suspend.specs.declared.suspension.Reason.TheVariants.{Hit, Step, Halt}
use Rattle.pd_suspend.specs.declared.suspension.Variable.{Variable}
use Rattle.pd_suspend.specs.declared.suspension.FrameView.{FrameView}
use Rattle.pd_suspend.specs.declared.suspension.Suspension.{Suspension}
use Rattle.pd_report.specs.Lines.{joined, line_end, numbered}
use Rattle.pd_report.specs.Words.{position_text}

-- ---- acts and waits

-- the word of an attach's answer
abbrev pub attach_name : Attach → List ℕ
attach_name attaches.Attached = codes "attached"
attach_name attaches.Already = codes "already"
attach_name attaches.Gone = codes "gone"

-- the answer of a dispose
abbrev pub dispose_text : Dispose → List ℕ
dispose_text (disposes.Disposed count) = joined (codes "disposed " ∷ decimal count ∷ [])
dispose_text disposes.Already = codes "already"

-- the answer of a switch on or off
abbrev pub toggle_text : Toggle → List ℕ
toggle_text (toggles.At count) = joined (codes "at " ∷ decimal count ∷ [])
toggle_text toggles.Already = codes "already"
toggle_text toggles.Gone = codes "gone"

-- an act with its binding and what it was answered
abbrev pub act_text : ActResult → List ℕ
act_text (acts.Attached binding answer) = joined (codes "attach " ∷ decimal binding ∷ codes " " ∷ attach_name answer ∷ [])
act_text (acts.Disposed binding answer) = joined (codes "dispose " ∷ decimal binding ∷ codes " " ∷ dispose_text answer ∷ [])
act_text (acts.Enabled binding answer) = joined (codes "enable " ∷ decimal binding ∷ codes " " ∷ toggle_text answer ∷ [])
act_text (acts.Disabled binding answer) = joined (codes "disable " ∷ decimal binding ∷ codes " " ∷ toggle_text answer ∷ [])

-- the line of an act
abbrev pub act_line : ActResult → List ℕ
act_line act = joined (codes "  " ∷ act_text act ∷ line_end ∷ [])

-- how a wait ended
abbrev pub waited_text : Waited → List ℕ
waited_text (Reached n) = joined (codes "reached " ∷ decimal n ∷ [])
waited_text AllEnded = codes "ended"
waited_text (Late n) = joined (codes "late " ∷ decimal n ∷ [])

-- an action of a session's script, with what came of it
abbrev pub action_text : ActionResult → List ℕ
action_text (Act act) = act_text act
action_text (Awaited count waited) = joined (codes "await " ∷ decimal count ∷ codes " " ∷ waited_text waited ∷ [])

-- the line of an action
abbrev pub action_line : ActionResult → List ℕ
action_line action = joined (codes "  " ∷ action_text action ∷ line_end ∷ [])

-- ---- suspensions

-- on which side of the node
abbrev pub anchor_name : Anchor → List ℕ
anchor_name Before = codes "before"
anchor_name After = codes "after"

-- a hit with its binding and place, and `?` where the condition had no truth value; the end of a step; a halt
abbrev pub reason_text : Reason → List ℕ
reason_text (Hit binding place cannot) = joined (codes "hit " ∷ decimal binding ∷ codes "@" ∷ decimal place ∷ (if cannot then codes "?" else []) ∷ [])
reason_text Step = codes "step"
reason_text Halt = codes "halt"

-- a reason that isn't the first
abbrev pub next_reason : Reason → List ℕ
next_reason reason = joined (codes "," ∷ reason_text reason ∷ [])

-- reasons with `,` between them
abbrev pub reasons_text : List Reason → List ℕ
reasons_text [] = []
reasons_text (reason ∷ reasons) = joined (reason_text reason ∷ flat_map next_reason reasons ∷ [])

-- a variable with its value; `names` are those of the items
abbrev pub variable_text : List (List ℕ) → Variable → List ℕ
variable_text names v = joined (codes " " ∷ v.name ∷ codes "=" ∷ show names v.value ∷ [])

-- the line of the frame of this number: its function, where it stands, and the variables that it sees
abbrev pub frame_line : Program → ℕ → FrameView → List ℕ
frame_line p number f = joined (
    codes "  frame " ∷ decimal number ∷ codes " " ∷ root_name_of (node_at p f.root).kind ∷ codes " " ∷ position_text p f.at
    ∷ flat_map (variable_text (item_names p)) f.variables ∷ line_end ∷ [])

-- how the run goes on
abbrev pub resume_text : List (List ℕ) → Resume → List ℕ
resume_text names Continue = codes "continue"
resume_text names (Into n) = joined (codes "into " ∷ decimal n ∷ [])
resume_text names (Over n) = joined (codes "over " ∷ decimal n ∷ [])
resume_text names (Out n) = joined (codes "out " ∷ decimal n ∷ [])
resume_text names (Reenter k) = joined (codes "reenter " ∷ decimal k ∷ [])
resume_text names (Return k value) = joined (codes "return " ∷ decimal k ∷ codes " " ∷ show names value ∷ [])
resume_text names Kill = codes "kill"

-- where a suspension is: its event, its session, and its node with the position
abbrev pub stop_place : Program → Suspension → List ℕ
stop_place p x = joined (
    codes "stop " ∷ decimal x.event ∷ codes " session " ∷ decimal x.session ∷ codes " " ∷ anchor_name x.anchor ∷ codes " " ∷ decimal x.node
    ∷ codes " " ∷ position_text p x.node ∷ [])

-- the first line of a suspension: where it is, the number of its answer, and its reasons
abbrev pub stop_line : Program → Suspension → List ℕ
stop_line p x = joined (stop_place p x ∷ codes " answer " ∷ decimal x.answer ∷ codes " " ∷ reasons_text x.reasons ∷ line_end ∷ [])

-- the line of how the run goes on
abbrev pub then_line : Program → Suspension → List ℕ
then_line p x = joined (codes "  then " ∷ resume_text (item_names p) x.resume ∷ line_end ∷ [])

-- a suspension: its first line, its frames from the innermost, the acts of its answer, and how the run goes on
abbrev pub stop_text : Program → Suspension → List ℕ
stop_text p x = joined (stop_line p x ∷ numbered (frame_line p) 0 x.frames ∷ flat_map act_line x.acts ∷ then_line p x ∷ [])
