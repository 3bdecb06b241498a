-- The whole run is entered again and again, until its fuel is used up.
--  1  function main() { debugger; }
use Rattle.std.specs.Prelude.{◌≡◌, refl, ℕ, true, List, [], ◌∷◌, map, None, Some, codes}
use Rattle.std.specs.Fmt.{digits}
use Rattle.std.specs.List.{list_all, range_with_len}
use Rattle.pd_suspend.specs.declared.suspension.Reason.{Reason}
use Rattle.pd_suspend.specs.declared.suspension.Reason.TheVariants.{Step, Halt}
use Rattle.pd_values.specs.declared.value.End.TheVariants.{Exhausted}
use Rattle.pd_tree.specs.declared.kind.Kind.TheVariants.{SlBody, SlDebugger, SlFunction}
use Rattle.pd_values.specs.declared.value.Tag.TheVariants.{Statement, Root, RootBody, AlwaysHalt}
use Rattle.pd_tree.specs.declared.kind.Meaning.TheVariants.{Nothing}
use Rattle.pd_tree.specs.Program.{Program, Node, Item}
use Rattle.pd_machine.specs.declared.event.Verdict.TheVariants as verdicts
use Rattle.pd_meaning.specs.Meaning.{Ran, Verdicts, meaning_of, evaluated}
use Rattle.pd_plan.specs.declared.plan.Language.TheVariants.{Sl}
use Rattle.pd_plan.specs.declared.plan.Resume.TheVariants.{Reenter}
use Rattle.pd_plan.specs.declared.plan.Plan.{Plan}
use Rattle.pd_board.specs.declared.answers.Sight.{Sight}
use Rattle.pd_suspend.specs.declared.suspension.Suspension.{Suspension}
use Rattle.pd_suspend.specs.Stops.{Setting, Answered, stops_of, verdicts_of}
use Rattle.pd_suspend.specs.Answers.{numbers_in}
use Rattle.pd_record.specs.Logs.{answer_at}
use Rattle.pd_record.specs.Seen.{in_order, is_subject_at}
use Rattle.pd_record.proofs.Rows.Text.{brief}

abbrev nodes : List Node
nodes =
    -- 0
    record { kind = (SlFunction (codes "main") []); children = 1 ∷ []; tags = Root ∷ []; meaning = Nothing; root = 0; level = 0; slots = 0; sees = []; source = 0; start = 0; len = 29; line = 1; column = 1 } ∷
    -- 1
    record { kind = SlBody; children = 2 ∷ []; tags = RootBody ∷ []; meaning = Nothing; root = 0; level = 0; slots = 0; sees = []; source = 0; start = 16; len = 13; line = 1; column = 17 } ∷
    -- 2
    record { kind = SlDebugger; children = []; tags = Statement ∷ AlwaysHalt ∷ []; meaning = Nothing; root = 0; level = 0; slots = 0; sees = []; source = 0; start = 18; len = 8; line = 1; column = 19 } ∷
    []

abbrev items : List Item
items =
    record { name = codes "println"; root = None } ∷
    record { name = codes "main"; root = Some 0 } ∷
    []

abbrev pub program : Program
program = record { nodes = nodes; items = items; mains = None ∷ []; entries = 1 ∷ [] }

abbrev pub plan : Plan
plan = record {
  sources = record { name = codes "main.sl"; language = Sl } ∷ [];
  exports = [];
  contexts = record { source = 0; entry = codes "main"; fuel = 200 } ∷ [];
  bindings =
      [];
  sessions = record { before = []; actions = []; answers = [] } ∷ [];
}

-- the verdicts that are answered
abbrev pub given : Verdicts
given = (2, verdicts.Reenter 99) ∷ (8, verdicts.Reenter 99) ∷ (14, verdicts.Reenter 99) ∷ (20, verdicts.Reenter 99) ∷ (26, verdicts.Reenter 99) ∷ (32, verdicts.Reenter 99) ∷ (38, verdicts.Reenter 99) ∷ (44, verdicts.Reenter 99) ∷ (50, verdicts.Reenter 99) ∷ (56, verdicts.Reenter 99) ∷ (62, verdicts.Reenter 99) ∷ (68, verdicts.Reenter 99) ∷ (74, verdicts.Reenter 99) ∷ (80, verdicts.Reenter 99) ∷ (86, verdicts.Reenter 99) ∷ (92, verdicts.Reenter 99) ∷ (98, verdicts.Reenter 99) ∷ (104, verdicts.Reenter 99) ∷ (110, verdicts.Reenter 99) ∷ (116, verdicts.Reenter 99) ∷ (122, verdicts.Reenter 99) ∷ (128, verdicts.Reenter 99) ∷ (134, verdicts.Reenter 99) ∷ (140, verdicts.Reenter 99) ∷ (146, verdicts.Reenter 99) ∷ (152, verdicts.Reenter 99) ∷ (158, verdicts.Reenter 99) ∷ (164, verdicts.Reenter 99) ∷ (170, verdicts.Reenter 99) ∷ (176, verdicts.Reenter 99) ∷ (182, verdicts.Reenter 99) ∷ (188, verdicts.Reenter 99) ∷ (194, verdicts.Reenter 99) ∷ (200, verdicts.Reenter 99) ∷ (206, verdicts.Reenter 99) ∷ (212, verdicts.Reenter 99) ∷ (218, verdicts.Reenter 99) ∷ (224, verdicts.Reenter 99) ∷ (230, verdicts.Reenter 99) ∷ (236, verdicts.Reenter 99) ∷ (242, verdicts.Reenter 99) ∷ (248, verdicts.Reenter 99) ∷ (254, verdicts.Reenter 99) ∷ (260, verdicts.Reenter 99) ∷ (266, verdicts.Reenter 99) ∷ (272, verdicts.Reenter 99) ∷ (278, verdicts.Reenter 99) ∷ (284, verdicts.Reenter 99) ∷ (290, verdicts.Reenter 99) ∷ (296, verdicts.Reenter 99) ∷ (302, verdicts.Reenter 99) ∷ (308, verdicts.Reenter 99) ∷ (314, verdicts.Reenter 99) ∷ (320, verdicts.Reenter 99) ∷ (326, verdicts.Reenter 99) ∷ (332, verdicts.Reenter 99) ∷ (338, verdicts.Reenter 99) ∷ (344, verdicts.Reenter 99) ∷ (350, verdicts.Reenter 99) ∷ (356, verdicts.Reenter 99) ∷ (362, verdicts.Reenter 99) ∷ (368, verdicts.Reenter 99) ∷ (374, verdicts.Reenter 99) ∷ (380, verdicts.Reenter 99) ∷ (386, verdicts.Reenter 99) ∷ (392, verdicts.Reenter 99) ∷ []

abbrev pub ran : Ran
ran = meaning_of program 1 200 given

-- what was seen
abbrev pub seen : List Sight
seen =
    []

-- what the suspensions were answered
abbrev pub answered : List Answered
answered = map (λ k. record { answer = k; acts = []; resume = Reenter 99 }) (range_with_len 0 100)

abbrev pub setting : Setting
setting = record { plan = plan; program = program; context = 0; drawn = answer_at seen; answered = answered }

abbrev pub stops : List Suspension
stops = stops_of setting ran.events

run : brief ran ≡ ([], Exhausted, 200, 398)
unfolding meaning_of evaluated digits
run = refl

summary : map {B = ℕ × List Reason} (λ x. (x.event, x.reasons)) stops ≡ (2, Halt ∷ []) ∷ (8, Step ∷ Halt ∷ []) ∷ (14, Step ∷ Halt ∷ []) ∷ (20, Step ∷ Halt ∷ []) ∷ (26, Step ∷ Halt ∷ []) ∷ (32, Step ∷ Halt ∷ []) ∷ (38, Step ∷ Halt ∷ []) ∷ (44, Step ∷ Halt ∷ []) ∷ (50, Step ∷ Halt ∷ []) ∷ (56, Step ∷ Halt ∷ []) ∷ (62, Step ∷ Halt ∷ []) ∷ (68, Step ∷ Halt ∷ []) ∷ (74, Step ∷ Halt ∷ []) ∷ (80, Step ∷ Halt ∷ []) ∷ (86, Step ∷ Halt ∷ []) ∷ (92, Step ∷ Halt ∷ []) ∷ (98, Step ∷ Halt ∷ []) ∷ (104, Step ∷ Halt ∷ []) ∷ (110, Step ∷ Halt ∷ []) ∷ (116, Step ∷ Halt ∷ []) ∷ (122, Step ∷ Halt ∷ []) ∷ (128, Step ∷ Halt ∷ []) ∷ (134, Step ∷ Halt ∷ []) ∷ (140, Step ∷ Halt ∷ []) ∷ (146, Step ∷ Halt ∷ []) ∷ (152, Step ∷ Halt ∷ []) ∷ (158, Step ∷ Halt ∷ []) ∷ (164, Step ∷ Halt ∷ []) ∷ (170, Step ∷ Halt ∷ []) ∷ (176, Step ∷ Halt ∷ []) ∷ (182, Step ∷ Halt ∷ []) ∷ (188, Step ∷ Halt ∷ []) ∷ (194, Step ∷ Halt ∷ []) ∷ (200, Step ∷ Halt ∷ []) ∷ (206, Step ∷ Halt ∷ []) ∷ (212, Step ∷ Halt ∷ []) ∷ (218, Step ∷ Halt ∷ []) ∷ (224, Step ∷ Halt ∷ []) ∷ (230, Step ∷ Halt ∷ []) ∷ (236, Step ∷ Halt ∷ []) ∷ (242, Step ∷ Halt ∷ []) ∷ (248, Step ∷ Halt ∷ []) ∷ (254, Step ∷ Halt ∷ []) ∷ (260, Step ∷ Halt ∷ []) ∷ (266, Step ∷ Halt ∷ []) ∷ (272, Step ∷ Halt ∷ []) ∷ (278, Step ∷ Halt ∷ []) ∷ (284, Step ∷ Halt ∷ []) ∷ (290, Step ∷ Halt ∷ []) ∷ (296, Step ∷ Halt ∷ []) ∷ (302, Step ∷ Halt ∷ []) ∷ (308, Step ∷ Halt ∷ []) ∷ (314, Step ∷ Halt ∷ []) ∷ (320, Step ∷ Halt ∷ []) ∷ (326, Step ∷ Halt ∷ []) ∷ (332, Step ∷ Halt ∷ []) ∷ (338, Step ∷ Halt ∷ []) ∷ (344, Step ∷ Halt ∷ []) ∷ (350, Step ∷ Halt ∷ []) ∷ (356, Step ∷ Halt ∷ []) ∷ (362, Step ∷ Halt ∷ []) ∷ (368, Step ∷ Halt ∷ []) ∷ (374, Step ∷ Halt ∷ []) ∷ (380, Step ∷ Halt ∷ []) ∷ (386, Step ∷ Halt ∷ []) ∷ (392, Step ∷ Halt ∷ []) ∷ []
unfolding meaning_of evaluated digits
summary = refl

-- the verdicts are those of the suspensions
same_verdicts : verdicts_of stops ≡ given
unfolding meaning_of evaluated digits
same_verdicts = refl

in_turn : in_order seen ≡ true
in_turn = refl

subjects : list_all (λ s. is_subject_at plan program seen ran.events s.event s.binding) seen ≡ true
unfolding meaning_of evaluated digits
subjects = refl

numbers : numbers_in 0 stops ≡ range_with_len 0 66
unfolding meaning_of evaluated digits
numbers = refl
