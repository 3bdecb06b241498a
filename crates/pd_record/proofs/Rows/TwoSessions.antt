-- Two sessions are suspended at one event: each has its own reasons.
--  1  function main() {
--  2    debugger;
--  3    println(2);
--  4  }
use Rattle.std.specs.Prelude.{◌≡◌, refl, true, false, List, [], ◌∷◌, None, Some, pos, codes}
use Rattle.std.specs.Fmt.{digits}
use Rattle.std.specs.List.{list_all}
use Rattle.pd_values.specs.declared.value.Value.TheVariants.{Null}
use Rattle.pd_values.specs.declared.value.End.TheVariants.{Done}
use Rattle.pd_values.specs.declared.value.Tag.TheVariants.{Statement, Call, Root, RootBody, Expression, AlwaysHalt}
use Rattle.pd_tree.specs.declared.kind.Kind.TheVariants.{SlBody, SlCall, SlDebugger, SlFunction, SlName, SlNumber}
use Rattle.pd_tree.specs.declared.kind.Meaning.TheVariants.{Item as Means, Nothing}
use Rattle.pd_tree.specs.Program.{Program, Node, Item}
use Rattle.pd_meaning.specs.Meaning.{Ran, Verdicts, meaning_of, evaluated}
use Rattle.pd_plan.specs.declared.plan.Language.TheVariants.{Sl}
use Rattle.pd_plan.specs.declared.plan.BindingSpec.TheVariants.{Break}
use Rattle.pd_plan.specs.declared.plan.Resume.TheVariants.{Continue, Over}
use Rattle.pd_plan.specs.declared.plan.Plan.{Plan}
use Rattle.pd_board.specs.declared.answers.Drawn.TheVariants.{On}
use Rattle.pd_board.specs.declared.answers.Sight.{Sight}
use Rattle.pd_suspend.specs.declared.suspension.Suspension.{Suspension}
use Rattle.pd_suspend.specs.Stops.{Setting, Answered, stops_of, verdicts_of}
use Rattle.pd_suspend.specs.Answers.{numbers_in}
use Rattle.pd_record.specs.Logs.{answer_at, log_of}
use Rattle.pd_record.specs.Seen.{in_order, is_subject_at}
use Rattle.pd_record.proofs.Rows.Text.{brief, stops_text, log_text}

abbrev nodes : List Node
nodes =
    -- 0
    record { kind = (SlFunction (codes "main") []); children = 1 ∷ []; tags = Root ∷ []; meaning = Nothing; root = 0; level = 0; slots = 0; sees = []; source = 0; start = 0; len = 0; line = 1; column = 1 } ∷
    -- 1
    record { kind = SlBody; children = 2 ∷ 3 ∷ []; tags = RootBody ∷ []; meaning = Nothing; root = 0; level = 0; slots = 0; sees = []; source = 0; start = 0; len = 0; line = 1; column = 17 } ∷
    -- 2
    record { kind = SlDebugger; children = []; tags = Statement ∷ AlwaysHalt ∷ []; meaning = Nothing; root = 0; level = 0; slots = 0; sees = []; source = 0; start = 0; len = 0; line = 2; column = 3 } ∷
    -- 3
    record { kind = SlCall; children = 4 ∷ 5 ∷ []; tags = Expression ∷ Call ∷ Statement ∷ []; meaning = Nothing; root = 0; level = 0; slots = 0; sees = []; source = 0; start = 0; len = 0; line = 3; column = 3 } ∷
    -- 4
    record { kind = (SlName (codes "println")); children = []; tags = Expression ∷ []; meaning = (Means 0); root = 0; level = 0; slots = 0; sees = []; source = 0; start = 0; len = 0; line = 3; column = 3 } ∷
    -- 5
    record { kind = (SlNumber (pos 2)); children = []; tags = Expression ∷ []; meaning = Nothing; root = 0; level = 0; slots = 0; sees = []; source = 0; start = 0; len = 0; line = 3; column = 11 } ∷
    []

abbrev items : List Item
items =
    record { name = codes "println"; root = None } ∷
    record { name = codes "main"; root = Some 0 } ∷
    []

abbrev pub program : Program
program = record { nodes = nodes; items = items; mains = None ∷ []; entries = 1 ∷ [] }

abbrev pub plan : Plan
plan = record {
  sources = record { name = codes "main.sl"; language = Sl } ∷ [];
  exports = [];
  contexts = record { source = 0; entry = codes "main"; fuel = 1000000 } ∷ [];
  bindings =
      Break (record { session = 1; source = 0; line = 2; condition = None; ignore = 0; one_shot = false }) ∷
      [];
  sessions = record { before = 0 ∷ []; actions = []; answers = [] } ∷ record { before = []; actions = []; answers = [] } ∷ [];
}

-- the verdicts that are answered
abbrev pub given : Verdicts
given = []

abbrev pub ran : Ran
ran = meaning_of program 1 1000000 given

-- what was seen
abbrev pub seen : List Sight
seen =
    record { event = 2; binding = 0; drawn = On 0 } ∷
    []

-- what the suspensions were answered
abbrev pub answered : List Answered
answered =
    record { answer = 0; acts = []; resume = Over 1 } ∷
    record { answer = 0; acts = []; resume = Continue } ∷
    record { answer = 1; acts = []; resume = Continue } ∷
    []

abbrev pub setting : Setting
setting = record { plan = plan; program = program; context = 0; drawn = answer_at seen; answered = answered }

abbrev pub stops : List Suspension
stops = stops_of setting ran.events

run : brief ran ≡ (codes "2\n", Done Null, 6, 12)
unfolding meaning_of evaluated digits
run = refl

printed : stops_text program stops ≡
    codes "stop 2 session 0 before 2 0:2:3 answer 0 halt" ∷
    codes "  frame 0 main 0:2:3" ∷
    codes "  then over 1" ∷
    codes "stop 2 session 1 before 2 0:2:3 answer 0 hit 0@0,halt" ∷
    codes "  frame 0 main 0:2:3" ∷
    codes "  then continue" ∷
    codes "stop 4 session 0 before 3 0:3:3 answer 1 step" ∷
    codes "  frame 0 main 0:3:3" ∷
    codes "  then continue" ∷
    []
unfolding meaning_of evaluated digits
printed = refl

-- the verdicts are those of the suspensions
same_verdicts : verdicts_of stops ≡ given
unfolding meaning_of evaluated digits
same_verdicts = refl

log_0 : log_text program (log_of 0 plan program seen ran.events 0) ≡
    codes "  0 2 0 enter 2 0:2:3" ∷
    []
unfolding meaning_of evaluated digits
log_0 = refl

in_turn : in_order seen ≡ true
in_turn = refl

subjects : list_all (λ s. is_subject_at plan program seen ran.events s.event s.binding) seen ≡ true
unfolding meaning_of evaluated digits
subjects = refl

numbers : numbers_in 0 stops ≡ 0 ∷ 1 ∷ []
unfolding meaning_of evaluated digits
numbers = refl
