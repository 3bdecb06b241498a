-- Breakpoints with conditions: one that ignores its first hit, and a one-shot whose condition names no variable.
--  1  function main() {
--  2    i = 0;
--  3    while (i < 5) {
--  4      i = i + 1;
--  5    }
--  6  }
use Rattle.std.specs.Prelude.{◌≡◌, refl, true, false, List, [], ◌∷◌, None, Some, pos, codes}
use Rattle.std.specs.Fmt.{digits}
use Rattle.std.specs.List.{list_all}
use Rattle.pd_values.specs.declared.value.Value.TheVariants.{Null}
use Rattle.pd_values.specs.declared.value.End.TheVariants.{Done}
use Rattle.pd_tree.specs.declared.kind.Kind.TheVariants.{SlAssign, SlBinary, SlBlock, SlBody, SlFunction, SlName, SlNumber, SlWhile}
use Rattle.pd_tree.specs.declared.kind.Operator.TheVariants.{Add, Less}
use Rattle.pd_values.specs.declared.value.Tag.TheVariants.{Statement, Root, RootBody, Expression, ReadVariable, WriteVariable}
use Rattle.pd_tree.specs.declared.kind.Meaning.TheVariants.{Local, Nothing}
use Rattle.pd_tree.specs.Program.{Program, Node, Item}
use Rattle.pd_meaning.specs.Meaning.{Ran, Verdicts, meaning_of, evaluated}
use Rattle.pd_plan.specs.declared.plan.Language.TheVariants.{Sl}
use Rattle.pd_plan.specs.declared.condition.Op.TheVariants as ops
use Rattle.pd_plan.specs.declared.condition.Condition.{Number, Name, Binary', more_of-Condition, end_of-Condition}
use Rattle.pd_plan.specs.declared.plan.BindingSpec.TheVariants.{Break}
use Rattle.pd_plan.specs.declared.plan.Resume.TheVariants.{Continue}
use Rattle.pd_plan.specs.declared.plan.Plan.{Plan}
use Rattle.pd_board.specs.declared.answers.Drawn.TheVariants.{On}
use Rattle.pd_board.specs.declared.answers.Sight.{Sight}
use Rattle.pd_suspend.specs.declared.suspension.Suspension.{Suspension}
use Rattle.pd_suspend.specs.Stops.{Setting, Answered, stops_of, verdicts_of}
use Rattle.pd_record.specs.Logs.{answer_at, log_of}
use Rattle.pd_record.specs.Seen.{in_order, is_subject_at}
use Rattle.pd_record.proofs.Rows.Text.{brief, stops_text, log_text}

abbrev nodes : List Node
nodes =
    -- 0
    record { kind = (SlFunction (codes "main") []); children = 1 ∷ []; tags = Root ∷ []; meaning = Nothing; root = 0; level = 0; slots = 1; sees = []; source = 0; start = 0; len = 65; line = 1; column = 1 } ∷
    -- 1
    record { kind = SlBody; children = 2 ∷ 4 ∷ []; tags = RootBody ∷ []; meaning = Nothing; root = 0; level = 0; slots = 0; sees = []; source = 0; start = 16; len = 49; line = 1; column = 17 } ∷
    -- 2
    record { kind = (SlAssign (codes "i")); children = 3 ∷ []; tags = Expression ∷ WriteVariable ∷ Statement ∷ []; meaning = (Local 0 0); root = 0; level = 0; slots = 0; sees = []; source = 0; start = 20; len = 5; line = 2; column = 3 } ∷
    -- 3
    record { kind = (SlNumber (pos 0)); children = []; tags = Expression ∷ []; meaning = Nothing; root = 0; level = 0; slots = 0; sees = []; source = 0; start = 24; len = 1; line = 2; column = 7 } ∷
    -- 4
    record { kind = SlWhile; children = 5 ∷ 8 ∷ []; tags = []; meaning = Nothing; root = 0; level = 0; slots = 0; sees = (record { name = codes "i"; up = 0; slot = 0 } ∷ []); source = 0; start = 29; len = 34; line = 3; column = 3 } ∷
    -- 5
    record { kind = (SlBinary Less); children = 6 ∷ 7 ∷ []; tags = Expression ∷ Statement ∷ []; meaning = Nothing; root = 0; level = 0; slots = 0; sees = (record { name = codes "i"; up = 0; slot = 0 } ∷ []); source = 0; start = 36; len = 5; line = 3; column = 10 } ∷
    -- 6
    record { kind = (SlName (codes "i")); children = []; tags = Expression ∷ ReadVariable ∷ []; meaning = (Local 0 0); root = 0; level = 0; slots = 0; sees = (record { name = codes "i"; up = 0; slot = 0 } ∷ []); source = 0; start = 36; len = 1; line = 3; column = 10 } ∷
    -- 7
    record { kind = (SlNumber (pos 5)); children = []; tags = Expression ∷ []; meaning = Nothing; root = 0; level = 0; slots = 0; sees = (record { name = codes "i"; up = 0; slot = 0 } ∷ []); source = 0; start = 40; len = 1; line = 3; column = 14 } ∷
    -- 8
    record { kind = SlBlock; children = 9 ∷ []; tags = []; meaning = Nothing; root = 0; level = 0; slots = 0; sees = (record { name = codes "i"; up = 0; slot = 0 } ∷ []); source = 0; start = 43; len = 20; line = 3; column = 17 } ∷
    -- 9
    record { kind = (SlAssign (codes "i")); children = 10 ∷ []; tags = Expression ∷ WriteVariable ∷ Statement ∷ []; meaning = (Local 0 0); root = 0; level = 0; slots = 0; sees = (record { name = codes "i"; up = 0; slot = 0 } ∷ []); source = 0; start = 49; len = 9; line = 4; column = 5 } ∷
    -- 10
    record { kind = (SlBinary Add); children = 11 ∷ 12 ∷ []; tags = Expression ∷ []; meaning = Nothing; root = 0; level = 0; slots = 0; sees = (record { name = codes "i"; up = 0; slot = 0 } ∷ []); source = 0; start = 53; len = 5; line = 4; column = 9 } ∷
    -- 11
    record { kind = (SlName (codes "i")); children = []; tags = Expression ∷ ReadVariable ∷ []; meaning = (Local 0 0); root = 0; level = 0; slots = 0; sees = (record { name = codes "i"; up = 0; slot = 0 } ∷ []); source = 0; start = 53; len = 1; line = 4; column = 9 } ∷
    -- 12
    record { kind = (SlNumber (pos 1)); children = []; tags = Expression ∷ []; meaning = Nothing; root = 0; level = 0; slots = 0; sees = (record { name = codes "i"; up = 0; slot = 0 } ∷ []); source = 0; start = 57; len = 1; line = 4; column = 13 } ∷
    []

abbrev items : List Item
items =
    record { name = codes "println"; root = None } ∷
    record { name = codes "main"; root = Some 0 } ∷
    []

abbrev pub program : Program
program = record { nodes = nodes; items = items; mains = None ∷ []; entries = 1 ∷ [] }

abbrev pub plan : Plan
plan = record {
  sources = record { name = codes "main.sl"; language = Sl } ∷ [];
  exports = [];
  contexts = record { source = 0; entry = codes "main"; fuel = 1000000 } ∷ [];
  bindings =
      Break (record { session = 0; source = 0; line = 4; condition = (Some (Binary' ops.GreaterEq tt (more_of-Condition (Name (codes "i")) end_of-Condition) tt (more_of-Condition (Number (pos 2)) end_of-Condition))); ignore = 1; one_shot = false }) ∷
      Break (record { session = 0; source = 0; line = 4; condition = (Some (Binary' ops.Equal tt (more_of-Condition (Name (codes "zz")) end_of-Condition) tt (more_of-Condition (Number (pos 1)) end_of-Condition))); ignore = 0; one_shot = true }) ∷
      [];
  sessions = record { before = 0 ∷ 1 ∷ []; actions = []; answers = [] } ∷ [];
}

-- the verdicts that are answered
abbrev pub given : Verdicts
given = []

abbrev pub ran : Ran
ran = meaning_of program 1 1000000 given

-- what was seen
abbrev pub seen : List Sight
seen =
    record { event = 12; binding = 1; drawn = On 0 } ∷
    record { event = 40; binding = 0; drawn = On 0 } ∷
    record { event = 54; binding = 0; drawn = On 1 } ∷
    record { event = 68; binding = 0; drawn = On 2 } ∷
    []

-- what the suspensions were answered
abbrev pub answered : List Answered
answered =
    record { answer = 0; acts = []; resume = Continue } ∷
    record { answer = 1; acts = []; resume = Continue } ∷
    record { answer = 2; acts = []; resume = Continue } ∷
    []

abbrev pub setting : Setting
setting = record { plan = plan; program = program; context = 0; drawn = answer_at seen; answered = answered }

abbrev pub stops : List Suspension
stops = stops_of setting ran.events

run : brief ran ≡ ([], Done Null, 48, 84)
unfolding meaning_of evaluated digits
run = refl

printed : stops_text program stops ≡
    codes "stop 12 session 0 before 9 0:4:5 answer 0 hit 1@0?" ∷
    codes "  frame 0 main 0:4:5 i=0" ∷
    codes "  then continue" ∷
    codes "stop 54 session 0 before 9 0:4:5 answer 1 hit 0@1" ∷
    codes "  frame 0 main 0:4:5 i=3" ∷
    codes "  then continue" ∷
    codes "stop 68 session 0 before 9 0:4:5 answer 2 hit 0@2" ∷
    codes "  frame 0 main 0:4:5 i=4" ∷
    codes "  then continue" ∷
    []
unfolding meaning_of evaluated digits
printed = refl

-- the verdicts are those of the suspensions
same_verdicts : verdicts_of stops ≡ given
unfolding meaning_of evaluated digits
same_verdicts = refl

log_0 : log_text program (log_of 0 plan program seen ran.events 0) ≡
    codes "  0 40 0 enter 9 0:4:5" ∷
    codes "  0 54 1 enter 9 0:4:5" ∷
    codes "  0 68 2 enter 9 0:4:5" ∷
    []
unfolding meaning_of evaluated digits
log_0 = refl

log_1 : log_text program (log_of 0 plan program seen ran.events 1) ≡
    codes "  0 12 0 enter 9 0:4:5" ∷
    []
unfolding meaning_of evaluated digits
log_1 = refl

in_turn : in_order seen ≡ true
in_turn = refl

subjects : list_all (λ s. is_subject_at plan program seen ran.events s.event s.binding) seen ≡ true
unfolding meaning_of evaluated digits
subjects = refl
