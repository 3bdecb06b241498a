-- A call is entered again: its changed variable is set back, and what was printed stays.
--  1  function f(a) {
--  2    println(a);
--  3    a = a + 1;
--  4    return a;
--  5  }
--  6  function main() {
--  7    println(f(1));
--  8  }
use Rattle.std.specs.Prelude.{◌≡◌, refl, true, List, [], ◌∷◌, None, Some, pos, codes}
use Rattle.std.specs.Fmt.{digits}
use Rattle.std.specs.List.{list_all}
use Rattle.pd_values.specs.declared.value.Value.TheVariants.{Null}
use Rattle.pd_values.specs.declared.value.End.TheVariants.{Done}
use Rattle.pd_tree.specs.declared.kind.Kind.TheVariants.{SlAssign, SlBinary, SlBody, SlCall, SlFunction, SlName, SlNumber, SlReturn}
use Rattle.pd_tree.specs.declared.kind.Operator.TheVariants.{Add}
use Rattle.pd_values.specs.declared.value.Tag.TheVariants.{Statement, Call, Root, RootBody, Expression, ReadVariable, WriteVariable}
use Rattle.pd_tree.specs.declared.kind.Meaning.TheVariants.{Local, Item as Means, Nothing}
use Rattle.pd_tree.specs.Program.{Program, Node, Item}
use Rattle.pd_machine.specs.declared.event.Verdict.TheVariants as verdicts
use Rattle.pd_meaning.specs.Meaning.{Ran, Verdicts, meaning_of, evaluated}
use Rattle.pd_plan.specs.declared.plan.Language.TheVariants.{Sl}
use Rattle.pd_plan.specs.declared.plan.BindingSpec.TheVariants.{Observe, Break}
use Rattle.pd_plan.specs.declared.plan.Resume.TheVariants.{Continue, Reenter}
use Rattle.pd_plan.specs.declared.plan.Plan.{Plan}
use Rattle.pd_board.specs.declared.answers.Drawn.TheVariants.{On}
use Rattle.pd_board.specs.declared.answers.Sight.{Sight}
use Rattle.pd_suspend.specs.declared.suspension.Suspension.{Suspension}
use Rattle.pd_suspend.specs.Stops.{Setting, Answered, stops_of, verdicts_of}
use Rattle.pd_record.specs.Logs.{answer_at, log_of}
use Rattle.pd_record.specs.Seen.{in_order, is_subject_at}
use Rattle.pd_record.proofs.Rows.Text.{brief, stops_text, log_text}

abbrev nodes : List Node
nodes =
    -- 0
    record { kind = (SlFunction (codes "f") (codes "a" ∷ [])); children = 1 ∷ []; tags = Root ∷ []; meaning = Nothing; root = 0; level = 0; slots = 1; sees = (record { name = codes "a"; up = 0; slot = 0 } ∷ []); source = 0; start = 0; len = 56; line = 1; column = 1 } ∷
    -- 1
    record { kind = SlBody; children = 2 ∷ 5 ∷ 9 ∷ []; tags = RootBody ∷ []; meaning = Nothing; root = 0; level = 0; slots = 0; sees = (record { name = codes "a"; up = 0; slot = 0 } ∷ []); source = 0; start = 14; len = 42; line = 1; column = 15 } ∷
    -- 2
    record { kind = SlCall; children = 3 ∷ 4 ∷ []; tags = Expression ∷ Call ∷ Statement ∷ []; meaning = Nothing; root = 0; level = 0; slots = 0; sees = (record { name = codes "a"; up = 0; slot = 0 } ∷ []); source = 0; start = 18; len = 10; line = 2; column = 3 } ∷
    -- 3
    record { kind = (SlName (codes "println")); children = []; tags = Expression ∷ []; meaning = (Means 0); root = 0; level = 0; slots = 0; sees = (record { name = codes "a"; up = 0; slot = 0 } ∷ []); source = 0; start = 18; len = 7; line = 2; column = 3 } ∷
    -- 4
    record { kind = (SlName (codes "a")); children = []; tags = Expression ∷ ReadVariable ∷ []; meaning = (Local 0 0); root = 0; level = 0; slots = 0; sees = (record { name = codes "a"; up = 0; slot = 0 } ∷ []); source = 0; start = 26; len = 1; line = 2; column = 11 } ∷
    -- 5
    record { kind = (SlAssign (codes "a")); children = 6 ∷ []; tags = Expression ∷ WriteVariable ∷ Statement ∷ []; meaning = (Local 0 0); root = 0; level = 0; slots = 0; sees = (record { name = codes "a"; up = 0; slot = 0 } ∷ []); source = 0; start = 32; len = 9; line = 3; column = 3 } ∷
    -- 6
    record { kind = (SlBinary Add); children = 7 ∷ 8 ∷ []; tags = Expression ∷ []; meaning = Nothing; root = 0; level = 0; slots = 0; sees = (record { name = codes "a"; up = 0; slot = 0 } ∷ []); source = 0; start = 36; len = 5; line = 3; column = 7 } ∷
    -- 7
    record { kind = (SlName (codes "a")); children = []; tags = Expression ∷ ReadVariable ∷ []; meaning = (Local 0 0); root = 0; level = 0; slots = 0; sees = (record { name = codes "a"; up = 0; slot = 0 } ∷ []); source = 0; start = 36; len = 1; line = 3; column = 7 } ∷
    -- 8
    record { kind = (SlNumber (pos 1)); children = []; tags = Expression ∷ []; meaning = Nothing; root = 0; level = 0; slots = 0; sees = (record { name = codes "a"; up = 0; slot = 0 } ∷ []); source = 0; start = 40; len = 1; line = 3; column = 11 } ∷
    -- 9
    record { kind = SlReturn; children = 10 ∷ []; tags = Statement ∷ []; meaning = Nothing; root = 0; level = 0; slots = 0; sees = (record { name = codes "a"; up = 0; slot = 0 } ∷ []); source = 0; start = 45; len = 8; line = 4; column = 3 } ∷
    -- 10
    record { kind = (SlName (codes "a")); children = []; tags = Expression ∷ ReadVariable ∷ []; meaning = (Local 0 0); root = 0; level = 0; slots = 0; sees = (record { name = codes "a"; up = 0; slot = 0 } ∷ []); source = 0; start = 52; len = 1; line = 4; column = 10 } ∷
    -- 11
    record { kind = (SlFunction (codes "main") []); children = 12 ∷ []; tags = Root ∷ []; meaning = Nothing; root = 11; level = 0; slots = 0; sees = []; source = 0; start = 57; len = 36; line = 6; column = 1 } ∷
    -- 12
    record { kind = SlBody; children = 13 ∷ []; tags = RootBody ∷ []; meaning = Nothing; root = 11; level = 0; slots = 0; sees = []; source = 0; start = 73; len = 20; line = 6; column = 17 } ∷
    -- 13
    record { kind = SlCall; children = 14 ∷ 15 ∷ []; tags = Expression ∷ Call ∷ Statement ∷ []; meaning = Nothing; root = 11; level = 0; slots = 0; sees = []; source = 0; start = 77; len = 13; line = 7; column = 3 } ∷
    -- 14
    record { kind = (SlName (codes "println")); children = []; tags = Expression ∷ []; meaning = (Means 0); root = 11; level = 0; slots = 0; sees = []; source = 0; start = 77; len = 7; line = 7; column = 3 } ∷
    -- 15
    record { kind = SlCall; children = 16 ∷ 17 ∷ []; tags = Expression ∷ Call ∷ []; meaning = Nothing; root = 11; level = 0; slots = 0; sees = []; source = 0; start = 85; len = 4; line = 7; column = 11 } ∷
    -- 16
    record { kind = (SlName (codes "f")); children = []; tags = Expression ∷ []; meaning = (Means 1); root = 11; level = 0; slots = 0; sees = []; source = 0; start = 85; len = 1; line = 7; column = 11 } ∷
    -- 17
    record { kind = (SlNumber (pos 1)); children = []; tags = Expression ∷ []; meaning = Nothing; root = 11; level = 0; slots = 0; sees = []; source = 0; start = 87; len = 1; line = 7; column = 13 } ∷
    []

abbrev items : List Item
items =
    record { name = codes "println"; root = None } ∷
    record { name = codes "f"; root = Some 0 } ∷
    record { name = codes "main"; root = Some 11 } ∷
    []

abbrev pub program : Program
program = record { nodes = nodes; items = items; mains = None ∷ []; entries = 2 ∷ [] }

abbrev pub plan : Plan
plan = record {
  sources = record { name = codes "main.sl"; language = Sl } ∷ [];
  exports = [];
  contexts = record { source = 0; entry = codes "main"; fuel = 1000000 } ∷ [];
  bindings =
      Break (record { session = 0; source = 0; line = 4; condition = None; ignore = 0; one_shot = true }) ∷
      Observe (record { tags = Root ∷ []; not_tags = []; sources = []; lines = []; roots = codes "f" ∷ [] }) ∷
      [];
  sessions = record { before = 0 ∷ 1 ∷ []; actions = []; answers = [] } ∷ [];
}

-- the verdicts that are answered
abbrev pub given : Verdicts
given = (26, verdicts.Reenter 0) ∷ []

abbrev pub ran : Ran
ran = meaning_of program 2 1000000 given

-- what was seen
abbrev pub seen : List Sight
seen =
    record { event = 10; binding = 1; drawn = On 0 } ∷
    record { event = 26; binding = 0; drawn = On 0 } ∷
    record { event = 29; binding = 1; drawn = On 1 } ∷
    record { event = 30; binding = 1; drawn = On 2 } ∷
    record { event = 51; binding = 1; drawn = On 3 } ∷
    []

-- what the suspensions were answered
abbrev pub answered : List Answered
answered =
    record { answer = 0; acts = []; resume = Reenter 0 } ∷
    record { answer = 1; acts = []; resume = Continue } ∷
    []

abbrev pub setting : Setting
setting = record { plan = plan; program = program; context = 0; drawn = answer_at seen; answered = answered }

abbrev pub stops : List Suspension
stops = stops_of setting ran.events

run : brief ran ≡ (codes "1\n1\n2\n", Done Null, 28, 56)
unfolding meaning_of evaluated digits
run = refl

printed : stops_text program stops ≡
    codes "stop 26 session 0 before 9 0:4:3 answer 0 hit 0@0" ∷
    codes "  frame 0 f 0:4:3 a=2" ∷
    codes "  frame 1 main 0:7:11" ∷
    codes "  then reenter 0" ∷
    codes "stop 32 session 0 before 2 0:2:3 answer 1 step" ∷
    codes "  frame 0 f 0:2:3 a=1" ∷
    codes "  frame 1 main 0:7:11" ∷
    codes "  then continue" ∷
    []
unfolding meaning_of evaluated digits
printed = refl

-- the verdicts are those of the suspensions
same_verdicts : verdicts_of stops ≡ given
unfolding meaning_of evaluated digits
same_verdicts = refl

log_0 : log_text program (log_of 0 plan program seen ran.events 0) ≡
    codes "  0 26 0 enter 9 0:4:3" ∷
    []
unfolding meaning_of evaluated digits
log_0 = refl

log_1 : log_text program (log_of 0 plan program seen ran.events 1) ≡
    codes "  0 10 0 enter 0 0:1:1" ∷
    codes "  0 29 1 leave 0 0:1:1 unwinding" ∷
    codes "  0 30 2 enter 0 0:1:1" ∷
    codes "  0 51 3 return 0 0:1:1 2" ∷
    []
unfolding meaning_of evaluated digits
log_1 = refl

in_turn : in_order seen ≡ true
in_turn = refl

subjects : list_all (λ s. is_subject_at plan program seen ran.events s.event s.binding) seen ≡ true
unfolding meaning_of evaluated digits
subjects = refl
