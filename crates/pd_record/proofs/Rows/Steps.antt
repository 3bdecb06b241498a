-- Steps into, over and out of a recursive function, from a one-shot breakpoint with a condition.
--  1  function fact(n) {
--  2    if (n < 2) { return 1; }
--  3    return n * fact(n - 1);
--  4  }
--  5  function main() {
--  6    println(fact(3));
--  7  }
use Rattle.std.specs.Prelude.{◌≡◌, refl, true, false, List, [], ◌∷◌, None, Some, pos, codes}
use Rattle.std.specs.Fmt.{digits}
use Rattle.std.specs.List.{list_all}
use Rattle.pd_values.specs.declared.value.Value.TheVariants.{Null}
use Rattle.pd_values.specs.declared.value.End.TheVariants.{Done}
use Rattle.pd_tree.specs.declared.kind.Kind.TheVariants.{SlBinary, SlBlock, SlBody, SlCall, SlFunction, SlIf, SlName, SlNumber, SlReturn}
use Rattle.pd_tree.specs.declared.kind.Operator.TheVariants.{Less, Mul, Sub}
use Rattle.pd_values.specs.declared.value.Tag.TheVariants.{Statement, Call, Root, RootBody, Expression, ReadVariable}
use Rattle.pd_tree.specs.declared.kind.Meaning.TheVariants.{Local, Item as Means, Nothing}
use Rattle.pd_tree.specs.Program.{Program, Node, Item}
use Rattle.pd_meaning.specs.Meaning.{Ran, Verdicts, meaning_of, evaluated}
use Rattle.pd_plan.specs.declared.plan.Language.TheVariants.{Sl}
use Rattle.pd_plan.specs.declared.condition.Op.TheVariants as ops
use Rattle.pd_plan.specs.declared.condition.Condition.{Number, Name, Binary', more_of-Condition, end_of-Condition}
use Rattle.pd_plan.specs.declared.plan.BindingSpec.TheVariants.{Break}
use Rattle.pd_plan.specs.declared.plan.Resume.TheVariants.{Into, Over, Out}
use Rattle.pd_plan.specs.declared.plan.Plan.{Plan}
use Rattle.pd_board.specs.declared.answers.Drawn.TheVariants.{On, Off}
use Rattle.pd_board.specs.declared.answers.Sight.{Sight}
use Rattle.pd_suspend.specs.declared.suspension.Suspension.{Suspension}
use Rattle.pd_suspend.specs.Stops.{Setting, Answered, stops_of, verdicts_of}
use Rattle.pd_suspend.specs.Answers.{numbers_in}
use Rattle.pd_record.specs.Logs.{answer_at, moments_of, log_of}
use Rattle.pd_record.specs.Seen.{in_order, is_subject_at, is_due_pass}
use Rattle.pd_record.specs.Replies.{of_hit, owed_of}
use Rattle.pd_record.proofs.Rows.Text.{brief, stops_text, log_text}

abbrev nodes : List Node
nodes =
    -- 0
    record { kind = (SlFunction (codes "fact") (codes "n" ∷ [])); children = 1 ∷ []; tags = Root ∷ []; meaning = Nothing; root = 0; level = 0; slots = 1; sees = (record { name = codes "n"; up = 0; slot = 0 } ∷ []); source = 0; start = 0; len = 73; line = 1; column = 1 } ∷
    -- 1
    record { kind = SlBody; children = 2 ∷ 9 ∷ []; tags = RootBody ∷ []; meaning = Nothing; root = 0; level = 0; slots = 0; sees = (record { name = codes "n"; up = 0; slot = 0 } ∷ []); source = 0; start = 17; len = 56; line = 1; column = 18 } ∷
    -- 2
    record { kind = SlIf; children = 3 ∷ 6 ∷ []; tags = []; meaning = Nothing; root = 0; level = 0; slots = 0; sees = (record { name = codes "n"; up = 0; slot = 0 } ∷ []); source = 0; start = 21; len = 24; line = 2; column = 3 } ∷
    -- 3
    record { kind = (SlBinary Less); children = 4 ∷ 5 ∷ []; tags = Expression ∷ Statement ∷ []; meaning = Nothing; root = 0; level = 0; slots = 0; sees = (record { name = codes "n"; up = 0; slot = 0 } ∷ []); source = 0; start = 25; len = 5; line = 2; column = 7 } ∷
    -- 4
    record { kind = (SlName (codes "n")); children = []; tags = Expression ∷ ReadVariable ∷ []; meaning = (Local 0 0); root = 0; level = 0; slots = 0; sees = (record { name = codes "n"; up = 0; slot = 0 } ∷ []); source = 0; start = 25; len = 1; line = 2; column = 7 } ∷
    -- 5
    record { kind = (SlNumber (pos 2)); children = []; tags = Expression ∷ []; meaning = Nothing; root = 0; level = 0; slots = 0; sees = (record { name = codes "n"; up = 0; slot = 0 } ∷ []); source = 0; start = 29; len = 1; line = 2; column = 11 } ∷
    -- 6
    record { kind = SlBlock; children = 7 ∷ []; tags = []; meaning = Nothing; root = 0; level = 0; slots = 0; sees = (record { name = codes "n"; up = 0; slot = 0 } ∷ []); source = 0; start = 32; len = 13; line = 2; column = 14 } ∷
    -- 7
    record { kind = SlReturn; children = 8 ∷ []; tags = Statement ∷ []; meaning = Nothing; root = 0; level = 0; slots = 0; sees = (record { name = codes "n"; up = 0; slot = 0 } ∷ []); source = 0; start = 34; len = 8; line = 2; column = 16 } ∷
    -- 8
    record { kind = (SlNumber (pos 1)); children = []; tags = Expression ∷ []; meaning = Nothing; root = 0; level = 0; slots = 0; sees = (record { name = codes "n"; up = 0; slot = 0 } ∷ []); source = 0; start = 41; len = 1; line = 2; column = 23 } ∷
    -- 9
    record { kind = SlReturn; children = 10 ∷ []; tags = Statement ∷ []; meaning = Nothing; root = 0; level = 0; slots = 0; sees = (record { name = codes "n"; up = 0; slot = 0 } ∷ []); source = 0; start = 48; len = 22; line = 3; column = 3 } ∷
    -- 10
    record { kind = (SlBinary Mul); children = 11 ∷ 12 ∷ []; tags = Expression ∷ []; meaning = Nothing; root = 0; level = 0; slots = 0; sees = (record { name = codes "n"; up = 0; slot = 0 } ∷ []); source = 0; start = 55; len = 15; line = 3; column = 10 } ∷
    -- 11
    record { kind = (SlName (codes "n")); children = []; tags = Expression ∷ ReadVariable ∷ []; meaning = (Local 0 0); root = 0; level = 0; slots = 0; sees = (record { name = codes "n"; up = 0; slot = 0 } ∷ []); source = 0; start = 55; len = 1; line = 3; column = 10 } ∷
    -- 12
    record { kind = SlCall; children = 13 ∷ 14 ∷ []; tags = Expression ∷ Call ∷ []; meaning = Nothing; root = 0; level = 0; slots = 0; sees = (record { name = codes "n"; up = 0; slot = 0 } ∷ []); source = 0; start = 59; len = 11; line = 3; column = 14 } ∷
    -- 13
    record { kind = (SlName (codes "fact")); children = []; tags = Expression ∷ []; meaning = (Means 1); root = 0; level = 0; slots = 0; sees = (record { name = codes "n"; up = 0; slot = 0 } ∷ []); source = 0; start = 59; len = 4; line = 3; column = 14 } ∷
    -- 14
    record { kind = (SlBinary Sub); children = 15 ∷ 16 ∷ []; tags = Expression ∷ []; meaning = Nothing; root = 0; level = 0; slots = 0; sees = (record { name = codes "n"; up = 0; slot = 0 } ∷ []); source = 0; start = 64; len = 5; line = 3; column = 19 } ∷
    -- 15
    record { kind = (SlName (codes "n")); children = []; tags = Expression ∷ ReadVariable ∷ []; meaning = (Local 0 0); root = 0; level = 0; slots = 0; sees = (record { name = codes "n"; up = 0; slot = 0 } ∷ []); source = 0; start = 64; len = 1; line = 3; column = 19 } ∷
    -- 16
    record { kind = (SlNumber (pos 1)); children = []; tags = Expression ∷ []; meaning = Nothing; root = 0; level = 0; slots = 0; sees = (record { name = codes "n"; up = 0; slot = 0 } ∷ []); source = 0; start = 68; len = 1; line = 3; column = 23 } ∷
    -- 17
    record { kind = (SlFunction (codes "main") []); children = 18 ∷ []; tags = Root ∷ []; meaning = Nothing; root = 17; level = 0; slots = 0; sees = []; source = 0; start = 74; len = 39; line = 5; column = 1 } ∷
    -- 18
    record { kind = SlBody; children = 19 ∷ []; tags = RootBody ∷ []; meaning = Nothing; root = 17; level = 0; slots = 0; sees = []; source = 0; start = 90; len = 23; line = 5; column = 17 } ∷
    -- 19
    record { kind = SlCall; children = 20 ∷ 21 ∷ []; tags = Expression ∷ Call ∷ Statement ∷ []; meaning = Nothing; root = 17; level = 0; slots = 0; sees = []; source = 0; start = 94; len = 16; line = 6; column = 3 } ∷
    -- 20
    record { kind = (SlName (codes "println")); children = []; tags = Expression ∷ []; meaning = (Means 0); root = 17; level = 0; slots = 0; sees = []; source = 0; start = 94; len = 7; line = 6; column = 3 } ∷
    -- 21
    record { kind = SlCall; children = 22 ∷ 23 ∷ []; tags = Expression ∷ Call ∷ []; meaning = Nothing; root = 17; level = 0; slots = 0; sees = []; source = 0; start = 102; len = 7; line = 6; column = 11 } ∷
    -- 22
    record { kind = (SlName (codes "fact")); children = []; tags = Expression ∷ []; meaning = (Means 1); root = 17; level = 0; slots = 0; sees = []; source = 0; start = 102; len = 4; line = 6; column = 11 } ∷
    -- 23
    record { kind = (SlNumber (pos 3)); children = []; tags = Expression ∷ []; meaning = Nothing; root = 17; level = 0; slots = 0; sees = []; source = 0; start = 107; len = 1; line = 6; column = 16 } ∷
    []

abbrev items : List Item
items =
    record { name = codes "println"; root = None } ∷
    record { name = codes "fact"; root = Some 0 } ∷
    record { name = codes "main"; root = Some 17 } ∷
    []

abbrev pub program : Program
program = record { nodes = nodes; items = items; mains = None ∷ []; entries = 2 ∷ [] }

abbrev pub plan : Plan
plan = record {
  sources = record { name = codes "main.sl"; language = Sl } ∷ [];
  exports = [];
  contexts = record { source = 0; entry = codes "main"; fuel = 1000000 } ∷ [];
  bindings =
      Break (record { session = 0; source = 0; line = 2; condition = (Some (Binary' ops.Equal tt (more_of-Condition (Name (codes "n")) end_of-Condition) tt (more_of-Condition (Number (pos 1)) end_of-Condition))); ignore = 0; one_shot = true }) ∷
      [];
  sessions = record { before = 0 ∷ []; actions = []; answers = [] } ∷ [];
}

-- the verdicts that are answered
abbrev pub given : Verdicts
given = []

abbrev pub ran : Ran
ran = meaning_of program 2 1000000 given

-- what was seen
abbrev pub seen : List Sight
seen =
    record { event = 54; binding = 0; drawn = On 0 } ∷
    []

-- what the suspensions were answered
abbrev pub answered : List Answered
answered =
    record { answer = 0; acts = []; resume = Into 1 } ∷
    record { answer = 1; acts = []; resume = Over 1 } ∷
    record { answer = 2; acts = []; resume = Out 2 } ∷
    record { answer = 3; acts = []; resume = Over 1 } ∷
    []

abbrev pub setting : Setting
setting = record { plan = plan; program = program; context = 0; drawn = answer_at seen; answered = answered }

abbrev pub stops : List Suspension
stops = stops_of setting ran.events

run : brief ran ≡ (codes "6\n", Done Null, 44, 80)
unfolding meaning_of evaluated digits
run = refl

printed : stops_text program stops ≡
    codes "stop 54 session 0 before 3 0:2:7 answer 0 hit 0@0" ∷
    codes "  frame 0 fact 0:2:7 n=1" ∷
    codes "  frame 1 fact 0:3:14 n=2" ∷
    codes "  frame 2 fact 0:3:14 n=3" ∷
    codes "  frame 3 main 0:6:11" ∷
    codes "  then into 1" ∷
    codes "stop 60 session 0 before 7 0:2:16 answer 1 step" ∷
    codes "  frame 0 fact 0:2:16 n=1" ∷
    codes "  frame 1 fact 0:3:14 n=2" ∷
    codes "  frame 2 fact 0:3:14 n=3" ∷
    codes "  frame 3 main 0:6:11" ∷
    codes "  then over 1" ∷
    codes "stop 66 session 0 after 12 0:3:14 answer 2 step" ∷
    codes "  frame 0 fact 0:3:14 n=2" ∷
    codes "  frame 1 fact 0:3:14 n=3" ∷
    codes "  frame 2 main 0:6:11" ∷
    codes "  then out 2" ∷
    codes "stop 76 session 0 after 21 0:6:11 answer 3 step" ∷
    codes "  frame 0 main 0:6:11" ∷
    codes "  then over 1" ∷
    []
unfolding meaning_of evaluated digits
printed = refl

-- the verdicts are those of the suspensions
same_verdicts : verdicts_of stops ≡ given
unfolding meaning_of evaluated digits
same_verdicts = refl

log_0 : log_text program (log_of 0 plan program seen ran.events 0) ≡
    codes "  0 54 0 enter 3 0:2:7" ∷
    []
unfolding meaning_of evaluated digits
log_0 = refl

in_turn : in_order seen ≡ true
in_turn = refl

subjects : list_all (λ s. is_subject_at plan program seen ran.events s.event s.binding) seen ≡ true
unfolding meaning_of evaluated digits
subjects = refl

-- its events are the Enters of line 2 where n is 1: the second one comes when it is used up
moments : moments_of plan program seen ran.events 0 ≡ (54, On 0) ∷ (60, Off) ∷ []
unfolding meaning_of evaluated digits
moments = refl

-- where n is 3 the condition is false, and the binding is passed: after 10 loads, one for each Enter so far
passed : is_due_pass plan program seen ran.events (record { event = 12; binding = 0; disposed = false; before = 10 }) ≡ true
unfolding meaning_of evaluated digits
passed = refl

-- the board is asked for the one disposal
replied : owed_of plan seen stops ran.events ≡ of_hit 0 ∷ []
unfolding meaning_of evaluated digits
replied = refl

numbers : numbers_in 0 stops ≡ 0 ∷ 1 ∷ 2 ∷ 3 ∷ []
unfolding meaning_of evaluated digits
numbers = refl
