-- A procedure of PL/0 is entered again: the main block's variable keeps what was written.
--  1  var g;
--  2  procedure q; begin g := g + 1; g := g * 10 end;
--  3  begin call q; ! g end.
use Rattle.std.specs.Prelude.{◌≡◌, refl, true, List, [], ◌∷◌, None, Some, pos, codes}
use Rattle.std.specs.Fmt.{digits}
use Rattle.std.specs.List.{list_all}
use Rattle.pd_values.specs.declared.value.Value.TheVariants.{Number as Whole}
use Rattle.pd_values.specs.declared.value.End.TheVariants.{Done}
use Rattle.pd_tree.specs.declared.kind.Kind.TheVariants.{PlAssign, PlBegin, PlBinary, PlBody, PlCall, PlName, PlNumber, PlProcedure, PlWrite}
use Rattle.pd_tree.specs.declared.kind.Operator.TheVariants.{Add, Mul}
use Rattle.pd_values.specs.declared.value.Tag.TheVariants.{Statement, Call, Root, RootBody, Expression, ReadVariable, WriteVariable}
use Rattle.pd_tree.specs.declared.kind.Meaning.TheVariants.{Local, Item as Means, Nothing}
use Rattle.pd_tree.specs.Program.{Program, Node, Item}
use Rattle.pd_machine.specs.declared.event.Verdict.TheVariants as verdicts
use Rattle.pd_meaning.specs.Meaning.{Ran, Verdicts, meaning_of, evaluated}
use Rattle.pd_plan.specs.declared.plan.Language.TheVariants.{Sl}
use Rattle.pd_plan.specs.declared.plan.BindingSpec.TheVariants.{Break}
use Rattle.pd_plan.specs.declared.plan.Resume.TheVariants.{Continue, Reenter}
use Rattle.pd_plan.specs.declared.plan.Plan.{Plan}
use Rattle.pd_board.specs.declared.answers.Drawn.TheVariants.{On}
use Rattle.pd_board.specs.declared.answers.Sight.{Sight}
use Rattle.pd_suspend.specs.declared.suspension.Suspension.{Suspension}
use Rattle.pd_suspend.specs.Stops.{Setting, Answered, stops_of, verdicts_of}
use Rattle.pd_record.specs.Logs.{answer_at, log_of}
use Rattle.pd_record.specs.Seen.{in_order, is_subject_at}
use Rattle.pd_record.proofs.Rows.Text.{brief, stops_text, log_text}

abbrev nodes : List Node
nodes =
    -- 0
    record { kind = (PlProcedure (codes "main") (codes "g" ∷ [])); children = 1 ∷ 12 ∷ []; tags = Root ∷ []; meaning = Nothing; root = 0; level = 0; slots = 1; sees = (record { name = codes "g"; up = 0; slot = 0 } ∷ []); source = 0; start = 0; len = 77; line = 1; column = 1 } ∷
    -- 1
    record { kind = (PlProcedure (codes "q") []); children = 2 ∷ []; tags = Root ∷ []; meaning = Nothing; root = 1; level = 1; slots = 0; sees = (record { name = codes "g"; up = 1; slot = 0 } ∷ []); source = 0; start = 7; len = 46; line = 2; column = 1 } ∷
    -- 2
    record { kind = PlBody; children = 3 ∷ []; tags = RootBody ∷ []; meaning = Nothing; root = 1; level = 1; slots = 0; sees = (record { name = codes "g"; up = 1; slot = 0 } ∷ []); source = 0; start = 20; len = 33; line = 2; column = 14 } ∷
    -- 3
    record { kind = PlBegin; children = 4 ∷ 8 ∷ []; tags = []; meaning = Nothing; root = 1; level = 1; slots = 0; sees = (record { name = codes "g"; up = 1; slot = 0 } ∷ []); source = 0; start = 20; len = 33; line = 2; column = 14 } ∷
    -- 4
    record { kind = (PlAssign (codes "g")); children = 5 ∷ []; tags = Statement ∷ WriteVariable ∷ []; meaning = (Local 1 0); root = 1; level = 1; slots = 0; sees = (record { name = codes "g"; up = 1; slot = 0 } ∷ []); source = 0; start = 26; len = 10; line = 2; column = 20 } ∷
    -- 5
    record { kind = (PlBinary Add); children = 6 ∷ 7 ∷ []; tags = Expression ∷ []; meaning = Nothing; root = 1; level = 1; slots = 0; sees = (record { name = codes "g"; up = 1; slot = 0 } ∷ []); source = 0; start = 31; len = 5; line = 2; column = 25 } ∷
    -- 6
    record { kind = (PlName (codes "g")); children = []; tags = Expression ∷ ReadVariable ∷ []; meaning = (Local 1 0); root = 1; level = 1; slots = 0; sees = (record { name = codes "g"; up = 1; slot = 0 } ∷ []); source = 0; start = 31; len = 1; line = 2; column = 25 } ∷
    -- 7
    record { kind = (PlNumber (pos 1)); children = []; tags = Expression ∷ []; meaning = Nothing; root = 1; level = 1; slots = 0; sees = (record { name = codes "g"; up = 1; slot = 0 } ∷ []); source = 0; start = 35; len = 1; line = 2; column = 29 } ∷
    -- 8
    record { kind = (PlAssign (codes "g")); children = 9 ∷ []; tags = Statement ∷ WriteVariable ∷ []; meaning = (Local 1 0); root = 1; level = 1; slots = 0; sees = (record { name = codes "g"; up = 1; slot = 0 } ∷ []); source = 0; start = 38; len = 11; line = 2; column = 32 } ∷
    -- 9
    record { kind = (PlBinary Mul); children = 10 ∷ 11 ∷ []; tags = Expression ∷ []; meaning = Nothing; root = 1; level = 1; slots = 0; sees = (record { name = codes "g"; up = 1; slot = 0 } ∷ []); source = 0; start = 43; len = 6; line = 2; column = 37 } ∷
    -- 10
    record { kind = (PlName (codes "g")); children = []; tags = Expression ∷ ReadVariable ∷ []; meaning = (Local 1 0); root = 1; level = 1; slots = 0; sees = (record { name = codes "g"; up = 1; slot = 0 } ∷ []); source = 0; start = 43; len = 1; line = 2; column = 37 } ∷
    -- 11
    record { kind = (PlNumber (pos 10)); children = []; tags = Expression ∷ []; meaning = Nothing; root = 1; level = 1; slots = 0; sees = (record { name = codes "g"; up = 1; slot = 0 } ∷ []); source = 0; start = 47; len = 2; line = 2; column = 41 } ∷
    -- 12
    record { kind = PlBody; children = 13 ∷ []; tags = RootBody ∷ []; meaning = Nothing; root = 0; level = 0; slots = 0; sees = (record { name = codes "g"; up = 0; slot = 0 } ∷ []); source = 0; start = 55; len = 21; line = 3; column = 1 } ∷
    -- 13
    record { kind = PlBegin; children = 14 ∷ 15 ∷ []; tags = []; meaning = Nothing; root = 0; level = 0; slots = 0; sees = (record { name = codes "g"; up = 0; slot = 0 } ∷ []); source = 0; start = 55; len = 21; line = 3; column = 1 } ∷
    -- 14
    record { kind = (PlCall (codes "q")); children = []; tags = Statement ∷ Call ∷ []; meaning = (Means 2); root = 0; level = 0; slots = 0; sees = (record { name = codes "g"; up = 0; slot = 0 } ∷ []); source = 0; start = 61; len = 6; line = 3; column = 7 } ∷
    -- 15
    record { kind = PlWrite; children = 16 ∷ []; tags = Statement ∷ []; meaning = Nothing; root = 0; level = 0; slots = 0; sees = (record { name = codes "g"; up = 0; slot = 0 } ∷ []); source = 0; start = 69; len = 3; line = 3; column = 15 } ∷
    -- 16
    record { kind = (PlName (codes "g")); children = []; tags = Expression ∷ ReadVariable ∷ []; meaning = (Local 0 0); root = 0; level = 0; slots = 0; sees = (record { name = codes "g"; up = 0; slot = 0 } ∷ []); source = 0; start = 71; len = 1; line = 3; column = 17 } ∷
    []

abbrev items : List Item
items =
    record { name = codes "println"; root = None } ∷
    record { name = codes "main"; root = Some 0 } ∷
    record { name = codes "q"; root = Some 1 } ∷
    []

abbrev pub program : Program
program = record { nodes = nodes; items = items; mains = Some 0 ∷ []; entries = 1 ∷ [] }

abbrev pub plan : Plan
plan = record {
  sources = record { name = codes "main.sl"; language = Sl } ∷ [];
  exports = [];
  contexts = record { source = 0; entry = codes "main"; fuel = 1000000 } ∷ [];
  bindings =
      Break (record { session = 0; source = 0; line = 2; condition = None; ignore = 1; one_shot = true }) ∷
      [];
  sessions = record { before = 0 ∷ []; actions = []; answers = [] } ∷ [];
}

-- the verdicts that are answered
abbrev pub given : Verdicts
given = (13, verdicts.Reenter 0) ∷ []

abbrev pub ran : Ran
ran = meaning_of program 1 1000000 given

-- what was seen
abbrev pub seen : List Sight
seen =
    record { event = 5; binding = 0; drawn = On 0 } ∷
    record { event = 13; binding = 0; drawn = On 1 } ∷
    []

-- what the suspensions were answered
abbrev pub answered : List Answered
answered =
    record { answer = 0; acts = []; resume = Reenter 0 } ∷
    record { answer = 1; acts = []; resume = Continue } ∷
    []

abbrev pub setting : Setting
setting = record { plan = plan; program = program; context = 0; drawn = answer_at seen; answered = answered }

abbrev pub stops : List Suspension
stops = stops_of setting ran.events

run : brief ran ≡ (codes "20\n", Done (Whole (pos 20)), 25, 44)
unfolding meaning_of evaluated digits
run = refl

printed : stops_text program stops ≡
    codes "stop 13 session 0 before 8 0:2:32 answer 0 hit 0@1" ∷
    codes "  frame 0 q 0:2:32 g=1" ∷
    codes "  frame 1 main 0:3:7 g=1" ∷
    codes "  then reenter 0" ∷
    codes "stop 19 session 0 before 4 0:2:20 answer 1 step" ∷
    codes "  frame 0 q 0:2:20 g=1" ∷
    codes "  frame 1 main 0:3:7 g=1" ∷
    codes "  then continue" ∷
    []
unfolding meaning_of evaluated digits
printed = refl

-- the verdicts are those of the suspensions
same_verdicts : verdicts_of stops ≡ given
unfolding meaning_of evaluated digits
same_verdicts = refl

log_0 : log_text program (log_of 0 plan program seen ran.events 0) ≡
    codes "  0 5 0 enter 4 0:2:20" ∷
    codes "  0 13 1 enter 8 0:2:32" ∷
    []
unfolding meaning_of evaluated digits
log_0 = refl

in_turn : in_order seen ≡ true
in_turn = refl

subjects : list_all (λ s. is_subject_at plan program seen ran.events s.event s.binding) seen ≡ true
unfolding meaning_of evaluated digits
subjects = refl
