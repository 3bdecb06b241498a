-- A call is given a value by an early return.
--  1  function f(a) {
--  2    println(a);
--  3    return a;
--  4  }
--  5  function main() {
--  6    println(f(1));
--  7  }
use Rattle.std.specs.Prelude.{◌≡◌, refl, true, List, [], ◌∷◌, None, Some, pos, codes}
use Rattle.std.specs.Fmt.{digits}
use Rattle.std.specs.List.{list_all}
use Rattle.pd_values.specs.declared.value.Value.TheVariants.{Null, Number as Whole}
use Rattle.pd_values.specs.declared.value.End.TheVariants.{Done}
use Rattle.pd_tree.specs.declared.kind.Kind.TheVariants.{SlBody, SlCall, SlFunction, SlName, SlNumber, SlReturn}
use Rattle.pd_values.specs.declared.value.Tag.TheVariants.{Statement, Call, Root, RootBody, Expression, ReadVariable}
use Rattle.pd_tree.specs.declared.kind.Meaning.TheVariants.{Local, Item as Means, Nothing}
use Rattle.pd_tree.specs.Program.{Program, Node, Item}
use Rattle.pd_machine.specs.declared.event.Verdict.TheVariants as verdicts
use Rattle.pd_meaning.specs.Meaning.{Ran, Verdicts, meaning_of, evaluated}
use Rattle.pd_plan.specs.declared.plan.Language.TheVariants.{Sl}
use Rattle.pd_plan.specs.declared.plan.BindingSpec.TheVariants.{Break}
use Rattle.pd_plan.specs.declared.plan.Resume.TheVariants.{Continue, Return}
use Rattle.pd_plan.specs.declared.plan.Plan.{Plan}
use Rattle.pd_board.specs.declared.answers.Drawn.TheVariants.{On}
use Rattle.pd_board.specs.declared.answers.Sight.{Sight}
use Rattle.pd_suspend.specs.declared.suspension.Suspension.{Suspension}
use Rattle.pd_suspend.specs.Stops.{Setting, Answered, stops_of, verdicts_of}
use Rattle.pd_record.specs.Logs.{answer_at, log_of}
use Rattle.pd_record.specs.Seen.{in_order, is_subject_at}
use Rattle.pd_record.proofs.Rows.Text.{brief, stops_text, log_text}

abbrev nodes : List Node
nodes =
    -- 0
    record { kind = (SlFunction (codes "f") (codes "a" ∷ [])); children = 1 ∷ []; tags = Root ∷ []; meaning = Nothing; root = 0; level = 0; slots = 1; sees = (record { name = codes "a"; up = 0; slot = 0 } ∷ []); source = 0; start = 0; len = 43; line = 1; column = 1 } ∷
    -- 1
    record { kind = SlBody; children = 2 ∷ 5 ∷ []; tags = RootBody ∷ []; meaning = Nothing; root = 0; level = 0; slots = 0; sees = (record { name = codes "a"; up = 0; slot = 0 } ∷ []); source = 0; start = 14; len = 29; line = 1; column = 15 } ∷
    -- 2
    record { kind = SlCall; children = 3 ∷ 4 ∷ []; tags = Expression ∷ Call ∷ Statement ∷ []; meaning = Nothing; root = 0; level = 0; slots = 0; sees = (record { name = codes "a"; up = 0; slot = 0 } ∷ []); source = 0; start = 18; len = 10; line = 2; column = 3 } ∷
    -- 3
    record { kind = (SlName (codes "println")); children = []; tags = Expression ∷ []; meaning = (Means 0); root = 0; level = 0; slots = 0; sees = (record { name = codes "a"; up = 0; slot = 0 } ∷ []); source = 0; start = 18; len = 7; line = 2; column = 3 } ∷
    -- 4
    record { kind = (SlName (codes "a")); children = []; tags = Expression ∷ ReadVariable ∷ []; meaning = (Local 0 0); root = 0; level = 0; slots = 0; sees = (record { name = codes "a"; up = 0; slot = 0 } ∷ []); source = 0; start = 26; len = 1; line = 2; column = 11 } ∷
    -- 5
    record { kind = SlReturn; children = 6 ∷ []; tags = Statement ∷ []; meaning = Nothing; root = 0; level = 0; slots = 0; sees = (record { name = codes "a"; up = 0; slot = 0 } ∷ []); source = 0; start = 32; len = 8; line = 3; column = 3 } ∷
    -- 6
    record { kind = (SlName (codes "a")); children = []; tags = Expression ∷ ReadVariable ∷ []; meaning = (Local 0 0); root = 0; level = 0; slots = 0; sees = (record { name = codes "a"; up = 0; slot = 0 } ∷ []); source = 0; start = 39; len = 1; line = 3; column = 10 } ∷
    -- 7
    record { kind = (SlFunction (codes "main") []); children = 8 ∷ []; tags = Root ∷ []; meaning = Nothing; root = 7; level = 0; slots = 0; sees = []; source = 0; start = 44; len = 36; line = 5; column = 1 } ∷
    -- 8
    record { kind = SlBody; children = 9 ∷ []; tags = RootBody ∷ []; meaning = Nothing; root = 7; level = 0; slots = 0; sees = []; source = 0; start = 60; len = 20; line = 5; column = 17 } ∷
    -- 9
    record { kind = SlCall; children = 10 ∷ 11 ∷ []; tags = Expression ∷ Call ∷ Statement ∷ []; meaning = Nothing; root = 7; level = 0; slots = 0; sees = []; source = 0; start = 64; len = 13; line = 6; column = 3 } ∷
    -- 10
    record { kind = (SlName (codes "println")); children = []; tags = Expression ∷ []; meaning = (Means 0); root = 7; level = 0; slots = 0; sees = []; source = 0; start = 64; len = 7; line = 6; column = 3 } ∷
    -- 11
    record { kind = SlCall; children = 12 ∷ 13 ∷ []; tags = Expression ∷ Call ∷ []; meaning = Nothing; root = 7; level = 0; slots = 0; sees = []; source = 0; start = 72; len = 4; line = 6; column = 11 } ∷
    -- 12
    record { kind = (SlName (codes "f")); children = []; tags = Expression ∷ []; meaning = (Means 1); root = 7; level = 0; slots = 0; sees = []; source = 0; start = 72; len = 1; line = 6; column = 11 } ∷
    -- 13
    record { kind = (SlNumber (pos 1)); children = []; tags = Expression ∷ []; meaning = Nothing; root = 7; level = 0; slots = 0; sees = []; source = 0; start = 74; len = 1; line = 6; column = 13 } ∷
    []

abbrev items : List Item
items =
    record { name = codes "println"; root = None } ∷
    record { name = codes "f"; root = Some 0 } ∷
    record { name = codes "main"; root = Some 7 } ∷
    []

abbrev pub program : Program
program = record { nodes = nodes; items = items; mains = None ∷ []; entries = 2 ∷ [] }

abbrev pub plan : Plan
plan = record {
  sources = record { name = codes "main.sl"; language = Sl } ∷ [];
  exports = [];
  contexts = record { source = 0; entry = codes "main"; fuel = 1000000 } ∷ [];
  bindings =
      Break (record { session = 0; source = 0; line = 3; condition = None; ignore = 0; one_shot = true }) ∷
      [];
  sessions = record { before = 0 ∷ []; actions = []; answers = [] } ∷ [];
}

-- the verdicts that are answered
abbrev pub given : Verdicts
given = (18, verdicts.Return 0 (Whole (pos 9))) ∷ []

abbrev pub ran : Ran
ran = meaning_of program 2 1000000 given

-- what was seen
abbrev pub seen : List Sight
seen =
    record { event = 18; binding = 0; drawn = On 0 } ∷
    []

-- what the suspensions were answered
abbrev pub answered : List Answered
answered =
    record { answer = 0; acts = []; resume = (Return 0 (Whole (pos 9))) } ∷
    record { answer = 1; acts = []; resume = Continue } ∷
    []

abbrev pub setting : Setting
setting = record { plan = plan; program = program; context = 0; drawn = answer_at seen; answered = answered }

abbrev pub stops : List Suspension
stops = stops_of setting ran.events

run : brief ran ≡ (codes "1\n9\n", Done Null, 13, 26)
unfolding meaning_of evaluated digits
run = refl

printed : stops_text program stops ≡
    codes "stop 18 session 0 before 5 0:3:3 answer 0 hit 0@0" ∷
    codes "  frame 0 f 0:3:3 a=1" ∷
    codes "  frame 1 main 0:6:11" ∷
    codes "  then return 0 9" ∷
    codes "stop 22 session 0 after 11 0:6:11 answer 1 step" ∷
    codes "  frame 0 main 0:6:11" ∷
    codes "  then continue" ∷
    []
unfolding meaning_of evaluated digits
printed = refl

-- the verdicts are those of the suspensions
same_verdicts : verdicts_of stops ≡ given
unfolding meaning_of evaluated digits
same_verdicts = refl

log_0 : log_text program (log_of 0 plan program seen ran.events 0) ≡
    codes "  0 18 0 enter 5 0:3:3" ∷
    []
unfolding meaning_of evaluated digits
log_0 = refl

in_turn : in_order seen ≡ true
in_turn = refl

subjects : list_all (λ s. is_subject_at plan program seen ran.events s.event s.binding) seen ≡ true
unfolding meaning_of evaluated digits
subjects = refl
