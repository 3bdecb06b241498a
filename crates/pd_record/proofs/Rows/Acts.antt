-- An answer attaches an observer and disposes another while a call runs.
--  1  function f() {
--  2    debugger;
--  3    return 1;
--  4  }
--  5  function main() {
--  6    f();
--  7    f();
--  8  }
use Rattle.std.specs.Prelude.{◌≡◌, refl, ℕ, true, map, List, [], ◌∷◌, None, Some, pos, codes}
use Rattle.std.specs.Fmt.{digits}
use Rattle.std.specs.List.{list_all}
use Rattle.pd_values.specs.declared.value.Value.TheVariants.{Null}
use Rattle.pd_values.specs.declared.value.End.TheVariants.{Done}
use Rattle.pd_tree.specs.declared.kind.Kind.TheVariants.{SlBody, SlCall, SlDebugger, SlFunction, SlName, SlNumber, SlReturn}
use Rattle.pd_values.specs.declared.value.Tag.TheVariants.{Statement, Call, Root, RootBody, Expression, AlwaysHalt}
use Rattle.pd_tree.specs.declared.kind.Meaning.TheVariants.{Item as Means, Nothing}
use Rattle.pd_tree.specs.Program.{Program, Node, Item}
use Rattle.pd_meaning.specs.Meaning.{Ran, Verdicts, meaning_of, evaluated}
use Rattle.pd_plan.specs.declared.plan.Language.TheVariants.{Sl}
use Rattle.pd_plan.specs.declared.plan.BindingSpec.TheVariants.{Observe}
use Rattle.pd_plan.specs.declared.plan.Resume.TheVariants.{Continue}
use Rattle.pd_plan.specs.declared.plan.Plan.{Plan}
use Rattle.pd_board.specs.declared.answers.Drawn.TheVariants.{On, Off}
use Rattle.pd_board.specs.declared.answers.Attach.TheVariants as attaches
use Rattle.pd_board.specs.declared.answers.Dispose.TheVariants as disposes
use Rattle.pd_board.specs.declared.answers.ActResult.{ActResult}
use Rattle.pd_board.specs.declared.answers.ActResult.TheVariants as acts
use Rattle.pd_board.specs.declared.answers.Sight.{Sight}
use Rattle.pd_suspend.specs.declared.suspension.Suspension.{Suspension}
use Rattle.pd_suspend.specs.Stops.{Setting, Answered, stops_of, verdicts_of}
use Rattle.pd_suspend.specs.Answers.{acts_of}
use Rattle.pd_record.specs.Logs.{answer_at, moments_of, log_of}
use Rattle.pd_record.specs.Acts.{IsActed}
use Rattle.pd_record.specs.Seen.{in_order, is_subject_at}
use Rattle.pd_record.proofs.Rows.Text.{brief, stops_text, log_text}
use Rattle.pd_record.proofs.ActsLaws.{in_order_all}

abbrev nodes : List Node
nodes =
    -- 0
    record { kind = (SlFunction (codes "f") []); children = 1 ∷ []; tags = Root ∷ []; meaning = Nothing; root = 0; level = 0; slots = 0; sees = []; source = 0; start = 0; len = 40; line = 1; column = 1 } ∷
    -- 1
    record { kind = SlBody; children = 2 ∷ 3 ∷ []; tags = RootBody ∷ []; meaning = Nothing; root = 0; level = 0; slots = 0; sees = []; source = 0; start = 13; len = 27; line = 1; column = 14 } ∷
    -- 2
    record { kind = SlDebugger; children = []; tags = Statement ∷ AlwaysHalt ∷ []; meaning = Nothing; root = 0; level = 0; slots = 0; sees = []; source = 0; start = 17; len = 8; line = 2; column = 3 } ∷
    -- 3
    record { kind = SlReturn; children = 4 ∷ []; tags = Statement ∷ []; meaning = Nothing; root = 0; level = 0; slots = 0; sees = []; source = 0; start = 29; len = 8; line = 3; column = 3 } ∷
    -- 4
    record { kind = (SlNumber (pos 1)); children = []; tags = Expression ∷ []; meaning = Nothing; root = 0; level = 0; slots = 0; sees = []; source = 0; start = 36; len = 1; line = 3; column = 10 } ∷
    -- 5
    record { kind = (SlFunction (codes "main") []); children = 6 ∷ []; tags = Root ∷ []; meaning = Nothing; root = 5; level = 0; slots = 0; sees = []; source = 0; start = 41; len = 33; line = 5; column = 1 } ∷
    -- 6
    record { kind = SlBody; children = 7 ∷ 9 ∷ []; tags = RootBody ∷ []; meaning = Nothing; root = 5; level = 0; slots = 0; sees = []; source = 0; start = 57; len = 17; line = 5; column = 17 } ∷
    -- 7
    record { kind = SlCall; children = 8 ∷ []; tags = Expression ∷ Call ∷ Statement ∷ []; meaning = Nothing; root = 5; level = 0; slots = 0; sees = []; source = 0; start = 61; len = 3; line = 6; column = 3 } ∷
    -- 8
    record { kind = (SlName (codes "f")); children = []; tags = Expression ∷ []; meaning = (Means 1); root = 5; level = 0; slots = 0; sees = []; source = 0; start = 61; len = 1; line = 6; column = 3 } ∷
    -- 9
    record { kind = SlCall; children = 10 ∷ []; tags = Expression ∷ Call ∷ Statement ∷ []; meaning = Nothing; root = 5; level = 0; slots = 0; sees = []; source = 0; start = 68; len = 3; line = 7; column = 3 } ∷
    -- 10
    record { kind = (SlName (codes "f")); children = []; tags = Expression ∷ []; meaning = (Means 1); root = 5; level = 0; slots = 0; sees = []; source = 0; start = 68; len = 1; line = 7; column = 3 } ∷
    []

abbrev items : List Item
items =
    record { name = codes "println"; root = None } ∷
    record { name = codes "f"; root = Some 0 } ∷
    record { name = codes "main"; root = Some 5 } ∷
    []

abbrev pub program : Program
program = record { nodes = nodes; items = items; mains = None ∷ []; entries = 2 ∷ [] }

abbrev pub plan : Plan
plan = record {
  sources = record { name = codes "main.sl"; language = Sl } ∷ [];
  exports = [];
  contexts = record { source = 0; entry = codes "main"; fuel = 1000000 } ∷ [];
  bindings =
      Observe (record { tags = Root ∷ []; not_tags = []; sources = []; lines = []; roots = codes "f" ∷ [] }) ∷
      Observe (record { tags = Root ∷ []; not_tags = []; sources = []; lines = []; roots = codes "f" ∷ [] }) ∷
      [];
  sessions = record { before = 0 ∷ []; actions = []; answers = [] } ∷ [];
}

-- the verdicts that are answered
abbrev pub given : Verdicts
given = []

abbrev pub ran : Ran
ran = meaning_of program 2 1000000 given

-- what was seen
abbrev pub seen : List Sight
seen =
    record { event = 5; binding = 0; drawn = On 0 } ∷
    record { event = 19; binding = 1; drawn = On 0 } ∷
    record { event = 28; binding = 1; drawn = On 1 } ∷
    []

-- what the suspensions were answered
abbrev pub answered : List Answered
answered =
    record { answer = 0; acts = acts.Attached 1 attaches.Attached ∷ acts.Disposed 0 (disposes.Disposed 1) ∷ []; resume = Continue } ∷
    record { answer = 1; acts = []; resume = Continue } ∷
    []

abbrev pub setting : Setting
setting = record { plan = plan; program = program; context = 0; drawn = answer_at seen; answered = answered }

abbrev pub stops : List Suspension
stops = stops_of setting ran.events

run : brief ran ≡ ([], Done Null, 16, 32)
unfolding meaning_of evaluated digits
run = refl

printed : stops_text program stops ≡
    codes "stop 7 session 0 before 2 0:2:3 answer 0 halt" ∷
    codes "  frame 0 f 0:2:3" ∷
    codes "  frame 1 main 0:6:3" ∷
    codes "  attach 1 attached" ∷
    codes "  dispose 0 disposed 1" ∷
    codes "  then continue" ∷
    codes "stop 21 session 0 before 2 0:2:3 answer 1 halt" ∷
    codes "  frame 0 f 0:2:3" ∷
    codes "  frame 1 main 0:7:3" ∷
    codes "  then continue" ∷
    []
unfolding meaning_of evaluated digits
printed = refl

-- the verdicts are those of the suspensions
same_verdicts : verdicts_of stops ≡ given
unfolding meaning_of evaluated digits
same_verdicts = refl

log_0 : log_text program (log_of 0 plan program seen ran.events 0) ≡
    codes "  0 5 0 enter 0 0:1:1" ∷
    []
unfolding meaning_of evaluated digits
log_0 = refl

log_1 : log_text program (log_of 0 plan program seen ran.events 1) ≡
    codes "  0 19 0 enter 0 0:1:1" ∷
    codes "  0 28 1 return 0 0:1:1 1" ∷
    []
unfolding meaning_of evaluated digits
log_1 = refl

in_turn : in_order seen ≡ true
in_turn = refl

subjects : list_all (λ s. is_subject_at plan program seen ran.events s.event s.binding) seen ≡ true
unfolding meaning_of evaluated digits
subjects = refl

-- the end of the first call is an event of the disposed observer, which is passed there; the second call is none of its logs
moments_0 : moments_of plan program seen ran.events 0 ≡ (5, On 0) ∷ (14, Off) ∷ (19, Off) ∷ []
unfolding meaning_of evaluated digits
moments_0 = refl

moments_1 : moments_of plan program seen ran.events 1 ≡ (5, Off) ∷ (19, On 0) ∷ (28, On 1) ∷ []
unfolding meaning_of evaluated digits
moments_1 = refl

abbrev pub done : List (ℕ × ActResult)
done = (7, acts.Attached 1 attaches.Attached) ∷ (7, acts.Disposed 0 (disposes.Disposed 1)) ∷ []

did : acts_of stops ≡ done
unfolding meaning_of evaluated digits
did = refl

-- the disposed one is disposed, and the attached one is given all from there on
acted_0 : IsActed plan (Unit {0}) 0 ((5, On 0) ∷ (14, Off) ∷ (19, Off) ∷ []) done
acted_0 = record { on = record { attached = refl; attached_lives = λ _. refl; first = refl; disposed = refl; used_up = refl; used_up_once = refl; counted = refl; uncounted = refl }; disposed_known = λ _. tt; used_up_known = λ _. tt; turns = in_order_all 0 (map (λ a. a.1) done) refl }

acted_1 : IsActed plan ⊥ 1 ((5, Off) ∷ (19, On 0) ∷ (28, On 1) ∷ []) done
acted_1 = record { on = record { attached = refl; attached_lives = λ _. refl; first = refl; disposed = refl; used_up = refl; used_up_once = refl; counted = refl; uncounted = refl }; disposed_known = λ e. cc; used_up_known = λ e. cc; turns = in_order_all 1 (map (λ a. a.1) done) refl }
