-- Acts on two observers, each with its answer.
--  1  function main() { debugger; }
use Rattle.std.specs.Prelude.{◌≡◌, refl, ℕ, true, map, List, [], ◌∷◌, None, Some, codes}
use Rattle.std.specs.Fmt.{digits}
use Rattle.std.specs.List.{list_all}
use Rattle.pd_values.specs.declared.value.Value.TheVariants.{Null}
use Rattle.pd_values.specs.declared.value.End.TheVariants.{Done}
use Rattle.pd_tree.specs.declared.kind.Kind.TheVariants.{SlBody, SlDebugger, SlFunction}
use Rattle.pd_values.specs.declared.value.Tag.TheVariants.{Statement, Root, RootBody, AlwaysHalt}
use Rattle.pd_tree.specs.declared.kind.Meaning.TheVariants.{Nothing}
use Rattle.pd_tree.specs.Program.{Program, Node, Item}
use Rattle.pd_meaning.specs.Meaning.{Ran, Verdicts, meaning_of, evaluated}
use Rattle.pd_plan.specs.declared.plan.Language.TheVariants.{Sl}
use Rattle.pd_plan.specs.declared.plan.BindingSpec.TheVariants.{Observe}
use Rattle.pd_plan.specs.declared.plan.Resume.TheVariants.{Continue}
use Rattle.pd_plan.specs.declared.plan.Plan.{Plan}
use Rattle.pd_board.specs.declared.answers.Drawn.TheVariants.{Off}
use Rattle.pd_board.specs.declared.answers.Attach.TheVariants as attaches
use Rattle.pd_board.specs.declared.answers.Dispose.TheVariants as disposes
use Rattle.pd_board.specs.declared.answers.ActResult.{ActResult}
use Rattle.pd_board.specs.declared.answers.ActResult.TheVariants as acts
use Rattle.pd_board.specs.declared.answers.Sight.{Sight}
use Rattle.pd_suspend.specs.declared.suspension.Suspension.{Suspension}
use Rattle.pd_suspend.specs.Stops.{Setting, Answered, stops_of, verdicts_of}
use Rattle.pd_suspend.specs.Answers.{acts_of}
use Rattle.pd_record.specs.Logs.{answer_at, log_of}
use Rattle.pd_record.specs.Acts.{IsActed}
use Rattle.pd_record.specs.Seen.{in_order, is_subject_at}
use Rattle.pd_record.proofs.Rows.Text.{brief, stops_text, log_text}
use Rattle.pd_record.proofs.ActsLaws.{in_order_all}

abbrev nodes : List Node
nodes =
    -- 0
    record { kind = (SlFunction (codes "main") []); children = 1 ∷ []; tags = Root ∷ []; meaning = Nothing; root = 0; level = 0; slots = 0; sees = []; source = 0; start = 0; len = 29; line = 1; column = 1 } ∷
    -- 1
    record { kind = SlBody; children = 2 ∷ []; tags = RootBody ∷ []; meaning = Nothing; root = 0; level = 0; slots = 0; sees = []; source = 0; start = 16; len = 13; line = 1; column = 17 } ∷
    -- 2
    record { kind = SlDebugger; children = []; tags = Statement ∷ AlwaysHalt ∷ []; meaning = Nothing; root = 0; level = 0; slots = 0; sees = []; source = 0; start = 18; len = 8; line = 1; column = 19 } ∷
    []

abbrev items : List Item
items =
    record { name = codes "println"; root = None } ∷
    record { name = codes "main"; root = Some 0 } ∷
    []

abbrev pub program : Program
program = record { nodes = nodes; items = items; mains = None ∷ []; entries = 1 ∷ [] }

abbrev pub plan : Plan
plan = record {
  sources = record { name = codes "main.sl"; language = Sl } ∷ [];
  exports = [];
  contexts = record { source = 0; entry = codes "main"; fuel = 1000000 } ∷ [];
  bindings =
      Observe (record { tags = Root ∷ []; not_tags = []; sources = []; lines = []; roots = [] }) ∷
      Observe (record { tags = Root ∷ []; not_tags = []; sources = []; lines = []; roots = [] }) ∷
      [];
  sessions = record { before = []; actions = []; answers = [] } ∷ [];
}

-- the verdicts that are answered
abbrev pub given : Verdicts
given = []

abbrev pub ran : Ran
ran = meaning_of program 1 1000000 given

-- what was seen
abbrev pub seen : List Sight
seen =
    []

-- what the suspensions were answered
abbrev pub answered : List Answered
answered =
    record { answer = 0; acts = acts.Attached 0 attaches.Attached ∷ acts.Attached 0 attaches.Already ∷ acts.Disposed 0 (disposes.Disposed 0) ∷ acts.Disposed 0 disposes.Already ∷ acts.Attached 0 attaches.Already ∷ acts.Disposed 1 (disposes.Disposed 0) ∷ acts.Attached 1 attaches.Gone ∷ []; resume = Continue } ∷
    []

abbrev pub setting : Setting
setting = record { plan = plan; program = program; context = 0; drawn = answer_at seen; answered = answered }

abbrev pub stops : List Suspension
stops = stops_of setting ran.events

run : brief ran ≡ ([], Done Null, 3, 6)
unfolding meaning_of evaluated digits
run = refl

printed : stops_text program stops ≡
    codes "stop 2 session 0 before 2 0:1:19 answer 0 halt" ∷
    codes "  frame 0 main 0:1:19" ∷
    codes "  attach 0 attached" ∷
    codes "  attach 0 already" ∷
    codes "  dispose 0 disposed 0" ∷
    codes "  dispose 0 already" ∷
    codes "  attach 0 already" ∷
    codes "  dispose 1 disposed 0" ∷
    codes "  attach 1 gone" ∷
    codes "  then continue" ∷
    []
unfolding meaning_of evaluated digits
printed = refl

-- the verdicts are those of the suspensions
same_verdicts : verdicts_of stops ≡ given
unfolding meaning_of evaluated digits
same_verdicts = refl

log_0 : log_text program (log_of 0 plan program seen ran.events 0) ≡ []
unfolding meaning_of evaluated digits
log_0 = refl

log_1 : log_text program (log_of 0 plan program seen ran.events 1) ≡ []
unfolding meaning_of evaluated digits
log_1 = refl

in_turn : in_order seen ≡ true
in_turn = refl

subjects : list_all (λ s. is_subject_at plan program seen ran.events s.event s.binding) seen ≡ true
unfolding meaning_of evaluated digits
subjects = refl

abbrev pub done : List (ℕ × ActResult)
done = (2, acts.Attached 0 attaches.Attached) ∷ (2, acts.Attached 0 attaches.Already) ∷ (2, acts.Disposed 0 (disposes.Disposed 0)) ∷ (2, acts.Disposed 0 disposes.Already) ∷ (2, acts.Attached 0 attaches.Already) ∷ (2, acts.Disposed 1 (disposes.Disposed 0)) ∷ (2, acts.Attached 1 attaches.Gone) ∷ []

did : acts_of stops ≡ done
unfolding meaning_of evaluated digits
did = refl

acted_0 : IsActed plan (Unit {0}) 0 ((0, Off) ∷ []) done
acted_0 = record { on = record { attached = refl; attached_lives = λ _. refl; first = refl; disposed = refl; used_up = refl; used_up_once = refl; counted = refl; uncounted = refl }; disposed_known = λ _. tt; used_up_known = λ _. tt; turns = in_order_all 0 (map (λ a. a.1) done) refl }

acted_1 : IsActed plan (Unit {0}) 1 ((0, Off) ∷ []) done
acted_1 = record { on = record { attached = refl; attached_lives = λ _. refl; first = refl; disposed = refl; used_up = refl; used_up_once = refl; counted = refl; uncounted = refl }; disposed_known = λ _. tt; used_up_known = λ _. tt; turns = in_order_all 1 (map (λ a. a.1) done) refl }
