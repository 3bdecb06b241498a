-- From what was done in threads to the report.
use Rattle.std.proofs.Common.{◌≡◌, ℕ, zero, suc, ◌≤◌, ◌==◌, true, List, [], ◌∷◌, ◌++◌, length, map, Option, Some, None, refl, sym, ap, subst, ◌∙◌, arith}
use Rattle.std.specs.Prelude.{count_by, flat_map, slice_index_or}
use Rattle.std.specs.List.{All, cons_option, filter_map, list_all}
use Rattle.std.proofs.lemmas.Bool.{and_parts, and_from}
use Rattle.std.proofs.lemmas.List.{length-map}
use Rattle.std.proofs.lemmas.List.Elements.{filter_map-append}
use Rattle.pd_tree.specs.Program.{Program}
use Rattle.pd_plan.specs.declared.plan.Plan.{Plan}
use Rattle.pd_plan.specs.declared.plan.Script.{Script}
use Rattle.pd_plan.specs.Sound.{IsSound}
use Rattle.pd_board.specs.declared.answers.ActResult.{ActResult}
use Rattle.pd_board.specs.declared.answers.Known.TheVariants as knowns
use Rattle.pd_board.specs.Answers.{has_attach}
use Rattle.pd_board.specs.Standing.{Standing}
use Rattle.pd_core.specs.declared.view.View.{View}
use Rattle.pd_core.specs.declared.view.Talk.{Talk}
use Rattle.pd_core.specs.Layout.{Layout}
use Rattle.pd_core.specs.Tokens.{Hub}
use Rattle.pd_session.specs.declared.record.SessionRecord.{SessionRecord}
use Rattle.pd_session.specs.Attaching.{attached_to}
use Rattle.pd_session.specs.Before.{befores_behind, AreAllAttached}
use Rattle.pd_session.proofs.Befores.{befores_are_attached}
use Rattle.pd_shared.specs.declared.sights.Sights.{Sights}
use Rattle.pd_shared.specs.Sitting.{Sitting, Base, standing_of, base_of, number_for}
use Rattle.pd_shared.specs.Closed.{IsClosed}
use Rattle.pd_seats.specs.declared.gathering.Done.{Done}
use Rattle.pd_seats.specs.Ran.{AreDone}
use Rattle.pd_seats.specs.Back.{times_taken, HasGathered}
use Rattle.pd_threads.specs.declared.work.Task.{Task}
use Rattle.pd_threads.specs.Tasks.{DidDo, WasBegun}
use Rattle.pd_threads.specs.Returned.{IsBack, has_come, ran_in, acted_in}
use Rattle.pd_threads.proofs.Returned.{outcomes_are_back}
use Rattle.pd_run.specs.declared.report.Report.{Report}
use Rattle.pd_run.specs.Hands.{ScriptHand}
use Rattle.pd_run.specs.Run.{IsScripted, IsRun}
use Rattle.pd_run.specs.Laws.{IsBefore}
use Rattle.pd_run.specs.Done.{Ran, IsAllOver, AreScripted}
use Rattle.pd_run.proofs.Runs.{reports_are_runs}
use Rattle.pd_host.specs.Beginning.{IsFirstOf, AreTasksOf}

-- ---- lists

pub length-befores : (ss : List Script) (rs : List (List ActResult)) (old new : Standing) → AreAllAttached ss rs old new → length rs ≡ length ss
length-befores [] [] old new h = refl
length-befores [] (r ∷ rs) old new h = absurd h
length-befores (s ∷ ss) [] old new h = absurd h
length-befores (s ∷ ss) (r ∷ rs) old new h = omega (arith, length-befores ss rs h.0 new h.2)

length-scripted : (l : Layout) (s : ℕ) (ss : List Script) (hs : List ScriptHand) → AreScripted l s ss hs → length hs ≡ length ss
length-scripted l s [] [] h = refl
length-scripted l s (x ∷ xs) (y ∷ ys) h = omega (arith, length-scripted l (suc s) xs ys h.3)
length-scripted l s [] (y ∷ ys) h = absurd h
length-scripted l s (x ∷ xs) [] h = absurd h

flat_before : (rs : List SessionRecord) → flat_map (λ xs. xs) (map (λ (r : SessionRecord). r.before) rs) ≡ flat_map (λ (r : SessionRecord). r.before) rs
flat_before [] = refl
flat_before (r ∷ rs) = ap (λ xs. r.before ++ xs) (flat_before rs)

-- ---- what was done, by tasks

pub come_own : (ds : List (Done Task)) → list_all (λ (d : Done Task). has_come d.own.outcome) ds ≡ true → list_all (λ (t : Task). has_come t.outcome) (map (λ (d : Done Task). d.own) ds) ≡ true
come_own [] h = refl
come_own (d ∷ ds) h = let parts = and_parts (has_come d.own.outcome) (list_all (λ (x : Done Task). has_come x.own.outcome) ds) h in and_from (has_come d.own.outcome) _ parts.0 (come_own ds parts.1)

pub ran_own : (ds : List (Done Task)) → filter_map (λ (d : Done Task). ran_in d.own.outcome) ds ≡ filter_map (λ (t : Task). ran_in t.outcome) (map (λ (d : Done Task). d.own) ds)
ran_own [] = refl
ran_own (d ∷ ds) = ap (cons_option (ran_in d.own.outcome)) (ran_own ds)

pub acted_own : (ds : List (Done Task)) → filter_map (λ (d : Done Task). acted_in d.own.outcome) ds ≡ filter_map (λ (t : Task). acted_in t.outcome) (map (λ (d : Done Task). d.own) ds)
acted_own [] = refl
acted_own (d ∷ ds) = ap (cons_option (acted_in d.own.outcome)) (acted_own ds)

at_own : (ds : List (Done Task)) (k : ℕ) (d : Done Task) → slice_index_or (map (λ (x : Done Task). x.own) ds) k d.own ≡ (slice_index_or ds k d).own
at_own [] k d = refl
at_own (x ∷ xs) zero d = refl
at_own (x ∷ xs) (suc k) d = at_own xs k d

pub begun_own : (ds : List (Done Task)) → All (λ (t : Task). WasBegun t.outcome) (map (λ (d : Done Task). d.own) ds) → All (λ (d : Done Task). WasBegun d.own.outcome) ds
begun_own ds h k d below = subst (λ (t : Task). WasBegun t.outcome) (at_own ds k d) (h k d.own (omega (arith, below, length-map ds (λ (x : Done Task). x.own))))

one_fewer : {A : Type 0} (o : Option A) (ys : List A) (n : ℕ) → length ys ≤ n → length (cons_option o ys) ≤ suc n
one_fewer None ys n h = omega (arith, h)
one_fewer (Some x) ys n h = omega (arith, h)

pub fewer : {A B : Type 0} (f : A → Option B) (xs : List A) → length (filter_map f xs) ≤ length xs
fewer f [] = omega arith
fewer f (x ∷ xs) = one_fewer (f x) (filter_map f xs) (length xs) (fewer f xs)

-- ---- a run whose work was done

-- A run of a plan: the first seat stood at `s0` on the new board, at `s1` when the sessions had attached, which was answered `befores`, and at
-- `s2` when all seats had come back
pub record HasRun (plan : Plan) (p : Program) (s0 s1 s2 : Sitting) (befores : List (List ActResult)) (tasks afters : List Task) (left : List Sights) : Type 0 where
  pub first : IsFirstOf plan p s0
  pub attached : AreAllAttached plan.sessions befores (standing_of s0) (standing_of s1)
  pub rest : standing_of s1 ≡ attached_to (standing_of s1) (standing_of s0)
  pub base : base_of s1 ≡ base_of s0
  pub tasks_are : AreTasksOf plan tasks
  pub done : AreDone (DidDo plan p) s1 s2 tasks afters left
  pub shares : s2.token.pass.view.seat_share ≡ s1.token.pass.view.seat_share
  pub come : list_all (λ (t : Task). has_come t.outcome) afters ≡ true

module _ (plan : Plan) (p : Program) (s0 s1 s2 : Sitting) (befores : List (List ActResult)) (tasks afters : List Task) (left : List Sights) (sound : IsSound plan) (h : HasRun plan p s0 s1 s2 befores tasks afters left) where
  hub_is : s1.hub ≡ s0.hub
  hub_is = ap (λ (b : Base). b.hub) h.base

  none_taken : s1.token.pass.view.taken ≡ []
  none_taken = ap (λ (b : Base). b.taken) h.base ∙ ap (λ (v : View). v.taken) h.first.view

  layout_is : s1.hub.layout ≡ s0.hub.layout
  layout_is = ap (λ (x : Hub). x.layout) hub_is

  pub back : IsBack plan p s1 s2 (length h.tasks_are.contexts) left (filter_map (λ (t : Task). ran_in t.outcome) afters) (filter_map (λ (t : Task). acted_in t.outcome) afters)
  back =
      outcomes_are_back plan p s1 s2 h.tasks_are.contexts h.tasks_are.sessions afters left
      (subst (λ ts. AreDone (DidDo plan p) s1 s2 ts afters left) h.tasks_are.all h.done) none_taken h.tasks_are.contexts_are h.tasks_are.sessions_are
      (omega (arith, ap (λ (l : Layout). l.sessions) layout_is, h.first.laid_out.sessions_are))
      (omega (arith, ap (λ (l : Layout). l.contexts) layout_is, h.first.laid_out.contexts_are, sound.fits.contexts.len.0)) h.come

  pub results_count : length (filter_map (λ (t : Task). acted_in t.outcome) afters) ≡ length plan.sessions
  results_count = ap length back.results_are ∙ length-map back.sessions (λ (x : ScriptHand). x.results) ∙ length-scripted s1.hub.layout 0 plan.sessions back.sessions back.scripted

  pub befores_count : length befores ≡ length plan.sessions
  befores_count = length-befores plan.sessions befores (standing_of s0) (standing_of s1) h.attached

  listed : (befores ≡ befores_behind [] plan.sessions) × ((standing_of s1).replies ≡ flat_map (λ rs. rs) befores) × ((b : ℕ) → has_attach b (standing_of s1).replies ≡ true → (standing_of s1).known b ≡ knowns.Attached)
  listed = befores_are_attached plan.sessions befores (standing_of s0) (standing_of s1) h.first.new.alone h.first.new.replies h.attached

  -- ---- what the first seat has when the others were split off

  abbrev b : Sitting
  b = back.between

  same : standing_of b ≡ record (standing_of s1) {
    alone = (standing_of b).alone;
    draw_share = (standing_of b).draw_share;
    answer_share = (standing_of b).answer_share;
    end_share = (standing_of b).end_share;
  }
  same = back.handed.stands

  replies_same : b.token.journal.replies ≡ s1.token.journal.replies
  replies_same = ap (λ (x : Standing). x.replies) same

  no_sights : b.token.journal.sights ≡ []
  no_sights = ap (λ (x : Standing). x.sights) same ∙ ap (λ (x : Standing). x.sights) h.rest ∙ h.first.new.sights

  no_handed : s1.token.pass.view.talk.handed ≡ []
  no_handed = ap (λ (x : Base). x.handed) h.base ∙ ap (λ (v : View). v.talk.handed) h.first.view

  no_numbers : (s : ℕ) → filter_map (number_for s) s1.token.pass.view.talk.numbers ≡ []
  no_numbers s = ap (λ (x : Standing). x.numbers s) h.rest ∙ h.first.new.numbers s

  none_given : (s x : ℕ) → times_taken s x b.token.pass.view.talk ≡ 0
  none_given s x =
      let t : Talk = s1.token.pass.view.talk in
      ap (λ ns. count_by (λ y. y == x) (filter_map (number_for s) (ns ++ b.token.pass.view.talk.handed))) back.handed.numbers
      ∙ ap (λ hs. count_by (λ y. y == x) (filter_map (number_for s) (t.numbers ++ hs))) (back.handed.given ∙ no_handed)
      ∙ ap (count_by (λ y. y == x)) (filter_map-append (number_for s) t.numbers [] ∙ ap (λ ns. ns ++ []) (no_numbers s))

  before : IsBefore (standing_of s1).known b.token
  before = record {
    sights = no_sights;
    numbers = none_given;
    known = λ c e. listed.2 c (ap (has_attach c) (sym replies_same) ∙ e);
  }

  module _ (r : Report) (sessions : List SessionRecord)
      (befores_are : map (λ (x : SessionRecord). x.before) sessions ≡ befores)
      (actions_are : map (λ (x : SessionRecord). x.actions) sessions ≡ filter_map (λ (t : Task). acted_in t.outcome) afters)
      (closed : IsClosed s0.hub.layout s2.token r.tally.bindings r.tally.answers)
      (contexts : r.contexts ≡ filter_map (λ (t : Task). ran_in t.outcome) afters)
      (sessions_are : r.sessions ≡ sessions)
      (left_are : r.sights ++ r.scripts ≡ left)
      (each : length r.sights ≡ length (filter_map (λ (t : Task). ran_in t.outcome) afters)) where
    over : IsAllOver (IsScripted plan) plan p s0.hub.layout (standing_of s1).known b.token s2.token back.contexts back.sessions r
    over = record {
      laid_out = h.first.laid_out;
      before = before;
      contexts = back.run;
      scripts = subst (λ l. AreScripted l 0 plan.sessions back.sessions) layout_is back.scripted;
      made = record {
        contexts = contexts ∙ back.records_are;
        contexts_are = back.counted ∙ h.tasks_are.count;
        sights_are = each ∙ ap length back.records_are ∙ length-map back.contexts (λ (x : Ran). x.result);
        actions = ap (map (λ (x : SessionRecord). x.actions)) sessions_are ∙ actions_are ∙ back.results_are;
        before = ap (map (λ (x : SessionRecord). x.before)) sessions_are ∙ befores_are ∙ listed.0;
        attached = replies_same ∙ listed.1 ∙ ap (flat_map (λ xs. xs)) (sym befores_are) ∙ flat_before sessions ∙ ap (flat_map (λ (x : SessionRecord). x.before)) (sym sessions_are);
      };
      gathered = subst (λ ss. HasGathered b.token (map (λ (x : Ran). x.seat.token) back.contexts ++ map (λ (x : ScriptHand). x.token) back.sessions) ss s2.token) (sym left_are) back.gathered;
      whole = omega (arith, h.shares, ap (λ (x : Base). x.seat_share) h.base, ap (λ (v : View). v.seat_share) h.first.view);
      closed = closed;
    }

    pub is_run : IsRun plan p r
    is_run = reports_are_runs plan p s0.hub.layout (standing_of s1).known b.token s2.token back.contexts back.sessions r over
