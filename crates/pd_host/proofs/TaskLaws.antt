-- Each task of a sound plan may be done on a seat that was split off from the first one after the attaches.
use Rattle.std.proofs.Common.{◌≡◌, ℕ, zero, suc, ◌+◌, ◌*◌, ◌<◌, ◌≤◌, ◌^◌, List, [], ◌∷◌, ◌++◌, length, refl, sym, ap, subst, ◌∙◌, arith, length-append}
use Rattle.std.specs.Prelude.{slice_get}
use Rattle.std.specs.List.{All, AllByRecursion}
use Rattle.std.proofs.lemmas.List.{length-map}
use Rattle.std.proofs.lemmas.List.Elements.{All-from_recursion}
use Rattle.pd_tree.specs.Program.{Program}
use Rattle.pd_plan.specs.declared.plan.Action.{Action}
use Rattle.pd_plan.specs.declared.plan.Action.TheVariants as actions
use Rattle.pd_plan.specs.declared.plan.Act.TheVariants.{Attach, Dispose, Enable, Disable}
use Rattle.pd_plan.specs.declared.plan.BindingSpec.{BindingSpec}
use Rattle.pd_plan.specs.declared.plan.ContextSpec.{ContextSpec}
use Rattle.pd_plan.specs.declared.plan.Plan.{Plan}
use Rattle.pd_plan.specs.declared.plan.Script.{Script}
use Rattle.pd_plan.specs.declared.table.MatchTable.{MatchTable}
use Rattle.pd_plan.specs.Sound.{IsSound, ContextFits, ActionFits, ActionRefers, IsObserver, SessionFits, SessionRefers}
use Rattle.pd_filter.specs.Matching.{table_of, row_of}
use Rattle.pd_board.specs.Standing.{Standing, bindings}
use Rattle.pd_core.specs.declared.view.View.{View}
use Rattle.pd_core.specs.Layout.{Layout}
use Rattle.pd_core.specs.Tokens.{Hub}
use Rattle.pd_shared.specs.Sitting.{Sitting, Base, standing_of, base_of}
use Rattle.pd_shared.specs.Left.{IsNewcomer}
use Rattle.pd_suspend.proofs.Scripts.{scripts_are_lawful}
use Rattle.pd_record.specs.Record.{fuel_of}
use Rattle.pd_session.specs.Attaching.{attached_to}
use Rattle.pd_session.specs.Doing.{MayDo, turns_of, turns_in}
use Rattle.pd_guest.specs.Beginning.{IsReadyFor}
use Rattle.pd_seats.specs.Shares.{HasFor}
use Rattle.pd_threads.specs.declared.work.Task.{Task}
use Rattle.pd_threads.specs.Tasks.{CanRun, CanAct, CanWork, CanDo, actions_of, actions_at}
use Rattle.pd_threads.specs.Returned.{AreContextTasks, AreSessionTasks}
use Rattle.pd_host.specs.Beginning.{IsFirstOf, AreTasksOf}

-- ---- what a sound plan has

fuel_fits : (cs : List ContextSpec) → AllByRecursion ContextFits cs → (c : ℕ) → fuel_of (slice_get cs c) ≤ 2 ^ 24
fuel_fits [] h c = omega arith
fuel_fits (x ∷ xs) h zero = omega (arith, h.0.fuel.1)
fuel_fits (x ∷ xs) h (suc c) = fuel_fits xs h.1 c

observer_within : (bs : List BindingSpec) (b : ℕ) → IsObserver (slice_get bs b) → b < length bs
observer_within [] b h = absurd h
observer_within (x ∷ xs) zero h = omega arith
observer_within (x ∷ xs) (suc b) h = omega (arith, observer_within xs b h)

may_do : (bs : List BindingSpec) (n : ℕ) (a : Action) → n ≡ length bs → ActionFits a → ActionRefers bs a → MayDo n a
may_do bs n (actions.Act (Attach b)) same fits refers = omega (arith, same, refers)
may_do bs n (actions.Act (Dispose b)) same fits refers = omega (arith, same, refers)
may_do bs n (actions.Act (Enable b)) same fits refers = omega (arith, same, observer_within bs b refers)
may_do bs n (actions.Act (Disable b)) same fits refers = omega (arith, same, observer_within bs b refers)
may_do bs n (actions.Await count turns) same fits refers = fits.1.0

all_may : (bs : List BindingSpec) (n : ℕ) (xs : List Action) → n ≡ length bs → AllByRecursion ActionFits xs → AllByRecursion (ActionRefers bs) xs → AllByRecursion (MayDo n) xs
all_may bs n [] same fits refers = tt
all_may bs n (x ∷ xs) same fits refers = (may_do bs n x same fits.0 refers.0, all_may bs n xs same fits.1 refers.1)

few_turns : (a : Action) → ActionFits a → turns_of a ≤ 1000000
few_turns (actions.Act a) h = omega arith
few_turns (actions.Await count turns) h = h.1.1

all_turns : (xs : List Action) → AllByRecursion ActionFits xs → turns_in xs ≤ 1000000 * length xs
all_turns [] h = omega arith
all_turns (x ∷ xs) h = omega (arith, few_turns x h.0, all_turns xs h.1)

-- what a session of the plan may do
record HasScript (plan : Plan) (xs : List Action) : Type 0 where
  few : length xs ≤ 1000
  fits : AllByRecursion ActionFits xs
  refers : AllByRecursion (ActionRefers plan.bindings) xs

script_in : (plan : Plan) (ss : List Script) → AllByRecursion SessionFits ss → AllByRecursion (SessionRefers plan.bindings) ss → (s : ℕ) → HasScript plan (actions_of (slice_get ss s))
script_in plan [] fits refers s = record { few = omega arith; fits = tt; refers = tt }
script_in plan (x ∷ xs) fits refers zero = record { few = fits.0.actions.len.1; fits = fits.0.actions.all; refers = refers.0.actions }
script_in plan (x ∷ xs) fits refers (suc s) = script_in plan xs fits.1 refers.1 s

-- ---- one seat

module _ (plan : Plan) (p : Program) (s0 s1 : Sitting) (sound : IsSound plan) (entries : length p.entries ≡ length plan.contexts) (first : IsFirstOf plan p s0)
    (rest : standing_of s1 ≡ attached_to (standing_of s1) (standing_of s0)) (base : base_of s1 ≡ base_of s0) where
  layout_is : s1.hub.layout ≡ s0.hub.layout
  layout_is = ap (λ (b : Base). b.hub.layout) base

  table_is : (standing_of s1).table ≡ table_of plan p
  table_is = ap (λ (s : Standing). s.table) rest ∙ first.new.table_is

  module _ (seat : Sitting) (came : IsNewcomer s1 seat) where
    layout_same : seat.hub.layout ≡ s0.hub.layout
    layout_same = ap (λ (h : Hub). h.layout) came.hub ∙ layout_is

    table_same : (standing_of seat).table ≡ table_of plan p
    table_same = came.table ∙ table_is

    bindings_same : bindings (standing_of seat) ≡ length plan.bindings
    bindings_same = ap (λ (t : MatchTable). length t.rows) table_same ∙ length-map plan.bindings (row_of p)

    ready : IsReadyFor plan p (standing_of seat)
    ready = record {
      table = table_same;
      nodes = ap (λ (l : Layout). l.nodes) layout_same ∙ first.new.nodes_is;
      sessions = ap (λ (l : Layout). l.sessions) layout_same ∙ first.new.sessions_is;
      contexts = ap (λ (l : Layout). l.contexts) layout_same ∙ first.new.contexts_is;
      few_bindings = sound.fits.bindings.len.1;
      few_sessions = sound.fits.sessions.len.1;
      sights = came.sights.0;
      sight_loads = came.sights.1;
      passes = came.passes;
      numbers = came.numbers;
      loads = came.loads.0;
      all_loads = came.loads.1;
      cleared = came.cleared;
      nothing_due = λ b. (came.due b).1;
      is_open = came.ended;
      draws = omega (arith, came.shares.0);
      answers = λ x h. omega (arith, came.shares.1 x);
      end_is = omega (arith, came.shares.2);
    }

    can_run : (c : ℕ) → c < length plan.contexts → CanRun plan p c (standing_of seat)
    can_run c within = record {
      entry = omega (arith, within, entries);
      fuel = fuel_fits plan.contexts sound.fits.contexts.all c;
      ready = ready;
      lawful = λ session k. scripts_are_lawful plan sound session k;
    }

    can_act : (s : ℕ) → s < length plan.sessions → CanAct plan s (standing_of seat)
    can_act s within =
        let script = script_in plan plan.sessions sound.fits.sessions.all sound.refers.sessions s in
        let turns = all_turns (actions_at plan s) script.fits in
        record {
          planned = within;
          within = omega (arith, within, ap (λ (l : Layout). l.sessions) layout_same, first.new.sessions_is);
          few = omega (arith, script.few);
          may = all_may plan.bindings (bindings (standing_of seat)) (actions_at plan s) bindings_same script.fits script.refers;
          draws = omega (arith, came.shares.0);
          answers = λ t h. omega (arith, came.shares.1 t);
          loads = omega (arith, (came.answer_reads s).0, turns, script.few);
          ends = omega (arith, came.end_reads.0, turns, script.few);
        }

  -- ---- all tasks

  abbrev MayBeDone : Task → Type 0
  MayBeDone t = (seat : Sitting) → IsNewcomer s1 seat → CanDo plan p t seat

  contexts_can : (c : ℕ) (ts : List Task) → AreContextTasks c ts → c + length ts ≤ length plan.contexts → AllByRecursion MayBeDone ts
  contexts_can c [] are most = tt
  contexts_can c (t ∷ ts) are most = (
    λ seat came. subst (λ w. CanWork plan p w (standing_of seat)) (sym are.0) (can_run seat came c (omega (arith, most))),
    contexts_can (suc c) ts are.1 (omega (arith, most)),
  )

  sessions_can : (s : ℕ) (ss : List Script) (ts : List Task) → AreSessionTasks s ss ts → s + length ss ≤ length plan.sessions → AllByRecursion MayBeDone ts
  sessions_can s [] [] are most = tt
  sessions_can s [] (t ∷ ts) are most = absurd are
  sessions_can s (x ∷ xs) [] are most = absurd are
  sessions_can s (x ∷ xs) (t ∷ ts) are most = (
    λ seat came. subst (λ w. CanWork plan p w (standing_of seat)) (sym are.0) (can_act seat came s (omega (arith, most))),
    sessions_can (suc s) xs ts are.1 (omega (arith, most)),
  )

  both_can : (xs ys : List Task) → AllByRecursion MayBeDone xs → AllByRecursion MayBeDone ys → AllByRecursion MayBeDone (xs ++ ys)
  both_can [] ys h k = k
  both_can (x ∷ xs) ys h k = (h.0, both_can xs ys h.1 k)

  pub all_can : (tasks : List Task) → AreTasksOf plan tasks → All MayBeDone tasks
  all_can tasks are =
      subst (All MayBeDone) (sym are.all)
      (All-from_recursion MayBeDone (are.contexts ++ are.sessions)
      (both_can are.contexts are.sessions (contexts_can 0 are.contexts are.contexts_are (omega (arith, are.count))) (sessions_can 0 plan.sessions are.sessions are.sessions_are (omega arith))))

  session_count : (s : ℕ) (ss : List Script) (ts : List Task) → AreSessionTasks s ss ts → length ts ≡ length ss
  session_count s [] [] are = refl
  session_count s [] (t ∷ ts) are = absurd are
  session_count s (x ∷ xs) [] are = absurd are
  session_count s (x ∷ xs) (t ∷ ts) are = omega (arith, session_count (suc s) xs ts are.1)

  -- the first seat has shares for all of them
  pub has_shares : (tasks : List Task) (n : ℕ) → AreTasksOf plan tasks → n ≡ length tasks → HasFor n s1
  has_shares tasks n are is =
      let few : n ≤ 32 = omega (arith, is, ap length are.all, length-append are.contexts are.sessions, are.count, session_count 0 plan.sessions are.sessions are.sessions_are, sound.fits.contexts.len.1, sound.fits.sessions.len.1) in
      record {
        seats = omega (arith, few, ap (λ (b : Base). b.seat_share) base, ap (λ (v : View). v.seat_share) first.view);
        draws = omega (arith, few, ap (λ (s : Standing). s.draw_share) rest, first.new.draw_share);
        answers = λ t h. omega (arith, few, ap (λ (s : Standing). s.answer_share t) rest, first.new.answer_share t);
        ends = omega (arith, few, ap (λ (s : Standing). s.end_share) rest, first.new.end_share);
      }
