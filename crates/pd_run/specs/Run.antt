-- Definition, which public contracts cite.
-- The report of a plan's run.
use Rattle.std.specs.Prelude.{◌≡◌, ℕ, suc, ◌<◌, true, List, [], ◌∷◌, map, length, flat_map, slice_index, slice_index_or}
use Rattle.std.specs.List.{All, list_all, filter_map}
use Rattle.pd_tree.specs.Program.{Program}
use Rattle.pd_machine.specs.Events.{Told}
use Rattle.pd_meaning.specs.Meaning.{Ran, meaning_of}
use Rattle.pd_plan.specs.declared.plan.Plan.{Plan}
use Rattle.pd_plan.specs.declared.plan.Script.{Script}
use Rattle.pd_board.specs.Tally.{no_tally}
use Rattle.pd_suspend.specs.Stops.{verdicts_of, stops_of}
use Rattle.pd_suspend.specs.declared.suspension.Suspension.{Suspension}
use Rattle.pd_suspend.specs.Answers.{scripted, Carries, numbers_in}
use Rattle.pd_suspend.specs.declared.context.ContextRecord.{ContextRecord}
use Rattle.pd_record.specs.Logs.{log_of}
use Rattle.pd_record.specs.Seen.{IsSeen, is_end_met}
use Rattle.pd_record.specs.Record.{fuel_at, IsRunOf, setting_of}
use Rattle.pd_shared.specs.declared.sights.Sights.{Sights}
use Rattle.pd_shared.specs.Book.{reads_at}
use Rattle.pd_run.specs.declared.report.Report.{Report}
use Rattle.pd_session.specs.declared.record.SessionRecord.{SessionRecord}
use Rattle.pd_run.specs.Part.{Part, part_of}
use Rattle.pd_run.specs.Life.{Whole, IsLife}
use Rattle.pd_run.specs.Answers.{AreAnswers}
use Rattle.pd_session.specs.Before.{befores_behind}
use Rattle.pd_session.specs.Results.{act_in, AreResults, Readings}

-- ---- contexts

-- what context c does: the meaning of the program from its entry, with its fuel, under the verdicts that its suspensions were answered
abbrev pub ran_of : Plan → Program → ℕ → ContextRecord → Ran
ran_of plan p c r = meaning_of p (slice_index p.entries c) (fuel_at plan c) (verdicts_of r.stops)

abbrev pub events_of : Plan → Program → ℕ → ContextRecord → List Told
events_of plan p c r = (ran_of plan p c r).events

-- the log of binding b on the context, and that no end of an activation which was given to it is passed over
pub record IsLogged (plan : Plan) (p : Program) (c : ℕ) (r : ContextRecord) (s : Sights) (b : ℕ) : Type 0 where
  pub log : slice_index_or r.logs b [] ≡ log_of c plan p r.seen (events_of plan p c r) b
  pub met : list_all (is_end_met plan p r.seen s.journal.passes b) (events_of plan p c r) ≡ true

-- the record of context c, and what its seat left; `given` says of each suspension of a context what its answer is
pub record IsContextOf (given : ℕ → Suspension → Type 0) (plan : Plan) (p : Program) (c : ℕ) (r : ContextRecord) (s : Sights) : Type 0 where
  -- output, end, fuel used and number of events are the meaning's
  pub run : IsRunOf (ran_of plan p c r) r
  -- what was seen is what the seat left; nodes were loaded once at each Enter, and sights and passes stand in their places
  pub seen : s.journal.sights ≡ r.seen
  pub sights : IsSeen plan p (events_of plan p c r) r.seen s.journal.sight_loads s.journal.passes (λ n. slice_index s.loads.items n)
  -- each binding has its log
  pub count : length r.logs ≡ length plan.bindings
  pub logs : (b : ℕ) → b < length plan.bindings → IsLogged plan p c r s b
  -- its suspensions stand where breakpoints, steps and halts put them, and each has its answer
  pub stops : r.stops ≡ stops_of (setting_of plan p c r.seen r.stops) (events_of plan p c r)
  pub answered : All (given c) r.stops

-- the records of contexts from number c on
abbrev pub AreContexts : (ℕ → Suspension → Type 0) → Plan → Program → ℕ → List ContextRecord → List Sights → Type 0
AreContexts given plan p c [] [] = Unit {0}
AreContexts given plan p c (r ∷ rs) (s ∷ ss) = IsContextOf given plan p c r s × AreContexts given plan p (suc c) rs ss
AreContexts given plan p c _ _ = ⊥

-- ---- sessions

-- how often the seat of session s, which left this, read the session's word and that of ended contexts
abbrev pub readings_in : ℕ → Sights → Readings
readings_in s left = record { loads = (reads_at left.sessions.items s).loads; end_loads = left.ends.loads; last_ends = left.ends.last }

-- what session s was answered, and what its seat left
pub record IsSessionOf (plan : Plan) (answers : List ℕ) (s : ℕ) (script : Script) (r : SessionRecord) (left : Sights) : Type 0 where
  pub results : AreResults (length plan.contexts) (slice_index answers s) (readings_in s left) script.actions r.actions

abbrev pub AreSessions : Plan → List ℕ → ℕ → List Script → List SessionRecord → List Sights → Type 0
AreSessions plan answers s [] [] [] = Unit {0}
AreSessions plan answers s (x ∷ xs) (r ∷ rs) (l ∷ ls) = IsSessionOf plan answers s x r l × AreSessions plan answers (suc s) xs rs ls
AreSessions plan answers s _ _ _ = ⊥

-- ---- all together

-- what the contexts from number c on tell of bindings
abbrev pub parts_of : Plan → Program → ℕ → List ContextRecord → List Part
parts_of plan p c [] = []
parts_of plan p c (r ∷ rs) = part_of plan p (events_of plan p c r) r ∷ parts_of plan p (suc c) rs

-- what the report tells of bindings
abbrev pub whole_in : Plan → Program → Report → Whole
whole_in plan p r = record {
  before = flat_map (λ s. s.before) r.sessions;
  contexts = parts_of plan p 0 r.contexts;
  scripts = map (λ s. filter_map act_in s.actions) r.sessions;
}

-- the report has one record for each context, session, binding and number of answers of the plan
pub record IsCounted (plan : Plan) (r : Report) : Type 0 where
  pub contexts : length r.contexts ≡ length plan.contexts
  pub sessions : length r.sessions ≡ length plan.sessions
  pub bindings : length r.tally.bindings ≡ length plan.bindings
  pub answers : length r.tally.answers ≡ length plan.sessions

-- the report of the plan's run, where `given` says of each suspension of a context what its answer is
pub record IsRunBy (given : ℕ → Suspension → Type 0) (plan : Plan) (p : Program) (r : Report) : Type 0 where
  pub counted : IsCounted plan r
  -- each context has its run, its logs and its suspensions
  pub contexts : AreContexts given plan p 0 r.contexts r.sights
  -- each binding has its life, over all contexts and sessions
  pub lives : (b : ℕ) → b < length plan.bindings → IsLife plan b (whole_in plan p r) (slice_index_or r.tally.bindings b no_tally)
  -- the answers of each session are numbered over all contexts
  pub answers : (s : ℕ) → s < length plan.sessions → AreAnswers (slice_index r.tally.answers s) (map (λ c. numbers_in s c.stops) r.contexts)
  -- each attach before the run was answered, and so was each action
  pub before : map (λ s. s.before) r.sessions ≡ befores_behind [] plan.sessions
  pub sessions : AreSessions plan r.tally.answers 0 plan.sessions r.sessions r.scripts

-- the report of the plan's run: each suspension has the answer that the script of its session gives
abbrev pub IsScripted : Plan → ℕ → Suspension → Type 0
IsScripted plan c x = Carries x (scripted plan x.session x.answer)

abbrev pub IsRun : Plan → Program → Report → Type 0
IsRun plan p r = IsRunBy (IsScripted plan) plan p r
