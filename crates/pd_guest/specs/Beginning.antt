-- Definition, which public contracts cite.
-- A context that begins, and one that is over.
use Rattle.std.specs.Prelude.{◌≡◌, ℕ, ◌≤◌, ◌<◌, ◌^◌, true, false, [], length, None}
use Rattle.pd_tree.specs.Program.{Program}
use Rattle.pd_plan.specs.declared.plan.Plan.{Plan}
use Rattle.pd_filter.specs.Matching.{table_of}
pub use Rattle.pd_record.specs.Record.{fuel_at}
use Rattle.pd_board.specs.declared.answers.Known.TheVariants as knowns
use Rattle.pd_board.specs.Standing.{Standing, NothingDue}
use Rattle.pd_eval.specs.declared.running.Ran.{Ran}
use Rattle.pd_suspend.specs.declared.context.ContextRecord.{ContextRecord}
use Rattle.pd_guest.specs.declared.serving.Progress.{Progress}

-- a board for a context of this plan: nothing of the context was done on it, and it has the room that a context may need
pub record IsReadyFor (plan : Plan) (p : Program) (s : Standing) : Type 0 where
  pub table : s.table ≡ table_of plan p
  pub nodes : s.nodes ≡ length p.nodes
  pub sessions : s.sessions ≡ length plan.sessions
  pub contexts : s.contexts ≡ length plan.contexts
  pub few_bindings : length plan.bindings ≤ 4096
  pub few_sessions : length plan.sessions ≤ 16
  pub sights : s.sights ≡ []
  pub sight_loads : s.sight_loads ≡ []
  pub passes : s.passes ≡ []
  pub numbers : (x : ℕ) → s.numbers x ≡ []
  pub loads : (n : ℕ) → s.loads n ≡ 0
  pub all_loads : s.all_loads ≡ 0
  pub cleared : s.cleared ≡ 0
  pub nothing_due : NothingDue s
  pub is_open : s.ended ≡ false
  pub draws : 2 ^ 38 ≤ s.draw_share
  pub answers : (x : ℕ) → x < s.sessions → 2 ^ 26 ≤ s.answer_share x
  pub end_is : 0 < s.end_share

-- the loads of the words of sessions and of the word of ended contexts, and what was read there
pub record Words : Type 0 where
  pub answer_loads : ℕ → ℕ
  pub last_answers : ℕ → ℕ
  pub end_loads : ℕ
  pub last_ends : ℕ

abbrev pub words_of : Standing → Words
words_of s = record { answer_loads = s.answer_loads; last_answers = s.last_answers; end_loads = s.end_loads; last_ends = s.last_ends }

-- what a context never changes, and its end
abbrev pub fixed_of : Standing → Standing
fixed_of s = record s { replies = []; sights = []; sight_loads = []; passes = []; known = λ _. knowns.Fresh; numbers = λ _. []; draw_share = 0; answer_share = λ _. 0; end_share = 0; ended = false; loads = λ _. 0; all_loads = 0; cleared = 0; spare = 0; last_node = None; held = λ _. false; due = λ _. false }

-- the context is over: it has ended, nothing is due, and the rest of the board is as before
pub record IsOver (first last : Standing) : Type 0 where
  pub ended : last.ended ≡ true
  pub nothing_due : NothingDue last
  pub rest : fixed_of last ≡ fixed_of first

-- the record has what a run left and what was kept
pub record IsKeptWith (ran : Ran) (h : Progress) (r : ContextRecord) : Type 0 where
  pub output : r.output ≡ ran.output
  pub end_is : r.«end» ≡ ran.«end»
  pub used : r.used ≡ ran.used
  pub events : r.events ≡ ran.events
  pub logs : r.logs ≡ h.kept.logs.items
  pub seen : r.seen ≡ h.kept.seen.items
  pub stops : r.stops ≡ h.stops.items
