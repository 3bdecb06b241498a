-- Definition, which public contracts cite.
-- A binding is steady where it is an observer, is attached before the run, and nothing in the plan disposes it or switches it off.
use Rattle.std.specs.Prelude.{◌≡◌, ℕ, suc, ◌==◌, ◌&&◌, Bool, true, false, not, List, [], ◌∷◌, map, slice_index_or}
use Rattle.std.specs.List.{list_all, list_any}
use Rattle.pd_tree.specs.Program.{Program}
use Rattle.pd_plan.specs.declared.plan.Act.{Act}
use Rattle.pd_plan.specs.declared.plan.Act.TheVariants.{Dispose, Disable}
use Rattle.pd_plan.specs.declared.plan.Action.{Action}
use Rattle.pd_plan.specs.declared.plan.Action.TheVariants as actions
use Rattle.pd_plan.specs.declared.plan.Answer.{Answer}
use Rattle.pd_plan.specs.declared.plan.Script.{Script}
use Rattle.pd_plan.specs.declared.plan.Plan.{Plan}
use Rattle.pd_filter.specs.Matching.{is_about}
use Rattle.pd_break.specs.Hits.{is_observer}
use Rattle.pd_suspend.specs.declared.context.ContextRecord.{ContextRecord}
use Rattle.pd_record.specs.Logs.{has_binding}
use Rattle.pd_running.specs.Running.{mark_in, marks_where}
use Rattle.pd_run.specs.declared.report.Report.{Report}
use Rattle.pd_run.specs.Run.{events_of, IsRun}

-- ---- steady bindings

-- whether an act disposes the binding or switches it off
abbrev pub may_stop : ℕ → Act → Bool
may_stop b (Dispose c) = c == b
may_stop b (Disable c) = c == b
may_stop b _ = false

-- whether an action does
abbrev pub action_may_stop : ℕ → Action → Bool
action_may_stop b (actions.Act a) = may_stop b a
action_may_stop b _ = false

abbrev pub answer_spares : ℕ → Answer → Bool
answer_spares b a = list_all (λ x. not (may_stop b x)) a.first

-- no action and no answer of the script does
abbrev pub script_spares : ℕ → Script → Bool
script_spares b s = list_all (λ a. not (action_may_stop b a)) s.actions && list_all (answer_spares b) s.answers

-- whether a session attaches the binding before the run
abbrev pub is_attached_before : Plan → ℕ → Bool
is_attached_before plan b = list_any (λ (s : Script). list_any (λ x. x == b) s.before) plan.sessions

abbrev pub is_steady : Plan → ℕ → Bool
is_steady plan b = has_binding plan b is_observer && (is_attached_before plan b && list_all (script_spares b) plan.sessions)

-- ---- whole logs

-- whether the binding is about a node
abbrev pub about : Plan → Program → ℕ → ℕ → Bool
about plan p b n = has_binding plan b (λ x. is_about p x n)

-- the log of the binding in context c tells all events of its nodes, in order
abbrev pub IsWhole : Plan → Program → ℕ → ℕ → ContextRecord → Type 0
IsWhole plan p b c r = map mark_in (slice_index_or r.logs b []) ≡ marks_where (about plan p b) (events_of plan p c r)

-- and so in those from number c on
abbrev pub AreWhole : Plan → Program → ℕ → ℕ → List ContextRecord → Type 0
AreWhole plan p b c [] = Unit {0}
AreWhole plan p b c (r ∷ rs) = IsWhole plan p b c r × AreWhole plan p b (suc c) rs

abbrev pub LogsAreWhole : Type 0
LogsAreWhole = (plan : Plan) (p : Program) (r : Report) (b : ℕ) → IsRun plan p r → is_steady plan b ≡ true → AreWhole plan p b 0 r.contexts
