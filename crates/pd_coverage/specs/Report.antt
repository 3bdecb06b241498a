-- Definition, which public contracts cite.
-- What coverage says of the report of a run.
use Rattle.std.specs.Prelude.{◌≡◌, ℕ, suc, ◌==◌, ◌&&◌, Bool, true, List, [], ◌∷◌, map, filter, length, slice_index_or}
use Rattle.std.specs.List.{AllByRecursion, list_any}
use Rattle.pd_tree.specs.Program.{Program}
use Rattle.pd_machine.specs.Events.{Told}
use Rattle.pd_plan.specs.declared.plan.Plan.{Plan}
use Rattle.pd_break.specs.Hits.{is_observer}
use Rattle.pd_log.specs.declared.Entry.{Entry}
use Rattle.pd_suspend.specs.declared.context.ContextRecord.{ContextRecord}
use Rattle.pd_record.specs.Logs.{has_binding}
use Rattle.pd_running.specs.Running.{is_enter}
use Rattle.pd_run.specs.declared.report.Report.{Report}
use Rattle.pd_run.specs.Run.{events_of}
use Rattle.pd_steady.specs.Steady.{about, is_steady}
use Rattle.pd_coverage.specs.declared.Covered.{Covered}
use Rattle.pd_coverage.specs.declared.Coverage.{Coverage}
use Rattle.pd_coverage.specs.Coverage.{coverage_of}

-- whether the plan has an observer of this number
abbrev pub watches : Plan → ℕ → Bool
watches plan b = has_binding plan b is_observer

-- the log of the binding in a context
abbrev pub log_in : ℕ → ContextRecord → List Entry
log_in b r = slice_index_or r.logs b []

-- the coverage of a report by the logs of the binding
abbrev pub coverage_from : Plan → Program → Report → ℕ → Coverage
coverage_from plan p r b = coverage_of p (length plan.sources) (about plan p b) (map (log_in b) r.contexts)

-- ---- what a context entered

-- whether the events have an Enter of the node
abbrev pub is_entered : List Told → ℕ → Bool
is_entered events n = list_any (λ t. is_enter t.event.kind && (t.event.node == n)) events

-- what was hit are exactly those of the nodes that these events enter
abbrev pub IsEntered : List Told → Covered → Type 0
IsEntered events x = x.hit ≡ filter (is_entered events) x.nodes

-- so it is in each context from number c on, where the events are those of the program's meaning
abbrev pub AreEntered : Plan → Program → ℕ → List ContextRecord → List (List Covered) → Type 0
AreEntered plan p c [] [] = Unit {0}
AreEntered plan p c (r ∷ rs) (xs ∷ rest) = AllByRecursion (IsEntered (events_of plan p c r)) xs × AreEntered plan p (suc c) rs rest
AreEntered plan p c _ _ = ⊥

-- ---- coverage

-- the coverage of a report; where the binding is steady, what was hit is exactly what the meaning enters
pub record IsCoverage (plan : Plan) (p : Program) (r : Report) (b : ℕ) (x : Coverage) : Type 0 where
  pub counted : x ≡ coverage_from plan p r b
  pub entered : is_steady plan b ≡ true → AreEntered plan p 0 r.contexts x.contexts
