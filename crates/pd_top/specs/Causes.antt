-- Definition: what the files of a command say: the one cause of its answer, where no call of the outside fails.
use Rattle.std.specs.Prelude.{◌≡◌, ◌+◌, ◌⊎◌, ℕ, if◌then◌else◌, List, [], ◌∷◌, Option, Some, None, Ok, Err}
use Rattle.std.specs.List.{AllByRecursion}
use Rattle.std.specs.Str.{IsUtf8, IsValidUpTo}
use Rattle.pd_sections.specs.Written.{Written}
use Rattle.pd_plan.specs.declared.plan.SourceSpec.{SourceSpec}
use Rattle.pd_plan.specs.declared.plan.Plan.{Plan}
use Rattle.pd_plan.specs.declared.refusal.PlanRefusal.{PlanRefusal}
use Rattle.pd_plan_json.specs.Reading.{Read}
use Rattle.pd_plan_json.specs.Whole.{plan_at}
use Rattle.pd_tree.specs.Program.{Program}
use Rattle.pd_load.specs.declared.refusal.LoadRefusal.{LoadRefusal}
use Rattle.pd_load.specs.declared.refusal.LoadCause.TheVariants.{NotUtf8}
use Rattle.pd_load.specs.Tables.{IsText}
use Rattle.pd_load.specs.Loading.{IsLoaded, IsRefused}
use Rattle.pd_gen.specs.Workload.{workload_plan, workload_sources}
use Rattle.pd_coverage.specs.Report.{watches}
use Rattle.pd_calltree.specs.Suits.{is_for_tree}
use Rattle.pd_words.specs.declared.asked.Command.{Command}
use Rattle.pd_words.specs.declared.asked.Command.TheVariants.{Trace, Run, Check, Gen, Coverage, CallTree}
use Rattle.pd_words.specs.Fuel.{with_fuel}
use Rattle.pd_top.specs.Plans.{trace_plan}
use Rattle.pd_top.specs.Files.{Files, IsShort, IsLong, AreSources, IsReachedAmong}

-- ---- the plan

-- the file of the plan; `trace` and `gen` have none
abbrev pub plan_file : Command → Option (List ℕ)
plan_file (Trace file) = None
plan_file (Run words) = Some words.plan
plan_file (Check file) = Some file
plan_file (Gen number) = None
plan_file (Coverage words) = Some words.plan
plan_file (CallTree words) = Some words.plan

-- what the bytes of the plan's file are: a plan, or the first broken rule
pub record IsPlanRead (files : Files) (file : List ℕ) (read : Read Plan) : Type 0 where
  pub bytes : List ℕ
  pub short : IsShort files file bytes
  pub read_is : plan_at bytes ≡ read

-- the plan in a file, with the fuel that is asked for
abbrev pub IsPlanIn : Files → List ℕ → Option ℕ → Plan → Type 0
IsPlanIn files file fuel plan = (read : Plan) × IsPlanRead files file (Ok read) × (plan ≡ with_fuel fuel read)

-- the plan that the command is about
abbrev pub IsPlanOf : Files → Command → Plan → Type 0
IsPlanOf files (Trace file) plan = plan ≡ trace_plan file
IsPlanOf files (Run words) plan = IsPlanIn files words.plan words.fuel plan
IsPlanOf files (Check file) plan = IsPlanIn files file None plan
IsPlanOf files (Gen number) plan = plan ≡ workload_plan
IsPlanOf files (Coverage words) plan = IsPlanIn files words.plan words.fuel plan
IsPlanOf files (CallTree words) plan = IsPlanIn files words.plan words.fuel plan

-- the binding that a command asks for, where it isn't one as the command needs: `coverage` needs an observer, `calltree` an
-- observer of all functions and procedures that stays attached and enabled
abbrev pub unfit_binding : Command → Plan → Option ℕ
unfit_binding (Coverage words) plan = if watches plan words.binding then None else Some words.binding
unfit_binding (CallTree words) plan = if is_for_tree plan words.binding then None else Some words.binding
unfit_binding command plan = None

-- the plan that the command is about, with the binding that it needs
abbrev pub IsFitPlan : Files → Command → Plan → Type 0
IsFitPlan files command plan = IsPlanOf files command plan × (unfit_binding command plan ≡ None)

-- ---- the sources

-- the sources that a command makes itself; all others read theirs
abbrev pub made_sources : Command → Option (List Written)
made_sources (Gen number) = Some (workload_sources number)
made_sources command = None

-- those of a plan's sources whose files are read: none where the sources are made
abbrev pub read_among : Option (List Written) → List SourceSpec → List SourceSpec
read_among (Some made) specs = []
read_among None specs = specs

-- these are the plan's sources, made or read
abbrev pub AreGiven : Files → Option (List Written) → List SourceSpec → List Written → Type 0
AreGiven files (Some made) specs sources = sources ≡ made
AreGiven files None specs sources = AreSources files specs sources

-- ---- the files in their order: that of the plan, then the sources of the plan

-- the command comes to read this file: all before it are short enough, and the bytes of the plan's file are a plan with the
-- binding that the command needs
abbrev pub IsReached : Files → Command → List ℕ → Type 0
IsReached files command file =
    (plan_file command ≡ Some file)
    ⊎ ((plan : Plan) × IsFitPlan files command plan × IsReachedAmong files (read_among (made_sources command) plan.sources) file)

-- ---- what is refused in the sources, all of which are there

-- the source of this number isn't UTF-8; the place is the length of its longest prefix that is
abbrev pub IsNotText : ℕ → Written → LoadRefusal → Type 0
IsNotText number w refusal = (at : ℕ) × IsValidUpTo w.bytes at × (refusal ≡ record { source = number; cause = NotUtf8 at })

-- the first such source, from this number on
abbrev pub IsFirstNotText : ℕ → List Written → LoadRefusal → Type 0
IsFirstNotText number [] refusal = ⊥
IsFirstNotText number (w ∷ ws) refusal = IsNotText number w refusal ⊎ (IsUtf8 w.bytes × IsFirstNotText (number + 1) ws refusal)

-- the first refusal: a source that isn't UTF-8, or what loading refuses
abbrev pub IsFirstRefusal : Plan → List Written → LoadRefusal → Type 0
IsFirstRefusal plan sources refusal =
    IsFirstNotText 0 sources refusal ⊎ (AllByRecursion IsText sources × IsRefused plan sources refusal)

-- ---- the cause

-- what the files of a command come to: a file is too long, the plan is refused or lacks the binding that the command needs, a source
-- is refused, or plan and program are accepted
pub data Cause : Type 0 where
  too_long : List ℕ → Cause
  plan_refused : PlanRefusal → Cause
  no_observer : ℕ → Cause
  source_refused : LoadRefusal → Cause
  accepted : Plan → Program → Cause

-- at most one of these for each command and each content of the files, where those that the command comes to are held
abbrev pub IsCause : Files → Command → Cause → Type 0
IsCause files command (too_long file) = IsReached files command file × IsLong files file
IsCause files command (plan_refused refusal) =
    (file : List ℕ) × (plan_file command ≡ Some file) × IsPlanRead files file (Err refusal)
IsCause files command (no_observer binding) = (plan : Plan) × IsPlanOf files command plan × (unfit_binding command plan ≡ Some binding)
IsCause files command (source_refused refusal) =
    (plan : Plan) × (sources : List Written)
    × IsFitPlan files command plan × AreGiven files (made_sources command) plan.sources sources × IsFirstRefusal plan sources refusal
IsCause files command (accepted plan program) =
    (sources : List Written)
    × IsFitPlan files command plan × AreGiven files (made_sources command) plan.sources sources
    × AllByRecursion IsText sources × IsLoaded plan sources program
