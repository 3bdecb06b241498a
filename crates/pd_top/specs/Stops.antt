-- For the code's proofs: no public contract needs it.
-- What stops the steps of a command before it writes. Memory may run out in each: then it stops with `Memory`.
use Rattle.std.specs.Prelude.{◌≡◌, ℕ, List, length, Option, Some, None, Err}
use Rattle.std.specs.List.{AllByRecursion}
use Rattle.pd_sections.specs.declared.Stop.{Stop}
use Rattle.pd_sections.specs.declared.Stop.TheVariants as loading
use Rattle.pd_sections.specs.Written.{Written}
use Rattle.pd_plan.specs.declared.plan.SourceSpec.{SourceSpec}
use Rattle.pd_plan.specs.declared.plan.Plan.{Plan}
use Rattle.pd_load.specs.declared.refusal.LoadRefusal.{LoadRefusal}
use Rattle.pd_load.specs.Tables.{IsText}
use Rattle.pd_words.specs.declared.asked.Command.{Command}
use Rattle.pd_words.specs.Words.{command_of}
use Rattle.pd_top.specs.declared.outcome.Outcome.{Outcome}
use Rattle.pd_top.specs.declared.outcome.Outcome.TheVariants.{Usage, Unreadable, TooLong, PlanRefused, NoObserver, SourceRefused, Memory}
use Rattle.pd_top.specs.Files.{Files, IsFault, IsLong, AreSources, IsReachedAmong}
use Rattle.pd_top.specs.Causes.{IsPlanRead, IsReached, IsNotText, IsFirstNotText, IsCause, too_long, plan_refused, no_observer, source_refused}

-- ---- words

-- what stops the reading of the words
abbrev pub StopsWords : List (List ℕ) → Outcome → Type 0
StopsWords words (Usage fault) = command_of words ≡ Err fault
StopsWords words Memory = Unit {0}
StopsWords words _ = ⊥

-- ---- files; the library had so many faults before, has so many after, and this is the last one's name

-- what stops the fetch of a file; `before`, `after` and `last` are the library's count of faults and its last fault
abbrev pub StopsFetch : Files → List ℕ → ℕ → ℕ → Option (List ℕ) → Outcome → Type 0
StopsFetch files file before after last (Unreadable name) = (name ≡ file) × IsFault before after last file
StopsFetch files file before after last (TooLong name) = (name ≡ file) × IsLong files file
StopsFetch files file before after last Memory = Unit {0}
StopsFetch files file before after last _ = ⊥

-- what stops the fetch of the sources, one after another
abbrev pub StopsSources : Files → List SourceSpec → ℕ → ℕ → Option (List ℕ) → Outcome → Type 0
StopsSources files sources before after last (Unreadable name) = IsReachedAmong files sources name × IsFault before after last name
StopsSources files sources before after last (TooLong name) = IsReachedAmong files sources name × IsLong files name
StopsSources files sources before after last Memory = Unit {0}
StopsSources files sources before after last _ = ⊥

-- what stops the fetch of the sources and their reading as texts
abbrev pub StopsReading : Files → List SourceSpec → ℕ → ℕ → Option (List ℕ) → Outcome → Type 0
StopsReading files specs before after last (SourceRefused refusal) =
    (sources : List Written) × AreSources files specs sources × IsFirstNotText 0 sources refusal
StopsReading files specs before after last outcome = StopsSources files specs before after last outcome

-- the same for sources that are made or read: nothing stops those that are made
abbrev pub StopsGiving : Files → Option (List Written) → List SourceSpec → ℕ → ℕ → Option (List ℕ) → Outcome → Type 0
StopsGiving files (Some made) specs before after last outcome = ⊥
StopsGiving files None specs before after last outcome = StopsReading files specs before after last outcome

-- what stops the reading of the plan's file
abbrev pub StopsPlan : Files → List ℕ → ℕ → ℕ → Option (List ℕ) → Outcome → Type 0
StopsPlan files file before after last (PlanRefused refusal) = IsPlanRead files file (Err refusal)
StopsPlan files file before after last outcome = StopsFetch files file before after last outcome

-- ---- sources that are made

-- they are as loading asks for: one for each of the plan's, and UTF-8
abbrev pub AreFit : Plan → Option (List Written) → Type 0
AreFit plan None = Unit {0}
AreFit plan (Some sources) = (length sources ≡ length plan.sources) × AllByRecursion IsText sources

-- ---- loading

-- what stops the making of one source
abbrev pub StopsSource : ℕ → Written → Stop LoadRefusal → Type 0
StopsSource number source (loading.Refused refusal) = IsNotText number source refusal
StopsSource number source loading.Memory = Unit {0}

-- what stops the making of the sources
abbrev pub StopsTexts : List Written → Stop LoadRefusal → Type 0
StopsTexts sources (loading.Refused refusal) = IsFirstNotText 0 sources refusal
StopsTexts sources loading.Memory = Unit {0}

-- ---- plan and sources

-- what stops a command before there are a plan and a program
abbrev pub StopsAccepting : Files → Command → ℕ → ℕ → Option (List ℕ) → Outcome → Type 0
StopsAccepting files command before after last (Unreadable name) = IsReached files command name × IsFault before after last name
StopsAccepting files command before after last (TooLong name) = IsCause files command (too_long name)
StopsAccepting files command before after last (PlanRefused refusal) = IsCause files command (plan_refused refusal)
StopsAccepting files command before after last (NoObserver binding) = IsCause files command (no_observer binding)
StopsAccepting files command before after last (SourceRefused refusal) = IsCause files command (source_refused refusal)
StopsAccepting files command before after last Memory = Unit {0}
StopsAccepting files command before after last _ = ⊥
