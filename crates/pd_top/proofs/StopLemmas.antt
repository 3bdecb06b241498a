-- Why a command has no plan and sources, from what stops its steps.
use Rattle.std.proofs.Common.{◌≡◌, ◌+◌, ◌<◌, ◌≤◌, ◌∙◌, ℕ, List, take, length, get_or, ap, sym, subst, arith, inl, inr, Option, None, Some, Result}
use Rattle.std.specs.Prelude.{IfErr}
use Rattle.std.proofs.lemmas.Result.{IfErr-weaker}
use Rattle.std.specs.List.{AllByRecursion}
use Rattle.pd_sections.specs.declared.Stop.{Stop}
use Rattle.pd_sections.specs.declared.Stop.TheVariants as loading
use Rattle.pd_sections.specs.Written.{Written}
use Rattle.pd_plan.specs.declared.plan.SourceSpec.{SourceSpec}
use Rattle.pd_plan.specs.declared.plan.Plan.{Plan}
use Rattle.pd_load.specs.declared.refusal.LoadRefusal.{LoadRefusal}
use Rattle.pd_load.specs.Tables.{IsText}
use Rattle.pd_words.specs.declared.asked.Command.{Command}
use Rattle.pd_top.specs.declared.outcome.Outcome.{Outcome}
use Rattle.pd_top.specs.declared.outcome.Outcome.TheVariants.{Unreadable, TooLong, PlanRefused, SourceRefused, Memory}
use Rattle.pd_top.specs.Files.{Files, IsFault, IsLong, AreSources, IsReachedAmong}
use Rattle.pd_top.specs.Causes.{plan_file, IsFitPlan, made_sources, read_among, AreGiven, IsNotText}
use Rattle.pd_top.specs.Stops.{StopsFetch, StopsPlan, StopsSources, StopsGiving, StopsSource, StopsTexts, StopsAccepting}
use Rattle.pd_top.proofs.GivenLemmas.{Within, long_within, sources_within, among_within}
use Rattle.pd_top.proofs.FileLemmas.{reached_next}
use Rattle.pd_top.proofs.SourceLemmas.{not_text_at}

-- a later fault is a fault of the whole call
fault_since : (before mid after : ℕ) (last : Option (List ℕ)) (file : List ℕ) → before ≤ mid → IsFault mid after last file → IsFault before after last file
fault_since before mid after last file earlier fault = record { risen = omega (arith, earlier, fault.risen); at_file = fault.at_file }

-- a source's file that isn't read, behind those that are
pub fetch_stops : (files : Files) (ss : List SourceSpec) (ws : List Written) (i : ℕ) (s : SourceSpec) (before mid after : ℕ) (last : Option (List ℕ)) (outcome : Outcome)
    → before ≤ mid → AreSources files (take i ss) ws → i < length ss → s ≡ get_or ss i s → StopsFetch files s.name mid after last outcome
    → StopsSources files ss before after last outcome
fetch_stops files ss ws i s before mid after last (Unreadable name) earlier are within there stops = (
  reached_next files ss ws i s name are within there stops.0,
  subst (IsFault before after last) (sym stops.0) (fault_since before mid after last s.name earlier stops.1),
)
fetch_stops files ss ws i s before mid after last (TooLong name) earlier are within there stops =
    (reached_next files ss ws i s name are within there stops.0, subst (IsLong files) (sym stops.0) stops.1)
fetch_stops files ss ws i s before mid after last Memory earlier are within there stops = tt
fetch_stops files ss ws i s before mid after last outcome earlier are within there stops = absurd stops

-- what stops a fetch that is a part of a call
pub fetch_within : (P Q : Files) → Within P Q → (file : List ℕ) (before after : ℕ) (last : Option (List ℕ)) (outcome : Outcome) → StopsFetch P file before after last outcome
    → StopsFetch Q file before after last outcome
fetch_within P Q within file before after last (Unreadable name) stops = stops
fetch_within P Q within file before after last (TooLong name) stops = (stops.0, long_within P Q within file stops.1)
fetch_within P Q within file before after last Memory stops = tt
fetch_within P Q within file before after last outcome stops = absurd stops

-- what stops the giving of the sources, which is a part of a call
pub giving_within : (P Q : Files) → Within P Q → (made : Option (List Written)) (ss : List SourceSpec) (before after : ℕ) (last : Option (List ℕ)) (outcome : Outcome)
    → StopsGiving P made ss before after last outcome → StopsGiving Q made ss before after last outcome
giving_within P Q within (Some ws) ss before after last outcome stops = absurd stops
giving_within P Q within None ss before after last (Unreadable name) stops = (among_within P Q within ss name stops.0, stops.1)
giving_within P Q within None ss before after last (TooLong name) stops = (among_within P Q within ss name stops.0, long_within P Q within name stops.1)
giving_within P Q within None ss before after last (SourceRefused refusal) stops = (stops.0, sources_within P Q within ss stops.0 stops.1, stops.2)
giving_within P Q within None ss before after last Memory stops = tt
giving_within P Q within None ss before after last outcome stops = absurd stops

-- the plan's file is the first of a command
pub plan_stops : (files : Files) (command : Command) (file : List ℕ) (before after : ℕ) (last : Option (List ℕ)) (outcome : Outcome) → plan_file command ≡ Some file
    → StopsPlan files file before after last outcome → StopsAccepting files command before after last outcome
plan_stops files command file before after last (Unreadable name) is stops =
    (inl (is ∙ ap Some (sym stops.0)), subst (IsFault before after last) (sym stops.0) stops.1)
plan_stops files command file before after last (TooLong name) is stops = (inl (is ∙ ap Some (sym stops.0)), subst (IsLong files) (sym stops.0) stops.1)
plan_stops files command file before after last (PlanRefused refusal) is stops = (file, is, stops)
plan_stops files command file before after last Memory is stops = tt
plan_stops files command file before after last outcome is stops = absurd stops

-- the same of a plan that is read, or of what stops its reading
pub planned_stops : {A : Type 0} (files : Files) (command : Command) (file name : List ℕ) (before after : ℕ) (last : Option (List ℕ)) (result : Result A Outcome)
    → plan_file command ≡ Some file → name ≡ file → IfErr result (StopsPlan files name before after last) → IfErr result (StopsAccepting files command before after last)
planned_stops files command file name before after last result is same stopped =
    IfErr-weaker result (StopsPlan files name before after last) (StopsAccepting files command before after last)
    (λ outcome stops. plan_stops files command name before after last outcome (is ∙ ap Some (sym same)) stops) stopped

-- the files of the sources come behind the plan
pub giving_stops : (files : Files) (command : Command) (plan : Plan) (made : Option (List Written)) (before mid after : ℕ) (last : Option (List ℕ)) (outcome : Outcome)
    → before ≤ mid → IsFitPlan files command plan → made ≡ made_sources command → StopsGiving files made plan.sources mid after last outcome
    → StopsAccepting files command before after last outcome
giving_stops files command plan (Some ws) before mid after last outcome earlier is same stops = absurd stops
giving_stops files command plan None before mid after last (Unreadable name) earlier is same stops =
    (inr (plan, is, subst (λ made. IsReachedAmong files (read_among made plan.sources) name) same stops.0), fault_since before mid after last name earlier stops.1)
giving_stops files command plan None before mid after last (TooLong name) earlier is same stops =
    (inr (plan, is, subst (λ made. IsReachedAmong files (read_among made plan.sources) name) same stops.0), stops.1)
giving_stops files command plan None before mid after last (SourceRefused refusal) earlier is same stops =
    (plan, stops.0, is, subst (λ made. AreGiven files made plan.sources stops.0) same stops.1, inl stops.2)
giving_stops files command plan None before mid after last Memory earlier is same stops = tt
giving_stops files command plan None before mid after last outcome earlier is same stops = absurd stops

-- the source behind those that are UTF-8 isn't made
pub source_stops : (all ws : List Written) (w : Written) (stop : Stop LoadRefusal) → ws ≡ take (length ws) all → length ws < length all
    → w ≡ get_or all (length ws) w → AllByRecursion IsText ws → StopsSource (length ws) w stop → StopsTexts all stop
source_stops all ws w (loading.Refused refusal) front within there texts stops =
    let same : length ws ≡ 0 + length ws = omega arith in
    not_text_at 0 all ws w refusal front within there texts (subst (λ n. IsNotText n w refusal) same stops)
source_stops all ws w loading.Memory front within there texts stops = tt
