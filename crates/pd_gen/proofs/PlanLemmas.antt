-- The plan of the workload, its soundness, and its sources.
use Rattle.std.proofs.Common.{◌≡◌, ℕ, List, [], ◌∷◌, length, codes, refl, sym, subst, rules}
use Rattle.std.specs.List.{AllByRecursion}
use Rattle.std.specs.Str.{IsUtf8}
use Rattle.pd_values.specs.declared.value.Tag.TheVariants.{Root, Statement}
use Rattle.pd_sections.specs.Written.{Written}
use Rattle.pd_plan.specs.declared.plan.Language.TheVariants.{Sl, Pl0}
use Rattle.pd_plan.specs.declared.plan.SourceSpec.{SourceSpec}
use Rattle.pd_plan.specs.declared.plan.ExportSpec.{ExportSpec}
use Rattle.pd_plan.specs.declared.plan.ContextSpec.{ContextSpec}
use Rattle.pd_plan.specs.declared.plan.BindingSpec.{BindingSpec}
use Rattle.pd_plan.specs.declared.plan.Script.{Script}
use Rattle.pd_plan.specs.Sound.{IsSound}
use Rattle.pd_gen.specs.Workload.{run_of_main, observer_of, workload_plan, sl_source, pl0_source, workload_sources}

-- a plan of its lists
pub plan_is : (sources : List SourceSpec) (exports : List ExportSpec) (contexts : List ContextSpec) (bindings : List BindingSpec) (sessions : List Script)
    → sources ≡ record { name = codes "gen.sl"; language = Sl } ∷ record { name = codes "gen.pl0"; language = Pl0 } ∷ []
    → exports ≡ record { name = codes "pass"; source = 1; item = codes "pass" } ∷ []
    → contexts ≡ run_of_main ∷ run_of_main ∷ run_of_main ∷ run_of_main ∷ []
    → bindings ≡ observer_of Root ∷ observer_of Statement ∷ []
    → sessions ≡ record { before = 0 ∷ 1 ∷ []; actions = []; answers = [] } ∷ []
    → record { sources = sources; exports = exports; contexts = contexts; bindings = bindings; sessions = sessions } ≡ workload_plan
unfolding workload_plan
plan_is sources exports contexts bindings sessions a b c d e =
    λ i. record { sources = a i; exports = b i; contexts = c i; bindings = d i; sessions = e i }

-- it is sound
pub plan_sound : IsSound workload_plan
unfolding workload_plan
plan_sound = search rules

-- the sources
pub sources_are : (number : ℕ) (first second : Written) → first ≡ sl_source number → second ≡ pl0_source → first ∷ second ∷ [] ≡ workload_sources number
unfolding workload_sources
sources_are number first second a b = λ i. a i ∷ b i ∷ []

-- one for each of the plan's
pub one_each : (number : ℕ) → length (workload_sources number) ≡ length workload_plan.sources
unfolding workload_plan workload_sources
one_each number = refl

-- they are UTF-8, if each is
pub texts_of : (sources : List Written) (first second : Written) → sources ≡ first ∷ second ∷ [] → IsUtf8 first.bytes → IsUtf8 second.bytes
    → AllByRecursion (λ source. IsUtf8 source.bytes) sources
texts_of sources first second are one two =
    let P : List Written → Type 0 = AllByRecursion (λ source. IsUtf8 source.bytes) in subst P (sym are) (one, (two, tt))
