-- Definition: the workload of a number: a plan, which is the same for all numbers, and the texts of its two sources.
use Rattle.std.specs.Prelude.{ℕ, zero, suc, ◌+◌, ◌%◌, List, [], ◌∷◌, ◌++◌, codes}
use Rattle.std.specs.List.{concat}
use Rattle.std.specs.Fmt.{decimal}
use Rattle.pd_values.specs.declared.value.Tag.{Tag}
use Rattle.pd_values.specs.declared.value.Tag.TheVariants.{Root, Statement}
use Rattle.pd_sections.specs.Written.{Written}
use Rattle.pd_plan.specs.declared.plan.Language.TheVariants.{Sl, Pl0}
use Rattle.pd_plan.specs.declared.plan.ContextSpec.{ContextSpec}
use Rattle.pd_plan.specs.declared.plan.BindingSpec.{BindingSpec}
use Rattle.pd_plan.specs.declared.plan.BindingSpec.TheVariants.{Observe}
use Rattle.pd_plan.specs.declared.plan.Plan.{Plan}

-- ---- the source of SL: functions 0 to 199, each of which calls the one before it, and `main`

-- what function i adds to its argument or takes away from it: 0 to 6
abbrev pub shift : ℕ → ℕ → ℕ
shift number i = (number + i) % 7

-- the line of function 0, which adds this
unfoldable pub first_line : ℕ → List ℕ
first_line by = concat (codes "function f0(a) { return a + " ∷ decimal by ∷ codes "; }\n" ∷ [])

-- the line of function i + 1, which calls function i with its argument less or more this
unfoldable pub chain_line : ℕ → ℕ → List ℕ
chain_line i by = concat (
    codes "function f" ∷ decimal (i + 1) ∷ codes "(a) { if (a > 100) { return f" ∷ decimal i ∷ codes "(a - " ∷ decimal by
    ∷ codes "); } return f" ∷ decimal i ∷ codes "(a + " ∷ decimal by ∷ codes "); }\n" ∷ [])

-- the lines of functions 0 to n
unfoldable pub function_lines : ℕ → ℕ → List ℕ
function_lines number zero = first_line (shift number 0)
function_lines number (suc n) = function_lines number n ++ chain_line n (shift number (n + 1))

-- the line of `main`, which calls function 199 fifty times
unfoldable pub main_line : List ℕ
main_line = codes "function main() { i = 0; while (i < 50) { println(pass(f199(i))); i = i + 1; } }\n"

-- the whole text
unfoldable pub sl_text : ℕ → List ℕ
sl_text number = function_lines number 199 ++ main_line

-- ---- the source of PL/0: a procedure that gives its argument

unfoldable pub pl0_text : List ℕ
pl0_text = codes "procedure pass; var v; v := v;\n.\n"

-- ---- both

-- the sources with their names
abbrev pub sl_source : ℕ → Written
sl_source number = record { name = codes "gen.sl"; bytes = sl_text number }

abbrev pub pl0_source : Written
pl0_source = record { name = codes "gen.pl0"; bytes = pl0_text }

-- both, in the order of the plan
unfoldable pub workload_sources : ℕ → List Written
workload_sources number = sl_source number ∷ pl0_source ∷ []

-- ---- the plan

-- a run of `main`
abbrev pub run_of_main : ContextSpec
run_of_main = record { source = 0; entry = codes "main"; fuel = 1000000 }

-- the observer of all nodes with this tag
abbrev pub observer_of : Tag → BindingSpec
observer_of tag = Observe (record { tags = tag ∷ []; not_tags = []; sources = []; lines = []; roots = [] })

-- four contexts at `main`, the procedure exported to it, and two observers that the one session attaches before the run
unfoldable pub workload_plan : Plan
workload_plan = record {
  sources = record { name = codes "gen.sl"; language = Sl } ∷ record { name = codes "gen.pl0"; language = Pl0 } ∷ [];
  exports = record { name = codes "pass"; source = 1; item = codes "pass" } ∷ [];
  contexts = run_of_main ∷ run_of_main ∷ run_of_main ∷ run_of_main ∷ [];
  bindings = observer_of Root ∷ observer_of Statement ∷ [];
  sessions = record { before = 0 ∷ 1 ∷ []; actions = []; answers = [] } ∷ [];
}
