-- Definition: the plan that `trace` runs.
use Rattle.std.specs.Prelude.{ℕ, Bool, if◌then◌else◌, nat_eq, List, [], ◌∷◌, codes}
use Rattle.std.specs.List.{ends_with}
use Rattle.pd_values.specs.declared.value.Tag.TheVariants.{Statement}
use Rattle.pd_plan.specs.declared.plan.Language.{Language}
use Rattle.pd_plan.specs.declared.plan.Language.TheVariants.{Sl, Pl0}
use Rattle.pd_plan.specs.declared.plan.Filter.{Filter}
use Rattle.pd_plan.specs.declared.plan.BindingSpec.TheVariants.{Observe}
use Rattle.pd_plan.specs.declared.plan.Plan.{Plan}

-- the fuel of a context
abbrev pub default_fuel : ℕ
default_fuel = 1000000

-- all nodes with the tag Statement
abbrev pub statements : Filter
statements = record { tags = Statement ∷ []; not_tags = []; sources = []; lines = []; roots = [] }

-- the name of a PL/0 source
abbrev pub is_pl0_name : List ℕ → Bool
is_pl0_name name = ends_with nat_eq name (codes ".pl0")

-- the language of a source, by the end of its name
abbrev pub language_of : List ℕ → Language
language_of name = if is_pl0_name name then Pl0 else Sl

-- the one source of this name, one context at its `main`, and one observer of statements that the one session attaches before the run
abbrev pub trace_plan : List ℕ → Plan
trace_plan name = record {
  sources = record { name = name; language = language_of name } ∷ [];
  exports = [];
  contexts = record { source = 0; entry = codes "main"; fuel = default_fuel } ∷ [];
  bindings = Observe statements ∷ [];
  sessions = record { before = 0 ∷ []; actions = []; answers = [] } ∷ [];
}
