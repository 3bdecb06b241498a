-- Definition, which public contracts cite.
-- The bindings that a call tree is made of.
use Rattle.std.specs.Prelude.{ℕ, ◌&&◌, Bool, false, List, [], ◌∷◌}
use Rattle.pd_values.specs.declared.value.Tag.{Tag}
use Rattle.pd_values.specs.declared.value.Tag.TheVariants.{Root}
use Rattle.pd_tree.specs.Program.{same_tag}
use Rattle.pd_plan.specs.declared.plan.Filter.{Filter}
use Rattle.pd_plan.specs.declared.plan.BindingSpec.{BindingSpec}
use Rattle.pd_plan.specs.declared.plan.BindingSpec.TheVariants.{Observe}
use Rattle.pd_plan.specs.declared.plan.Plan.{Plan}
use Rattle.pd_filter.specs.Matching.{is_empty}
use Rattle.pd_record.specs.Logs.{has_binding}
use Rattle.pd_steady.specs.Steady.{is_steady}

-- the filter asks for tags and for nothing else
abbrev pub asks_tags_alone : Filter → Bool
asks_tags_alone f = is_empty f.not_tags && (is_empty f.sources && (is_empty f.lines && is_empty f.roots))

-- it asks for functions and procedures
abbrev pub are_roots : List Tag → Bool
are_roots (t ∷ []) = same_tag t Root
are_roots _ = false

abbrev pub observes_roots : BindingSpec → Bool
observes_roots (Observe f) = are_roots f.tags && asks_tags_alone f
observes_roots _ = false

-- a steady observer of functions and procedures, and of nothing else
abbrev pub is_for_tree : Plan → ℕ → Bool
is_for_tree plan b = is_steady plan b && has_binding plan b observes_roots
