-- Definition: which nodes satisfy a filter, and which nodes a binding is about.
use Rattle.std.specs.Prelude.{◌≡◌, ℕ, ◌<◌, Bool, true, false, not, ◌&&◌, ◌||◌, nat_le, ◌==◌, List, [], ◌∷◌, map, filter, length, slice_index, slice_index_or, is_none, bytes_eq}
use Rattle.std.specs.List.{list_any}
use Rattle.pd_values.specs.declared.value.Tag.{Tag}
use Rattle.pd_tree.specs.Program.{Program, Node, node_at, has_tag}
use Rattle.pd_tree.specs.Kinds.{root_name_of}
use Rattle.pd_plan.specs.declared.plan.LineRange.{LineRange}
use Rattle.pd_plan.specs.declared.plan.Filter.{Filter}
use Rattle.pd_plan.specs.declared.plan.BindingSpec.{BindingSpec}
use Rattle.pd_plan.specs.declared.plan.BindingSpec.TheVariants.{Observe, Break, Pause}
use Rattle.pd_plan.specs.declared.plan.Plan.{Plan}
use Rattle.pd_plan.specs.declared.table.MatchTable.{MatchTable}
use Rattle.pd_break.specs.declared.resolving.Resolved.{Resolved}
use Rattle.pd_break.specs.declared.resolving.Resolved.TheVariants.{Line, Unresolved}
use Rattle.pd_break.specs.Resolving.{all_nodes, is_statement, starts_on, resolved}

-- ---- filters

-- whether the list has no entry
abbrev pub is_empty : {A : Type 0} → List A → Bool
is_empty [] = true
is_empty (_ ∷ _) = false

-- one of the wanted things passes the test; an empty list is no condition
abbrev pub one_of : {A : Type 0} → List A → (A → Bool) → Bool
one_of wanted test = is_empty wanted || list_any test wanted

-- there is a tag, one of those that are wanted, and none of those that aren't
abbrev pub meets_tags : Filter → List Tag → Bool
meets_tags f tags = not (is_empty tags) && one_of f.tags (has_tag tags) && not (list_any (has_tag tags) f.not_tags)

-- both ends are included
abbrev pub is_in : ℕ → LineRange → Bool
is_in line range = nat_le range.from line && nat_le line range.to

-- the name of the function or procedure in which a node stands
abbrev pub root_name : Program → Node → List ℕ
root_name p node = root_name_of (node_at p node.root).kind

-- the node stands in one of the sources, starts on a line of one of the ranges, and its function or procedure has one of
-- the names
abbrev pub meets_place : Filter → Program → Node → Bool
meets_place f p node =
    one_of f.sources (λ source. source == node.source)
    && one_of f.lines (is_in node.line)
    && one_of f.roots (λ name. bytes_eq name (root_name p node))

-- a node satisfies a filter where it meets all of its lists
abbrev pub satisfies : Filter → Program → ℕ → Bool
satisfies f p n = meets_tags f (node_at p n).tags && meets_place f p (node_at p n)

-- ---- rows

-- a Statement node of the source that starts on the line, where there is a line
abbrev pub starts_at : Program → ℕ → Resolved → ℕ → Bool
starts_at p source Unresolved n = false
starts_at p source (Line line) n = starts_on p source line n

-- whether a binding is about a node: an observer is about those that satisfy its filter, a breakpoint about the Statement
-- nodes of its source on the line to which its own is resolved, a pause about every Statement node
abbrev pub is_about : Program → BindingSpec → ℕ → Bool
is_about p (Observe f) n = satisfies f p n
is_about p (Break b) n = starts_at p b.source (resolved p b.source b.line) n
is_about p (Pause session) n = is_statement p n

-- the line on which a breakpoint stops, where it has one; nothing else has one
abbrev pub stop_line : Program → BindingSpec → Resolved
stop_line p (Observe f) = Unresolved
stop_line p (Break b) = resolved p b.source b.line
stop_line p (Pause session) = Unresolved

-- the nodes that a binding is about, rising
abbrev pub row_of : Program → BindingSpec → List ℕ
row_of p b = filter (is_about p b) (all_nodes p)

-- whether no condition stands between a binding's node and its delivery
abbrev pub is_always_drawn : BindingSpec → Bool
is_always_drawn (Observe f) = true
is_always_drawn (Break b) = is_none b.condition
is_always_drawn (Pause session) = true

-- for each binding the nodes that it is about, rising, and whether it is drawn at each of them
abbrev pub table_of : Plan → Program → MatchTable
table_of plan p = record { rows = map (row_of p) plan.bindings; always = map is_always_drawn plan.bindings }

-- each number is less than the next
abbrev pub Rising : List ℕ → Type 0
Rising ns = (i j : ℕ) → i < j → j < length ns → slice_index ns i < slice_index ns j

-- each number of the list is below the count
abbrev pub AllBelow : ℕ → List ℕ → Type 0
AllBelow count ns = (k : ℕ) → k < length ns → slice_index ns k < count

-- what holds of every table over so many nodes
pub record IsOver (nodes : ℕ) (t : MatchTable) : Type 0 where
  pub rising : (b : ℕ) → Rising (slice_index_or t.rows b [])
  pub within : (b : ℕ) → AllBelow nodes (slice_index_or t.rows b [])
  pub whole : length t.always ≡ length t.rows
