-- Twin: what an index keeps of a program.
use Rattle.std.specs.Prelude.{◌≡◌, ℕ, ◌<◌, ◌≤◌, ◌^◌, ◌-◌, flat_map, Bool, true, false, not, ◌&&◌, ◌==◌, nat_le, List, [], ◌∷◌, map, filter, length}
use Rattle.std.specs.List.{AllByRecursion, list_any}
use Rattle.pd_values.specs.declared.value.Tag.{Tag}
use Rattle.pd_values.specs.declared.value.Tag.TheVariants.{Statement, Call, Root, RootBody, Expression, ReadVariable, WriteVariable, AlwaysHalt}
use Rattle.pd_tree.specs.Program.{Program, node_at}
use Rattle.pd_plan.specs.declared.plan.LineRange.{LineRange}
use Rattle.pd_plan.specs.declared.plan.Filter.{Filter}
use Rattle.pd_break.specs.declared.resolving.Resolved.{Resolved}
use Rattle.pd_break.specs.declared.resolving.Resolved.TheVariants.{Line, Unresolved}
use Rattle.pd_filter.specs.Matching.{is_empty}
use Rattle.pd_index.specs.declared.index.NodeIndex.{NodeIndex}
use Rattle.pd_index.specs.declared.lines.Lines.{Lines}
use Rattle.pd_index.specs.Indexing.{tagged, on_line}
use Rattle.pd_index.specs.Places.{node_of, is_within}

-- each list has the nodes of its tag
pub record HasTags (p : Program) (index : NodeIndex) : Type 0 where
  pub statements : index.statements ≡ tagged p Statement
  pub calls : index.calls ≡ tagged p Call
  pub roots : index.roots ≡ tagged p Root
  pub bodies : index.bodies ≡ tagged p RootBody
  pub expressions : index.expressions ≡ tagged p Expression
  pub reads : index.reads ≡ tagged p ReadVariable
  pub writes : index.writes ≡ tagged p WriteVariable
  pub halts : index.halts ≡ tagged p AlwaysHalt

-- the list that is kept for this tag
abbrev pub list_of : NodeIndex → Tag → List ℕ
list_of index Statement = index.statements
list_of index Call = index.calls
list_of index Root = index.roots
list_of index RootBody = index.bodies
list_of index Expression = index.expressions
list_of index ReadVariable = index.reads
list_of index WriteVariable = index.writes
list_of index AlwaysHalt = index.halts

-- the nodes that are kept for these lines of this source
abbrev pub between : Lines → ℕ → ℕ → ℕ → List ℕ
between lines source first last = map node_of (filter (is_within source first last) lines.places.items)

-- the nodes that are kept for a range of lines of this source, and those for some ranges, range behind range; no range is no
-- condition
abbrev pub on_range : Lines → ℕ → LineRange → List ℕ
on_range lines source range = between lines source range.from range.to

abbrev pub of_source : Lines → List LineRange → ℕ → List ℕ
of_source lines [] source = between lines source 0 (2 ^ 32 - 1)
of_source lines (range ∷ ranges) source = flat_map (on_range lines source) (range ∷ ranges)

-- the sources that a filter names; where it names none, all that have nodes with a tag
abbrev pub sources_from : List ℕ → List ℕ → List ℕ
sources_from [] all = all
sources_from (s ∷ ss) all = s ∷ ss

abbrev pub sources_of : Filter → Lines → List ℕ
sources_of f lines = sources_from f.sources lines.sources.items

-- a number of each is never less than that of one before it
abbrev pub NeverFalls : (ℕ → ℕ) → List ℕ → Type 0
NeverFalls number [] = Unit {0}
NeverFalls number (n ∷ ns) = AllByRecursion (λ m. number n ≤ number m) ns × NeverFalls number ns

-- whether node n has a tag, and its section starts on one of these lines of this source
abbrev pub stands_within : Program → ℕ → ℕ → ℕ → ℕ → Bool
stands_within p source first last n =
    not (is_empty (node_at p n).tags) && ((node_at p n).source == source) && nat_le first (node_at p n).line && nat_le (node_at p n).line last

-- what is kept of each line is its nodes, and what is kept of several lines is theirs, line behind line
pub record HasLines (p : Program) (lines : Lines) : Type 0 where
  pub one : (source line : ℕ) → between lines source line line ≡ on_line p source line
  pub ordered : (source first last : ℕ) → NeverFalls (λ n. (node_at p n).line) (between lines source first last)
  pub whole : (source first last n : ℕ) → n < length p.nodes → stands_within p source first last n ≡ true → list_any (λ m. m == n) (between lines source first last) ≡ true
  pub within : (source first last : ℕ) → AllByRecursion (λ n. (n < length p.nodes) × (stands_within p source first last n ≡ true)) (between lines source first last)
  -- lines are 32 bits wide
  pub fit : (n : ℕ) → n < length p.nodes → (node_at p n).line < 2 ^ 32
  -- each source in which a node with a tag stands
  pub sources : (n : ℕ) → n < length p.nodes → is_empty (node_at p n).tags ≡ false → list_any (λ s. s == (node_at p n).source) lines.sources.items ≡ true

-- an index of the program
pub record IsIndexOf (p : Program) (index : NodeIndex) : Type 0 where
  pub tags : HasTags p index
  pub lines : HasLines p index.lines

-- the line of the first of these nodes
abbrev pub line_of_first : Program → List ℕ → Resolved
line_of_first p [] = Unresolved
line_of_first p (n ∷ ns) = Line (node_at p n).line
