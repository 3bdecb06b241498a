-- Definition: the nodes of a tag, and those of a line.
use Rattle.std.specs.Prelude.{ℕ, Bool, not, ◌&&◌, ◌==◌, List, filter}
use Rattle.pd_values.specs.declared.value.Tag.{Tag}
use Rattle.pd_tree.specs.Program.{Program, node_at, has_tag}
use Rattle.pd_filter.specs.Matching.{is_empty}
use Rattle.pd_break.specs.Resolving.{all_nodes}

-- whether node n has this tag
abbrev pub bears : Program → Tag → ℕ → Bool
bears p tag n = has_tag (node_at p n).tags tag

-- all nodes with this tag, rising
abbrev pub tagged : Program → Tag → List ℕ
tagged p tag = filter (bears p tag) (all_nodes p)

-- whether node n has a tag, and its section starts on this line of this source
abbrev pub stands_on : Program → ℕ → ℕ → ℕ → Bool
stands_on p source line n = not (is_empty (node_at p n).tags) && ((node_at p n).source == source) && ((node_at p n).line == line)

-- all nodes with a tag whose section starts on this line of this source, rising
abbrev pub on_line : Program → ℕ → ℕ → List ℕ
on_line p source line = filter (stands_on p source line) (all_nodes p)
