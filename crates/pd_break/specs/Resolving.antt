-- Definition: the nodes at which a breakpoint on a line stops.
use Rattle.std.specs.Prelude.{ℕ, min, Bool, ◌&&◌, nat_le, ◌==◌, List, [], ◌∷◌, length, filter}
use Rattle.std.specs.List.{range_with_len}
use Rattle.pd_values.specs.declared.value.Tag.TheVariants.{Statement}
use Rattle.pd_tree.specs.Program.{Program, node_at, has_tag}
use Rattle.pd_break.specs.declared.resolving.Resolved.{Resolved}
use Rattle.pd_break.specs.declared.resolving.Resolved.TheVariants.{Line, Unresolved}

-- the numbers of all nodes, rising
abbrev pub all_nodes : Program → List ℕ
all_nodes p = range_with_len 0 (length p.nodes)

-- whether node n has the tag Statement
abbrev pub is_statement : Program → ℕ → Bool
is_statement p n = has_tag (node_at p n).tags Statement

-- whether a Statement node of this source starts on this line or a later one
abbrev pub starts_from : Program → ℕ → ℕ → ℕ → Bool
starts_from p source line n = is_statement p n && ((node_at p n).source == source) && nat_le line (node_at p n).line

-- whether a Statement node of this source starts on this line
abbrev pub starts_on : Program → ℕ → ℕ → ℕ → Bool
starts_on p source line n = is_statement p n && ((node_at p n).source == source) && ((node_at p n).line == line)

-- the lesser line of the two, where there may be no second
abbrev pub lesser : ℕ → Resolved → Resolved
lesser line Unresolved = Line line
lesser line (Line other) = Line (min line other)

-- the least line on which one of these nodes starts
abbrev pub least_line : Program → List ℕ → Resolved
least_line p [] = Unresolved
least_line p (n ∷ ns) = lesser (node_at p n).line (least_line p ns)

-- the line that is asked for where a Statement node of the source starts on it, else the least later line with one
abbrev pub resolved : Program → ℕ → ℕ → Resolved
resolved p source line = least_line p (filter (starts_from p source line) (all_nodes p))
