-- Definition, which public contracts cite.
-- The lines on which statements start, and those of them that are covered.
use Rattle.std.specs.Prelude.{ℕ, suc, ◌==◌, Bool, not, List, [], ◌∷◌, max, filter}
use Rattle.std.specs.List.{list_any, range_with_len}
use Rattle.pd_tree.specs.Program.{Program, node_at}
use Rattle.pd_coverage.specs.declared.Covered.{Covered}

-- whether node n starts on the line
abbrev pub is_on : Program → ℕ → ℕ → Bool
is_on p line n = (node_at p n).line == line

-- whether one of these nodes does
abbrev pub is_line_of : Program → List ℕ → ℕ → Bool
is_line_of p nodes line = list_any (is_on p line) nodes

-- the greatest line on which one of these nodes starts
abbrev pub last_line : Program → List ℕ → ℕ
last_line p [] = 0
last_line p (n ∷ ns) = max (node_at p n).line (last_line p ns)

-- the lines on which these nodes start, rising
abbrev pub lines_of : Program → List ℕ → List ℕ
lines_of p nodes = filter (is_line_of p nodes) (range_with_len 0 (suc (last_line p nodes)))

-- those of the lines of a source's statements that are covered: on which one starts that was hit
abbrev pub covered_lines : Program → Covered → List ℕ
covered_lines p x = filter (is_line_of p x.hit) (lines_of p x.nodes)

-- the others
abbrev pub missed_lines : Program → Covered → List ℕ
missed_lines p x = filter (λ line. not (is_line_of p x.hit line)) (lines_of p x.nodes)
