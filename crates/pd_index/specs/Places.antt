-- Twin: places of nodes in order.
use Rattle.std.specs.Prelude.{ℕ, ◌^◌, ◌-◌, Bool, not, ◌&&◌}
use Rattle.std.specs.declared.cmp.Ordering.{Ordering}
use Rattle.std.specs.Ordering.{is_lt, is_le, nat_cmp, ordering_then}
use Rattle.pd_tree.specs.Program.{Program, node_at}
use Rattle.pd_filter.specs.Matching.{is_empty}
use Rattle.pd_index.specs.declared.lines.Place.{Place}

abbrev pub node_of : Place → ℕ
node_of place = place.node

abbrev pub source_of : Place → ℕ
source_of place = place.source

-- where node n stands
abbrev pub place_of : Program → ℕ → Place
place_of p n = record { source = (node_at p n).source; line = (node_at p n).line; node = n }

-- whether node n has a tag
abbrev pub is_tagged : Program → ℕ → Bool
is_tagged p n = not (is_empty (node_at p n).tags)

-- places are in order of their sources, then of their lines, then of their nodes
abbrev pub place_cmp : Place → Place → Ordering
place_cmp x y = ordering_then (nat_cmp x.source y.source) (ordering_then (nat_cmp x.line y.line) (nat_cmp x.node y.node))

abbrev pub comes_before : Place → Place → Bool
comes_before x y = is_lt (place_cmp x y)

-- the first place that line `line` of a source can have, and the last
abbrev pub first_on : ℕ → ℕ → Place
first_on source line = record { source = source; line = line; node = 0 }

abbrev pub last_on : ℕ → ℕ → Place
last_on source line = record { source = source; line = line; node = 2 ^ 32 - 1 }

-- whether a place is on one of these lines of this source
abbrev pub is_within : ℕ → ℕ → ℕ → Place → Bool
is_within source first last place = not (is_lt (place_cmp place (first_on source first))) && is_le (place_cmp place (last_on source last))
