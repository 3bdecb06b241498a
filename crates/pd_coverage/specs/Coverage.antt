-- Definition, which public contracts cite.
-- Coverage: which statements that a binding is about were hit, by the binding's logs.
use Rattle.std.specs.Prelude.{ℕ, ◌==◌, ◌&&◌, Bool, List, map, filter}
use Rattle.std.specs.List.{list_any, range_with_len}
use Rattle.pd_tree.specs.Program.{Program, node_at}
use Rattle.pd_break.specs.Resolving.{all_nodes, is_statement}
use Rattle.pd_log.specs.declared.Entry.{Entry}
use Rattle.pd_running.specs.Running.{is_enter}
use Rattle.pd_coverage.specs.declared.Covered.{Covered}
use Rattle.pd_coverage.specs.declared.Coverage.{Coverage}

-- whether an entry is an Enter of the node
abbrev pub enters : ℕ → Entry → Bool
enters n e = is_enter e.kind && (e.node == n)

-- whether the log has an Enter of the node
abbrev pub is_hit : List Entry → ℕ → Bool
is_hit log n = list_any (enters n) log

-- whether one of the logs has
abbrev pub is_hit_in : List (List Entry) → ℕ → Bool
is_hit_in logs n = list_any (λ log. is_hit log n) logs

-- whether a node is a statement of the source, and one that a binding is about
abbrev pub is_counted : Program → (ℕ → Bool) → ℕ → ℕ → Bool
is_counted p about source n = is_statement p n && about n && ((node_at p n).source == source)

-- those of a source, rising
abbrev pub statements_of : Program → (ℕ → Bool) → ℕ → List ℕ
statements_of p about source = filter (is_counted p about source) (all_nodes p)

-- of a source, the statements that the binding is about, and those of them that were hit
abbrev pub covered_of : Program → (ℕ → Bool) → (ℕ → Bool) → ℕ → Covered
covered_of p about hit source = record { source = source; nodes = statements_of p about source; hit = filter hit (statements_of p about source) }

-- of each of so many sources
abbrev pub sources_covered : Program → ℕ → (ℕ → Bool) → (ℕ → Bool) → List Covered
sources_covered p sources about hit = map (covered_of p about hit) (range_with_len 0 sources)

-- of a program of so many sources, a binding that is about these nodes, and its log of each context
abbrev pub coverage_of : Program → ℕ → (ℕ → Bool) → List (List Entry) → Coverage
coverage_of p sources about logs = record {
  contexts = map (λ log. sources_covered p sources about (is_hit log)) logs;
  all = sources_covered p sources about (is_hit_in logs);
}
