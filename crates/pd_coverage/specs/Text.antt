-- Definition, which public contracts cite.
-- The text of a coverage.
use Rattle.std.specs.Prelude.{ℕ, List, [], ◌∷◌, ◌++◌, length, flat_map, slice_get, codes}
use Rattle.std.specs.Fmt.{decimal}
use Rattle.pd_tree.specs.Program.{Program}
use Rattle.pd_plan.specs.declared.plan.Plan.{Plan}
use Rattle.pd_report.specs.Lines.{numbered}
use Rattle.pd_report.specs.Transcript.{source_name}
use Rattle.pd_coverage.specs.declared.Covered.{Covered}
use Rattle.pd_coverage.specs.declared.Coverage.{Coverage}
use Rattle.pd_coverage.specs.Lines.{lines_of, covered_lines, missed_lines}

-- a number behind a space
abbrev pub number_text : ℕ → List ℕ
number_text n = codes " " ++ decimal n

-- the line of the lines that aren't covered, where there are any
abbrev pub missed_text : List ℕ → List ℕ
missed_text [] = []
missed_text (line ∷ lines) = codes "  missed" ++ flat_map number_text (line ∷ lines) ++ codes "\n"

-- so many of so many
abbrev pub share_text : ℕ → ℕ → List ℕ
share_text part whole = decimal part ++ codes "/" ++ decimal whole

-- the beginning of a source's line; `who` is the number of the context, or `all`
abbrev pub source_head : Plan → List ℕ → ℕ → List ℕ
source_head plan who source =
    codes "coverage " ++ who ++ codes " source " ++ decimal source ++ codes " " ++ source_name (slice_get plan.sources source) ++ codes " statements "

-- of one source
abbrev pub source_text : Plan → Program → List ℕ → Covered → List ℕ
source_text plan p who x =
    source_head plan who x.source ++ share_text (length x.hit) (length x.nodes)
    ++ codes " lines " ++ share_text (length (covered_lines p x)) (length (lines_of p x.nodes)) ++ codes "\n"
    ++ missed_text (missed_lines p x)

-- of each source
abbrev pub sources_text : Plan → Program → List ℕ → List Covered → List ℕ
sources_text plan p who xs = flat_map (source_text plan p who) xs

-- of each context and source, and then of each source over all contexts
abbrev pub coverage_text : Plan → Program → Coverage → List ℕ
coverage_text plan p x = numbered (λ context. sources_text plan p (decimal context)) 0 x.contexts ++ sources_text plan p (codes "all") x.all
