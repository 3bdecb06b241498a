-- Definition: what is told of the run of a workload, and its text.
use Rattle.std.specs.Prelude.{ℕ, Bool, true, false, List, [], ◌∷◌, ◌++◌, length, map, None, unwrap_or, codes}
use Rattle.std.specs.List.{concat, count_by, sum_by, last_or}
use Rattle.std.specs.Fmt.{decimal}
use Rattle.pd_values.specs.declared.value.End.{End}
use Rattle.pd_values.specs.declared.value.End.TheVariants.{Done}
use Rattle.pd_suspend.specs.declared.context.ContextRecord.{ContextRecord}
use Rattle.pd_run.specs.declared.report.Report.{Report}
use Rattle.pd_report.specs.Lines.{lines_of, numbered}
use Rattle.pd_gen.specs.declared.told.Summary.{Summary}

-- whether a context ended with a value
abbrev pub is_done : End → Bool
is_done (Done value) = true
is_done _ = false

-- what the first context wrote
abbrev pub first_output : List ContextRecord → List ℕ
first_output [] = []
first_output (context ∷ contexts) = context.output

-- the last line of an output, without its end; empty where there is none
abbrev pub last_line : List ℕ → List ℕ
last_line output = unwrap_or (last_or None (lines_of output)) []

-- what is told of a report: how many contexts there are and how many ended with a value, all their events, the count of each binding, and
-- the last line of the first context
unfoldable pub summary_of : ℕ → Report → Summary
summary_of number r = record {
  number = number;
  contexts = length r.contexts;
  done = count_by (λ context. is_done context.«end») r.contexts;
  events = sum_by (λ context. context.events) r.contexts;
  counts = map (λ tally. tally.count) r.tally.bindings;
  last = last_line (first_output r.contexts);
}

-- ---- the text

-- the lines of the number, the contexts and the events
unfoldable pub first_lines : Summary → List ℕ
first_lines s = concat (
    codes "gen " ∷ decimal s.number ∷ codes "\ncontexts " ∷ decimal s.contexts ∷ codes " done " ∷ decimal s.done
    ∷ codes "\nevents " ∷ decimal s.events ∷ codes "\n" ∷ [])

-- the line of a binding's count
abbrev pub count_line : ℕ → ℕ → List ℕ
count_line number count = concat (codes "binding " ∷ decimal number ∷ codes " count " ∷ decimal count ∷ codes "\n" ∷ [])

-- the line of the last line of the first context
unfoldable pub end_line : List ℕ → List ℕ
end_line last = concat (codes "last " ∷ last ∷ codes "\n" ∷ [])

-- the whole text
unfoldable pub summary_text : Summary → List ℕ
summary_text s = first_lines s ++ numbered count_line 0 s.counts ++ end_line s.last
