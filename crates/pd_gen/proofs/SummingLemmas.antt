-- The last line of a text, and a summary of its parts.
use Rattle.std.proofs.Common.{◌≡◌, ℕ, List, [], ◌∷◌, length, map, Some, None, refl}
use Rattle.std.specs.Prelude.{unwrap_or}
use Rattle.std.specs.List.{count_by, sum_by, last_or}
use Rattle.pd_run.specs.declared.report.Report.{Report}
use Rattle.pd_gen.specs.Summing.{is_done, first_output, last_line, summary_of}

-- where nothing is the last line so far, an empty one may be
pub from_start : (lines : List (List ℕ)) → unwrap_or (last_or (Some []) lines) [] ≡ unwrap_or (last_or None lines) []
from_start [] = refl
from_start (line ∷ lines) = refl

-- a summary of its parts
pub summary_is : (number : ℕ) (r : Report) (contexts done events : ℕ) (counts : List ℕ) (last : List ℕ)
    → contexts ≡ length r.contexts → done ≡ count_by (λ context. is_done context.«end») r.contexts → events ≡ sum_by (λ context. context.events) r.contexts
    → counts ≡ map (λ tally. tally.count) r.tally.bindings → last ≡ last_line (first_output r.contexts)
    → record { number = number; contexts = contexts; done = done; events = events; counts = counts; last = last } ≡ summary_of number r
unfolding summary_of
summary_is number r contexts done events counts last a b c d e =
    λ i. record { number = number; contexts = a i; done = b i; events = c i; counts = d i; last = e i }
