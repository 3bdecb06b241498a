-- The part of the rule on answers and ends: what leaves it alone, and the steps on its own words.
use Rattle.std.proofs.Common.{◌≡◌, ℕ, ◌+◌, ◌≤◌, List, map, set, sym, ap, ◌∙◌, arith}
use Rattle.std.specs.Prelude.{slice_index}
use mathlib.Core.Option.{some}
use lib.ListN.{get_elem?}
use lib.Seq.{map-set}
use Rattle.atomic_table.proofs.Lists.{set_again, at_map}
use Rattle.pd_core.specs.declared.view.Talk.{Talk}
use Rattle.pd_core.specs.Layout.{Layout, front, bindings, session_at, end_at, session_word, end_word}
use Rattle.pd_core.specs.Counts.{once_below}
use Rattle.pd_core.specs.Talks.{Spoken}

-- what is mapped to the same may change
pub map_stays : {A B : Type 0} (f : A → B) (xs : List A) (i : ℕ) (v w : A) → get_elem? xs i ≡ some v → f w ≡ f v → map f (set xs i w) ≡ map f xs
map_stays f xs i v w at e = map-set f xs i w ∙ (ap (λ y. set (map f xs) i y) e ∙ set_again (map f xs) i (f v) (at_map f xs i v at))

-- the words of sessions and of ended contexts are the same
abbrev pub Behind : Layout → List ℕ → List ℕ → Type 0
Behind p ws ws' = (i : ℕ) → front p + bindings p ≤ i → slice_index ws' i ≡ slice_index ws i

pub spoken_stays : (p : Layout) (ws ws' : List ℕ) (talks : List Talk) → Behind p ws ws' → Spoken p ws talks → Spoken p ws' talks
spoken_stays p ws ws' talks h g =
    let word : (s : ℕ) → session_word p ws' s ≡ session_word p ws s = λ s. h (session_at p s) (omega arith) in
    let end : end_word p ws' ≡ end_word p ws = h (end_at p) (omega arith) in
    record {
      numbered = λ s x lt. g.numbered s x lt ∙ ap (once_below x) (sym (word s));
      added = λ s lt. g.added s lt ∙ sym (word s);
      granted = g.granted;
      ends = g.ends ∙ sym end;
      end_granted = omega (arith, g.end_granted);
      heard = λ j t e. let was = g.heard j t e in record { within = was.within; reads = λ s n lt r. omega (arith, was.reads s n lt r, word s); end_reads = λ n r. omega (arith, was.end_reads n r); few_reads = was.few_reads; few_end_reads = was.few_end_reads };
    }
