-- Lines of one node more, and lists of one line more.
use Rattle.std.proofs.Common.{◌≡◌, ℕ, suc, ◌+◌, ◌<◌, ◌≤◌, Bool, true, false, not, cond, List, [], ◌∷◌, ◌++◌, length, max, refl, sym, ap, ◌∙◌, arith, append-nil}
use Rattle.std.specs.List.{filter, range_with_len}
use Rattle.std.proofs.lemmas.List.Filters.{length-filter_both}
use Rattle.pd_break.proofs.Rows.{filter-more, passing_more-yes, passing_more-no}
use Rattle.pd_tree.specs.Program.{Program, node_at}
use Rattle.pd_coverage.specs.declared.Covered.{Covered}
use Rattle.pd_coverage.specs.Lines.{is_line_of, last_line, lines_of, covered_lines, missed_lines}
use Rattle.pd_coverage.specs.Table.{is_marked, IsTable}

max_swap : (a b c : ℕ) → max a (max b c) ≡ max b (max a c)
max_swap a b c = omega arith

pub last_line_more : (p : Program) (ns : List ℕ) (n : ℕ) → last_line p (ns ++ n ∷ []) ≡ max (node_at p n).line (last_line p ns)
last_line_more p [] n = refl
last_line_more p (m ∷ ms) n = ap (max (node_at p m).line) (last_line_more p ms n) ∙ max_swap (node_at p m).line (node_at p n).line (last_line p ms)

-- ---- one line more: it isn't among these lines, or is and is covered, or isn't covered

pub all_line : (test : ℕ → Bool) (line : ℕ) (old new : List ℕ) → test line ≡ true → old ≡ filter test (range_with_len 0 line) → new ≡ old ++ line ∷ [] → new ≡ filter test (range_with_len 0 (line + 1))
all_line test line old new passes was is = is ∙ ap (λ ks. ks ++ line ∷ []) was ∙ sym (passing_more-yes test line passes)

pub no_line : (test : ℕ → Bool) (line : ℕ) (old : List ℕ) → test line ≡ false → old ≡ filter test (range_with_len 0 line) → old ≡ filter test (range_with_len 0 (line + 1))
no_line test line old fails was = was ∙ sym (passing_more-no test line fails)

among_more : (test also : ℕ → Bool) (line : ℕ) → test line ≡ true → filter also (filter test (range_with_len 0 (line + 1))) ≡ filter also (filter test (range_with_len 0 line)) ++ cond (also line) (line ∷ []) []
among_more test also line passes = ap (filter also) (passing_more-yes test line passes) ∙ filter-more also (filter test (range_with_len 0 line)) line

pub also_line : (test also : ℕ → Bool) (line : ℕ) (old new : List ℕ) → test line ≡ true → also line ≡ true → old ≡ filter also (filter test (range_with_len 0 line)) → new ≡ old ++ line ∷ [] → new ≡ filter also (filter test (range_with_len 0 (line + 1)))
also_line test also line old new passes and_also was is =
    is ∙ ap (λ ks. ks ++ line ∷ []) was ∙ ap (λ b. filter also (filter test (range_with_len 0 line)) ++ cond b (line ∷ []) []) (sym and_also) ∙ sym (among_more test also line passes)

pub not_also_line : (test also : ℕ → Bool) (line : ℕ) (old : List ℕ) → test line ≡ true → also line ≡ false → old ≡ filter also (filter test (range_with_len 0 line)) → old ≡ filter also (filter test (range_with_len 0 (line + 1)))
not_also_line test also line old passes not_also was =
    was ∙ sym (append-nil (filter also (filter test (range_with_len 0 line)))) ∙ ap (λ b. filter also (filter test (range_with_len 0 line)) ++ cond b (line ∷ []) []) (sym not_also) ∙ sym (among_more test also line passes)

pub neither_line : (test also : ℕ → Bool) (line : ℕ) (old : List ℕ) → test line ≡ false → old ≡ filter also (filter test (range_with_len 0 line)) → old ≡ filter also (filter test (range_with_len 0 (line + 1)))
neither_line test also line old fails was = was ∙ ap (filter also) (sym (passing_more-no test line fails))

-- ---- what a table tells of a line, and where all lines are gone over

pub tells : (p : Program) (nodes read : List ℕ) (count line : ℕ) (table : List Bool) (b : Bool) → read ≡ nodes → IsTable (is_line_of p read) count table → line < count → b ≡ is_marked table line → is_line_of p nodes line ≡ b
tells p nodes read count line table b same is below seen = ap (λ ns. is_line_of p ns line) (sym same) ∙ sym (is.marks line below) ∙ sym seen

pub all_gone : (p : Program) (nodes read : List ℕ) (last line : ℕ) → last ≡ last_line p read → read ≡ nodes → last + 1 ≤ line → line ≤ last + 1 → line ≡ suc (last_line p nodes)
all_gone p nodes read last line is same from upto =
    let here : line ≡ suc last = omega arith in
    here ∙ ap suc is ∙ ap (λ ns. suc (last_line p ns)) same

-- ---- how many lines, where all are gone over

pub all_is : (p : Program) (nodes : List ℕ) (line : ℕ) (all : List ℕ) → line ≡ suc (last_line p nodes)
    → all ≡ filter (is_line_of p nodes) (range_with_len 0 line) → all ≡ lines_of p nodes
all_is p nodes line all gone is = is ∙ ap (λ n. filter (is_line_of p nodes) (range_with_len 0 n)) gone

pub missed_is : (p : Program) (x : Covered) (line : ℕ) (missed : List ℕ) → line ≡ suc (last_line p x.nodes)
    → missed ≡ filter (λ l. not (is_line_of p x.hit l)) (filter (is_line_of p x.nodes) (range_with_len 0 line)) → missed ≡ missed_lines p x
missed_is p x line missed gone is = is ∙ ap (λ n. filter (λ l. not (is_line_of p x.hit l)) (filter (is_line_of p x.nodes) (range_with_len 0 n))) gone

-- so many are covered as aren't missed
pub missed_rest : (p : Program) (x : Covered) (line : ℕ) (all missed : List ℕ) → line ≡ suc (last_line p x.nodes)
    → all ≡ filter (is_line_of p x.nodes) (range_with_len 0 line)
    → missed ≡ filter (λ l. not (is_line_of p x.hit l)) (filter (is_line_of p x.nodes) (range_with_len 0 line))
    → length (covered_lines p x) + length missed ≡ length all
missed_rest p x line all missed gone of_all of_missed =
    ap (λ ls. length (covered_lines p x) + length ls) (missed_is p x line missed gone of_missed)
    ∙ length-filter_both (is_line_of p x.hit) (λ l. not (is_line_of p x.hit l)) (λ l. refl) (lines_of p x.nodes)
    ∙ ap length (sym (all_is p x.nodes line all gone of_all))

pub missed_are_few : (p : Program) (x : Covered) (line : ℕ) (all missed : List ℕ) → line ≡ suc (last_line p x.nodes)
    → all ≡ filter (is_line_of p x.nodes) (range_with_len 0 line)
    → missed ≡ filter (λ l. not (is_line_of p x.hit l)) (filter (is_line_of p x.nodes) (range_with_len 0 line))
    → length missed ≤ length all
missed_are_few p x line all missed gone of_all of_missed = at_most (length (covered_lines p x)) (length missed) (length all) (missed_rest p x line all missed gone of_all of_missed)
  where
    at_most : (a b n : ℕ) → a + b ≡ n → b ≤ n
    at_most a b n h = omega arith
