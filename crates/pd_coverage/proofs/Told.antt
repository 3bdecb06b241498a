-- What was hit of the statements of each source, by a table, by a log and by the events of a run.
use Rattle.std.proofs.Common.{◌≡◌, ℕ, zero, suc, ◌+◌, ◌<◌, ◌≤◌, Bool, true, false, ◌&&◌, ◌||◌, cond, List, [], ◌∷◌, ◌++◌, length, map, take, replicate, slice_index_or, Some, refl, sym, ap, subst, ◌∙◌, arith, ⊎_elim}
use Rattle.std.specs.Prelude.{filter, ◌==◌, slice_get}
use Rattle.std.specs.List.{AllByRecursion, list_any, range_with_len}
use Rattle.std.proofs.lemmas.Bool.{cases_Bool}
use Rattle.std.proofs.lemmas.Bool.Decides.{nat_tests}
use Rattle.std.proofs.lemmas.List.{take_more}
use Rattle.std.proofs.lemmas.List.Folds.{list_any-append}
use Rattle.pd_tree.specs.Program.{Program, node_at}
use Rattle.pd_machine.specs.Events.{Told}
use Rattle.pd_plan.specs.declared.plan.BindingSpec.TheVariants.{Observe}
use Rattle.pd_plan.specs.declared.plan.Filter.{Filter}
use Rattle.pd_plan.specs.declared.plan.Plan.{Plan}
use Rattle.pd_plan.specs.declared.plan.SourceSpec.{SourceSpec}
use Rattle.pd_break.specs.Resolving.{is_statement}
use Rattle.pd_filter.specs.Matching.{is_about, satisfies}
use Rattle.pd_record.specs.Logs.{some_and}
use Rattle.pd_log.specs.declared.Entry.{Entry}
use Rattle.pd_suspend.specs.declared.context.ContextRecord.{ContextRecord}
use Rattle.pd_running.specs.Running.{is_enter, Mark, mark_of, mark_in, marks_where}
use Rattle.pd_run.specs.declared.report.Report.{Report}
use Rattle.pd_run.specs.Run.{events_of, IsRun}
use Rattle.pd_steady.specs.Steady.{about, is_steady, AreWhole}
use Rattle.pd_steady.proofs.Steady.{logs_whole}
use Rattle.pd_coverage.specs.declared.Covered.{Covered}
use Rattle.pd_coverage.specs.Coverage.{is_hit, is_hit_in, is_counted, statements_of, covered_of, sources_covered}
use Rattle.pd_coverage.specs.Report.{log_in, is_entered, IsEntered, AreEntered, IsCoverage}
use Rattle.pd_coverage.specs.Table.{is_marked, IsMarked, IsTable, covered_with, covered_from}
use Rattle.pd_coverage.proofs.Tables.{marked_table, more_table, same_table}

-- ---- what a table says

-- two tests that agree on the numbers of a range
agree_in_range : (f h g : ℕ → Bool) (first count size : ℕ) → first + count ≤ size → ((n : ℕ) → n < size → f n ≡ h n)
    → filter f (filter g (range_with_len first count)) ≡ filter h (filter g (range_with_len first count))
agree_in_range f h g first zero size fits same = refl
agree_in_range f h g first (suc count) size fits same =
    let rest = agree_in_range f h g (first + 1) count size (omega arith) same in
    let here : f first ≡ h first = same first (omega arith) in
    elim (g first) as (λ b. filter f (cond b (first ∷ filter g (range_with_len (first + 1) count)) (filter g (range_with_len (first + 1) count)))
    ≡ filter h (cond b (first ∷ filter g (range_with_len (first + 1) count)) (filter g (range_with_len (first + 1) count)))) [
      | true ↦ ap (λ b. cond b (first ∷ filter f (filter g (range_with_len (first + 1) count))) (filter f (filter g (range_with_len (first + 1) count)))) here
          ∙ ap (λ ns. cond (h first) (first ∷ ns) ns) rest
      | false ↦ rest
    ]

-- of a source what is marked is what was hit
with_is_of : (p : Program) (about hit : ℕ → Bool) (table : List Bool) (source : ℕ) → IsTable hit (length p.nodes) table → covered_with table source (statements_of p about source) ≡ covered_of p about hit source
with_is_of p about hit table source is =
    ap (λ ns. record { source = source; nodes = statements_of p about source; hit = ns })
    (agree_in_range (is_marked table) hit (is_counted p about source) 0 (length p.nodes) (length p.nodes) (omega arith) is.marks)

from_is_of : (p : Program) (about hit : ℕ → Bool) (table : List Bool) (first count : ℕ) → IsTable hit (length p.nodes) table
    → covered_from table first (map (statements_of p about) (range_with_len first count)) ≡ map (covered_of p about hit) (range_with_len first count)
from_is_of p about hit table first zero is = refl
from_is_of p about hit table first (suc count) is =
    ap (λ x. x ∷ covered_from table (first + 1) (map (statements_of p about) (range_with_len (first + 1) count))) (with_is_of p about hit table first is)
    ∙ ap (λ xs. covered_of p about hit first ∷ xs) (from_is_of p about hit table (first + 1) count is)

pub marked_is_hit : (p : Program) (sources : ℕ) (about hit : ℕ → Bool) (table : List Bool) (lists : List (List ℕ)) (x : List Covered) → IsTable hit (length p.nodes) table
    → lists ≡ map (statements_of p about) (range_with_len 0 sources) → x ≡ covered_from table 0 lists → x ≡ sources_covered p sources about hit
marked_is_hit p sources about hit table lists x is split from = from ∙ ap (covered_from table 0) split ∙ from_is_of p about hit table 0 sources is

-- ---- one context more

map_more : {A B : Type 0} (f : A → B) (xs : List A) (x : A) → map f (xs ++ x ∷ []) ≡ map f xs ++ f x ∷ []
map_more f [] x = refl
map_more f (y ∷ ys) x = ap (λ zs. f y ∷ zs) (map_more f ys x)

logs_more : (b : ℕ) (rs : List ContextRecord) (k : ℕ) (r : ContextRecord) → k < length rs → r ≡ slice_index_or rs k r
    → map (log_in b) (take (k + 1) rs) ≡ map (log_in b) (take k rs) ++ log_in b r ∷ []
logs_more b rs k r below is =
    ap (map (log_in b)) (take_more rs k r below) ∙ map_more (log_in b) (take k rs) (slice_index_or rs k r) ∙ ap (λ x. map (log_in b) (take k rs) ++ log_in b x ∷ []) (sym is)

pub contexts_more : (of : List Entry → List Covered) (b : ℕ) (rs : List ContextRecord) (k : ℕ) (r : ContextRecord) (old new : List (List Covered)) (x : List Covered)
    → k < length rs → r ≡ slice_index_or rs k r → old ≡ map of (map (log_in b) (take k rs)) → x ≡ of (log_in b r) → new ≡ old ++ x ∷ []
    → new ≡ map of (map (log_in b) (take (k + 1) rs))
contexts_more of b rs k r old new x below is was here next =
    next ∙ ap (λ xs. xs ++ x ∷ []) was ∙ ap (λ y. map of (map (log_in b) (take k rs)) ++ y ∷ []) here
    ∙ sym (map_more of (map (log_in b) (take k rs)) (log_in b r)) ∙ ap (map of) (sym (logs_more b rs k r below is))

or_none : (b : Bool) → (b || false) ≡ b
or_none true = refl
or_none false = refl

pub hit_more : (b : ℕ) (rs : List ContextRecord) (k : ℕ) (r : ContextRecord) → k < length rs → r ≡ slice_index_or rs k r
    → (n : ℕ) → is_hit_in (map (log_in b) (take (k + 1) rs)) n ≡ (is_hit_in (map (log_in b) (take k rs)) n || is_hit (log_in b r) n)
hit_more b rs k r below is n =
    ap (λ logs. is_hit_in logs n) (logs_more b rs k r below is)
    ∙ list_any-append (λ log. is_hit log n) (map (log_in b) (take k rs)) (log_in b r ∷ [])
    ∙ ap (λ x. is_hit_in (map (log_in b) (take k rs)) n || x) (or_none (is_hit (log_in b r) n))

-- ---- what was hit, by marks

abbrev enters : ℕ → Mark → Bool
enters n m = is_enter m.kind && (m.node == n)

any_map : {A B : Type 0} (p : B → Bool) (f : A → B) (xs : List A) → list_any p (map f xs) ≡ list_any (λ x. p (f x)) xs
any_map p f [] = refl
any_map p f (x ∷ xs) = ap (λ b. p (f x) || b) (any_map p f xs)

not_about : (k : Bool) (m n : ℕ) (about : ℕ → Bool) → about n ≡ true → about m ≡ false → (k && (m == n)) ≡ false
not_about false m n about h i = refl
not_about true m n about h i = ⊎_elim (λ (e : (m == n) ≡ true). absurd (cc (h, i, eq m n e))) (λ (e : (m == n) ≡ false). e) (cases_Bool (m == n))
  where
    eq : (m n : ℕ) → (m == n) ≡ true → m ≡ n
    eq m n e = grind (arith, nat_tests, e)

-- events of other nodes don't count
any_where : (about : ℕ → Bool) (n : ℕ) → about n ≡ true → (events : List Told) → list_any (λ t. is_enter t.event.kind && (t.event.node == n)) (filter (λ t. about t.event.node) events) ≡ is_entered events n
any_where about n h [] = refl
any_where about n h (t ∷ ts) = ⊎_elim
    (λ (e : about t.event.node ≡ true).
    ap (λ b. list_any (λ x. is_enter x.event.kind && (x.event.node == n)) (cond b (t ∷ filter (λ x. about x.event.node) ts) (filter (λ x. about x.event.node) ts))) e
    ∙ ap (λ b. (is_enter t.event.kind && (t.event.node == n)) || b) (any_where about n h ts))
    (λ (e : about t.event.node ≡ false).
    ap (λ b. list_any (λ x. is_enter x.event.kind && (x.event.node == n)) (cond b (t ∷ filter (λ x. about x.event.node) ts) (filter (λ x. about x.event.node) ts))) e
    ∙ any_where about n h ts ∙ ap (λ b. b || is_entered ts n) (sym (not_about (is_enter t.event.kind) t.event.node n about h e)))
    (cases_Bool (about t.event.node))

hit_entered : (about : ℕ → Bool) (log : List Entry) (events : List Told) → map mark_in log ≡ marks_where about events → (n : ℕ) → about n ≡ true → is_hit log n ≡ is_entered events n
hit_entered about log events all n h =
    sym (any_map (enters n) mark_in log) ∙ ap (list_any (enters n)) all ∙ any_map (enters n) mark_of (filter (λ t. about t.event.node) events) ∙ any_where about n h events

-- ---- what was hit is what was entered

-- two tests that agree where a third one passes
agree_where : (f h g : ℕ → Bool) → ((n : ℕ) → g n ≡ true → f n ≡ h n) → (ns : List ℕ) → filter f (filter g ns) ≡ filter h (filter g ns)
agree_where f h g same [] = refl
agree_where f h g same (n ∷ ns) = ⊎_elim
    (λ (e : g n ≡ true).
    ap (λ b. filter f (cond b (n ∷ filter g ns) (filter g ns))) e
    ∙ ap (λ b. cond b (n ∷ filter f (filter g ns)) (filter f (filter g ns))) (same n e)
    ∙ ap (λ xs. cond (h n) (n ∷ xs) xs) (agree_where f h g same ns)
    ∙ sym (ap (λ b. filter h (cond b (n ∷ filter g ns) (filter g ns))) e))
    (λ (e : g n ≡ false).
    ap (λ b. filter f (cond b (n ∷ filter g ns) (filter g ns))) e
    ∙ agree_where f h g same ns
    ∙ sym (ap (λ b. filter h (cond b (n ∷ filter g ns) (filter g ns))) e))
    (cases_Bool (g n))

counted_about : (p : Program) (about : ℕ → Bool) (source n : ℕ) → is_counted p about source n ≡ true → about n ≡ true
counted_about p about source n h = by (is_statement p n) (about n) ((node_at p n).source == source) h
  where
    by : (a b c : Bool) → (a && b && c) ≡ true → b ≡ true
    by true true c h = refl
    by true false c h = cc
    by false b c h = cc

sources_entered : (p : Program) (about : ℕ → Bool) (log : List Entry) (events : List Told) → map mark_in log ≡ marks_where about events
    → (sources : List ℕ) → AllByRecursion (IsEntered events) (map (covered_of p about (is_hit log)) sources)
sources_entered p about log events all [] = tt
sources_entered p about log events all (s ∷ ss) = (
  agree_where (is_hit log) (is_entered events) (is_counted p about s) (λ n h. hit_entered about log events all n (counted_about p about s n h)) (range_with_len 0 (length p.nodes)),
  sources_entered p about log events all ss,
)

entered_in : (plan : Plan) (p : Program) (b c : ℕ) (rs : List ContextRecord) → AreWhole plan p b c rs
    → AreEntered plan p c rs (map (λ log. sources_covered p (length plan.sources) (about plan p b) (is_hit log)) (map (log_in b) rs))
entered_in plan p b c [] w = tt
entered_in plan p b c (r ∷ rs) w =
    (sources_entered p (about plan p b) (log_in b r) (events_of plan p c r) w.0 (range_with_len 0 (length plan.sources)), entered_in plan p b (suc c) rs w.1)

pub coverage_entered : (plan : Plan) (p : Program) (r : Report) (b : ℕ) → IsRun plan p r → is_steady plan b ≡ true
    → AreEntered plan p 0 r.contexts (map (λ log. sources_covered p (length plan.sources) (about plan p b) (is_hit log)) (map (log_in b) r.contexts))
coverage_entered plan p r b run steady = entered_in plan p b 0 r.contexts (logs_whole plan p r b run steady)

-- ---- the steps of the code

length_mapped : {A : Type 0} (f : ℕ → A) (first count : ℕ) → length (map f (range_with_len first count)) ≡ count
length_mapped f first zero = refl
length_mapped f first (suc count) = ap suc (length_mapped f (first + 1) count)

pub split_about : (plan : Plan) (p : Program) (b : ℕ) (f : Filter) (read : List SourceSpec) (lists : List (List ℕ)) → slice_get plan.bindings b ≡ Some (Observe f) → read ≡ plan.sources
    → lists ≡ map (statements_of p (satisfies f p)) (range_with_len 0 (length read)) → lists ≡ map (statements_of p (about plan p b)) (range_with_len 0 (length plan.sources))
split_about plan p b f read lists observes sources split =
    split
    ∙ ap (λ ss. map (statements_of p (satisfies f p)) (range_with_len 0 (length ss))) sources
    ∙ ap (λ o. map (statements_of p (λ n. some_and o (λ x. is_about p x n))) (range_with_len 0 (length plan.sources))) (sym observes)

pub split_few : (p : Program) (about : ℕ → Bool) (sources most : ℕ) (lists read : List (List ℕ)) → lists ≡ map (statements_of p about) (range_with_len 0 sources) → read ≡ lists → sources < most → length read < most
split_few p about sources most lists read split same few = subst (λ n. n < most) (sym (ap length (same ∙ split) ∙ length_mapped (statements_of p about) 0 sources)) few

pub fresh_table : (log read : List Entry) (count size : ℕ) (blank new : List Bool) → read ≡ log → count ≡ size → blank ≡ replicate count false → IsMarked (is_hit read) blank new → IsTable (is_hit log) size new
fresh_table log read count size blank new same counted is marked =
    subst (λ l. IsTable (is_hit l) size new) same
    (subst (λ n. IsTable (is_hit read) n new) counted
    (marked_table (is_hit read) count new (subst (λ old. IsMarked (is_hit read) old new) is marked)))

pub next_table : (b : ℕ) (rs : List ContextRecord) (k : ℕ) (r : ContextRecord) (read : List Entry) (size : ℕ) (old new : List Bool)
    → k < length rs → r ≡ slice_index_or rs k r → read ≡ log_in b r
    → IsTable (is_hit_in (map (log_in b) (take k rs))) size old → IsMarked (is_hit read) old new
    → IsTable (is_hit_in (map (log_in b) (take (k + 1) rs))) size new
next_table b rs k r read size old new below is same was marked =
    same_table (λ n. is_hit_in (map (log_in b) (take k rs)) n || is_hit (log_in b r) n) (is_hit_in (map (log_in b) (take (k + 1) rs))) size new
    (more_table (is_hit_in (map (log_in b) (take k rs))) (is_hit (log_in b r)) size old new was (subst (λ l. IsMarked (is_hit l) old new) same marked))
    (hit_more b rs k r below is)

pub whole_coverage : (plan : Plan) (p : Program) (r : Report) (b : ℕ) (contexts : List (List Covered)) (all : List Covered) → IsRun plan p r
    → contexts ≡ map (λ log. sources_covered p (length plan.sources) (about plan p b) (is_hit log)) (map (log_in b) r.contexts)
    → all ≡ sources_covered p (length plan.sources) (about plan p b) (is_hit_in (map (log_in b) r.contexts))
    → IsCoverage plan p r b (record { contexts = contexts; all = all })
whole_coverage plan p r b contexts all run each whole = record {
  counted = ap (λ cs. record { contexts = cs; all = all }) each ∙ ap (λ xs. record { contexts = map (λ log. sources_covered p (length plan.sources) (about plan p b) (is_hit log)) (map (log_in b) r.contexts); all = xs }) whole;
  entered = λ steady. subst (AreEntered plan p 0 r.contexts) (sym each) (coverage_entered plan p r b run steady);
}
