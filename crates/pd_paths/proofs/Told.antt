-- What the walk counts is what the definitions count, path by path and in all.
use Rattle.std.proofs.Common.{◌≡◌, ℕ, suc, ◌+◌, Bool, true, false, ◌&&◌, cond, List, [], ◌∷◌, length, map, refl, sym, ap, ◌∙◌, arith}
use Rattle.std.specs.Prelude.{filter, bytes_eq}
use Rattle.std.specs.List.{list_all}
use Rattle.std.proofs.lemmas.Bool.{and_parts}
use Rattle.pd_tree.specs.Program.{Program}
use Rattle.pd_machine.specs.Events.{Told}
use Rattle.pd_running.specs.Running.{is_root_node, moments, marks_where, IsCovered}
use Rattle.pd_running.specs.Nested.{IsNested}
use Rattle.pd_running.specs.Laws.{next_open, run_at, stacked_by, running_with}
use Rattle.pd_running.proofs.Stack.{stack_runs, none_stacked}
use Rattle.pd_paths.specs.declared.PathCount.{PathCount}
use Rattle.pd_paths.specs.Tree.{begins_root, count_of, own_of}
use Rattle.pd_paths.specs.Tally.{weigh, amount, IsAdditive, tallied, is_path, paths_full, IsTally}
use Rattle.pd_paths.specs.Laws.{IsSummed}
use Rattle.pd_paths.proofs.Amounts.{path_of, counted, events_count}

-- ---- lists

filter_map_length : {A B : Type 0} (f : B → Bool) (g : A → B) (xs : List A) → length (filter (λ x. f (g x)) xs) ≡ length (filter f (map g xs))
filter_map_length f g [] = refl
filter_map_length f g (x ∷ xs) = elim (f (g x)) as (λ b. length (cond b (x ∷ filter (λ x. f (g x)) xs) (filter (λ x. f (g x)) xs)) ≡ length (cond b (g x ∷ filter f (map g xs)) (filter f (map g xs)))) [
  | true ↦ ap suc (filter_map_length f g xs)
  | false ↦ filter_map_length f g xs
]

all_map : {A B : Type 0} (f : B → Bool) (g : A → B) (xs : List A) → list_all f (map g xs) ≡ list_all (λ x. f (g x)) xs
all_map f g [] = refl
all_map f g (x ∷ xs) = ap (λ b. f (g x) && b) (all_map f g xs)

length_kept : {A : Type 0} (b : Bool) (x : A) (xs : List A) → length (cond b (x ∷ xs) xs) ≡ weigh b 1 + length xs
length_kept true x xs = omega arith
length_kept false x xs = omega arith

-- ---- by paths

-- whether an event of the stack is one at which an activation with this path begins, and whether it belongs to one
abbrev pub begins_at : Program → List ℕ → List Told × Told → Bool
begins_at p path r = begins_root p r.1 && bytes_eq (path_of p r.0) path

abbrev belongs_to : Program → List ℕ → List Told × Told → Bool
belongs_to p path r = bytes_eq (path_of p r.0) path

pub count_stacked : (p : Program) (events : List Told) (path : List ℕ) → IsNested [] 0 events → count_of p events path ≡ length (filter (begins_at p path) (stacked_by [] events))
count_stacked p events path nested = filter_map_length (begins_at p path) running_with (moments events) ∙ ap (λ rs. length (filter (begins_at p path) rs)) (stack_runs events [] [] 0 none_stacked nested)

own_stacked : (p : Program) (events : List Told) (path : List ℕ) → IsNested [] 0 events → own_of p events path ≡ length (filter (belongs_to p path) (stacked_by [] events))
own_stacked p events path nested = filter_map_length (belongs_to p path) running_with (moments events) ∙ ap (λ rs. length (filter (belongs_to p path) rs)) (stack_runs events [] [] 0 none_stacked nested)

begun : (b e : Bool) → weigh e (cond b 1 0) ≡ weigh (b && e) 1
begun true e = refl
begun false true = refl
begun false false = refl

counts_by : (p : Program) (path : List ℕ) (live ts : List Told) → counted (λ c o. c) (λ q. bytes_eq q path) p live ts ≡ length (filter (begins_at p path) (stacked_by live ts))
counts_by p path live [] = refl
counts_by p path live (t ∷ ts) =
    let here : weigh (bytes_eq (path_of p (run_at live t)) path) (cond (begins_root p t) 1 0) ≡ weigh (begins_at p path (run_at live t, t)) 1 = begun (begins_root p t) (bytes_eq (path_of p (run_at live t)) path) in
    omega (arith, here, counts_by p path (next_open live t) ts, length_kept (begins_at p path (run_at live t, t)) (run_at live t, t) (filter (begins_at p path) (stacked_by (next_open live t) ts)))

owns_by : (p : Program) (path : List ℕ) (live ts : List Told) → counted (λ c o. o) (λ q. bytes_eq q path) p live ts ≡ length (filter (belongs_to p path) (stacked_by live ts))
owns_by p path live [] = refl
owns_by p path live (t ∷ ts) = omega (arith, owns_by p path (next_open live t) ts, length_kept (belongs_to p path (run_at live t, t)) (run_at live t, t) (filter (belongs_to p path) (stacked_by (next_open live t) ts)))

not_none : (path : List ℕ) → is_path path ≡ true → bytes_eq [] path ≡ false
not_none [] h = cc
not_none (x ∷ xs) h = refl

-- what the entries of all events add from the start
all_counted : (w : ℕ → ℕ → ℕ) (additive : IsAdditive w) (test : List ℕ → Bool) → test [] ≡ false → (p : Program) (events : List Told) → IsNested [] 0 events
    → tallied w test (length events) [] 0 (marks_where (is_root_node p) events) ≡ counted w test p [] events
all_counted w additive test empty p events nested =
    events_count w additive test p events [] 0 (length events) [] 0 refl (omega arith) (omega arith) nested
    ∙ ap (λ b. weigh b (w 0 0) + counted w test p [] events) empty ∙ omega arith

-- the paths have for each path what the definition counts
pub record IsAmounted (p : Program) (events : List Told) (tree : List PathCount) (path : List ℕ) : Type 0 where
  pub count : amount (λ x. x.count) (λ q. bytes_eq q path) tree ≡ count_of p events path
  pub own : amount (λ x. x.own) (λ q. bytes_eq q path) tree ≡ own_of p events path

pub tally_amounts : (p : Program) (events : List Told) (tree : List PathCount) (path : List ℕ) → IsNested [] 0 events → IsTally (length events) (marks_where (is_root_node p) events) tree → is_path path ≡ true → IsAmounted p events tree path
tally_amounts p events tree path nested t some = record {
  count = t.amounts (λ c o. c) (λ q. bytes_eq q path) (λ a b c d. refl) (not_none path some)
      ∙ all_counted (λ c o. c) (λ a b c d. refl) (λ q. bytes_eq q path) (not_none path some) p events nested
      ∙ counts_by p path [] events ∙ sym (count_stacked p events path nested);
  own = t.amounts (λ c o. o) (λ q. bytes_eq q path) (λ a b c d. refl) (not_none path some)
      ∙ all_counted (λ c o. o) (λ a b c d. refl) (λ q. bytes_eq q path) (not_none path some) p events nested
      ∙ owns_by p path [] events ∙ sym (own_stacked p events path nested);
}

-- ---- in all

amount_full : (number : PathCount → ℕ) (tree : List PathCount) → paths_full tree ≡ true → amount number (λ q. true) tree ≡ amount number is_path tree
amount_full number [] h = refl
amount_full number (x ∷ xs) h =
    let parts = and_parts (is_path x.path) (paths_full xs) h in
    let here : weigh (is_path x.path) (number x) ≡ number x = ap (λ b. weigh b (number x)) parts.0 in
    omega (arith, here, amount_full number xs parts.1)

abbrev is_covered : Program → List Told × Told → Bool
is_covered p r = is_path (path_of p r.0)

covered_stacked : (p : Program) (events : List Told) → IsNested [] 0 events → IsCovered p events → list_all (is_covered p) (stacked_by [] events) ≡ true
covered_stacked p events nested covered = ap (list_all (is_covered p)) (sym (stack_runs events [] [] 0 none_stacked nested)) ∙ all_map (is_covered p) running_with (moments events) ∙ covered

all_owned : (p : Program) (live ts : List Told) → list_all (is_covered p) (stacked_by live ts) ≡ true → counted (λ c o. o) is_path p live ts ≡ length ts
all_owned p live [] h = refl
all_owned p live (t ∷ ts) h =
    let parts = and_parts (is_path (path_of p (run_at live t))) (list_all (is_covered p) (stacked_by (next_open live t) ts)) h in
    let here : weigh (is_path (path_of p (run_at live t))) 1 ≡ 1 = ap (λ b. weigh b 1) parts.0 in
    omega (arith, here, all_owned p (next_open live t) ts parts.1)

all_begun : (p : Program) (live ts : List Told) → list_all (is_covered p) (stacked_by live ts) ≡ true → counted (λ c o. c) is_path p live ts ≡ length (filter (begins_root p) ts)
all_begun p live [] h = refl
all_begun p live (t ∷ ts) h =
    let parts = and_parts (is_path (path_of p (run_at live t))) (list_all (is_covered p) (stacked_by (next_open live t) ts)) h in
    let here : weigh (is_path (path_of p (run_at live t))) (cond (begins_root p t) 1 0) ≡ weigh (begins_root p t) 1 = ap (λ b. weigh b (cond (begins_root p t) 1 0)) parts.0 in
    omega (arith, here, all_begun p (next_open live t) ts parts.1, length_kept (begins_root p t) t (filter (begins_root p) ts))

pub sums_whole : (p : Program) (events : List Told) (tree : List PathCount) → IsNested [] 0 events → IsCovered p events → IsTally (length events) (marks_where (is_root_node p) events) tree → IsSummed p events tree
sums_whole p events tree nested covered t = record {
  count = amount_full (λ x. x.count) tree t.full ∙ t.amounts (λ c o. c) is_path (λ a b c d. refl) refl
      ∙ all_counted (λ c o. c) (λ a b c d. refl) is_path refl p events nested
      ∙ all_begun p [] events (covered_stacked p events nested covered);
  own = amount_full (λ x. x.own) tree t.full ∙ t.amounts (λ c o. o) is_path (λ a b c d. refl) refl
      ∙ all_counted (λ c o. o) (λ a b c d. refl) is_path refl p events nested
      ∙ all_owned p [] events (covered_stacked p events nested covered);
}
