-- What is counted over the entries of nested events is their call tree.
use Rattle.std.proofs.Common.{◌≡◌, ℕ, ◌<◌, Bool, true, false, ◌&&◌, cond, List, [], ◌∷◌, ◌++◌, length, refl, sym, ap, ◌∙◌, arith}
use Rattle.std.specs.Prelude.{filter, bytes_eq, nat_lt}
use Rattle.std.specs.List.{AllByRecursion}
use Rattle.std.proofs.lemmas.Bool.{and_parts}
use Rattle.std.proofs.lemmas.Bool.Decides.{nat_tests}
use Rattle.std.proofs.lemmas.List.Elements.{All-from_recursion}
use Rattle.pd_tree.specs.Program.{Program}
use Rattle.pd_machine.specs.Events.{Told}
use Rattle.pd_running.specs.Running.{is_enter, is_root_node, of_root, marks_where}
use Rattle.pd_running.specs.Nested.{IsNested}
use Rattle.pd_running.specs.Laws.{next_open, run_by, run_at, stacked_by}
use Rattle.pd_paths.specs.declared.PathCount.{PathCount}
use Rattle.pd_paths.specs.Tree.{count_of, has_path, IsCounted, IsCallTree}
use Rattle.pd_paths.specs.Tally.{amount, is_path, paths_full, all_some, IsTally}
use Rattle.pd_paths.proofs.Amounts.{path_of, path_push}
use Rattle.pd_paths.proofs.Told.{begins_at, count_stacked, tally_amounts}
use Rattle.pd_paths.proofs.Rises.{each_once, is_there}

-- ---- no activation has the empty path

none_begins : (p : Program) (live ts : List Told) → length (filter (begins_at p []) (stacked_by live ts)) ≡ 0
none_begins p live [] = refl
none_begins p live (t ∷ ts) = ap (λ b. length (cond b ((run_at live t, t) ∷ filter (begins_at p []) (stacked_by (next_open live t) ts)) (filter (begins_at p []) (stacked_by (next_open live t) ts)))) (here (is_enter t.event.kind) (of_root p t) refl refl) ∙ none_begins p (next_open live t) ts
  where
    pushed : (ns : List ℕ) (n : ℕ) → bytes_eq (ns ++ n ∷ []) [] ≡ false
    pushed [] n = refl
    pushed (x ∷ xs) n = refl

    here : (k r : Bool) → is_enter t.event.kind ≡ k → of_root p t ≡ r → begins_at p [] (run_at live t, t) ≡ false
    here true true k r =
        ap (λ b. (b && of_root p t) && bytes_eq (path_of p (run_by b live t)) []) k
        ∙ ap (λ b. b && bytes_eq (path_of p (live ++ t ∷ [])) []) r
        ∙ ap (λ q. bytes_eq q []) (path_push p live t r) ∙ pushed (path_of p live) t.event.node
    here true false k r = ap (λ b. (b && of_root p t) && bytes_eq (path_of p (run_by b live t)) []) k ∙ ap (λ b. b && bytes_eq (path_of p (live ++ t ∷ [])) []) r
    here false r k i = ap (λ b. (b && of_root p t) && bytes_eq (path_of p (run_by b live t)) []) k

-- ---- all together

pub tally_is_tree : (p : Program) (events : List Told) (tree : List PathCount) → IsNested [] 0 events → IsTally (length events) (marks_where (is_root_node p) events) tree → IsCallTree p events tree
tally_is_tree p events tree nested t = record {
  rising = t.rising;
  counted = All-from_recursion (IsCounted p events) tree (each tree t.some t.full (each_once (λ x. x.count) tree t.rising) (each_once (λ x. x.own) tree t.rising));
  whole = there;
}
  where
    each : (xs : List PathCount) → all_some xs ≡ true → paths_full xs ≡ true
        → AllByRecursion (λ y. amount (λ x. x.count) (λ r. bytes_eq r y.path) tree ≡ y.count) xs
        → AllByRecursion (λ y. amount (λ x. x.own) (λ r. bytes_eq r y.path) tree ≡ y.own) xs
        → AllByRecursion (IsCounted p events) xs
    each [] s f c o = tt
    each (x ∷ xs) s f c o =
        let some = and_parts (nat_lt 0 x.count) (all_some xs) s in
        let full = and_parts (is_path x.path) (paths_full xs) f in
        let a = tally_amounts p events tree x.path nested t full.0 in
        (record { some = above x.count some.0; count = sym c.0 ∙ a.count; own = sym o.0 ∙ a.own }, each xs some.1 full.1 c.1 o.1)
      where
        above : (k : ℕ) → nat_lt 0 k ≡ true → 0 < k
        above k h = grind (arith, nat_tests, h)

    there : (q : List ℕ) → 0 < count_of p events q → has_path q tree ≡ true
    there [] h = absurd (omega (arith, h, count_stacked p events [] nested, none_begins p [] events))
    there (n ∷ ns) h = is_there (λ x. x.count) (n ∷ ns) tree (omega (arith, h, (tally_amounts p events tree (n ∷ ns) nested t refl).count))
