-- What the entries of nested events add is what the events count: by one induction, for activations and for events alike.
use Rattle.std.proofs.Common.{◌≡◌, ℕ, suc, ◌+◌, ◌-◌, ◌≤◌, Bool, true, false, ◌&&◌, cond, List, [], ◌∷◌, ◌++◌, length, map, refl, sym, ap, subst, ◌∙◌, arith, ⊎_elim}
use Rattle.std.specs.Prelude.{filter}
use Rattle.std.proofs.lemmas.Bool.{cases_Bool}
use Rattle.std.proofs.lemmas.List.Elements.{filter-append}
use Rattle.pd_tree.specs.Program.{Program}
use Rattle.pd_machine.specs.Events.{Told}
use Rattle.pd_running.specs.Running.{is_enter, is_root_node, of_root, roots_in, nodes_in, Mark, mark_of, marks_where}
use Rattle.pd_running.specs.Nested.{Closing, Opening, IsNested}
use Rattle.pd_running.specs.Laws.{but_last, opened_by, next_open, run_by, run_at}
use Rattle.pd_running.proofs.Stack.{append_none, but_last-push, closing_next}
use Rattle.pd_paths.specs.Tree.{begins_root}
use Rattle.pd_paths.specs.Tally.{weigh, IsAdditive, path_after, next_after, begun_by, tallied}

-- ---- the paths of what runs

pub nodes_push : (xs : List Told) (t : Told) → nodes_in (xs ++ t ∷ []) ≡ nodes_in xs ++ t.event.node ∷ []
nodes_push [] t = refl
nodes_push (x ∷ xs) t = ap (λ ys. x.event.node ∷ ys) (nodes_push xs t)

abbrev pub path_of : Program → List Told → List ℕ
path_of p live = nodes_in (roots_in p live)

pub path_push : (p : Program) (live : List Told) (t : Told) → of_root p t ≡ true → path_of p (live ++ t ∷ []) ≡ path_of p live ++ t.event.node ∷ []
path_push p live t r = ap nodes_in (filter-append (of_root p) live (t ∷ []) ∙ ap (λ b. roots_in p live ++ cond b (t ∷ []) []) r) ∙ nodes_push (roots_in p live) t

pub path_same : (p : Program) (live : List Told) (t : Told) → of_root p t ≡ false → path_of p (live ++ t ∷ []) ≡ path_of p live
path_same p live t r = ap nodes_in (filter-append (of_root p) live (t ∷ []) ∙ ap (λ b. roots_in p live ++ cond b (t ∷ []) []) r ∙ append_none (roots_in p live))

-- the Enter of the end of a function or a procedure is one of it too
inner_root : (p : Program) (live : List Told) (t : Told) (c : Closing live t) → of_root p c.inner ≡ of_root p t
inner_root p live t c = ap (is_root_node p) c.node

-- the path after an event of another node
pub next_same : (p : Program) (live : List Told) (t : Told) (n : ℕ) (ts : List Told) → of_root p t ≡ false → Opening (is_enter t.event.kind) live t (λ o. IsNested o n ts) → path_of p (next_open live t) ≡ path_of p live
next_same p live t n ts r o = ⊎_elim
    (λ (e : is_enter t.event.kind ≡ true). ap (λ b. path_of p (opened_by b live t)) e ∙ path_same p live t r)
    (λ (e : is_enter t.event.kind ≡ false).
    let c : (c : Closing live t) × IsNested c.rest n ts = subst (λ b. Opening b live t (λ o. IsNested o n ts)) e o in
    ap (path_of p) (closing_next live t c.0 e) ∙ sym (path_same p c.0.rest c.0.inner (inner_root p live t c.0 ∙ r)) ∙ ap (path_of p) (sym c.0.open_is))
    (cases_Bool (is_enter t.event.kind))

pub run_same : (p : Program) (live : List Told) (t : Told) → of_root p t ≡ false → path_of p (run_at live t) ≡ path_of p live
run_same p live t r = ⊎_elim
    (λ (e : is_enter t.event.kind ≡ true). ap (λ b. path_of p (run_by b live t)) e ∙ path_same p live t r)
    (λ (e : is_enter t.event.kind ≡ false). ap (λ b. path_of p (run_by b live t)) e)
    (cases_Bool (is_enter t.event.kind))

pub close_path : (p : Program) (live : List Told) (t : Told) (c : Closing live t) → of_root p t ≡ true → but_last (path_of p live) ≡ path_of p c.rest
close_path p live t c r = ap (λ xs. but_last (path_of p xs)) c.open_is ∙ ap but_last (path_push p c.rest c.inner (inner_root p live t c ∙ r)) ∙ but_last-push (path_of p c.rest) c.inner.event.node

-- the nested events after this one
pub next_nested : (live : List Told) (t : Told) (n : ℕ) (ts : List Told) → Opening (is_enter t.event.kind) live t (λ o. IsNested o n ts) → IsNested (next_open live t) n ts
next_nested live t n ts o = ⊎_elim
    (λ (e : is_enter t.event.kind ≡ true). subst (λ b. IsNested (opened_by b live t) n ts) (sym e) (subst (λ b. Opening b live t (λ o. IsNested o n ts)) e o))
    (λ (e : is_enter t.event.kind ≡ false).
    let c : (c : Closing live t) × IsNested c.rest n ts = subst (λ b. Opening b live t (λ o. IsNested o n ts)) e o in
    subst (λ l. IsNested l n ts) (sym (closing_next live t c.0 e)) c.1)
    (cases_Bool (is_enter t.event.kind))

pub next_closing : (live : List Told) (t : Told) (n : ℕ) (ts : List Told) → is_enter t.event.kind ≡ false → Opening (is_enter t.event.kind) live t (λ o. IsNested o n ts) → Closing live t
next_closing live t n ts e o = (subst (λ b. Opening b live t (λ o. IsNested o n ts)) e o).0

-- ---- weights

weigh_sum : (b : Bool) (j k l : ℕ) → j ≡ k + l → weigh b j ≡ weigh b k + weigh b l
weigh_sum true j k l e = e
weigh_sum false j k l e = refl

-- what the events count, by the stack
abbrev pub counted : (ℕ → ℕ → ℕ) → (List ℕ → Bool) → Program → List Told → List Told → ℕ
counted w test p live [] = 0
counted w test p live (t ∷ ts) = weigh (test (path_of p (run_at live t))) (w (cond (begins_root p t) 1 0) 1) + counted w test p (next_open live t) ts

module _ (w : ℕ → ℕ → ℕ) (additive : IsAdditive w) (test : List ℕ → Bool) where
  none_weighs : w 0 0 ≡ 0
  none_weighs = let h : w 0 0 ≡ w 0 0 + w 0 0 = additive 0 0 0 0 in omega (arith, h)

  -- what an entry and those after it add, where it is an Enter or not
  abbrev tallied_by : Bool → ℕ → List ℕ → ℕ → Mark → List Mark → ℕ
  tallied_by b total path next m ms =
      weigh (test path) (w 0 (next_after b m.number - next))
      + (begun_by w test b (path_after b path m.node) + tallied w test total (path_after b path m.node) (next_after b m.number) ms)

  module _ (p : Program) where
    abbrev pub Claim : List Told → Type 0
    Claim ts = (live : List Told) (n total : ℕ) (path : List ℕ) (next : ℕ) → path ≡ path_of p live → next ≤ n → total ≡ n + length ts → IsNested live n ts
        → tallied w test total path next (marks_where (is_root_node p) ts) ≡ weigh (test path) (w 0 (n - next)) + counted w test p live ts

    -- an event of another node
    other : (t : Told) (ts : List Told) → of_root p t ≡ false → Claim ts → Claim (t ∷ ts)
    other t ts r claim live n total path next stands before all nested =
        let same : path ≡ path_of p (next_open live t) = stands ∙ sym (next_same p live t (suc n) ts r nested.1) in
        let rest = claim (next_open live t) (suc n) total path next same (omega (arith, before)) (omega (arith, all)) (next_nested live t (suc n) ts nested.1) in
        let marks : marks_where (is_root_node p) (t ∷ ts) ≡ marks_where (is_root_node p) ts = ap (λ b. map mark_of (cond b (t ∷ filter (λ x. is_root_node p x.event.node) ts) (filter (λ x. is_root_node p x.event.node) ts))) r in
        let begins : begins_root p t ≡ false = ap (λ b. is_enter t.event.kind && b) r ∙ never (is_enter t.event.kind) in
        let here : weigh (test (path_of p (run_at live t))) (w (cond (begins_root p t) 1 0) 1) ≡ weigh (test path) (w 0 1) =
        ap (λ q. weigh (test q) (w (cond (begins_root p t) 1 0) 1)) (run_same p live t r ∙ sym stands) ∙ ap (λ b. weigh (test path) (w (cond b 1 0) 1)) begins in
        let gap : weigh (test path) (w 0 (suc n - next)) ≡ weigh (test path) (w 0 (n - next)) + weigh (test path) (w 0 1) =
        weigh_sum (test path) _ _ _ (ap (w 0) (one_more n next before) ∙ additive 0 (n - next) 0 1) in
        ap (λ ms. tallied w test total path next ms) marks ∙ rest ∙ omega (arith, gap, here)
      where
        never : (b : Bool) → (b && false) ≡ false
        never true = refl
        never false = refl

        one_more : (n k : ℕ) → k ≤ n → suc n - k ≡ (n - k) + 1
        one_more n k h = omega (arith, h)

    marks_own : (t : Told) (ts : List Told) → of_root p t ≡ true → marks_where (is_root_node p) (t ∷ ts) ≡ mark_of t ∷ marks_where (is_root_node p) ts
    marks_own t ts r = ap (λ b. map mark_of (cond b (t ∷ filter (λ x. is_root_node p x.event.node) ts) (filter (λ x. is_root_node p x.event.node) ts))) r

    -- an activation begins
    enters : (t : Told) (ts : List Told) → of_root p t ≡ true → is_enter t.event.kind ≡ true → Claim ts → Claim (t ∷ ts)
    enters t ts r k claim live n total path next at before all nested =
        let then : List ℕ = path ++ t.event.node ∷ [] in
        let stands : then ≡ path_of p (live ++ t ∷ []) = ap (λ q. q ++ t.event.node ∷ []) at ∙ sym (path_push p live t r) in
        let opened : next_open live t ≡ live ++ t ∷ [] = ap (λ b. opened_by b live t) k in
        let rest = claim (next_open live t) (suc n) total then t.event.number (stands ∙ ap (path_of p) (sym opened)) (omega (arith, nested.0)) (omega (arith, all)) (next_nested live t (suc n) ts nested.1) in
        let up_to : weigh (test path) (w 0 (t.event.number - next)) ≡ weigh (test path) (w 0 (n - next)) = ap (λ j. weigh (test path) (w 0 (j - next))) nested.0 in
        let last : weigh (test then) (w 0 (suc n - t.event.number)) ≡ weigh (test then) (w 0 1) = ap (λ j. weigh (test then) (w 0 j)) (one n t.event.number nested.0) in
        let here : weigh (test (path_of p (run_at live t))) (w (cond (begins_root p t) 1 0) 1) ≡ weigh (test then) (w 1 0) + weigh (test then) (w 0 1) =
        ap (λ b. weigh (test (path_of p (run_by b live t))) (w (cond (b && of_root p t) 1 0) 1)) k
        ∙ ap (λ b. weigh (test (path_of p (live ++ t ∷ []))) (w (cond b 1 0) 1)) r
        ∙ ap (λ q. weigh (test q) (w 1 1)) (sym stands) ∙ weigh_sum (test then) _ _ _ (additive 1 0 0 1) in
        ap (λ ms. tallied w test total path next ms) (marks_own t ts r)
        ∙ ap (λ b. tallied_by b total path next (mark_of t) (marks_where (is_root_node p) ts)) k
        ∙ omega (arith, rest, up_to, last, here)
      where
        one : (n k : ℕ) → k ≡ n → suc n - k ≡ 1
        one n k e = omega (arith, e)

    -- an activation ends
    leaves : (t : Told) (ts : List Told) → of_root p t ≡ true → is_enter t.event.kind ≡ false → Claim ts → Claim (t ∷ ts)
    leaves t ts r k claim live n total path next at before all nested =
        let c : Closing live t = next_closing live t (suc n) ts k nested.1 in
        let then : List ℕ = but_last path in
        let stands : then ≡ path_of p (next_open live t) = ap but_last at ∙ close_path p live t c r ∙ ap (path_of p) (sym (closing_next live t c k)) in
        let rest = claim (next_open live t) (suc n) total then (suc t.event.number) stands (omega (arith, nested.0)) (omega (arith, all)) (next_nested live t (suc n) ts nested.1) in
        let gap : weigh (test path) (w 0 (suc t.event.number - next)) ≡ weigh (test path) (w 0 (n - next)) + weigh (test path) (w 0 1) =
        weigh_sum (test path) _ _ _ (ap (w 0) (one_more t.event.number n next nested.0 before) ∙ additive 0 (n - next) 0 1) in
        let last : weigh (test then) (w 0 (suc n - suc t.event.number)) ≡ 0 = ap (λ j. weigh (test then) (w 0 j)) (none n t.event.number nested.0) ∙ nothing (test then) in
        let here : weigh (test (path_of p (run_at live t))) (w (cond (begins_root p t) 1 0) 1) ≡ weigh (test path) (w 0 1) =
        ap (λ b. weigh (test (path_of p (run_by b live t))) (w (cond (b && of_root p t) 1 0) 1)) k ∙ ap (λ q. weigh (test q) (w 0 1)) (sym at) in
        ap (λ ms. tallied w test total path next ms) (marks_own t ts r)
        ∙ ap (λ b. tallied_by b total path next (mark_of t) (marks_where (is_root_node p) ts)) k
        ∙ omega (arith, rest, gap, last, here)
      where
        one_more : (m n k : ℕ) → m ≡ n → k ≤ n → suc m - k ≡ (n - k) + 1
        one_more m n k e h = omega (arith, e, h)

        none : (n k : ℕ) → k ≡ n → suc n - suc k ≡ 0
        none n k e = omega (arith, e)

        nothing : (b : Bool) → weigh b (w 0 0) ≡ 0
        nothing true = none_weighs
        nothing false = refl

    -- no events are left
    over : Claim []
    over live n total path next stands before all nested =
        ap (λ j. weigh (test path) (w 0 (j - next))) (here n total all) ∙ zero_more _
      where
        here : (n total : ℕ) → total ≡ n + 0 → total ≡ n
        here n total e = omega (arith, e)

        zero_more : (k : ℕ) → k ≡ k + 0
        zero_more k = omega arith

    pub events_count : (ts : List Told) → Claim ts
    events_count [] = over
    events_count (t ∷ ts) = ⊎_elim
        (λ (r : of_root p t ≡ true). ⊎_elim
        (λ (k : is_enter t.event.kind ≡ true). enters t ts r k (events_count ts))
        (λ (k : is_enter t.event.kind ≡ false). leaves t ts r k (events_count ts))
        (cases_Bool (is_enter t.event.kind)))
        (λ (r : of_root p t ≡ false). other t ts r (events_count ts))
        (cases_Bool (of_root p t))
