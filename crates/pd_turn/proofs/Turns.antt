-- From behind their parts to before them.
use Rattle.std.proofs.Common.{◌≡◌, Bool, true, false, ◌≤◌, ℕ, zero, suc, ◌+◌, List, length, [], ◌∷◌, ◌++◌, reverse, refl, sym, ap, ◌∙◌, append_assoc, zero-add, arith}
use Rattle.std.proofs.lemmas.List.{reverse-append, reverse-reverse}
use Rattle.pd_turn.specs.declared.Node.{Node}
use Rattle.pd_turn.specs.declared.Pending.{Pending}
use Rattle.std.proofs.lemmas.Bool.{lt-ltb, le-ltb}
use Rattle.std.specs.Prelude.{◌≢◌, nat_lt, if◌then◌else◌, ◌-◌, ◌<◌}
use Rattle.pd_turn.specs.Turned.{Rose, rose, Roses, none, also, count, post, posts, pre, pres, part_done, turn_at, turns}

abbrev pub Both : Type 0 → Type 0
Both T = List (Pending T) × List (Node T)

abbrev pub both : {T : Type 0} → List (Pending T) → List (Node T) → Both T
both k out = (k, out)

abbrev pub counted : {T : Type 0} → T → ℕ → Node T
counted x n = record { what = x; parts = n }

abbrev pub pending : {T : Type 0} → Node T → ℕ → Pending T
pending y n = record { node = y; missing = n }

turns_append : {T : Type 0} → (xs ys : List (Node T)) (s : Both T) → turns (xs ++ ys) s ≡ turns ys (turns xs s)
unfolding turns
turns_append [] ys s = refl
turns_append (x ∷ xs) ys s = turns_append xs ys (turn_at x.parts x s.0 s.1)

part_missing : {T : Type 0} → (y : Node T) (n : ℕ) (k : List (Pending T)) (out : List (Node T)) → part_done (pending y (suc (suc n)) ∷ k) out ≡ (pending y (suc n) ∷ k, out)
unfolding part_done
part_missing y n k out =
    let r = part_done k (out ++ y ∷ []) in
    let t : nat_lt 1 (suc (suc n)) ≡ true = lt-ltb 1 (suc (suc n)) (omega arith) in
    let m : suc (suc n) - 1 ≡ suc n = omega arith in
    ap (λ b. if b then both (pending y (suc (suc n) - 1) ∷ k) out else r) t ∙ ap (λ x. both (pending y x ∷ k) out) m

last_part : {T : Type 0} → (y : Node T) (k : List (Pending T)) (out : List (Node T)) → part_done (pending y (suc zero) ∷ k) out ≡ part_done k (out ++ y ∷ [])
unfolding part_done
last_part y k out = refl

turns_one : {T : Type 0} → (x : Node T) (xs : List (Node T)) (k : List (Pending T)) (out : List (Node T)) → turns (x ∷ xs) (k, out) ≡ turns xs (turn_at x.parts x k out)
unfolding turns
turns_one x xs k out = refl

turns_none : {T : Type 0} → (s : Both T) → turns [] s ≡ s
unfolding turns
turns_none s = refl

reverse_last : {T : Type 0} → (xs : List (Node T)) (e : Node T) → reverse (xs ++ e ∷ []) ≡ e ∷ reverse xs
reverse_last xs e = reverse-append xs (e ∷ [])

reverse_first : {T : Type 0} → (e : Node T) (xs : List (Node T)) → reverse (e ∷ xs) ≡ reverse xs ++ e ∷ []
reverse_first e xs = reverse-append (e ∷ []) xs

one_before : (n : ℕ) → suc n ≡ n + suc 0
one_before n = omega arith

suc_before : (n m : ℕ) → suc n + suc m ≡ n + suc (suc m)
suc_before n m = omega arith

append_none : {T : Type 0} → (xs : List (Node T)) → xs ++ [] ≡ xs
append_none [] = refl
append_none (x ∷ xs) = ap (λ ys. x ∷ ys) (append_none xs)

-- the entries of some parts and one more, from the last to the first
split_turned : {T : Type 0} → (xs ys : List (Node T)) (s : Both T) → turns (reverse (xs ++ ys)) s ≡ turns (reverse xs) (turns (reverse ys) s)
split_turned xs ys s = ap (λ l. turns l s) (reverse-append xs ys) ∙ turns_append (reverse ys) (reverse xs) s

done_order : {T : Type 0} → (out as' bs : List (Node T)) → out ++ reverse bs ++ reverse as' ≡ out ++ reverse (as' ++ bs)
done_order out as' bs = append_assoc out (reverse bs) (reverse as') ∙ ap (λ l. out ++ l) (sym (reverse-append as' bs))

last_order : {T : Type 0} → (out as' bs : List (Node T)) (e : Node T) → (out ++ reverse bs ++ reverse as') ++ e ∷ [] ≡ out ++ reverse (e ∷ (as' ++ bs))
last_order out as' bs e = ap (λ l. l ++ e ∷ []) (done_order out as' bs) ∙ append_assoc out (reverse (as' ++ bs)) (e ∷ []) ∙ ap (λ l. out ++ l) (sym (reverse_first e (as' ++ bs)))

mutual
  pub tree_turned : {T : Type 0} → (t : Rose T) (k : List (Pending T)) (out : List (Node T)) → turns (reverse (post t)) (k, out) ≡ part_done k (out ++ reverse (pre t))
  tree_turned (rose x none) k out = turns_one (record { what = x; parts = 0 }) [] k out ∙ turns_none _
  tree_turned (rose x (also t ts)) k out =
      let e = counted x (suc (count ts)) in
      ap (λ l. turns l (both k out)) (reverse_last (post t ++ posts ts) e)
      ∙ turns_one e (reverse (post t ++ posts ts)) k out
      ∙ split_turned (post t) (posts ts) (both (pending e (suc (count ts)) ∷ k) out)
      ∙ ap (λ n. turns (reverse (post t)) (turns (reverse (posts ts)) (both (pending e n ∷ k) out))) (one_before (count ts))
      ∙ ap (turns (reverse (post t))) (parts_turned ts e 0 k out)
      ∙ tree_turned t (pending e (suc zero) ∷ k) (out ++ reverse (pres ts))
      ∙ last_part e k (out ++ reverse (pres ts) ++ reverse (pre t))
      ∙ ap (part_done k) (last_order out (pre t) (pres ts) e)

  pub parts_turned : {T : Type 0} → (ts : Roses T) (y : Node T) (m : ℕ) (k : List (Pending T)) (out : List (Node T)) → turns (reverse (posts ts)) (pending y (count ts + suc m) ∷ k, out) ≡ (pending y (suc m) ∷ k, out ++ reverse (pres ts))
  parts_turned none y m k out = turns_none _ ∙ ap (λ n. both (pending y n ∷ k) out) (zero-add (suc m)) ∙ ap (both (pending y (suc m) ∷ k)) (sym (append_none out))
  parts_turned (also t ts) y m k out =
      split_turned (post t) (posts ts) (both (pending y (suc (count ts) + suc m) ∷ k) out)
      ∙ ap (λ n. turns (reverse (post t)) (turns (reverse (posts ts)) (both (pending y n ∷ k) out))) (suc_before (count ts) m)
      ∙ ap (turns (reverse (post t))) (parts_turned ts y (suc m) k out)
      ∙ tree_turned t (pending y (suc (suc m)) ∷ k) (out ++ reverse (pres ts))
      ∙ part_missing y m k (out ++ reverse (pres ts) ++ reverse (pre t))
      ∙ ap (both (pending y (suc m) ∷ k)) (done_order out (pre t) (pres ts))

pub nothing_open : {T : Type 0} → (out : List (Node T)) → part_done [] out ≡ both [] out
unfolding part_done
nothing_open out = refl

-- Trees one behind the other, where nothing is open.
forest_turned : {T : Type 0} → (ts : Roses T) (out : List (Node T)) → turns (reverse (posts ts)) ([], out) ≡ both [] (out ++ reverse (pres ts))
forest_turned none out = turns_none _ ∙ ap (both []) (sym (append_none out))
forest_turned (also t ts) out =
    split_turned (post t) (posts ts) (both [] out)
    ∙ ap (turns (reverse (post t))) (forest_turned ts out)
    ∙ tree_turned t [] (out ++ reverse (pres ts))
    ∙ nothing_open (out ++ reverse (pres ts) ++ reverse (pre t))
    ∙ ap (both []) (done_order out (pre t) (pres ts))

-- Read from the last to the first, the nodes behind their parts give those before their parts, from the last to the first.
pub turned : {T : Type 0} → (ts : Roses T) → turns (reverse (posts ts)) ([], []) ≡ both [] (reverse (pres ts))
turned ts = forest_turned ts []

-- One part more, where the innermost open node is the last of a list.
more_step : {T : Type 0} → (p : Pending T) (k : List (Pending T)) (out : List (Node T)) (b : Bool) → nat_lt 1 p.missing ≡ b → part_done (p ∷ k) out ≡ (if b then both (record { node = p.node; missing = p.missing - 1 } ∷ k) out else part_done k (out ++ p.node ∷ []))
unfolding part_done
more_step p k out b e = ap (λ b. if b then both (record { node = p.node; missing = p.missing - 1 } ∷ k) out else part_done k (out ++ p.node ∷ [])) e

reverse_top : {T : Type 0} → (k : List (Pending T)) (p : Pending T) → reverse (k ++ p ∷ []) ≡ p ∷ reverse k
reverse_top k p = reverse-append k (p ∷ [])

pub part_left : {T : Type 0} → (xs ys k : List (Pending T)) (p : Pending T) (out : List (Node T)) → xs ≡ k ++ p ∷ [] → 1 < p.missing → ys ≡ k ++ record { node = p.node; missing = p.missing - 1 } ∷ [] → both (reverse ys) out ≡ part_done (reverse xs) out
part_left xs ys k p out e lt e' =
    ap (λ l. both (reverse l) out) e' ∙ ap (λ l. both l out) (reverse_top k (record { node = p.node; missing = p.missing - 1 }))
    ∙ sym (ap (λ l. part_done (reverse l) out) e ∙ ap (λ l. part_done l out) (reverse_top k p) ∙ more_step p (reverse k) out true (lt-ltb 1 p.missing lt))

pub part_last : {T : Type 0} → (xs k : List (Pending T)) (p : Pending T) (out out' : List (Node T)) → xs ≡ k ++ p ∷ [] → p.missing ≤ 1 → out' ≡ out ++ p.node ∷ [] → part_done (reverse k) out' ≡ part_done (reverse xs) out
part_last xs k p out out' e le e' =
    ap (part_done (reverse k)) e'
    ∙ sym (ap (λ l. part_done (reverse l) out) e ∙ ap (λ l. part_done l out) (reverse_top k p) ∙ more_step p (reverse k) out false (le-ltb 1 p.missing le))

pub part_none : {T : Type 0} → (xs k : List (Pending T)) (out : List (Node T)) → length xs ≡ 0 → xs ≡ k ++ [] → both (reverse k) out ≡ part_done (reverse xs) out
part_none [] [] out e h = sym (nothing_open out)
part_none [] (p ∷ k) out e h = absurd (cc)
part_none (p ∷ xs) k out e h = absurd (omega arith)

-- The last entry of a list is the next to be turned.
turn_next : {T : Type 0} → (xs k : List (Node T)) (x : Node T) (s : Both T) → xs ≡ k ++ x ∷ [] → turns (reverse xs) s ≡ turns (reverse k) (turn_at x.parts x s.0 s.1)
turn_next xs k x s e = ap (λ l. turns (reverse l) s) e ∙ ap (λ l. turns l s) (reverse_last k x) ∙ turns_one x (reverse k) s.0 s.1

pub leaf_next : {T : Type 0} → (xs k : List (Node T)) (us us' : List (Pending T)) (x : Node T) (out out1 out' : List (Node T)) → xs ≡ k ++ x ∷ [] → x.parts ≡ 0 → out1 ≡ out ++ x ∷ [] → both (reverse us') out' ≡ part_done (reverse us) out1 → turns (reverse k) (both (reverse us') out') ≡ turns (reverse xs) (both (reverse us) out)
leaf_next xs k us us' x out out1 out' e z p d =
    ap (turns (reverse k)) (d ∙ ap (part_done (reverse us)) p ∙ sym (ap (λ n. turn_at n x (reverse us) out) z))
    ∙ sym (turn_next xs k x (both (reverse us) out) e)

node_at : {T : Type 0} → (n : ℕ) (x : Node T) (us : List (Pending T)) (out : List (Node T)) → n ≢ 0 → turn_at n x us out ≡ both (pending x n ∷ us) out
node_at zero x us out h = absurd (h refl)
node_at (suc n) x us out h = refl

pub node_next : {T : Type 0} → (xs k : List (Node T)) (us us' : List (Pending T)) (x : Node T) (out : List (Node T)) → xs ≡ k ++ x ∷ [] → x.parts ≢ 0 → us' ≡ us ++ pending x x.parts ∷ [] → turns (reverse k) (both (reverse us') out) ≡ turns (reverse xs) (both (reverse us) out)
node_next xs k us us' x out e z p =
    ap (turns (reverse k)) (ap (λ l. both (reverse l) out) p ∙ ap (λ l. both l out) (reverse_top us (pending x x.parts)) ∙ sym (node_at x.parts x (reverse us) out z))
    ∙ sym (turn_next xs k x (both (reverse us) out) e)

pub all_turned : {T : Type 0} → (xs k ns : List (Node T)) (us : List (Pending T)) (out : List (Node T)) (t : Roses T) → length xs ≡ 0 → turns (reverse xs) (both us out) ≡ turns (reverse ns) ([], []) → ns ≡ posts t → reverse out ≡ pres t
all_turned [] k ns us out t e h p =
    let g : both us out ≡ both [] (reverse (pres t)) = sym (turns_none (both us out)) ∙ h ∙ ap (λ l. turns (reverse l) ([], [])) p ∙ turned t in
    ap (λ s. reverse s.1) g ∙ reverse-reverse (pres t)
all_turned (x ∷ xs) k ns us out t e h p = absurd (omega arith)
