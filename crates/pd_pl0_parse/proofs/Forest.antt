-- The nodes of trees before their parts: each has the parts that it announces.
use Rattle.std.proofs.Common.{◌≡◌, ℕ, suc, ◌+◌, ◌≤◌, List, [], ◌∷◌, ◌++◌, length, drop, refl, sym, ap, subst, ◌∙◌, append_assoc, length-append, arith}
use Rattle.pd_turn.specs.declared.Node.{Node}
use Rattle.pd_turn.specs.Turned.{Rose, rose, Roses, none, also, count, pre, pres}

-- the nodes that are part of no other, of those from number n on
abbrev pub node_tops : {T : Type 0} → ℕ → List (Node T) → List ℕ
node_tops n [] = []
node_tops n (x ∷ xs) = n ∷ drop x.parts (node_tops (n + 1) xs)

abbrev pub AllAnnounced : {T : Type 0} → List (Node T) → Type 0
AllAnnounced [] = Unit {0}
AllAnnounced (x ∷ xs) = (x.parts ≤ length (node_tops 0 xs)) × AllAnnounced xs

-- where the trees begin
abbrev pub heads : {T : Type 0} → ℕ → Roses T → List ℕ
heads n none = []
heads n (also t ts) = n ∷ heads (n + length (pre t)) ts

heads_dropped : {T : Type 0} → (n : ℕ) (ts : Roses T) (l : List ℕ) → drop (count ts) (heads n ts ++ l) ≡ l
heads_dropped n none l = refl
heads_dropped n (also t ts) l = heads_dropped (n + length (pre t)) ts l

heads_counted : {T : Type 0} → (n : ℕ) (ts : Roses T) → length (heads n ts) ≡ count ts
heads_counted n none = refl
heads_counted n (also t ts) = ap (λ m. suc m) (heads_counted (n + length (pre t)) ts)

add_none : (n : ℕ) → n + 0 ≡ n
add_none n = omega arith

one_on : (n m : ℕ) → (n + 1) + m ≡ n + suc m
one_on n m = omega arith

regrouped : (n a b c : ℕ) → c ≡ a + b → (n + a) + b ≡ n + c
regrouped n a b c h = omega (arith, h)

mutual
  pub tree_tops : {T : Type 0} → (t : Rose T) (n : ℕ) (rest : List (Node T)) → node_tops n (pre t ++ rest) ≡ n ∷ node_tops (n + length (pre t)) rest
  tree_tops (rose x ts) n rest =
      ap (λ l. n ∷ drop (count ts) l) (parts_tops ts (n + 1) rest)
      ∙ ap (λ l. n ∷ l) (heads_dropped (n + 1) ts (node_tops ((n + 1) + length (pres ts)) rest))
      ∙ ap (λ m. n ∷ node_tops m rest) (one_on n (length (pres ts)))

  pub parts_tops : {T : Type 0} → (ts : Roses T) (n : ℕ) (rest : List (Node T)) → node_tops n (pres ts ++ rest) ≡ heads n ts ++ node_tops (n + length (pres ts)) rest
  parts_tops none n rest = ap (λ m. node_tops m rest) (sym (add_none n))
  parts_tops (also t ts) n rest =
      ap (node_tops n) (append_assoc (pre t) (pres ts) rest)
      ∙ tree_tops t n (pres ts ++ rest)
      ∙ ap (λ l. n ∷ l) (parts_tops ts (n + length (pre t)) rest)
      ∙ ap (λ m. n ∷ (heads (n + length (pre t)) ts ++ node_tops m rest)) (regrouped n (length (pre t)) (length (pres ts)) (length (pre t ++ pres ts)) (length-append (pre t) (pres ts)))

parts_there : {T : Type 0} → (ts : Roses T) (rest : List (Node T)) → count ts ≤ length (node_tops 0 (pres ts ++ rest))
parts_there ts rest = omega (arith, ap length (parts_tops ts 0 rest), length-append (heads 0 ts) (node_tops (0 + length (pres ts)) rest), heads_counted 0 ts)

mutual
  tree_announced : {T : Type 0} → (t : Rose T) (rest : List (Node T)) → AllAnnounced rest → AllAnnounced (pre t ++ rest)
  tree_announced (rose x ts) rest h = (parts_there ts rest, parts_announced ts rest h)

  pub parts_announced : {T : Type 0} → (ts : Roses T) (rest : List (Node T)) → AllAnnounced rest → AllAnnounced (pres ts ++ rest)
  parts_announced none rest h = h
  parts_announced (also t ts) rest h = subst AllAnnounced (sym (append_assoc (pre t) (pres ts) rest)) (tree_announced t (pres ts ++ rest) (parts_announced ts rest h))
