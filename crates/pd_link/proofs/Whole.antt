-- The nodes of all sources together are whole where those of each source are.
use Rattle.std.proofs.Common.{◌≡◌, refl, sym, ◌∙◌, ap, subst, ℕ, zero, suc, ◌+◌, ◌≤◌, IsTrue, List, [], ◌∷◌, ◌++◌, length, drop, map, arith, add-zero, length-append}
use Rattle.std.proofs.lemmas.List.{drop-append-le, drop-map, get_or-append-add}
use Rattle.pd_tree.specs.declared.addition.Addition.{Addition}
use Rattle.pd_tree.specs.Kinds.{is_root}
use Rattle.pd_tree.specs.Linked.{no_addition, kind_at, tops, AllComplete, AllRoots, IsWhole, joined}
use Rattle.pd_link.specs.Linking.{AllWhole}
use Rattle.pd_link.proofs.Shapes.{length-tops}

abbrev pub IsRootAt : List Addition → ℕ → Type 0
IsRootAt all m = IsTrue (is_root (kind_at all m))

-- ---- the nodes that are part of no other

tops-append : (n : ℕ) (xs ys : List Addition) → AllComplete xs → tops n (xs ++ ys) ≡ tops n xs ++ tops (n + length xs) ys
tops-append n [] ys h = ap (λ k. tops k ys) (sym (add-zero n))
tops-append n (a ∷ rest) ys h =
    let enough : a.children ≤ length (tops (n + 1) rest) = let c = h.0 in omega (arith, length-tops 0 (n + 1) rest) in
    let next : n + 1 + length rest ≡ n + suc (length rest) = omega arith in
    ap (λ ms. n ∷ drop a.children ms) (tops-append (n + 1) rest ys h.4)
    ∙ ap (λ ms. n ∷ ms) (drop-append-le a.children (tops (n + 1) rest) (tops (n + 1 + length rest) ys) enough)
    ∙ ap (λ k. n ∷ (drop a.children (tops (n + 1) rest) ++ tops k ys)) next

complete-append : (xs ys : List Addition) → AllComplete xs → AllComplete ys → AllComplete (xs ++ ys)
complete-append [] ys h g = g
complete-append (a ∷ rest) ys h g =
    let enough : a.children ≤ length (tops 0 (rest ++ ys)) =
    let c = h.0 in
    omega (arith, ap length (tops-append 0 rest ys h.4), length-append (tops 0 rest) (tops (0 + length rest) ys)) in
    (enough, h.1, h.2, h.3, complete-append rest ys h.4 g)

tops-shift : (k n : ℕ) (rest : List Addition) → tops (k + n) rest ≡ map (λ m. k + m) (tops n rest)
tops-shift k n [] = refl
tops-shift k n (a ∷ rest) =
    let next : k + n + 1 ≡ k + (n + 1) = omega arith in
    ap (λ i. (k + n) ∷ drop a.children (tops i rest)) next
    ∙ ap (λ ms. (k + n) ∷ drop a.children ms) (tops-shift k (n + 1) rest)
    ∙ ap (λ ms. (k + n) ∷ ms) (drop-map (λ m. k + m) a.children (tops (n + 1) rest))

-- ---- their kinds

root-front : (xs ys : List Addition) (m : ℕ) → IsRootAt xs m → IsRootAt (xs ++ ys) m
root-front [] ys zero h = cc
root-front [] ys (suc m) h = cc
root-front (x ∷ xs) ys zero h = h
root-front (x ∷ xs) ys (suc m) h = root-front xs ys m h

roots-front : (xs ys : List Addition) (ms : List ℕ) → AllRoots xs ms → AllRoots (xs ++ ys) ms
roots-front xs ys [] h = tt
roots-front xs ys (m ∷ ms) h = (root-front xs ys m h.0, roots-front xs ys ms h.1)

roots-back : (xs ys : List Addition) (ms : List ℕ) → AllRoots ys ms → AllRoots (xs ++ ys) (map (λ m. length xs + m) ms)
roots-back xs ys [] h = tt
roots-back xs ys (m ∷ ms) h =
    (subst (λ (a : Addition). IsTrue (is_root a.kind)) (sym (get_or-append-add xs ys m no_addition)) h.0, roots-back xs ys ms h.1)

roots-append : (all : List Addition) (ms ns : List ℕ) → AllRoots all ms → AllRoots all ns → AllRoots all (ms ++ ns)
roots-append all [] ns h g = g
roots-append all (m ∷ ms) ns h g = (h.0, roots-append all ms ns h.1 g)

-- ---- sources

whole-append : (xs ys : List Addition) → IsWhole xs → IsWhole ys → IsWhole (xs ++ ys)
whole-append xs ys h g =
    let place : 0 + length xs ≡ length xs + 0 = omega arith in
    let shifted : tops (0 + length xs) ys ≡ map (λ m. length xs + m) (tops 0 ys) = ap (λ k. tops k ys) place ∙ tops-shift (length xs) 0 ys in
    let all : tops 0 (xs ++ ys) ≡ tops 0 xs ++ map (λ m. length xs + m) (tops 0 ys) =
    tops-append 0 xs ys h.complete ∙ ap (λ ms. tops 0 xs ++ ms) shifted in
    record {
      complete = complete-append xs ys h.complete g.complete;
      roots = subst (AllRoots (xs ++ ys)) (sym all) (roots-append (xs ++ ys) (tops 0 xs) _ (roots-front xs ys (tops 0 xs) h.roots) (roots-back xs ys (tops 0 ys) g.roots));
    }

pub whole-joined : (trees : List (List Addition)) → AllWhole trees → IsWhole (joined trees)
whole-joined [] h = record { complete = tt; roots = tt }
whole-joined (t ∷ ts) h = whole-append t (joined ts) h.0 (whole-joined ts h.1)
