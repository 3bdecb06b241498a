-- The bits of nodes, as the rows of the bindings are put in one after another.
use Rattle.std.proofs.Common.{◌≡◌, ◌≢◌, ℕ, zero, suc, ◌+◌, ◌*◌, ◌/◌, ◌%◌, ◌<◌, ◌≤◌, List, [], ◌∷◌, length, Bool, true, false, ◌==◌, ◌&&◌, ◌||◌, sym, refl, ap, ◌∙◌, subst, arith, get_or, eq-eqb, ne_eqb}
use Rattle.std.specs.Prelude.{nat_lt, slice_index}
use Rattle.std.specs.List.{All, list_any}
use Rattle.std.specs.Int.{bit_at}
use Rattle.std.proofs.lemmas.Bool.Decides.{nat_tests}
use Rattle.pd_board.proofs.ChainLemmas.{by_eq, by_lt}
use Rattle.pd_board.specs.NodeBits.{stands_in}
use Rattle.pd_core.specs.Words.{bit_of}

same_default : (xs : List ℕ) (k a b : ℕ) → k < length xs → get_or xs k a ≡ get_or xs k b
same_default [] k a b lt = absurd (omega arith)
same_default (x ∷ xs) zero a b lt = refl
same_default (x ∷ xs) (suc k) a b lt = same_default xs k a b (omega arith)

pub all_within : (xs : List ℕ) (nodes : ℕ) → ((k : ℕ) → k < length xs → slice_index xs k < nodes) → All (λ n. n < nodes) xs
all_within xs nodes h k d lt = subst (λ (n : ℕ). n < nodes) (same_default xs k 0 d lt) (h k lt)

pub rows_past : (rows : List (List ℕ)) (b : ℕ) → length rows ≤ b → get_or rows b [] ≡ []
rows_past [] b h = refl
rows_past (x ∷ xs) zero h = absurd (omega arith)
rows_past (x ∷ xs) (suc b) h = rows_past xs b (omega arith)

below_is : (c b : ℕ) → c < b → nat_lt c b ≡ true
below_is c b h = grind (arith, nat_tests)

above_is : (c b : ℕ) → b ≤ c → nat_lt c b ≡ false
above_is c b h = grind (arith, nat_tests)

next_is : (c b : ℕ) → c ≢ b → nat_lt c (b + 1) ≡ nat_lt c b
next_is c b ne = by_lt c b
    (λ (h : c < b). below_is c (b + 1) (omega arith) ∙ sym (below_is c b h))
    (λ (h : b ≤ c). above_is c (b + 1) (omega arith) ∙ sym (above_is c b h))

-- the row of one more binding
pub next_row : (rows : List (List ℕ)) (row : List ℕ) (b m c : ℕ) → row ≡ get_or rows b [] → ((list_any (λ n. n == m) row && c == b) || (nat_lt c b && list_any (λ n. n == m) (get_or rows c []))) ≡ (nat_lt c (b + 1) && list_any (λ n. n == m) (get_or rows c []))
next_row rows row b m c is = by_eq c b
    (λ (e : c ≡ b). here (list_any (λ n. n == m) row) (list_any (λ n. n == m) (get_or rows c [])) (c == b) (nat_lt c b) (nat_lt c (b + 1)) (ap (list_any (λ n. n == m)) (is ∙ ap (λ (i : ℕ). get_or rows i []) (sym e))) (eq-eqb c b e) (above_is c b (omega arith)) (below_is c (b + 1) (omega arith)))
    (λ (ne : c ≢ b). other (list_any (λ n. n == m) row) (list_any (λ n. n == m) (get_or rows c [])) (c == b) (nat_lt c b) (nat_lt c (b + 1)) (ne_eqb c b ne) (next_is c b ne))
  where
    here : (s t same low next : Bool) → s ≡ t → same ≡ true → low ≡ false → next ≡ true → ((s && same) || (low && t)) ≡ (next && t)
    here true t true false true e _ _ _ = e
    here false t true false true e _ _ _ = e
    here s t false low next e q _ _ = absurd (cc)
    here s t true true next e _ q _ = absurd (cc)
    here s t true false false e _ _ q = absurd (cc)

    none : (s : Bool) → (s && false) ≡ false
    none true = refl
    none false = refl

    other : (s t same low next : Bool) → same ≡ false → next ≡ low → ((s && same) || (low && t)) ≡ (next && t)
    other s t same low next e f = ap (λ (x : Bool). (s && x) || (low && t)) e ∙ (ap (λ (x : Bool). x || (low && t)) (none s) ∙ ap (λ (x : Bool). x && t) (sym f))

-- all rows are in
pub all_rows : (rows : List (List ℕ)) (b m c : ℕ) → length rows ≤ b → (nat_lt c b && list_any (λ n. n == m) (get_or rows c [])) ≡ list_any (λ n. n == m) (get_or rows c [])
all_rows rows b m c past = by_lt c b
    (λ (h : c < b). ap (λ (t : Bool). t && list_any (λ n. n == m) (get_or rows c [])) (below_is c b h))
    (λ (h : b ≤ c). ap (λ (t : Bool). t && list_any (λ n. n == m) (get_or rows c [])) (above_is c b h) ∙ sym (ap (list_any (λ n. n == m)) (rows_past rows c (omega arith))))

-- no row is in
pub no_rows : (c : ℕ) (t : Bool) → false ≡ (nat_lt c 0 && t)
no_rows c t = ap (λ (x : Bool). x && t) (sym (above_is c 0 (omega arith)))

-- a word that was read tells the bits of its bindings
pub word_tells : (width : ℕ) (words : List ℕ) (n r b x : ℕ) → r < width → x ≡ slice_index words (n * width + r) → b / 64 ≡ r → (bit_of x (b % 64) == 1) ≡ stands_in width words n b
unfolding bit_of
word_tells width words n r b x lt is here =
    ap (λ (k : ℕ). bit_at k (b % 64) == 1) (is ∙ ap (λ (k : ℕ). slice_index words (n * width + k)) (sym here))
    ∙ sym (ap (λ (t : Bool). t && bit_at (slice_index words (n * width + b / 64)) (b % 64) == 1) (below_is (b / 64) width (omega arith)))
