-- Where the words lie.
use Rattle.std.proofs.Common.{◌≡◌, ◌≢◌, ℕ, ◌+◌, ◌*◌, ◌/◌, ◌%◌, ◌<◌, ◌≤◌, List, set, refl, ap, arith, get_or-set_other}
use Rattle.std.specs.Prelude.{slice_index}
use Rattle.std.proofs.lemmas.Nat.{row_fits, same_from_place}
use Rattle.pd_core.specs.Layout.{Layout, bindings, width, row_at, front}
use Rattle.pd_core.specs.Words.{bit_of, mark, summary}

pub row_of : (p : Layout) (b : ℕ) → b < bindings p → b / 64 < width p
unfolding width
row_of p b h = omega arith

pub row_inside : (p : Layout) (n r : ℕ) → n < p.nodes → r < width p → row_at p n r < front p
unfolding row_at front
row_inside p n r h k = omega (arith, row_fits n (width p) p.nodes (width p) h (omega arith))

pub node_inside : (p : Layout) (n : ℕ) → n < p.nodes → n < front p
unfolding front
node_inside p n h = omega arith

pub row_behind : (p : Layout) (n r : ℕ) → p.nodes ≤ row_at p n r
unfolding row_at
row_behind p n r = omega arith

pub row_apart : (p : Layout) (n r k q : ℕ) → r < width p → q < width p → row_at p n r ≡ row_at p k q → (n ≡ k) × (r ≡ q)
unfolding row_at
row_apart p n r k q h i e = same_from_place n r k q (width p) h i (omega arith)

-- a write to another word
pub mark_other : (p : Layout) (ws : List ℕ) (i x n b : ℕ) → row_at p n (b / 64) ≢ i → mark p (set ws i x) n b ≡ mark p ws n b
unfolding mark
mark_other p ws i x n b ne = ap (λ w. bit_of w (b % 64)) (get_or-set_other ws i (row_at p n (b / 64)) x 0 ne)

pub summary_other : (ws : List ℕ) (i x n r : ℕ) → n ≢ i → summary (set ws i x) n r ≡ summary ws n r
unfolding summary
summary_other ws i x n r ne = ap (λ w. bit_of w r) (get_or-set_other ws i n x 0 ne)

pub mark_is : (p : Layout) (ws : List ℕ) (n b : ℕ) → mark p ws n b ≡ bit_of (slice_index ws (row_at p n (b / 64))) (b % 64)
unfolding mark
mark_is p ws n b = refl

pub summary_is : (ws : List ℕ) (n r : ℕ) → summary ws n r ≡ bit_of (slice_index ws n) r
unfolding summary
summary_is ws n r = refl

pub row_is : (p : Layout) (n r : ℕ) → row_at p n r ≡ p.nodes + (n * width p + r)
unfolding row_at
row_is p n r = refl

pub front_is : (p : Layout) → front p ≡ p.nodes + p.nodes * width p
unfolding front
front_is p = refl

pub width_is : (p : Layout) → width p ≡ (bindings p + 63) / 64
unfolding width
width_is p = refl
