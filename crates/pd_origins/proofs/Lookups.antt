-- What the code reads and changes, in the words of the twin.
use Rattle.std.proofs.Common.{◌≡◌, ℕ, zero, suc, ◌-◌, ◌<◌, ◌≤◌, false, cond, List, [], ◌∷◌, length, take, Option, Some, None, get_or, refl, sym, ap, ◌∙◌, arith}
use Rattle.std.specs.Prelude.{nat_lt, slice_get, slice_index_or}
use Rattle.std.proofs.lemmas.Bool.{cond-true, cond-false, lt-ltb}
use Rattle.std.proofs.lemmas.Bool.Decides.{nat_tests}
use Rattle.std.proofs.lemmas.Option.{same_Some}
use Rattle.pd_running.specs.Laws.{but_last}
use Rattle.pd_framing.specs.Framing.{blocks_seen}
use Rattle.pd_framing.proofs.Lists.{map_length}
use Rattle.pd_origins.specs.declared.ledger.Live.{Live}
use Rattle.pd_origins.specs.Ledger.{seen_in, latest}

pub latest_some : (slot : ℕ) (xs : List (Option ℕ)) (x : Option ℕ) → slice_get xs slot ≡ Some x → latest slot xs ≡ x
latest_some slot [] x h = absurd (cc)
latest_some zero (y ∷ xs) x h = same_Some y x h
latest_some (suc slot) (y ∷ xs) x h = latest_some slot xs x h

pub latest_none : (slot : ℕ) (xs : List (Option ℕ)) → slice_get xs slot ≡ None → latest slot xs ≡ None
latest_none slot [] h = refl
latest_none zero (y ∷ xs) h = absurd (cc)
latest_none (suc slot) (y ∷ xs) h = latest_none slot xs h

-- without the last element
pub but_last_take : {A : Type 0} (xs : List A) → take (length xs - 1) xs ≡ but_last xs
but_last_take [] = refl
but_last_take (x ∷ []) = refl
but_last_take (x ∷ y ∷ xs) = ap (λ k. take k (x ∷ y ∷ xs)) (more (length xs)) ∙ ap (λ ys. x ∷ ys) (ap (λ k. take k (y ∷ xs)) (sym (one (length xs))) ∙ but_last_take (y ∷ xs))
  where
    more : (k : ℕ) → suc (suc k) - 1 ≡ suc k
    more k = omega arith

    one : (k : ℕ) → suc k - 1 ≡ k
    one k = omega arith

mapped_at : (live : List Live) (k : ℕ) (x : Live) → k < length live → x ≡ get_or live k x → slice_index_or (seen_in live) k [] ≡ x.blocks
mapped_at [] k x h e = absurd (omega arith)
mapped_at (y ∷ live) zero x h e = ap (λ z. z.blocks) (sym e)
mapped_at (y ∷ live) (suc k) x h e = mapped_at live k x (omega arith) e

pub seen_at : (live : List Live) (i : ℕ) (x : Live) → i < length live → x ≡ get_or live (length live - 1 - i) x → blocks_seen (seen_in live) i ≡ x.blocks
seen_at live i x h e =
    let place : length live - 1 - i ≡ length live - suc i = omega arith in
    ap (λ k. cond (nat_lt i k) (slice_index_or (seen_in live) (k - suc i) []) []) (map_length (λ (x : Live). x.blocks) live)
    ∙ cond-true (nat_lt i (length live)) _ [] (lt-ltb i (length live) h)
    ∙ mapped_at live (length live - suc i) x (omega (arith, h)) (e ∙ ap (λ k. get_or live k x) place)

pub seen_past : (live : List Live) (i : ℕ) → length live ≤ i → blocks_seen (seen_in live) i ≡ []
seen_past live i h =
    ap (λ k. cond (nat_lt i k) (slice_index_or (seen_in live) (k - suc i) []) []) (map_length (λ (x : Live). x.blocks) live)
    ∙ cond-false (nat_lt i (length live)) _ [] (past i (length live) h)
  where
    past : (i n : ℕ) → n ≤ i → nat_lt i n ≡ false
    past i n h = grind (arith, nat_tests, h)
