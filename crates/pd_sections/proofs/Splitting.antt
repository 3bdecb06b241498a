-- A text splits in one way at most, and either splits or offends.
use Rattle.std.proofs.Common.{◌≡◌, ℕ, ◌+◌, ◌<◌, List, [], take, drop, Some, None, refl, sym, subst, arith, inl, inr}
use Rattle.std.proofs.lemmas.Bool.{cases_lt}
use Rattle.pd_sections.specs.declared.Token.{Token}
use Rattle.pd_sections.specs.declared.Piece.{Piece}
use Rattle.pd_sections.specs.declared.Piece.TheVariants.{Blank, Word, Fault}
use Rattle.pd_sections.specs.declared.Refusal.{Refusal}
use Rattle.pd_sections.specs.Lexing.{Language, IsLongest, StartsNoPiece, Lexes, at_end, past_blank, past_token, Offends, in_fault, starts_none, behind_blank, behind_token}

-- of two longest pieces none is longer
not_longer : (f : Language) (bytes : List ℕ) (p q : Piece) (n m : ℕ) → IsLongest f bytes p n → IsLongest f bytes q m → n < m → ⊥
not_longer f bytes p q n m a b l = let e : f (take m bytes) ≡ None = a.longest m l b.within in let g : f (take m bytes) ≡ Some q = b.is in cc

same_length : (f : Language) (bytes : List ℕ) (p q : Piece) (n m : ℕ) → IsLongest f bytes p n → IsLongest f bytes q m → n ≡ m
same_length f bytes p q n m a b =
    elim (cases_lt n m) [
      | inl l ↦ absurd (not_longer f bytes p q n m a b l)
      | inr l ↦ elim (cases_lt m n) [
        | inl k ↦ absurd (not_longer f bytes q p m n b a k)
        | inr k ↦ omega arith
      ]
    ]

same_piece : (f : Language) (bytes : List ℕ) (p q : Piece) (n m : ℕ) → IsLongest f bytes p n → IsLongest f bytes q m → p ≡ q
same_piece f bytes p q n m a b =
    let e : n ≡ m = same_length f bytes p q n m a b in
    let g : f (take n bytes) ≡ Some p = a.is in
    let h : f (take m bytes) ≡ Some q = b.is in
    cc

-- no piece is of no bytes
no_piece_of_none : (f : Language) (p : Piece) (n : ℕ) → IsLongest f [] p n → ⊥
no_piece_of_none f p n a = omega (arith, a.some, a.within)

no_piece_starts : (f : Language) (bytes : List ℕ) (p : Piece) (n : ℕ) → IsLongest f bytes p n → StartsNoPiece f bytes → ⊥
no_piece_starts f bytes p n a b = let e : f (take n bytes) ≡ None = b.none n a.some a.within in let g : f (take n bytes) ≡ Some p = a.is in cc

pub splits_once : (f : Language) {at : ℕ} {bytes : List ℕ} {xs ys : List Token} → Lexes f at bytes xs → Lexes f at bytes ys → xs ≡ ys
splits_once f at_end at_end = refl
splits_once f at_end (past_blank n a r) = absurd (no_piece_of_none f _ n a)
splits_once f at_end (past_token n a r) = absurd (no_piece_of_none f _ n a)
splits_once f (past_blank n a r) at_end = absurd (no_piece_of_none f _ n a)
splits_once f {at} {bytes} {xs} {ys} (past_blank n a r) (past_blank m b s) =
    let e : n ≡ m = same_length f bytes Blank Blank n m a b in
    splits_once f r (subst (λ k. Lexes f (at + k) (drop k bytes) ys) (sym e) s)
splits_once f {at} {bytes} (past_blank n a r) (past_token {kind = kind} m b s) =
    let e : Blank ≡ Word kind = same_piece f bytes _ _ n m a b in cc
splits_once f (past_token n a r) at_end = absurd (no_piece_of_none f _ n a)
splits_once f {at} {bytes} (past_token {kind = kind} n a r) (past_blank m b s) =
    let e : Word kind ≡ Blank = same_piece f bytes _ _ n m a b in cc
splits_once f {at} {bytes} (past_token {tokens = xs} {kind = k} n a r) (past_token {tokens = ys} {kind = l} m b s) =
    let e : n ≡ m = same_length f bytes (Word k) (Word l) n m a b in
    let g : Word k ≡ Word l = same_piece f bytes (Word k) (Word l) n m a b in
    let h : xs ≡ ys = splits_once f r (subst (λ k. Lexes f (at + k) (drop k bytes) ys) (sym e) s) in
    cc

-- what splits doesn't offend
pub splits_or_offends : (f : Language) {at : ℕ} {bytes : List ℕ} {tokens : List Token} {refusal : Refusal}
    → Lexes f at bytes tokens → Offends f at bytes refusal → ⊥
splits_or_offends f at_end (in_fault n b) = no_piece_of_none f _ n b
splits_or_offends f at_end (behind_blank n b s) = no_piece_of_none f _ n b
splits_or_offends f at_end (behind_token n b s) = no_piece_of_none f _ n b
splits_or_offends f {at} {bytes} (past_blank n a r) (in_fault {rule = rule} {behind = behind} m b) =
    let e : Blank ≡ Fault rule behind = same_piece f bytes _ _ n m a b in cc
splits_or_offends f (past_blank n a r) (starts_none b) = no_piece_starts f _ _ n a b
splits_or_offends f {at} {bytes} {tokens} {refusal} (past_blank n a r) (behind_blank m b s) =
    let e : n ≡ m = same_length f bytes Blank Blank n m a b in
    splits_or_offends f r (subst (λ k. Offends f (at + k) (drop k bytes) refusal) (sym e) s)
splits_or_offends f {at} {bytes} (past_blank n a r) (behind_token {kind = kind} m b s) =
    let e : Blank ≡ Word kind = same_piece f bytes _ _ n m a b in cc
splits_or_offends f {at} {bytes} (past_token {kind = kind} n a r) (in_fault {rule = rule} {behind = behind} m b) =
    let e : Word kind ≡ Fault rule behind = same_piece f bytes _ _ n m a b in cc
splits_or_offends f (past_token n a r) (starts_none b) = no_piece_starts f _ _ n a b
splits_or_offends f {at} {bytes} (past_token {kind = kind} n a r) (behind_blank m b s) =
    let e : Word kind ≡ Blank = same_piece f bytes _ _ n m a b in cc
splits_or_offends f {at} {bytes} {tokens} {refusal} (past_token {kind = k} n a r) (behind_token {kind = l} m b s) =
    let e : n ≡ m = same_length f bytes (Word k) (Word l) n m a b in
    splits_or_offends f r (subst (λ k. Offends f (at + k) (drop k bytes) refusal) (sym e) s)

-- the first offending place is one
pub offends_once : (f : Language) {at : ℕ} {bytes : List ℕ} {x y : Refusal} → Offends f at bytes x → Offends f at bytes y → x ≡ y
offends_once f {at} {bytes} (in_fault {rule = q} {behind = i} n a) (in_fault {rule = r} {behind = j} m b) =
    let e : Fault q i ≡ Fault r j = same_piece f bytes _ _ n m a b in cc
offends_once f (in_fault n a) (starts_none b) = absurd (no_piece_starts f _ _ n a b)
offends_once f {at} {bytes} (in_fault {rule = q} {behind = i} n a) (behind_blank m b s) =
    let e : Fault q i ≡ Blank = same_piece f bytes _ _ n m a b in cc
offends_once f {at} {bytes} (in_fault {rule = q} {behind = i} n a) (behind_token {kind = l} m b s) =
    let e : Fault q i ≡ Word l = same_piece f bytes _ _ n m a b in cc
offends_once f (starts_none a) (in_fault n b) = absurd (no_piece_starts f _ _ n b a)
offends_once f (starts_none a) (starts_none b) = refl
offends_once f (starts_none a) (behind_blank n b s) = absurd (no_piece_starts f _ _ n b a)
offends_once f (starts_none a) (behind_token n b s) = absurd (no_piece_starts f _ _ n b a)
offends_once f {at} {bytes} (behind_blank n a r) (in_fault {rule = q} {behind = i} m b) =
    let e : Blank ≡ Fault q i = same_piece f bytes _ _ n m a b in cc
offends_once f (behind_blank n a r) (starts_none b) = absurd (no_piece_starts f _ _ n a b)
offends_once f {at} {bytes} {x} {y} (behind_blank n a r) (behind_blank m b s) =
    let e : n ≡ m = same_length f bytes Blank Blank n m a b in
    offends_once f r (subst (λ k. Offends f (at + k) (drop k bytes) y) (sym e) s)
offends_once f {at} {bytes} (behind_blank n a r) (behind_token {kind = l} m b s) =
    let e : Blank ≡ Word l = same_piece f bytes _ _ n m a b in cc
offends_once f {at} {bytes} (behind_token {kind = l} n a r) (in_fault {rule = q} {behind = i} m b) =
    let e : Word l ≡ Fault q i = same_piece f bytes _ _ n m a b in cc
offends_once f (behind_token n a r) (starts_none b) = absurd (no_piece_starts f _ _ n a b)
offends_once f {at} {bytes} (behind_token {kind = l} n a r) (behind_blank m b s) =
    let e : Word l ≡ Blank = same_piece f bytes _ _ n m a b in cc
offends_once f {at} {bytes} {x} {y} (behind_token {kind = k} n a r) (behind_token {kind = l} m b s) =
    let e : n ≡ m = same_length f bytes (Word k) (Word l) n m a b in
    offends_once f r (subst (λ k. Offends f (at + k) (drop k bytes) y) (sym e) s)
