-- The longest front of some bytes that a rule takes, byte by byte.
use Rattle.std.proofs.Common.{◌≡◌, ℕ, ◌+◌, ◌<◌, ◌≤◌, suc, zero, Bool, true, false, cond, List, [], ◌∷◌, length, take, Option, Some, None, refl, ◌∙◌, arith}
use Rattle.std.proofs.Math.Numerals.{one-add}
use Rattle.std.specs.List.{list_all, prefix_len}
use Rattle.std.proofs.lemmas.List.Sums.{prefix_len-le-length}
use Rattle.pd_sections.specs.declared.TokenKind.TheVariants.{Symbol}
use Rattle.pd_sections.specs.declared.Piece.{Piece}
use Rattle.pd_sections.specs.declared.Piece.TheVariants.{Word}
use Rattle.pd_sections.specs.Pieces.{is_empty, piece_if, symbol_piece}
use Rattle.pd_sections.specs.Lexing.{Language, IsLongest, StartsNoPiece}

-- the first `n` of the bytes are this piece by the rule, and no longer front is one
pub record Longest (rule : Language) (bytes : List ℕ) (piece : Piece) (n : ℕ) : Type 0 where
  pub within : n ≤ length bytes
  pub is : rule (take n bytes) ≡ Some piece
  pub longest : (m : ℕ) → n < m → m ≤ length bytes → rule (take m bytes) ≡ None

-- a rule for bytes that begin with this one, by a rule for those behind it
pub longer : (f g : Language) (byte : ℕ) (bytes : List ℕ) (piece : Piece) (n : ℕ) → ((xs : List ℕ) → f (byte ∷ xs) ≡ g xs)
    → Longest g bytes piece n → Longest f (byte ∷ bytes) piece (suc n)
longer f g byte bytes piece n same l = record { within = omega (arith, l.within); is = same (take n bytes) ∙ l.is; longest = more } where
  more : (m : ℕ) → suc n < m → m ≤ length (byte ∷ bytes) → f (take m (byte ∷ bytes)) ≡ None
  more zero h k = absurd (omega arith)
  more (suc m) h k = same (take m bytes) ∙ l.longest m (omega arith) (omega arith)

pub is_longest : (f : Language) (bytes : List ℕ) (piece : Piece) (n : ℕ) → 0 < n → Longest f bytes piece n → IsLongest f bytes piece n
is_longest f bytes piece n h l = record { some = h; within = l.within; is = l.is; longest = l.longest }

-- nothing is behind
pub alone : (g : Language) (bytes : List ℕ) (piece : Piece) → g [] ≡ Some piece → ((byte : ℕ) (xs : List ℕ) → g (byte ∷ xs) ≡ None) → Longest g bytes piece 0
alone g bytes piece is not = record { within = omega arith; is = is; longest = more bytes } where
  more : (bytes : List ℕ) (m : ℕ) → 0 < m → m ≤ length bytes → g (take m bytes) ≡ None
  more bytes zero h k = absurd (omega arith)
  more [] (suc m) h k = absurd (omega arith)
  more (byte ∷ bytes) (suc m) h k = not byte (take m bytes)

-- bytes that pass a test, as many as do
front_passes : (p : ℕ → Bool) (bytes : List ℕ) → list_all p (take (prefix_len p bytes) bytes) ≡ true
front_passes p [] = refl
front_passes p (byte ∷ bytes) = step (p byte) refl (front_passes p bytes) where
  step : (b : Bool) → p byte ≡ b → list_all p (take (prefix_len p bytes) bytes) ≡ true
      → list_all p (take (cond b (1 + prefix_len p bytes) 0) (byte ∷ bytes)) ≡ true
  step true e rest = rw one-add (rw e rest)
  step false e rest = refl

no_longer_front : (p : ℕ → Bool) (bytes : List ℕ) (m : ℕ) → prefix_len p bytes < m → m ≤ length bytes → list_all p (take m bytes) ≡ false
no_longer_front p [] m h k = absurd (omega arith)
no_longer_front p (byte ∷ bytes) zero h k = absurd (omega arith)
no_longer_front p (byte ∷ bytes) (suc m) h k = step (p byte) refl h (λ l. no_longer_front p bytes m l (omega arith)) where
  step : (b : Bool) → p byte ≡ b → cond b (1 + prefix_len p bytes) 0 < suc m → (prefix_len p bytes < m → list_all p (take m bytes) ≡ false)
      → list_all p (take (suc m) (byte ∷ bytes)) ≡ false
  step true e h rest = rw e (rest (omega arith))
  step false e h rest = rw e refl

pub as_many : (p : ℕ → Bool) (g : Language) (q : List ℕ → Piece) (bytes : List ℕ) → ((xs : List ℕ) → g xs ≡ piece_if (list_all p xs) (q xs))
    → Longest g bytes (q (take (prefix_len p bytes) bytes)) (prefix_len p bytes)
as_many p g q bytes same = record {
  within = prefix_len-le-length p bytes;
  is = same (take (prefix_len p bytes) bytes) ∙ rw (front_passes p bytes) refl;
  longest = λ m h k. same (take m bytes) ∙ rw (no_longer_front p bytes m h k) refl;
}

-- bytes up to an end that a rule finds: where the rule holds of a front, its end is found there, and the other way round
pub record FindsEnd (closes : List ℕ → Bool) (end_of : List ℕ → Option ℕ) (bytes : List ℕ) : Type 0 where
  pub found : (n : ℕ) → end_of bytes ≡ Some n → (closes (take n bytes) ≡ true) × (n ≤ length bytes)
  pub only : (m : ℕ) → m ≤ length bytes → closes (take m bytes) ≡ true → end_of bytes ≡ Some m

-- a front of some bytes isn't empty
nonempty : (bytes : List ℕ) (m : ℕ) → 0 < m → m ≤ length bytes → is_empty (take m bytes) ≡ false
nonempty bytes zero h k = absurd (omega arith)
nonempty [] (suc m) h k = absurd (omega arith)
nonempty (byte ∷ bytes) (suc m) h k = refl

-- a rule that looks for an end, and takes nothing where there is none
module _ (closes : List ℕ → Bool) (end_of : List ℕ → Option ℕ) (g : Language) (q : List ℕ → Piece) (p : Piece)
    (same : (xs : List ℕ) → g xs ≡ cond (closes xs) (Some (q xs)) (piece_if (is_empty xs) p)) (bytes : List ℕ) (ends : FindsEnd closes end_of bytes) where
  not_closed : (m : ℕ) → 0 < m → m ≤ length bytes → closes (take m bytes) ≡ false → g (take m bytes) ≡ None
  not_closed m h k e = same (take m bytes) ∙ rw (e, nonempty bytes m h k) refl

  pub up_to_its_end : (n : ℕ) → end_of bytes ≡ Some n → Longest g bytes (q (take n bytes)) n
  up_to_its_end n e = record {
    within = (ends.found n e).1;
    is = same (take n bytes) ∙ rw (ends.found n e).0 refl;
    longest = λ m h k. other m h k (closes (take m bytes)) refl;
  } where
    other : (m : ℕ) → n < m → m ≤ length bytes → (b : Bool) → closes (take m bytes) ≡ b → g (take m bytes) ≡ None
    other m h k true c =
        let there : end_of bytes ≡ Some m = ends.only m k c in
        let same_end : n ≡ m = cc in
        absurd (omega arith)
    other m h k false c = not_closed m (omega arith) k c

  pub without_end : closes [] ≡ false → end_of bytes ≡ None → Longest g bytes p 0
  without_end nothing e = record {
    within = omega arith;
    is = same [] ∙ rw nothing refl;
    longest = λ m h k. other m h k (closes (take m bytes)) refl;
  } where
    other : (m : ℕ) → 0 < m → m ≤ length bytes → (b : Bool) → closes (take m bytes) ≡ b → g (take m bytes) ≡ None
    other m h k true c = let there : end_of bytes ≡ Some m = ends.only m k c in cc
    other m h k false c = not_closed m h k c

-- symbols of one byte and of two
module _ (s : ℕ → Bool) (p : ℕ → ℕ → Bool) (byte : ℕ) where
  pub one_at_the_end : s byte ≡ true → Longest (symbol_piece s p byte) [] (Word Symbol) 0
  one_at_the_end e = record { within = omega arith; is = rw e refl; longest = λ m h k. absurd (omega arith) }

  pub two : (next : ℕ) (bytes : List ℕ) → p byte next ≡ true → Longest (symbol_piece s p byte) (next ∷ bytes) (Word Symbol) 1
  two next bytes e = record { within = omega arith; is = rw e refl; longest = more bytes } where
    more : (bytes : List ℕ) (m : ℕ) → 1 < m → m ≤ length (next ∷ bytes) → symbol_piece s p byte (take m (next ∷ bytes)) ≡ None
    more bytes zero h k = absurd (omega arith)
    more bytes (suc zero) h k = absurd (omega arith)
    more [] (suc (suc m)) h k = absurd (omega arith)
    more (third ∷ bytes) (suc (suc m)) h k = rw e refl

  not_two : (next : ℕ) (bytes : List ℕ) (m : ℕ) → p byte next ≡ false → 0 < m → symbol_piece s p byte (take m (next ∷ bytes)) ≡ None
  not_two next bytes zero e h = absurd (omega arith)
  not_two next bytes (suc m) e h = rw e refl

  pub one : (next : ℕ) (bytes : List ℕ) → s byte ≡ true → p byte next ≡ false → Longest (symbol_piece s p byte) (next ∷ bytes) (Word Symbol) 0
  one next bytes e f = record { within = omega arith; is = rw e refl; longest = λ m h k. not_two next bytes m f h }

  pub none_at_the_end : (f : Language) → ((xs : List ℕ) → f (byte ∷ xs) ≡ symbol_piece s p byte xs) → s byte ≡ false → StartsNoPiece f (byte ∷ [])
  none_at_the_end f same e = record { none = none } where
    none : (m : ℕ) → 0 < m → m ≤ length (byte ∷ []) → f (take m (byte ∷ [])) ≡ None
    none zero h k = absurd (omega arith)
    none (suc zero) h k = same [] ∙ rw e refl
    none (suc (suc m)) h k = absurd (omega arith)

  pub none_before : (f : Language) (next : ℕ) (bytes : List ℕ) → ((xs : List ℕ) → f (byte ∷ xs) ≡ symbol_piece s p byte xs)
      → s byte ≡ false → p byte next ≡ false → StartsNoPiece f (byte ∷ next ∷ bytes)
  none_before f next bytes same e two = record { none = none } where
    none : (m : ℕ) → 0 < m → m ≤ length (byte ∷ next ∷ bytes) → f (take m (byte ∷ next ∷ bytes)) ≡ None
    none zero h k = absurd (omega arith)
    none (suc zero) h k = same [] ∙ rw e refl
    none (suc (suc m)) h k = same (take (suc m) (next ∷ bytes)) ∙ not_two next bytes (suc m) two (omega arith)
