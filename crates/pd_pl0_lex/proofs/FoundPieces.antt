-- What is found is the longest piece that the bytes begin with: by the kinds of pieces.
use Rattle.std.proofs.Common.{◌≡◌, ℕ, ◌+◌, suc, Bool, true, false, cond, List, [], ◌∷◌, take, Option, Some, None, refl, sym, subst, arith}
use Rattle.std.proofs.Math.Numerals.{one-add}
use Rattle.std.specs.List.{list_all, prefix_len}
use Rattle.std.specs.Option.{MatchOption, IfSome, IfNone}
use Rattle.pd_sections.specs.declared.TokenKind.TheVariants.{Number, Symbol}
use Rattle.pd_sections.specs.declared.Piece.{Piece}
use Rattle.pd_sections.specs.declared.Piece.TheVariants.{Word}
use Rattle.pd_sections.specs.Lexing.{Language, IsLongest, StartsNoPiece, FaultWithin}
use Rattle.pd_sections.specs.Pieces.{is_digit, is_empty, piece_if, word, symbol_piece}
use Rattle.pd_pl0_lex.specs.Scanning.{Found, found_name, found_number, found_symbol}
use Rattle.pd_sections.proofs.Longest.{Longest, longer, is_longest, alone, as_many, one_at_the_end, two, one, none_at_the_end, none_before}

-- what is found is right
abbrev pub Right : Language → List ℕ → Option Found → Type 0
Right f bytes found = MatchOption found (StartsNoPiece f bytes) (λ x. IsLongest f bytes x.0 x.1 × FaultWithin x.0 x.1)

module _ (f : Language) where
  pub some_part : (bytes : List ℕ) (o : Option Found) → Right f bytes o → IfSome o (λ x. IsLongest f bytes x.0 x.1)
  some_part bytes None h = tt
  some_part bytes (Some x) h = h.0

  pub fault_part : (bytes : List ℕ) (o : Option Found) → Right f bytes o → IfSome o (λ x. FaultWithin x.0 x.1)
  fault_part bytes None h = tt
  fault_part bytes (Some x) h = h.1

  pub none_part : (bytes : List ℕ) (o : Option Found) → Right f bytes o → IfNone o (StartsNoPiece f bytes)
  none_part bytes None h = h
  none_part bytes (Some x) h = tt

  pub right_if : (bytes : List ℕ) (b : Bool) (x y : Option Found) → (b ≡ true → Right f bytes x) → (b ≡ false → Right f bytes y) → Right f bytes (cond b x y)
  right_if bytes true x y h k = h refl
  right_if bytes false x y h k = k refl

  pub right_found_if : (bytes : List ℕ) (b : Bool) (x y : Found) → (b ≡ true → Right f bytes (Some x)) → (b ≡ false → Right f bytes (Some y))
      → Right f bytes (Some (cond b x y))
  right_found_if bytes true x y h k = h refl
  right_found_if bytes false x y h k = k refl

  pub one_more : (bytes : List ℕ) (piece : Piece) (n : ℕ) → Longest f bytes piece (suc n) → IsLongest f bytes piece (1 + n)
  one_more bytes piece n l = subst (λ k. IsLongest f bytes piece k) (sym (one-add n)) (is_longest f bytes piece (suc n) (omega arith) l)

  pub two_more : (bytes : List ℕ) (piece : Piece) (n : ℕ) → Longest f bytes piece (suc (suc n)) → IsLongest f bytes piece (2 + n)
  two_more bytes piece n l =
      let same : suc (suc n) ≡ 2 + n = omega arith in
      subst (λ k. IsLongest f bytes piece k) same (is_longest f bytes piece (suc (suc n)) (omega arith) l)

  -- white space, and pieces of one byte
  pub one_right : (byte : ℕ) (bytes : List ℕ) (piece : Piece) → FaultWithin piece 1 → ((xs : List ℕ) → f (byte ∷ xs) ≡ piece_if (is_empty xs) piece)
      → Right f (byte ∷ bytes) (Some (piece, 1))
  one_right byte bytes piece fault same = (
    is_longest f (byte ∷ bytes) piece 1 (omega arith)
        (longer f (λ xs. piece_if (is_empty xs) piece) byte bytes piece 0 same (alone (λ xs. piece_if (is_empty xs) piece) bytes piece refl (λ b xs. refl))),
    fault,
  )

  pub name_right : (is_part : ℕ → Bool) (keywords : List (List ℕ)) (byte : ℕ) (bytes : List ℕ)
      → ((xs : List ℕ) → f (byte ∷ xs) ≡ piece_if (list_all is_part xs) (word keywords (byte ∷ xs)))
      → Right f (byte ∷ bytes) (Some (found_name is_part keywords byte bytes))
  name_right is_part keywords byte bytes same =
      let n : ℕ = prefix_len is_part bytes in
      let rule : Language = λ xs. piece_if (list_all is_part xs) (word keywords (byte ∷ xs)) in (
        subst (λ k. IsLongest f (byte ∷ bytes) (word keywords (take k (byte ∷ bytes))) k) (sym (one-add n))
            (is_longest f (byte ∷ bytes) (word keywords (byte ∷ take n bytes)) (suc n) (omega arith)
            (longer f rule byte bytes (word keywords (byte ∷ take n bytes)) n same (as_many is_part rule (λ xs. word keywords (byte ∷ xs)) bytes (λ xs. refl)))),
        tt,
      )

  pub number_right : (byte : ℕ) (bytes : List ℕ) → ((xs : List ℕ) → f (byte ∷ xs) ≡ piece_if (list_all is_digit xs) (Word Number))
      → Right f (byte ∷ bytes) (Some (found_number bytes))
  number_right byte bytes same =
      let n : ℕ = prefix_len is_digit bytes in
      let rule : Language = λ xs. piece_if (list_all is_digit xs) (Word Number) in (
        one_more (byte ∷ bytes) (Word Number) n
            (longer f rule byte bytes (Word Number) n same (as_many is_digit rule (λ xs. Word Number) bytes (λ xs. refl))),
        tt,
      )

  pub symbol_right : (s : ℕ → Bool) (p : ℕ → ℕ → Bool) (byte : ℕ) (bytes : List ℕ) → ((xs : List ℕ) → f (byte ∷ xs) ≡ symbol_piece s p byte xs)
      → Right f (byte ∷ bytes) (found_symbol s p byte bytes)
  symbol_right s p byte [] same =
      right_if (byte ∷ []) (s byte) _ _
      (λ e. (
        is_longest f (byte ∷ []) (Word Symbol) 1 (omega arith)
            (longer f (symbol_piece s p byte) byte [] (Word Symbol) 0 same (one_at_the_end s p byte e)),
        tt,
      ))
      (λ e. none_at_the_end s p byte f same e)
  symbol_right s p byte (next ∷ bytes) same =
      right_if (byte ∷ next ∷ bytes) (p byte next) _ _
      (λ d. (
        is_longest f (byte ∷ next ∷ bytes) (Word Symbol) 2 (omega arith)
            (longer f (symbol_piece s p byte) byte (next ∷ bytes) (Word Symbol) 1 same (two s p byte next bytes d)),
        tt,
      ))
      (λ d. right_if (byte ∷ next ∷ bytes) (s byte) _ _
      (λ e. (
        is_longest f (byte ∷ next ∷ bytes) (Word Symbol) 1 (omega arith)
            (longer f (symbol_piece s p byte) byte (next ∷ bytes) (Word Symbol) 0 same (one s p byte next bytes e d)),
        tt,
      ))
      (λ e. none_before s p byte f next bytes same e d))
