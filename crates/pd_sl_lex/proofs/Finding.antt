-- What is found is the longest piece that the bytes begin with.
use Rattle.std.proofs.Common.{◌≡◌, ℕ, ◌+◌, ◌<◌, ◌≤◌, suc, zero, Bool, true, false, ◌&&◌, not, cond, eqb, List, [], ◌∷◌, length, take, drop, get_or, drop-cons, add-one, Option, Some, None, refl, sym, ap, ◌∙◌, subst, inl, inr, arith}
use Rattle.std.proofs.Math.Numerals.{one-add}
use Rattle.std.proofs.lemmas.Bool.{eq-eqb, and_parts, cases_eq}
use Rattle.std.proofs.lemmas.List.{length-take-le}
use Rattle.std.proofs.lemmas.List.Sums.{prefix_len-le-length}
use Rattle.std.specs.List.{list_all, prefix_len}
use Rattle.std.specs.Option.{option_map, MatchOption, IfSome, IfNone}
use Rattle.pd_sections.specs.declared.TokenKind.TheVariants.{Number, Text, Symbol}
use Rattle.pd_sections.specs.declared.Rule.TheVariants.{BadByte, OpenText, OpenComment}
use Rattle.pd_sections.specs.declared.Piece.{Piece}
use Rattle.pd_sections.specs.declared.Piece.TheVariants.{Blank, Word, Fault}
use Rattle.pd_sections.specs.Lexing.{Language, IsLongest, StartsNoPiece, FaultWithin}
use Rattle.pd_sections.specs.Pieces.{is_digit, is_line_end, is_empty, piece_if, word, symbol_piece}
use Rattle.pd_sections.specs.SlPieces.{is_white, is_name_start, is_name_part, keywords, is_symbol, is_pair, closes_text, closed_text, text_piece, is_slash, starts_with_slash, closes_comment, slash_piece, sl_piece}
use Rattle.pd_sections.proofs.Longest.{Longest, longer, is_longest, alone, as_many, FindsEnd, up_to_its_end, without_end, one_at_the_end, two, one, none_at_the_end, none_before}
use Rattle.pd_sl_lex.specs.Scan.{Found, found_name, found_number, text_end, found_text_at, comment_end, found_comment, found_slash, found_symbol, found_from, found_in}

-- a front of no bytes has no bytes
empty_front : (bytes : List ℕ) (m : ℕ) → m ≤ length bytes → is_empty (take m bytes) ≡ true → m ≡ 0
empty_front bytes zero h e = refl
empty_front [] (suc m) h e = absurd (omega arith)
empty_front (byte ∷ bytes) (suc m) h e = cc

-- ends of texts
text_found : (byte : ℕ) (bytes : List ℕ) → FindsEnd closes_text text_end bytes → (n : ℕ) (q l : Bool) (o : Option ℕ)
    → eqb byte 34 ≡ q → is_line_end byte ≡ l → text_end bytes ≡ o → cond q (Some 1) (cond l None (option_map suc o)) ≡ Some n
    → (closes_text (take n (byte ∷ bytes)) ≡ true) × (n ≤ length (byte ∷ bytes))
text_found byte bytes r n true l o e f g h =
    let one : 1 ≡ n = cc in
    subst (λ k. (closes_text (take k (byte ∷ bytes)) ≡ true) × (k ≤ length (byte ∷ bytes))) one (rw e refl, omega arith)
text_found byte bytes r n false true o e f g h = cc
text_found byte bytes r n false false None e f g h = cc
text_found byte bytes r n false false (Some k) e f g h =
    let more : suc k ≡ n = cc in
    let rest = r.found k g in
    subst (λ m. (closes_text (take m (byte ∷ bytes)) ≡ true) × (m ≤ length (byte ∷ bytes))) more (rw (e, f) rest.0, omega (arith, rest.1))

text_only : (byte : ℕ) (bytes : List ℕ) → FindsEnd closes_text text_end bytes → (m : ℕ) (q l : Bool)
    → eqb byte 34 ≡ q → is_line_end byte ≡ l → m ≤ length bytes → cond q (is_empty (take m bytes)) (not l && closes_text (take m bytes)) ≡ true
    → cond q (Some 1) (cond l None (option_map suc (text_end bytes))) ≡ Some (suc m)
text_only byte bytes r m true l e f k h = ap (λ n. Some (suc n)) (sym (empty_front bytes m k h))
text_only byte bytes r m false true e f k h = cc
text_only byte bytes r m false false e f k h = ap (option_map suc) (r.only m k h)

text_ends_more : (byte : ℕ) (bytes : List ℕ) → FindsEnd closes_text text_end bytes → FindsEnd closes_text text_end (byte ∷ bytes)
text_ends_more byte bytes r = record { found = λ n h. text_found byte bytes r n (eqb byte 34) (is_line_end byte) (text_end bytes) refl refl refl h; only = only } where
  only : (m : ℕ) → m ≤ length (byte ∷ bytes) → closes_text (take m (byte ∷ bytes)) ≡ true → text_end (byte ∷ bytes) ≡ Some m
  only zero k h = cc
  only (suc m) k h = text_only byte bytes r m (eqb byte 34) (is_line_end byte) refl refl (omega arith) h

text_ends : (bytes : List ℕ) → FindsEnd closes_text text_end bytes
text_ends [] = record { found = λ n e. cc; only = only } where
  only : (m : ℕ) → m ≤ 0 → closes_text (take m []) ≡ true → text_end [] ≡ Some m
  only zero h e = cc
  only (suc m) h e = cc
text_ends (byte ∷ bytes) = text_ends_more byte bytes (text_ends bytes)

-- ends of comments
comment_later : (byte next : ℕ) (bytes : List ℕ) → FindsEnd closes_comment comment_end (next ∷ bytes) → (n : ℕ) (o : Option ℕ)
    → (eqb byte 42 && eqb next 47) ≡ false → comment_end (next ∷ bytes) ≡ o → option_map suc o ≡ Some n
    → (closes_comment (take n (byte ∷ next ∷ bytes)) ≡ true) × (n ≤ length (byte ∷ next ∷ bytes))
comment_later byte next bytes r n None e g h = cc
comment_later byte next bytes r n (Some zero) e g h = let nothing : false ≡ true = (r.found zero g).0 in cc
comment_later byte next bytes r n (Some (suc k)) e g h =
    let more : suc (suc k) ≡ n = cc in
    let rest = r.found (suc k) g in
    subst (λ m. (closes_comment (take m (byte ∷ next ∷ bytes)) ≡ true) × (m ≤ length (byte ∷ next ∷ bytes))) more (rw e rest.0, omega (arith, rest.1))

comment_found : (byte next : ℕ) (bytes : List ℕ) → FindsEnd closes_comment comment_end (next ∷ bytes) → (n : ℕ) (s t : Bool) (o : Option ℕ)
    → eqb byte 42 ≡ s → eqb next 47 ≡ t → comment_end (next ∷ bytes) ≡ o → cond (s && t) (Some 2) (option_map suc o) ≡ Some n
    → (closes_comment (take n (byte ∷ next ∷ bytes)) ≡ true) × (n ≤ length (byte ∷ next ∷ bytes))
comment_found byte next bytes r n true true o e f g h =
    let two : 2 ≡ n = cc in
    subst (λ k. (closes_comment (take k (byte ∷ next ∷ bytes)) ≡ true) × (k ≤ length (byte ∷ next ∷ bytes))) two (rw (e, f) refl, omega arith)
comment_found byte next bytes r n true false o e f g h = comment_later byte next bytes r n o (rw e f) g h
comment_found byte next bytes r n false t o e f g h = comment_later byte next bytes r n o (rw e refl) g h

comment_only : (byte next : ℕ) (bytes : List ℕ) → FindsEnd closes_comment comment_end (next ∷ bytes) → (m : ℕ) (b : Bool)
    → (eqb byte 42 && eqb next 47) ≡ b → suc m ≤ length (next ∷ bytes)
    → cond b (is_slash (next ∷ take m bytes)) (closes_comment (next ∷ take m bytes)) ≡ true
    → cond b (Some 2) (option_map suc (comment_end (next ∷ bytes))) ≡ Some (suc (suc m))
comment_only byte next bytes r m true e k h =
    ap (λ n. Some (suc (suc n))) (sym (empty_front bytes m (omega arith) (and_parts (eqb next 47) (is_empty (take m bytes)) h).1))
comment_only byte next bytes r m false e k h = ap (option_map suc) (r.only (suc m) k h)

closes_no_byte : (byte : ℕ) (b : Bool) → eqb byte 42 ≡ b → cond (b && false) (is_slash []) (closes_comment []) ≡ true → ⊥
closes_no_byte byte true e h = cc
closes_no_byte byte false e h = cc

comment_ends_more : (byte next : ℕ) (bytes : List ℕ) → FindsEnd closes_comment comment_end (next ∷ bytes)
    → FindsEnd closes_comment comment_end (byte ∷ next ∷ bytes)
comment_ends_more byte next bytes r = record {
  found = λ n h. comment_found byte next bytes r n (eqb byte 42) (eqb next 47) (comment_end (next ∷ bytes)) refl refl refl h;
  only = only;
} where
  only : (m : ℕ) → m ≤ length (byte ∷ next ∷ bytes) → closes_comment (take m (byte ∷ next ∷ bytes)) ≡ true → comment_end (byte ∷ next ∷ bytes) ≡ Some m
  only zero k h = cc
  only (suc zero) k h = absurd (closes_no_byte byte (eqb byte 42) refl h)
  only (suc (suc m)) k h = comment_only byte next bytes r m (eqb byte 42 && eqb next 47) refl (omega arith) h

comment_end_of_byte : (b : Bool) (n : ℕ) → cond (b && false) (Some 2) (option_map suc None) ≡ Some n → ⊥
comment_end_of_byte true n h = cc
comment_end_of_byte false n h = cc

comment_ends : (bytes : List ℕ) → FindsEnd closes_comment comment_end bytes
comment_ends [] = record { found = λ n e. cc; only = only } where
  only : (m : ℕ) → m ≤ 0 → closes_comment (take m []) ≡ true → comment_end [] ≡ Some m
  only zero h e = cc
  only (suc m) h e = cc
comment_ends (byte ∷ []) = record { found = λ n h. absurd (comment_end_of_byte (eqb byte 42) n h); only = only } where
  only : (m : ℕ) → m ≤ 1 → closes_comment (take m (byte ∷ [])) ≡ true → comment_end (byte ∷ []) ≡ Some m
  only zero h e = cc
  only (suc zero) h e = absurd (closes_no_byte byte (eqb byte 42) refl e)
  only (suc (suc m)) h e = absurd (omega arith)
comment_ends (byte ∷ next ∷ bytes) = comment_ends_more byte next bytes (comment_ends (next ∷ bytes))

-- what the law says of what is found
abbrev Right : List ℕ → Option Found → Type 0
Right bytes found = MatchOption found (StartsNoPiece sl_piece bytes) (λ f. IsLongest sl_piece bytes f.0 f.1 × FaultWithin f.0 f.1)

right_if : (bytes : List ℕ) (b : Bool) (x y : Option Found) → (b ≡ true → Right bytes x) → (b ≡ false → Right bytes y) → Right bytes (cond b x y)
right_if bytes true x y h k = h refl
right_if bytes false x y h k = k refl

-- a fault of a text lies within it
text_fault : (bytes : List ℕ) (before : ℕ) (b : Bool) → before ≤ length bytes → eqb before (length bytes) ≡ b
    → FaultWithin (cond b (Word Text) (Fault BadByte (1 + before))) (1 + length bytes)
text_fault bytes before true h e = tt
text_fault bytes before false h e =
    elim (cases_eq before (length bytes)) [
      | inl same ↦ let passes : eqb before (length bytes) ≡ true = eq-eqb before (length bytes) same in cc
      | inr other ↦ omega arith
    ]

one_more : (bytes : List ℕ) (piece : Piece) (n : ℕ) → Longest sl_piece bytes piece (suc n) → IsLongest sl_piece bytes piece (1 + n)
one_more bytes piece n l = subst (λ k. IsLongest sl_piece bytes piece k) (sym (one-add n)) (is_longest sl_piece bytes piece (suc n) (omega arith) l)

two_more : (bytes : List ℕ) (piece : Piece) (n : ℕ) → Longest sl_piece bytes piece (suc (suc n)) → IsLongest sl_piece bytes piece (2 + n)
two_more bytes piece n l =
    let same : suc (suc n) ≡ 2 + n = omega arith in
    subst (λ k. IsLongest sl_piece bytes piece k) same (is_longest sl_piece bytes piece (suc (suc n)) (omega arith) l)

text_right : (byte : ℕ) (bytes : List ℕ) → ((xs : List ℕ) → sl_piece (byte ∷ xs) ≡ text_piece xs) → (o : Option ℕ) → text_end bytes ≡ o
    → Right (byte ∷ bytes) (Some (found_text_at bytes o))
text_right byte bytes same None e = (
  is_longest sl_piece (byte ∷ bytes) (Fault OpenText 0) 1 (omega arith)
      (longer sl_piece text_piece byte bytes (Fault OpenText 0) 0 same (without_end closes_text text_end text_piece closed_text (Fault OpenText 0) (λ xs. refl) bytes (text_ends bytes) refl e)),
  omega arith,
)
text_right byte bytes same (Some n) e =
    let front = take n bytes in
    let found : closes_text front ≡ true × (n ≤ length bytes) = (text_ends bytes).found n e in
    let whole : length front ≡ n = length-take-le n bytes found.1 in
    let before : ℕ = prefix_len (λ byte. not (eqb byte 92)) front in
    let fault : FaultWithin (closed_text front) (1 + length front) = text_fault front before (eqb before (length front)) (prefix_len-le-length (λ byte. not (eqb byte 92)) front) refl in (
      one_more (byte ∷ bytes) (closed_text front) n
          (longer sl_piece text_piece byte bytes (closed_text front) n same (up_to_its_end closes_text text_end text_piece closed_text (Fault OpenText 0) (λ xs. refl) bytes (text_ends bytes) n e)),
      subst (λ k. FaultWithin (closed_text front) (1 + k)) whole fault,
    )

right_found_if : (bytes : List ℕ) (b : Bool) (x y : Found) → (b ≡ true → Right bytes (Some x)) → (b ≡ false → Right bytes (Some y)) → Right bytes (Some (cond b x y))
right_found_if bytes true x y h k = h refl
right_found_if bytes false x y h k = k refl

-- behind a `/*`
abbrev comment_piece : List ℕ → Option Piece
comment_piece xs = cond (closes_comment xs) (Some Blank) (piece_if (is_empty xs) (Fault OpenComment 0))

comment_right : (byte next : ℕ) (bytes : List ℕ) → ((xs : List ℕ) → sl_piece (byte ∷ xs) ≡ slash_piece xs)
    → ((xs : List ℕ) → slash_piece (next ∷ xs) ≡ comment_piece xs) → (o : Option ℕ) → comment_end bytes ≡ o
    → Right (byte ∷ next ∷ bytes) (Some (found_comment o))
comment_right byte next bytes same slash None e = (
  is_longest sl_piece (byte ∷ next ∷ bytes) (Fault OpenComment 0) 2 (omega arith)
      (longer sl_piece slash_piece byte (next ∷ bytes) (Fault OpenComment 0) 1 same
      (longer slash_piece comment_piece next bytes (Fault OpenComment 0) 0 slash
      (without_end closes_comment comment_end comment_piece (λ xs. Blank) (Fault OpenComment 0) (λ xs. refl) bytes (comment_ends bytes) refl e))),
  omega arith,
)
comment_right byte next bytes same slash (Some n) e = (
  two_more (byte ∷ next ∷ bytes) Blank n
      (longer sl_piece slash_piece byte (next ∷ bytes) Blank (suc n) same
      (longer slash_piece comment_piece next bytes Blank n slash
      (up_to_its_end closes_comment comment_end comment_piece (λ xs. Blank) (Fault OpenComment 0) (λ xs. refl) bytes (comment_ends bytes) n e))),
  tt,
)

slash_alone : (next : ℕ) (bytes : List ℕ) → eqb next 47 ≡ false → eqb next 42 ≡ false → Longest slash_piece (next ∷ bytes) (Word Symbol) 0
slash_alone next bytes e f = record { within = omega arith; is = refl; longest = more } where
  more : (m : ℕ) → 0 < m → m ≤ length (next ∷ bytes) → slash_piece (take m (next ∷ bytes)) ≡ None
  more zero h k = absurd (omega arith)
  more (suc m) h k = rw (e, f) refl

slash_right : (byte : ℕ) (bytes : List ℕ) → ((xs : List ℕ) → sl_piece (byte ∷ xs) ≡ slash_piece xs) → Right (byte ∷ bytes) (Some (found_slash bytes))
slash_right byte [] same = (
  is_longest sl_piece (byte ∷ []) (Word Symbol) 1 (omega arith)
      (longer sl_piece slash_piece byte [] (Word Symbol) 0 same (record { within = omega arith; is = refl; longest = λ m h k. absurd (omega arith) })),
  tt,
)
slash_right byte (next ∷ bytes) same =
    let goes_on : ℕ → Bool = λ c. not (is_line_end c) in
    right_found_if (byte ∷ next ∷ bytes) (eqb next 47) _ _
    (λ e. (
      two_more (byte ∷ next ∷ bytes) Blank (prefix_len goes_on bytes)
          (longer sl_piece slash_piece byte (next ∷ bytes) Blank (suc (prefix_len goes_on bytes)) same
          (longer slash_piece (λ xs. piece_if (list_all goes_on xs) Blank) next bytes Blank (prefix_len goes_on bytes) (λ xs. rw e refl)
          (as_many goes_on (λ xs. piece_if (list_all goes_on xs) Blank) (λ xs. Blank) bytes (λ xs. refl)))),
      tt,
    ))
    (λ e. right_found_if (byte ∷ next ∷ bytes) (eqb next 42) _ _
    (λ f. comment_right byte next bytes same (λ xs. rw (e, f) refl) (comment_end bytes) refl)
    (λ f. (
      is_longest sl_piece (byte ∷ next ∷ bytes) (Word Symbol) 1 (omega arith)
          (longer sl_piece slash_piece byte (next ∷ bytes) (Word Symbol) 0 same (slash_alone next bytes e f)),
      tt,
    )))

symbol_right : (byte : ℕ) (bytes : List ℕ) → ((xs : List ℕ) → sl_piece (byte ∷ xs) ≡ symbol_piece is_symbol is_pair byte xs)
    → Right (byte ∷ bytes) (found_symbol byte bytes)
symbol_right byte [] same =
    right_if (byte ∷ []) (is_symbol byte) _ _
    (λ e. (
      is_longest sl_piece (byte ∷ []) (Word Symbol) 1 (omega arith)
          (longer sl_piece (symbol_piece is_symbol is_pair byte) byte [] (Word Symbol) 0 same (one_at_the_end is_symbol is_pair byte e)),
      tt,
    ))
    (λ e. none_at_the_end is_symbol is_pair byte sl_piece same e)
symbol_right byte (next ∷ bytes) same =
    right_if (byte ∷ next ∷ bytes) (is_pair byte next) _ _
    (λ p. (
      is_longest sl_piece (byte ∷ next ∷ bytes) (Word Symbol) 2 (omega arith)
          (longer sl_piece (symbol_piece is_symbol is_pair byte) byte (next ∷ bytes) (Word Symbol) 1 same (two is_symbol is_pair byte next bytes p)),
      tt,
    ))
    (λ p. right_if (byte ∷ next ∷ bytes) (is_symbol byte) _ _
    (λ e. (
      is_longest sl_piece (byte ∷ next ∷ bytes) (Word Symbol) 1 (omega arith)
          (longer sl_piece (symbol_piece is_symbol is_pair byte) byte (next ∷ bytes) (Word Symbol) 0 same (one is_symbol is_pair byte next bytes e p)),
      tt,
    ))
    (λ e. none_before is_symbol is_pair byte sl_piece next bytes same e p))

name_right : (byte : ℕ) (bytes : List ℕ) → ((xs : List ℕ) → sl_piece (byte ∷ xs) ≡ piece_if (list_all is_name_part xs) (word keywords (byte ∷ xs)))
    → Right (byte ∷ bytes) (Some (found_name byte bytes))
name_right byte bytes same =
    let n : ℕ = prefix_len is_name_part bytes in
    let rule : Language = λ xs. piece_if (list_all is_name_part xs) (word keywords (byte ∷ xs)) in (
      subst (λ k. IsLongest sl_piece (byte ∷ bytes) (word keywords (take k (byte ∷ bytes))) k) (sym (one-add n))
          (is_longest sl_piece (byte ∷ bytes) (word keywords (byte ∷ take n bytes)) (suc n) (omega arith)
          (longer sl_piece rule byte bytes (word keywords (byte ∷ take n bytes)) n same
          (as_many is_name_part rule (λ xs. word keywords (byte ∷ xs)) bytes (λ xs. refl)))),
      tt,
    )

number_right : (byte : ℕ) (bytes : List ℕ) → ((xs : List ℕ) → sl_piece (byte ∷ xs) ≡ piece_if (list_all is_digit xs) (Word Number))
    → Right (byte ∷ bytes) (Some (found_number bytes))
number_right byte bytes same =
    let n : ℕ = prefix_len is_digit bytes in
    let rule : Language = λ xs. piece_if (list_all is_digit xs) (Word Number) in (
      one_more (byte ∷ bytes) (Word Number) n
          (longer sl_piece rule byte bytes (Word Number) n same (as_many is_digit rule (λ xs. Word Number) bytes (λ xs. refl))),
      tt,
    )

one_right : (byte : ℕ) (bytes : List ℕ) (piece : Piece) → FaultWithin piece 1 → ((xs : List ℕ) → sl_piece (byte ∷ xs) ≡ piece_if (is_empty xs) piece)
    → Right (byte ∷ bytes) (Some (piece, 1))
one_right byte bytes piece fault same = (
  is_longest sl_piece (byte ∷ bytes) piece 1 (omega arith)
      (longer sl_piece (λ xs. piece_if (is_empty xs) piece) byte bytes piece 0 same (alone (λ xs. piece_if (is_empty xs) piece) bytes piece refl (λ b xs. refl))),
  fault,
)

from_right : (byte : ℕ) (bytes : List ℕ) → Right (byte ∷ bytes) (found_from byte bytes)
from_right byte bytes =
    let all : List ℕ = byte ∷ bytes in
    right_if all (is_white byte) _ _ (λ a. one_right byte bytes Blank tt (λ xs. rw a refl))
    (λ a. right_if all (is_name_start byte) _ _ (λ b. name_right byte bytes (λ xs. rw (a, b) refl))
    (λ b. right_if all (eqb byte 48) _ _ (λ c. one_right byte bytes (Word Number) tt (λ xs. rw (a, b, c) refl))
    (λ c. right_if all (is_digit byte) _ _ (λ d. number_right byte bytes (λ xs. rw (a, b, c, d) refl))
    (λ d. right_if all (eqb byte 34) _ _ (λ e. text_right byte bytes (λ xs. rw (a, b, c, d, e) refl) (text_end bytes) refl)
    (λ e. right_if all (eqb byte 47) _ _ (λ f. slash_right byte bytes (λ xs. rw (a, b, c, d, e, f) refl))
    (λ f. symbol_right byte bytes (λ xs. rw (a, b, c, d, e, f) refl)))))))

pub found_right : (bytes : List ℕ) → MatchOption (found_in bytes) (StartsNoPiece sl_piece bytes) (λ f. IsLongest sl_piece bytes f.0 f.1 × FaultWithin f.0 f.1)
found_right [] = record { none = λ m h k. absurd (omega arith) }
found_right (byte ∷ bytes) = from_right byte bytes

pub found_right_of : (bytes : List ℕ) (o : Option Found) → o ≡ found_in bytes
    → MatchOption o (StartsNoPiece sl_piece bytes) (λ f. IsLongest sl_piece bytes f.0 f.1 × FaultWithin f.0 f.1)
found_right_of bytes o e = subst (λ o. MatchOption o (StartsNoPiece sl_piece bytes) (λ f. IsLongest sl_piece bytes f.0 f.1 × FaultWithin f.0 f.1)) (sym e) (found_right bytes)

pub some_part : (bytes : List ℕ) (o : Option Found) → MatchOption o (StartsNoPiece sl_piece bytes) (λ f. IsLongest sl_piece bytes f.0 f.1 × FaultWithin f.0 f.1)
    → IfSome o (λ f. IsLongest sl_piece bytes f.0 f.1)
some_part bytes None h = tt
some_part bytes (Some f) h = h.0

pub fault_part : (bytes : List ℕ) (o : Option Found) → MatchOption o (StartsNoPiece sl_piece bytes) (λ f. IsLongest sl_piece bytes f.0 f.1 × FaultWithin f.0 f.1)
    → IfSome o (λ f. FaultWithin f.0 f.1)
fault_part bytes None h = tt
fault_part bytes (Some f) h = h.1

pub none_part : (bytes : List ℕ) (o : Option Found) → MatchOption o (StartsNoPiece sl_piece bytes) (λ f. IsLongest sl_piece bytes f.0 f.1 × FaultWithin f.0 f.1)
    → IfNone o (StartsNoPiece sl_piece bytes)
none_part bytes None h = h
none_part bytes (Some f) h = tt

-- a comment that doesn't end here ends later
later_end : (place : ℕ) (o : Option ℕ) → option_map (λ n. place + n) (option_map suc o) ≡ option_map (λ n. place + 1 + n) o
later_end place None = refl
later_end place (Some n) = ap Some (omega arith)

pub comment_later_on : (bytes rest : List ℕ) (place : ℕ) → place < length bytes → rest ≡ drop (place + 1) bytes
    → (eqb (get_or bytes place 0) 42 && starts_with_slash rest) ≡ false
    → comment_end bytes ≡ option_map (λ n. place + n) (comment_end (drop place bytes))
    → comment_end bytes ≡ option_map (λ n. place + 1 + n) (comment_end (drop (place + 1) bytes))
comment_later_on bytes rest place h rest_is e so_far =
    let byte : ℕ = get_or bytes place 0 in
    let more : drop place bytes ≡ byte ∷ rest = drop-cons bytes place 0 h ∙ ap (λ xs. byte ∷ xs) (ap (λ k. drop k bytes) (sym (add-one place)) ∙ sym rest_is) in
    let none_here : comment_end (byte ∷ rest) ≡ option_map suc (comment_end rest) = rw e refl in
    so_far ∙ ap (λ xs. option_map (λ n. place + n) (comment_end xs)) more ∙ ap (option_map (λ n. place + n)) none_here
    ∙ later_end place (comment_end rest) ∙ ap (λ xs. option_map (λ n. place + 1 + n) (comment_end xs)) rest_is
