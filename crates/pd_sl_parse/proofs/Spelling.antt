-- The bytes of names and texts are UTF-8 in a source whose bytes are: a name is ASCII, and a text stands between two `"`.
use Rattle.std.proofs.Common.{◌≡◌, ℕ, zero, suc, ◌+◌, ◌-◌, ◌<◌, ◌≤◌, Bool, true, false, List, [], ◌∷◌, length, take, drop, get_or, Some, None, refl, sym, ap, subst, ◌∙◌, ◌⊎◌, inl, inr, arith}
use Rattle.std.specs.Prelude.{if◌then◌else◌, ◌==◌, ◌&&◌, ◌||◌, not, nat_le}
use Rattle.std.specs.List.{list_all, list_any, prefix_len}
use Rattle.std.specs.Str.{IsUtf8, IsAscii, bytes_eq}
use Rattle.std.proofs.lemmas.Bool.{or_cases, and_parts, leb-true, eqb-true}
use Rattle.std.proofs.lemmas.List.{get_or-take, get_or-drop, drop-take, drop-drop, take-take, length-take-le, length-drop}
use Rattle.std.proofs.lemmas.Str.{IsUtf8-from_ascii, IsUtf8-between, IsCharBoundary-before_ascii, IsCharBoundary-after_ascii}
use Rattle.pd_sections.specs.declared.Token.{Token}
use Rattle.pd_sections.specs.declared.TokenKind.{TokenKind}
use Rattle.pd_sections.specs.declared.TokenKind.TheVariants.{Name, Number, Text, Keyword, Symbol}
use Rattle.pd_sections.specs.declared.Rule.TheVariants.{BadByte, OpenText, OpenComment}
use Rattle.pd_sections.specs.declared.Piece.{Piece}
use Rattle.pd_sections.specs.declared.Piece.TheVariants.{Blank, Word, Fault}
use Rattle.pd_sections.specs.Lexing.{Lexes, at_end, past_blank, past_token}
use Rattle.pd_sections.specs.Pieces.{is_letter, is_digit, is_line_end, is_empty, piece_if, word, symbol_piece}
use Rattle.pd_sections.specs.SlPieces.{is_white, is_name_start, is_name_part, keywords, is_symbol, is_pair, closes_text, closed_text, text_piece, closes_comment, slash_piece, sl_piece}
use Rattle.pd_sl_parse.specs.Additions.{inner}
use Rattle.pd_sl_parse.specs.Texts.{IsSpelled, AllSpelled}

not_piece : (t : Bool) (p q : Piece) → (p ≡ q → ⊥) → piece_if t p ≡ Some q → ⊥
not_piece true p q h e = let same : p ≡ q = cc in h same
not_piece false p q h e = cc

not_comment : (u : List ℕ) (k : TokenKind) → (Symbol ≡ k → ⊥) → slash_piece u ≡ Some (Word k) → ⊥
not_comment [] k h e = let same : Symbol ≡ k = cc in h same
not_comment (c ∷ u) k h e = go (c == 47) (c == 42) (closes_comment u) e
  where
    go : (a b t : Bool) → (if a then piece_if (list_all (λ next. not (is_line_end next)) u) Blank else if b then (if t then Some Blank else piece_if (is_empty u) (Fault OpenComment 0)) else None) ≡ Some (Word k) → ⊥
    go true b t e = not_piece _ Blank (Word k) (λ x. cc) e
    go false true true e = cc
    go false true false e = not_piece _ (Fault OpenComment 0) (Word k) (λ x. cc) e
    go false false t e = cc

not_symbol : (b : ℕ) (u : List ℕ) (k : TokenKind) → (Symbol ≡ k → ⊥) → symbol_piece is_symbol is_pair b u ≡ Some (Word k) → ⊥
not_symbol b [] k h e = not_piece _ (Word Symbol) (Word k) (λ x. let same : Symbol ≡ k = cc in h same) e
not_symbol b (c ∷ u) k h e = not_piece _ (Word Symbol) (Word k) (λ x. let same : Symbol ≡ k = cc in h same) e

letter_small : (b : ℕ) → is_letter b ≡ true → b < 128
letter_small b h = go (or_cases (nat_le 65 b && nat_le b 90) (nat_le 97 b && nat_le b 122) h)
  where
    go : ((nat_le 65 b && nat_le b 90) ≡ true) ⊎ ((nat_le 97 b && nat_le b 122) ≡ true) → b < 128
    go (inl e) = omega (arith, leb-true b 90 (and_parts (nat_le 65 b) (nat_le b 90) e).1)
    go (inr e) = omega (arith, leb-true b 122 (and_parts (nat_le 97 b) (nat_le b 122) e).1)

start_small : (b : ℕ) → is_name_start b ≡ true → b < 128
start_small b h = go (or_cases (is_letter b || (b == 95)) (b == 36) h)
  where
    more : (is_letter b ≡ true) ⊎ ((b == 95) ≡ true) → b < 128
    more (inl e) = letter_small b e
    more (inr e) = omega (arith, eqb-true b 95 e)

    go : ((is_letter b || (b == 95)) ≡ true) ⊎ ((b == 36) ≡ true) → b < 128
    go (inl e) = more (or_cases (is_letter b) (b == 95) e)
    go (inr e) = omega (arith, eqb-true b 36 e)

part_small : (b : ℕ) → is_name_part b ≡ true → b < 128
part_small b h = go (or_cases (is_name_start b) (is_digit b) h)
  where
    go : (is_name_start b ≡ true) ⊎ (is_digit b ≡ true) → b < 128
    go (inl e) = start_small b e
    go (inr e) = omega (arith, leb-true b 57 (and_parts (nat_le 48 b) (nat_le b 57) e).1)

parts_ascii : (u : List ℕ) → list_all is_name_part u ≡ true → IsAscii u
parts_ascii [] h i = omega arith
parts_ascii (b ∷ u) h zero = part_small b (and_parts (is_name_part b) (list_all is_name_part u) h).0
parts_ascii (b ∷ u) h (suc i) = parts_ascii u (and_parts (is_name_part b) (list_all is_name_part u) h).1 i

ascii_more : (b : ℕ) (u : List ℕ) → b < 128 → IsAscii u → IsAscii (b ∷ u)
ascii_more b u h g zero = h
ascii_more b u h g (suc i) = g i

sure : (t : Bool) (p : Piece) (q : Piece) → piece_if t p ≡ Some q → t ≡ true
sure true p q e = refl
sure false p q e = absurd (cc)

not_text : (u : List ℕ) → text_piece u ≡ Some (Word Name) → ⊥
not_text u e = go (closes_text u) (prefix_len (λ byte. not (byte == 92)) u == length u) e
  where
    go : (a b : Bool) → (if a then Some (if b then Word Text else Fault BadByte (1 + prefix_len (λ byte. not (byte == 92)) u)) else piece_if (is_empty u) (Fault OpenText 0)) ≡ Some (Word Name) → ⊥
    go true true e = cc
    go true false e = cc
    go false b e = not_piece _ (Fault OpenText 0) (Word Name) (λ x. cc) e

-- a name is ASCII
name_ascii : (t : List ℕ) → sl_piece t ≡ Some (Word Name) → IsAscii t
name_ascii [] e = absurd (cc)
name_ascii (b ∷ u) e = go (is_white b) (is_name_start b) (b == 48) (is_digit b) (b == 34) (b == 47) refl e
  where
    go : (w s z d q c : Bool) → is_name_start b ≡ s
        → (if w then piece_if (is_empty u) Blank else if s then piece_if (list_all is_name_part u) (word keywords (b ∷ u)) else if z then piece_if (is_empty u) (Word Number) else if d then piece_if (list_all is_digit u) (Word Number) else if q then text_piece u else if c then slash_piece u else symbol_piece is_symbol is_pair b u) ≡ Some (Word Name)
        → IsAscii (b ∷ u)
    go true s z d q c h e = absurd (not_piece _ Blank (Word Name) (λ x. cc) e)
    go false true z d q c h e = ascii_more b u (start_small b h) (parts_ascii u (sure _ (word keywords (b ∷ u)) (Word Name) e))
    go false false true d q c h e = absurd (not_piece _ (Word Number) (Word Name) (λ x. cc) e)
    go false false false true q c h e = absurd (not_piece _ (Word Number) (Word Name) (λ x. cc) e)
    go false false false false true c h e = absurd (not_text u e)
    go false false false false false true h e = absurd (not_comment u Name (λ x. cc) e)
    go false false false false false false h e = absurd (not_symbol b u Name (λ x. cc) e)

-- the last byte is a `"`
abbrev ClosesQuote : List ℕ → Type 0
ClosesQuote u = (0 < length u) × (get_or u (length u - 1) 0 ≡ 34)

last_more : (b : ℕ) (v : List ℕ) → 0 < length v → get_or (b ∷ v) (length (b ∷ v) - 1) 0 ≡ get_or v (length v - 1) 0
last_more b v h = ap (λ i. get_or (b ∷ v) i 0) (shifted (length v) h)
  where
    shifted : (n : ℕ) → 0 < n → suc n - 1 ≡ suc (n - 1)
    shifted n h = omega arith

closes_quote : (u : List ℕ) → closes_text u ≡ true → ClosesQuote u
closes_quote [] e = absurd (cc)
closes_quote (b ∷ u) e = go (closes_quote u) (b == 34) (is_line_end b) refl e
  where
    last : (v : List ℕ) → is_empty v ≡ true → b ≡ 34 → ClosesQuote (b ∷ v)
    last [] h s = (omega arith, s)
    last (c ∷ v) h s = absurd (cc)

    before : (v : List ℕ) → ClosesQuote v → ClosesQuote (b ∷ v)
    before [] h = absurd (omega (arith, h.0))
    before (c ∷ v) h = (omega arith, last_more b (c ∷ v) h.0 ∙ h.1)

    go : (closes_text u ≡ true → ClosesQuote u) → (a l : Bool) → (b == 34) ≡ a → (if a then is_empty u else (not l && closes_text u)) ≡ true → ClosesQuote (b ∷ u)
    go more true l h e = last u e (eqb-true b 34 h)
    go more false l h e = before u (more (and_parts (not l) (closes_text u) e).1)

record Quoted (t : List ℕ) : Type 0 where
  two : 2 ≤ length t
  opens : get_or t 0 0 ≡ 34
  closes : get_or t (length t - 1) 0 ≡ 34

closed : (u : List ℕ) → text_piece u ≡ Some (Word Text) → closes_text u ≡ true
closed u e = go (closes_text u) e
  where
    go : (a : Bool) → (if a then Some (closed_text u) else piece_if (is_empty u) (Fault OpenText 0)) ≡ Some (Word Text) → a ≡ true
    go true e = refl
    go false e = absurd (not_piece _ (Fault OpenText 0) (Word Text) (λ x. cc) e)

quote_more : (b : ℕ) (u : List ℕ) → b ≡ 34 → ClosesQuote u → Quoted (b ∷ u)
quote_more b [] e h = absurd (omega (arith, h.0))
quote_more b (c ∷ u) e h = record { two = omega arith; opens = e; closes = last_more b (c ∷ u) h.0 ∙ h.1 }

word_not_text : (n : List ℕ) → word keywords n ≡ Word Text → ⊥
word_not_text n e = go (list_any (λ keyword. bytes_eq n keyword) keywords) e
  where
    go : (t : Bool) → Word (if t then Keyword else Name) ≡ Word Text → ⊥
    go true e = cc
    go false e = cc

quoted : (t : List ℕ) → sl_piece t ≡ Some (Word Text) → Quoted t
quoted [] e = absurd (cc)
quoted (b ∷ u) e = go (is_white b) (is_name_start b) (b == 48) (is_digit b) (b == 34) (b == 47) refl e
  where
    go : (w s z d q c : Bool) → (b == 34) ≡ q
        → (if w then piece_if (is_empty u) Blank else if s then piece_if (list_all is_name_part u) (word keywords (b ∷ u)) else if z then piece_if (is_empty u) (Word Number) else if d then piece_if (list_all is_digit u) (Word Number) else if q then text_piece u else if c then slash_piece u else symbol_piece is_symbol is_pair b u) ≡ Some (Word Text)
        → Quoted (b ∷ u)
    go true s z d q c h e = absurd (not_piece _ Blank (Word Text) (λ x. cc) e)
    go false true z d q c h e = absurd (not_piece _ (word keywords (b ∷ u)) (Word Text) (word_not_text (b ∷ u)) e)
    go false false true d q c h e = absurd (not_piece _ (Word Number) (Word Text) (λ x. cc) e)
    go false false false true q c h e = absurd (not_piece _ (Word Number) (Word Text) (λ x. cc) e)
    go false false false false true c h e = quote_more b u (eqb-true b 34 h) (closes_quote u (closed u e))
    go false false false false false true h e = absurd (not_comment u Text (λ x. cc) e)
    go false false false false false false h e = absurd (not_symbol b u Text (λ x. cc) e)

-- what stands between two `"` of a text
between : (bytes : List ℕ) (at n : ℕ) → IsUtf8 bytes → n ≤ length (drop at bytes) → Quoted (take n (drop at bytes)) → IsUtf8 (inner (take n (drop at bytes)))
between bytes at n u le q =
    let t = take n (drop at bytes) in
    let long : length t ≡ n = length-take-le n (drop at bytes) le in
    let two : 2 ≤ n = omega (arith, q.two) in
    let within : at + n ≤ length bytes = omega (arith, length-drop at bytes) in
    let first : get_or bytes at 0 ≡ 34 = ap (λ i. get_or bytes i 0) (sum_none at) ∙ sym (get_or-take n (drop at bytes) 0 0 (omega arith) ∙ get_or-drop at bytes 0 0) ∙ q.opens in
    let last : get_or bytes (at + (n - 1)) 0 ≡ 34 = sym (get_or-take n (drop at bytes) (n - 1) 0 (omega arith) ∙ get_or-drop at bytes (n - 1) 0) ∙ ap (λ i. get_or t (i - 1) 0) (sym long) ∙ q.closes in
    let whole : inner t ≡ take ((at + (n - 1)) - (at + 1)) (drop (at + 1) bytes) =
    ap (λ i. take (i - 2) (drop 1 t)) long
    ∙ ap (λ i. take (n - 2) (drop 1 (take i (drop at bytes)))) (one_less n (omega arith))
    ∙ ap (take (n - 2)) (drop-take 1 (n - 1) (drop at bytes))
    ∙ take-take (n - 2) (n - 1) (drop 1 (drop at bytes)) (omega arith)
    ∙ ap (take (n - 2)) (drop-drop 1 at bytes)
    ∙ ap (λ i. take i (drop (at + 1) bytes)) (gap at n two) in
    subst IsUtf8 (sym whole)
    (IsUtf8-between bytes (at + 1) (at + (n - 1)) u (omega arith)
    (IsCharBoundary-after_ascii bytes at u (omega arith) (omega (arith, first)))
    (IsCharBoundary-before_ascii bytes (at + (n - 1)) (omega arith) (omega (arith, last))))
  where
    sum_none : (a : ℕ) → a ≡ a + 0
    sum_none a = omega arith

    one_less : (m : ℕ) → 1 ≤ m → m ≡ 1 + (m - 1)
    one_less m h = omega arith

    gap : (a m : ℕ) → 2 ≤ m → m - 2 ≡ (a + (m - 1)) - (a + 1)
    gap a m h = omega arith

spelled : (bytes : List ℕ) (at n : ℕ) (k : TokenKind) → IsUtf8 bytes → n ≤ length (drop at bytes) → sl_piece (take n (drop at bytes)) ≡ Some (Word k) → IsSpelled k (take n (drop at bytes))
spelled bytes at n Name u le e = IsUtf8-from_ascii _ (name_ascii _ e)
spelled bytes at n Number u le e = tt
spelled bytes at n Text u le e = between bytes at n u le (quoted _ e)
spelled bytes at n Keyword u le e = tt
spelled bytes at n Symbol u le e = tt

all_spelled_from : (bytes rest : List ℕ) (at : ℕ) (tokens : List Token) → IsUtf8 bytes → rest ≡ drop at bytes → Lexes sl_piece at rest tokens → AllSpelled bytes tokens
all_spelled_from bytes rest at _ u e at_end = tt
all_spelled_from bytes rest at tokens u e (past_blank n l more) = all_spelled_from bytes (drop n rest) (at + n) tokens u (ap (drop n) e ∙ drop-drop n at bytes) more
all_spelled_from bytes rest at _ u e (past_token {tokens = tokens} {kind = k} n l more) =
    (spelled bytes at n k u (subst (λ r. n ≤ length r) e l.within) (ap (λ r. sl_piece (take n r)) (sym e) ∙ l.is), all_spelled_from bytes (drop n rest) (at + n) tokens u (ap (drop n) e ∙ drop-drop n at bytes) more)

pub all_spelled : (bytes : List ℕ) (tokens : List Token) → IsUtf8 bytes → Lexes sl_piece 0 bytes tokens → AllSpelled bytes tokens
all_spelled bytes tokens u l = all_spelled_from bytes bytes 0 tokens u refl l
