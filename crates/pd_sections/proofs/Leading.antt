-- What a lexer knows behind some pieces: how the rest of the text splits or offends, the whole does.
use Rattle.std.proofs.Common.{◌≡◌, ℕ, ◌+◌, ◌<◌, ◌≤◌, zero-add, List, [], ◌∷◌, ◌++◌, length, drop, sym, subst, arith, append_assoc, append-nil, length-append, length-drop}
use Rattle.std.proofs.lemmas.List.{drop-drop}
use Rattle.std.proofs.Math.ListN.{drop_of_length-le}
use Rattle.pd_sections.specs.declared.Token.{Token}
use Rattle.pd_sections.specs.declared.TokenKind.{TokenKind}
use Rattle.pd_sections.specs.declared.Rule.{Rule}
use Rattle.pd_sections.specs.declared.Rule.TheVariants.{BadByte}
use Rattle.pd_sections.specs.declared.Piece.{Piece}
use Rattle.pd_sections.specs.declared.Piece.TheVariants.{Blank, Word, Fault}
use Rattle.pd_sections.specs.declared.Refusal.{Refusal}
use Rattle.pd_sections.specs.Lexing.{Language, IsLongest, StartsNoPiece, Lexes, at_end, past_blank, past_token, Offends, in_fault, starts_none, behind_blank, behind_token, InOrder, Splits, IsRefused}
use Rattle.pd_sections.proofs.Splitting.{splits_once, splits_or_offends, offends_once}

pub record Leads (f : Language) (bytes : List ℕ) (at : ℕ) (tokens : List Token) : Type 0 where
  pub within : at ≤ length bytes
  pub few : length tokens ≤ at
  pub lexes : (more : List Token) → Lexes f at (drop at bytes) more → Lexes f 0 bytes (tokens ++ more)
  pub offends : (refusal : Refusal) → Offends f at (drop at bytes) refusal → Offends f 0 bytes refusal

pub begins : (f : Language) (bytes : List ℕ) → Leads f bytes 0 []
begins f bytes = record { within = omega arith; few = omega arith; lexes = λ more l. l; offends = λ refusal o. o }

inside : (f : Language) (bytes : List ℕ) (at n : ℕ) (piece : Piece) → at ≤ length bytes → IsLongest f (drop at bytes) piece n → at + n ≤ length bytes
inside f bytes at n piece h a = omega (arith, a.within, length-drop at bytes)

behind : (bytes : List ℕ) (at n : ℕ) → drop n (drop at bytes) ≡ drop (at + n) bytes
behind bytes at n = drop-drop n at bytes

pub past_a_blank : (f : Language) (bytes : List ℕ) (at n : ℕ) (tokens : List Token) → Leads f bytes at tokens → IsLongest f (drop at bytes) Blank n
    → Leads f bytes (at + n) tokens
past_a_blank f bytes at n tokens l a = record {
  within = inside f bytes at n Blank l.within a;
  few = omega (arith, l.few);
  lexes = λ more r. l.lexes more (past_blank n a (subst (λ xs. Lexes f (at + n) xs more) (sym (behind bytes at n)) r));
  offends = λ refusal r. l.offends refusal (behind_blank n a (subst (λ xs. Offends f (at + n) xs refusal) (sym (behind bytes at n)) r));
}

pub past_a_token : (f : Language) (bytes : List ℕ) (at n : ℕ) (kind : TokenKind) (tokens : List Token) → Leads f bytes at tokens
    → IsLongest f (drop at bytes) (Word kind) n → Leads f bytes (at + n) (tokens ++ record { kind = kind; start = at; len = n } ∷ [])
past_a_token f bytes at n kind tokens l a = record {
  within = inside f bytes at n (Word kind) l.within a;
  few = rw length-append (omega (arith, l.few, a.some));
  lexes = λ more r. rw append_assoc (l.lexes _ (past_token n a (subst (λ xs. Lexes f (at + n) xs more) (sym (behind bytes at n)) r)));
  offends = λ refusal r. l.offends refusal (behind_token n a (subst (λ xs. Offends f (at + n) xs refusal) (sym (behind bytes at n)) r));
}

-- the tokens of a text stand in order
orders : (f : Language) {at : ℕ} {bytes : List ℕ} {tokens : List Token} → Lexes f at bytes tokens → (from : ℕ) → from ≤ at → InOrder from (at + length bytes) tokens
orders f at_end from h = omega arith
orders f {at} {bytes} {tokens} (past_blank n a r) from h =
    let more = orders f r from (omega arith) in
    subst (λ k. InOrder from k tokens) (omega (arith, length-drop n bytes, a.within)) more
orders f {at} {bytes} (past_token {tokens = tokens} n a r) from h =
    let more = orders f r (at + n) (omega arith) in
    (h, a.some, subst (λ k. InOrder (at + n) k tokens) (omega (arith, length-drop n bytes, a.within)) more)

splits : (f : Language) (bytes : List ℕ) (tokens : List Token) → Lexes f 0 bytes tokens → Splits f bytes tokens
splits f bytes tokens l = record {
  lexes = l;
  only = λ others k. splits_once f k l;
  in_order = subst (λ k. InOrder 0 k tokens) (zero-add (length bytes)) (orders f l 0 (omega arith));
}

pub ends_there : (f : Language) (bytes : List ℕ) (at : ℕ) (tokens : List Token) → Leads f bytes at tokens → length bytes ≤ at → Splits f bytes tokens
ends_there f bytes at tokens l h =
    let nothing_left : drop at bytes ≡ [] = drop_of_length-le bytes h in
    let rest : Lexes f at (drop at bytes) [] = subst (λ xs. Lexes f at xs []) (sym nothing_left) at_end in
    splits f bytes tokens (subst (λ xs. Lexes f 0 bytes xs) (append-nil tokens) (l.lexes [] rest))

is_refused : (f : Language) (bytes : List ℕ) (refusal : Refusal) → Offends f 0 bytes refusal → refusal.at < length bytes → IsRefused f bytes refusal
is_refused f bytes refusal o h = record {
  offends = o;
  only = λ other k. offends_once f k o;
  splits_not = λ tokens l. splits_or_offends f l o;
  within = h;
}

pub at_a_fault : (f : Language) (bytes : List ℕ) (at n k : ℕ) (rule : Rule) (tokens : List Token) → Leads f bytes at tokens
    → IsLongest f (drop at bytes) (Fault rule k) n → k < n → IsRefused f bytes (record { rule = rule; at = at + k })
at_a_fault f bytes at n k rule tokens l a h =
    is_refused f bytes _ (l.offends _ (in_fault n a)) (omega (arith, inside f bytes at n (Fault rule k) l.within a))

none_at : (f : Language) (at : ℕ) (bytes : List ℕ) → 0 < length bytes → StartsNoPiece f bytes → Offends f at bytes (record { rule = BadByte; at = at })
none_at f at [] h a = absurd (omega arith)
none_at f at (byte ∷ bytes) h a = starts_none a

pub at_no_piece : (f : Language) (bytes : List ℕ) (at : ℕ) (tokens : List Token) → Leads f bytes at tokens → at < length bytes
    → StartsNoPiece f (drop at bytes) → IsRefused f bytes (record { rule = BadByte; at = at })
at_no_piece f bytes at tokens l h a =
    is_refused f bytes _ (l.offends _ (none_at f at (drop at bytes) (omega (arith, length-drop at bytes)) a)) h
