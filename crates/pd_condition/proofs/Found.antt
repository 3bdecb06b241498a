-- The condition that a text is, in the form that computes, is what the definition says.
use Rattle.std.proofs.Common.{◌≡◌, ℕ, zero, suc, ◌+◌, ◌<◌, ◌≤◌, List, [], ◌∷◌, length, take, drop, Option, None, Some, option_map, Result, Ok, Err, inl, inr, arith, refl, sym, ap, ◌∙◌, subst}
use Rattle.std.specs.Prelude.{IfOk, IfErr}
use Rattle.std.proofs.lemmas.List.{length-drop}
use Rattle.std.proofs.lemmas.Bool.{cases_lt}
use Rattle.pd_sections.specs.declared.Token.{Token}
use Rattle.pd_sections.specs.declared.Piece.{Piece}
use Rattle.pd_sections.specs.declared.Piece.TheVariants.{Blank, Word, Fault}
use Rattle.pd_sections.specs.declared.Refusal.{Refusal}
use Rattle.pd_sections.specs.declared.Stop.{Stop}
use Rattle.pd_sections.specs.declared.Stop.TheVariants.{Refused, Memory}
use Rattle.pd_sections.specs.declared.TokenKind.{TokenKind}
use Rattle.pd_sections.specs.Lexing.{Language, InOrder, Splits, IsLongest, StartsNoPiece, Lexes, at_end, past_blank, past_token, Offends, in_fault, starts_none, behind_blank, behind_token}
use Rattle.pd_sections.specs.SlPieces.{sl_piece}
use Rattle.pd_sl_spell.specs.Words as spelling
use Rattle.pd_sl_spell.specs.Refusals.{Rule}
use Rattle.pd_sl_read.specs.Tokens.{words_of}
use Rattle.pd_plan.specs.declared.condition.Condition.{Condition}
use Rattle.pd_condition.specs.Refusals.{Accepts, Refuses, Answers}
use Rattle.pd_condition.specs.Answers.{Reads, IsNoCondition, by_lexing, by_spelling, StopsReading}
use Rattle.pd_condition.specs.Machine.{followed}
use Rattle.pd_condition.specs.Reading.{read}
use Rattle.pd_condition.specs.Found.{or_shorter, longest, from_piece, tokens_from, spelled_in, condition_in, StopsAtNone}
use Rattle.pd_condition.proofs.Answer.{read_answers_all}
use Rattle.pd_condition.proofs.Only.{accepted, not_both}

-- the longest piece is found from any bound that it is within
longest_is : (l : Language) (bytes : List ℕ) (piece : Piece) (n : ℕ) → IsLongest l bytes piece n → (m : ℕ) → n ≤ m → m ≤ length bytes → longest l bytes m ≡ Some (piece, n)
longest_is l bytes piece n h zero a b = let some = h.some in absurd (omega arith)
longest_is l bytes piece n h (suc m) a b =
    elim (cases_lt n (suc m)) [
      | inl less ↦ ap (λ p. or_shorter p (suc m) (longest l bytes m)) (h.longest (suc m) less b) ∙ longest_is l bytes piece n h m (omega arith) (omega arith)
      | inr more ↦ let same : n ≡ suc m = omega arith in
          subst (λ k. or_shorter (l (take k bytes)) k (longest l bytes m) ≡ Some (piece, n)) same (ap (λ p. or_shorter p n (longest l bytes m)) h.is)
    ]

-- where no piece starts none is found
longest_none : (l : Language) (bytes : List ℕ) → StartsNoPiece l bytes → (m : ℕ) → m ≤ length bytes → longest l bytes m ≡ None
longest_none l bytes h zero b = refl
longest_none l bytes h (suc m) b = ap (λ p. or_shorter p (suc m) (longest l bytes m)) (h.none (suc m) (omega arith) b) ∙ longest_none l bytes h m (omega arith)

-- one piece is taken, the longest
one_piece : (l : Language) (most at : ℕ) (byte : ℕ) (bytes : List ℕ) (piece : Piece) (n : ℕ) → IsLongest l (byte ∷ bytes) piece n
    → tokens_from l (suc most) at (byte ∷ bytes) ≡ from_piece at piece n (tokens_from l most (at + n) (drop n (byte ∷ bytes)))
one_piece l most at byte bytes piece n h =
    ap (λ o. followed o (λ p. from_piece at p.0 p.1 (tokens_from l most (at + p.1) (drop p.1 (byte ∷ bytes))))) (longest_is l (byte ∷ bytes) piece n h (length (byte ∷ bytes)) h.within (omega arith))

fewer : (n most : ℕ) (byte : ℕ) (bytes : List ℕ) → 0 < n → length (byte ∷ bytes) ≤ suc most → length (drop n (byte ∷ bytes)) ≤ most
fewer n most byte bytes some few = let e = length-drop n (byte ∷ bytes) in omega arith

-- the tokens of a text are found
pub lexed : {l : Language} {at : ℕ} {bytes : List ℕ} {tokens : List Token} → Lexes l at bytes tokens → (most : ℕ) → length bytes ≤ most → tokens_from l most at bytes ≡ Some tokens
lexed {l = l} {at = at} at_end zero few = refl
lexed {l = l} {at = at} at_end (suc most) few = refl
lexed {bytes = []} (past_blank n h rest) most few = let a = h.some in let b = h.within in absurd (omega arith)
lexed {bytes = byte ∷ bytes} (past_blank n h rest) zero few = absurd (omega arith)
lexed {l = l} {at = at} {bytes = byte ∷ bytes} (past_blank n h rest) (suc most) few = one_piece l most at byte bytes Blank n h ∙ lexed rest most (fewer n most byte bytes h.some few)
lexed {bytes = []} (past_token n h rest) most few = let a = h.some in let b = h.within in absurd (omega arith)
lexed {bytes = byte ∷ bytes} (past_token n h rest) zero few = absurd (omega arith)
lexed {l = l} {at = at} {bytes = byte ∷ bytes} (past_token {kind = kind} n h rest) (suc most) few =
    one_piece l most at byte bytes (Word kind) n h ∙ ap (option_map (λ tokens. record { kind = kind; start = at; len = n } ∷ tokens)) (lexed rest most (fewer n most byte bytes h.some few))

-- a text with an offending place has none
pub offended : {l : Language} {at : ℕ} {bytes : List ℕ} {refusal : Refusal} → Offends l at bytes refusal → (most : ℕ) → tokens_from l most at bytes ≡ None
offended {bytes = []} (in_fault n h) most = let a = h.some in let b = h.within in absurd (omega arith)
offended {bytes = byte ∷ bytes} (in_fault n h) zero = refl
offended {l = l} {at = at} {bytes = byte ∷ bytes} (in_fault {rule = rule} {behind = behind} n h) (suc most) = one_piece l most at byte bytes (Fault rule behind) n h
offended (starts_none h) zero = refl
offended {l = l} {at = at} (starts_none {byte = byte} {bytes = bytes} h) (suc most) =
    ap (λ o. followed o (λ p. from_piece at p.0 p.1 (tokens_from l most (at + p.1) (drop p.1 (byte ∷ bytes))))) (longest_none l (byte ∷ bytes) h (length (byte ∷ bytes)) (omega arith))
offended {bytes = []} (behind_blank n h rest) most = let a = h.some in let b = h.within in absurd (omega arith)
offended {bytes = byte ∷ bytes} (behind_blank n h rest) zero = refl
offended {l = l} {at = at} {bytes = byte ∷ bytes} (behind_blank n h rest) (suc most) = one_piece l most at byte bytes Blank n h ∙ offended rest most
offended {bytes = []} (behind_token n h rest) most = let a = h.some in let b = h.within in absurd (omega arith)
offended {bytes = byte ∷ bytes} (behind_token n h rest) zero = refl
offended {l = l} {at = at} {bytes = byte ∷ bytes} (behind_token {kind = kind} n h rest) (suc most) =
    one_piece l most at byte bytes (Word kind) n h ∙ ap (option_map (λ tokens. record { kind = kind; start = at; len = n } ∷ tokens)) (offended rest most)

refused_none : (ws : List spelling.Word) (rule : Rule) (at : ℕ) → Refuses ws rule at → (r : Result Condition (Rule × ℕ)) → Answers ws r → spelled_in r ≡ None
refused_none ws rule at h (Ok c) a = absurd (not_both ws c rule at a h)
refused_none ws rule at h (Err e) a = refl

-- what reads as a condition is that one
pub condition_there : (bytes : List ℕ) (c : Condition) → Reads bytes c → condition_in bytes ≡ Some c
condition_there bytes c r =
    ap (λ o. followed o (λ tokens. spelled_in (read (words_of bytes tokens)))) (lexed r.1.lexes (length bytes) (omega arith))
    ∙ ap spelled_in (accepted (words_of bytes r.0) c r.2.spelled r.2.clean)

-- what is refused is none
pub condition_missing : (bytes : List ℕ) (refusal : Refusal) → IsNoCondition bytes refusal → condition_in bytes ≡ None
condition_missing bytes refusal (by_lexing h) = ap (λ o. followed o (λ tokens. spelled_in (read (words_of bytes tokens)))) (offended h.offends (length bytes))
condition_missing bytes refusal (by_spelling tokens s h) =
    ap (λ o. followed o (λ tokens. spelled_in (read (words_of bytes tokens)))) (lexed s.lexes (length bytes) (omega arith))
    ∙ refused_none (words_of bytes tokens) h.rule h.at h.refuses (read (words_of bytes tokens)) (read_answers_all (words_of bytes tokens))

-- what a call that reads a text returned
pub found_by : (bytes : List ℕ) (r : Result Condition (Stop Refusal)) → IfOk r (Reads bytes) → IfOk r (λ c. condition_in bytes ≡ Some c)
found_by bytes (Ok c) h = condition_there bytes c h
found_by bytes (Err stop) h = h

pub none_by : (bytes : List ℕ) (r : Result Condition (Stop Refusal)) → IfErr r (StopsReading bytes) → IfErr r (StopsAtNone bytes)
none_by bytes (Ok c) h = h
none_by bytes (Err (Refused refusal)) h = condition_missing bytes refusal h
none_by bytes (Err Memory) h = tt

-- ---- and back

-- the longest piece of at most m bytes
record LongestTo (l : Language) (bytes : List ℕ) (m : ℕ) (piece : Piece) (n : ℕ) : Type 0 where
  pub some : 0 < n
  pub within : n ≤ m
  pub is : l (take n bytes) ≡ Some piece
  pub longest : (k : ℕ) → n < k → k ≤ m → l (take k bytes) ≡ None

none_more : (l : Language) (bytes : List ℕ) (m n k : ℕ) (piece : Piece) → LongestTo l bytes m piece n → l (take (suc m) bytes) ≡ None → n < k → k ≤ suc m → l (take k bytes) ≡ None
none_more l bytes m n k piece h none less most =
    elim (cases_lt k (suc m)) [
      | inl below ↦ h.longest k less (omega arith)
      | inr above ↦ let same : suc m ≡ k = omega arith in subst (λ j. l (take j bytes) ≡ None) same none
    ]

pair_same : (a b : Piece) (m n : ℕ) → ◌≡◌ {A = Option (Piece × ℕ)} (Some (a, m)) (Some (b, n)) → (a ≡ b) × (m ≡ n)
pair_same a b m n e = let q : ◌≡◌ {A = Piece × ℕ} (a, m) (b, n) = cc in (ap (λ (x : Piece × ℕ). x.0) q, ap (λ (x : Piece × ℕ). x.1) q)

longest_found : (l : Language) (bytes : List ℕ) (m : ℕ) (piece : Piece) (n : ℕ) → longest l bytes m ≡ Some (piece, n) → LongestTo l bytes m piece n
longest_found l bytes zero piece n e = absurd cc
longest_found l bytes (suc m) piece n e = by_piece (l (take (suc m) bytes)) refl e (longest_found l bytes m piece n)
  where
    by_piece : (o : Option Piece) → l (take (suc m) bytes) ≡ o → or_shorter o (suc m) (longest l bytes m) ≡ Some (piece, n) → (longest l bytes m ≡ Some (piece, n) → LongestTo l bytes m piece n) → LongestTo l bytes (suc m) piece n
    by_piece None is e rest =
        let h = rest e in
        record { some = h.some; within = omega (arith, h.within); is = h.is; longest = λ k less most. none_more l bytes m n k piece h is less most }
    by_piece (Some found) is e rest =
        let p : found ≡ piece = (pair_same found piece (suc m) n e).0 in
        let q : suc m ≡ n = (pair_same found piece (suc m) n e).1 in
        record {
          some = omega (arith, q);
          within = omega (arith, q);
          is = subst (λ j. l (take j bytes) ≡ Some piece) q (is ∙ ap (λ x. Some x) p);
          longest = λ k less most. absurd (omega (arith, q, less, most));
        }

is_longest : (l : Language) (bytes : List ℕ) (piece : Piece) (n : ℕ) → longest l bytes (length bytes) ≡ Some (piece, n) → IsLongest l bytes piece n
is_longest l bytes piece n e = let h = longest_found l bytes (length bytes) piece n e in record { some = h.some; within = h.within; is = h.is; longest = h.longest }

-- the tokens that are found are those of the text
pub lexes_found : (l : Language) (most at : ℕ) (bytes : List ℕ) (tokens : List Token) → tokens_from l most at bytes ≡ Some tokens → Lexes l at bytes tokens
lexes_found l zero at [] tokens e = let same : [] ≡ tokens = cc in subst (λ ts. Lexes l at [] ts) same at_end
lexes_found l (suc most) at [] tokens e = let same : [] ≡ tokens = cc in subst (λ ts. Lexes l at [] ts) same at_end
lexes_found l zero at (byte ∷ bytes) tokens e = absurd cc
lexes_found l (suc most) at (byte ∷ bytes) tokens e = by_longest (longest l (byte ∷ bytes) (length (byte ∷ bytes))) refl e (λ n ts. lexes_found l most (at + n) (drop n (byte ∷ bytes)) ts)
  where
    by_rest : (kind : TokenKind) (n : ℕ) → IsLongest l (byte ∷ bytes) (Word kind) n → (o : Option (List Token)) → option_map (λ ts. record { kind = kind; start = at; len = n } ∷ ts) o ≡ Some tokens
        → ((ts : List Token) → o ≡ Some ts → Lexes l (at + n) (drop n (byte ∷ bytes)) ts) → Lexes l at (byte ∷ bytes) tokens
    by_rest kind n h None e rest = absurd cc
    by_rest kind n h (Some ts) e rest =
        let same : record { kind = kind; start = at; len = n } ∷ ts ≡ tokens = cc in
        subst (λ us. Lexes l at (byte ∷ bytes) us) same (past_token n h (rest ts refl))

    by_longest : (o : Option (Piece × ℕ)) → longest l (byte ∷ bytes) (length (byte ∷ bytes)) ≡ o
        → followed o (λ p. from_piece at p.0 p.1 (tokens_from l most (at + p.1) (drop p.1 (byte ∷ bytes)))) ≡ Some tokens
        → ((n : ℕ) (ts : List Token) → tokens_from l most (at + n) (drop n (byte ∷ bytes)) ≡ Some ts → Lexes l (at + n) (drop n (byte ∷ bytes)) ts) → Lexes l at (byte ∷ bytes) tokens
    by_longest None is e rest = absurd cc
    by_longest (Some (Blank, n)) is e rest = past_blank n (is_longest l (byte ∷ bytes) Blank n is) (rest n tokens e)
    by_longest (Some (Word kind, n)) is e rest = by_rest kind n (is_longest l (byte ∷ bytes) (Word kind) n is) (tokens_from l most (at + n) (drop n (byte ∷ bytes))) e (rest n)
    by_longest (Some (Fault rule behind, n)) is e rest = absurd cc

in_order : {l : Language} {at : ℕ} {bytes : List ℕ} {tokens : List Token} → Lexes l at bytes tokens → (from : ℕ) → from ≤ at → InOrder from (at + length bytes) tokens
in_order at_end from low = omega arith
in_order {at = at} {bytes = bytes} {tokens = tokens} (past_blank n h rest) from low =
    subst (λ k. InOrder from k tokens) (omega (arith, length-drop n bytes, h.within)) (in_order rest from (omega arith))
in_order {at = at} {bytes = bytes} (past_token {tokens = tokens} n h rest) from low =
    (low, h.some, subst (λ k. InOrder (at + n) k tokens) (omega (arith, length-drop n bytes, h.within)) (in_order rest (at + n) (omega arith)))

splits_found : (bytes : List ℕ) (tokens : List Token) → tokens_from sl_piece (length bytes) 0 bytes ≡ Some tokens → Splits sl_piece bytes tokens
splits_found bytes tokens e =
    let lexes = lexes_found sl_piece (length bytes) 0 bytes tokens e in
    record {
      lexes = lexes;
      only = λ others other. let same : Some others ≡ Some tokens = sym (lexed other (length bytes) (omega arith)) ∙ e in cc;
      in_order = subst (λ k. InOrder 0 k tokens) (omega arith) (in_order lexes 0 (omega arith));
    }

accepts_found : (ws : List spelling.Word) (c : Condition) (r : Result Condition (Rule × ℕ)) → Answers ws r → spelled_in r ≡ Some c → Accepts ws c
accepts_found ws c (Ok d) a e = let same : d ≡ c = cc in subst (Accepts ws) same a
accepts_found ws c (Err x) a e = absurd cc

-- what is found is what the text reads as
pub condition_reads : (bytes : List ℕ) (c : Condition) → condition_in bytes ≡ Some c → Reads bytes c
condition_reads bytes c e = by_tokens (tokens_from sl_piece (length bytes) 0 bytes) refl e
  where
    by_tokens : (o : Option (List Token)) → tokens_from sl_piece (length bytes) 0 bytes ≡ o → followed o (λ tokens. spelled_in (read (words_of bytes tokens))) ≡ Some c → Reads bytes c
    by_tokens None is e = absurd cc
    by_tokens (Some tokens) is e = (tokens, splits_found bytes tokens is, accepts_found (words_of bytes tokens) c (read (words_of bytes tokens)) (read_answers_all (words_of bytes tokens)) e)
