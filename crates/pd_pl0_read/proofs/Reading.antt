-- The reader over the tokens of a source, against the rules of the language.
use Rattle.std.proofs.Common.{◌≡◌, ℕ, zero, suc, ◌+◌, ◌<◌, ◌≤◌, ◌^◌, Bool, true, false, List, [], ◌∷◌, length, drop, Option, Some, None, Result, Ok, Err, refl, sym, ap, subst, ◌∙◌, add-one, arith}
use Rattle.std.specs.Prelude.{nat_lt, slice_get, option_map}
use Rattle.std.proofs.lemmas.Bool.{lt-ltb, le-ltb}
use Rattle.pd_sections.specs.declared.Token.{Token}
use Rattle.pd_sections.specs.declared.Rule.{Rule}
use Rattle.pd_sections.specs.declared.Rule.TheVariants as rules
use Rattle.pd_sections.specs.Lexing.{InOrder}
use Rattle.pd_turn.specs.declared.Node.{Node}
use Rattle.pd_pl0_spell.specs.Words.{Word, Number, Tree}
use Rattle.pd_pl0_spell.specs.Machine.{State, BlockStart, BeforeConstant, BeforeEqual, BeforeNumber, AfterConstant, AfterConstants, BeforeVariable, AfterVariable, AfterVariables, BeforeProcedure, AfterProcedure, BeforeStatement, BeforeBecomes, BeforeCallee, AfterStatement, BeforeCondition, BeforeExpression, Wants, Has, Finished, start, step, broken, final}
use Rattle.pd_pl0_spell.specs.Names as spelling
use Rattle.pd_pl0_spell.specs.Names.{no_declarations}
use Rattle.pd_pl0_spell.specs.Refusals.{largest, nodes, Answers}
use Rattle.pd_pl0_spell.specs.Reading as machine
use Rattle.pd_pl0_spell.specs.Reading.{read, read_from, is_too_large}
use Rattle.pd_pl0_spell.proofs.Answer.{read_answers_all}
use Rattle.pd_pl0_read.specs.declared.parts.Part.{Part}
use Rattle.pd_pl0_read.specs.declared.parts.Word.TheVariants as words
use Rattle.pd_pl0_read.specs.Held.{Held, taken, taken_within, expected, within_limits, within_names, within_depth, finished, begun}
use Rattle.pd_pl0_read.specs.Resolving.{value_within}
use Rattle.pd_pl0_read.specs.Places.{program_posts}
use Rattle.pd_pl0_read.specs.Behind.{shape, name_in, size, held, held_option}
use Rattle.pd_pl0_read.specs.Tokens.{word_at, words_of, place_of}
use Rattle.pd_pl0_read.specs.Answers.{rule_of, AreNodesBehind, IsRefused}
use Rattle.pd_pl0_read.proofs.Follows.{IsRegular, follows}
use Rattle.pd_pl0_read.proofs.Sizes.{Grows, grows}
use Rattle.pd_pl0_read.proofs.Rules.{broken_follows}
use Rattle.pd_pl0_read.proofs.Counts.{depth, blocks_few, counted}

-- Tokens in order.
pub token_within : (from to : ℕ) (tokens : List Token) (i : ℕ) (t : Token) → InOrder from to tokens → slice_get tokens i ≡ Some t → (t.start + t.len ≤ to) × (0 < t.len)
token_within from to [] i t h e = absurd (cc)
token_within from to (x ∷ xs) zero t h e =
    let s : x ≡ t = cc in
    subst (λ y. (y.start + y.len ≤ to) × (0 < y.len)) s (behind_within (x.start + x.len) to xs h.2, h.1)
  where
    behind_within : (from to : ℕ) (tokens : List Token) → InOrder from to tokens → from ≤ to
    behind_within from to [] h = h
    behind_within from to (x ∷ xs) h = omega (arith, behind_within (x.start + x.len) to xs h.2, h.0)
token_within from to (x ∷ xs) (suc i) t h e = token_within (x.start + x.len) to xs i t h.2 e

pub few_tokens : (from to : ℕ) (tokens : List Token) → InOrder from to tokens → from + length tokens ≤ to
few_tokens from to [] h = omega arith
few_tokens from to (x ∷ xs) h = omega (arith, few_tokens (x.start + x.len) to xs h.2, h.0, h.1)

-- The next word.
next_suc : (bytes : List ℕ) (tokens : List Token) (i : ℕ) (t : Token) → slice_get tokens i ≡ Some t → drop i (words_of bytes tokens) ≡ word_at bytes t ∷ drop (suc i) (words_of bytes tokens)
next_suc bytes [] i t e = absurd (cc)
next_suc bytes (x ∷ xs) zero t e = let s : x ≡ t = cc in ap (λ y. word_at bytes y ∷ words_of bytes xs) s
next_suc bytes (x ∷ xs) (suc i) t e = next_suc bytes xs i t e

next_word : (bytes : List ℕ) (tokens : List Token) (i : ℕ) (t : Token) → slice_get tokens i ≡ Some t → drop i (words_of bytes tokens) ≡ word_at bytes t ∷ drop (i + 1) (words_of bytes tokens)
next_word bytes tokens i t e = rw add-one (next_suc bytes tokens i t e)

place_is : (bytes : List ℕ) (tokens : List Token) (i : ℕ) (t : Token) → slice_get tokens i ≡ Some t → t.start ≡ place_of bytes tokens i
place_is bytes [] i t e = absurd (cc)
place_is bytes (x ∷ xs) zero t e = let s : x ≡ t = cc in ap (λ y. y.start) (sym s)
place_is bytes (x ∷ xs) (suc i) t e = place_is bytes xs i t e

place_behind : (bytes : List ℕ) (tokens : List Token) → length bytes ≡ place_of bytes tokens (length tokens)
place_behind bytes [] = refl
place_behind bytes (x ∷ xs) = place_behind bytes xs

length_words : (bytes : List ℕ) (tokens : List Token) → length (words_of bytes tokens) ≡ length tokens
length_words bytes [] = refl
length_words bytes (x ∷ xs) = ap (λ n. suc n) (length_words bytes xs)

drop_all : (bytes : List ℕ) (tokens : List Token) → drop (length tokens) (words_of bytes tokens) ≡ []
drop_all bytes [] = refl
drop_all bytes (x ∷ xs) = drop_all bytes xs

-- One word with the rules at it.
abbrev held_result : Result State spelling.Rule → Result Held Rule
held_result (Ok s) = Ok (held s)
held_result (Err r) = Err (rule_of r)

depth_follows : (b : Bool) (s : State) → within_depth b (held s) ≡ held_result (machine.within_depth b s)
depth_follows true s = refl
depth_follows false s = refl

names_follow : (b : Option spelling.Rule) (s : State) → within_names (option_map rule_of b) (held s) ≡ held_result (machine.within_names b s)
names_follow (Some rule) s = refl
names_follow None s = ap (λ c. within_depth c (held s)) (sym (depth s)) ∙ depth_follows (nat_lt 200 (machine.depth s)) s

number_follows : (c : Bool) (n : ℕ) (b : Option spelling.Rule) (s : State) → nat_lt largest n ≡ c → within_limits (shape (Number n)) (option_map rule_of b) (held s) ≡ held_result (machine.within_limits c b s)
number_follows true n b s e = ap (λ c. within_limits (words.Number (value_within c n)) (option_map rule_of b) (held s)) e
number_follows false n b s e = ap (λ c. within_limits (words.Number (value_within c n)) (option_map rule_of b) (held s)) e ∙ names_follow b s

limits_follow : (w : Word) (b : Option spelling.Rule) (s : State) → within_limits (shape w) (option_map rule_of b) (held s) ≡ held_result (machine.within_limits (is_too_large w) b s)
limits_follow (Number n) b s = number_follows (nat_lt largest n) n b s refl
limits_follow w b s = names_follow b s

expected_follows : (w : Word) (b : Option spelling.Rule) (o : Option State) → expected (shape w) (option_map rule_of b) (held_option o) ≡ held_result (machine.expected w b o)
expected_follows w b None = refl
expected_follows w b (Some s) = limits_follow w b s

within_follows : (s : State) (w : Word) → size s + 2 < 2 ^ 32 → IsRegular s → taken_within (size s) (held s) (shape w) (name_in w) ≡ held_result (machine.expected w (broken s w) (step s w))
within_follows s w few g =
    ap (λ b. expected (shape w) b (taken (size s) (held s) (shape w) (name_in w))) (broken_follows s w g)
    ∙ ap (expected (shape w) (option_map rule_of (broken s w))) (follows s w few g) ∙ expected_follows w (broken s w) (step s w)

-- Where the reader stands behind `at` words.
pub record Reached (room : ℕ) (words : List Word) (at : ℕ) (h : Held) : Type 0 where
  pub state : State
  pub held_is : h ≡ held state
  pub size_is : size state ≡ at
  pub regular : IsRegular state
  pub read_is : read room words ≡ read_from room at state (drop at words)

pub reached_start : (room : ℕ) (words : List Word) → Reached room words 0 begun
reached_start room words = record { state = start; held_is = refl; size_is = refl; regular = (refl, tt); read_is = refl }

pub reached_blocks : (room : ℕ) (words : List Word) (at : ℕ) (h : Held) → Reached room words at h → at + 2 < 2 ^ 32 → length h.blocks < 2 ^ 32
reached_blocks room words at h r lt = subst (λ g. length g.blocks < 2 ^ 32) (sym r.held_is) (omega (arith, blocks_few r.state, r.size_is))

within_at : (room : ℕ) (words : List Word) (at : ℕ) (h : Held) (w : Word) → at + 2 < 2 ^ 32 → (r : Reached room words at h) → taken_within at h (shape w) (name_in w) ≡ held_result (machine.expected w (broken r.state w) (step r.state w))
within_at room words at h w lt r =
    ap (λ g. taken_within at g (shape w) (name_in w)) r.held_is ∙ ap (λ n. taken_within n (held r.state) (shape w) (name_in w)) (sym r.size_is)
    ∙ within_follows r.state w (subst (λ n. n + 2 < 2 ^ 32) (sym r.size_is) lt) r.regular

expected_some : (w : Word) (b : Option spelling.Rule) (o : Option State) (s : State) → machine.expected w b o ≡ Ok s → o ≡ Some s
expected_some w b None s e = absurd (cc)
expected_some w b (Some t) s e = limit_some (is_too_large w) b t s e
  where
    depth_some : (c : Bool) (t s : State) → machine.within_depth c t ≡ Ok s → Some t ≡ Some s
    depth_some true t s e = absurd (cc)
    depth_some false t s e = cc

    name_some : (b : Option spelling.Rule) (t s : State) → machine.within_names b t ≡ Ok s → Some t ≡ Some s
    name_some (Some rule) t s e = absurd (cc)
    name_some None t s e = depth_some (nat_lt 200 (machine.depth t)) t s e

    limit_some : (c : Bool) (b : Option spelling.Rule) (t s : State) → machine.within_limits c b t ≡ Ok s → Some t ≡ Some s
    limit_some true b t s e = absurd (cc)
    limit_some false b t s e = name_some b t s e

-- a word that breaks no rule
pub reached_next : (room : ℕ) (bytes : List ℕ) (tokens : List Token) (at : ℕ) (t : Token) (h h' : Held) → at + 2 < 2 ^ 32 → Reached room (words_of bytes tokens) at h → slice_get tokens at ≡ Some t → taken_within at h (shape (word_at bytes t)) (name_in (word_at bytes t)) ≡ Ok h' → Reached room (words_of bytes tokens) (at + 1) h'
reached_next room bytes tokens at t h h' lt r e g = go (machine.expected w (broken r.state w) (step r.state w)) refl (sym (within_at room words at h w lt r) ∙ g)
  where
    w : Word
    w = word_at bytes t

    words : List Word
    words = words_of bytes tokens

    went : (s : State) → Grows (size r.state) (Some s) → machine.expected w (broken r.state w) (step r.state w) ≡ Ok s → held_result (Ok s) ≡ Ok h' → Reached room words (at + 1) h'
    went s grown q p = record {
      state = s;
      held_is = cc;
      size_is = grown.0 ∙ ap (λ n. n + 1) r.size_is;
      regular = grown.1;
      read_is = r.read_is ∙ ap (read_from room at r.state) (next_word bytes tokens at t e) ∙ ap (λ x. machine.going_on at x (λ s'. read_from room (at + 1) s' (drop (at + 1) words))) q;
    }

    go : (x : Result State spelling.Rule) → machine.expected w (broken r.state w) (step r.state w) ≡ x → held_result x ≡ Ok h' → Reached room words (at + 1) h'
    go (Err rule) q p = absurd (cc)
    go (Ok s) q p = went s (subst (Grows (size r.state)) (expected_some w (broken r.state w) (step r.state w) s q) (grows r.state w r.regular)) q p

-- a word that breaks a rule
pub refused_at : (room : ℕ) (bytes : List ℕ) (tokens : List Token) (at : ℕ) (t : Token) (h : Held) (rule : Rule) → at + 2 < 2 ^ 32 → Reached room (words_of bytes tokens) at h → slice_get tokens at ≡ Some t → taken_within at h (shape (word_at bytes t)) (name_in (word_at bytes t)) ≡ Err rule → IsRefused room bytes tokens (record { rule = rule; at = t.start })
refused_at room bytes tokens at t h rule lt r e g = go (machine.expected w (broken r.state w) (step r.state w)) refl (sym (within_at room words at h w lt r) ∙ g)
  where
    w : Word
    w = word_at bytes t

    words : List Word
    words = words_of bytes tokens

    go : (x : Result State spelling.Rule) → machine.expected w (broken r.state w) (step r.state w) ≡ x → held_result x ≡ Err rule → IsRefused room bytes tokens (record { rule = rule; at = t.start })
    go (Ok s) q p = absurd (cc)
    go (Err rule') q p =
        let answer : read room words ≡ Err (rule', at) = r.read_is ∙ ap (read_from room at r.state) (next_word bytes tokens at t e) ∙ ap (λ x. machine.going_on at x (λ s'. read_from room (at + 1) s' (drop (at + 1) words))) q in
        record {
          rule = rule';
          at = at;
          refuses = subst (Answers room words) answer (read_answers_all room words);
          rule_is = cc;
          place_is = place_is bytes tokens at t e;
        }

-- Behind the last word.
abbrev behind_last : (room : ℕ) (words : List Word) (at : ℕ) (h : Held) → Reached room words at h → Result Tree (spelling.Rule × ℕ)
behind_last room words at h r = machine.at_last room at (final r.state)

read_last : (room : ℕ) (bytes : List ℕ) (tokens : List Token) (h : Held) (r : Reached room (words_of bytes tokens) (length tokens) h) → read room (words_of bytes tokens) ≡ machine.at_last room (length tokens) (final r.state)
read_last room bytes tokens h r = r.read_is ∙ ap (read_from room (length tokens) r.state) (drop_all bytes tokens)

abbrev posts_of : Option Tree → Option (List (Node Part))
posts_of None = None
posts_of (Some T) = Some (program_posts T)

finished_follows : (s : State) → finished (held s) ≡ posts_of (final s)
finished_follows (BlockStart s o) = refl
finished_follows (BeforeConstant cs s o) = refl
finished_follows (BeforeEqual cs x s o) = refl
finished_follows (BeforeNumber cs x s o) = refl
finished_follows (AfterConstant cs s o) = refl
finished_follows (AfterConstants cs s o) = refl
finished_follows (BeforeVariable cs vs s o) = refl
finished_follows (AfterVariable cs vs s o) = refl
finished_follows (AfterVariables p o) = refl
finished_follows (BeforeProcedure p o) = refl
finished_follows (AfterProcedure x p o) = refl
finished_follows (BeforeStatement h) = refl
finished_follows (BeforeBecomes x h) = refl
finished_follows (BeforeCallee h) = refl
finished_follows (AfterStatement a h) = refl
finished_follows (BeforeCondition v h) = refl
finished_follows (BeforeExpression k) = refl
finished_follows (Wants p k) = refl
finished_follows (Has p f k) = refl
finished_follows (Finished b) = refl

refused_last : (room : ℕ) (bytes : List ℕ) (tokens : List Token) (rule : spelling.Rule) → read room (words_of bytes tokens) ≡ Err (rule, length tokens) → IsRefused room bytes tokens (record { rule = rule_of rule; at = length bytes })
refused_last room bytes tokens rule e = record {
  rule = rule;
  at = length tokens;
  refuses = subst (Answers room (words_of bytes tokens)) e (read_answers_all room (words_of bytes tokens));
  rule_is = refl;
  place_is = place_behind bytes tokens;
}

-- nothing is finished there
pub refused_open : (room : ℕ) (bytes : List ℕ) (tokens : List Token) (h : Held) → Reached room (words_of bytes tokens) (length tokens) h → finished h ≡ None → IsRefused room bytes tokens (record { rule = rules.Unexpected; at = length bytes })
refused_open room bytes tokens h r e = go (final r.state) refl (sym (finished_follows r.state) ∙ ap finished (sym r.held_is) ∙ e)
  where
    go : (o : Option Tree) → final r.state ≡ o → posts_of o ≡ None → IsRefused room bytes tokens (record { rule = rules.Unexpected; at = length bytes })
    go (Some T) q p = absurd (cc)
    go None q p = refused_last room bytes tokens spelling.Unexpected (read_last room bytes tokens h r ∙ ap (machine.at_last room (length tokens)) q)

-- there are too many nodes
pub refused_many : (room : ℕ) (bytes : List ℕ) (tokens : List Token) (h : Held) (ns : List (Node Part)) → Reached room (words_of bytes tokens) (length tokens) h → finished h ≡ Some ns → room < length ns → IsRefused room bytes tokens (record { rule = rules.TooManyNodes; at = length bytes })
refused_many room bytes tokens h ns r e lt = go (final r.state) refl (sym (finished_follows r.state) ∙ ap finished (sym r.held_is) ∙ e)
  where
    go : (o : Option Tree) → final r.state ≡ o → posts_of o ≡ Some ns → IsRefused room bytes tokens (record { rule = rules.TooManyNodes; at = length bytes })
    go None q p = absurd (cc)
    go (Some T) q p =
        let same : program_posts T ≡ ns = cc in
        let big : room < nodes T = omega (arith, counted no_declarations 0 T, ap length same) in
        refused_last room bytes tokens spelling.TooManyNodes (read_last room bytes tokens h r ∙ ap (machine.at_last room (length tokens)) q ∙ ap (λ b. machine.within_room b (length tokens) T) (lt-ltb room (nodes T) big))

-- the nodes of the one tree
pub nodes_read : (room : ℕ) (bytes : List ℕ) (tokens : List Token) (h : Held) (ns : List (Node Part)) → Reached room (words_of bytes tokens) (length tokens) h → finished h ≡ Some ns → length ns ≤ room → AreNodesBehind room bytes tokens ns
nodes_read room bytes tokens h ns r e le = go (final r.state) refl (sym (finished_follows r.state) ∙ ap finished (sym r.held_is) ∙ e)
  where
    go : (o : Option Tree) → final r.state ≡ o → posts_of o ≡ Some ns → AreNodesBehind room bytes tokens ns
    go None q p = absurd (cc)
    go (Some T) q p =
        let same : program_posts T ≡ ns = cc in
        let small : nodes T ≤ room = omega (arith, counted no_declarations 0 T, ap length same) in
        let answer : read room (words_of bytes tokens) ≡ Ok T = read_last room bytes tokens h r ∙ ap (machine.at_last room (length tokens)) q ∙ ap (λ b. machine.within_room b (length tokens) T) (le-ltb room (nodes T) small) in
        (T, subst (Answers room (words_of bytes tokens)) answer (read_answers_all room (words_of bytes tokens)), sym same)
