-- The reader over the tokens of a source, against the rules of the language.
use Rattle.std.proofs.Common.{◌≡◌, ℕ, zero, suc, ◌+◌, ◌<◌, ◌≤◌, ◌^◌, Bool, true, false, List, [], ◌∷◌, length, drop, Option, Some, None, Result, Ok, Err, refl, sym, ap, subst, ◌∙◌, add-one, arith}
use Rattle.std.specs.Prelude.{nat_lt, slice_get, map}
use Rattle.std.proofs.lemmas.Bool.{lt-ltb, le-ltb}
use Rattle.pd_sections.specs.declared.Token.{Token}
use Rattle.pd_sections.specs.declared.Rule.{Rule}
use Rattle.pd_sections.specs.declared.Rule.TheVariants as rules
use Rattle.pd_sections.specs.declared.Refusal.{Refusal}
use Rattle.pd_sections.specs.Lexing.{InOrder}
use Rattle.pd_turn.specs.declared.Node.{Node}
use Rattle.pd_sl_spell.specs.Words.{Word, Number, Trees}
use Rattle.pd_sl_spell.specs.Machine.{State, Start, Between, step, final}
use Rattle.pd_sl_spell.specs.Refusals as spelling
use Rattle.pd_sl_spell.specs.Refusals.{largest, all_nodes, Accepts, Refuses, Answers}
use Rattle.pd_sl_spell.specs.Reading as machine
use Rattle.pd_sl_spell.specs.Reading.{openers, read, read_from, is_too_large}
use Rattle.pd_sl_spell.proofs.Answer.{read_answers_all}
use Rattle.pd_sl_read.specs.declared.parts.Part.{Part}
use Rattle.pd_sl_read.specs.Held.{Held, taken, taken_within, expected, within_limits, within_depth, finished, begun, parameters_in, HasRoom}
use Rattle.pd_sl_read.specs.Places.{posts}
use Rattle.pd_sl_read.specs.Behind.{shape, size, held, held_option}
use Rattle.pd_sl_read.specs.Tokens.{word_at, words_of, place_of}
use Rattle.pd_sl_read.specs.Answers.{rule_of, AreNodesBehind, IsRefused}
use Rattle.pd_sl_read.proofs.Follows.{follows}
use Rattle.pd_sl_read.proofs.Sizes.{IsRegular, Grows, grows}
use Rattle.pd_sl_read.proofs.Counts.{room_for, few_parameters, depth, all_counted}

-- Tokens in order.
pub token_within : (from to : ℕ) (tokens : List Token) (i : ℕ) (t : Token) → InOrder from to tokens → slice_get tokens i ≡ Some t → (t.start + t.len ≤ to) × (0 < t.len)
token_within from to [] i t h e = absurd (cc)
token_within from to (x ∷ xs) zero t h e =
    let s : x ≡ t = cc in
    subst (λ y. (y.start + y.len ≤ to) × (0 < y.len)) s (behind_within (x.start + x.len) to xs h.2, h.1)
  where
    behind_within : (from to : ℕ) (tokens : List Token) → InOrder from to tokens → from ≤ to
    behind_within from to [] h = h
    behind_within from to (x ∷ xs) h = omega (arith, behind_within (x.start + x.len) to xs h.2, h.0)
token_within from to (x ∷ xs) (suc i) t h e = token_within (x.start + x.len) to xs i t h.2 e

pub few_tokens : (from to : ℕ) (tokens : List Token) → InOrder from to tokens → from + length tokens ≤ to
few_tokens from to [] h = omega arith
few_tokens from to (x ∷ xs) h = omega (arith, few_tokens (x.start + x.len) to xs h.2, h.0, h.1)

-- The next word.
next_suc : (bytes : List ℕ) (tokens : List Token) (i : ℕ) (t : Token) → slice_get tokens i ≡ Some t → drop i (words_of bytes tokens) ≡ word_at bytes t ∷ drop (suc i) (words_of bytes tokens)
next_suc bytes [] i t e = absurd (cc)
next_suc bytes (x ∷ xs) zero t e = let s : x ≡ t = cc in ap (λ y. word_at bytes y ∷ words_of bytes xs) s
next_suc bytes (x ∷ xs) (suc i) t e = next_suc bytes xs i t e

next_word : (bytes : List ℕ) (tokens : List Token) (i : ℕ) (t : Token) → slice_get tokens i ≡ Some t → drop i (words_of bytes tokens) ≡ word_at bytes t ∷ drop (i + 1) (words_of bytes tokens)
next_word bytes tokens i t e = rw add-one (next_suc bytes tokens i t e)

place_is : (bytes : List ℕ) (tokens : List Token) (i : ℕ) (t : Token) → slice_get tokens i ≡ Some t → t.start ≡ place_of bytes tokens i
place_is bytes [] i t e = absurd (cc)
place_is bytes (x ∷ xs) zero t e = let s : x ≡ t = cc in ap (λ y. y.start) (sym s)
place_is bytes (x ∷ xs) (suc i) t e = place_is bytes xs i t e

place_behind : (bytes : List ℕ) (tokens : List Token) → length bytes ≡ place_of bytes tokens (length tokens)
place_behind bytes [] = refl
place_behind bytes (x ∷ xs) = place_behind bytes xs

length_words : (bytes : List ℕ) (tokens : List Token) → length (words_of bytes tokens) ≡ length tokens
length_words bytes [] = refl
length_words bytes (x ∷ xs) = ap (λ n. suc n) (length_words bytes xs)

drop_all : (bytes : List ℕ) (tokens : List Token) → drop (length tokens) (words_of bytes tokens) ≡ []
drop_all bytes [] = refl
drop_all bytes (x ∷ xs) = drop_all bytes xs

-- One word with the rules at it.
abbrev held_result : Result State spelling.Rule → Result Held Rule
held_result (Ok s) = Ok (held s)
held_result (Err r) = Err (rule_of r)

depth_follows : (b : Bool) (s : State) → within_depth b (held s) ≡ held_result (machine.within_depth b s)
depth_follows true s = refl
depth_follows false s = refl

number_follows : (b : Bool) (n : ℕ) (s : State) → nat_lt largest n ≡ b → within_limits (shape (Number n)) (held s) ≡ held_result (machine.within_limits b s)
number_follows true n s e = ap (λ c. within_limits (Rattle.pd_sl_read.specs.declared.parts.Word.TheVariants.Number (Rattle.pd_sl_read.specs.Places.value_within c n)) (held s)) e
number_follows false n s e =
    ap (λ c. within_limits (Rattle.pd_sl_read.specs.declared.parts.Word.TheVariants.Number (Rattle.pd_sl_read.specs.Places.value_within c n)) (held s)) e
    ∙ ap (λ c. within_depth c (held s)) (sym (depth s)) ∙ depth_follows (nat_lt 200 (length (openers s))) s

limits_follow : (w : Word) (s : State) → within_limits (shape w) (held s) ≡ held_result (machine.within_limits (is_too_large w) s)
limits_follow (Number n) s = number_follows (nat_lt largest n) n s refl
limits_follow w s = ap (λ c. within_depth c (held s)) (sym (depth s)) ∙ depth_follows (nat_lt 200 (length (openers s))) s

expected_follows : (w : Word) (o : Option State) → expected (shape w) (held_option o) ≡ held_result (machine.expected w o)
expected_follows w None = refl
expected_follows w (Some s) = limits_follow w s

within_follows : (s : State) (w : Word) → taken_within (size s) (held s) (shape w) ≡ held_result (machine.expected w (step s w))
within_follows s w = ap (expected (shape w)) (follows s w) ∙ expected_follows w (step s w)

-- Where the reader stands behind `at` words.
pub record Reached (room : ℕ) (words : List Word) (at : ℕ) (h : Held) : Type 0 where
  pub state : State
  pub held_is : h ≡ held state
  pub size_is : size state ≡ at
  pub regular : IsRegular state
  pub read_is : read room words ≡ read_from room at state (drop at words)

pub reached_start : (room : ℕ) (words : List Word) → Reached room words 0 begun
reached_start room words = record { state = Start; held_is = refl; size_is = refl; regular = tt; read_is = refl }

pub reached_room : (room : ℕ) (words : List Word) (at : ℕ) (h : Held) → Reached room words at h → at + 3 < 2 ^ 32 → HasRoom 3 h.stack
reached_room room words at h r lt = subst (λ g. HasRoom 3 g.stack) (sym r.held_is) (room_for r.state (subst (λ n. n + 3 < 2 ^ 32) (sym r.size_is) lt))

pub reached_parameters : (room : ℕ) (words : List Word) (at : ℕ) (h : Held) → Reached room words at h → at + 2 < 2 ^ 32 → parameters_in h.mode + 2 < 2 ^ 32
reached_parameters room words at h r lt = subst (λ g. parameters_in g.mode + 2 < 2 ^ 32) (sym r.held_is) (omega (arith, few_parameters r.state, r.size_is))

within_at : (room : ℕ) (words : List Word) (at : ℕ) (h : Held) (w : Word) (r : Reached room words at h) → taken_within at h (shape w) ≡ held_result (machine.expected w (step r.state w))
within_at room words at h w r =
    ap (λ g. taken_within at g (shape w)) r.held_is ∙ ap (λ n. taken_within n (held r.state) (shape w)) (sym r.size_is) ∙ within_follows r.state w

expected_some : (w : Word) (o : Option State) (s : State) → machine.expected w o ≡ Ok s → o ≡ Some s
expected_some w None s e = absurd (cc)
expected_some w (Some t) s e = limit_some (is_too_large w) t s e
  where
    depth_some : (b : Bool) (t s : State) → machine.within_depth b t ≡ Ok s → Some t ≡ Some s
    depth_some true t s e = absurd (cc)
    depth_some false t s e = cc

    limit_some : (b : Bool) (t s : State) → machine.within_limits b t ≡ Ok s → Some t ≡ Some s
    limit_some true t s e = absurd (cc)
    limit_some false t s e = depth_some (nat_lt 200 (length (openers t))) t s e

-- a word that breaks no rule
pub reached_next : (room : ℕ) (bytes : List ℕ) (tokens : List Token) (at : ℕ) (t : Token) (h h' : Held) → Reached room (words_of bytes tokens) at h → slice_get tokens at ≡ Some t → taken_within at h (shape (word_at bytes t)) ≡ Ok h' → Reached room (words_of bytes tokens) (at + 1) h'
reached_next room bytes tokens at t h h' r e g = go (machine.expected w (step r.state w)) refl (sym (within_at room words at h w r) ∙ g)
  where
    w : Word
    w = word_at bytes t

    words : List Word
    words = words_of bytes tokens

    went : (s : State) → Grows (size r.state) (Some s) → machine.expected w (step r.state w) ≡ Ok s → held_result (Ok s) ≡ Ok h' → Reached room words (at + 1) h'
    went s grown q p = record {
      state = s;
      held_is = cc;
      size_is = grown.0 ∙ ap (λ n. n + 1) r.size_is;
      regular = grown.1;
      read_is = r.read_is ∙ ap (read_from room at r.state) (next_word bytes tokens at t e) ∙ ap (λ x. machine.going_on at x (λ s'. read_from room (at + 1) s' (drop (at + 1) words))) q;
    }

    go : (x : Result State spelling.Rule) → machine.expected w (step r.state w) ≡ x → held_result x ≡ Ok h' → Reached room words (at + 1) h'
    go (Err rule) q p = absurd (cc)
    go (Ok s) q p = went s (subst (Grows (size r.state)) (expected_some w (step r.state w) s q) (grows r.state w r.regular)) q p

-- a word that breaks a rule
pub refused_at : (room : ℕ) (bytes : List ℕ) (tokens : List Token) (at : ℕ) (t : Token) (h : Held) (rule : Rule) → Reached room (words_of bytes tokens) at h → slice_get tokens at ≡ Some t → taken_within at h (shape (word_at bytes t)) ≡ Err rule → IsRefused room bytes tokens (record { rule = rule; at = t.start })
refused_at room bytes tokens at t h rule r e g = go (machine.expected w (step r.state w)) refl (sym (within_at room words at h w r) ∙ g)
  where
    w : Word
    w = word_at bytes t

    words : List Word
    words = words_of bytes tokens

    go : (x : Result State spelling.Rule) → machine.expected w (step r.state w) ≡ x → held_result x ≡ Err rule → IsRefused room bytes tokens (record { rule = rule; at = t.start })
    go (Ok s) q p = absurd (cc)
    go (Err broken) q p =
        let answer : read room words ≡ Err (broken, at) = r.read_is ∙ ap (read_from room at r.state) (next_word bytes tokens at t e) ∙ ap (λ x. machine.going_on at x (λ s'. read_from room (at + 1) s' (drop (at + 1) words))) q in
        record {
          rule = broken;
          at = at;
          refuses = subst (Answers room words) answer (read_answers_all room words);
          rule_is = cc;
          place_is = place_is bytes tokens at t e;
        }

-- Behind the last word.
abbrev behind_last : (room : ℕ) (words : List Word) (at : ℕ) (h : Held) → Reached room words at h → Result Trees (spelling.Rule × ℕ)
behind_last room words at h r = machine.at_last room at (final r.state)

read_last : (room : ℕ) (bytes : List ℕ) (tokens : List Token) (h : Held) (r : Reached room (words_of bytes tokens) (length tokens) h) → read room (words_of bytes tokens) ≡ machine.at_last room (length tokens) (final r.state)
read_last room bytes tokens h r = r.read_is ∙ ap (read_from room (length tokens) r.state) (drop_all bytes tokens)

abbrev posts_of : Option Trees → Option (List (Node Part))
posts_of None = None
posts_of (Some T) = Some (posts 0 T)

finished_follows : (s : State) → finished (held s) ≡ posts_of (final s)
finished_follows (Between fs) = refl
finished_follows Start = refl
finished_follows (Rattle.pd_sl_spell.specs.Machine.AfterFunctionKey fs) = refl
finished_follows (Rattle.pd_sl_spell.specs.Machine.AfterFunctionName fs x) = refl
finished_follows (Rattle.pd_sl_spell.specs.Machine.FirstParameter fs x) = refl
finished_follows (Rattle.pd_sl_spell.specs.Machine.AfterParameter fs x xs) = refl
finished_follows (Rattle.pd_sl_spell.specs.Machine.AfterComma fs x xs) = refl
finished_follows (Rattle.pd_sl_spell.specs.Machine.BeforeBody fs x xs) = refl
finished_follows (Rattle.pd_sl_spell.specs.Machine.Inside ss o) = refl
finished_follows (Rattle.pd_sl_spell.specs.Machine.AfterThen c b ss o) = refl
finished_follows (Rattle.pd_sl_spell.specs.Machine.AfterKey w ss o) = refl
finished_follows (Rattle.pd_sl_spell.specs.Machine.AfterReturn ss o) = refl
finished_follows (Rattle.pd_sl_spell.specs.Machine.BeforeBlock h ss o) = refl
finished_follows (Rattle.pd_sl_spell.specs.Machine.BeforeSemicolon s ss o) = refl
finished_follows (Rattle.pd_sl_spell.specs.Machine.Wants p k) = refl
finished_follows (Rattle.pd_sl_spell.specs.Machine.MayWant p c k) = refl
finished_follows (Rattle.pd_sl_spell.specs.Machine.Named p x k) = refl
finished_follows (Rattle.pd_sl_spell.specs.Machine.Callable p f k) = refl
finished_follows (Rattle.pd_sl_spell.specs.Machine.Has p f k) = refl

refused_last : (room : ℕ) (bytes : List ℕ) (tokens : List Token) (rule : spelling.Rule) → read room (words_of bytes tokens) ≡ Err (rule, length tokens) → IsRefused room bytes tokens (record { rule = rule_of rule; at = length bytes })
refused_last room bytes tokens rule e = record {
  rule = rule;
  at = length tokens;
  refuses = subst (Answers room (words_of bytes tokens)) e (read_answers_all room (words_of bytes tokens));
  rule_is = refl;
  place_is = place_behind bytes tokens;
}

-- nothing is finished there
pub refused_open : (room : ℕ) (bytes : List ℕ) (tokens : List Token) (h : Held) → Reached room (words_of bytes tokens) (length tokens) h → finished h ≡ None → IsRefused room bytes tokens (record { rule = rules.Unexpected; at = length bytes })
refused_open room bytes tokens h r e = go (final r.state) refl (sym (finished_follows r.state) ∙ ap finished (sym r.held_is) ∙ e)
  where
    go : (o : Option Trees) → final r.state ≡ o → posts_of o ≡ None → IsRefused room bytes tokens (record { rule = rules.Unexpected; at = length bytes })
    go (Some T) q p = absurd (cc)
    go None q p = refused_last room bytes tokens spelling.Unexpected (read_last room bytes tokens h r ∙ ap (machine.at_last room (length tokens)) q)

-- there are too many nodes
pub refused_many : (room : ℕ) (bytes : List ℕ) (tokens : List Token) (h : Held) (ns : List (Node Part)) → Reached room (words_of bytes tokens) (length tokens) h → finished h ≡ Some ns → room < length ns → IsRefused room bytes tokens (record { rule = rules.TooManyNodes; at = length bytes })
refused_many room bytes tokens h ns r e lt = go (final r.state) refl (sym (finished_follows r.state) ∙ ap finished (sym r.held_is) ∙ e)
  where
    go : (o : Option Trees) → final r.state ≡ o → posts_of o ≡ Some ns → IsRefused room bytes tokens (record { rule = rules.TooManyNodes; at = length bytes })
    go None q p = absurd (cc)
    go (Some T) q p =
        let same : posts 0 T ≡ ns = cc in
        let big : room < all_nodes T = omega (arith, all_counted 0 T, ap length same) in
        refused_last room bytes tokens spelling.TooManyNodes (read_last room bytes tokens h r ∙ ap (machine.at_last room (length tokens)) q ∙ ap (λ b. machine.within_room b (length tokens) T) (lt-ltb room (all_nodes T) big))

-- the nodes of the one tree
pub nodes_read : (room : ℕ) (bytes : List ℕ) (tokens : List Token) (h : Held) (ns : List (Node Part)) → Reached room (words_of bytes tokens) (length tokens) h → finished h ≡ Some ns → length ns ≤ room → AreNodesBehind room bytes tokens ns
nodes_read room bytes tokens h ns r e le = go (final r.state) refl (sym (finished_follows r.state) ∙ ap finished (sym r.held_is) ∙ e)
  where
    go : (o : Option Trees) → final r.state ≡ o → posts_of o ≡ Some ns → AreNodesBehind room bytes tokens ns
    go None q p = absurd (cc)
    go (Some T) q p =
        let same : posts 0 T ≡ ns = cc in
        let small : all_nodes T ≤ room = omega (arith, all_counted 0 T, ap length same) in
        let answer : read room (words_of bytes tokens) ≡ Ok T = read_last room bytes tokens h r ∙ ap (machine.at_last room (length tokens)) q ∙ ap (λ b. machine.within_room b (length tokens) T) (le-ltb room (all_nodes T) small) in
        (T, subst (Answers room (words_of bytes tokens)) answer (read_answers_all room (words_of bytes tokens)), sym same)
