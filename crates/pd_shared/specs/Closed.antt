-- Definition, which public contracts cite.
-- What the tally of a board says, by all seats that were on it.
use Rattle.std.specs.Prelude.{◌≡◌, ℕ, ◌+◌, ◌<◌, ◌≤◌, ◌^◌, ◌==◌, Bool, true, if◌then◌else◌, List, [], ◌∷◌, ◌++◌, length, slice_index, slice_index_or, count_by}
use Rattle.std.specs.List.{All, filter_map}
use Rattle.std.specs.Option.{ForSome}
use Rattle.pd_board.specs.declared.answers.ActResult.{ActResult}
use Rattle.pd_board.specs.declared.answers.Sight.{Sight}
use Rattle.pd_board.specs.declared.answers.Known.TheVariants as knowns
use Rattle.pd_board.specs.declared.answers.State.TheVariants as states
use Rattle.pd_board.specs.declared.answers.BindingTally.{BindingTally}
use Rattle.pd_board.specs.Answers.{has_attach, has_attachment, has_disposal, is_disposal, disposal, TogglesUpTo}
use Rattle.pd_board.specs.Kept.{numbers_of, IsMissed, FitsToggles, EachAfter}
use Rattle.pd_board.specs.Order.{has_gone, IsInOrder, is_first, HasCause, OnceBelow}
use Rattle.pd_board.specs.Tally.{state_by, no_tally}
use Rattle.pd_core.specs.Layout.{Layout, bindings, binding_word, session_word}
use Rattle.pd_core.specs.Words.{attached, disposed, off, sum_in}
use Rattle.pd_core.specs.Talks.{ends_of}
use Rattle.pd_core.specs.Good.{Ordered}
use Rattle.pd_core.specs.Runs.{IsLast}
use Rattle.pd_shared.specs.declared.token.Reads.{Reads}
use Rattle.pd_shared.specs.declared.token.Token.{Token}
use Rattle.pd_shared.specs.declared.sights.Sights.{Sights}
use Rattle.pd_board.specs.Journal.{Entries}
use Rattle.pd_shared.specs.Sitting.{number_for}
use Rattle.pd_shared.specs.Left.{DidLeave, HasLearned}
use Rattle.pd_shared.specs.Book.{known_at, reads_at}

-- ---- by the last words

-- the tally of a binding, by its last word and by what its disposal found
abbrev pub tally_by : ℕ → ℕ → BindingTally
tally_by w n = record { state = state_by (disposed w == 1) (attached w == 1); count = if disposed w == 1 then n else sum_in w }

-- the tallies are those of the first k bindings, whose words begin at `first`
pub record AreTallies (words : List ℕ) (first : ℕ) (counts : List ℕ) (k : ℕ) (tallies : List BindingTally) : Type 0 where
  pub length_is : length tallies ≡ k
  pub each : (b : ℕ) → b < k → slice_index_or tallies b no_tally ≡ tally_by (slice_index words (first + b)) (slice_index counts b)

-- the numbers are those in k words from the word `first` on
pub record AreNumbers (words : List ℕ) (first k : ℕ) (numbers : List ℕ) : Type 0 where
  pub length_is : length numbers ≡ k
  pub each : (s : ℕ) → s < k → slice_index numbers s ≡ slice_index words (first + s)

-- ---- by what all seats did

-- the tally of a binding, by the sights and the answers of acts of all seats
pub record IsOutcomeOfAll (b : ℕ) (sights : List Sight) (replies : List ActResult) (t : BindingTally) : Type 0 where
  pub state_is : t.state ≡ state_by (has_disposal b replies) (has_attachment b replies)
  -- the numbers of the binding are those below its count, each once; where there are some, an answer says that it was attached
  pub numbers : OnceBelow t.count (numbers_of b sights)
  pub attached_is : 0 < t.count → has_attachment b replies ≡ true
  -- of the answers of attaches, where there are some, just one is not `Already`
  pub first : count_by (is_first b) replies ≡ (if has_attach b replies then 1 else 0)
  -- at most one answer says that it disposed of the binding, and that found this count
  pub disposals : count_by (is_disposal b) replies ≤ 1
  pub final : All (λ r. ForSome (disposal b r) (λ n. n ≡ t.count)) replies
  -- each toggle found at most this count; of all of them the disables are as many as the enables, or one more
  pub counted : TogglesUpTo b t.count replies
  pub toggles : (off : Bool) × ((n : ℕ) → t.count ≤ n → IsMissed b n off replies)
  -- and each number is a place, or missed, as the toggles up to it say
  pub toggled : All (FitsToggles b replies) sights

-- the entries of one kind of all seats: its own, and those that the others left
abbrev pub all_of : {A : Type 0} → (Entries → List A) → List A → List Sights → List A
all_of pick own [] = own
all_of pick own (s ∷ ss) = all_of pick (own ++ pick s.journal) ss

-- all draws: those of this seat, and those of the seats that left
abbrev pub all_sights : Entries → List Sights → List Sight
all_sights e left = all_of (λ d. d.sights) e.sights left

-- all answers of acts: those of this seat, and those of the seats that left
abbrev pub all_replies : Entries → List Sights → List ActResult
all_replies e left = all_of (λ d. d.replies) e.replies left

-- P of the answers of this seat, and of those of each of the seats that left
abbrev pub OfEachSeat : (List ActResult → Type 0) → Entries → List Sights → Type 0
OfEachSeat P e left = P e.replies × All (λ s. P s.journal.replies) left

-- ---- what one seat says

-- what a seat's answers say is disposed is so, and what it read of a session is at most the session's number of answers
pub record FitsTally (p : Layout) (tallies : List BindingTally) (counts : List ℕ) (replies : List ActResult) (sessions : List Reads) : Type 0 where
  pub gone : (b : ℕ) → b < bindings p → has_gone b replies ≡ true → (slice_index_or tallies b no_tally).state ≡ states.Disposed
  pub read : (s : ℕ) → s < p.sessions → (reads_at sessions s).last ≤ slice_index counts s

-- ---- all together

-- the token has all shares of the seats
abbrev pub IsWhole : Token → Type 0
IsWhole t = 2 ^ 32 ≤ t.pass.view.seat_share

-- the tallies and the numbers of answers are those of last words of which the rule holds with the last view
pub record IsOfWords (p : Layout) (last : Token) (tallies : List BindingTally) (counts : List ℕ) (words : List ℕ) : Type 0 where
  pub last_is : IsLast p last.pass.view words
  pub states : (b : ℕ) → b < bindings p → (slice_index_or tallies b no_tally).state ≡ state_by (disposed (binding_word p words b) == 1) (attached (binding_word p words b) == 1)
  pub sums : (b : ℕ) → b < bindings p → disposed (binding_word p words b) ≡ 0 → (slice_index_or tallies b no_tally).count ≡ sum_in (binding_word p words b)
  pub answers : (s : ℕ) → s < p.sessions → slice_index counts s ≡ session_word p words s
  -- where a binding isn't disposed, the toggles of all seats together leave it off just where its word says so
  pub offs : IsWhole last → (left : List Sights) → DidLeave left last.pass.view.taken → (b : ℕ) → b < bindings p → disposed (binding_word p words b) ≡ 0
      → (n : ℕ) → (slice_index_or tallies b no_tally).count ≤ n → IsMissed b n (off (binding_word p words b) == 1) (all_replies last.journal left)

-- The tallies of the bindings, and for each session its number of answers. Where the last token has all shares of the seats, they tell what
-- its seat and all that this took in did
pub record IsClosed (p : Layout) (last : Token) (tallies : List BindingTally) (counts : List ℕ) : Type 0 where
  pub bindings_are : length tallies ≡ bindings p
  pub sessions_are : length counts ≡ p.sessions
  pub words : (ws : List ℕ) × IsOfWords p last tallies counts ws
  -- what the last seat knows is so
  pub known_gone : (b : ℕ) → b < bindings p → known_at last.known.items b ≡ knowns.Disposed → (slice_index_or tallies b no_tally).state ≡ states.Disposed
  pub known_attached : (b : ℕ) → b < bindings p → known_at last.known.items b ≡ knowns.Attached → (slice_index_or tallies b no_tally).state ≡ states.Unattached → ⊥
  -- what the last seat says, and each seat from which it learned, fits the tally
  pub own : FitsTally p tallies counts last.journal.replies last.sessions.items
  pub others : (left : List Sights) → HasLearned last left → All (λ s. FitsTally p tallies counts s.journal.replies s.sessions.items) left
  -- what they read of ended contexts is at most how many the last seat, and those that it took in, ended
  pub ends : IsWhole last → last.ends.last ≤ ends_of last.pass.view.talk
  pub others_ends : IsWhole last → (left : List Sights) → HasLearned last left → All (λ s. s.ends.last ≤ ends_of last.pass.view.talk) left
  pub outcomes : IsWhole last → (left : List Sights) → DidLeave left last.pass.view.taken → (b : ℕ) → b < bindings p
      → IsOutcomeOfAll b (all_sights last.journal left) (all_replies last.journal left) (slice_index_or tallies b no_tally)
  -- each toggle of each seat counted more than the numbers that the seat drew before it, and at most those that it drew after
  pub timed : (left : List Sights) → DidLeave left last.pass.view.taken → All (λ d. (steps : ℕ) × Ordered d steps) (last.pass.view.deeds ∷ last.pass.view.taken)
  -- the answers of each seat are in order, and each toggle that found nothing to change has its cause
  pub order : (left : List Sights) → DidLeave left last.pass.view.taken → (b : ℕ) → OfEachSeat (EachAfter (IsInOrder b)) last.journal left
  pub causes : IsWhole last → (left : List Sights) → DidLeave left last.pass.view.taken → (b : ℕ) → b < bindings p
      → OfEachSeat (EachAfter (HasCause b (all_replies last.journal left))) last.journal left
  -- the answer numbers of a session are those below its number of answers, each once
  pub numbers : IsWhole last → (s : ℕ) → s < p.sessions → OnceBelow (slice_index counts s) (filter_map (number_for s) (last.pass.view.talk.numbers ++ last.pass.view.talk.handed))

-- ---- what whoever holds a tally knows of it

-- where its last token has all shares of the seats, and these sights are those of all seats that this took in, each number below a binding's
-- count stands once in the sights of all seats, and no other number does
abbrev pub CountsOnce : Token → List BindingTally → Type 0
CountsOnce last tallies = IsWhole last → (left : List Sights) → DidLeave left last.pass.view.taken → (b : ℕ) → b < length tallies
    → OnceBelow (slice_index_or tallies b no_tally).count (numbers_of b (all_sights last.journal left))

-- and so does each answer number of a session, among those that all seats took
abbrev pub AnswersOnce : Token → List ℕ → Type 0
AnswersOnce last counts = IsWhole last → (s : ℕ) → s < length counts → OnceBelow (slice_index counts s) (filter_map (number_for s) (last.pass.view.talk.numbers ++ last.pass.view.talk.handed))

-- each toggle of a seat that found nothing to change has its cause in the answers of all seats
abbrev pub TogglesHaveCauses : Token → List BindingTally → Type 0
TogglesHaveCauses last tallies = IsWhole last → (left : List Sights) → DidLeave left last.pass.view.taken → (b : ℕ) → b < length tallies
    → OfEachSeat (EachAfter (HasCause b (all_replies last.journal left))) last.journal left

-- what the last seat, or one that it took in, read of a session is at most its number of answers
abbrev pub ReadsWithin : Token → List ℕ → Type 0
ReadsWithin last counts = (s : ℕ) → s < length counts → (reads_at last.sessions.items s).last ≤ slice_index counts s
