-- Definition, which public contracts cite.
-- What a board of one thread tells of each binding and of each session.
use Rattle.std.specs.Prelude.{◌≡◌, ℕ, ◌<◌, ◌≤◌, Bool, true, if◌then◌else◌, List, length, slice_index, slice_index_or}
use Rattle.std.specs.List.{All}
use Rattle.std.specs.Option.{ForSome}
use Rattle.pd_board.specs.declared.answers.ActResult.{ActResult}
use Rattle.pd_board.specs.declared.answers.Sight.{Sight}
use Rattle.pd_board.specs.declared.answers.Known.{Known}
use Rattle.pd_board.specs.declared.answers.Known.TheVariants as knowns
use Rattle.pd_board.specs.declared.answers.State.{State}
use Rattle.pd_board.specs.declared.answers.State.TheVariants as states
use Rattle.pd_board.specs.declared.answers.BindingTally.{BindingTally}
use Rattle.pd_board.specs.Answers.{has_attachment, has_disposal, disposal, TogglesUpTo}
use Rattle.pd_board.specs.Kept.{upto, numbers_of, IsMissed, FitsToggles, EachAfter, IsAnswer, IsLater}
use Rattle.pd_board.specs.Standing.{Standing, bindings}

-- what became of a binding, by whether an answer says that it was disposed, and whether one says that it was attached
abbrev pub state_by : Bool → Bool → State
state_by disposed attached = if disposed then states.Disposed else if attached then states.Live else states.Unattached

-- the tally of a binding, by the board's sights and its answers of acts
pub record IsOutcome (b : ℕ) (sights : List Sight) (replies : List ActResult) (t : BindingTally) : Type 0 where
  pub state_is : t.state ≡ state_by (has_disposal b replies) (has_attachment b replies)
  -- the numbers of the binding are those below its count, each once and rising; where there are some, an answer says that it was attached
  pub numbers : numbers_of b sights ≡ upto t.count
  pub attached : 0 < t.count → has_attachment b replies ≡ true
  -- its disposal found this count
  pub final : All (λ r. ForSome (disposal b r) (λ n. n ≡ t.count)) replies
  -- each toggle found at most this count, and none fewer than one before it; of all of them the disables are as many as the enables, or one more
  pub counted : TogglesUpTo b t.count replies
  pub rising : EachAfter (IsLater b) replies
  pub toggles : (off : Bool) × ((n : ℕ) → t.count ≤ n → IsMissed b n off replies)
  -- and each number is a place, or missed, as the toggles up to it say
  pub toggled : All (FitsToggles b replies) sights
  -- each answer of an act is the one that follows from those before it
  pub history : EachAfter (IsAnswer b) replies

-- the tally of a binding to which nothing was done
abbrev pub no_tally : BindingTally
no_tally = record { state = states.Unattached; count = 0 }

-- what a board knows of a binding in this state, where no other board stepped on its words
abbrev pub known_in : State → Known
known_in states.Unattached = knowns.Fresh
known_in states.Live = knowns.Attached
known_in states.Disposed = knowns.Disposed

-- there is a tally for each binding, whose state is what the board knows; and for each session the number of its answers, which are
-- those below it, each once and rising; what was read of them is at most that
pub record IsTally (s : Standing) (tallies : List BindingTally) (answers : List ℕ) : Type 0 where
  pub bindings_are : length tallies ≡ bindings s
  pub outcomes : (b : ℕ) → b < bindings s → IsOutcome b s.sights s.replies (slice_index_or tallies b no_tally)
  pub known : (b : ℕ) → b < bindings s → s.known b ≡ known_in (slice_index_or tallies b no_tally).state
  pub sessions_are : length answers ≡ s.sessions
  pub numbers : (t : ℕ) → t < s.sessions → s.numbers t ≡ upto (slice_index answers t)
  pub read : (t : ℕ) → t < s.sessions → s.last_answers t ≤ slice_index answers t
