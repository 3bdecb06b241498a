-- What the tally of a life says, where the lists tell that life.
use Rattle.std.proofs.Common.{◌≡◌, ℕ, ◌<◌, ◌≤◌, Bool, true, false, if◌then◌else◌, refl, List, length, map, take, slice_index, slice_index_or, sym, ◌∙◌, ap, arith, subst}
use Rattle.std.proofs.lemmas.Grind.{common_steps}
use Rattle.pd_board.specs.declared.answers.ActResult.{ActResult}
use Rattle.pd_board.specs.declared.answers.Sight.{Sight}
use Rattle.pd_board.specs.declared.answers.BindingTally.{BindingTally}
use Rattle.pd_board.specs.declared.answers.Known.TheVariants as knowns
use Rattle.pd_board.specs.declared.answers.State.TheVariants as states
use Rattle.pd_board.specs.declared.life.Life.{Life}
use Rattle.pd_board.specs.declared.session.SessionWord.{SessionWord}
use Rattle.pd_board.specs.Life as life
use Rattle.pd_board.specs.Answers.{has_attachment}
use Rattle.pd_board.specs.Kept.{life_at, Tells, TellsAll}
use Rattle.pd_board.specs.Sessions.{unread, word_at}
use Rattle.pd_board.specs.Tally.{state_by, known_in, IsOutcome, no_tally}

-- a binding that is disposed is so whether an answer says that it was attached or not
state_same : (disposed a attached : Bool) → (disposed ≡ false → a ≡ attached) → state_by disposed a ≡ state_by disposed attached
state_same true a attached h = refl
state_same false a attached h = ap (λ x. state_by false x) (h refl)

known_by : (disposed attached : Bool) → (if disposed then knowns.Disposed else if attached then knowns.Attached else knowns.Fresh) ≡ known_in (if disposed then states.Disposed else if attached then states.Live else states.Unattached)
known_by true attached = refl
known_by false true = refl
known_by false false = refl

outcome : (b : ℕ) (s : Life) (sights : List Sight) (replies : List ActResult) → Tells b s sights replies → IsOutcome b sights replies (life.tally_of s)
outcome b s sights replies t = record {
  state_is = sym (ap (λ d. state_by d (has_attachment b replies)) t.disposals ∙ state_same s.disposed (has_attachment b replies) s.attached t.attachment);
  numbers = t.numbers;
  attached = t.numbered;
  final = λ k d below n e. (t.final k d below n e).1;
  counted = t.counted;
  rising = t.rising;
  toggles = (s.off, t.off);
  toggled = t.toggled;
  history = t.history;
}

-- the whole list was mapped
pub map_all : {A B : Type 0} (f : A → B) (xs : List A) (ys : List B) (n : ℕ) → ys ≡ map f (take n xs) → length xs ≤ n → ys ≡ map f xs
map_all f xs ys n e past = grind (arith, common_steps)

map_at : {A B : Type 0} (f : A → B) (xs : List A) (ys : List B) (i : ℕ) (d : A) → i < length xs → ys ≡ map f xs → slice_index_or ys i (f d) ≡ f (slice_index_or xs i d)
map_at f xs ys i d within e = grind (arith, common_steps)

pub outcomes : (lives : List Life) (sights : List Sight) (replies : List ActResult) (tallies : List BindingTally) → tallies ≡ map life.tally_of lives → TellsAll lives sights replies
    → (b : ℕ) → b < length lives → IsOutcome b sights replies (slice_index_or tallies b no_tally)
outcomes lives sights replies tallies e all b within =
    subst (λ (t : BindingTally). IsOutcome b sights replies t) (sym (map_at life.tally_of lives tallies b life.untouched within e)) (outcome b (life_at lives b) sights replies (all b within))

-- and what the board knows is the state
known_tallied : (s : Life) → life.known s ≡ known_in (life.tally_of s).state
known_tallied s = known_by s.disposed s.attached

pub known_at : (lives : List Life) (tallies : List BindingTally) → tallies ≡ map life.tally_of lives → (b : ℕ) → b < length lives
    → life.known (life_at lives b) ≡ known_in (slice_index_or tallies b no_tally).state
known_at lives tallies e b within =
    known_tallied (life_at lives b) ∙ sym (ap (λ (t : BindingTally). known_in t.state) (map_at life.tally_of lives tallies b life.untouched within e))

pub taken_at : (words : List SessionWord) (answers : List ℕ) (t : ℕ) → t < length words → answers ≡ map (λ w. w.taken) words → slice_index answers t ≡ (word_at words t).taken
taken_at words answers t within e = map_at (λ (w : SessionWord). w.taken) words answers t unread within e

pub map_length : {A B : Type 0} (f : A → B) (xs : List A) (ys : List B) → ys ≡ map f xs → length ys ≡ length xs
map_length f xs ys e = grind (arith, common_steps)
