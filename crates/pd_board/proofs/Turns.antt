-- Where a wait stands between its turns.
use Rattle.std.specs.Prelude.{◌≡◌, ℕ, ◌+◌, ◌<◌}
use Rattle.pd_board.specs.Standing.{Standing}

-- so many turns of a wait for `count` answers were made, and the last one found n
pub record IsTurned (session count turns n : ℕ) (old new : Standing) : Type 0 where
  pub loads : new.answer_loads session ≡ old.answer_loads session + turns
  pub end_loads : new.end_loads ≡ old.end_loads + turns
  pub number : 0 < turns → n ≡ new.last_answers session
  pub fewer : 0 < turns → n < count
  pub running : 0 < turns → new.last_ends < new.contexts
  pub unread : old.last_ends < old.contexts → new.last_ends < new.contexts
