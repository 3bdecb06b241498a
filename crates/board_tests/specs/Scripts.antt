-- For the tests: no other contract cites it.
-- A board on which a session's script may be tried.
use Rattle.std.specs.Prelude.{◌≡◌, ℕ, ◌<◌, ◌≤◌, false}
use Rattle.pd_board.specs.Standing.{Standing, bindings}

-- it has one binding and one session, of which nothing was read, and may take numbers and so many answers
pub record MayScript (most : ℕ) (s : Standing) : Type 0 where
  pub one : bindings s ≡ 1
  pub session : s.sessions ≡ 1
  pub draws : 1 ≤ s.draw_share
  pub answers : (t : ℕ) → t < s.sessions → most ≤ s.answer_share t
  pub loads : s.answer_loads 0 ≡ 0
  pub end_loads : s.end_loads ≡ 0

-- its context, besides, hasn't ended, and may
pub record IsOpen (s : Standing) : Type 0 where
  pub running : s.ended ≡ false
  pub ends : 0 < s.end_share
