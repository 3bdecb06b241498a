-- `unread` and `word_at` are definitions, which `standing_of` uses; the rest is for proofs.
-- The words of the sessions on a board of one thread.
use Rattle.std.specs.Prelude.{ℕ, ◌+◌, ◌≤◌, ◌^◌, List, slice_index_or}
use Rattle.pd_board.specs.declared.session.SessionWord.{SessionWord}
use Rattle.pd_board.specs.declared.life.Life.{Life}
use Rattle.pd_board.specs.Kept.{life_at}

-- the word of a session of which nothing was taken or read
abbrev pub unread : SessionWord
unread = record { taken = 0; loads = 0; last = 0 }

-- the word of session s; `unread` for a session that the board doesn't have
abbrev pub word_at : List SessionWord → ℕ → SessionWord
word_at words s = slice_index_or words s unread

-- what was read of a session is at most what was taken
abbrev pub IsRead : List SessionWord → Type 0
IsRead words = (s : ℕ) → (word_at words s).last ≤ (word_at words s).taken

-- no sum of numbers that were drawn, or may still be drawn, passes 2 ^ 60
abbrev pub HasShares : List Life → ℕ → Type 0
HasShares lives left = (b : ℕ) → (life_at lives b).count + left ≤ 2 ^ 60
