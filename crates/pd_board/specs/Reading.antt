-- Definition, which public contracts cite.
-- What a wait for answers of a session reads.
use Rattle.std.specs.Prelude.{◌≡◌, ℕ, ◌+◌, ◌<◌, ◌≤◌, ◌==◌, false}
use Rattle.pd_board.specs.Standing.{Standing}
use Rattle.pd_board.specs.declared.waiting.Waited.{Waited}
use Rattle.pd_board.specs.declared.waiting.Waited.TheVariants.{Reached, AllEnded, Late}

-- a board that stood at `old`, with what was read of sessions and of ended contexts as `new` has it
abbrev pub reread : Standing → Standing → Standing
reread new old = record old { answer_loads = new.answer_loads; last_answers = new.last_answers; end_loads = new.end_loads; last_ends = new.last_ends }

-- the word of this session and the word of ended contexts were read at most so often, and gave no less than before; those of other
-- sessions weren't
pub record HasRead (session turns : ℕ) (old new : Standing) : Type 0 where
  pub loads : (old.answer_loads session ≤ new.answer_loads session) × (new.answer_loads session ≤ old.answer_loads session + turns)
  pub end_loads : (old.end_loads ≤ new.end_loads) × (new.end_loads ≤ old.end_loads + turns)
  pub last : old.last_answers session ≤ new.last_answers session
  pub last_ends : old.last_ends ≤ new.last_ends
  pub other_loads : (s : ℕ) → (s == session) ≡ false → new.answer_loads s ≡ old.answer_loads s
  pub other_last : (s : ℕ) → (s == session) ≡ false → new.last_answers s ≡ old.last_answers s

-- each turn read both words; the last one found n answers, fewer than `count`, and that not all contexts had ended
pub record IsLate (session count turns n : ℕ) (old new : Standing) : Type 0 where
  pub number : n ≡ new.last_answers session
  pub fewer : n < count
  pub running : new.last_ends < new.contexts
  pub loads : new.answer_loads session ≡ old.answer_loads session + turns
  pub end_loads : new.end_loads ≡ old.end_loads + turns

-- a turn found at least `count` answers, which are n; where not all contexts had been found ended before, no turn found that
pub record IsReached (session count n : ℕ) (old new : Standing) : Type 0 where
  pub number : n ≡ new.last_answers session
  pub enough : count ≤ n
  pub loads : old.answer_loads session + 1 ≤ new.answer_loads session
  pub running : old.last_ends < old.contexts → new.last_ends < new.contexts

-- a turn found fewer answers than `count`, and that all contexts had ended
pub record IsAllEnded (session count : ℕ) (old new : Standing) : Type 0 where
  pub fewer : new.last_answers session < count
  pub ended : new.contexts ≤ new.last_ends
  pub loads : old.answer_loads session + 1 ≤ new.answer_loads session
  pub end_loads : old.end_loads + 1 ≤ new.end_loads

-- how a wait for `count` answers ended
abbrev pub IsWaited : ℕ → ℕ → ℕ → Standing → Standing → Waited → Type 0
IsWaited session count turns old new (Reached n) = IsReached session count n old new
IsWaited session count turns old new AllEnded = IsAllEnded session count old new
IsWaited session count turns old new (Late n) = IsLate session count turns n old new
