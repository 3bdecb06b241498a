-- Definition, which public contracts cite.
-- What a view knows of answers and ends, and the part of the rule on them.
use Rattle.std.specs.Prelude.{◌≡◌, ℕ, ◌+◌, ◌-◌, ◌<◌, ◌≤◌, ◌^◌, List, [], ◌∷◌, ◌++◌, length, true, false}
use mathlib.Core.Option.{some}
use lib.ListN.{get_elem?}
use Rattle.pd_core.specs.declared.view.Talk.{Talk}
use Rattle.pd_core.specs.Layout.{Layout, session_word, end_word}
use Rattle.pd_core.specs.Counts.{total, times, first_is, pair_is, once_below, one_if}

-- how many answers of session s this pass counted, and those that it took in
unfoldable pub spent : ℕ → Talk → ℕ
spent s t = total (first_is s) t.numbers + total (first_is s) t.handed

-- how often answer number x of session s was given to this pass or to one that it took in
unfoldable pub numbers : ℕ → ℕ → Talk → ℕ
numbers s x t = total (pair_is s x) t.numbers + total (pair_is s x) t.handed

-- how many answers of the session it may still count
abbrev pub answer_share : ℕ → Talk → ℕ
answer_share s t = t.granted - spent s t

-- how often this pass, or one that it took in, read the number x from the word of session s
unfoldable pub readings : ℕ → ℕ → Talk → ℕ
readings s x t = total (pair_is s x) t.reads + total (pair_is s x) t.handed_reads

-- how often this pass, or one that it took in, read that x contexts have ended
unfoldable pub end_readings : ℕ → Talk → ℕ
end_readings x t = times x t.end_reads + times x t.handed_end_reads

-- how many ends this pass, and those that it took in, counted
abbrev pub ends_of : Talk → ℕ
ends_of t = one_if t.ended + t.ends

-- a pass that has no shares and neither took nor read anything
abbrev pub silent : Talk
silent = record { granted = 0; end_granted = 0; numbers = []; handed = []; reads = []; end_reads = []; handed_reads = []; handed_end_reads = []; ended = false; ends = 0 }

-- the first pass has all shares
abbrev pub first_talk : Talk
first_talk = record silent { granted = 2 ^ 32 - 1; end_granted = 2 ^ 32 - 1 }

-- what a split hands of each session's answers
abbrev pub handed_answers : ℕ
handed_answers = 2 ^ 26

-- what a pass keeps when it is split: it hands on some shares
abbrev pub halved_talk : Talk → Talk
halved_talk t = record t { granted = t.granted - handed_answers; end_granted = t.end_granted - 1 }

-- what the new pass of a split has: the shares that were handed on
abbrev pub new_talk : Talk
new_talk = record silent { granted = handed_answers; end_granted = 1 }

-- what a pass has after it took in another: the shares of both, and what the other took and read beside its own
abbrev pub joined_talk : Talk → Talk → Talk
joined_talk t u = record t {
  granted = t.granted + u.granted;
  end_granted = t.end_granted + u.end_granted;
  handed = (t.handed ++ u.handed) ++ u.numbers;
  handed_reads = (t.handed_reads ++ u.handed_reads) ++ u.reads;
  handed_end_reads = (t.handed_end_reads ++ u.handed_end_reads) ++ u.end_reads;
  ends = t.ends + ends_of u;
}

-- after the number n of session s was counted
abbrev pub answered : ℕ → ℕ → Talk → Talk
answered s n t = record t { numbers = t.numbers ++ (s, n) ∷ [] }

-- after n was read from the word of session s
abbrev pub asked : ℕ → ℕ → Talk → Talk
asked s n t = record t { reads = t.reads ++ (s, n) ∷ [] }

-- after the pass counted its context as ended
abbrev pub ended_talk : Talk → Talk
ended_talk t = record t { end_granted = t.end_granted - 1; ended = true }

-- after n was read from the word of ended contexts
abbrev pub counted_ends : ℕ → Talk → Talk
counted_ends n t = record t { end_reads = t.end_reads ++ n ∷ [] }

-- What one view knows: it is within what it was granted, and what it read is at most what the word has
pub record Heard (p : Layout) (words : List ℕ) (t : Talk) : Type 0 where
  pub within : (s : ℕ) → s < p.sessions → spent s t ≤ t.granted
  pub reads : (s n : ℕ) → s < p.sessions → 0 < readings s n t → n ≤ session_word p words s
  pub end_reads : (n : ℕ) → 0 < end_readings n t → n ≤ end_word p words
  -- its numbers of loads fit 32 bits
  pub few_reads : (s : ℕ) → s < p.sessions → total (first_is s) t.reads < 2 ^ 32
  pub few_end_reads : length t.end_reads < 2 ^ 32

-- What all views have together
pub record Spoken (p : Layout) (words : List ℕ) (talks : List Talk) : Type 0 where
  -- the answer numbers of a session are those below its word, each once
  pub numbered : (s x : ℕ) → s < p.sessions → total (numbers s x) talks ≡ once_below x (session_word p words s)
  -- and the word is how many there are. With it, what may still be counted and the word are together what was granted
  pub added : (s : ℕ) → s < p.sessions → total (spent s) talks ≡ session_word p words s
  pub granted : (s : ℕ) → s < p.sessions → total (λ t. t.granted) talks < 2 ^ 32
  -- the word of ended contexts is the number of ends
  pub ends : total ends_of talks ≡ end_word p words
  pub end_granted : total (λ t. t.end_granted) talks + end_word p words < 2 ^ 32
  pub heard : (j : ℕ) (t : Talk) → get_elem? talks j ≡ some t → Heard p words t
