-- Definition: what a board keeps of its draws, passes and acts.
use Rattle.std.specs.Prelude.{ℕ, List, []}
use Rattle.pd_board.specs.declared.answers.ActResult.{ActResult}
use Rattle.pd_board.specs.declared.answers.Sight.{Sight}
use Rattle.pd_board.specs.declared.answers.Passed.{Passed}

-- the sights, for each the number of loads of nodes before it, the passes and the answers of acts, each list in order;
-- and for how many further entries there is room
pub record Entries : Type 0 where
  pub sights : List Sight
  pub sight_loads : List ℕ
  pub passes : List Passed
  pub replies : List ActResult
  pub spare : ℕ

-- nothing is kept, and there is room for nothing
abbrev pub empty : Entries
empty = record { sights = []; sight_loads = []; passes = []; replies = []; spare = 0 }
