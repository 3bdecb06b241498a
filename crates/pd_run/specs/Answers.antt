-- Definition, which public contracts cite.
-- The answers of a session over all contexts.
use Rattle.std.specs.Prelude.{◌≡◌, ℕ, true, List, flat_map}
use Rattle.std.specs.List.{All}
use Rattle.pd_board.specs.OnContext.{rises}
use Rattle.pd_board.specs.Order.{OnceBelow}

-- the answer numbers of a session's suspensions, of each context in order: over all contexts they are the numbers below its number of
-- answers, each once, and they rise within a context
pub record AreAnswers (count : ℕ) (numbers : List (List ℕ)) : Type 0 where
  pub once : OnceBelow count (flat_map (λ ns. ns) numbers)
  pub rising : All (λ ns. rises ns ≡ true) numbers
