-- Definition, which public contracts cite.
-- The first number from some number on.
use Rattle.std.specs.Prelude.{◌≡◌, ℕ, ◌<◌, ◌≤◌, Bool, true, false}
use Rattle.std.specs.Int.{bit_at}

-- n is the least number from low on that passes the test
pub record IsLeastFrom (test : ℕ → Bool) (low n : ℕ) : Type 0 where
  pub from : low ≤ n
  pub passes : test n ≡ true
  pub least : (m : ℕ) → low ≤ m → m < n → test m ≡ false

-- i is the place of the lowest bit of the word that is set, from low on
pub record IsLowestFrom (word low i : ℕ) : Type 0 where
  pub from : low ≤ i
  pub within : i < 64
  pub set : bit_at word i ≡ 1
  pub clear : (j : ℕ) → low ≤ j → j < i → bit_at word j ≡ 0
