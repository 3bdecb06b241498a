-- Definition: what contracts see of a source: its name and its bytes.
use Rattle.std.specs.Prelude.{ℕ, List}

-- a source's name and its bytes
pub record Written : Type 0 where
  pub name : List ℕ
  pub bytes : List ℕ
