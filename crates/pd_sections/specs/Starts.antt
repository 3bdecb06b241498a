-- Twin of the code, for its proofs: no public contract needs it.
-- The table of line starts that a source keeps.
use Rattle.std.specs.Prelude.{◌≡◌, ℕ, ◌+◌, ◌-◌, ◌≤◌, suc, if◌then◌else◌, List, [], ◌∷◌, length, slice_index}
use Rattle.std.specs.Str.{IsUtf8}
use Rattle.pd_sections.specs.Positions.{ends_line, line_ends, after_line_end}

-- the places after the line ends of these bytes, which begin at this place
abbrev pub starts_behind : ℕ → List ℕ → List ℕ
starts_behind place [] = []
starts_behind place (byte ∷ bytes) =
    if ends_line byte bytes then suc place ∷ starts_behind (suc place) bytes else starts_behind (suc place) bytes

-- what a source keeps: text of at most 1,048,576 bytes, and the starts of its lines
pub record IsKept (bytes table : List ℕ) : Type 0 where
  pub small : length bytes ≤ 1048576
  pub text : IsUtf8 bytes
  pub starts : table ≡ 0 ∷ starts_behind 0 bytes

-- so many lines have begun up to a place, and the last of them began where the column says
pub record IsLine (bytes table : List ℕ) (at lines : ℕ) : Type 0 where
  pub line : lines ≡ 1 + line_ends bytes at
  pub start : at ≡ slice_index table (lines - 1) + after_line_end bytes at
  pub begun : lines ≤ length table
  pub room : lines ≤ 1 + at
