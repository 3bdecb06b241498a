-- Definition: lines and columns, by counting the line ends that lie wholly before a place.
-- `\n` (10), `\r\n` (13, 10) and `\r` (13) each end a line. Between the two bytes of `\r\n` the line hasn't ended.
use Rattle.std.specs.Prelude.{ℕ, ◌+◌, suc, zero, Bool, false, ◌&&◌, ◌||◌, ◌==◌, not, if◌then◌else◌, List, [], ◌∷◌}

-- the bytes begin with `\n`
abbrev pub starts_with_newline : List ℕ → Bool
starts_with_newline [] = false
starts_with_newline (byte ∷ bytes) = byte == 10

-- a line end ends with this byte, where these bytes come next
abbrev pub ends_line : ℕ → List ℕ → Bool
ends_line byte next = (byte == 10) || ((byte == 13) && not (starts_with_newline next))

-- how many line ends lie wholly in the first `at` bytes
abbrev pub line_ends : List ℕ → ℕ → ℕ
line_ends bytes zero = 0
line_ends [] (suc at) = 0
line_ends (byte ∷ bytes) (suc at) = (if ends_line byte bytes then 1 else 0) + line_ends bytes at

-- how many of the first `at` bytes come after the last of these line ends; all of them where there is none
abbrev pub after_line_end : List ℕ → ℕ → ℕ
after_line_end bytes zero = 0
after_line_end [] (suc at) = suc at
after_line_end (byte ∷ bytes) (suc at) = if line_ends (byte ∷ bytes) (suc at) == 0 then suc at else after_line_end bytes at

-- the line of the place after the first `at` bytes, from 1
abbrev pub line_at : List ℕ → ℕ → ℕ
line_at bytes at = 1 + line_ends bytes at

-- the column of the place after the first `at` bytes, from 1; it counts bytes
abbrev pub column_at : List ℕ → ℕ → ℕ
column_at bytes at = 1 + after_line_end bytes at
