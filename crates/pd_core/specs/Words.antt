-- Definition, which public contracts cite.
-- What a word says. A node's row word has a bit for each of 64 bindings, and its summary word a bit for each row word.
-- A binding's word is 8 times its sum, and 1 more where it is attached, 2 more where it is disposed, and 4 more where it is off.
use Rattle.std.specs.Prelude.{◌≡◌, ℕ, ◌+◌, ◌*◌, ◌/◌, ◌%◌, ◌^◌, Bool, ◌&&◌, ◌==◌, List, slice_index, bit_and, bit_or}
use Rattle.pd_core.specs.Layout.{Layout, row_at}
use Rattle.std.specs.Int.{bit_at, bit_not, w64}

-- 1 where the binding's word has "attached", and else 0
unfoldable pub attached : ℕ → ℕ
attached w = bit_at w 0

-- 1 where the binding's word has "disposed", and else 0
unfoldable pub disposed : ℕ → ℕ
disposed w = bit_at w 1

-- 1 where the binding's word has "off", and else 0
unfoldable pub off : ℕ → ℕ
off w = bit_at w 2

-- the sum in a binding's word: how many numbers were drawn of it
unfoldable pub sum_in : ℕ → ℕ
sum_in w = w / 8

-- bit b of a word, 0 or 1
unfoldable pub bit_of : ℕ → ℕ → ℕ
bit_of w b = bit_at w b

-- attached and not disposed
unfoldable pub live : ℕ → Bool
live w = (attached w == 1) && (disposed w == 0)

-- the binding's word has "attached" and not "disposed"
abbrev pub IsLive : ℕ → Type 0
IsLive w = (attached w ≡ 1) × (disposed w ≡ 0)

-- the bit of the binding at the node
unfoldable pub mark : Layout → List ℕ → ℕ → ℕ → ℕ
mark p words n b = bit_of (slice_index words (row_at p n (b / 64))) (b % 64)

-- the bit of a row word in the node's summary word
unfoldable pub summary : List ℕ → ℕ → ℕ → ℕ
summary words n r = bit_of (slice_index words n) r

-- the word of 64 bits in which only bit b is set
abbrev pub only_bit : ℕ → ℕ
only_bit b = 1 * 2 ^ b % 2 ^ 64

-- the word of 64 bits in which only bit b is clear
abbrev pub all_but : ℕ → ℕ
all_but b = bit_not w64 (only_bit b)

-- what a step on a word makes of it, with its operand
pub data Change : Type 0 where
  reads : Change
  adds : ℕ → Change
  sets : ℕ → Change
  leaves : ℕ → Change

-- the number that a change is made with; 0 for a read
abbrev pub operand : Change → ℕ
operand reads = 0
operand (adds k) = k
operand (sets k) = k
operand (leaves k) = k

-- the word that a change makes of w
abbrev pub made_of : Change → ℕ → ℕ
made_of reads w = w
made_of (adds k) w = (w + k) % 2 ^ 64
made_of (sets k) w = bit_or w k
made_of (leaves k) w = bit_and w k
