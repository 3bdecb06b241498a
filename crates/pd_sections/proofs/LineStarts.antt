-- The table of line starts gives the lines and columns that are counted from the text.
use Rattle.std.proofs.Common.{◌≡◌, ℕ, ◌+◌, ◌-◌, ◌<◌, ◌≤◌, suc, zero, zero-add, Bool, true, false, cond, List, [], ◌∷◌, length, get_or, sym, subst, inl, inr, arith, eqb, leb}
use Rattle.std.proofs.Math.Numerals.{one-add}
use Rattle.std.proofs.lemmas.Bool.Decides.{nat_tests}
use Rattle.std.proofs.lemmas.Bool.{cases_lt, le-leb, leb-true}
use Rattle.std.specs.List.Sorted.{IsPartitionedBy, IsPartitionPoint}
use Rattle.pd_sections.specs.Positions.{ends_line, line_ends, after_line_end}
use Rattle.pd_sections.specs.Starts.{starts_behind, IsLine}

-- each start lies behind the place where the bytes begin
above_step : (e : Bool) (place d j : ℕ) (rest : List ℕ) → j < length (cond e (suc place ∷ rest) rest)
    → ((i : ℕ) → i < length rest → suc place < get_or rest i d) → place < get_or (cond e (suc place ∷ rest) rest) j d
above_step true place d zero rest h more = omega arith
above_step true place d (suc j) rest h more = omega (arith, more j (omega arith))
above_step false place d j rest h more = omega (arith, more j h)

above : (bytes : List ℕ) (place d j : ℕ) → j < length (starts_behind place bytes) → place < get_or (starts_behind place bytes) j d
above [] place d j h = absurd (omega arith)
above (byte ∷ bytes) place d j h = above_step (ends_line byte bytes) place d j (starts_behind (suc place) bytes) h (above bytes (suc place) d)

-- the start of this number is at most a place exactly where its number is below the number of line ends before the place
pub record Begun (starts : List ℕ) (d lines place j : ℕ) : Type 0 where
  pub before : j < lines → get_or starts j d ≤ place
  pub behind : lines ≤ j → place < get_or starts j d

begun_step : (e : Bool) (d place at lines j : ℕ) (rest : List ℕ) → j < length (cond e (suc place ∷ rest) rest)
    → ((i : ℕ) → i < length rest → Begun rest d lines (suc place + at) i)
    → Begun (cond e (suc place ∷ rest) rest) d (cond e 1 0 + lines) (place + suc at) j
begun_step true d place at lines zero rest h more = record { before = λ l. omega arith; behind = λ l. absurd (omega arith) }
begun_step true d place at lines (suc j) rest h more =
    let r = more j (omega arith) in
    record { before = λ l. omega (arith, r.before (omega arith)); behind = λ l. omega (arith, r.behind (omega arith)) }
begun_step false d place at lines j rest h more =
    let r = more j h in
    record { before = λ l. omega (arith, r.before (omega arith)); behind = λ l. omega (arith, r.behind (omega arith)) }

pub begun : (bytes : List ℕ) (d place at j : ℕ) → j < length (starts_behind place bytes)
    → Begun (starts_behind place bytes) d (line_ends bytes at) (place + at) j
begun bytes d place zero j h = record { before = λ l. absurd (omega arith); behind = λ l. omega (arith, above bytes place d j h) }
begun [] d place (suc at) j h = absurd (omega arith)
begun (byte ∷ bytes) d place (suc at) j h =
    begun_step (ends_line byte bytes) d place at (line_ends bytes at) j (starts_behind (suc place) bytes) h (begun bytes d (suc place) at)

-- as many lines start as line ends lie before the bytes' end, and no more than there are bytes
lines_step : (e : Bool) (place lines : ℕ) (rest : List ℕ) → lines ≤ length rest → cond e 1 0 + lines ≤ length (cond e (suc place ∷ rest) rest)
lines_step true place lines rest h = omega arith
lines_step false place lines rest h = omega arith

pub lines_in : (bytes : List ℕ) (place at : ℕ) → line_ends bytes at ≤ length (starts_behind place bytes)
lines_in bytes place zero = omega arith
lines_in [] place (suc at) = omega arith
lines_in (byte ∷ bytes) place (suc at) =
    lines_step (ends_line byte bytes) place (line_ends bytes at) (starts_behind (suc place) bytes) (lines_in bytes (suc place) at)

small_step : (e : Bool) (lines at : ℕ) → lines ≤ at → cond e 1 0 + lines ≤ suc at
small_step true lines at h = omega arith
small_step false lines at h = omega arith

pub lines_small : (bytes : List ℕ) (at : ℕ) → line_ends bytes at ≤ at
lines_small bytes zero = omega arith
lines_small [] (suc at) = omega arith
lines_small (byte ∷ bytes) (suc at) = small_step (ends_line byte bytes) (line_ends bytes at) at (lines_small bytes at)

-- a place lies as far behind the start of its line as bytes come after the last line end before it
column_step : (e : Bool) (place at lines after : ℕ) (rest : List ℕ) → suc place + at ≡ get_or (suc place ∷ rest) lines 0 + after
    → place + suc at ≡ get_or (place ∷ cond e (suc place ∷ rest) rest) (cond e 1 0 + lines) 0 + cond (eqb (cond e 1 0 + lines) 0) (suc at) after
column_step true place at lines after rest h =
    let e : place + suc at ≡ get_or (suc place ∷ rest) lines 0 + after = omega (arith, h) in
    let positive : eqb (suc lines) 0 ≡ false = grind (arith, nat_tests) in
    rw (one-add, positive) e
column_step false place at zero after rest h = omega arith
column_step false place at (suc lines) after rest h =
    let e : suc place + at ≡ get_or rest lines 0 + after = h in
    let f : place + suc at ≡ get_or rest lines 0 + after = omega (arith, e) in
    let positive : eqb (suc lines) 0 ≡ false = grind (arith, nat_tests) in
    rw (zero-add, positive) f

pub column : (bytes : List ℕ) (place at : ℕ)
    → place + at ≡ get_or (place ∷ starts_behind place bytes) (line_ends bytes at) 0 + after_line_end bytes at
column bytes place zero = omega arith
column [] place (suc at) = omega arith
column (byte ∷ bytes) place (suc at) =
    column_step (ends_line byte bytes) place at (line_ends bytes at) (after_line_end bytes at) (starts_behind (suc place) bytes) (column bytes (suc place) at)

-- the starts up to a place are the first of them
at_start : (bytes : List ℕ) (d at j : ℕ) → j < length (0 ∷ starts_behind 0 bytes) → Begun (0 ∷ starts_behind 0 bytes) d (suc (line_ends bytes at)) at j
at_start bytes d at zero h = record { before = λ l. omega arith; behind = λ l. absurd (omega arith) }
at_start bytes d at (suc j) h =
    let r = begun bytes d 0 at j (omega arith) in
    record { before = λ l. omega (arith, r.before (omega arith)); behind = λ l. omega (arith, r.behind (omega arith)) }

pub in_two : (bytes : List ℕ) (at : ℕ) → IsPartitionedBy (λ start. leb start at) (0 ∷ starts_behind 0 bytes)
in_two bytes at i j d i≤j j<n passes =
    let starts : List ℕ = 0 ∷ starts_behind 0 bytes in
    let last = at_start bytes d at j j<n in
    let first = at_start bytes d at i (omega arith) in
    elim (cases_lt j (suc (line_ends bytes at))) [
      | inl l ↦ le-leb _ _ (first.before (omega arith))
      | inr l ↦ absurd (omega (arith, leb-true _ _ passes, last.behind l))
    ]

-- so a search for the place where they end counts the lines that have begun
pub lines_are : (bytes : List ℕ) (at lines : ℕ) → lines ≤ length (0 ∷ starts_behind 0 bytes)
    → IsPartitionPoint (λ start. leb start at ≡ true) (λ start. leb start at ≡ false) (0 ∷ starts_behind 0 bytes) lines → lines ≡ 1 + line_ends bytes at
lines_are bytes at lines within parts =
    elim (cases_lt lines (1 + line_ends bytes at)) [
      | inl below ↦
          let room : lines < length (0 ∷ starts_behind 0 bytes) = omega (arith, lines_in bytes 0 at) in
          let small = (at_start bytes 0 at lines room).before (omega arith) in
          let fails : leb (get_or (0 ∷ starts_behind 0 bytes) lines 0) at ≡ false = parts.1 lines 0 (omega arith) room in
          let passes : leb (get_or (0 ∷ starts_behind 0 bytes) lines 0) at ≡ true = le-leb _ _ small in
          cc
      | inr enough ↦ elim (cases_lt (1 + line_ends bytes at) lines) [
        | inl many ↦
            let large = (at_start bytes 0 at (1 + line_ends bytes at) (omega arith)).behind (omega arith) in
            let passes : leb (get_or (0 ∷ starts_behind 0 bytes) (1 + line_ends bytes at) 0) at ≡ true = parts.0 (1 + line_ends bytes at) 0 (omega arith) many in
            absurd (omega (arith, leb-true _ _ passes, large))
        | inr few ↦ omega arith
      ]
    ]

pub in_two_parts : (bytes table : List ℕ) (at : ℕ) → table ≡ 0 ∷ starts_behind 0 bytes → IsPartitionedBy (λ start. leb start at) table
in_two_parts bytes table at e = subst (λ xs. IsPartitionedBy (λ start. leb start at) xs) (sym e) (in_two bytes at)

-- where the search ends is the line, and the start before it is this line's
pub found : (bytes table : List ℕ) (at lines : ℕ) → table ≡ 0 ∷ starts_behind 0 bytes → lines ≤ length table
    → IsPartitionPoint (λ start. leb start at ≡ true) (λ start. leb start at ≡ false) table lines → IsLine bytes table at lines
found bytes table at lines e within parts =
    let within_it : lines ≤ length (0 ∷ starts_behind 0 bytes) = subst (λ xs. lines ≤ length xs) e within in
    let parts_of_it : IsPartitionPoint (λ start. leb start at ≡ true) (λ start. leb start at ≡ false) (0 ∷ starts_behind 0 bytes) lines
    = subst (λ xs. IsPartitionPoint (λ start. leb start at ≡ true) (λ start. leb start at ≡ false) xs lines) e parts in
    let line : lines ≡ 1 + line_ends bytes at = lines_are bytes at lines within_it parts_of_it in
    let number : lines - 1 ≡ line_ends bytes at = omega arith in
    let there : 0 + at ≡ get_or (0 ∷ starts_behind 0 bytes) (line_ends bytes at) 0 + after_line_end bytes at = column bytes 0 at in
    record {
      line = line;
      start = rw (number, e) (omega (arith, there));
      begun = within;
      room = omega (arith, lines_small bytes at);
    }
