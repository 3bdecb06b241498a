-- Definition: the words of the tables: numbers, texts, words, lists, members.
use Rattle.std.specs.Prelude.{ℕ, suc, ℤ, pos, negsuc, ◌^◌, List, [], ◌∷◌, ◌&&◌, ◌||◌, ◌==◌, length, min, count_by, Bool, true, not, nat_lt, Option, Some, None, option_map, Ok, Err, ⊤, if◌then◌else◌, bytes_eq, is_some, unwrap_or}
use Rattle.std.specs.List.{list_any}
use Rattle.serde_json.specs.Data.{unsigned, negative, Data, boolean, number, string, array, object, Items, no_items, item, Members, no_members, member}
use Rattle.serde_json.specs.Find.{get}
use Rattle.pd_plan.specs.declared.refusal.PlanRule.TheVariants.{Missing, WrongShape, OutOfRange, UnknownWord, UnknownMember}
use Rattle.pd_plan_json.specs.Reading.{Read, ◌>>=◌, ◌>>◌, refuse, refuse_if, under, member_step, entry_step}

-- n is not from low to high
abbrev pub outside : ℕ → ℕ → ℕ → Bool
outside low high n = nat_lt n low || nat_lt high n

-- a whole number that is written without sign, point and exponent
abbrev pub whole : Data → Read ℕ
whole (number (unsigned n)) = Ok n
whole _ = refuse WrongShape

-- a truth value
abbrev pub truth : Data → Read Bool
truth (boolean b) = Ok b
truth _ = refuse WrongShape

-- the bytes of a text
abbrev pub chars : Data → Read (List ℕ)
chars (string s) = Ok s
chars _ = refuse WrongShape

-- the entries of a list
abbrev pub items : Data → Read Items
items (array ds) = Ok ds
items _ = refuse WrongShape

-- the members of an object
abbrev pub members : Data → Read Members
members (object ms) = Ok ms
members _ = refuse WrongShape

-- that the value is an object
abbrev pub an_object : Data → Read ⊤
an_object (object ms) = Ok tt
an_object _ = refuse WrongShape

-- a whole number from low to high
unfoldable pub number_in : ℕ → ℕ → Data → Read ℕ
number_in low high d = do
  n ← whole d
  refuse_if (outside low high n) OutOfRange
  Ok n

-- a whole number with or without a sign: from -(2 ^ 63) to 2 ^ 63 - 1; `negsuc n` is -(n + 1)
abbrev pub signed_in : ℤ → Read ℤ
signed_in (pos n) = if nat_lt n (2 ^ 63) then Ok (pos n) else refuse OutOfRange
signed_in (negsuc n) = if nat_lt n (2 ^ 63) then Ok (negsuc n) else refuse OutOfRange

-- a whole number of 64 bits, with or without a sign
abbrev pub signed : Data → Read ℤ
signed (number (unsigned n)) = signed_in (pos n)
signed (number (negative z)) = signed_in z
signed _ = refuse WrongShape

-- The number of a source, a binding or a session. A plan has none of number 4,294,967,295, so larger ones are kept as that.
unfoldable pub reference : Data → Read ℕ
reference d = do
  n ← whole d
  Ok (min n 4294967295)

-- a text of low to high bytes, none of them below 0x20
unfoldable pub text_in : ℕ → ℕ → Data → Read (List ℕ)
text_in low high d = do
  s ← chars d
  refuse_if (outside low high (length s)) OutOfRange
  refuse_if (list_any (λ b. nat_lt b 0x20) s) OutOfRange
  Ok s

-- what a word of a set is
abbrev pub meaning : {A : Type 0} → List (List ℕ × Read A) → List ℕ → Read A
meaning [] s = refuse UnknownWord
meaning (w ∷ ws) s = if bytes_eq s w.0 then w.1 else meaning ws s

-- the entries of a list, the first of them with number i
abbrev pub entries : {A : Type 0} → (Data → Read A) → ℕ → Items → Read (List A)
entries reader i no_items = Ok []
entries reader i (item d ds) = do
  x ← under (entry_step i) (reader d)
  xs ← entries reader (suc i) ds
  Ok (x ∷ xs)

-- the number of entries
abbrev pub count : Items → ℕ
count no_items = 0
count (item d ds) = suc (count ds)

-- a list of low to high entries
unfoldable pub list_in : {A : Type 0} → ℕ → ℕ → (Data → Read A) → Data → Read (List A)
list_in low high reader d = do
  ds ← items d
  refuse_if (outside low high (count ds)) OutOfRange
  entries reader 0 ds

-- a member that has to be there
abbrev pub or_missing : {A : Type 0} → (Data → Read A) → Option Data → Read A
or_missing reader None = refuse Missing
or_missing reader (Some v) = reader v

-- the value of a member that has to be there
unfoldable pub required : {A : Type 0} → List ℕ → (Data → Read A) → Data → Read A
required name reader d = under (member_step name) (or_missing reader (get name d))

-- a member that may be absent
abbrev pub if_there : {A : Type 0} → (Data → Read A) → Option Data → Read (Option A)
if_there reader None = Ok None
if_there reader (Some v) = do
  x ← reader v
  Ok (Some x)

-- the value of a member that may be absent
unfoldable pub optional : {A : Type 0} → List ℕ → (Data → Read A) → Data → Read (Option A)
optional name reader d = under (member_step name) (if_there reader (get name d))

-- no member but these
abbrev pub are_among : List (List ℕ) → Members → Bool
are_among names no_members = true
are_among names (member k d ms) = list_any (bytes_eq k) names && are_among names ms

-- that the object has no members but these
unfoldable pub no_other : List (List ℕ) → Data → Read ⊤
no_other names d = do
  ms ← members d
  refuse_if (not (are_among names ms)) UnknownMember

-- an object of a table: its members, as `inner` reads them in order, and no other
unfoldable pub table_of : {A : Type 0} → List (List ℕ) → (Data → Read A) → Data → Read A
table_of names inner d = do
  an_object d
  x ← inner d
  no_other names d
  Ok x

-- how many of these members are there
abbrev pub present : List (List ℕ) → Data → ℕ
present names d = count_by (λ name. is_some (get name d)) names

-- an object with just one of these members
unfoldable pub one_of : {A : Type 0} → List (List ℕ) → (Data → Read A) → Data → Read A
one_of names reader d = do
  an_object d
  refuse_if (not (present names d == 1)) WrongShape
  x ← reader d
  no_other names d
  Ok x

-- a member that may be absent, and what it becomes
abbrev pub optional_as : {A B : Type 0} → (A → B) → List ℕ → (Data → Read A) → Data → Read (Option B)
optional_as f name reader d = optional name reader d >>= λ o. Ok (option_map f o)

-- the first where it is there, else the second
abbrev pub or_else : {A : Type 0} → Read (Option A) → Read A → Read A
or_else (Ok (Some x)) rest = Ok x
or_else (Ok None) rest = rest
or_else (Err e) rest = Err e

-- a member with a default
unfoldable pub with_default : {A : Type 0} → List ℕ → A → (Data → Read A) → Data → Read A
with_default name default reader d = do
  found ← optional name reader d
  Ok (unwrap_or found default)
