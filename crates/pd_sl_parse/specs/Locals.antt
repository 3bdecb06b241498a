-- Definition: which variable a name of SL means at a place. Places are numbers of tokens.
-- `earlier` are the nodes that begin before the place, the latest first: up to the first function among them, they are those of
-- the function that the place stands in.
-- A name is a local where it is a parameter, or where an assignment to it has ended that stands in the same block or in an enclosing
-- one. An assignment to a name that is no local there makes a new variable of its block; those inside its right side go to the same.
use Rattle.std.specs.Prelude.{ℕ, zero, suc, ◌+◌, ◌*◌, Bool, true, false, not, ◌&&◌, ◌||◌, if◌then◌else◌, nat_le, nat_lt, List, [], ◌∷◌, Option, Some, None, bytes_eq}
use Rattle.pd_sections.specs.declared.Token.{Token}
use Rattle.pd_tree.specs.declared.kind.Meaning.{Meaning}
use Rattle.pd_tree.specs.declared.kind.Meaning.TheVariants.{Local, Nothing}
use Rattle.pd_sl_read.specs.declared.parts.Part.{Part}
use Rattle.pd_sl_read.specs.declared.parts.Shape.{Shape}
use Rattle.pd_sl_read.specs.declared.parts.Shape.TheVariants as shapes
use Rattle.pd_sl_parse.specs.Scopes.{text_at}

-- whether the node is a function
abbrev pub is_function : Shape → Bool
is_function (shapes.Function n) = true
is_function _ = false

-- whether the node is a block, or a function's body
abbrev pub is_block : Shape → Bool
is_block shapes.Body = true
is_block shapes.Block = true
is_block _ = false

-- whether the node is an assignment
abbrev pub is_assignment : Shape → Bool
is_assignment shapes.Assign = true
is_assignment _ = false

-- how many parameters a function names
abbrev pub parameters : Shape → ℕ
parameters (shapes.Function n) = n
parameters _ = 0

-- the end of the innermost block around the place: of the latest one that goes on there
abbrev pub block_end : List Part → ℕ → ℕ
block_end [] at = 0
block_end (q ∷ earlier) at =
    if is_function q.shape then 0
    else if is_block q.shape && nat_lt at q.end then q.end
    else block_end earlier at

-- the variable in this slot, if there is one
abbrev pub local : Option ℕ → Meaning
local None = Nothing
local (Some slot) = Local 0 slot

module _ (bytes : List ℕ) (tokens : List Token) where
  -- whether one of `n` parameters has the name; the first one is this token, and every second is one
  abbrev pub is_named : ℕ → ℕ → List ℕ → Bool
  is_named first zero name = false
  is_named first (suc n) name = is_named first n name || bytes_eq (text_at bytes tokens (first + 2 * n)) name

  -- how many variables they are: a parameter that is named twice is one
  abbrev pub variables_named : ℕ → ℕ → ℕ
  variables_named first zero = 0
  variables_named first (suc n) =
      if is_named first n (text_at bytes tokens (first + 2 * n)) then variables_named first n
      else variables_named first n + 1

  -- the slot of the one with the name
  abbrev pub slot_named : ℕ → ℕ → List ℕ → Option ℕ
  slot_named first zero name = None
  slot_named first (suc n) name =
      if is_named first n name then slot_named first n name
      else if bytes_eq (text_at bytes tokens (first + 2 * n)) name then Some (variables_named first n)
      else None

  -- whether the node is an assignment to the name
  abbrev pub assigns : List ℕ → Part → Bool
  assigns name q = is_assignment q.shape && bytes_eq (text_at bytes tokens q.first) name

  -- whether the name is a local: a parameter, or an assignment to it has its last token before the place and stands in a block
  -- that goes on there
  abbrev pub is_local : List ℕ → ℕ → List Part → Bool
  is_local name at [] = false
  is_local name at (q ∷ earlier) =
      if is_function q.shape then nat_lt at q.end && is_named (q.first + 3) (parameters q.shape) name
      else (assigns name q && nat_le q.end at && nat_lt at (block_end earlier q.first)) || is_local name at earlier

  -- whether the place is inside the right side of an assignment to the name
  abbrev pub is_inside : List ℕ → ℕ → List Part → Bool
  is_inside name at [] = false
  is_inside name at (q ∷ earlier) =
      if is_function q.shape then false
      else (assigns name q && nat_lt at q.end) || is_inside name at earlier

  -- whether the node is an assignment that makes a variable
  abbrev pub makes_variable : Part → List Part → Bool
  makes_variable p earlier =
      let name = text_at bytes tokens p.first in
      is_assignment p.shape && not (is_local name p.first earlier) && not (is_inside name p.first earlier)

  -- how many variables the function has so far
  abbrev pub variables_made : List Part → ℕ
  variables_made [] = 0
  variables_made (q ∷ earlier) =
      if is_function q.shape then variables_named (q.first + 3) (parameters q.shape)
      else if makes_variable q earlier then variables_made earlier + 1
      else variables_made earlier

  -- the slot of the variable: of the latest one of the name whose block goes on at the place, and else of the parameter
  abbrev pub slot_of : List ℕ → ℕ → List Part → Option ℕ
  slot_of name at [] = None
  slot_of name at (q ∷ earlier) =
      if is_function q.shape then slot_named (q.first + 3) (parameters q.shape) name
      else if assigns name q && makes_variable q earlier && nat_lt at (block_end earlier q.first) then Some (variables_made earlier)
      else slot_of name at earlier

  -- what a node's name means
  abbrev pub meaning_of : Shape → Part → List Part → Meaning
  meaning_of shapes.Assign p earlier = local (slot_of (text_at bytes tokens p.first) p.first (p ∷ earlier))
  meaning_of shapes.Name p earlier =
      let name = text_at bytes tokens p.first in
      if is_local name p.first earlier then local (slot_of name p.first earlier) else Nothing
  meaning_of _ p earlier = Nothing
