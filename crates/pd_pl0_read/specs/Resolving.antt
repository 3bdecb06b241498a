-- Definition: what names mean: the declarations in scope after the parts of a block, and the one that a name finds.
use Rattle.std.specs.Prelude.{ℕ, ◌+◌, ℤ, pos, Bool, true, false, nat_lt, if◌then◌else◌, List, [], ◌∷◌, Option, Some, None, bytes_eq}
use Rattle.pd_tree.specs.declared.kind.Meaning.{Meaning}
use Rattle.pd_tree.specs.declared.kind.Meaning.TheVariants.{Local, Nothing}
use Rattle.pd_pl0_spell.specs.Words.{Constant, Tree, procedure, Trees, none, also}
use Rattle.pd_pl0_spell.specs.Names.{Kind, AConstant, AVariable, AProcedure, Declaration, Scope, declare}
use Rattle.pd_pl0_spell.specs.Refusals.{largest}
use Rattle.pd_pl0_read.specs.declared.names.Declared.{Declared}
use Rattle.pd_pl0_read.specs.declared.names.Declared.TheVariants as declared
use Rattle.pd_pl0_read.specs.declared.names.Found.{Found}
use Rattle.pd_pl0_read.specs.declared.parts.Shape.{Shape}
use Rattle.pd_pl0_read.specs.declared.parts.Shape.TheVariants as shapes

-- the value n, unless it is too large
abbrev pub value_within : Bool → ℕ → Option ℤ
value_within true n = None
value_within false n = Some (pos n)

-- the value of a number of 64 bits
abbrev pub value_of : ℕ → Option ℤ
value_of n = value_within (nat_lt largest n) n

-- a number that isn't of 64 bits is refused
abbrev pub literal : Option ℤ → ℤ
literal None = pos 9223372036854775807
literal (Some n) = n

-- The scope after declarations.
abbrev pub constants_declared : List Constant → Scope → Scope
constants_declared [] s = s
constants_declared (c ∷ cs) s = constants_declared cs (declare c.name (AConstant c.value) s)

-- the scope after these variables
abbrev pub variables_declared : List (List ℕ) → Scope → Scope
variables_declared [] s = s
variables_declared (x ∷ xs) s = variables_declared xs (declare x AVariable s)

-- the scope after a procedure: it has declared its name
abbrev pub declared_by : Tree → Scope → Scope
declared_by (procedure x b) s = declare x AProcedure s
declared_by t s = s

-- the scope after these procedures
abbrev pub procedures_declared : Trees → Scope → Scope
procedures_declared none s = s
procedures_declared (also t ts) s = procedures_declared ts (declared_by t s)

-- How many variables there are among a block's declarations: the slot of the next one.
abbrev pub counted : Kind → ℕ → ℕ
counted AVariable n = n + 1
counted k n = n

-- how many variables these declarations have
abbrev pub slots : List Declaration → ℕ
slots [] = 0
slots (d ∷ ds) = counted d.kind (slots ds)

-- a declaration, where its block has so many variables before it
abbrev pub declared_as : Kind → ℕ → Declared
declared_as (AConstant v) slot = declared.Constant (literal (value_of v))
declared_as AVariable slot = declared.Variable slot
declared_as AProcedure slot = declared.Procedure

-- the declaration of a name among those of a block, of which the latest comes first
abbrev pub found_in : List ℕ → List Declaration → Option Declared
found_in x [] = None
found_in x (d ∷ ds) = if bytes_eq x d.name then Some (declared_as d.kind (slots ds)) else found_in x ds

-- what is found in a block that stands `up` blocks outward, or else in those around it
abbrev pub or_outer : ℕ → Option Declared → Option Found → Option Found
or_outer up None outer = outer
or_outer up (Some d) outer = Some (record { up = up; what = d })

-- the declaration of a name in the innermost of these blocks that has one
abbrev pub found_from : ℕ → List ℕ → List (List Declaration) → Option Found
found_from up x [] = None
found_from up x (ds ∷ blocks) = or_outer up (found_in x ds) (found_from (up + 1) x blocks)

-- the visible declaration of a name: an inner one hides an outer one
abbrev pub resolved : List ℕ → Scope → Option Found
resolved x s = found_from 0 x (s.own ∷ s.around)

-- what a name means with this declaration; only a variable has a meaning
abbrev pub meaning_as : ℕ → Declared → Meaning
meaning_as up (declared.Variable slot) = Local up slot
meaning_as up d = Nothing

-- a variable, and else nothing
abbrev pub meaning_of : Option Found → Meaning
meaning_of None = Nothing
meaning_of (Some f) = meaning_as f.up f.what

-- the node of a name in a factor: a constant's is its value
abbrev pub factor_as : ℕ → Declared → Shape
factor_as up (declared.Constant v) = shapes.Number v
factor_as up d = shapes.Name (meaning_as up d)

-- a name in a factor: a constant is its number
abbrev pub factor_of : Option Found → Shape
factor_of None = shapes.Name Nothing
factor_of (Some f) = factor_as f.up f.what
