-- Twin of the code, for its proofs, but for `token_at` and `text_at`, which definitions use. Of public contracts only
-- those of `Scope` cite the rest, which no other crate uses.
-- The variables of an SL function as they are kept while its nodes are passed in the order of its text. Places are numbers of tokens.
-- A name is a variable from the end of the first assignment to it that has ended, up to the end of the block that it stands in.
-- The rule in its own words is in Locals; what is kept here gives the same meanings.
use Rattle.std.specs.Prelude.{ℕ, zero, suc, ◌+◌, ◌*◌, ◌&&◌, if◌then◌else◌, nat_le, nat_lt, List, [], ◌∷◌, map, slice_index_or, Option, Some, None, refl}
use denote.Ref.{Bor}
use Rattle.std.specs.Cmp.Lexicographic.{slice_cmp}
use Rattle.std.specs.Coded.{Coded, code_by, coded×, coded_ℕ, coded_list}
use Rattle.std.specs.FinMap as maps
use Rattle.std.specs.Ordering.{nat_cmp}
use Rattle.pd_sections.specs.declared.Token.{Token}
use Rattle.pd_sections.specs.declared.TokenKind.TheVariants.{Name as NameToken}
use Rattle.pd_tree.specs.declared.kind.Meaning.{Meaning}
use Rattle.pd_tree.specs.declared.kind.Meaning.TheVariants.{Local, Nothing}
use Rattle.pd_sl_read.specs.declared.parts.Part.{Part}
use Rattle.pd_sl_read.specs.declared.parts.Shape.{Shape}
use Rattle.pd_sl_read.specs.declared.parts.Shape.TheVariants as shapes
use Rattle.pd_sl_read.specs.Tokens.{text_of}
use Rattle.pd_sl_parse.specs.declared.scope.Variable.{Variable}

-- what stands for a token after the last
abbrev pub no_token : Token
no_token = record { kind = NameToken; start = 0; len = 0 }

-- the token with this number
abbrev pub token_at : List Token → ℕ → Token
token_at tokens i = slice_index_or tokens i no_token

-- the bytes of the token with this number
abbrev pub text_at : List ℕ → List Token → ℕ → List ℕ
text_at bytes tokens i = text_of bytes (token_at tokens i)

-- the latest variable of each name
abbrev pub Variables : Type 0
Variables = maps.FinMap (slice_cmp nat_cmp) Variable

-- the map of these entries
abbrev pub variables_of : List (Bor (List ℕ) × Variable) → Variables
variables_of entries = maps.from_entries (map (λ e. (e.0.now, e.1)) entries)

-- what is kept between two nodes
pub record Scoped : Type 0 where
  -- the ends of the blocks that are open, the innermost first
  pub blocks : List ℕ
  pub variables : Variables
  pub slots : ℕ

-- a variable as numbers, so that a map can keep it
abbrev pub variable_code : Coded Variable
variable_code = code_by (ℕ × (ℕ × ℕ)) (coded× coded_ℕ (coded× coded_ℕ coded_ℕ)) (λ v. (v.slot, (v.from, v.until))) (λ p. record { slot = p.0; from = p.1.0; until = p.1.1 }) (λ _. refl)

-- the same of all that is kept
abbrev pub scoped_code : Coded Scoped
scoped_code = code_by (List ℕ × (Variables × ℕ)) (coded× (coded_list coded_ℕ) (coded× (maps.code (coded_list coded_ℕ) variable_code) coded_ℕ)) (λ s. (s.blocks, (s.variables, s.slots))) (λ p. record { blocks = p.0; variables = p.1.0; slots = p.1.1 }) (λ _. refl)

-- before the first node
abbrev pub no_scope : Scoped
no_scope = record { blocks = []; variables = maps.empty; slots = 0 }

-- the latest variable of this name
abbrev pub latest : List ℕ → Variables → Option Variable
latest name variables = maps.get variables name

-- the blocks that are still open at a place
unfoldable pub open_at : ℕ → List ℕ → List ℕ
open_at at [] = []
open_at at (end ∷ ends) = if nat_lt at end then end ∷ ends else open_at at ends

-- the end of the innermost open block; 0 where none is open
abbrev pub innermost : List ℕ → ℕ
innermost [] = 0
innermost (end ∷ ends) = end

-- one more variable of this name, in the next slot
abbrev pub with_variable : List ℕ → Variable → Scoped → Scoped
with_variable name v s = record { blocks = s.blocks; variables = maps.insert s.variables name v; slots = s.slots + 1 }

-- a parameter that is named twice is one variable
abbrev pub with_parameter : Option Variable → List ℕ → ℕ → Scoped → Scoped
with_parameter (Some v) name until s = s
with_parameter None name until s = with_variable name (record { slot = s.slots; from = 0; until = until }) s

-- the variables of n parameters, the first of which is the token `first` and every second token one
abbrev pub with_parameters : List ℕ → List Token → ℕ → ℕ → ℕ → Scoped → Scoped
with_parameters bytes tokens first until zero s = s
with_parameters bytes tokens first until (suc n) s =
    let r = with_parameters bytes tokens first until n s in
    let name = text_at bytes tokens (first + 2 * n) in
    with_parameter (latest name r.variables) name until r

-- the variable, from an earlier place on
abbrev pub sooner : Variable → ℕ → Variable
sooner v from = record { slot = v.slot; from = from; until = v.until }

-- a variable that is being assigned is seen after the first assignment to it that ends
abbrev pub assigned_again : List ℕ → Variable → Part → Scoped → Scoped
assigned_again name v p s = if nat_lt p.end v.from then record { blocks = s.blocks; variables = maps.insert s.variables name (sooner v p.end); slots = s.slots } else s

-- an assignment that makes a new variable of its block
abbrev pub assigned_new : List ℕ → Part → Scoped → Scoped
assigned_new name p s = with_variable name (record { slot = s.slots; from = p.end; until = innermost s.blocks }) s

-- an assignment to a name that is no variable here makes a new one of its block
abbrev pub assigned : Option Variable → List ℕ → Part → Scoped → Scoped
assigned None name p s = assigned_new name p s
assigned (Some v) name p s = if nat_lt p.first v.until then assigned_again name v p s else assigned_new name p s

-- the blocks that end at this place or before it are left
abbrev pub left : ℕ → Scoped → Scoped
left at s = record { blocks = open_at at s.blocks; variables = s.variables; slots = s.slots }

-- a block is entered, after those that ended before it were left
abbrev pub block_entered : Part → Scoped → Scoped
block_entered p s = record { blocks = p.end ∷ open_at p.first s.blocks; variables = s.variables; slots = s.slots }

-- after a node's first token
abbrev pub entered_in : Shape → List ℕ → List Token → Part → Scoped → Scoped
entered_in (shapes.Function n) bytes tokens p s = with_parameters bytes tokens (p.first + 3) p.end n no_scope
entered_in shapes.Body bytes tokens p s = block_entered p s
entered_in shapes.Block bytes tokens p s = block_entered p s
entered_in shapes.Assign bytes tokens p s =
    let name = text_at bytes tokens p.first in
    assigned (latest name s.variables) name p (left p.first s)
entered_in _ bytes tokens p s = s

-- a node is entered
abbrev pub entered : List ℕ → List Token → Part → Scoped → Scoped
entered bytes tokens p s = entered_in p.shape bytes tokens p s

-- the variable to which an assignment goes
abbrev pub assigned_meaning : Option Variable → Meaning
assigned_meaning None = Nothing
assigned_meaning (Some v) = Local 0 v.slot

-- the variable that a name at this place means; none outside the places where it is seen
abbrev pub read_meaning : ℕ → Option Variable → Meaning
read_meaning at None = Nothing
read_meaning at (Some v) = if nat_le v.from at && nat_lt at v.until then Local 0 v.slot else Nothing

-- what a node's name means, after its first token
abbrev pub meaning_in : Shape → List ℕ → List Token → Part → Scoped → Meaning
meaning_in shapes.Assign bytes tokens p s = assigned_meaning (latest (text_at bytes tokens p.first) s.variables)
meaning_in shapes.Name bytes tokens p s = read_meaning p.first (latest (text_at bytes tokens p.first) s.variables)
meaning_in _ bytes tokens p s = Nothing
