-- Definition: which function or procedure a name means. Functions, procedures and main blocks are items, numbered over
-- the whole program in the order of their nodes, from 1 on; item 0 is the built-in `println`.
use Rattle.std.specs.Prelude.{ℕ, zero, suc, ◌+◌, ◌-◌, if◌then◌else◌, List, [], ◌∷◌, ◌++◌, Option, Some, None, bytes_eq, codes}
use Rattle.std.specs.Option.{option_or}
use Rattle.pd_plan.specs.declared.plan.Language.{Language}
use Rattle.pd_plan.specs.declared.plan.Language.TheVariants.{Sl, Pl0}
use Rattle.pd_tree.specs.declared.addition.Addition.{Addition}
use Rattle.pd_tree.specs.declared.kind.Kind.{Kind}
use Rattle.pd_tree.specs.declared.kind.Kind.TheVariants.{SlFunction, SlName, PlProcedure, PlCall}
use Rattle.pd_tree.specs.declared.kind.Meaning.{Meaning}
use Rattle.pd_tree.specs.declared.kind.Meaning.TheVariants.{Nothing}
use Rattle.pd_tree.specs.Kinds.{is_root}

-- a name, and the item that it means
pub record Symbol : Type 0 where
  pub name : List ℕ
  pub item : ℕ

-- the item of the last symbol of this name
abbrev pub lookup : List ℕ → List Symbol → Option ℕ
lookup x [] = None
lookup x (s ∷ ss) = option_or (lookup x ss) (if bytes_eq s.name x then Some s.item else None)

-- the number of the next item after a node
abbrev pub next_item : Kind → ℕ → ℕ
next_item kind item = if is_root kind then item + 1 else item

-- the number of the next item after these nodes
abbrev pub item_behind : ℕ → List Addition → ℕ
item_behind item [] = item
item_behind item (a ∷ rest) = item_behind (next_item a.kind item) rest

-- ---- SL

-- the symbol of a node of SL before these, where the node is a function
abbrev pub function_symbol : Kind → ℕ → List Symbol → List Symbol
function_symbol (SlFunction name parameters) item later = record { name = name; item = item } ∷ later
function_symbol _ item later = later

-- the functions of a source, whose first item has this number
abbrev pub functions : ℕ → List Addition → List Symbol
functions item [] = []
functions item (a ∷ rest) = function_symbol a.kind item (functions (next_item a.kind item) rest)

-- a function of the same source, else `println`, else an export
abbrev pub sl_item : List Symbol → List Symbol → List ℕ → Option ℕ
sl_item own exports x = option_or (lookup x own) (if bytes_eq x (codes "println") then Some 0 else lookup x exports)

-- for a node whose name is no variable
abbrev pub sl_found : List Symbol → List Symbol → Kind → Meaning → Option ℕ
sl_found own exports (SlName x) Nothing = sl_item own exports x
sl_found own exports _ _ = None

-- for each node of an SL source the item that its name means, if it means one
abbrev pub sl_all_found : List Symbol → List Symbol → List Addition → List (Option ℕ)
sl_all_found own exports [] = []
sl_all_found own exports (a ∷ rest) = sl_found own exports a.kind a.meaning ∷ sl_all_found own exports rest

-- ---- PL/0

-- a node of which parts may still come, and the procedures that are visible after it
pub record Unfinished : Type 0 where
  pub left : ℕ
  pub visible : List Symbol

-- the unfinished nodes from the innermost outward, and the visible procedures, an inner one after those that it hides
pub record Scope : Type 0 where
  pub unfinished : List Unfinished
  pub visible : List Symbol

-- before the first node of a source
abbrev pub no_scope : Scope
no_scope = record { unfinished = []; visible = [] }

-- nodes to which no part comes any more end
abbrev pub ended : List Unfinished → List Symbol → Scope
ended [] visible = record { unfinished = []; visible = visible }
ended (x ∷ xs) visible = elim x.left [
  | zero ↦ ended xs x.visible
  | suc _ ↦ record { unfinished = x ∷ xs; visible = visible }
]

-- one part less is to come to the innermost unfinished node
abbrev pub part_came : List Unfinished → List Unfinished
part_came [] = []
part_came (x ∷ xs) = record { left = x.left - 1; visible = x.visible } ∷ xs

-- a procedure is visible from its name on, in its own block too; the main block can't be called
abbrev pub declared : Kind → ℕ → List Unfinished → List Symbol → List Symbol
declared (PlProcedure name variables) item (x ∷ xs) visible = visible ++ record { name = name; item = item } ∷ []
declared _ item unfinished visible = visible

-- the scope after a node's first token, and after the node where it has no parts
abbrev pub passed : ℕ → Scope → Addition → Scope
passed item s a = let visible = declared a.kind item s.unfinished s.visible in ended (record { left = a.children; visible = visible } ∷ part_came s.unfinished) visible

-- the procedure in scope, else an export
abbrev pub pl0_found : List Symbol → List Symbol → Kind → Option ℕ
pl0_found visible exports (PlCall x) = option_or (lookup x visible) (lookup x exports)
pl0_found visible exports _ = None

-- for each node of a PL/0 source the item that its name means, if it means one
abbrev pub pl0_all_found : List Symbol → ℕ → Scope → List Addition → List (Option ℕ)
pl0_all_found exports item s [] = []
pl0_all_found exports item s (a ∷ rest) = pl0_found s.visible exports a.kind ∷ pl0_all_found exports (next_item a.kind item) (passed item s a) rest

-- the symbol of a node of PL/0 before these, where the node is a procedure declared directly in the main block
abbrev pub procedure_symbol : Kind → ℕ → List Unfinished → List Symbol → List Symbol
procedure_symbol (PlProcedure name variables) item (main ∷ []) later = record { name = name; item = item } ∷ later
procedure_symbol _ item unfinished later = later

-- the procedures that are declared directly in the main block
abbrev pub procedures : ℕ → Scope → List Addition → List Symbol
procedures item s [] = []
procedures item s (a ∷ rest) = procedure_symbol a.kind item s.unfinished (procedures (next_item a.kind item) (passed item s a) rest)

-- ---- both languages

-- what can be called from outside a source: its main block, where it has one, and functions and procedures by their names
pub record Interface : Type 0 where
  pub main : Option ℕ
  pub symbols : List Symbol

-- what can be called of a source from outside it: its functions, or its main block and the procedures directly in it
abbrev pub interface_of : Language → ℕ → List Addition → Interface
interface_of Sl item tree = record { main = None; symbols = functions item tree }
interface_of Pl0 item tree = record { main = Some item; symbols = procedures item no_scope tree }

-- the item found for each node of a source, where one is
abbrev pub found_in : Language → List Symbol → ℕ → List Addition → List (Option ℕ)
found_in Sl exports item tree = sl_all_found (functions item tree) exports tree
found_in Pl0 exports item tree = pl0_all_found exports item no_scope tree

-- the item with which a context begins, by its name; `main` is the main block where there is one
abbrev pub entry_named : Option ℕ → List Symbol → List ℕ → Option ℕ
entry_named None symbols x = lookup x symbols
entry_named (Some main) symbols x = if bytes_eq x (codes "main") then Some main else lookup x symbols

-- the function of this name; in PL/0 `main` is the main block, and another name a procedure declared directly in it
abbrev pub entry_in : Interface → List ℕ → Option ℕ
entry_in i x = entry_named i.main i.symbols x
