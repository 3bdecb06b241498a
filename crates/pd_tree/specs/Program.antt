-- Definition, which public contracts cite.
-- A program as plain lists: its nodes by number, its items by number, and the main block of each source.
use Rattle.std.specs.Prelude.{ℕ, Bool, false, ◌||◌, List, [], ◌∷◌, map, slice_index_or, Option, None}
use Rattle.pd_values.specs.declared.value.Tag.{Tag}
use Rattle.pd_values.specs.declared.value.Tag.TheVariants.{Statement, Call, Root, RootBody, Expression, ReadVariable, WriteVariable, AlwaysHalt}
use Rattle.pd_tree.specs.declared.kind.Kind.{Kind}
use Rattle.pd_tree.specs.declared.kind.Kind.TheVariants.{PlEmpty}
use Rattle.pd_tree.specs.declared.kind.Visible.{Visible}
use Rattle.pd_tree.specs.declared.kind.Meaning.{Meaning}
use Rattle.pd_tree.specs.declared.kind.Meaning.TheVariants.{Nothing}

-- a linked node
pub record Node : Type 0 where
  pub kind : Kind
  -- the numbers of the parts, from left to right
  pub children : List ℕ
  pub tags : List Tag
  -- what the node's name means, where it has one
  pub meaning : Meaning
  -- the function or procedure in which it stands, and how many procedures stand around that one:
  -- 0 for an SL function and for a main block, 1 for a procedure declared directly in a main block
  pub root : ℕ
  pub level : ℕ
  -- at a root, how many variables it has
  pub slots : ℕ
  pub sees : List Visible
  -- its section: the source, the first byte and the number of bytes; and the line and column of the first byte, from 1
  pub source : ℕ
  pub start : ℕ
  pub len : ℕ
  pub line : ℕ
  pub column : ℕ

-- a function, a procedure, or `println`, which has no root and is item 0
pub record Item : Type 0 where
  pub name : List ℕ
  pub root : Option ℕ

-- a linked program: its nodes and items by their numbers, and where the contexts begin
pub record Program : Type 0 where
  pub nodes : List Node
  pub items : List Item
  -- for each source the root of its main block, where it has one
  pub mains : List (Option ℕ)
  -- for each context the item that it calls
  pub entries : List ℕ

-- what stands for a node or an item past the last one
abbrev pub no_node : Node
no_node = record { kind = PlEmpty; children = []; tags = []; meaning = Nothing; root = 0; level = 0; slots = 0; sees = []; source = 0; start = 0; len = 0; line = 0; column = 0 }

-- what stands for an item that isn't there
abbrev pub no_item : Item
no_item = record { name = []; root = None }

-- node n; for a number that the program doesn't have a node of no tag
abbrev pub node_at : Program → ℕ → Node
node_at p n = slice_index_or p.nodes n no_node

-- item i; for a number that the program doesn't have one without name and root
abbrev pub item_at : Program → ℕ → Item
item_at p i = slice_index_or p.items i no_item

-- the names of the items, by their numbers
abbrev pub item_names : Program → List (List ℕ)
item_names p = map (λ i. i.name) p.items

-- whether two tags are the same
abbrev pub same_tag : Tag → Tag → Bool
same_tag Statement Statement = Bool.true
same_tag Call Call = Bool.true
same_tag Root Root = Bool.true
same_tag RootBody RootBody = Bool.true
same_tag Expression Expression = Bool.true
same_tag ReadVariable ReadVariable = Bool.true
same_tag WriteVariable WriteVariable = Bool.true
same_tag AlwaysHalt AlwaysHalt = Bool.true
same_tag _ _ = false

-- whether the tag is among these
abbrev pub has_tag : List Tag → Tag → Bool
has_tag [] t = false
has_tag (x ∷ xs) t = same_tag x t || has_tag xs t
