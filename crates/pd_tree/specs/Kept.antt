-- How a program is kept: additions, and beside each its place, with its parts as a stretch of a list, and the variables that it sees
-- by the number of the list that some changes lead to.
use Rattle.std.specs.Prelude.{◌≡◌, ℕ, ◌+◌, ◌<◌, ◌≤◌, ◌^◌, false, List, [], ◌∷◌, ◌++◌, length, take, drop, slice_index_or, Option}
use Rattle.pd_tree.specs.declared.kind.Kind.{Kind}
use Rattle.pd_tree.specs.declared.kind.Kind.TheVariants.{PlProcedure}
use Rattle.pd_tree.specs.declared.kind.Visible.{Visible}
use Rattle.pd_tree.specs.declared.kind.Meaning.TheVariants.{Nothing}
use Rattle.pd_tree.specs.declared.addition.Addition.{Addition}
use Rattle.pd_tree.specs.declared.change.Change.{Change}
use Rattle.pd_tree.specs.declared.change.Edge.{Edge}
use Rattle.pd_tree.specs.declared.change.Edge.TheVariants.{First, Last}
use Rattle.pd_tree.specs.declared.place.Place.{Place}
use Rattle.pd_tree.specs.declared.place.Span.{Span}
use Rattle.pd_tree.specs.Program.{Program, Node, Item}
use Rattle.pd_tree.specs.Kinds.{tags_of}
use Rattle.pd_tree.specs.Linked.{no_addition, kind_at, names_in, seen_inside, seen_behind, without_all, procedure_names}

abbrev pub stretch : {T : Type 0} → Span → List T → List T
stretch s items = take s.len (drop s.from items)

-- ---- variables that are seen: list 0 is empty, and change k, from 0, makes list k + 1 of an earlier one

-- what is seen behind one end of this node
abbrev pub seen_at_edge : Edge → Addition → List Visible → List Visible
seen_at_edge First a seen = seen_inside a.kind a.constants seen
seen_at_edge Last a seen = seen_behind a.kind a.meaning seen seen

-- what a change makes of what is seen
abbrev pub changed : List Addition → Change → List Visible → List Visible
changed additions c seen = seen_at_edge c.edge (slice_index_or additions c.node no_addition) seen

-- these lists, and those that the changes make
abbrev pub lists_from : List Addition → List (List Visible) → List Change → List (List Visible)
lists_from additions lists [] = lists
lists_from additions lists (c ∷ cs) = lists_from additions (lists ++ changed additions c (slice_index_or lists c.before []) ∷ []) cs

-- the list with this number
abbrev pub list_at : List Addition → List Change → ℕ → List Visible
list_at additions changes number = slice_index_or (lists_from additions ([] ∷ []) changes) number []

-- each change, the first of which has the number k, is one of an earlier list
abbrev pub AllBefore : ℕ → List Change → Type 0
AllBefore k [] = Unit {0}
AllBefore k (c ∷ cs) = (c.before ≤ k) × AllBefore (k + 1) cs

-- the parameters or variables of each node can be counted
abbrev pub AllCounted : List Addition → Type 0
AllCounted additions = (n : ℕ) → length (names_in (kind_at additions n)) < 2 ^ 32

-- a procedure's root doesn't see what its inner procedures hide
abbrev pub seen_by : Kind → List (List ℕ) → List Visible → List Visible
seen_by (PlProcedure _ _) inner seen = without_all inner seen
seen_by _ inner seen = seen

-- ---- nodes

abbrev pub node_in : List ℕ → List Change → List Addition → Addition → Place → Node
node_in parts changes all a place = record {
  kind = a.kind;
  children = stretch place.parts parts;
  tags = tags_of a.kind place.meaning place.stands;
  meaning = place.meaning;
  root = place.root;
  level = place.level;
  slots = place.slots;
  sees = seen_by a.kind (procedure_names all (stretch place.parts parts)) (list_at all changes place.sees);
  source = a.section.source;
  start = a.section.start;
  len = a.section.len;
  line = a.line;
  column = a.column;
}

abbrev pub nodes_in : List ℕ → List Change → List Addition → List Addition → List Place → List Node
nodes_in parts changes all (a ∷ rest) (place ∷ places) = node_in parts changes all a place ∷ nodes_in parts changes all rest places
nodes_in parts changes all _ _ = []

abbrev pub items_in : List (List ℕ) → List (Option ℕ) → List Item
items_in (name ∷ names) (root ∷ roots) = record { name = name; root = root } ∷ items_in names roots
items_in _ _ = []

abbrev pub no_place : Place
no_place = record { parts = record { from = 0; len = 0 }; sees = 0; meaning = Nothing; stands = false; root = 0; level = 0; slots = 0 }

pub record IsWithin (parts : List ℕ) (changes : List Change) (place : Place) : Type 0 where
  pub parts_within : place.parts.from + place.parts.len ≤ length parts
  pub sees_within : place.sees ≤ length changes

-- the lists fit each other
pub record IsKept (parts : List ℕ) (changes : List Change) (additions : List Addition) (places : List Place) (names : List (List ℕ)) (roots : List (Option ℕ)) : Type 0 where
  pub nodes : length places ≡ length additions
  pub few : length additions < 2 ^ 32
  pub counted : AllCounted additions
  pub few_changes : length changes < 2 ^ 32
  pub before : AllBefore 0 changes
  pub items : length roots ≡ length names
  pub within : (n : ℕ) → n < length places → IsWithin parts changes (slice_index_or places n no_place)

-- the program that these lists keep
abbrev pub kept_program : List ℕ → List Change → List Addition → List Place → List (List ℕ) → List (Option ℕ) → List (Option ℕ) → List ℕ → Program
kept_program parts changes additions places names roots mains entries = record {
  nodes = nodes_in parts changes additions additions places;
  items = items_in names roots;
  mains = mains;
  entries = entries;
}

-- what a node has of its addition and of its place
pub record IsAdditionOf (node : Node) (a : Addition) : Type 0 where
  pub kind : a.kind ≡ node.kind
  pub source : a.section.source ≡ node.source
  pub start : a.section.start ≡ node.start
  pub len : a.section.len ≡ node.len
  pub line : a.line ≡ node.line
  pub column : a.column ≡ node.column

pub record IsPlaceOf (node : Node) (place : Place) : Type 0 where
  pub tags : tags_of node.kind place.meaning place.stands ≡ node.tags
  pub meaning : place.meaning ≡ node.meaning
  pub root : place.root ≡ node.root
  pub level : place.level ≡ node.level
  pub slots : place.slots ≡ node.slots
