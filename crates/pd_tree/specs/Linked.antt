-- Definition, which public contracts cite.
-- The linked program of a list of additions: the nodes with their numbers, parts, tags, roots and variables, and the items.
-- Additions come in the order of the nodes' numbers, each with the number of its parts, and a node's parts follow it from left to right.
use Rattle.std.specs.Prelude.{ℕ, zero, suc, ◌+◌, ◌-◌, ◌^◌, ◌<◌, ◌≤◌, max, Bool, true, false, if◌then◌else◌, nat_lt, ◌==◌, ◌||◌, IsTrue, List, [], ◌∷◌, ◌++◌, length, take, drop, slice_index_or, Option, None, Some, bytes_eq, codes}
use Rattle.pd_tree.specs.declared.kind.Kind.{Kind}
use Rattle.pd_tree.specs.declared.kind.Kind.TheVariants.{SlFunction, SlBlock, SlAssign, PlProcedure, PlEmpty}
use Rattle.pd_tree.specs.declared.kind.Visible.{Visible}
use Rattle.pd_tree.specs.declared.kind.Meaning.{Meaning}
use Rattle.pd_tree.specs.declared.kind.Meaning.TheVariants.{Local, Item as Means, Nothing}
use Rattle.pd_tree.specs.declared.addition.Addition.{Addition}
use Rattle.pd_tree.specs.Program.{Program, Node, Item}
use Rattle.pd_tree.specs.Kinds.{is_root, root_name_of, HasParts, holds_statements, tags_of}

-- what stands for an addition past the last one
abbrev pub no_addition : Addition
no_addition = record { kind = PlEmpty; section = record { source = 0; start = 0; len = 0 }; line = 0; column = 0; meaning = Nothing; children = 0; constants = [] }

-- the kind of node n
abbrev pub kind_at : List Addition → ℕ → Kind
kind_at all n = (slice_index_or all n no_addition).kind

-- ---- parts

-- the nodes that are part of no other node, of those from number n on
abbrev pub tops : ℕ → List Addition → List ℕ
tops n [] = []
tops n (a ∷ rest) = n ∷ drop a.children (tops (n + 1) rest)

-- the parts of node n, which is `a` and which `rest` follow
abbrev pub parts_of : ℕ → Addition → List Addition → List ℕ
parts_of n a rest = take a.children (tops (n + 1) rest)

-- how many slots a variable's slot is the last of
abbrev pub slots_up_to : Meaning → ℕ
slots_up_to (Local up slot) = slot + 1
slots_up_to _ = 0

-- the parameters or variables of a kind
abbrev pub names_in : Kind → List (List ℕ)
names_in (SlFunction _ parameters) = parameters
names_in (PlProcedure _ variables) = variables
names_in _ = []

-- every announced part was added, each node has the number of parts that its grammar asks for, and its variables can be counted
abbrev pub AllComplete : List Addition → Type 0
AllComplete [] = Unit {0}
AllComplete (a ∷ rest) =
    (a.children ≤ length (tops 0 rest)) × HasParts a.kind a.children × (length (names_in a.kind) < 2 ^ 32) × (slots_up_to a.meaning < 2 ^ 32) × AllComplete rest

-- a node that is part of no other is a function or a procedure
abbrev pub AllRoots : List Addition → List ℕ → Type 0
AllRoots all [] = Unit {0}
AllRoots all (m ∷ ms) = IsTrue (is_root (kind_at all m)) × AllRoots all ms

-- a source's nodes, whole
pub record IsWhole (all : List Addition) : Type 0 where
  pub complete : AllComplete all
  pub roots : AllRoots all (tops 0 all)

-- ---- how many variables a function or a procedure has: the slots are 0 and up

-- how many slots are used from a node on, where `later` are used after it
abbrev pub more_slots : Kind → Meaning → ℕ → ℕ
more_slots (SlFunction _ _) meaning later = 0
more_slots (SlAssign _) meaning later = max (slots_up_to meaning) later
more_slots _ meaning later = later

-- the slots that assignments use, up to the next function
abbrev pub assigned_slots : List Addition → ℕ
assigned_slots [] = 0
assigned_slots (a ∷ rest) = more_slots a.kind a.meaning (assigned_slots rest)

-- ---- variables that are seen

-- whether one of the variables has this name
abbrev pub sees_name : List ℕ → List Visible → Bool
sees_name x [] = false
sees_name x (v ∷ vs) = bytes_eq v.name x || sees_name x vs

-- the parameters of a function in order; one that is named twice is one variable
abbrev pub with_parameters : List Visible → List (List ℕ) → List Visible
with_parameters seen [] = seen
with_parameters seen (x ∷ xs) = with_parameters (if sees_name x seen then seen else seen ++ (record { name = x; up = 0; slot = length seen }) ∷ []) xs

-- a variable among others in the order of slots, once
abbrev pub inserted : Visible → List Visible → List Visible
inserted v [] = v ∷ []
inserted v (x ∷ xs) = if nat_lt x.slot v.slot then x ∷ inserted v xs else (if x.slot == v.slot then x ∷ xs else v ∷ x ∷ xs)

-- what is seen after an assignment to this name
abbrev pub with_assigned : List ℕ → Meaning → List Visible → List Visible
with_assigned name (Local up slot) seen = inserted (record { name = name; up = 0; slot = slot }) seen
with_assigned name _ seen = seen

-- without the variables of a name, which an inner declaration hides
abbrev pub without : List ℕ → List Visible → List Visible
without x [] = []
without x (v ∷ vs) = if bytes_eq v.name x then without x vs else v ∷ without x vs

-- without the variables of these names
abbrev pub without_all : List (List ℕ) → List Visible → List Visible
without_all [] seen = seen
without_all (x ∷ xs) seen = without_all xs (without x seen)

-- the variables of a block in order of declaration
abbrev pub declared : ℕ → List (List ℕ) → List Visible
declared slot [] = []
declared slot (x ∷ xs) = record { name = x; up = 0; slot = slot } ∷ declared (slot + 1) xs

-- variables seen from a block further in
abbrev pub from_inside : List Visible → List Visible
from_inside [] = []
from_inside (v ∷ vs) = record { name = v.name; up = v.up + 1; slot = v.slot } ∷ from_inside vs

-- what is seen after a node's first byte: a function sees its parameters; a procedure its own variables, and then those
-- around it that its name, its variables and its constants don't hide
abbrev pub seen_inside : Kind → List (List ℕ) → List Visible → List Visible
seen_inside (SlFunction _ parameters) constants seen = with_parameters [] parameters
seen_inside (PlProcedure name variables) constants seen =
    declared 0 variables ++ from_inside (without_all constants (without_all variables (without name seen)))
seen_inside _ constants seen = seen

-- what is seen after a node's last byte, where `outside` was seen at its first: the variables of a block end with it,
-- an assignment's variable begins, and a procedure's name hides a variable from then on
abbrev pub seen_behind : Kind → Meaning → List Visible → List Visible → List Visible
seen_behind (SlFunction _ _) meaning outside seen = outside
seen_behind SlBlock meaning outside seen = outside
seen_behind (SlAssign name) meaning outside seen = with_assigned name meaning seen
seen_behind (PlProcedure name _) meaning outside seen = without name outside
seen_behind _ meaning outside seen = seen

-- the names of the inner procedures among a procedure's parts
abbrev pub procedure_names : List Addition → List ℕ → List (List ℕ)
procedure_names all [] = []
procedure_names all (m ∷ ms) = elim (kind_at all m) [
  | PlProcedure name variables ↦ name ∷ procedure_names all ms
  | _ ↦ procedure_names all ms
]

-- what a node sees: a function's root its parameters, a procedure's root what its body sees, after its inner procedures
abbrev pub seen_at : Kind → List (List ℕ) → List (List ℕ) → List Visible → List Visible
seen_at (SlFunction name parameters) constants inner seen = seen_inside (SlFunction name parameters) constants seen
seen_at (PlProcedure name variables) constants inner seen = without_all inner (seen_inside (PlProcedure name variables) constants seen)
seen_at _ constants inner seen = seen

-- ---- the walk over the nodes in the order of their numbers

-- a node of which parts may still come
pub record Open : Type 0 where
  pub node : ℕ
  -- how many parts are still to come, and whether none came yet
  pub left : ℕ
  pub first : Bool
  -- where its parts stand: in which function or procedure, and how many procedures are around that one
  pub root : ℕ
  pub level : ℕ
  -- what was seen at its first byte
  pub outside : List Visible

-- the open nodes from the innermost outward, and what is seen
pub record Walk : Type 0 where
  pub open_nodes : List Open
  pub seen : List Visible

-- nodes to which no part comes any more end
abbrev pub closed : List Addition → List Open → List Visible → Walk
closed all [] seen = record { open_nodes = []; seen = seen }
closed all (x ∷ xs) seen = elim x.left [
  | zero ↦ closed all xs (seen_behind (kind_at all x.node) (slice_index_or all x.node no_addition).meaning x.outside seen)
  | suc _ ↦ record { open_nodes = x ∷ xs; seen = seen }
]

-- one part less is to come to the innermost open node
abbrev pub part_came : List Open → List Open
part_came [] = []
part_came (x ∷ xs) = record x { left = x.left - 1; first = false } ∷ xs

-- whether the next node stands as a statement or a condition
abbrev pub next_stands : List Addition → List Open → Bool
next_stands all [] = false
next_stands all (x ∷ xs) = holds_statements (kind_at all x.node) x.first

-- the function or procedure in which the next node stands; a function or procedure stands in itself
abbrev pub next_root : Kind → ℕ → List Open → ℕ
next_root kind n [] = n
next_root kind n (x ∷ xs) = if is_root kind then n else x.root

-- how many procedures stand around that one
abbrev pub next_level : Kind → List Open → ℕ
next_level kind [] = 0
next_level kind (x ∷ xs) = if is_root kind then x.level + 1 else x.level

-- the walk after the first byte of node n, and after the node where it has no parts
abbrev pub walked : List Addition → ℕ → Walk → Addition → Walk
walked all n w a =
    closed all
    (record { node = n; left = a.children; first = true; root = next_root a.kind n w.open_nodes; level = next_level a.kind w.open_nodes; outside = w.seen } ∷ part_came w.open_nodes)
    (seen_inside a.kind a.constants w.seen)

-- ---- nodes

-- what a name means: a variable, or the item that was found for the node
abbrev pub linked : Meaning → Option ℕ → Meaning
linked meaning None = meaning
linked meaning (Some i) = Means i

-- how many variables a function or procedure has; 0 for any other node
abbrev pub slots_of : Kind → List Addition → ℕ
slots_of (SlFunction _ parameters) rest = max (length (with_parameters [] parameters)) (assigned_slots rest)
slots_of (PlProcedure _ variables) rest = length variables
slots_of _ rest = 0

-- the linked node of an addition, where the walk has come to it
abbrev pub node_of : List Addition → List (Option ℕ) → ℕ → Walk → Addition → List Addition → Node
node_of all found n w a rest = let meaning = linked a.meaning (slice_index_or found n None) in record {
  kind = a.kind;
  children = parts_of n a rest;
  tags = tags_of a.kind meaning (next_stands all w.open_nodes);
  meaning = meaning;
  root = next_root a.kind n w.open_nodes;
  level = next_level a.kind w.open_nodes;
  slots = slots_of a.kind rest;
  sees = seen_at a.kind a.constants (procedure_names all (parts_of n a rest)) w.seen;
  source = a.section.source;
  start = a.section.start;
  len = a.section.len;
  line = a.line;
  column = a.column;
}

-- the nodes from number n on
abbrev pub nodes_from : List Addition → List (Option ℕ) → ℕ → Walk → List Addition → List Node
nodes_from all found n w [] = []
nodes_from all found n w (a ∷ rest) = node_of all found n w a rest ∷ nodes_from all found (n + 1) (walked all n w a) rest

-- the linked nodes of these additions, in their order
abbrev pub nodes_of : List Addition → List (Option ℕ) → List Node
nodes_of all found = nodes_from all found 0 (record { open_nodes = []; seen = [] }) all

-- ---- items: `println`, and then all functions, procedures and main blocks in the order of their nodes

-- the items of these nodes, of which the first has the number n
abbrev pub items_from : ℕ → List Addition → List Item
items_from n [] = []
items_from n (a ∷ rest) =
    if is_root a.kind then record { name = root_name_of a.kind; root = Some n } ∷ items_from (n + 1) rest else items_from (n + 1) rest

-- the items of a program: `println`, and then each function, procedure and main block, in the order of the nodes
abbrev pub items_of : List Addition → List Item
items_of all = record { name = codes "println"; root = None } ∷ items_from 0 all

-- the main block of a PL/0 source is its first node
abbrev pub main_of : ℕ → List Addition → Option ℕ
main_of n [] = None
main_of n (a ∷ rest) = elim a.kind [ PlProcedure name variables ↦ Some n | _ ↦ None ]

-- the root of the main block of each source, where it has one; the first node of the first source has the number n
abbrev pub mains_from : ℕ → List (List Addition) → List (Option ℕ)
mains_from n [] = []
mains_from n (t ∷ ts) = main_of n t ∷ mains_from (n + length t) ts

-- the nodes of all sources, one source after another
abbrev pub joined : List (List Addition) → List Addition
joined [] = []
joined (t ∷ ts) = t ++ joined ts

-- the linked program of these sources, where an item was found for some nodes, and with these entries of the contexts
abbrev pub program_of : List (List Addition) → List (Option ℕ) → List ℕ → Program
program_of trees found entries = record {
  nodes = nodes_of (joined trees) found;
  items = items_of (joined trees);
  mains = mains_from 0 trees;
  entries = entries;
}
