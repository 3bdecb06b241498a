-- Twin of the code, for its proofs: no public contract needs it.
-- What a walk over the nodes keeps: the variables that are seen, and the nodes of which parts may still come.
use Rattle.std.specs.Prelude.{◌≡◌, ℕ, ◌+◌, ◌≤◌, ◌<◌, max, Bool, if◌then◌else◌, List, [], ◌∷◌, ◌++◌, length, take, drop, slice_index_or, Option}
use Rattle.pd_tree.specs.declared.kind.Kind.{Kind}
use Rattle.pd_tree.specs.declared.kind.Kind.TheVariants.{SlFunction, PlProcedure}
use Rattle.pd_tree.specs.declared.kind.Meaning.{Meaning}
use Rattle.pd_tree.specs.declared.kind.Visible.{Visible}
use Rattle.pd_tree.specs.declared.addition.Addition.{Addition}
use Rattle.pd_tree.specs.declared.change.Change.{Change}
use Rattle.pd_tree.specs.declared.place.Place.{Place}
use Rattle.pd_link.specs.declared.shape.Shape.{Shape}
use Rattle.pd_link.specs.declared.walk.Opened.{Opened}
use Rattle.pd_link.specs.declared.walk.Walker.{Walker}
use Rattle.pd_tree.specs.Program.{Node}
use Rattle.pd_tree.specs.Kinds.{tags_of, is_root}
use Rattle.pd_tree.specs.Linked.{Open, Walk, no_addition, with_parameters, seen_at, procedure_names, next_stands, next_root, next_level, linked, walked, nodes_from, nodes_of}
use Rattle.pd_tree.specs.Kept.{stretch, list_at, node_in, nodes_in, AllBefore, IsWithin}
use Rattle.pd_link.specs.Linking.{Grew, AllOpenedIn, ShapesFrom, walk_in}

-- ---- variables that are seen

-- after changes were added, at most one, the list with this number has this content
pub record Sees (all : List Addition) (old new : List Change) (number : ℕ) (content : List Visible) : Type 0 where
  pub grew : Grew old new
  pub before : AllBefore 0 old → AllBefore 0 new
  pub one : length new ≤ length old + 1
  pub within : number ≤ length new
  pub seen : list_at all new number ≡ content

-- the constants of node n
abbrev pub constants_at : List Addition → ℕ → List (List ℕ)
constants_at all n = (slice_index_or all n no_addition).constants

-- what the name of node n means, as it was added
abbrev pub meaning_at : List Addition → ℕ → Meaning
meaning_at all n = (slice_index_or all n no_addition).meaning

-- the number of the list that a node sees, by those of the lists that are seen at its first byte and after it
abbrev pub number_at : Kind → ℕ → ℕ → ℕ
number_at kind outside inside = if is_root kind then inside else outside

-- ---- the slots of a node, by how many slots the assignments after it use

-- how many variables a function or procedure has, where the assignments inside use so many slots
abbrev pub slots_by : Kind → ℕ → ℕ
slots_by (SlFunction _ parameters) assigned = max (length (with_parameters [] parameters)) assigned
slots_by (PlProcedure _ variables) assigned = length variables
slots_by _ assigned = 0

-- a node with this place
abbrev pub node_with : Addition → List ℕ → Meaning → Bool → ℕ → ℕ → ℕ → List Visible → Node
node_with a children meaning stands root level slots sees = record {
  kind = a.kind;
  children = children;
  tags = tags_of a.kind meaning stands;
  meaning = meaning;
  root = root;
  level = level;
  slots = slots;
  sees = sees;
  source = a.section.source;
  start = a.section.start;
  len = a.section.len;
  line = a.line;
  column = a.column;
}

-- a node, by its parts and by the slots after it
abbrev pub node_by : List Addition → ℕ → Option ℕ → Walk → Addition → List ℕ → ℕ → Node
node_by all n found w a parts assigned = node_with a parts
    (linked a.meaning found)
    (next_stands all w.open_nodes)
    (next_root a.kind n w.open_nodes)
    (next_level a.kind w.open_nodes)
    (slots_by a.kind assigned)
    (seen_at a.kind a.constants (procedure_names all parts) w.seen)

-- ---- what a walk over so many nodes keeps

-- an open node has a number and a level that fit node k
pub record IsOpenAt (k : ℕ) (o : Open) : Type 0 where
  pub node : o.node < k
  pub level : o.level ≤ k

-- so has each open node
abbrev pub AllOpenAt : ℕ → List Open → Type 0
AllOpenAt k [] = Unit {0}
AllOpenAt k (o ∷ os) = IsOpenAt k o × AllOpenAt k os

-- the open nodes and what is seen, after changes were added, are this walk; there are at most so many changes and open nodes
pub record Walks (all : List Addition) (old new : List Change) (room : ℕ) (opened : List Opened) (seen : ℕ) (walk : Walk) : Type 0 where
  pub grew : Grew old new
  pub before : AllBefore 0 old → AllBefore 0 new
  pub few : length new + length opened ≤ room
  pub opened_within : AllOpenedIn new opened
  pub seen_within : seen ≤ length new
  pub walked : walk_in all new opened seen ≡ walk

-- the walk that a walker keeps
abbrev pub walk_of : List Addition → Walker → Walk
walk_of all w = walk_in all w.changes.items w.opened.items w.seen

-- the walk over the first n nodes
pub record IsKeptTo (all : List Addition) (n : ℕ) (w : Walker) : Type 0 where
  pub opened_within : AllOpenedIn w.changes.items w.opened.items
  pub seen_within : w.seen ≤ length w.changes.items
  pub before : AllBefore 0 w.changes.items
  pub few : length w.changes.items + length w.opened.items ≤ n + n
  pub open_nodes : AllOpenAt n (walk_of all w).open_nodes

-- the walk went over node n, whose place is this
pub record Steps (all : List Addition) (n : ℕ) (found : Option ℕ) (parts : List ℕ) (shape : Shape) (old new : Walker) (place : Place) : Type 0 where
  pub grew : Grew old.changes.items new.changes.items
  pub kept : IsKeptTo all (n + 1) new
  pub next : walk_of all new ≡ walked all n (walk_of all old) (slice_index_or all n no_addition)
  pub node : node_in parts new.changes.items all (slice_index_or all n no_addition) place
      ≡ node_by all n found (walk_of all old) (slice_index_or all n no_addition) (stretch shape.parts parts) shape.assigned
  pub within : IsWithin parts new.changes.items place

-- the parts of each place lie within the list of parts, and the changes lead to the list that it sees
abbrev pub AllPlacesIn : List ℕ → List Change → List Place → Type 0
AllPlacesIn parts changes [] = Unit {0}
AllPlacesIn parts changes (p ∷ ps) = IsWithin parts changes p × AllPlacesIn parts changes ps

-- the first n nodes have their places, and the walk and the shapes are those with which the others begin
pub record IsPlacedTo (n : ℕ) (all : List Addition) (found : List (Option ℕ)) (parts : List ℕ) (shapes : List Shape) (walker : Walker) (places : List Place) : Type 0 where
  pub within : n ≤ length all
  pub count : length places ≡ n
  pub shapes_are : ShapesFrom n (drop n all) parts shapes
  pub kept : IsKeptTo all n walker
  pub places_in : AllPlacesIn parts walker.changes.items places
  pub nodes : nodes_in parts walker.changes.items all (take n all) places ++ nodes_from all found n (walk_of all walker) (drop n all) ≡ nodes_of all found
