-- Definition: `AllUnlinked`, `AllFound` and `AllBelow`; the rest is for proofs.
-- The words of linking: what the walk over the nodes keeps, seen as the walk of the definition.
use Rattle.std.specs.Prelude.{◌≡◌, ℕ, ◌+◌, ◌<◌, ◌≤◌, List, [], ◌∷◌, ◌++◌, length, map, reverse, Option, None, Some}
use Rattle.pd_tree.specs.declared.kind.Meaning.{Meaning}
use Rattle.pd_tree.specs.declared.kind.Meaning.TheVariants.{Local, Item as Means, Nothing}
use Rattle.pd_tree.specs.declared.addition.Addition.{Addition}
use Rattle.pd_tree.specs.declared.change.Change.{Change}
use Rattle.pd_tree.specs.declared.place.Span.{Span}
use Rattle.pd_link.specs.declared.shape.Shape.{Shape}
use Rattle.pd_link.specs.declared.walk.Opened.{Opened}
use Rattle.pd_tree.specs.Linked.{Open, Walk, IsWhole, parts_of, assigned_slots, linked}
use Rattle.pd_tree.specs.WellFormed.{MeansAnItem}
use Rattle.pd_tree.specs.Kept.{stretch, list_at}

-- ---- parts and slots

-- a node's parts, and how many slots the assignments after it use
pub record Late : Type 0 where
  pub parts : List ℕ
  pub assigned : ℕ

-- these of each node, of which the first has the number n
abbrev pub late_from : ℕ → List Addition → List Late
late_from n [] = []
late_from n (a ∷ rest) = record { parts = parts_of n a rest; assigned = assigned_slots rest } ∷ late_from (n + 1) rest

-- these of a node whose shape is kept
abbrev pub late_in : List ℕ → Shape → Late
late_in parts shape = record { parts = stretch shape.parts parts; assigned = shape.assigned }

-- the stretch lies within the list
abbrev pub IsIn : {T : Type 0} → List T → Span → Type 0
IsIn items s = s.from + s.len ≤ length items

-- the parts of each shape lie within the list
abbrev pub AllShapesIn : List ℕ → List Shape → Type 0
AllShapesIn parts [] = Unit {0}
AllShapesIn parts (x ∷ xs) = IsIn parts x.parts × AllShapesIn parts xs

-- the shapes of the nodes from number n on, kept from the last to the first
pub record ShapesFrom (n : ℕ) (rest : List Addition) (parts : List ℕ) (shapes : List Shape) : Type 0 where
  pub late : reverse (map (late_in parts) shapes) ≡ late_from n rest
  pub within : AllShapesIn parts shapes

-- ---- the walk

-- an open node, with the variables that are seen around it
abbrev pub open_in : List Addition → List Change → Opened → Open
open_in all changes x = record { node = x.node; left = x.left; first = x.first; root = x.root; level = x.level; outside = list_at all changes x.outside }

-- open nodes are kept from the outermost inward
abbrev pub opens_in : List Addition → List Change → List Opened → List Open
opens_in all changes opened = reverse (map (open_in all changes) opened)

-- the walk that is kept with these open nodes and this list of seen variables
abbrev pub walk_in : List Addition → List Change → List Opened → ℕ → Walk
walk_in all changes opened seen = record { open_nodes = opens_in all changes opened; seen = list_at all changes seen }

-- the changes lead to the list around each open node
abbrev pub AllOpenedIn : List Change → List Opened → Type 0
AllOpenedIn changes [] = Unit {0}
AllOpenedIn changes (x ∷ xs) = (x.outside ≤ length changes) × AllOpenedIn changes xs

-- the list only grew at its end
abbrev pub Grew : {T : Type 0} → List T → List T → Type 0
Grew {T} old new = (more : List T) × (new ≡ old ++ more)

-- ---- what linking is given

-- the nodes of each source are whole
abbrev pub AllWhole : List (List Addition) → Type 0
AllWhole [] = Unit {0}
AllWhole (t ∷ ts) = IsWhole t × AllWhole ts

-- each name means an item that there is, or a variable, or nothing, with what was found for its node
abbrev pub AllMean : ℕ → List Addition → List (Option ℕ) → Type 0
AllMean items (a ∷ rest) (i ∷ found) = MeansAnItem items (linked a.meaning i) × AllMean items rest found
AllMean items _ _ = Unit {0}

-- what was found are items that there are
abbrev pub AllFound : ℕ → List (Option ℕ) → Type 0
AllFound items [] = Unit {0}
AllFound items (None ∷ found) = AllFound items found
AllFound items (Some i ∷ found) = (i < items) × AllFound items found

-- before linking no name means an item
abbrev pub IsUnlinked : Meaning → Type 0
IsUnlinked (Means i) = ⊥
IsUnlinked (Local up slot) = Unit {0}
IsUnlinked Nothing = Unit {0}

-- no node's name means an item so far
abbrev pub AllUnlinked : List Addition → Type 0
AllUnlinked [] = Unit {0}
AllUnlinked (a ∷ rest) = IsUnlinked a.meaning × AllUnlinked rest

-- each of the numbers is that of an item
abbrev pub AllBelow : ℕ → List ℕ → Type 0
AllBelow items [] = Unit {0}
AllBelow items (i ∷ is) = (i < items) × AllBelow items is
