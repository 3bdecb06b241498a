-- Definition, which public contracts cite.
-- What is true of every linked program.
use Rattle.std.specs.Prelude.{◌≡◌, ℕ, ◌<◌, ◌≤◌, IsTrue, List, [], ◌∷◌, length, slice_index_or, Option, None, Some}
use Rattle.pd_tree.specs.declared.kind.Meaning.{Meaning}
use Rattle.pd_tree.specs.declared.kind.Meaning.TheVariants.{Local, Item as Means, Nothing}
use Rattle.pd_tree.specs.Program.{Program, node_at, item_at}
use Rattle.pd_tree.specs.Kinds.{is_root, HasParts}

-- numbers of nodes that stand after node n
abbrev pub AllBehind : ℕ → ℕ → List ℕ → Type 0
AllBehind n nodes [] = Unit {0}
AllBehind n nodes (m ∷ ms) = (n < m) × (m < nodes) × AllBehind n nodes ms

-- a name that means an item means one that there is
abbrev pub MeansAnItem : ℕ → Meaning → Type 0
MeansAnItem items (Means i) = i < items
MeansAnItem items (Local up slot) = Unit {0}
MeansAnItem items Nothing = Unit {0}

-- what is true of node n of a linked program
pub record IsLinked (p : Program) (n : ℕ) : Type 0 where
  -- a part stands after the node
  pub parts : AllBehind n (length p.nodes) (node_at p n).children
  pub arity : HasParts (node_at p n).kind (length (node_at p n).children)
  -- its root is a function or a procedure, at or before it
  pub root : (node_at p n).root ≤ n
  pub root_kind : IsTrue (is_root (node_at p (node_at p n).root).kind)
  pub item : MeansAnItem (length p.items) (node_at p n).meaning

-- the root of an item is a function or a procedure
abbrev pub IsRootOf : Program → Option ℕ → Type 0
IsRootOf p None = Unit {0}
IsRootOf p (Some n) = (n < length p.nodes) × IsTrue (is_root (node_at p n).kind)

-- what is true of every linked program: its nodes are linked, and its items, main blocks and entries are there
pub record IsWellFormed (p : Program) : Type 0 where
  pub nodes : (n : ℕ) → n < length p.nodes → IsLinked p n
  pub items : (i : ℕ) → i < length p.items → IsRootOf p (item_at p i).root
  pub mains : (s : ℕ) → s < length p.mains → IsRootOf p (slice_index_or p.mains s None)
  pub entries : (c : ℕ) → c < length p.entries → slice_index_or p.entries c 0 < length p.items
  -- item 0 is `println`
  pub builtin : (item_at p 0).root ≡ None
