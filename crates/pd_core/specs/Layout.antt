-- Definition, which public contracts cite.
-- Which nodes each binding matches, and where the words lie.
use Rattle.std.specs.declared.vec.Vec.{Vec}
use Rattle.std.specs.declared.alloc.Global.{Global}
use Rattle.std.specs.Prelude.{◌≡◌, ℕ, ◌+◌, ◌*◌, ◌/◌, ◌<◌, ◌≤◌, List, [], map, length, slice_index, slice_index_or}

-- the number of nodes, for each binding the nodes that it matches, and the numbers of sessions and of contexts
pub record Layout : Type 0 where
  pub nodes : ℕ
  pub rows : List (List ℕ)
  pub sessions : ℕ
  pub contexts : ℕ

-- the number of bindings
abbrev pub bindings : Layout → ℕ
bindings p = length p.rows

-- the nodes that binding b matches, rising
abbrev pub row : Layout → ℕ → List ℕ
row p b = slice_index_or p.rows b []

-- the node is the k-th of the binding's row
abbrev pub IsAt : Layout → ℕ → ℕ → ℕ → Type 0
IsAt p b k n = (k < length (row p b)) × (slice_index (row p b) k ≡ n)

-- the node stands in the binding's row
abbrev pub Matches : Layout → ℕ → ℕ → Type 0
Matches p b n = (k : ℕ) × IsAt p b k n

-- each number is less than the next
abbrev pub Rising : List ℕ → Type 0
Rising ns = (i j : ℕ) → i < j → j < length ns → slice_index ns i < slice_index ns j

-- at most 4096 rows, each rising, of nodes that there are
abbrev pub IsSound : Layout → Type 0
IsSound p = (bindings p ≤ 4096) × ((b k : ℕ) → k < length (row p b) → slice_index (row p b) k < p.nodes) × ((b : ℕ) → Rising (row p b))

-- the layout of these vectors
abbrev pub layout_of : ℕ → List (Vec ℕ Global) → ℕ → ℕ → Layout
layout_of nodes rows sessions contexts = record { nodes = nodes; rows = map (λ v. v.items) rows; sessions = sessions; contexts = contexts }

-- how many row words a node has, 64 bindings in each
unfoldable pub width : Layout → ℕ
width p = (bindings p + 63) / 64

-- A node's summary word stands at its number, its row words after all summary words
unfoldable pub row_at : Layout → ℕ → ℕ → ℕ
row_at p n r = p.nodes + (n * width p + r)

-- how many words the nodes have
unfoldable pub front : Layout → ℕ
front p = p.nodes + p.nodes * width p

-- how many words there are
abbrev pub words_in : Layout → ℕ
words_in p = (front p + bindings p) + (p.sessions + 1)

-- after the words of nodes come those of bindings, then those of the sessions, and last the word of ended contexts
abbrev pub binding_at : Layout → ℕ → ℕ
binding_at p b = front p + b

-- the word of binding b
abbrev pub binding_word : Layout → List ℕ → ℕ → ℕ
binding_word p words b = slice_index words (binding_at p b)

-- the number of the word of session s
abbrev pub session_at : Layout → ℕ → ℕ
session_at p s = (front p + bindings p) + s

-- the number of the word of ended contexts, the last one
abbrev pub end_at : Layout → ℕ
end_at p = (front p + bindings p) + p.sessions

-- the word of session s, which is the number of its answers
abbrev pub session_word : Layout → List ℕ → ℕ → ℕ
session_word p words s = slice_index words (session_at p s)

-- the word of ended contexts, which is their number
abbrev pub end_word : Layout → List ℕ → ℕ
end_word p words = slice_index words (end_at p)
