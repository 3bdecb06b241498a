-- Which bindings match a node, by the bits of its words.
use Rattle.std.specs.Prelude.{◌≡◌, ℕ, Bool}
use Rattle.pd_board.specs.NodeBits.{stands_in}
use Rattle.pd_shared.specs.declared.matching.Matching.{Matching}

-- whether the binding's bit is set at the node
unfoldable pub stands : Matching → ℕ → ℕ → Bool
stands m n b = stands_in m.width m.words.items n b

-- both are for the same nodes and bindings, in as many words
pub record IsAlike (m k : Matching) : Type 0 where
  pub nodes : k.nodes ≡ m.nodes
  pub bindings : k.bindings ≡ m.bindings
  pub width : k.width ≡ m.width
