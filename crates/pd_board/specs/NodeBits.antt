-- `stands` is a definition, which a board's contracts cite; the rest is for proofs.
-- The bits that nodes have.
use Rattle.std.specs.Prelude.{◌≡◌, ℕ, ◌+◌, ◌*◌, ◌/◌, ◌%◌, ◌==◌, ◌&&◌, nat_lt, Bool, List, slice_index}
use Rattle.std.specs.Int.{bit_at}
use Rattle.pd_board.specs.declared.bits.NodeBits.{NodeBits}

-- whether the binding's bit is set at the node, in words of which each node has so many
abbrev pub stands_in : ℕ → List ℕ → ℕ → ℕ → Bool
stands_in width words n b = nat_lt (b / 64) width && bit_at (slice_index words (n * width + b / 64)) (b % 64) == 1

-- whether the bit of binding b at node n is set
unfoldable pub stands : NodeBits → ℕ → ℕ → Bool
stands t n b = stands_in t.width t.words.items n b

-- both are for the same nodes and bindings
pub record IsAlike (t u : NodeBits) : Type 0 where
  pub nodes : u.nodes ≡ t.nodes
  pub bindings : u.bindings ≡ t.bindings
