-- For the code's proofs: no public contract needs it.
-- A token that did nothing: nothing is kept.
use Rattle.std.specs.Prelude.{◌≡◌, ℕ, List, false, None}
use Rattle.pd_board.specs.Chain.{has}
use Rattle.pd_shared.specs.declared.token.Reads.{Reads}
use Rattle.pd_shared.specs.declared.token.Token.{Token}
use Rattle.pd_board.specs.Journal.{empty}
use Rattle.pd_shared.specs.Book.{unread}

-- its counts, its loads of nodes and its reads of sessions are these lists
pub record IsFirst (no_counts no_loads : List ℕ) (no_reads : List Reads) (t : Token) : Type 0 where
  pub journal : t.journal ≡ empty
  pub counts : t.counts.items ≡ no_counts
  pub loads : t.loads.items ≡ no_loads
  pub all_loads : t.all_loads ≡ 0
  pub last_node : t.last_node ≡ None
  pub held : (b : ℕ) → has t.held b ≡ false
  pub due : (b : ℕ) → has t.due b ≡ false
  pub cleared : t.cleared ≡ 0
  pub ended : t.ended ≡ false
  pub sessions : t.sessions.items ≡ no_reads
  pub ends : t.ends ≡ unread
