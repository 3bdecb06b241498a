-- Definition, which contracts cite.
-- What a player may still take.
use Rattle.std.specs.Prelude.{◌≡◌, ℕ, ◌+◌, ◌*◌, ◌<◌, ◌≤◌, true, false, length, Some}
use Rattle.pd_plan.specs.declared.table.MatchTable.{MatchTable}
use Rattle.pd_board.specs.declared.chain.Chain.{Chain}
use Rattle.pd_board.specs.Chain.{has}
use Rattle.pd_board.specs.Standing.{Standing, bindings}
use Rattle.pd_core.specs.Layout.{Layout}
use Rattle.pd_core.specs.Views.{handed_share}
use Rattle.pd_core.specs.Talks.{answer_share, handed_answers}
use Rattle.pd_shared.specs.declared.token.Token.{Token}

-- the board has 96 bindings, 16 nodes and 2 sessions
pub record IsBoard (p : Layout) (table : MatchTable) : Type 0 where
  pub bindings_are : length table.rows ≡ 96
  pub nodes_are : p.nodes ≡ 16
  pub sessions_are : p.sessions ≡ 2

-- the token may take `left` numbers, and as many answers of each of two sessions, besides what `splits` seats are handed; and its seat may end
pub record MayTake (left splits : ℕ) (t : Token) : Type 0 where
  pub draws : left + splits * handed_share ≤ t.pass.view.draw_share
  pub answers : (s : ℕ) → s < 2 → left + splits * handed_answers ≤ answer_share s t.pass.view.talk
  pub ends : t.ended ≡ false → splits < t.pass.view.talk.end_granted

-- the same of a seat, on a board with 96 bindings, 16 nodes and 2 sessions; the bindings of `due` were held by the load of the node, which was the
-- last, and are still due
pub record IsFit (left splits node : ℕ) (due : Chain) (s : Standing) : Type 0 where
  pub bindings_are : bindings s ≡ 96
  pub nodes_are : s.nodes ≡ 16
  pub sessions_are : s.sessions ≡ 2
  pub draws : left + splits * handed_share ≤ s.draw_share
  pub answers : (t : ℕ) → t < 2 → left + splits * handed_answers ≤ s.answer_share t
  pub ends : s.ended ≡ false → splits < s.end_share
  pub node_is : node < 16
  pub is_held : (b : ℕ) → has due b ≡ true → s.held b ≡ true
  pub is_due : (b : ℕ) → has due b ≡ true → s.due b ≡ true
  pub is_last : (b : ℕ) → has due b ≡ true → s.last_node ≡ Some node

-- an act changes neither shares nor what is due
abbrev pub KeepsShares : Standing → Standing → Type 0
KeepsShares old new = new ≡ record old { replies = new.replies; known = new.known; spare = new.spare }
