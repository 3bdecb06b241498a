-- Definition, which public contracts cite.
-- Where a board stands: all that the clauses of its calls speak of.
use Rattle.std.specs.Prelude.{◌≡◌, ℕ, ◌==◌, Bool, true, false, List, [], length, slice_index_or, ◌-◌, ◌^◌, Option, None}
use Rattle.std.specs.List.{list_any}
use Rattle.pd_plan.specs.declared.table.MatchTable.{MatchTable}
use Rattle.pd_board.specs.declared.answers.Known.{Known}
use Rattle.pd_board.specs.declared.answers.Known.TheVariants as knowns
use Rattle.pd_board.specs.declared.answers.ActResult.{ActResult}
use Rattle.pd_board.specs.declared.answers.Sight.{Sight}
use Rattle.pd_board.specs.declared.answers.Passed.{Passed}
use Rattle.pd_board.specs.Answers.{has_disposal}

-- whether the node stands in the binding's row
abbrev pub in_row : MatchTable → ℕ → ℕ → Bool
in_row table b n = list_any (λ m. m == n) (slice_index_or table.rows b [])

-- all that the clauses of a board's calls speak of
pub record Standing : Type 0 where
  -- what no call changes: for each binding its row of nodes and whether it is always drawn; the numbers of nodes, of
  -- sessions and of contexts; and whether no other board ever stepped on its words
  pub table : MatchTable
  pub nodes : ℕ
  pub sessions : ℕ
  pub contexts : ℕ
  pub alone : Bool
  -- the answers of its `attach`, `dispose`, `enable` and `disable`, in order
  pub replies : List ActResult
  -- its sights in order, and for each the number of loads of nodes before it; its passes in order
  pub sights : List Sight
  pub sight_loads : List ℕ
  pub passes : List Passed
  -- what it knows of each binding
  pub known : ℕ → Known
  -- the answer numbers that it took for each session, in order
  pub numbers : ℕ → List ℕ
  -- how many numbers of bindings, answers of each session, and ends it may still take
  pub draw_share : ℕ
  pub answer_share : ℕ → ℕ
  pub end_share : ℕ
  -- whether it has counted its context as ended
  pub ended : Bool
  -- how often it loaded each node, and all together
  pub loads : ℕ → ℕ
  pub all_loads : ℕ
  -- how often it loaded each session's word and the word of ended contexts, and the last number that it read from it
  pub answer_loads : ℕ → ℕ
  pub last_answers : ℕ → ℕ
  pub end_loads : ℕ
  pub last_ends : ℕ
  -- how many bits it cleared
  pub cleared : ℕ
  -- for how many steps it has room
  pub spare : ℕ
  -- the node of the last load, which bindings that load held, and which of them it has still to draw, pass or sweep
  pub last_node : Option ℕ
  pub held : ℕ → Bool
  pub due : ℕ → Bool

-- the number of bindings
abbrev pub bindings : Standing → ℕ
bindings s = length s.table.rows

-- whether node n stands in the row of binding b
abbrev pub matches : Standing → ℕ → ℕ → Bool
matches s b n = in_row s.table b n

-- whether binding b is drawn each time that a load holds it; one with a condition may be passed instead
abbrev pub always_drawn : Standing → ℕ → Bool
always_drawn s b = slice_index_or s.table.always b false

-- no binding of the last load has still to be drawn, passed or swept
abbrev pub NothingDue : Standing → Type 0
NothingDue s = (b : ℕ) → s.due b ≡ false

-- a board that is alone knows a binding as disposed only where one of its own answers says that it disposed it
abbrev pub KnowsByItself : Standing → Type 0
KnowsByItself s = s.alone ≡ true → (b : ℕ) → s.known b ≡ knowns.Disposed → has_disposal b s.replies ≡ true

-- how many numbers of all bindings together can be drawn
abbrev pub most_draws : ℕ
most_draws = 2 ^ 60

-- how many answers of a session, and how many ends, there can be
abbrev pub most_counted : ℕ
most_counted = 2 ^ 32 - 1

-- where a board stands on which nothing was done and that no other board shares
pub record IsNew (table : MatchTable) (nodes sessions contexts : ℕ) (s : Standing) : Type 0 where
  pub table_is : s.table ≡ table
  pub nodes_is : s.nodes ≡ nodes
  pub sessions_is : s.sessions ≡ sessions
  pub contexts_is : s.contexts ≡ contexts
  pub alone : s.alone ≡ true
  pub replies : s.replies ≡ []
  pub sights : s.sights ≡ []
  pub sight_loads : s.sight_loads ≡ []
  pub passes : s.passes ≡ []
  pub known : (b : ℕ) → s.known b ≡ knowns.Fresh
  pub numbers : (t : ℕ) → s.numbers t ≡ []
  pub draw_share : s.draw_share ≡ most_draws
  pub answer_share : (t : ℕ) → s.answer_share t ≡ most_counted
  pub end_share : s.end_share ≡ most_counted
  pub ended : s.ended ≡ false
  pub loads : (n : ℕ) → s.loads n ≡ 0
  pub all_loads : s.all_loads ≡ 0
  pub answer_loads : (t : ℕ) → s.answer_loads t ≡ 0
  pub last_answers : (t : ℕ) → s.last_answers t ≡ 0
  pub end_loads : s.end_loads ≡ 0
  pub last_ends : s.last_ends ≡ 0
  pub cleared : s.cleared ≡ 0
  pub last_node : s.last_node ≡ None
  pub held : (b : ℕ) → s.held b ≡ false
  pub due : (b : ℕ) → s.due b ≡ false
