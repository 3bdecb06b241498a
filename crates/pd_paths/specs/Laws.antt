-- Definition: laws on call trees, as facts that a contract can promise.
use Rattle.std.specs.Prelude.{◌≡◌, true, List, [], filter, length}
use Rattle.pd_tree.specs.Program.{Program}
use Rattle.pd_machine.specs.Events.{Told}
use Rattle.pd_running.specs.Running.{is_root_node, marks_where, IsCovered}
use Rattle.pd_running.specs.Nested.{IsNested}
use Rattle.pd_paths.specs.declared.PathCount.{PathCount}
use Rattle.pd_paths.specs.Tree.{begins_root, IsCallTree}
use Rattle.pd_paths.specs.Tally.{amount, IsTally}

-- what is counted over the log of all events of functions and procedures of nested events is their call tree
abbrev pub TalliesAreTrees : Type 0
TalliesAreTrees = (p : Program) (events : List Told) (tree : List PathCount) → IsNested [] 0 events → IsTally (length events) (marks_where (is_root_node p) events) tree → IsCallTree p events tree

-- the numbers of all paths together are those of the events
pub record IsSummed (p : Program) (events : List Told) (tree : List PathCount) : Type 0 where
  pub count : amount (λ x. x.count) (λ q. true) tree ≡ length (filter (begins_root p) events)
  pub own : amount (λ x. x.own) (λ q. true) tree ≡ length events

-- and so they are where some function or procedure runs at each event
abbrev pub SumsAreWhole : Type 0
SumsAreWhole = (p : Program) (events : List Told) (tree : List PathCount) → IsNested [] 0 events → IsCovered p events → IsTally (length events) (marks_where (is_root_node p) events) tree → IsSummed p events tree
