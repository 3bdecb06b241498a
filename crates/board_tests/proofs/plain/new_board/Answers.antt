use Rattle.board_tests.proofs.Examples.{one_row_within}
use Rattle.board_tests.proofs.plain.new_board.Goals as goal

pub new-requires-clause-within : goal.new-requires-clause-within
new-requires-clause-within c = one_row_within c.in_ok-table.table.rows c.in_ok-table.ensures.rows
