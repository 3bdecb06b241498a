-- The rows make a sound layout.
use Rattle.seat_threads.proofs.RowLemmas.{rows_sound}
use Rattle.seat_threads.proofs.round.play_round.Goals as goal

pub new-requires : goal.new-requires
new-requires g c = rows_sound _ c.in_ok-table.ensures.length c.in_ok-table.ensures.rows
