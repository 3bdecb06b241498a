use Rattle.pd_sl_read.proofs.Stacks.{room_behind}
use Rattle.pd_sl_read.proofs.reader.Reader.end.Goals as goal

pub end_statement-requires : goal.end_statement-requires
end_statement-requires c = record { room = room_behind 2 _ _ _ _ _ c.in_ok-end_assignments.ensures.rest c.requires.room }

pub close-requires-clause-room : goal.close-requires-clause-room
close-requires-clause-room c = room_behind 2 _ _ _ _ _ c.in_ok-end_assignments.ensures.rest c.requires.room

pub separate-requires-clause-room : goal.separate-requires-clause-room
separate-requires-clause-room c = room_behind 2 _ _ _ _ _ c.in_ok-end_assignments.ensures.rest c.requires.room
