use Rattle.std.proofs.Common.{sym, ap}
use Rattle.pd_sl_read.proofs.Stacks.{room_popped}
use Rattle.pd_sl_read.proofs.reader.Reader.close_block.Goals as goal

pub finish_block-requires-clause-room : goal.finish_block-requires-clause-room
finish_block-requires-clause-room c =
    room_popped 2 c.in-Some-Block.field-0 c.self.inside.stack.items c.pop.new.self.items c.args.self.now.stack
    c.in-Some-Block.ensures.items (sym (ap (λ h. h.stack) c.self.view_is)) c.requires.room
