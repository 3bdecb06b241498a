use Rattle.std.proofs.Common.{subst, sym, ap, ◌∙◌}
use Rattle.pd_sl_read.specs.Held.{counted_top, HasRoom}
use Rattle.pd_sl_read.proofs.Stacks.{room_counted}
use Rattle.pd_sl_read.proofs.reader.Reader.after_then.Goals as goal

pub inside-requires : goal.inside-requires
inside-requires c = record {
  room = subst (HasRoom 2) (sym (ap (λ h. h.stack) c.in_ok-count_statement.ensures ∙ ap (λ h. counted_top h.stack) c.in_ok-push.ensures)) (room_counted c.args.self.now.stack c.requires.room);
  few = c.requires.few;
}
