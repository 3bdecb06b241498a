-- The lists of the sessions before the index were attached.
use Rattle.std.proofs.Common.{◌≡◌, map, take}
use Rattle.pd_session.specs.Attaching.{attached_to}
use Rattle.pd_shared.specs.Sitting.{standing_of, base_of}
use Rattle.pd_host.proofs.AttachingLaws.{AreBehind}
use Rattle.pd_host.proofs.board.attach_all.Given as goal

abbrev pub invariant-loop-script : goal.invariant-loop-script
invariant-loop-script l = record {
  attached : AreBehind (take l.script-index l.script-items) (map (λ v. v.items) l.answers.items) (standing_of l.fn.seat) (standing_of l.seat);
  rest : standing_of l.seat ≡ attached_to (standing_of l.seat) (standing_of l.fn.seat);
  base : base_of l.seat ≡ base_of l.fn.seat;
}
