-- A load leaves the player fit.
use Rattle.std.proofs.Common.{arith}
use Rattle.pd_shared.specs.Sitting.{standing_of}
use Rattle.seat_threads.proofs.FitLemmas.{loaded}
use Rattle.seat_threads.proofs.player.Player.load.Goals as goal

pub invariant_of-self : goal.invariant_of-self
invariant_of-self c =
    let done = c.chain-self.ensures in
    record { fit = loaded _ _ _ c.args.n _ c.chain-self.result (standing_of c.args.self.now.seat) (standing_of c.chain-self.new.self) c.args.self.now.fit (omega arith) done.held done.due done.last_node done.rest }
