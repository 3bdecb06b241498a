-- An act leaves the player fit.
use Rattle.pd_shared.specs.Sitting.{standing_of}
use Rattle.seat_threads.proofs.FitLemmas.{acted}
use Rattle.seat_threads.proofs.player.Player.act.Goals as goal

pub invariant_of-self : goal.invariant_of-self
invariant_of-self c = record { fit = acted _ _ _ _ (standing_of c.args.self.now.seat) (standing_of c.acted-reply.new.seat) c.args.self.now.fit c.acted-reply.ensures.keeps }
