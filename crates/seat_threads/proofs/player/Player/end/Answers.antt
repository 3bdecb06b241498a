-- An end leaves the player fit.
use Rattle.pd_shared.specs.Sitting.{standing_of}
use Rattle.seat_threads.proofs.FitLemmas.{ended}
use Rattle.seat_threads.proofs.player.Player.end.Goals as goal

pub invariant_of-self : goal.invariant_of-self
invariant_of-self c = record { fit = ended _ _ _ _ (standing_of c.args.self.now.seat) (standing_of c.ended.new.self) c.args.self.now.fit c.ended.ensures.ended c.ended.ensures.rest }
