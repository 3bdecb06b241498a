-- The law is proved of the meaning.
use Rattle.pd_framing.proofs.Framed.{framed_run}
use Rattle.pd_framing.proofs.framing_law.Goals as goal

pub returns : goal.returns
returns c = record { framed = λ p v fuel entry rooted parts. framed_run p v fuel entry rooted parts }
