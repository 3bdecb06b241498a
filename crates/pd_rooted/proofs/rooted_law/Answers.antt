-- The law is proved of loading.
use Rattle.pd_rooted.proofs.Rooted.{loaded_rooted}
use Rattle.pd_rooted.proofs.rooted_law.Goals as goal

pub returns : goal.returns
returns c plan sources p loaded = loaded_rooted plan sources p loaded
