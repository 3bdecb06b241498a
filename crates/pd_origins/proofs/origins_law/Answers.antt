-- The laws are proved of the definitions.
use Rattle.pd_origins.proofs.Read.{ledgers_tell}
use Rattle.pd_origins.proofs.Shown.{writes_shown}
use Rattle.pd_origins.proofs.origins_law.Goals as goal

pub returns-clause-ledgers : goal.returns-clause-ledgers
returns-clause-ledgers c p events nested framed e t at = ledgers_tell p events nested framed e t at

pub returns-clause-shown : goal.returns-clause-shown
returns-clause-shown c p v fuel entry rooted parts told nested e t at quiet i up slot w o a va = writes_shown p v fuel entry rooted parts told nested e t at quiet i up slot w o a va
