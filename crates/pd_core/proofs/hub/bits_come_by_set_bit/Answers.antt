use Rattle.pd_core.proofs.Laws.{bits_come, clear_leaves}
use Rattle.pd_core.proofs.hub.bits_come_by_set_bit.Goals as goal

pub returns-clause-come : goal.returns-clause-come
returns-clause-come c = bits_come

pub returns-clause-cleared : goal.returns-clause-cleared
returns-clause-cleared c = clear_leaves
