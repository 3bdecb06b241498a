use Rattle.pd_sl_parse.proofs.Naming.{again}
use Rattle.pd_sl_parse.proofs.scope.Scope.assign_again.Goals as goal

pub returns-in_ok-insert : goal.returns-in_ok-insert
returns-in_ok-insert c = again _ c.self.inside.variables c.insert.new.self c.self.inside.slots c.args.name c.args.variable c.args.part c.args.self.now c.self.view_is c.if-part-variable.true c.in_ok-insert.ensures.updates
