use Rattle.pd_sl_parse.proofs.Naming.{declared}
use Rattle.pd_sl_parse.proofs.scope.Scope.declare.Goals as goal

pub returns : goal.returns
returns c = declared _ c.self.inside.variables c.insert.new.self c.self.inside.slots c.args.from c.args.until c.args.name c.args.self.now c.self.view_is c.in_ok-insert.ensures.updates
