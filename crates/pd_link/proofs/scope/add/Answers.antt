use Rattle.std.proofs.Common.{arith}
use Rattle.pd_link.proofs.Variables.{sees_more}
use Rattle.pd_link.proofs.scope.add.Goals as goal

pub returns : goal.returns
returns c all =
    sees_more all c.args.changes.now.items c.push.new.self.items (record { edge = c.args.edge; node = c.args.node; before = c.args.before }) c.len.result
    c.in_ok-push.ensures.items (omega (arith, c.len.ensures, c.push.new.self.ok.0)) c.requires
