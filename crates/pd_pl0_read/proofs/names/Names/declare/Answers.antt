use Rattle.std.proofs.Common.{ap, ◌∙◌}
use Rattle.pd_pl0_read.specs.Entries.{named, inserted}
use Rattle.pd_pl0_read.proofs.Maps.{named_inserted}
use Rattle.pd_pl0_read.proofs.names.Names.declare.Goals as goal

pub returns : goal.returns
returns c = ap named c.in_ok-insert.ensures.entries ∙ named_inserted c.args.name c.args.what c.self.inside.declared.entries ∙ ap (inserted c.args.name.items c.args.what) c.self.view_is
