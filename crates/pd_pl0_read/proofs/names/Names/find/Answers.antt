use Rattle.std.proofs.Common.{ap, ◌∙◌}
use Rattle.pd_pl0_read.specs.Entries.{entry_at}
use Rattle.pd_pl0_read.proofs.Maps.{lookup_named}
use Rattle.pd_pl0_read.proofs.names.Names.find.Goals as goal

pub returns : goal.returns
returns c = c.copied.ensures ∙ c.get.ensures.value ∙ lookup_named c.args.name.now c.self.inside.declared.entries ∙ ap (entry_at c.args.name.now) c.self.view_is
