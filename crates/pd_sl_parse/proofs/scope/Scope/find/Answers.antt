use Rattle.std.proofs.Common.{◌∙◌, ap}
use Rattle.pd_sl_parse.specs.Scopes.{Scoped, latest}
use Rattle.pd_sl_parse.proofs.Naming.{found}
use Rattle.pd_sl_parse.proofs.scope.Scope.find.Goals as goal

pub returns : goal.returns
returns c = c.copied.ensures ∙ c.get.ensures.value ∙ found c.args.name.now c.self.inside.variables.entries ∙ ap (λ (s : Scoped). latest c.args.name.now s.variables) c.self.view_is
