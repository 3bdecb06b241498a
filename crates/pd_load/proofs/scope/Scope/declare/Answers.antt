use Rattle.std.proofs.Common.{refl, ap, length, arith}
use Rattle.pd_load.proofs.Scopes.{declared_more}
use Rattle.pd_load.proofs.scope.Scope.declare.Goals as goal

pub returns-in_ok-push : goal.returns-in_ok-push
returns-in_ok-push c = λ s h.
    declared_more c.args.self.now _ s h c.args.kind.now c.in-PlProcedure.name c.in-PlProcedure.variables c.in-PlProcedure.is c.args.item (record { name = c.in_ok-name.name; item = c.args.item })
    (λ e. grind (arith, ap length e, c.args.self.now.unfinished.ok.0, c.is_empty.ensures, c.if-not-is_empty.true)) c.in_ok-name.ensures refl c.in_ok-push.ensures.items refl
