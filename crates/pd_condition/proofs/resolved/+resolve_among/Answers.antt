-- A name, or two sides and the operator between them.
use Rattle.std.proofs.Common.{ap, sym, ◌∙◌}
use Rattle.pd_condition.specs.Truths.{value_of}
use Rattle.pd_condition.specs.Seeing.{values_of}
use Rattle.pd_condition.specs.Resolving.{value_at}
use Rattle.pd_condition.proofs.Resolving.{placed, resolved_made}
use Rattle.pd_condition.proofs.resolved.+resolve_among.Goals as goal

pub returns-in-Name : goal.returns-in-Name
returns-in-Name t c = λ scene.
    ap (value_at scene) c.place_of.ensures
    ∙ placed c.args.seen.now c.in-Name.name scene
    ∙ ap (value_of (values_of scene c.args.seen.now)) (sym c.in-Name.is)

pub returns-in_ok-right-in-Binary : goal.returns-in_ok-right-in-Binary
returns-in_ok-right-in-Binary t c =
    let s = c.in-Binary in
    let seen = c.args.seen.now in
    resolved_made seen s.op s.left s.right c.in_ok-left-in-Binary.left c.in_ok-right-in-Binary.right c.args.condition.now c.between.result
    (λ scene. c.in_ok-left-in-Binary.ensures scene ∙ ap (value_of (values_of scene seen)) c.get.ensures)
    (λ scene. c.in_ok-right-in-Binary.ensures scene ∙ ap (value_of (values_of scene seen)) c.get-in-Binary.ensures)
    s.is c.between.ensures
