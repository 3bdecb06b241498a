use Rattle.std.proofs.Common.{◌≡◌, ◌<◌, length, sym, ap, ◌∙◌, arith}
use Rattle.std.specs.Prelude.{map, position, bytes_eq}
use Rattle.std.proofs.lemmas.List.{map-append}
use Rattle.pd_cross.proofs.Argument.{named_again, named_first, place_among}
use Rattle.pd_cross.proofs.arguments.parameter_values.Goals as goal
use Rattle.pd_cross.proofs.arguments.parameter_values.Goals.{in-Some, in-None+in_ok-push-in-None+in_ok-push-in-None-2}

pub loop-i-preserved : goal.loop-i-preserved
loop-i-preserved c =
    let ps = c.args.parameters.now in
    let args = c.args.arguments.now in
    let i = c.loop-i.i in
    let x = c.index-parameters-i.result in
    let names = c.loop-i.names.items in
    let within : i < length ps = omega arith in
    let place : c.place_of.result ≡ position (bytes_eq x) (map (λ r. r.now) names) =
    c.place_of.ensures ∙ ap (λ ns. position (λ r. bytes_eq x r.now) ns) c.as_slice.ensures.value ∙ sym (place_among (bytes_eq x) (λ r. r.now) names) in
    elim c.match-place_of.branch [
      | in-Some w ↦
          rw (w.names-is, w.values-is, w.put.ensures)
          (named_again ps args (map (λ r. r.now) names) c.loop-i.values.items i x within c.index-parameters-i.is w.in-Some.k c.in_ok-value.value (sym w.in-Some.is ∙ place) c.in_ok-value.ensures ∙ c.loop-i.invariant)
      | in-None+in_ok-push-in-None+in_ok-push-in-None-2 w ↦
          rw (w.names-is, w.values-is, w.in_ok-push-in-None.ensures.items, w.in_ok-push-in-None-2.ensures.items, map-append)
          (named_first ps args (map (λ r. r.now) names) c.loop-i.values.items i x within c.index-parameters-i.is c.in_ok-value.value (sym w.in-None.is ∙ place) c.in_ok-value.ensures ∙ c.loop-i.invariant)
    ]
