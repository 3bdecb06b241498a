use Rattle.std.proofs.Common.{◌≡◌, ◌∙◌, sym, ap, [], ◌∷◌, take, drop, reverse, append_assoc}
use Rattle.std.proofs.lemmas.List.{reverse-append}
use Rattle.pd_link.proofs.Lists.{drop-next, take-next}
use Rattle.pd_link.proofs.shape.take_tops.Goals as goal

pub loop-preserved : goal.loop-preserved
loop-preserved c =
    let all = reverse c.args.tops.now.items in
    let left : drop c.loop.counter all ≡ c.in-Some.top ∷ reverse c.pop.new.self.items =
    sym c.loop.invariant.rest ∙ ap reverse c.in-Some.ensures.items ∙ reverse-append c.pop.new.self.items (c.in-Some.top ∷ []) in
    let rest = drop-next c.loop.counter all c.in-Some.top (reverse c.pop.new.self.items) left in
    let moved = take-next c.loop.counter all c.in-Some.top (reverse c.pop.new.self.items) left in
    let joined = append_assoc c.args.parts.now.items (take c.loop.counter all) (c.in-Some.top ∷ []) in
    record { rest = sym rest; moved = rw (c.in_ok-push.ensures.items, moved, c.loop.invariant.moved) joined }
