use Rattle.std.proofs.Common.{◌≡◌, ◌+◌, ◌++◌, ◌∷◌, [], length, refl, ap, ◌∙◌, arith}
use Rattle.pd_paths.proofs.Numbers.{begun_length}
use Rattle.pd_paths.proofs.Passing.{path_is, begun_new}
use Rattle.pd_paths.proofs.counter.Counter.grow.Goals as goal

pub overflow_cast-next : goal.overflow_cast-next
overflow_cast-next c =
    let bound = begun_length c.args.self.now.paths.items c.requires.kept.0.begun in
    let room = c.requires.room in
    let len = c.len-next.ensures in
    omega (arith, bound, room, len)

pub returns : goal.returns
returns c =
    let own : c.index.result.now.path ≡ _ = path_is c.args.self.now.paths.items c.args.self.now.at c.index.result.now c.requires.kept.1 c.index.ensures in
    let len = c.len-next.ensures in
    let count : c.len-next.result ≡ length c.args.self.now.paths.items = omega (arith, len) in
    begun_new c.args.node (record { path = c.in_ok-path.path; count = 1; own = 0 }) c.slot_of.result c.len-next.result c.args.self.now _ c.requires.kept c.slot_of.ensures.small c.requires.new
    (c.in_ok-path.ensures ∙ ap (λ q. q ++ c.args.node ∷ []) (c.as_slice.ensures ∙ own)) refl refl
    c.in_ok-push.ensures.items c.in_ok-push-2.ensures.items c.slot_of.ensures.slot count c.in_ok-insert.ensures.updates refl refl
