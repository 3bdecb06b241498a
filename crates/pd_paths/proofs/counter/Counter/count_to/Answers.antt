use Rattle.std.proofs.Common.{◌-◌, ◌≤◌, true, refl, arith}
use Rattle.pd_paths.specs.Tally.{amount}
use Rattle.pd_paths.proofs.Passing.{part_at, raised_own, counted_to}
use Rattle.pd_paths.proofs.counter.Counter.count_to.Goals as goal

pub overflow_add-index_mut : goal.overflow_add-index_mut
overflow_add-index_mut c =
    let part : c.index_mut.result.now.own ≤ amount (λ x. x.own) (λ q. true) c.args.self.now.paths.items =
    part_at (λ x. x.own) refl c.args.self.now.paths.items c.args.self.now.at c.index_mut.result.now c.requires.kept.1 c.index_mut.ensures.value in
    let room = c.requires.owns in
    omega (arith, part, room)

pub returns : goal.returns
returns c =
    counted_to c.args.end c.args.self.now _ c.requires
    (raised_own c.args.self.now.paths.items c.args.self.now.at (c.args.end - c.args.self.now.next) c.index_mut.result.now c.requires.kept.1 c.index_mut.ensures.value) refl refl refl refl
