use Rattle.std.proofs.Common.{◌≡◌, ◌<◌, ◌≤◌, length, Some, true, refl, sym, ◌∙◌, arith}
use Rattle.pd_paths.specs.Tally.{amount}
use Rattle.pd_paths.specs.Counting.{slot, inner_of}
use Rattle.pd_paths.proofs.Passing.{part_at, raised_count, begun_old}
use Rattle.pd_paths.proofs.counter.Counter.begin.Goals as goal

pub index_mut-requires : goal.index_mut-requires
index_mut-requires c =
    let found : inner_of c.args.self.now (slot c.args.self.now.at c.args.node) ≡ Some c.in-Some.path = sym c.known.ensures.path ∙ c.in-Some.is in
    let within : c.in-Some.path < length c.args.self.now.paths.items = (c.requires.kept.0.sound c.args.self.now.at c.args.node c.in-Some.path c.known.ensures.small found).1 in
    omega (arith, within)

pub overflow_add-index_mut : goal.overflow_add-index_mut
overflow_add-index_mut c =
    let found : inner_of c.args.self.now (slot c.args.self.now.at c.args.node) ≡ Some c.in-Some.path = sym c.known.ensures.path ∙ c.in-Some.is in
    let part : c.index_mut.result.now.count ≤ amount (λ x. x.count) (λ q. true) c.args.self.now.paths.items =
    part_at (λ x. x.count) refl c.args.self.now.paths.items c.in-Some.path c.index_mut.result.now (c.requires.kept.0.sound c.args.self.now.at c.args.node c.in-Some.path c.known.ensures.small found).1 c.index_mut.ensures.value in
    let room = c.requires.room in
    omega (arith, part, room)

pub returns-in-Some : goal.returns-in-Some
returns-in-Some c =
    let found : inner_of c.args.self.now (slot c.args.self.now.at c.args.node) ≡ Some c.in-Some.path = sym c.known.ensures.path ∙ c.in-Some.is in
    begun_old c.args.node c.in-Some.path c.args.self.now _ c.requires.kept c.known.ensures.small found
    (raised_count c.args.self.now.paths.items c.in-Some.path 1 c.index_mut.result.now (c.requires.kept.0.sound c.args.self.now.at c.args.node c.in-Some.path c.known.ensures.small found).1 c.index_mut.ensures.value) refl refl refl refl
