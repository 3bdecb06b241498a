use Rattle.std.proofs.Common.{◌<◌, ◌≤◌, ◌^◌, length, sym, subst, arith}
use Rattle.pd_pl0_read.specs.Answers.{AreNodesOf}
use Rattle.pd_pl0_parse.specs.Additions.{IsTreeOf}
use Rattle.pd_pl0_read.proofs.Reading.{few_tokens}
use Rattle.pd_pl0_parse.proofs.Building.{built_more, built_all, nodes_slots}
use Rattle.pd_pl0_parse.proofs.build.parse.Goals as goal

pub loop-node-preserved : goal.loop-node-preserved
loop-node-preserved c =
    let tree = subst (AreNodesOf c.args.room c.args.source.now.bytes c.args.tokens.now) (sym c.deref-node-items.ensures.value) c.in-Ok.ensures.spelled in
    let tokens = few_tokens 0 (length c.args.source.now.bytes) c.args.tokens.now c.requires.tokens in
    let small : length c.args.source.now.bytes ≤ 1048576 = c.bytes.ensures.small in
    let lt : length c.args.tokens.now < 2 ^ 32 = omega arith in
    built_more c.args.source.now.bytes c.args.tokens.now c.args.number c.deref-node-items.result.now c.loop-node.node-index c.loop-node.builder c.add.new.builder _
    c.loop-node-test.true (nodes_slots c.args.room c.args.source.now.bytes c.args.tokens.now c.deref-node-items.result.now tree) lt c.loop-node.invariant c.in_ok-add.ensures

pub finish-requires : goal.finish-requires
finish-requires c =
    let tree = subst (AreNodesOf c.args.room c.args.source.now.bytes c.args.tokens.now) (sym c.deref-node-items.ensures.value) c.in-Ok.ensures.spelled in
    (built_all c.args.room c.args.source.now.bytes c.args.tokens.now c.args.number c.deref-node-items.result.now c.loop-node.node-index c.loop-node.builder tree c.loop-node-test.false c.loop-node.invariant).0

pub returns-clause-spelled : goal.returns-clause-spelled
returns-clause-spelled c =
    let tree = subst (AreNodesOf c.args.room c.args.source.now.bytes c.args.tokens.now) (sym c.deref-node-items.ensures.value) c.in-Ok.ensures.spelled in
    let built = (built_all c.args.room c.args.source.now.bytes c.args.tokens.now c.args.number c.deref-node-items.result.now c.loop-node.node-index c.loop-node.builder tree c.loop-node-test.false c.loop-node.invariant).1 in
    subst (IsTreeOf c.args.room c.args.source.now.bytes c.args.tokens.now c.args.number) (sym c.finish.ensures) built
