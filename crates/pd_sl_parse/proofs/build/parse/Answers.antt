use Rattle.std.proofs.Common.{◌+◌, ◌<◌, ◌≤◌, ◌^◌, List, length, sym, subst, arith}
use Rattle.pd_sl_read.specs.Answers.{AreNodesOf}
use Rattle.pd_sl_parse.specs.Additions.{IsTreeOf}
use Rattle.pd_sl_read.proofs.Reading.{few_tokens}
use Rattle.pd_tree.specs.declared.addition.Addition.{Addition}
use Rattle.pd_sl_parse.specs.Scopes.{Scoped, no_scope}
use Rattle.pd_sl_parse.proofs.Building.{Built, built_none, built_more, built_room, built_all, nodes_few, nodes_stand, nodes_short}
use Rattle.pd_sl_parse.proofs.build.parse.Goals as goal

pub add-requires-clause-room : goal.add-requires-clause-room
add-requires-clause-room c =
    let tree = subst (AreNodesOf c.args.room c.args.source.now.bytes c.args.tokens.now) (sym c.deref-node-items.ensures.value) c.in-Ok.ensures.spelled in
    let few : length c.deref-node-items.result.now ≤ c.args.room = nodes_few c.args.room c.args.source.now.bytes c.args.tokens.now c.deref-node-items.result.now tree in
    let tokens = few_tokens 0 (length c.args.source.now.bytes) c.args.tokens.now c.requires.tokens in
    let small : length c.args.source.now.bytes ≤ 1048576 = c.bytes.ensures.small in
    let lt : (length c.args.tokens.now + c.loop-node.node-index) + 1 < 2 ^ 32 = omega (arith, c.loop-node-test.true) in
    built_room c.args.source.now.bytes c.args.tokens.now c.args.number (length c.args.tokens.now) c.deref-node-items.result.now c.loop-node.node-index c.loop-node.scope c.loop-node.builder c.loop-node.invariant lt

pub loop-node-preserved : goal.loop-node-preserved
loop-node-preserved c =
    let tree = subst (AreNodesOf c.args.room c.args.source.now.bytes c.args.tokens.now) (sym c.deref-node-items.ensures.value) c.in-Ok.ensures.spelled in
    let few : length c.deref-node-items.result.now ≤ c.args.room = nodes_few c.args.room c.args.source.now.bytes c.args.tokens.now c.deref-node-items.result.now tree in
    let tokens = few_tokens 0 (length c.args.source.now.bytes) c.args.tokens.now c.requires.tokens in
    let small : length c.args.source.now.bytes ≤ 1048576 = c.bytes.ensures.small in
    let lt : (length c.args.tokens.now + c.loop-node.node-index) + 1 < 2 ^ 32 = omega (arith, c.loop-node-test.true) in
    built_more c.args.source.now.bytes c.args.tokens.now c.args.number (length c.args.tokens.now) c.deref-node-items.result.now c.loop-node.node-index c.loop-node.scope c.add.new.scope c.loop-node.builder c.add.new.builder _
    c.loop-node-test.true (nodes_stand c.args.room c.args.source.now.bytes c.args.tokens.now c.deref-node-items.result.now tree) (nodes_short c.args.room c.args.source.now.bytes c.args.tokens.now c.deref-node-items.result.now tree) lt c.loop-node.invariant c.in_ok-add.ensures.scope c.in_ok-add.ensures.added

pub finish-requires : goal.finish-requires
finish-requires c =
    let tree = subst (AreNodesOf c.args.room c.args.source.now.bytes c.args.tokens.now) (sym c.deref-node-items.ensures.value) c.in-Ok.ensures.spelled in
    (built_all c.args.room c.args.source.now.bytes c.args.tokens.now c.args.number (length c.args.tokens.now) c.deref-node-items.result.now c.loop-node.node-index c.loop-node.scope c.loop-node.builder tree c.loop-node-test.false c.loop-node.invariant).0

pub returns-clause-spelled : goal.returns-clause-spelled
returns-clause-spelled c =
    let tree = subst (AreNodesOf c.args.room c.args.source.now.bytes c.args.tokens.now) (sym c.deref-node-items.ensures.value) c.in-Ok.ensures.spelled in
    let built = (built_all c.args.room c.args.source.now.bytes c.args.tokens.now c.args.number (length c.args.tokens.now) c.deref-node-items.result.now c.loop-node.node-index c.loop-node.scope c.loop-node.builder tree c.loop-node-test.false c.loop-node.invariant).1 in
    subst (IsTreeOf c.args.room c.args.source.now.bytes c.args.tokens.now c.args.number) (sym c.finish.ensures) built

pub loop-node-init : goal.loop-node-init
loop-node-init c =
    let at_first : Scoped → List Addition → Type 0 = λ s as'. Built c.args.source.now.bytes c.args.tokens.now c.args.number (length c.args.tokens.now) c.deref-node-items.result.now 0 s as' in
    subst (λ s. at_first s c.new-builder.result) (sym c.new-scope.ensures)
    (subst (at_first no_scope) (sym c.new-builder.ensures) (built_none c.args.source.now.bytes c.args.tokens.now c.args.number (length c.args.tokens.now) c.deref-node-items.result.now))
