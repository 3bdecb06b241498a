use Rattle.std.proofs.Common.{◌∙◌, ap, sym}
use Rattle.pd_tree.specs.Linked.{sees_name}
use Rattle.pd_tree.proofs.Variables.{without-unseen}
use Rattle.pd_tree.proofs.seen.without.Goals as goal

pub returns-then-not-sees_name : goal.returns-then-not-sees_name
returns-then-not-sees_name c =
    sym (without-unseen c.args.name.now c.args.seen.items
    (ap (sees_name c.args.name.now) (sym c.as_slice.ensures.value) ∙ sym c.sees_name.ensures ∙ c.if-not-sees_name.true))
