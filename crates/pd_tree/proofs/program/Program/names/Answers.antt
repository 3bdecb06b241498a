use Rattle.std.proofs.Common.{◌∙◌, ap, sym}
use Rattle.pd_tree.specs.Program.{item_names}
use Rattle.pd_tree.proofs.Kept.{names-items_in}
use Rattle.pd_tree.proofs.program.Program.names.Goals as goal

pub returns : goal.returns
returns c =
    let i = c.self.inside in
    c.as_slice.ensures.value ∙ sym (names-items_in i.names.items i.roots.items c.self.invariant.0.items) ∙ ap item_names c.self.view_is
