use Rattle.std.proofs.Common.{sym, subst}
use Rattle.pd_tree.specs.Seen.{AllUp}
use Rattle.pd_tree.proofs.Variables.{up-without, up-without_all}
use Rattle.pd_tree.proofs.seen.seen_inside.Goals as goal

pub from_inside-requires : goal.from_inside-requires
from_inside-requires c =
    let near = subst (AllUp 4294967294) (sym c.in_ok-without-in-PlProcedure.ensures) (up-without 4294967294 c.in-PlProcedure.name c.args.seen.items c.requires.near) in
    let others = subst (AllUp 4294967294) (sym c.in_ok-others-in-PlProcedure.ensures) (up-without_all 4294967294 c.as_slice-own.result.now c.in_ok-without-in-PlProcedure.field-0.items near) in
    subst (AllUp 4294967294) (sym c.in_ok-around-in-PlProcedure.ensures) (up-without_all 4294967294 c.as_slice-in-PlProcedure.result.now c.in_ok-others-in-PlProcedure.others.items others)
