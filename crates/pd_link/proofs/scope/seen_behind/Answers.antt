use Rattle.std.proofs.Common.{List, subst, IfOk}
use Rattle.pd_tree.specs.declared.kind.Visible.{Visible}
use Rattle.pd_tree.specs.Kept.{list_at}
use Rattle.pd_link.specs.Walks.{Sees}
use Rattle.pd_link.proofs.Variables.{changed-assign, changed-procedure}
use Rattle.pd_link.proofs.scope.seen_behind.Goals as goal

pub returns-in-SlAssign : goal.returns-in-SlAssign
returns-in-SlAssign c all e =
    let old = c.args.changes.now.items in
    let P : List Visible → Type 0 = λ l. IfOk c.add.result (λ s. Sees all old c.add.new.changes.items s l) in
    subst P (changed-assign all c.args.n c.args.seen c.args.kind.now c.in-SlAssign.field-0 (list_at all old c.args.outside) (list_at all old c.args.seen) e c.in-SlAssign.is)
    (c.add.ensures all)

pub returns-in-PlProcedure : goal.returns-in-PlProcedure
returns-in-PlProcedure c all e =
    let old = c.args.changes.now.items in
    let P : List Visible → Type 0 = λ l. IfOk c.add-in-PlProcedure.result (λ s. Sees all old c.add-in-PlProcedure.new.changes.items s l) in
    subst P (changed-procedure all c.args.n c.args.outside c.args.kind.now c.in-PlProcedure.name c.in-PlProcedure.variables (list_at all old c.args.outside) (list_at all old c.args.seen) e c.in-PlProcedure.is)
    (c.add-in-PlProcedure.ensures all)
