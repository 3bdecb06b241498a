use Rattle.std.proofs.Common.{◌≡◌, drop}
use Rattle.pd_tree.specs.Linked.{without_all, procedure_names}
use Rattle.pd_tree.proofs.seen.without_procedures.Given as goal

abbrev pub invariant-loop-part : goal.invariant-loop-part
invariant-loop-part l = without_all (procedure_names l.all (drop l.part-index l.parts)) l.seen.items
    ≡ without_all (procedure_names l.all l.parts) l.fn.seen.items
