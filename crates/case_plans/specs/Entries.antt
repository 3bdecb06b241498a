-- Definition: what a program has of its plan.
use Rattle.std.specs.Prelude.{◌≡◌, length}
use Rattle.pd_plan.specs.declared.plan.Plan.{Plan}
use Rattle.pd_tree.specs.Program.{Program}

-- there is an entry for each context
abbrev pub HasEntries : Plan → Program → Type 0
HasEntries plan program = length program.entries ≡ length plan.contexts
