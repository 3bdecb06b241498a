use Rattle.std.proofs.Common.{◌≡◌}
use Rattle.std.specs.List.{AllByRecursion}
use Rattle.pd_load.specs.Tables.{IsText}
use Rattle.pd_top.proofs.loading.sources_of.Given as goal

-- the sources so far are made, and are UTF-8
abbrev pub invariant-loop-file : goal.invariant-loop-file
invariant-loop-file l = (l.sources.items ≡ l.yielded) × AllByRecursion IsText l.yielded
