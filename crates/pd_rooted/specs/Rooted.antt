-- Definition: what holds of the roots of every loaded program, as a fact that a contract can promise.
use Rattle.std.specs.Prelude.{List}
use Rattle.pd_sections.specs.Written.{Written}
use Rattle.pd_plan.specs.declared.plan.Plan.{Plan}
use Rattle.pd_tree.specs.Program.{Program}
use Rattle.pd_load.specs.Loading.{IsLoaded}
use Rattle.pd_nesting.specs.Nesting.{AreRooted}

abbrev pub LoadedAreRooted : Type 0
LoadedAreRooted = (plan : Plan) (sources : List Written) (p : Program) → IsLoaded plan sources p → AreRooted p
