-- Definition: `IsPl0`; the rest is for proofs.
-- Nodes of PL/0, and a block's value.
use Rattle.std.specs.Prelude.{slice_get}
use Rattle.pd_values.specs.declared.value.Value.{Value}
use Rattle.pd_tree.specs.declared.kind.Kind.{Kind}
use Rattle.pd_tree.specs.declared.kind.Kind.TheVariants.{PlProcedure, PlBody, PlEmpty, PlBegin, PlIf, PlWhile, PlAssign, PlCall, PlWrite, PlOdd, PlBinary, PlPlus, PlMinus, PlName, PlNumber}
use Rattle.pd_machine.specs.Events.{State, blocks_of, frame_of, variables_at}
use Rattle.pd_meaning.specs.Meaning.{first_or_null}

-- a kind of PL/0
abbrev pub IsPl0 : Kind → Type 0
IsPl0 (PlProcedure name variables) = Unit {0}
IsPl0 PlBody = Unit {0}
IsPl0 PlEmpty = Unit {0}
IsPl0 PlBegin = Unit {0}
IsPl0 PlIf = Unit {0}
IsPl0 PlWhile = Unit {0}
IsPl0 (PlAssign x) = Unit {0}
IsPl0 (PlCall x) = Unit {0}
IsPl0 PlWrite = Unit {0}
IsPl0 PlOdd = Unit {0}
IsPl0 (PlBinary op) = Unit {0}
IsPl0 PlPlus = Unit {0}
IsPl0 PlMinus = Unit {0}
IsPl0 (PlName x) = Unit {0}
IsPl0 (PlNumber z) = Unit {0}
IsPl0 _ = ⊥

-- the first variable of the innermost frame's own block, or NULL
abbrev pub first_of_block : State → Value
first_of_block s = first_or_null (variables_at s.scene (slice_get (blocks_of (frame_of s.scene.frames 0)) 0))
