-- Definition: `IsSl`; the rest is for proofs.
-- Nodes of SL, and what a call calls.
use Rattle.std.specs.Prelude.{ℕ, List, ◌∷◌, Option, None, Some}
use Rattle.pd_values.specs.declared.value.Value.{Value}
use Rattle.pd_values.specs.declared.value.Value.TheVariants.{Func}
use Rattle.pd_tree.specs.declared.kind.Kind.{Kind}
use Rattle.pd_tree.specs.declared.kind.Kind.TheVariants.{PlProcedure, PlBody, PlEmpty, PlBegin, PlIf, PlWhile, PlAssign, PlCall, PlWrite, PlOdd, PlBinary, PlPlus, PlMinus, PlName, PlNumber}

-- a kind of SL
abbrev pub IsSl : Kind → Type 0
IsSl (PlProcedure name variables) = ⊥
IsSl PlBody = ⊥
IsSl PlEmpty = ⊥
IsSl PlBegin = ⊥
IsSl PlIf = ⊥
IsSl PlWhile = ⊥
IsSl (PlAssign x) = ⊥
IsSl (PlCall x) = ⊥
IsSl PlWrite = ⊥
IsSl PlOdd = ⊥
IsSl (PlBinary op) = ⊥
IsSl PlPlus = ⊥
IsSl PlMinus = ⊥
IsSl (PlName x) = ⊥
IsSl (PlNumber z) = ⊥
IsSl _ = Unit {0}

-- the item that a call calls: the first value, where it is a function
abbrev pub callee_of : List Value → Option ℕ
callee_of (Func i ∷ arguments) = Some i
callee_of _ = None
