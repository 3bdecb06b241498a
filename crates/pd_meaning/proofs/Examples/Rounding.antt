-- A quotient is rounded toward zero, and a zero divisor is a fault.
use Rattle.std.specs.Prelude.{◌≡◌, refl, List, [], ◌∷◌, None, Some, pos, codes}
use Rattle.std.specs.Fmt.{digits}
use Rattle.pd_values.specs.declared.value.End.TheVariants.{Faulted}
use Rattle.pd_values.specs.declared.value.Fault.TheVariants.{DivZero}
use Rattle.pd_meaning.specs.Meaning.{meaning_of, evaluated}
use Rattle.pd_meaning.proofs.Brief.{brief}
use Rattle.pd_tree.specs.declared.kind.Kind.TheVariants.{PlBegin, PlBinary, PlBody, PlNumber, PlProcedure, PlWrite}
use Rattle.pd_tree.specs.declared.kind.Operator.TheVariants.{Div, Sub}
use Rattle.pd_values.specs.declared.value.Tag.TheVariants.{Statement, Root, RootBody, Expression}
use Rattle.pd_tree.specs.declared.kind.Meaning.TheVariants.{Nothing}
use Rattle.pd_tree.specs.Program.{Program, Node, Item}

abbrev nodes : List Node
nodes =
    -- 0
    record { kind = (PlProcedure (codes "main") []); children = 1 ∷ []; tags = Root ∷ []; meaning = Nothing; root = 0; level = 0; slots = 0; sees = []; source = 0; start = 0; len = 33; line = 1; column = 1 } ∷
    -- 1
    record { kind = PlBody; children = 2 ∷ []; tags = RootBody ∷ []; meaning = Nothing; root = 0; level = 0; slots = 0; sees = []; source = 0; start = 0; len = 32; line = 1; column = 1 } ∷
    -- 2
    record { kind = PlBegin; children = 3 ∷ 9 ∷ []; tags = []; meaning = Nothing; root = 0; level = 0; slots = 0; sees = []; source = 0; start = 0; len = 32; line = 1; column = 1 } ∷
    -- 3
    record { kind = PlWrite; children = 4 ∷ []; tags = Statement ∷ []; meaning = Nothing; root = 0; level = 0; slots = 0; sees = []; source = 0; start = 6; len = 13; line = 1; column = 7 } ∷
    -- 4
    record { kind = (PlBinary Div); children = 5 ∷ 8 ∷ []; tags = Expression ∷ []; meaning = Nothing; root = 0; level = 0; slots = 0; sees = []; source = 0; start = 8; len = 11; line = 1; column = 9 } ∷
    -- 5
    record { kind = (PlBinary Sub); children = 6 ∷ 7 ∷ []; tags = Expression ∷ []; meaning = Nothing; root = 0; level = 0; slots = 0; sees = []; source = 0; start = 9; len = 5; line = 1; column = 10 } ∷
    -- 6
    record { kind = (PlNumber (pos 0)); children = []; tags = Expression ∷ []; meaning = Nothing; root = 0; level = 0; slots = 0; sees = []; source = 0; start = 9; len = 1; line = 1; column = 10 } ∷
    -- 7
    record { kind = (PlNumber (pos 7)); children = []; tags = Expression ∷ []; meaning = Nothing; root = 0; level = 0; slots = 0; sees = []; source = 0; start = 13; len = 1; line = 1; column = 14 } ∷
    -- 8
    record { kind = (PlNumber (pos 2)); children = []; tags = Expression ∷ []; meaning = Nothing; root = 0; level = 0; slots = 0; sees = []; source = 0; start = 18; len = 1; line = 1; column = 19 } ∷
    -- 9
    record { kind = PlWrite; children = 10 ∷ []; tags = Statement ∷ []; meaning = Nothing; root = 0; level = 0; slots = 0; sees = []; source = 0; start = 21; len = 7; line = 1; column = 22 } ∷
    -- 10
    record { kind = (PlBinary Div); children = 11 ∷ 12 ∷ []; tags = Expression ∷ []; meaning = Nothing; root = 0; level = 0; slots = 0; sees = []; source = 0; start = 23; len = 5; line = 1; column = 24 } ∷
    -- 11
    record { kind = (PlNumber (pos 1)); children = []; tags = Expression ∷ []; meaning = Nothing; root = 0; level = 0; slots = 0; sees = []; source = 0; start = 23; len = 1; line = 1; column = 24 } ∷
    -- 12
    record { kind = (PlNumber (pos 0)); children = []; tags = Expression ∷ []; meaning = Nothing; root = 0; level = 0; slots = 0; sees = []; source = 0; start = 27; len = 1; line = 1; column = 28 } ∷
    []

abbrev items : List Item
items =
    record { name = codes "println"; root = None } ∷
    record { name = codes "main"; root = Some 0 } ∷
    []

abbrev pub program : Program
program = record { nodes = nodes; items = items; mains = Some 0 ∷ []; entries = 1 ∷ [] }

pub toward_zero : brief (meaning_of program 1 1000000 []) ≡ (codes "-3\n", Faulted DivZero 10, 13, 24)
unfolding meaning_of evaluated digits
toward_zero = refl
