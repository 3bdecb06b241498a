-- A text that doubles.
use Rattle.std.specs.Prelude.{◌≡◌, refl, List, [], ◌∷◌, None, Some, pos, codes}
use Rattle.std.specs.Fmt.{digits}
use Rattle.pd_values.specs.declared.value.End.TheVariants.{Faulted}
use Rattle.pd_values.specs.declared.value.Fault.TheVariants.{TextLong}
use Rattle.pd_meaning.specs.Meaning.{meaning_of, evaluated}
use Rattle.pd_meaning.proofs.Brief.{output_end_and_fuel}
use Rattle.pd_tree.specs.declared.kind.Kind.TheVariants.{SlAssign, SlBinary, SlBlock, SlBody, SlFunction, SlName, SlNumber, SlText, SlWhile}
use Rattle.pd_tree.specs.declared.kind.Operator.TheVariants.{Add, Less}
use Rattle.pd_values.specs.declared.value.Tag.TheVariants.{Statement, Root, RootBody, Expression, ReadVariable, WriteVariable}
use Rattle.pd_tree.specs.declared.kind.Meaning.TheVariants.{Local, Nothing}
use Rattle.pd_tree.specs.Program.{Program, Node, Item}

abbrev nodes : List Node
nodes =
    -- 0
    record { kind = (SlFunction (codes "main") []); children = 1 ∷ []; tags = Root ∷ []; meaning = Nothing; root = 0; level = 0; slots = 2; sees = []; source = 0; start = 0; len = 77; line = 1; column = 1 } ∷
    -- 1
    record { kind = SlBody; children = 2 ∷ 4 ∷ 6 ∷ []; tags = RootBody ∷ []; meaning = Nothing; root = 0; level = 0; slots = 0; sees = []; source = 0; start = 16; len = 61; line = 1; column = 17 } ∷
    -- 2
    record { kind = (SlAssign (codes "t")); children = 3 ∷ []; tags = Expression ∷ WriteVariable ∷ Statement ∷ []; meaning = (Local 0 0); root = 0; level = 0; slots = 0; sees = []; source = 0; start = 18; len = 8; line = 1; column = 19 } ∷
    -- 3
    record { kind = (SlText (codes "ab")); children = []; tags = Expression ∷ []; meaning = Nothing; root = 0; level = 0; slots = 0; sees = []; source = 0; start = 22; len = 4; line = 1; column = 23 } ∷
    -- 4
    record { kind = (SlAssign (codes "i")); children = 5 ∷ []; tags = Expression ∷ WriteVariable ∷ Statement ∷ []; meaning = (Local 0 1); root = 0; level = 0; slots = 0; sees = (record { name = codes "t"; up = 0; slot = 0 } ∷ []); source = 0; start = 28; len = 5; line = 1; column = 29 } ∷
    -- 5
    record { kind = (SlNumber (pos 0)); children = []; tags = Expression ∷ []; meaning = Nothing; root = 0; level = 0; slots = 0; sees = (record { name = codes "t"; up = 0; slot = 0 } ∷ []); source = 0; start = 32; len = 1; line = 1; column = 33 } ∷
    -- 6
    record { kind = SlWhile; children = 7 ∷ 10 ∷ []; tags = []; meaning = Nothing; root = 0; level = 0; slots = 0; sees = (record { name = codes "t"; up = 0; slot = 0 } ∷ record { name = codes "i"; up = 0; slot = 1 } ∷ []); source = 0; start = 35; len = 40; line = 1; column = 36 } ∷
    -- 7
    record { kind = (SlBinary Less); children = 8 ∷ 9 ∷ []; tags = Expression ∷ Statement ∷ []; meaning = Nothing; root = 0; level = 0; slots = 0; sees = (record { name = codes "t"; up = 0; slot = 0 } ∷ record { name = codes "i"; up = 0; slot = 1 } ∷ []); source = 0; start = 42; len = 6; line = 1; column = 43 } ∷
    -- 8
    record { kind = (SlName (codes "i")); children = []; tags = Expression ∷ ReadVariable ∷ []; meaning = (Local 0 1); root = 0; level = 0; slots = 0; sees = (record { name = codes "t"; up = 0; slot = 0 } ∷ record { name = codes "i"; up = 0; slot = 1 } ∷ []); source = 0; start = 42; len = 1; line = 1; column = 43 } ∷
    -- 9
    record { kind = (SlNumber (pos 16)); children = []; tags = Expression ∷ []; meaning = Nothing; root = 0; level = 0; slots = 0; sees = (record { name = codes "t"; up = 0; slot = 0 } ∷ record { name = codes "i"; up = 0; slot = 1 } ∷ []); source = 0; start = 46; len = 2; line = 1; column = 47 } ∷
    -- 10
    record { kind = SlBlock; children = 11 ∷ 15 ∷ []; tags = []; meaning = Nothing; root = 0; level = 0; slots = 0; sees = (record { name = codes "t"; up = 0; slot = 0 } ∷ record { name = codes "i"; up = 0; slot = 1 } ∷ []); source = 0; start = 50; len = 25; line = 1; column = 51 } ∷
    -- 11
    record { kind = (SlAssign (codes "t")); children = 12 ∷ []; tags = Expression ∷ WriteVariable ∷ Statement ∷ []; meaning = (Local 0 0); root = 0; level = 0; slots = 0; sees = (record { name = codes "t"; up = 0; slot = 0 } ∷ record { name = codes "i"; up = 0; slot = 1 } ∷ []); source = 0; start = 52; len = 9; line = 1; column = 53 } ∷
    -- 12
    record { kind = (SlBinary Add); children = 13 ∷ 14 ∷ []; tags = Expression ∷ []; meaning = Nothing; root = 0; level = 0; slots = 0; sees = (record { name = codes "t"; up = 0; slot = 0 } ∷ record { name = codes "i"; up = 0; slot = 1 } ∷ []); source = 0; start = 56; len = 5; line = 1; column = 57 } ∷
    -- 13
    record { kind = (SlName (codes "t")); children = []; tags = Expression ∷ ReadVariable ∷ []; meaning = (Local 0 0); root = 0; level = 0; slots = 0; sees = (record { name = codes "t"; up = 0; slot = 0 } ∷ record { name = codes "i"; up = 0; slot = 1 } ∷ []); source = 0; start = 56; len = 1; line = 1; column = 57 } ∷
    -- 14
    record { kind = (SlName (codes "t")); children = []; tags = Expression ∷ ReadVariable ∷ []; meaning = (Local 0 0); root = 0; level = 0; slots = 0; sees = (record { name = codes "t"; up = 0; slot = 0 } ∷ record { name = codes "i"; up = 0; slot = 1 } ∷ []); source = 0; start = 60; len = 1; line = 1; column = 61 } ∷
    -- 15
    record { kind = (SlAssign (codes "i")); children = 16 ∷ []; tags = Expression ∷ WriteVariable ∷ Statement ∷ []; meaning = (Local 0 1); root = 0; level = 0; slots = 0; sees = (record { name = codes "t"; up = 0; slot = 0 } ∷ record { name = codes "i"; up = 0; slot = 1 } ∷ []); source = 0; start = 63; len = 9; line = 1; column = 64 } ∷
    -- 16
    record { kind = (SlBinary Add); children = 17 ∷ 18 ∷ []; tags = Expression ∷ []; meaning = Nothing; root = 0; level = 0; slots = 0; sees = (record { name = codes "t"; up = 0; slot = 0 } ∷ record { name = codes "i"; up = 0; slot = 1 } ∷ []); source = 0; start = 67; len = 5; line = 1; column = 68 } ∷
    -- 17
    record { kind = (SlName (codes "i")); children = []; tags = Expression ∷ ReadVariable ∷ []; meaning = (Local 0 1); root = 0; level = 0; slots = 0; sees = (record { name = codes "t"; up = 0; slot = 0 } ∷ record { name = codes "i"; up = 0; slot = 1 } ∷ []); source = 0; start = 67; len = 1; line = 1; column = 68 } ∷
    -- 18
    record { kind = (SlNumber (pos 1)); children = []; tags = Expression ∷ []; meaning = Nothing; root = 0; level = 0; slots = 0; sees = (record { name = codes "t"; up = 0; slot = 0 } ∷ record { name = codes "i"; up = 0; slot = 1 } ∷ []); source = 0; start = 71; len = 1; line = 1; column = 72 } ∷
    []

abbrev items : List Item
items =
    record { name = codes "println"; root = None } ∷
    record { name = codes "main"; root = Some 0 } ∷
    []

abbrev pub program : Program
program = record { nodes = nodes; items = items; mains = None ∷ []; entries = 1 ∷ [] }

pub past_the_limit : output_end_and_fuel (meaning_of program 1 1000000 []) ≡ ([], Faulted TextLong 12, 195)
unfolding meaning_of evaluated digits
past_the_limit = refl
