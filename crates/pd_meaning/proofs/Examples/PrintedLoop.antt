-- A loop that prints.
use Rattle.std.specs.Prelude.{◌≡◌, refl, List, [], ◌∷◌, None, Some, pos, codes}
use Rattle.std.specs.Fmt.{digits}
use Rattle.pd_values.specs.declared.value.End.TheVariants.{Done}
use Rattle.pd_values.specs.declared.value.Value.TheVariants.{Null}
use Rattle.pd_meaning.specs.Meaning.{meaning_of, evaluated}
use Rattle.pd_meaning.proofs.Brief.{brief}
use Rattle.pd_tree.specs.declared.kind.Kind.TheVariants.{SlAssign, SlBinary, SlBlock, SlBody, SlCall, SlFunction, SlName, SlNumber, SlWhile}
use Rattle.pd_tree.specs.declared.kind.Operator.TheVariants.{Add, Less}
use Rattle.pd_values.specs.declared.value.Tag.TheVariants.{Statement, Call, Root, RootBody, Expression, ReadVariable, WriteVariable}
use Rattle.pd_tree.specs.declared.kind.Meaning.TheVariants.{Local, Item as Means, Nothing}
use Rattle.pd_tree.specs.Program.{Program, Node, Item}

abbrev nodes : List Node
nodes =
    -- 0
    record { kind = (SlFunction (codes "main") []); children = 1 ∷ []; tags = Root ∷ []; meaning = Nothing; root = 0; level = 0; slots = 1; sees = []; source = 0; start = 0; len = 81; line = 1; column = 1 } ∷
    -- 1
    record { kind = SlBody; children = 2 ∷ 4 ∷ []; tags = RootBody ∷ []; meaning = Nothing; root = 0; level = 0; slots = 0; sees = []; source = 0; start = 16; len = 65; line = 1; column = 17 } ∷
    -- 2
    record { kind = (SlAssign (codes "i")); children = 3 ∷ []; tags = Expression ∷ WriteVariable ∷ Statement ∷ []; meaning = (Local 0 0); root = 0; level = 0; slots = 0; sees = []; source = 0; start = 20; len = 5; line = 2; column = 3 } ∷
    -- 3
    record { kind = (SlNumber (pos 0)); children = []; tags = Expression ∷ []; meaning = Nothing; root = 0; level = 0; slots = 0; sees = []; source = 0; start = 24; len = 1; line = 2; column = 7 } ∷
    -- 4
    record { kind = SlWhile; children = 5 ∷ 8 ∷ []; tags = []; meaning = Nothing; root = 0; level = 0; slots = 0; sees = (record { name = codes "i"; up = 0; slot = 0 } ∷ []); source = 0; start = 29; len = 50; line = 3; column = 3 } ∷
    -- 5
    record { kind = (SlBinary Less); children = 6 ∷ 7 ∷ []; tags = Expression ∷ Statement ∷ []; meaning = Nothing; root = 0; level = 0; slots = 0; sees = (record { name = codes "i"; up = 0; slot = 0 } ∷ []); source = 0; start = 36; len = 5; line = 3; column = 10 } ∷
    -- 6
    record { kind = (SlName (codes "i")); children = []; tags = Expression ∷ ReadVariable ∷ []; meaning = (Local 0 0); root = 0; level = 0; slots = 0; sees = (record { name = codes "i"; up = 0; slot = 0 } ∷ []); source = 0; start = 36; len = 1; line = 3; column = 10 } ∷
    -- 7
    record { kind = (SlNumber (pos 5)); children = []; tags = Expression ∷ []; meaning = Nothing; root = 0; level = 0; slots = 0; sees = (record { name = codes "i"; up = 0; slot = 0 } ∷ []); source = 0; start = 40; len = 1; line = 3; column = 14 } ∷
    -- 8
    record { kind = SlBlock; children = 9 ∷ 12 ∷ []; tags = []; meaning = Nothing; root = 0; level = 0; slots = 0; sees = (record { name = codes "i"; up = 0; slot = 0 } ∷ []); source = 0; start = 43; len = 36; line = 3; column = 17 } ∷
    -- 9
    record { kind = SlCall; children = 10 ∷ 11 ∷ []; tags = Expression ∷ Call ∷ Statement ∷ []; meaning = Nothing; root = 0; level = 0; slots = 0; sees = (record { name = codes "i"; up = 0; slot = 0 } ∷ []); source = 0; start = 49; len = 10; line = 4; column = 5 } ∷
    -- 10
    record { kind = (SlName (codes "println")); children = []; tags = Expression ∷ []; meaning = (Means 0); root = 0; level = 0; slots = 0; sees = (record { name = codes "i"; up = 0; slot = 0 } ∷ []); source = 0; start = 49; len = 7; line = 4; column = 5 } ∷
    -- 11
    record { kind = (SlName (codes "i")); children = []; tags = Expression ∷ ReadVariable ∷ []; meaning = (Local 0 0); root = 0; level = 0; slots = 0; sees = (record { name = codes "i"; up = 0; slot = 0 } ∷ []); source = 0; start = 57; len = 1; line = 4; column = 13 } ∷
    -- 12
    record { kind = (SlAssign (codes "i")); children = 13 ∷ []; tags = Expression ∷ WriteVariable ∷ Statement ∷ []; meaning = (Local 0 0); root = 0; level = 0; slots = 0; sees = (record { name = codes "i"; up = 0; slot = 0 } ∷ []); source = 0; start = 65; len = 9; line = 5; column = 5 } ∷
    -- 13
    record { kind = (SlBinary Add); children = 14 ∷ 15 ∷ []; tags = Expression ∷ []; meaning = Nothing; root = 0; level = 0; slots = 0; sees = (record { name = codes "i"; up = 0; slot = 0 } ∷ []); source = 0; start = 69; len = 5; line = 5; column = 9 } ∷
    -- 14
    record { kind = (SlName (codes "i")); children = []; tags = Expression ∷ ReadVariable ∷ []; meaning = (Local 0 0); root = 0; level = 0; slots = 0; sees = (record { name = codes "i"; up = 0; slot = 0 } ∷ []); source = 0; start = 69; len = 1; line = 5; column = 9 } ∷
    -- 15
    record { kind = (SlNumber (pos 1)); children = []; tags = Expression ∷ []; meaning = Nothing; root = 0; level = 0; slots = 0; sees = (record { name = codes "i"; up = 0; slot = 0 } ∷ []); source = 0; start = 73; len = 1; line = 5; column = 13 } ∷
    []

abbrev items : List Item
items =
    record { name = codes "println"; root = None } ∷
    record { name = codes "main"; root = Some 0 } ∷
    []

abbrev pub program : Program
program = record { nodes = nodes; items = items; mains = None ∷ []; entries = 1 ∷ [] }

pub five_lines : brief (meaning_of program 1 1000000 []) ≡ (codes "0\n1\n2\n3\n4\n", Done Null, 63, 114)
unfolding meaning_of evaluated digits
five_lines = refl
