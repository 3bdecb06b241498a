-- A recursive function.
use Rattle.std.specs.Prelude.{◌≡◌, refl, List, [], ◌∷◌, None, Some, pos, codes}
use Rattle.std.specs.Fmt.{digits}
use Rattle.pd_values.specs.declared.value.End.TheVariants.{Done}
use Rattle.pd_values.specs.declared.value.Value.TheVariants.{Null}
use Rattle.pd_meaning.specs.Meaning.{meaning_of, evaluated}
use Rattle.pd_meaning.proofs.Brief.{brief}
use Rattle.pd_tree.specs.declared.kind.Kind.TheVariants.{SlBinary, SlBlock, SlBody, SlCall, SlFunction, SlIf, SlName, SlNumber, SlReturn}
use Rattle.pd_tree.specs.declared.kind.Operator.TheVariants.{Less, Mul, Sub}
use Rattle.pd_values.specs.declared.value.Tag.TheVariants.{Statement, Call, Root, RootBody, Expression, ReadVariable}
use Rattle.pd_tree.specs.declared.kind.Meaning.TheVariants.{Local, Item as Means, Nothing}
use Rattle.pd_tree.specs.Program.{Program, Node, Item}

abbrev nodes : List Node
nodes =
    -- 0
    record { kind = (SlFunction (codes "fact") (codes "n" ∷ [])); children = 1 ∷ []; tags = Root ∷ []; meaning = Nothing; root = 0; level = 0; slots = 1; sees = (record { name = codes "n"; up = 0; slot = 0 } ∷ []); source = 0; start = 0; len = 73; line = 1; column = 1 } ∷
    -- 1
    record { kind = SlBody; children = 2 ∷ 9 ∷ []; tags = RootBody ∷ []; meaning = Nothing; root = 0; level = 0; slots = 0; sees = (record { name = codes "n"; up = 0; slot = 0 } ∷ []); source = 0; start = 17; len = 56; line = 1; column = 18 } ∷
    -- 2
    record { kind = SlIf; children = 3 ∷ 6 ∷ []; tags = []; meaning = Nothing; root = 0; level = 0; slots = 0; sees = (record { name = codes "n"; up = 0; slot = 0 } ∷ []); source = 0; start = 21; len = 24; line = 2; column = 3 } ∷
    -- 3
    record { kind = (SlBinary Less); children = 4 ∷ 5 ∷ []; tags = Expression ∷ Statement ∷ []; meaning = Nothing; root = 0; level = 0; slots = 0; sees = (record { name = codes "n"; up = 0; slot = 0 } ∷ []); source = 0; start = 25; len = 5; line = 2; column = 7 } ∷
    -- 4
    record { kind = (SlName (codes "n")); children = []; tags = Expression ∷ ReadVariable ∷ []; meaning = (Local 0 0); root = 0; level = 0; slots = 0; sees = (record { name = codes "n"; up = 0; slot = 0 } ∷ []); source = 0; start = 25; len = 1; line = 2; column = 7 } ∷
    -- 5
    record { kind = (SlNumber (pos 2)); children = []; tags = Expression ∷ []; meaning = Nothing; root = 0; level = 0; slots = 0; sees = (record { name = codes "n"; up = 0; slot = 0 } ∷ []); source = 0; start = 29; len = 1; line = 2; column = 11 } ∷
    -- 6
    record { kind = SlBlock; children = 7 ∷ []; tags = []; meaning = Nothing; root = 0; level = 0; slots = 0; sees = (record { name = codes "n"; up = 0; slot = 0 } ∷ []); source = 0; start = 32; len = 13; line = 2; column = 14 } ∷
    -- 7
    record { kind = SlReturn; children = 8 ∷ []; tags = Statement ∷ []; meaning = Nothing; root = 0; level = 0; slots = 0; sees = (record { name = codes "n"; up = 0; slot = 0 } ∷ []); source = 0; start = 34; len = 8; line = 2; column = 16 } ∷
    -- 8
    record { kind = (SlNumber (pos 1)); children = []; tags = Expression ∷ []; meaning = Nothing; root = 0; level = 0; slots = 0; sees = (record { name = codes "n"; up = 0; slot = 0 } ∷ []); source = 0; start = 41; len = 1; line = 2; column = 23 } ∷
    -- 9
    record { kind = SlReturn; children = 10 ∷ []; tags = Statement ∷ []; meaning = Nothing; root = 0; level = 0; slots = 0; sees = (record { name = codes "n"; up = 0; slot = 0 } ∷ []); source = 0; start = 48; len = 22; line = 3; column = 3 } ∷
    -- 10
    record { kind = (SlBinary Mul); children = 11 ∷ 12 ∷ []; tags = Expression ∷ []; meaning = Nothing; root = 0; level = 0; slots = 0; sees = (record { name = codes "n"; up = 0; slot = 0 } ∷ []); source = 0; start = 55; len = 15; line = 3; column = 10 } ∷
    -- 11
    record { kind = (SlName (codes "n")); children = []; tags = Expression ∷ ReadVariable ∷ []; meaning = (Local 0 0); root = 0; level = 0; slots = 0; sees = (record { name = codes "n"; up = 0; slot = 0 } ∷ []); source = 0; start = 55; len = 1; line = 3; column = 10 } ∷
    -- 12
    record { kind = SlCall; children = 13 ∷ 14 ∷ []; tags = Expression ∷ Call ∷ []; meaning = Nothing; root = 0; level = 0; slots = 0; sees = (record { name = codes "n"; up = 0; slot = 0 } ∷ []); source = 0; start = 59; len = 11; line = 3; column = 14 } ∷
    -- 13
    record { kind = (SlName (codes "fact")); children = []; tags = Expression ∷ []; meaning = (Means 1); root = 0; level = 0; slots = 0; sees = (record { name = codes "n"; up = 0; slot = 0 } ∷ []); source = 0; start = 59; len = 4; line = 3; column = 14 } ∷
    -- 14
    record { kind = (SlBinary Sub); children = 15 ∷ 16 ∷ []; tags = Expression ∷ []; meaning = Nothing; root = 0; level = 0; slots = 0; sees = (record { name = codes "n"; up = 0; slot = 0 } ∷ []); source = 0; start = 64; len = 5; line = 3; column = 19 } ∷
    -- 15
    record { kind = (SlName (codes "n")); children = []; tags = Expression ∷ ReadVariable ∷ []; meaning = (Local 0 0); root = 0; level = 0; slots = 0; sees = (record { name = codes "n"; up = 0; slot = 0 } ∷ []); source = 0; start = 64; len = 1; line = 3; column = 19 } ∷
    -- 16
    record { kind = (SlNumber (pos 1)); children = []; tags = Expression ∷ []; meaning = Nothing; root = 0; level = 0; slots = 0; sees = (record { name = codes "n"; up = 0; slot = 0 } ∷ []); source = 0; start = 68; len = 1; line = 3; column = 23 } ∷
    -- 17
    record { kind = (SlFunction (codes "main") []); children = 18 ∷ []; tags = Root ∷ []; meaning = Nothing; root = 17; level = 0; slots = 0; sees = []; source = 0; start = 74; len = 39; line = 5; column = 1 } ∷
    -- 18
    record { kind = SlBody; children = 19 ∷ []; tags = RootBody ∷ []; meaning = Nothing; root = 17; level = 0; slots = 0; sees = []; source = 0; start = 90; len = 23; line = 5; column = 17 } ∷
    -- 19
    record { kind = SlCall; children = 20 ∷ 21 ∷ []; tags = Expression ∷ Call ∷ Statement ∷ []; meaning = Nothing; root = 17; level = 0; slots = 0; sees = []; source = 0; start = 94; len = 16; line = 6; column = 3 } ∷
    -- 20
    record { kind = (SlName (codes "println")); children = []; tags = Expression ∷ []; meaning = (Means 0); root = 17; level = 0; slots = 0; sees = []; source = 0; start = 94; len = 7; line = 6; column = 3 } ∷
    -- 21
    record { kind = SlCall; children = 22 ∷ 23 ∷ []; tags = Expression ∷ Call ∷ []; meaning = Nothing; root = 17; level = 0; slots = 0; sees = []; source = 0; start = 102; len = 7; line = 6; column = 11 } ∷
    -- 22
    record { kind = (SlName (codes "fact")); children = []; tags = Expression ∷ []; meaning = (Means 1); root = 17; level = 0; slots = 0; sees = []; source = 0; start = 102; len = 4; line = 6; column = 11 } ∷
    -- 23
    record { kind = (SlNumber (pos 3)); children = []; tags = Expression ∷ []; meaning = Nothing; root = 17; level = 0; slots = 0; sees = []; source = 0; start = 107; len = 1; line = 6; column = 16 } ∷
    []

abbrev items : List Item
items =
    record { name = codes "println"; root = None } ∷
    record { name = codes "fact"; root = Some 0 } ∷
    record { name = codes "main"; root = Some 17 } ∷
    []

abbrev pub program : Program
program = record { nodes = nodes; items = items; mains = None ∷ []; entries = 2 ∷ [] }

pub six : brief (meaning_of program 2 1000000 []) ≡ (codes "6\n", Done Null, 44, 80)
unfolding meaning_of evaluated digits
six = refl
