-- A parameter that is named twice is one variable, set by the later argument.
use Rattle.std.specs.Prelude.{◌≡◌, refl, List, [], ◌∷◌, None, Some, pos, codes}
use Rattle.std.specs.Fmt.{digits}
use Rattle.pd_values.specs.declared.value.End.TheVariants.{Done}
use Rattle.pd_values.specs.declared.value.Value.TheVariants.{Null}
use Rattle.pd_meaning.specs.Meaning.{meaning_of, evaluated}
use Rattle.pd_meaning.proofs.Brief.{output_and_end}
use Rattle.pd_tree.specs.declared.kind.Kind.TheVariants.{SlBody, SlCall, SlFunction, SlName, SlNumber}
use Rattle.pd_values.specs.declared.value.Tag.TheVariants.{Statement, Call, Root, RootBody, Expression, ReadVariable}
use Rattle.pd_tree.specs.declared.kind.Meaning.TheVariants.{Local, Item as Means, Nothing}
use Rattle.pd_tree.specs.Program.{Program, Node, Item}

abbrev nodes : List Node
nodes =
    -- 0
    record { kind = (SlFunction (codes "f") (codes "a" ∷ codes "a" ∷ [])); children = 1 ∷ []; tags = Root ∷ []; meaning = Nothing; root = 0; level = 0; slots = 1; sees = (record { name = codes "a"; up = 0; slot = 0 } ∷ []); source = 0; start = 0; len = 32; line = 1; column = 1 } ∷
    -- 1
    record { kind = SlBody; children = 2 ∷ []; tags = RootBody ∷ []; meaning = Nothing; root = 0; level = 0; slots = 0; sees = (record { name = codes "a"; up = 0; slot = 0 } ∷ []); source = 0; start = 17; len = 15; line = 1; column = 18 } ∷
    -- 2
    record { kind = SlCall; children = 3 ∷ 4 ∷ []; tags = Expression ∷ Call ∷ Statement ∷ []; meaning = Nothing; root = 0; level = 0; slots = 0; sees = (record { name = codes "a"; up = 0; slot = 0 } ∷ []); source = 0; start = 19; len = 10; line = 1; column = 20 } ∷
    -- 3
    record { kind = (SlName (codes "println")); children = []; tags = Expression ∷ []; meaning = (Means 0); root = 0; level = 0; slots = 0; sees = (record { name = codes "a"; up = 0; slot = 0 } ∷ []); source = 0; start = 19; len = 7; line = 1; column = 20 } ∷
    -- 4
    record { kind = (SlName (codes "a")); children = []; tags = Expression ∷ ReadVariable ∷ []; meaning = (Local 0 0); root = 0; level = 0; slots = 0; sees = (record { name = codes "a"; up = 0; slot = 0 } ∷ []); source = 0; start = 27; len = 1; line = 1; column = 28 } ∷
    -- 5
    record { kind = (SlFunction (codes "main") []); children = 6 ∷ []; tags = Root ∷ []; meaning = Nothing; root = 5; level = 0; slots = 0; sees = []; source = 0; start = 33; len = 46; line = 2; column = 1 } ∷
    -- 6
    record { kind = SlBody; children = 7 ∷ 11 ∷ 14 ∷ []; tags = RootBody ∷ []; meaning = Nothing; root = 5; level = 0; slots = 0; sees = []; source = 0; start = 49; len = 30; line = 2; column = 17 } ∷
    -- 7
    record { kind = SlCall; children = 8 ∷ 9 ∷ 10 ∷ []; tags = Expression ∷ Call ∷ Statement ∷ []; meaning = Nothing; root = 5; level = 0; slots = 0; sees = []; source = 0; start = 51; len = 7; line = 2; column = 19 } ∷
    -- 8
    record { kind = (SlName (codes "f")); children = []; tags = Expression ∷ []; meaning = (Means 1); root = 5; level = 0; slots = 0; sees = []; source = 0; start = 51; len = 1; line = 2; column = 19 } ∷
    -- 9
    record { kind = (SlNumber (pos 1)); children = []; tags = Expression ∷ []; meaning = Nothing; root = 5; level = 0; slots = 0; sees = []; source = 0; start = 53; len = 1; line = 2; column = 21 } ∷
    -- 10
    record { kind = (SlNumber (pos 2)); children = []; tags = Expression ∷ []; meaning = Nothing; root = 5; level = 0; slots = 0; sees = []; source = 0; start = 56; len = 1; line = 2; column = 24 } ∷
    -- 11
    record { kind = SlCall; children = 12 ∷ 13 ∷ []; tags = Expression ∷ Call ∷ Statement ∷ []; meaning = Nothing; root = 5; level = 0; slots = 0; sees = []; source = 0; start = 60; len = 4; line = 2; column = 28 } ∷
    -- 12
    record { kind = (SlName (codes "f")); children = []; tags = Expression ∷ []; meaning = (Means 1); root = 5; level = 0; slots = 0; sees = []; source = 0; start = 60; len = 1; line = 2; column = 28 } ∷
    -- 13
    record { kind = (SlNumber (pos 1)); children = []; tags = Expression ∷ []; meaning = Nothing; root = 5; level = 0; slots = 0; sees = []; source = 0; start = 62; len = 1; line = 2; column = 30 } ∷
    -- 14
    record { kind = SlCall; children = 15 ∷ 16 ∷ 17 ∷ 18 ∷ []; tags = Expression ∷ Call ∷ Statement ∷ []; meaning = Nothing; root = 5; level = 0; slots = 0; sees = []; source = 0; start = 66; len = 10; line = 2; column = 34 } ∷
    -- 15
    record { kind = (SlName (codes "f")); children = []; tags = Expression ∷ []; meaning = (Means 1); root = 5; level = 0; slots = 0; sees = []; source = 0; start = 66; len = 1; line = 2; column = 34 } ∷
    -- 16
    record { kind = (SlNumber (pos 1)); children = []; tags = Expression ∷ []; meaning = Nothing; root = 5; level = 0; slots = 0; sees = []; source = 0; start = 68; len = 1; line = 2; column = 36 } ∷
    -- 17
    record { kind = (SlNumber (pos 2)); children = []; tags = Expression ∷ []; meaning = Nothing; root = 5; level = 0; slots = 0; sees = []; source = 0; start = 71; len = 1; line = 2; column = 39 } ∷
    -- 18
    record { kind = (SlNumber (pos 3)); children = []; tags = Expression ∷ []; meaning = Nothing; root = 5; level = 0; slots = 0; sees = []; source = 0; start = 74; len = 1; line = 2; column = 42 } ∷
    []

abbrev items : List Item
items =
    record { name = codes "println"; root = None } ∷
    record { name = codes "f"; root = Some 0 } ∷
    record { name = codes "main"; root = Some 5 } ∷
    []

abbrev pub program : Program
program = record { nodes = nodes; items = items; mains = None ∷ []; entries = 2 ∷ [] }

pub later_argument : output_and_end (meaning_of program 2 1000000 []) ≡ (codes "2\nNULL\n2\n", Done Null)
unfolding meaning_of evaluated digits
later_argument = refl
