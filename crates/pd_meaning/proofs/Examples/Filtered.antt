-- A function that assigns, prints and returns its argument.
use Rattle.std.specs.Prelude.{◌≡◌, refl, List, [], ◌∷◌, None, Some, pos, codes}
use Rattle.std.specs.Fmt.{digits}
use Rattle.pd_values.specs.declared.value.End.TheVariants.{Done}
use Rattle.pd_values.specs.declared.value.Value.TheVariants.{Null}
use Rattle.pd_meaning.specs.Meaning.{meaning_of, evaluated}
use Rattle.pd_meaning.proofs.Brief.{brief}
use Rattle.pd_tree.specs.declared.kind.Kind.TheVariants.{SlAssign, SlBody, SlCall, SlFunction, SlName, SlNumber, SlReturn}
use Rattle.pd_values.specs.declared.value.Tag.TheVariants.{Statement, Call, Root, RootBody, Expression, ReadVariable, WriteVariable}
use Rattle.pd_tree.specs.declared.kind.Meaning.TheVariants.{Local, Item as Means, Nothing}
use Rattle.pd_tree.specs.Program.{Program, Node, Item}

abbrev nodes : List Node
nodes =
    -- 0
    record { kind = (SlFunction (codes "f") (codes "a" ∷ [])); children = 1 ∷ []; tags = Root ∷ []; meaning = Nothing; root = 0; level = 0; slots = 2; sees = (record { name = codes "a"; up = 0; slot = 0 } ∷ []); source = 0; start = 0; len = 52; line = 1; column = 1 } ∷
    -- 1
    record { kind = SlBody; children = 2 ∷ 4 ∷ 7 ∷ []; tags = RootBody ∷ []; meaning = Nothing; root = 0; level = 0; slots = 0; sees = (record { name = codes "a"; up = 0; slot = 0 } ∷ []); source = 0; start = 14; len = 38; line = 1; column = 15 } ∷
    -- 2
    record { kind = (SlAssign (codes "b")); children = 3 ∷ []; tags = Expression ∷ WriteVariable ∷ Statement ∷ []; meaning = (Local 0 1); root = 0; level = 0; slots = 0; sees = (record { name = codes "a"; up = 0; slot = 0 } ∷ []); source = 0; start = 18; len = 5; line = 2; column = 3 } ∷
    -- 3
    record { kind = (SlName (codes "a")); children = []; tags = Expression ∷ ReadVariable ∷ []; meaning = (Local 0 0); root = 0; level = 0; slots = 0; sees = (record { name = codes "a"; up = 0; slot = 0 } ∷ []); source = 0; start = 22; len = 1; line = 2; column = 7 } ∷
    -- 4
    record { kind = SlCall; children = 5 ∷ 6 ∷ []; tags = Expression ∷ Call ∷ Statement ∷ []; meaning = Nothing; root = 0; level = 0; slots = 0; sees = (record { name = codes "a"; up = 0; slot = 0 } ∷ record { name = codes "b"; up = 0; slot = 1 } ∷ []); source = 0; start = 27; len = 10; line = 3; column = 3 } ∷
    -- 5
    record { kind = (SlName (codes "println")); children = []; tags = Expression ∷ []; meaning = (Means 0); root = 0; level = 0; slots = 0; sees = (record { name = codes "a"; up = 0; slot = 0 } ∷ record { name = codes "b"; up = 0; slot = 1 } ∷ []); source = 0; start = 27; len = 7; line = 3; column = 3 } ∷
    -- 6
    record { kind = (SlName (codes "b")); children = []; tags = Expression ∷ ReadVariable ∷ []; meaning = (Local 0 1); root = 0; level = 0; slots = 0; sees = (record { name = codes "a"; up = 0; slot = 0 } ∷ record { name = codes "b"; up = 0; slot = 1 } ∷ []); source = 0; start = 35; len = 1; line = 3; column = 11 } ∷
    -- 7
    record { kind = SlReturn; children = 8 ∷ []; tags = Statement ∷ []; meaning = Nothing; root = 0; level = 0; slots = 0; sees = (record { name = codes "a"; up = 0; slot = 0 } ∷ record { name = codes "b"; up = 0; slot = 1 } ∷ []); source = 0; start = 41; len = 8; line = 4; column = 3 } ∷
    -- 8
    record { kind = (SlName (codes "b")); children = []; tags = Expression ∷ ReadVariable ∷ []; meaning = (Local 0 1); root = 0; level = 0; slots = 0; sees = (record { name = codes "a"; up = 0; slot = 0 } ∷ record { name = codes "b"; up = 0; slot = 1 } ∷ []); source = 0; start = 48; len = 1; line = 4; column = 10 } ∷
    -- 9
    record { kind = (SlFunction (codes "main") []); children = 10 ∷ []; tags = Root ∷ []; meaning = Nothing; root = 9; level = 0; slots = 1; sees = []; source = 0; start = 53; len = 31; line = 6; column = 1 } ∷
    -- 10
    record { kind = SlBody; children = 11 ∷ []; tags = RootBody ∷ []; meaning = Nothing; root = 9; level = 0; slots = 0; sees = []; source = 0; start = 69; len = 15; line = 6; column = 17 } ∷
    -- 11
    record { kind = (SlAssign (codes "c")); children = 12 ∷ []; tags = Expression ∷ WriteVariable ∷ Statement ∷ []; meaning = (Local 0 0); root = 9; level = 0; slots = 0; sees = []; source = 0; start = 73; len = 8; line = 7; column = 3 } ∷
    -- 12
    record { kind = SlCall; children = 13 ∷ 14 ∷ []; tags = Expression ∷ Call ∷ []; meaning = Nothing; root = 9; level = 0; slots = 0; sees = []; source = 0; start = 77; len = 4; line = 7; column = 7 } ∷
    -- 13
    record { kind = (SlName (codes "f")); children = []; tags = Expression ∷ []; meaning = (Means 1); root = 9; level = 0; slots = 0; sees = []; source = 0; start = 77; len = 1; line = 7; column = 7 } ∷
    -- 14
    record { kind = (SlNumber (pos 2)); children = []; tags = Expression ∷ []; meaning = Nothing; root = 9; level = 0; slots = 0; sees = []; source = 0; start = 79; len = 1; line = 7; column = 9 } ∷
    []

abbrev items : List Item
items =
    record { name = codes "println"; root = None } ∷
    record { name = codes "f"; root = Some 0 } ∷
    record { name = codes "main"; root = Some 9 } ∷
    []

abbrev pub program : Program
program = record { nodes = nodes; items = items; mains = None ∷ []; entries = 2 ∷ [] }

pub two_is_printed : brief (meaning_of program 2 1000000 []) ≡ (codes "2\n", Done Null, 15, 30)
unfolding meaning_of evaluated digits
two_is_printed = refl
