-- A variable is assigned and read twice.
use Rattle.std.specs.Prelude.{◌≡◌, refl, List, [], ◌∷◌, None, Some, pos, codes}
use Rattle.std.specs.Fmt.{digits}
use Rattle.pd_values.specs.declared.value.End.TheVariants.{Done}
use Rattle.pd_values.specs.declared.value.Value.TheVariants.{Null}
use Rattle.pd_meaning.specs.Meaning.{meaning_of, evaluated}
use Rattle.pd_meaning.proofs.Brief.{brief}
use Rattle.pd_tree.specs.declared.kind.Kind.TheVariants.{SlAssign, SlBinary, SlBody, SlCall, SlFunction, SlName, SlNumber}
use Rattle.pd_tree.specs.declared.kind.Operator.TheVariants.{Add}
use Rattle.pd_values.specs.declared.value.Tag.TheVariants.{Statement, Call, Root, RootBody, Expression, ReadVariable, WriteVariable}
use Rattle.pd_tree.specs.declared.kind.Meaning.TheVariants.{Local, Item as Means, Nothing}
use Rattle.pd_tree.specs.Program.{Program, Node, Item}

abbrev nodes : List Node
nodes =
    -- 0
    record { kind = (SlFunction (codes "main") []); children = 1 ∷ []; tags = Root ∷ []; meaning = Nothing; root = 0; level = 0; slots = 1; sees = []; source = 0; start = 0; len = 42; line = 1; column = 1 } ∷
    -- 1
    record { kind = SlBody; children = 2 ∷ 4 ∷ []; tags = RootBody ∷ []; meaning = Nothing; root = 0; level = 0; slots = 0; sees = []; source = 0; start = 16; len = 26; line = 1; column = 17 } ∷
    -- 2
    record { kind = (SlAssign (codes "a")); children = 3 ∷ []; tags = Expression ∷ WriteVariable ∷ Statement ∷ []; meaning = (Local 0 0); root = 0; level = 0; slots = 0; sees = []; source = 0; start = 18; len = 5; line = 1; column = 19 } ∷
    -- 3
    record { kind = (SlNumber (pos 1)); children = []; tags = Expression ∷ []; meaning = Nothing; root = 0; level = 0; slots = 0; sees = []; source = 0; start = 22; len = 1; line = 1; column = 23 } ∷
    -- 4
    record { kind = SlCall; children = 5 ∷ 6 ∷ []; tags = Expression ∷ Call ∷ Statement ∷ []; meaning = Nothing; root = 0; level = 0; slots = 0; sees = (record { name = codes "a"; up = 0; slot = 0 } ∷ []); source = 0; start = 25; len = 14; line = 1; column = 26 } ∷
    -- 5
    record { kind = (SlName (codes "println")); children = []; tags = Expression ∷ []; meaning = (Means 0); root = 0; level = 0; slots = 0; sees = (record { name = codes "a"; up = 0; slot = 0 } ∷ []); source = 0; start = 25; len = 7; line = 1; column = 26 } ∷
    -- 6
    record { kind = (SlBinary Add); children = 7 ∷ 8 ∷ []; tags = Expression ∷ []; meaning = Nothing; root = 0; level = 0; slots = 0; sees = (record { name = codes "a"; up = 0; slot = 0 } ∷ []); source = 0; start = 33; len = 5; line = 1; column = 34 } ∷
    -- 7
    record { kind = (SlName (codes "a")); children = []; tags = Expression ∷ ReadVariable ∷ []; meaning = (Local 0 0); root = 0; level = 0; slots = 0; sees = (record { name = codes "a"; up = 0; slot = 0 } ∷ []); source = 0; start = 33; len = 1; line = 1; column = 34 } ∷
    -- 8
    record { kind = (SlName (codes "a")); children = []; tags = Expression ∷ ReadVariable ∷ []; meaning = (Local 0 0); root = 0; level = 0; slots = 0; sees = (record { name = codes "a"; up = 0; slot = 0 } ∷ []); source = 0; start = 37; len = 1; line = 1; column = 38 } ∷
    []

abbrev items : List Item
items =
    record { name = codes "println"; root = None } ∷
    record { name = codes "main"; root = Some 0 } ∷
    []

abbrev pub program : Program
program = record { nodes = nodes; items = items; mains = None ∷ []; entries = 1 ∷ [] }

pub two : brief (meaning_of program 1 1000000 []) ≡ (codes "2\n", Done Null, 9, 18)
unfolding meaning_of evaluated digits
two = refl
