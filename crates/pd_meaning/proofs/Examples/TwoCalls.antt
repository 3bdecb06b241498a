-- A function is called twice.
use Rattle.std.specs.Prelude.{◌≡◌, refl, List, [], ◌∷◌, None, Some, pos, codes}
use Rattle.std.specs.Fmt.{digits}
use Rattle.pd_values.specs.declared.value.End.TheVariants.{Done}
use Rattle.pd_values.specs.declared.value.Value.TheVariants.{Null}
use Rattle.pd_meaning.specs.Meaning.{meaning_of, evaluated}
use Rattle.pd_meaning.proofs.Brief.{brief}
use Rattle.pd_tree.specs.declared.kind.Kind.TheVariants.{SlBody, SlCall, SlDebugger, SlFunction, SlName, SlNumber, SlReturn}
use Rattle.pd_values.specs.declared.value.Tag.TheVariants.{Statement, Call, Root, RootBody, Expression, AlwaysHalt}
use Rattle.pd_tree.specs.declared.kind.Meaning.TheVariants.{Item as Means, Nothing}
use Rattle.pd_tree.specs.Program.{Program, Node, Item}

abbrev nodes : List Node
nodes =
    -- 0
    record { kind = (SlFunction (codes "f") []); children = 1 ∷ []; tags = Root ∷ []; meaning = Nothing; root = 0; level = 0; slots = 0; sees = []; source = 0; start = 0; len = 40; line = 1; column = 1 } ∷
    -- 1
    record { kind = SlBody; children = 2 ∷ 3 ∷ []; tags = RootBody ∷ []; meaning = Nothing; root = 0; level = 0; slots = 0; sees = []; source = 0; start = 13; len = 27; line = 1; column = 14 } ∷
    -- 2
    record { kind = SlDebugger; children = []; tags = Statement ∷ AlwaysHalt ∷ []; meaning = Nothing; root = 0; level = 0; slots = 0; sees = []; source = 0; start = 17; len = 8; line = 2; column = 3 } ∷
    -- 3
    record { kind = SlReturn; children = 4 ∷ []; tags = Statement ∷ []; meaning = Nothing; root = 0; level = 0; slots = 0; sees = []; source = 0; start = 29; len = 8; line = 3; column = 3 } ∷
    -- 4
    record { kind = (SlNumber (pos 1)); children = []; tags = Expression ∷ []; meaning = Nothing; root = 0; level = 0; slots = 0; sees = []; source = 0; start = 36; len = 1; line = 3; column = 10 } ∷
    -- 5
    record { kind = (SlFunction (codes "main") []); children = 6 ∷ []; tags = Root ∷ []; meaning = Nothing; root = 5; level = 0; slots = 0; sees = []; source = 0; start = 41; len = 33; line = 5; column = 1 } ∷
    -- 6
    record { kind = SlBody; children = 7 ∷ 9 ∷ []; tags = RootBody ∷ []; meaning = Nothing; root = 5; level = 0; slots = 0; sees = []; source = 0; start = 57; len = 17; line = 5; column = 17 } ∷
    -- 7
    record { kind = SlCall; children = 8 ∷ []; tags = Expression ∷ Call ∷ Statement ∷ []; meaning = Nothing; root = 5; level = 0; slots = 0; sees = []; source = 0; start = 61; len = 3; line = 6; column = 3 } ∷
    -- 8
    record { kind = (SlName (codes "f")); children = []; tags = Expression ∷ []; meaning = (Means 1); root = 5; level = 0; slots = 0; sees = []; source = 0; start = 61; len = 1; line = 6; column = 3 } ∷
    -- 9
    record { kind = SlCall; children = 10 ∷ []; tags = Expression ∷ Call ∷ Statement ∷ []; meaning = Nothing; root = 5; level = 0; slots = 0; sees = []; source = 0; start = 68; len = 3; line = 7; column = 3 } ∷
    -- 10
    record { kind = (SlName (codes "f")); children = []; tags = Expression ∷ []; meaning = (Means 1); root = 5; level = 0; slots = 0; sees = []; source = 0; start = 68; len = 1; line = 7; column = 3 } ∷
    []

abbrev items : List Item
items =
    record { name = codes "println"; root = None } ∷
    record { name = codes "f"; root = Some 0 } ∷
    record { name = codes "main"; root = Some 5 } ∷
    []

abbrev pub program : Program
program = record { nodes = nodes; items = items; mains = None ∷ []; entries = 2 ∷ [] }

pub thirty_two_events : brief (meaning_of program 2 1000000 []) ≡ ([], Done Null, 16, 32)
unfolding meaning_of evaluated digits
thirty_two_events = refl
