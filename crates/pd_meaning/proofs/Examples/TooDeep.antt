-- A function that calls itself without end.
use Rattle.std.specs.Prelude.{◌≡◌, refl, List, [], ◌∷◌, None, Some, codes}
use Rattle.std.specs.Fmt.{digits}
use Rattle.pd_values.specs.declared.value.End.TheVariants.{Faulted}
use Rattle.pd_values.specs.declared.value.Fault.TheVariants.{Depth}
use Rattle.pd_meaning.specs.Meaning.{meaning_of, evaluated}
use Rattle.pd_meaning.proofs.Brief.{output_end_and_fuel}
use Rattle.pd_tree.specs.declared.kind.Kind.TheVariants.{SlBody, SlCall, SlFunction, SlName, SlReturn}
use Rattle.pd_values.specs.declared.value.Tag.TheVariants.{Statement, Call, Root, RootBody, Expression}
use Rattle.pd_tree.specs.declared.kind.Meaning.TheVariants.{Item as Means, Nothing}
use Rattle.pd_tree.specs.Program.{Program, Node, Item}

abbrev nodes : List Node
nodes =
    -- 0
    record { kind = (SlFunction (codes "f") []); children = 1 ∷ []; tags = Root ∷ []; meaning = Nothing; root = 0; level = 0; slots = 0; sees = []; source = 0; start = 0; len = 28; line = 1; column = 1 } ∷
    -- 1
    record { kind = SlBody; children = 2 ∷ []; tags = RootBody ∷ []; meaning = Nothing; root = 0; level = 0; slots = 0; sees = []; source = 0; start = 13; len = 15; line = 1; column = 14 } ∷
    -- 2
    record { kind = SlReturn; children = 3 ∷ []; tags = Statement ∷ []; meaning = Nothing; root = 0; level = 0; slots = 0; sees = []; source = 0; start = 15; len = 10; line = 1; column = 16 } ∷
    -- 3
    record { kind = SlCall; children = 4 ∷ []; tags = Expression ∷ Call ∷ []; meaning = Nothing; root = 0; level = 0; slots = 0; sees = []; source = 0; start = 22; len = 3; line = 1; column = 23 } ∷
    -- 4
    record { kind = (SlName (codes "f")); children = []; tags = Expression ∷ []; meaning = (Means 1); root = 0; level = 0; slots = 0; sees = []; source = 0; start = 22; len = 1; line = 1; column = 23 } ∷
    -- 5
    record { kind = (SlFunction (codes "main") []); children = 6 ∷ []; tags = Root ∷ []; meaning = Nothing; root = 5; level = 0; slots = 0; sees = []; source = 0; start = 29; len = 24; line = 1; column = 30 } ∷
    -- 6
    record { kind = SlBody; children = 7 ∷ []; tags = RootBody ∷ []; meaning = Nothing; root = 5; level = 0; slots = 0; sees = []; source = 0; start = 45; len = 8; line = 1; column = 46 } ∷
    -- 7
    record { kind = SlCall; children = 8 ∷ []; tags = Expression ∷ Call ∷ Statement ∷ []; meaning = Nothing; root = 5; level = 0; slots = 0; sees = []; source = 0; start = 47; len = 3; line = 1; column = 48 } ∷
    -- 8
    record { kind = (SlName (codes "f")); children = []; tags = Expression ∷ []; meaning = (Means 1); root = 5; level = 0; slots = 0; sees = []; source = 0; start = 47; len = 1; line = 1; column = 48 } ∷
    []

abbrev items : List Item
items =
    record { name = codes "println"; root = None } ∷
    record { name = codes "f"; root = Some 0 } ∷
    record { name = codes "main"; root = Some 5 } ∷
    []

abbrev pub program : Program
program = record { nodes = nodes; items = items; mains = None ∷ []; entries = 2 ∷ [] }

pub two_thousand_frames : output_end_and_fuel (meaning_of program 2 1000000 []) ≡ ([], Faulted Depth 3, 9999)
unfolding meaning_of evaluated digits
two_thousand_frames = refl
