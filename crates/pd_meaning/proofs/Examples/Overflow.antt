-- A sum outside 64 bits is a fault of its node.
use Rattle.std.specs.Prelude.{◌≡◌, refl, List, [], ◌∷◌, None, Some, pos, codes}
use Rattle.std.specs.Fmt.{digits}
use Rattle.pd_values.specs.declared.value.End.TheVariants.{Faulted}
use Rattle.pd_values.specs.declared.value.Fault.TheVariants.{Overflow}
use Rattle.pd_meaning.specs.Meaning.{meaning_of, evaluated}
use Rattle.pd_meaning.proofs.Brief.{brief}
use Rattle.pd_tree.specs.declared.kind.Kind.TheVariants.{SlBinary, SlBody, SlCall, SlFunction, SlName, SlNumber}
use Rattle.pd_tree.specs.declared.kind.Operator.TheVariants.{Add}
use Rattle.pd_values.specs.declared.value.Tag.TheVariants.{Statement, Call, Root, RootBody, Expression}
use Rattle.pd_tree.specs.declared.kind.Meaning.TheVariants.{Item as Means, Nothing}
use Rattle.pd_tree.specs.Program.{Program, Node, Item}

abbrev nodes : List Node
nodes =
    -- 0
    record { kind = (SlFunction (codes "main") []); children = 1 ∷ []; tags = Root ∷ []; meaning = Nothing; root = 0; level = 0; slots = 0; sees = []; source = 0; start = 0; len = 53; line = 1; column = 1 } ∷
    -- 1
    record { kind = SlBody; children = 2 ∷ []; tags = RootBody ∷ []; meaning = Nothing; root = 0; level = 0; slots = 0; sees = []; source = 0; start = 16; len = 37; line = 1; column = 17 } ∷
    -- 2
    record { kind = SlCall; children = 3 ∷ 4 ∷ []; tags = Expression ∷ Call ∷ Statement ∷ []; meaning = Nothing; root = 0; level = 0; slots = 0; sees = []; source = 0; start = 18; len = 32; line = 1; column = 19 } ∷
    -- 3
    record { kind = (SlName (codes "println")); children = []; tags = Expression ∷ []; meaning = (Means 0); root = 0; level = 0; slots = 0; sees = []; source = 0; start = 18; len = 7; line = 1; column = 19 } ∷
    -- 4
    record { kind = (SlBinary Add); children = 5 ∷ 6 ∷ []; tags = Expression ∷ []; meaning = Nothing; root = 0; level = 0; slots = 0; sees = []; source = 0; start = 26; len = 23; line = 1; column = 27 } ∷
    -- 5
    record { kind = (SlNumber (pos 9223372036854775807)); children = []; tags = Expression ∷ []; meaning = Nothing; root = 0; level = 0; slots = 0; sees = []; source = 0; start = 26; len = 19; line = 1; column = 27 } ∷
    -- 6
    record { kind = (SlNumber (pos 1)); children = []; tags = Expression ∷ []; meaning = Nothing; root = 0; level = 0; slots = 0; sees = []; source = 0; start = 48; len = 1; line = 1; column = 49 } ∷
    []

abbrev items : List Item
items =
    record { name = codes "println"; root = None } ∷
    record { name = codes "main"; root = Some 0 } ∷
    []

abbrev pub program : Program
program = record { nodes = nodes; items = items; mains = None ∷ []; entries = 1 ∷ [] }

pub overflow_at_the_sum : brief (meaning_of program 1 1000000 []) ≡ ([], Faulted Overflow 4, 7, 14)
unfolding meaning_of evaluated digits
overflow_at_the_sum = refl
