-- The right side of `||` and `&&` is left out where the left one decides.
use Rattle.std.specs.Prelude.{◌≡◌, refl, List, [], ◌∷◌, None, Some, pos, codes}
use Rattle.std.specs.Fmt.{digits}
use Rattle.pd_values.specs.declared.value.End.TheVariants.{Faulted}
use Rattle.pd_values.specs.declared.value.Fault.TheVariants.{WrongKind}
use Rattle.pd_meaning.specs.Meaning.{meaning_of, evaluated}
use Rattle.pd_meaning.proofs.Brief.{output_and_end}
use Rattle.pd_tree.specs.declared.kind.Kind.TheVariants.{SlAnd, SlBinary, SlBody, SlCall, SlFunction, SlName, SlNumber, SlOr}
use Rattle.pd_tree.specs.declared.kind.Operator.TheVariants.{Div, Equal}
use Rattle.pd_values.specs.declared.value.Tag.TheVariants.{Statement, Call, Root, RootBody, Expression}
use Rattle.pd_tree.specs.declared.kind.Meaning.TheVariants.{Item as Means, Nothing}
use Rattle.pd_tree.specs.Program.{Program, Node, Item}

abbrev nodes : List Node
nodes =
    -- 0
    record { kind = (SlFunction (codes "main") []); children = 1 ∷ []; tags = Root ∷ []; meaning = Nothing; root = 0; level = 0; slots = 0; sees = []; source = 0; start = 0; len = 130; line = 1; column = 1 } ∷
    -- 1
    record { kind = SlBody; children = 2 ∷ 13 ∷ 24 ∷ 33 ∷ []; tags = RootBody ∷ []; meaning = Nothing; root = 0; level = 0; slots = 0; sees = []; source = 0; start = 16; len = 114; line = 1; column = 17 } ∷
    -- 2
    record { kind = SlCall; children = 3 ∷ 4 ∷ []; tags = Expression ∷ Call ∷ Statement ∷ []; meaning = Nothing; root = 0; level = 0; slots = 0; sees = []; source = 0; start = 18; len = 29; line = 1; column = 19 } ∷
    -- 3
    record { kind = (SlName (codes "println")); children = []; tags = Expression ∷ []; meaning = (Means 0); root = 0; level = 0; slots = 0; sees = []; source = 0; start = 18; len = 7; line = 1; column = 19 } ∷
    -- 4
    record { kind = SlOr; children = 5 ∷ 8 ∷ []; tags = Expression ∷ []; meaning = Nothing; root = 0; level = 0; slots = 0; sees = []; source = 0; start = 26; len = 20; line = 1; column = 27 } ∷
    -- 5
    record { kind = (SlBinary Equal); children = 6 ∷ 7 ∷ []; tags = Expression ∷ []; meaning = Nothing; root = 0; level = 0; slots = 0; sees = []; source = 0; start = 26; len = 6; line = 1; column = 27 } ∷
    -- 6
    record { kind = (SlNumber (pos 1)); children = []; tags = Expression ∷ []; meaning = Nothing; root = 0; level = 0; slots = 0; sees = []; source = 0; start = 26; len = 1; line = 1; column = 27 } ∷
    -- 7
    record { kind = (SlNumber (pos 1)); children = []; tags = Expression ∷ []; meaning = Nothing; root = 0; level = 0; slots = 0; sees = []; source = 0; start = 31; len = 1; line = 1; column = 32 } ∷
    -- 8
    record { kind = (SlBinary Equal); children = 9 ∷ 12 ∷ []; tags = Expression ∷ []; meaning = Nothing; root = 0; level = 0; slots = 0; sees = []; source = 0; start = 36; len = 10; line = 1; column = 37 } ∷
    -- 9
    record { kind = (SlBinary Div); children = 10 ∷ 11 ∷ []; tags = Expression ∷ []; meaning = Nothing; root = 0; level = 0; slots = 0; sees = []; source = 0; start = 36; len = 5; line = 1; column = 37 } ∷
    -- 10
    record { kind = (SlNumber (pos 1)); children = []; tags = Expression ∷ []; meaning = Nothing; root = 0; level = 0; slots = 0; sees = []; source = 0; start = 36; len = 1; line = 1; column = 37 } ∷
    -- 11
    record { kind = (SlNumber (pos 0)); children = []; tags = Expression ∷ []; meaning = Nothing; root = 0; level = 0; slots = 0; sees = []; source = 0; start = 40; len = 1; line = 1; column = 41 } ∷
    -- 12
    record { kind = (SlNumber (pos 1)); children = []; tags = Expression ∷ []; meaning = Nothing; root = 0; level = 0; slots = 0; sees = []; source = 0; start = 45; len = 1; line = 1; column = 46 } ∷
    -- 13
    record { kind = SlCall; children = 14 ∷ 15 ∷ []; tags = Expression ∷ Call ∷ Statement ∷ []; meaning = Nothing; root = 0; level = 0; slots = 0; sees = []; source = 0; start = 49; len = 29; line = 1; column = 50 } ∷
    -- 14
    record { kind = (SlName (codes "println")); children = []; tags = Expression ∷ []; meaning = (Means 0); root = 0; level = 0; slots = 0; sees = []; source = 0; start = 49; len = 7; line = 1; column = 50 } ∷
    -- 15
    record { kind = SlAnd; children = 16 ∷ 19 ∷ []; tags = Expression ∷ []; meaning = Nothing; root = 0; level = 0; slots = 0; sees = []; source = 0; start = 57; len = 20; line = 1; column = 58 } ∷
    -- 16
    record { kind = (SlBinary Equal); children = 17 ∷ 18 ∷ []; tags = Expression ∷ []; meaning = Nothing; root = 0; level = 0; slots = 0; sees = []; source = 0; start = 57; len = 6; line = 1; column = 58 } ∷
    -- 17
    record { kind = (SlNumber (pos 1)); children = []; tags = Expression ∷ []; meaning = Nothing; root = 0; level = 0; slots = 0; sees = []; source = 0; start = 57; len = 1; line = 1; column = 58 } ∷
    -- 18
    record { kind = (SlNumber (pos 2)); children = []; tags = Expression ∷ []; meaning = Nothing; root = 0; level = 0; slots = 0; sees = []; source = 0; start = 62; len = 1; line = 1; column = 63 } ∷
    -- 19
    record { kind = (SlBinary Equal); children = 20 ∷ 23 ∷ []; tags = Expression ∷ []; meaning = Nothing; root = 0; level = 0; slots = 0; sees = []; source = 0; start = 67; len = 10; line = 1; column = 68 } ∷
    -- 20
    record { kind = (SlBinary Div); children = 21 ∷ 22 ∷ []; tags = Expression ∷ []; meaning = Nothing; root = 0; level = 0; slots = 0; sees = []; source = 0; start = 67; len = 5; line = 1; column = 68 } ∷
    -- 21
    record { kind = (SlNumber (pos 1)); children = []; tags = Expression ∷ []; meaning = Nothing; root = 0; level = 0; slots = 0; sees = []; source = 0; start = 67; len = 1; line = 1; column = 68 } ∷
    -- 22
    record { kind = (SlNumber (pos 0)); children = []; tags = Expression ∷ []; meaning = Nothing; root = 0; level = 0; slots = 0; sees = []; source = 0; start = 71; len = 1; line = 1; column = 72 } ∷
    -- 23
    record { kind = (SlNumber (pos 1)); children = []; tags = Expression ∷ []; meaning = Nothing; root = 0; level = 0; slots = 0; sees = []; source = 0; start = 76; len = 1; line = 1; column = 77 } ∷
    -- 24
    record { kind = SlCall; children = 25 ∷ 26 ∷ []; tags = Expression ∷ Call ∷ Statement ∷ []; meaning = Nothing; root = 0; level = 0; slots = 0; sees = []; source = 0; start = 80; len = 25; line = 1; column = 81 } ∷
    -- 25
    record { kind = (SlName (codes "println")); children = []; tags = Expression ∷ []; meaning = (Means 0); root = 0; level = 0; slots = 0; sees = []; source = 0; start = 80; len = 7; line = 1; column = 81 } ∷
    -- 26
    record { kind = SlOr; children = 27 ∷ 30 ∷ []; tags = Expression ∷ []; meaning = Nothing; root = 0; level = 0; slots = 0; sees = []; source = 0; start = 88; len = 16; line = 1; column = 89 } ∷
    -- 27
    record { kind = (SlBinary Equal); children = 28 ∷ 29 ∷ []; tags = Expression ∷ []; meaning = Nothing; root = 0; level = 0; slots = 0; sees = []; source = 0; start = 88; len = 6; line = 1; column = 89 } ∷
    -- 28
    record { kind = (SlNumber (pos 1)); children = []; tags = Expression ∷ []; meaning = Nothing; root = 0; level = 0; slots = 0; sees = []; source = 0; start = 88; len = 1; line = 1; column = 89 } ∷
    -- 29
    record { kind = (SlNumber (pos 2)); children = []; tags = Expression ∷ []; meaning = Nothing; root = 0; level = 0; slots = 0; sees = []; source = 0; start = 93; len = 1; line = 1; column = 94 } ∷
    -- 30
    record { kind = (SlBinary Equal); children = 31 ∷ 32 ∷ []; tags = Expression ∷ []; meaning = Nothing; root = 0; level = 0; slots = 0; sees = []; source = 0; start = 98; len = 6; line = 1; column = 99 } ∷
    -- 31
    record { kind = (SlNumber (pos 2)); children = []; tags = Expression ∷ []; meaning = Nothing; root = 0; level = 0; slots = 0; sees = []; source = 0; start = 98; len = 1; line = 1; column = 99 } ∷
    -- 32
    record { kind = (SlNumber (pos 2)); children = []; tags = Expression ∷ []; meaning = Nothing; root = 0; level = 0; slots = 0; sees = []; source = 0; start = 103; len = 1; line = 1; column = 104 } ∷
    -- 33
    record { kind = SlCall; children = 34 ∷ 35 ∷ []; tags = Expression ∷ Call ∷ Statement ∷ []; meaning = Nothing; root = 0; level = 0; slots = 0; sees = []; source = 0; start = 107; len = 20; line = 1; column = 108 } ∷
    -- 34
    record { kind = (SlName (codes "println")); children = []; tags = Expression ∷ []; meaning = (Means 0); root = 0; level = 0; slots = 0; sees = []; source = 0; start = 107; len = 7; line = 1; column = 108 } ∷
    -- 35
    record { kind = SlAnd; children = 36 ∷ 39 ∷ []; tags = Expression ∷ []; meaning = Nothing; root = 0; level = 0; slots = 0; sees = []; source = 0; start = 115; len = 11; line = 1; column = 116 } ∷
    -- 36
    record { kind = (SlBinary Equal); children = 37 ∷ 38 ∷ []; tags = Expression ∷ []; meaning = Nothing; root = 0; level = 0; slots = 0; sees = []; source = 0; start = 115; len = 6; line = 1; column = 116 } ∷
    -- 37
    record { kind = (SlNumber (pos 1)); children = []; tags = Expression ∷ []; meaning = Nothing; root = 0; level = 0; slots = 0; sees = []; source = 0; start = 115; len = 1; line = 1; column = 116 } ∷
    -- 38
    record { kind = (SlNumber (pos 1)); children = []; tags = Expression ∷ []; meaning = Nothing; root = 0; level = 0; slots = 0; sees = []; source = 0; start = 120; len = 1; line = 1; column = 121 } ∷
    -- 39
    record { kind = (SlNumber (pos 3)); children = []; tags = Expression ∷ []; meaning = Nothing; root = 0; level = 0; slots = 0; sees = []; source = 0; start = 125; len = 1; line = 1; column = 126 } ∷
    []

abbrev items : List Item
items =
    record { name = codes "println"; root = None } ∷
    record { name = codes "main"; root = Some 0 } ∷
    []

abbrev pub program : Program
program = record { nodes = nodes; items = items; mains = None ∷ []; entries = 1 ∷ [] }

pub left_decides : output_and_end (meaning_of program 1 1000000 []) ≡ (codes "true\nfalse\ntrue\n", Faulted WrongKind 35)
unfolding meaning_of evaluated digits
left_decides = refl
