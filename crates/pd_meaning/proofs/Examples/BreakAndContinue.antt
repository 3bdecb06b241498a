-- A loop that is left and one whose turns are cut short; a return out of a loop.
use Rattle.std.specs.Prelude.{◌≡◌, refl, List, [], ◌∷◌, None, Some, pos, codes}
use Rattle.std.specs.Fmt.{digits}
use Rattle.pd_values.specs.declared.value.End.TheVariants.{Done}
use Rattle.pd_values.specs.declared.value.Value.TheVariants.{Null}
use Rattle.pd_meaning.specs.Meaning.{meaning_of, evaluated}
use Rattle.pd_meaning.proofs.Brief.{output_and_end}
use Rattle.pd_tree.specs.declared.kind.Kind.TheVariants.{SlAssign, SlBinary, SlBlock, SlBody, SlBreak, SlCall, SlContinue, SlFunction, SlIf, SlName, SlNumber, SlReturn, SlWhile}
use Rattle.pd_tree.specs.declared.kind.Operator.TheVariants.{Add, Equal, Less}
use Rattle.pd_values.specs.declared.value.Tag.TheVariants.{Statement, Call, Root, RootBody, Expression, ReadVariable, WriteVariable}
use Rattle.pd_tree.specs.declared.kind.Meaning.TheVariants.{Local, Item as Means, Nothing}
use Rattle.pd_tree.specs.Program.{Program, Node, Item}

abbrev nodes : List Node
nodes =
    -- 0
    record { kind = (SlFunction (codes "f") []); children = 1 ∷ []; tags = Root ∷ []; meaning = Nothing; root = 0; level = 0; slots = 0; sees = []; source = 0; start = 0; len = 46; line = 1; column = 1 } ∷
    -- 1
    record { kind = SlBody; children = 2 ∷ []; tags = RootBody ∷ []; meaning = Nothing; root = 0; level = 0; slots = 0; sees = []; source = 0; start = 13; len = 33; line = 1; column = 14 } ∷
    -- 2
    record { kind = SlWhile; children = 3 ∷ 5 ∷ []; tags = []; meaning = Nothing; root = 0; level = 0; slots = 0; sees = []; source = 0; start = 15; len = 29; line = 1; column = 16 } ∷
    -- 3
    record { kind = SlCall; children = 4 ∷ []; tags = Expression ∷ Call ∷ Statement ∷ []; meaning = Nothing; root = 0; level = 0; slots = 0; sees = []; source = 0; start = 22; len = 7; line = 1; column = 23 } ∷
    -- 4
    record { kind = (SlName (codes "true_")); children = []; tags = Expression ∷ []; meaning = (Means 2); root = 0; level = 0; slots = 0; sees = []; source = 0; start = 22; len = 5; line = 1; column = 23 } ∷
    -- 5
    record { kind = SlBlock; children = 6 ∷ []; tags = []; meaning = Nothing; root = 0; level = 0; slots = 0; sees = []; source = 0; start = 31; len = 13; line = 1; column = 32 } ∷
    -- 6
    record { kind = SlReturn; children = 7 ∷ []; tags = Statement ∷ []; meaning = Nothing; root = 0; level = 0; slots = 0; sees = []; source = 0; start = 33; len = 8; line = 1; column = 34 } ∷
    -- 7
    record { kind = (SlNumber (pos 7)); children = []; tags = Expression ∷ []; meaning = Nothing; root = 0; level = 0; slots = 0; sees = []; source = 0; start = 40; len = 1; line = 1; column = 41 } ∷
    -- 8
    record { kind = (SlFunction (codes "true_") []); children = 9 ∷ []; tags = Root ∷ []; meaning = Nothing; root = 8; level = 0; slots = 0; sees = []; source = 0; start = 47; len = 35; line = 2; column = 1 } ∷
    -- 9
    record { kind = SlBody; children = 10 ∷ []; tags = RootBody ∷ []; meaning = Nothing; root = 8; level = 0; slots = 0; sees = []; source = 0; start = 64; len = 18; line = 2; column = 18 } ∷
    -- 10
    record { kind = SlReturn; children = 11 ∷ []; tags = Statement ∷ []; meaning = Nothing; root = 8; level = 0; slots = 0; sees = []; source = 0; start = 66; len = 13; line = 2; column = 20 } ∷
    -- 11
    record { kind = (SlBinary Equal); children = 12 ∷ 13 ∷ []; tags = Expression ∷ []; meaning = Nothing; root = 8; level = 0; slots = 0; sees = []; source = 0; start = 73; len = 6; line = 2; column = 27 } ∷
    -- 12
    record { kind = (SlNumber (pos 1)); children = []; tags = Expression ∷ []; meaning = Nothing; root = 8; level = 0; slots = 0; sees = []; source = 0; start = 73; len = 1; line = 2; column = 27 } ∷
    -- 13
    record { kind = (SlNumber (pos 1)); children = []; tags = Expression ∷ []; meaning = Nothing; root = 8; level = 0; slots = 0; sees = []; source = 0; start = 78; len = 1; line = 2; column = 32 } ∷
    -- 14
    record { kind = (SlFunction (codes "main") []); children = 15 ∷ []; tags = Root ∷ []; meaning = Nothing; root = 14; level = 0; slots = 1; sees = []; source = 0; start = 83; len = 130; line = 3; column = 1 } ∷
    -- 15
    record { kind = SlBody; children = 16 ∷ 18 ∷ 42 ∷ []; tags = RootBody ∷ []; meaning = Nothing; root = 14; level = 0; slots = 0; sees = []; source = 0; start = 99; len = 114; line = 3; column = 17 } ∷
    -- 16
    record { kind = (SlAssign (codes "i")); children = 17 ∷ []; tags = Expression ∷ WriteVariable ∷ Statement ∷ []; meaning = (Local 0 0); root = 14; level = 0; slots = 0; sees = []; source = 0; start = 101; len = 5; line = 3; column = 19 } ∷
    -- 17
    record { kind = (SlNumber (pos 0)); children = []; tags = Expression ∷ []; meaning = Nothing; root = 14; level = 0; slots = 0; sees = []; source = 0; start = 105; len = 1; line = 3; column = 23 } ∷
    -- 18
    record { kind = SlWhile; children = 19 ∷ 22 ∷ []; tags = []; meaning = Nothing; root = 14; level = 0; slots = 0; sees = (record { name = codes "i"; up = 0; slot = 0 } ∷ []); source = 0; start = 108; len = 89; line = 3; column = 26 } ∷
    -- 19
    record { kind = (SlBinary Less); children = 20 ∷ 21 ∷ []; tags = Expression ∷ Statement ∷ []; meaning = Nothing; root = 14; level = 0; slots = 0; sees = (record { name = codes "i"; up = 0; slot = 0 } ∷ []); source = 0; start = 115; len = 5; line = 3; column = 33 } ∷
    -- 20
    record { kind = (SlName (codes "i")); children = []; tags = Expression ∷ ReadVariable ∷ []; meaning = (Local 0 0); root = 14; level = 0; slots = 0; sees = (record { name = codes "i"; up = 0; slot = 0 } ∷ []); source = 0; start = 115; len = 1; line = 3; column = 33 } ∷
    -- 21
    record { kind = (SlNumber (pos 9)); children = []; tags = Expression ∷ []; meaning = Nothing; root = 14; level = 0; slots = 0; sees = (record { name = codes "i"; up = 0; slot = 0 } ∷ []); source = 0; start = 119; len = 1; line = 3; column = 37 } ∷
    -- 22
    record { kind = SlBlock; children = 23 ∷ 27 ∷ 33 ∷ 39 ∷ []; tags = []; meaning = Nothing; root = 14; level = 0; slots = 0; sees = (record { name = codes "i"; up = 0; slot = 0 } ∷ []); source = 0; start = 122; len = 75; line = 3; column = 40 } ∷
    -- 23
    record { kind = (SlAssign (codes "i")); children = 24 ∷ []; tags = Expression ∷ WriteVariable ∷ Statement ∷ []; meaning = (Local 0 0); root = 14; level = 0; slots = 0; sees = (record { name = codes "i"; up = 0; slot = 0 } ∷ []); source = 0; start = 124; len = 9; line = 3; column = 42 } ∷
    -- 24
    record { kind = (SlBinary Add); children = 25 ∷ 26 ∷ []; tags = Expression ∷ []; meaning = Nothing; root = 14; level = 0; slots = 0; sees = (record { name = codes "i"; up = 0; slot = 0 } ∷ []); source = 0; start = 128; len = 5; line = 3; column = 46 } ∷
    -- 25
    record { kind = (SlName (codes "i")); children = []; tags = Expression ∷ ReadVariable ∷ []; meaning = (Local 0 0); root = 14; level = 0; slots = 0; sees = (record { name = codes "i"; up = 0; slot = 0 } ∷ []); source = 0; start = 128; len = 1; line = 3; column = 46 } ∷
    -- 26
    record { kind = (SlNumber (pos 1)); children = []; tags = Expression ∷ []; meaning = Nothing; root = 14; level = 0; slots = 0; sees = (record { name = codes "i"; up = 0; slot = 0 } ∷ []); source = 0; start = 132; len = 1; line = 3; column = 50 } ∷
    -- 27
    record { kind = SlIf; children = 28 ∷ 31 ∷ []; tags = []; meaning = Nothing; root = 14; level = 0; slots = 0; sees = (record { name = codes "i"; up = 0; slot = 0 } ∷ []); source = 0; start = 135; len = 25; line = 3; column = 53 } ∷
    -- 28
    record { kind = (SlBinary Equal); children = 29 ∷ 30 ∷ []; tags = Expression ∷ Statement ∷ []; meaning = Nothing; root = 14; level = 0; slots = 0; sees = (record { name = codes "i"; up = 0; slot = 0 } ∷ []); source = 0; start = 139; len = 6; line = 3; column = 57 } ∷
    -- 29
    record { kind = (SlName (codes "i")); children = []; tags = Expression ∷ ReadVariable ∷ []; meaning = (Local 0 0); root = 14; level = 0; slots = 0; sees = (record { name = codes "i"; up = 0; slot = 0 } ∷ []); source = 0; start = 139; len = 1; line = 3; column = 57 } ∷
    -- 30
    record { kind = (SlNumber (pos 2)); children = []; tags = Expression ∷ []; meaning = Nothing; root = 14; level = 0; slots = 0; sees = (record { name = codes "i"; up = 0; slot = 0 } ∷ []); source = 0; start = 144; len = 1; line = 3; column = 62 } ∷
    -- 31
    record { kind = SlBlock; children = 32 ∷ []; tags = []; meaning = Nothing; root = 14; level = 0; slots = 0; sees = (record { name = codes "i"; up = 0; slot = 0 } ∷ []); source = 0; start = 147; len = 13; line = 3; column = 65 } ∷
    -- 32
    record { kind = SlContinue; children = []; tags = Statement ∷ []; meaning = Nothing; root = 14; level = 0; slots = 0; sees = (record { name = codes "i"; up = 0; slot = 0 } ∷ []); source = 0; start = 149; len = 8; line = 3; column = 67 } ∷
    -- 33
    record { kind = SlIf; children = 34 ∷ 37 ∷ []; tags = []; meaning = Nothing; root = 14; level = 0; slots = 0; sees = (record { name = codes "i"; up = 0; slot = 0 } ∷ []); source = 0; start = 161; len = 22; line = 3; column = 79 } ∷
    -- 34
    record { kind = (SlBinary Equal); children = 35 ∷ 36 ∷ []; tags = Expression ∷ Statement ∷ []; meaning = Nothing; root = 14; level = 0; slots = 0; sees = (record { name = codes "i"; up = 0; slot = 0 } ∷ []); source = 0; start = 165; len = 6; line = 3; column = 83 } ∷
    -- 35
    record { kind = (SlName (codes "i")); children = []; tags = Expression ∷ ReadVariable ∷ []; meaning = (Local 0 0); root = 14; level = 0; slots = 0; sees = (record { name = codes "i"; up = 0; slot = 0 } ∷ []); source = 0; start = 165; len = 1; line = 3; column = 83 } ∷
    -- 36
    record { kind = (SlNumber (pos 5)); children = []; tags = Expression ∷ []; meaning = Nothing; root = 14; level = 0; slots = 0; sees = (record { name = codes "i"; up = 0; slot = 0 } ∷ []); source = 0; start = 170; len = 1; line = 3; column = 88 } ∷
    -- 37
    record { kind = SlBlock; children = 38 ∷ []; tags = []; meaning = Nothing; root = 14; level = 0; slots = 0; sees = (record { name = codes "i"; up = 0; slot = 0 } ∷ []); source = 0; start = 173; len = 10; line = 3; column = 91 } ∷
    -- 38
    record { kind = SlBreak; children = []; tags = Statement ∷ []; meaning = Nothing; root = 14; level = 0; slots = 0; sees = (record { name = codes "i"; up = 0; slot = 0 } ∷ []); source = 0; start = 175; len = 5; line = 3; column = 93 } ∷
    -- 39
    record { kind = SlCall; children = 40 ∷ 41 ∷ []; tags = Expression ∷ Call ∷ Statement ∷ []; meaning = Nothing; root = 14; level = 0; slots = 0; sees = (record { name = codes "i"; up = 0; slot = 0 } ∷ []); source = 0; start = 184; len = 10; line = 3; column = 102 } ∷
    -- 40
    record { kind = (SlName (codes "println")); children = []; tags = Expression ∷ []; meaning = (Means 0); root = 14; level = 0; slots = 0; sees = (record { name = codes "i"; up = 0; slot = 0 } ∷ []); source = 0; start = 184; len = 7; line = 3; column = 102 } ∷
    -- 41
    record { kind = (SlName (codes "i")); children = []; tags = Expression ∷ ReadVariable ∷ []; meaning = (Local 0 0); root = 14; level = 0; slots = 0; sees = (record { name = codes "i"; up = 0; slot = 0 } ∷ []); source = 0; start = 192; len = 1; line = 3; column = 110 } ∷
    -- 42
    record { kind = SlCall; children = 43 ∷ 44 ∷ []; tags = Expression ∷ Call ∷ Statement ∷ []; meaning = Nothing; root = 14; level = 0; slots = 0; sees = (record { name = codes "i"; up = 0; slot = 0 } ∷ []); source = 0; start = 198; len = 12; line = 3; column = 116 } ∷
    -- 43
    record { kind = (SlName (codes "println")); children = []; tags = Expression ∷ []; meaning = (Means 0); root = 14; level = 0; slots = 0; sees = (record { name = codes "i"; up = 0; slot = 0 } ∷ []); source = 0; start = 198; len = 7; line = 3; column = 116 } ∷
    -- 44
    record { kind = SlCall; children = 45 ∷ []; tags = Expression ∷ Call ∷ []; meaning = Nothing; root = 14; level = 0; slots = 0; sees = (record { name = codes "i"; up = 0; slot = 0 } ∷ []); source = 0; start = 206; len = 3; line = 3; column = 124 } ∷
    -- 45
    record { kind = (SlName (codes "f")); children = []; tags = Expression ∷ []; meaning = (Means 1); root = 14; level = 0; slots = 0; sees = (record { name = codes "i"; up = 0; slot = 0 } ∷ []); source = 0; start = 206; len = 1; line = 3; column = 124 } ∷
    []

abbrev items : List Item
items =
    record { name = codes "println"; root = None } ∷
    record { name = codes "f"; root = Some 0 } ∷
    record { name = codes "true_"; root = Some 8 } ∷
    record { name = codes "main"; root = Some 14 } ∷
    []

abbrev pub program : Program
program = record { nodes = nodes; items = items; mains = None ∷ []; entries = 3 ∷ [] }

pub cut_short : output_and_end (meaning_of program 3 1000000 []) ≡ (codes "1\n3\n4\n7\n", Done Null)
unfolding meaning_of evaluated digits
cut_short = refl
