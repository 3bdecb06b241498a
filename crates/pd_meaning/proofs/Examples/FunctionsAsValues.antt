-- A function is a value; a later function of a name stands for the earlier one; only a function can be called.
use Rattle.std.specs.Prelude.{◌≡◌, refl, List, [], ◌∷◌, None, Some, pos, codes}
use Rattle.std.specs.Fmt.{digits}
use Rattle.pd_values.specs.declared.value.End.TheVariants.{Faulted}
use Rattle.pd_values.specs.declared.value.Fault.TheVariants.{WrongKind}
use Rattle.pd_meaning.specs.Meaning.{meaning_of, evaluated}
use Rattle.pd_meaning.proofs.Brief.{output_and_end}
use Rattle.pd_tree.specs.declared.kind.Kind.TheVariants.{SlAssign, SlBinary, SlBody, SlCall, SlFunction, SlName, SlNumber, SlReturn, SlText}
use Rattle.pd_tree.specs.declared.kind.Operator.TheVariants.{Add, Equal}
use Rattle.pd_values.specs.declared.value.Tag.TheVariants.{Statement, Call, Root, RootBody, Expression, ReadVariable, WriteVariable}
use Rattle.pd_tree.specs.declared.kind.Meaning.TheVariants.{Local, Item as Means, Nothing}
use Rattle.pd_tree.specs.Program.{Program, Node, Item}

abbrev nodes : List Node
nodes =
    -- 0
    record { kind = (SlFunction (codes "g") []); children = 1 ∷ []; tags = Root ∷ []; meaning = Nothing; root = 0; level = 0; slots = 0; sees = []; source = 0; start = 0; len = 26; line = 1; column = 1 } ∷
    -- 1
    record { kind = SlBody; children = 2 ∷ []; tags = RootBody ∷ []; meaning = Nothing; root = 0; level = 0; slots = 0; sees = []; source = 0; start = 13; len = 13; line = 1; column = 14 } ∷
    -- 2
    record { kind = SlReturn; children = 3 ∷ []; tags = Statement ∷ []; meaning = Nothing; root = 0; level = 0; slots = 0; sees = []; source = 0; start = 15; len = 8; line = 1; column = 16 } ∷
    -- 3
    record { kind = (SlNumber (pos 1)); children = []; tags = Expression ∷ []; meaning = Nothing; root = 0; level = 0; slots = 0; sees = []; source = 0; start = 22; len = 1; line = 1; column = 23 } ∷
    -- 4
    record { kind = (SlFunction (codes "g") []); children = 5 ∷ []; tags = Root ∷ []; meaning = Nothing; root = 4; level = 0; slots = 0; sees = []; source = 0; start = 27; len = 26; line = 2; column = 1 } ∷
    -- 5
    record { kind = SlBody; children = 6 ∷ []; tags = RootBody ∷ []; meaning = Nothing; root = 4; level = 0; slots = 0; sees = []; source = 0; start = 40; len = 13; line = 2; column = 14 } ∷
    -- 6
    record { kind = SlReturn; children = 7 ∷ []; tags = Statement ∷ []; meaning = Nothing; root = 4; level = 0; slots = 0; sees = []; source = 0; start = 42; len = 8; line = 2; column = 16 } ∷
    -- 7
    record { kind = (SlNumber (pos 2)); children = []; tags = Expression ∷ []; meaning = Nothing; root = 4; level = 0; slots = 0; sees = []; source = 0; start = 49; len = 1; line = 2; column = 23 } ∷
    -- 8
    record { kind = (SlFunction (codes "main") []); children = 9 ∷ []; tags = Root ∷ []; meaning = Nothing; root = 8; level = 0; slots = 3; sees = []; source = 0; start = 54; len = 102; line = 3; column = 1 } ∷
    -- 9
    record { kind = SlBody; children = 10 ∷ 12 ∷ 14 ∷ 19 ∷ 22 ∷ 26 ∷ 31 ∷ 36 ∷ 38 ∷ []; tags = RootBody ∷ []; meaning = Nothing; root = 8; level = 0; slots = 0; sees = []; source = 0; start = 70; len = 86; line = 3; column = 17 } ∷
    -- 10
    record { kind = (SlAssign (codes "f")); children = 11 ∷ []; tags = Expression ∷ WriteVariable ∷ Statement ∷ []; meaning = (Local 0 0); root = 8; level = 0; slots = 0; sees = []; source = 0; start = 72; len = 5; line = 3; column = 19 } ∷
    -- 11
    record { kind = (SlName (codes "g")); children = []; tags = Expression ∷ []; meaning = (Means 2); root = 8; level = 0; slots = 0; sees = []; source = 0; start = 76; len = 1; line = 3; column = 23 } ∷
    -- 12
    record { kind = (SlAssign (codes "p")); children = 13 ∷ []; tags = Expression ∷ WriteVariable ∷ Statement ∷ []; meaning = (Local 0 1); root = 8; level = 0; slots = 0; sees = (record { name = codes "f"; up = 0; slot = 0 } ∷ []); source = 0; start = 79; len = 11; line = 3; column = 26 } ∷
    -- 13
    record { kind = (SlName (codes "println")); children = []; tags = Expression ∷ []; meaning = (Means 0); root = 8; level = 0; slots = 0; sees = (record { name = codes "f"; up = 0; slot = 0 } ∷ []); source = 0; start = 83; len = 7; line = 3; column = 30 } ∷
    -- 14
    record { kind = SlCall; children = 15 ∷ 16 ∷ []; tags = Expression ∷ Call ∷ Statement ∷ []; meaning = Nothing; root = 8; level = 0; slots = 0; sees = (record { name = codes "f"; up = 0; slot = 0 } ∷ record { name = codes "p"; up = 0; slot = 1 } ∷ []); source = 0; start = 92; len = 9; line = 3; column = 39 } ∷
    -- 15
    record { kind = (SlName (codes "p")); children = []; tags = Expression ∷ ReadVariable ∷ []; meaning = (Local 0 1); root = 8; level = 0; slots = 0; sees = (record { name = codes "f"; up = 0; slot = 0 } ∷ record { name = codes "p"; up = 0; slot = 1 } ∷ []); source = 0; start = 92; len = 1; line = 3; column = 39 } ∷
    -- 16
    record { kind = (SlBinary Equal); children = 17 ∷ 18 ∷ []; tags = Expression ∷ []; meaning = Nothing; root = 8; level = 0; slots = 0; sees = (record { name = codes "f"; up = 0; slot = 0 } ∷ record { name = codes "p"; up = 0; slot = 1 } ∷ []); source = 0; start = 94; len = 6; line = 3; column = 41 } ∷
    -- 17
    record { kind = (SlName (codes "f")); children = []; tags = Expression ∷ ReadVariable ∷ []; meaning = (Local 0 0); root = 8; level = 0; slots = 0; sees = (record { name = codes "f"; up = 0; slot = 0 } ∷ record { name = codes "p"; up = 0; slot = 1 } ∷ []); source = 0; start = 94; len = 1; line = 3; column = 41 } ∷
    -- 18
    record { kind = (SlName (codes "g")); children = []; tags = Expression ∷ []; meaning = (Means 2); root = 8; level = 0; slots = 0; sees = (record { name = codes "f"; up = 0; slot = 0 } ∷ record { name = codes "p"; up = 0; slot = 1 } ∷ []); source = 0; start = 99; len = 1; line = 3; column = 46 } ∷
    -- 19
    record { kind = SlCall; children = 20 ∷ 21 ∷ []; tags = Expression ∷ Call ∷ Statement ∷ []; meaning = Nothing; root = 8; level = 0; slots = 0; sees = (record { name = codes "f"; up = 0; slot = 0 } ∷ record { name = codes "p"; up = 0; slot = 1 } ∷ []); source = 0; start = 103; len = 4; line = 3; column = 50 } ∷
    -- 20
    record { kind = (SlName (codes "p")); children = []; tags = Expression ∷ ReadVariable ∷ []; meaning = (Local 0 1); root = 8; level = 0; slots = 0; sees = (record { name = codes "f"; up = 0; slot = 0 } ∷ record { name = codes "p"; up = 0; slot = 1 } ∷ []); source = 0; start = 103; len = 1; line = 3; column = 50 } ∷
    -- 21
    record { kind = (SlName (codes "f")); children = []; tags = Expression ∷ ReadVariable ∷ []; meaning = (Local 0 0); root = 8; level = 0; slots = 0; sees = (record { name = codes "f"; up = 0; slot = 0 } ∷ record { name = codes "p"; up = 0; slot = 1 } ∷ []); source = 0; start = 105; len = 1; line = 3; column = 52 } ∷
    -- 22
    record { kind = SlCall; children = 23 ∷ 24 ∷ []; tags = Expression ∷ Call ∷ Statement ∷ []; meaning = Nothing; root = 8; level = 0; slots = 0; sees = (record { name = codes "f"; up = 0; slot = 0 } ∷ record { name = codes "p"; up = 0; slot = 1 } ∷ []); source = 0; start = 109; len = 6; line = 3; column = 56 } ∷
    -- 23
    record { kind = (SlName (codes "p")); children = []; tags = Expression ∷ ReadVariable ∷ []; meaning = (Local 0 1); root = 8; level = 0; slots = 0; sees = (record { name = codes "f"; up = 0; slot = 0 } ∷ record { name = codes "p"; up = 0; slot = 1 } ∷ []); source = 0; start = 109; len = 1; line = 3; column = 56 } ∷
    -- 24
    record { kind = SlCall; children = 25 ∷ []; tags = Expression ∷ Call ∷ []; meaning = Nothing; root = 8; level = 0; slots = 0; sees = (record { name = codes "f"; up = 0; slot = 0 } ∷ record { name = codes "p"; up = 0; slot = 1 } ∷ []); source = 0; start = 111; len = 3; line = 3; column = 58 } ∷
    -- 25
    record { kind = (SlName (codes "f")); children = []; tags = Expression ∷ ReadVariable ∷ []; meaning = (Local 0 0); root = 8; level = 0; slots = 0; sees = (record { name = codes "f"; up = 0; slot = 0 } ∷ record { name = codes "p"; up = 0; slot = 1 } ∷ []); source = 0; start = 111; len = 1; line = 3; column = 58 } ∷
    -- 26
    record { kind = SlCall; children = 27 ∷ 28 ∷ []; tags = Expression ∷ Call ∷ Statement ∷ []; meaning = Nothing; root = 8; level = 0; slots = 0; sees = (record { name = codes "f"; up = 0; slot = 0 } ∷ record { name = codes "p"; up = 0; slot = 1 } ∷ []); source = 0; start = 117; len = 12; line = 3; column = 64 } ∷
    -- 27
    record { kind = (SlName (codes "p")); children = []; tags = Expression ∷ ReadVariable ∷ []; meaning = (Local 0 1); root = 8; level = 0; slots = 0; sees = (record { name = codes "f"; up = 0; slot = 0 } ∷ record { name = codes "p"; up = 0; slot = 1 } ∷ []); source = 0; start = 117; len = 1; line = 3; column = 64 } ∷
    -- 28
    record { kind = (SlBinary Equal); children = 29 ∷ 30 ∷ []; tags = Expression ∷ []; meaning = Nothing; root = 8; level = 0; slots = 0; sees = (record { name = codes "f"; up = 0; slot = 0 } ∷ record { name = codes "p"; up = 0; slot = 1 } ∷ []); source = 0; start = 119; len = 9; line = 3; column = 66 } ∷
    -- 29
    record { kind = (SlName (codes "main")); children = []; tags = Expression ∷ []; meaning = (Means 3); root = 8; level = 0; slots = 0; sees = (record { name = codes "f"; up = 0; slot = 0 } ∷ record { name = codes "p"; up = 0; slot = 1 } ∷ []); source = 0; start = 119; len = 4; line = 3; column = 66 } ∷
    -- 30
    record { kind = (SlName (codes "f")); children = []; tags = Expression ∷ ReadVariable ∷ []; meaning = (Local 0 0); root = 8; level = 0; slots = 0; sees = (record { name = codes "f"; up = 0; slot = 0 } ∷ record { name = codes "p"; up = 0; slot = 1 } ∷ []); source = 0; start = 127; len = 1; line = 3; column = 74 } ∷
    -- 31
    record { kind = SlCall; children = 32 ∷ 33 ∷ []; tags = Expression ∷ Call ∷ Statement ∷ []; meaning = Nothing; root = 8; level = 0; slots = 0; sees = (record { name = codes "f"; up = 0; slot = 0 } ∷ record { name = codes "p"; up = 0; slot = 1 } ∷ []); source = 0; start = 131; len = 10; line = 3; column = 78 } ∷
    -- 32
    record { kind = (SlName (codes "p")); children = []; tags = Expression ∷ ReadVariable ∷ []; meaning = (Local 0 1); root = 8; level = 0; slots = 0; sees = (record { name = codes "f"; up = 0; slot = 0 } ∷ record { name = codes "p"; up = 0; slot = 1 } ∷ []); source = 0; start = 131; len = 1; line = 3; column = 78 } ∷
    -- 33
    record { kind = (SlBinary Add); children = 34 ∷ 35 ∷ []; tags = Expression ∷ []; meaning = Nothing; root = 8; level = 0; slots = 0; sees = (record { name = codes "f"; up = 0; slot = 0 } ∷ record { name = codes "p"; up = 0; slot = 1 } ∷ []); source = 0; start = 133; len = 7; line = 3; column = 80 } ∷
    -- 34
    record { kind = (SlText (codes "a")); children = []; tags = Expression ∷ []; meaning = Nothing; root = 8; level = 0; slots = 0; sees = (record { name = codes "f"; up = 0; slot = 0 } ∷ record { name = codes "p"; up = 0; slot = 1 } ∷ []); source = 0; start = 133; len = 3; line = 3; column = 80 } ∷
    -- 35
    record { kind = (SlName (codes "f")); children = []; tags = Expression ∷ ReadVariable ∷ []; meaning = (Local 0 0); root = 8; level = 0; slots = 0; sees = (record { name = codes "f"; up = 0; slot = 0 } ∷ record { name = codes "p"; up = 0; slot = 1 } ∷ []); source = 0; start = 139; len = 1; line = 3; column = 86 } ∷
    -- 36
    record { kind = (SlAssign (codes "x")); children = 37 ∷ []; tags = Expression ∷ WriteVariable ∷ Statement ∷ []; meaning = (Local 0 2); root = 8; level = 0; slots = 0; sees = (record { name = codes "f"; up = 0; slot = 0 } ∷ record { name = codes "p"; up = 0; slot = 1 } ∷ []); source = 0; start = 143; len = 5; line = 3; column = 90 } ∷
    -- 37
    record { kind = (SlNumber (pos 3)); children = []; tags = Expression ∷ []; meaning = Nothing; root = 8; level = 0; slots = 0; sees = (record { name = codes "f"; up = 0; slot = 0 } ∷ record { name = codes "p"; up = 0; slot = 1 } ∷ []); source = 0; start = 147; len = 1; line = 3; column = 94 } ∷
    -- 38
    record { kind = SlCall; children = 39 ∷ []; tags = Expression ∷ Call ∷ Statement ∷ []; meaning = Nothing; root = 8; level = 0; slots = 0; sees = (record { name = codes "f"; up = 0; slot = 0 } ∷ record { name = codes "p"; up = 0; slot = 1 } ∷ record { name = codes "x"; up = 0; slot = 2 } ∷ []); source = 0; start = 150; len = 3; line = 3; column = 97 } ∷
    -- 39
    record { kind = (SlName (codes "x")); children = []; tags = Expression ∷ ReadVariable ∷ []; meaning = (Local 0 2); root = 8; level = 0; slots = 0; sees = (record { name = codes "f"; up = 0; slot = 0 } ∷ record { name = codes "p"; up = 0; slot = 1 } ∷ record { name = codes "x"; up = 0; slot = 2 } ∷ []); source = 0; start = 150; len = 1; line = 3; column = 97 } ∷
    []

abbrev items : List Item
items =
    record { name = codes "println"; root = None } ∷
    record { name = codes "g"; root = Some 0 } ∷
    record { name = codes "g"; root = Some 4 } ∷
    record { name = codes "main"; root = Some 8 } ∷
    []

abbrev pub program : Program
program = record { nodes = nodes; items = items; mains = None ∷ []; entries = 3 ∷ [] }

pub called_by_value : output_and_end (meaning_of program 3 1000000 []) ≡ (codes "true\ng\n2\nfalse\nag\n", Faulted WrongKind 38)
unfolding meaning_of evaluated digits
called_by_value = refl
