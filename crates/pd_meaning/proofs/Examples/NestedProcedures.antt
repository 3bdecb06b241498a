-- Procedures in procedures, recursion, and variables that are found by static nesting.
use Rattle.std.specs.Prelude.{◌≡◌, refl, List, [], ◌∷◌, None, Some, pos, codes}
use Rattle.std.specs.Fmt.{digits}
use Rattle.pd_values.specs.declared.value.End.TheVariants.{Done}
use Rattle.pd_values.specs.declared.value.Value.TheVariants.{Number}
use Rattle.pd_meaning.specs.Meaning.{meaning_of, evaluated}
use Rattle.pd_meaning.proofs.Brief.{brief}
use Rattle.pd_tree.specs.declared.kind.Kind.TheVariants.{PlAssign, PlBegin, PlBinary, PlBody, PlCall, PlIf, PlName, PlNumber, PlProcedure, PlWrite}
use Rattle.pd_tree.specs.declared.kind.Operator.TheVariants.{Add, Less}
use Rattle.pd_values.specs.declared.value.Tag.TheVariants.{Statement, Call, Root, RootBody, Expression, ReadVariable, WriteVariable}
use Rattle.pd_tree.specs.declared.kind.Meaning.TheVariants.{Local, Item as Means, Nothing}
use Rattle.pd_tree.specs.Program.{Program, Node, Item}

abbrev nodes : List Node
nodes =
    -- 0
    record { kind = (PlProcedure (codes "main") (codes "x" ∷ codes "n" ∷ [])); children = 1 ∷ 33 ∷ []; tags = Root ∷ []; meaning = Nothing; root = 0; level = 0; slots = 2; sees = (record { name = codes "x"; up = 0; slot = 0 } ∷ record { name = codes "n"; up = 0; slot = 1 } ∷ []); source = 0; start = 0; len = 221; line = 1; column = 1 } ∷
    -- 1
    record { kind = (PlProcedure (codes "p") (codes "y" ∷ [])); children = 2 ∷ 13 ∷ 19 ∷ []; tags = Root ∷ []; meaning = Nothing; root = 1; level = 1; slots = 1; sees = (record { name = codes "y"; up = 0; slot = 0 } ∷ record { name = codes "x"; up = 1; slot = 0 } ∷ record { name = codes "n"; up = 1; slot = 1 } ∷ []); source = 0; start = 10; len = 182; line = 2; column = 1 } ∷
    -- 2
    record { kind = (PlProcedure (codes "q") []); children = 3 ∷ []; tags = Root ∷ []; meaning = Nothing; root = 2; level = 2; slots = 0; sees = (record { name = codes "y"; up = 1; slot = 0 } ∷ record { name = codes "x"; up = 2; slot = 0 } ∷ record { name = codes "n"; up = 2; slot = 1 } ∷ []); source = 0; start = 34; len = 46; line = 4; column = 3 } ∷
    -- 3
    record { kind = PlBody; children = 4 ∷ []; tags = RootBody ∷ []; meaning = Nothing; root = 2; level = 2; slots = 0; sees = (record { name = codes "y"; up = 1; slot = 0 } ∷ record { name = codes "x"; up = 2; slot = 0 } ∷ record { name = codes "n"; up = 2; slot = 1 } ∷ []); source = 0; start = 47; len = 33; line = 4; column = 16 } ∷
    -- 4
    record { kind = PlBegin; children = 5 ∷ 9 ∷ []; tags = []; meaning = Nothing; root = 2; level = 2; slots = 0; sees = (record { name = codes "y"; up = 1; slot = 0 } ∷ record { name = codes "x"; up = 2; slot = 0 } ∷ record { name = codes "n"; up = 2; slot = 1 } ∷ []); source = 0; start = 47; len = 33; line = 4; column = 16 } ∷
    -- 5
    record { kind = (PlAssign (codes "y")); children = 6 ∷ []; tags = Statement ∷ WriteVariable ∷ []; meaning = (Local 1 0); root = 2; level = 2; slots = 0; sees = (record { name = codes "y"; up = 1; slot = 0 } ∷ record { name = codes "x"; up = 2; slot = 0 } ∷ record { name = codes "n"; up = 2; slot = 1 } ∷ []); source = 0; start = 53; len = 11; line = 4; column = 22 } ∷
    -- 6
    record { kind = (PlBinary Add); children = 7 ∷ 8 ∷ []; tags = Expression ∷ []; meaning = Nothing; root = 2; level = 2; slots = 0; sees = (record { name = codes "y"; up = 1; slot = 0 } ∷ record { name = codes "x"; up = 2; slot = 0 } ∷ record { name = codes "n"; up = 2; slot = 1 } ∷ []); source = 0; start = 58; len = 6; line = 4; column = 27 } ∷
    -- 7
    record { kind = (PlName (codes "y")); children = []; tags = Expression ∷ ReadVariable ∷ []; meaning = (Local 1 0); root = 2; level = 2; slots = 0; sees = (record { name = codes "y"; up = 1; slot = 0 } ∷ record { name = codes "x"; up = 2; slot = 0 } ∷ record { name = codes "n"; up = 2; slot = 1 } ∷ []); source = 0; start = 58; len = 1; line = 4; column = 27 } ∷
    -- 8
    record { kind = (PlNumber (pos 10)); children = []; tags = Expression ∷ []; meaning = Nothing; root = 2; level = 2; slots = 0; sees = (record { name = codes "y"; up = 1; slot = 0 } ∷ record { name = codes "x"; up = 2; slot = 0 } ∷ record { name = codes "n"; up = 2; slot = 1 } ∷ []); source = 0; start = 62; len = 2; line = 4; column = 31 } ∷
    -- 9
    record { kind = (PlAssign (codes "x")); children = 10 ∷ []; tags = Statement ∷ WriteVariable ∷ []; meaning = (Local 2 0); root = 2; level = 2; slots = 0; sees = (record { name = codes "y"; up = 1; slot = 0 } ∷ record { name = codes "x"; up = 2; slot = 0 } ∷ record { name = codes "n"; up = 2; slot = 1 } ∷ []); source = 0; start = 66; len = 10; line = 4; column = 35 } ∷
    -- 10
    record { kind = (PlBinary Add); children = 11 ∷ 12 ∷ []; tags = Expression ∷ []; meaning = Nothing; root = 2; level = 2; slots = 0; sees = (record { name = codes "y"; up = 1; slot = 0 } ∷ record { name = codes "x"; up = 2; slot = 0 } ∷ record { name = codes "n"; up = 2; slot = 1 } ∷ []); source = 0; start = 71; len = 5; line = 4; column = 40 } ∷
    -- 11
    record { kind = (PlName (codes "x")); children = []; tags = Expression ∷ ReadVariable ∷ []; meaning = (Local 2 0); root = 2; level = 2; slots = 0; sees = (record { name = codes "y"; up = 1; slot = 0 } ∷ record { name = codes "x"; up = 2; slot = 0 } ∷ record { name = codes "n"; up = 2; slot = 1 } ∷ []); source = 0; start = 71; len = 1; line = 4; column = 40 } ∷
    -- 12
    record { kind = (PlName (codes "y")); children = []; tags = Expression ∷ ReadVariable ∷ []; meaning = (Local 1 0); root = 2; level = 2; slots = 0; sees = (record { name = codes "y"; up = 1; slot = 0 } ∷ record { name = codes "x"; up = 2; slot = 0 } ∷ record { name = codes "n"; up = 2; slot = 1 } ∷ []); source = 0; start = 75; len = 1; line = 4; column = 44 } ∷
    -- 13
    record { kind = (PlProcedure (codes "r") (codes "y" ∷ [])); children = 14 ∷ []; tags = Root ∷ []; meaning = Nothing; root = 13; level = 2; slots = 1; sees = (record { name = codes "y"; up = 0; slot = 0 } ∷ record { name = codes "x"; up = 2; slot = 0 } ∷ record { name = codes "n"; up = 2; slot = 1 } ∷ []); source = 0; start = 84; len = 46; line = 5; column = 3 } ∷
    -- 14
    record { kind = PlBody; children = 15 ∷ []; tags = RootBody ∷ []; meaning = Nothing; root = 13; level = 2; slots = 0; sees = (record { name = codes "y"; up = 0; slot = 0 } ∷ record { name = codes "x"; up = 2; slot = 0 } ∷ record { name = codes "n"; up = 2; slot = 1 } ∷ []); source = 0; start = 104; len = 26; line = 5; column = 23 } ∷
    -- 15
    record { kind = PlBegin; children = 16 ∷ 18 ∷ []; tags = []; meaning = Nothing; root = 13; level = 2; slots = 0; sees = (record { name = codes "y"; up = 0; slot = 0 } ∷ record { name = codes "x"; up = 2; slot = 0 } ∷ record { name = codes "n"; up = 2; slot = 1 } ∷ []); source = 0; start = 104; len = 26; line = 5; column = 23 } ∷
    -- 16
    record { kind = (PlAssign (codes "y")); children = 17 ∷ []; tags = Statement ∷ WriteVariable ∷ []; meaning = (Local 0 0); root = 13; level = 2; slots = 0; sees = (record { name = codes "y"; up = 0; slot = 0 } ∷ record { name = codes "x"; up = 2; slot = 0 } ∷ record { name = codes "n"; up = 2; slot = 1 } ∷ []); source = 0; start = 110; len = 8; line = 5; column = 29 } ∷
    -- 17
    record { kind = (PlNumber (pos 100)); children = []; tags = Expression ∷ []; meaning = Nothing; root = 13; level = 2; slots = 0; sees = (record { name = codes "y"; up = 0; slot = 0 } ∷ record { name = codes "x"; up = 2; slot = 0 } ∷ record { name = codes "n"; up = 2; slot = 1 } ∷ []); source = 0; start = 115; len = 3; line = 5; column = 34 } ∷
    -- 18
    record { kind = (PlCall (codes "q")); children = []; tags = Statement ∷ Call ∷ []; meaning = (Means 3); root = 13; level = 2; slots = 0; sees = (record { name = codes "y"; up = 0; slot = 0 } ∷ record { name = codes "x"; up = 2; slot = 0 } ∷ record { name = codes "n"; up = 2; slot = 1 } ∷ []); source = 0; start = 120; len = 6; line = 5; column = 39 } ∷
    -- 19
    record { kind = PlBody; children = 20 ∷ []; tags = RootBody ∷ []; meaning = Nothing; root = 1; level = 1; slots = 0; sees = (record { name = codes "y"; up = 0; slot = 0 } ∷ record { name = codes "x"; up = 1; slot = 0 } ∷ record { name = codes "n"; up = 1; slot = 1 } ∷ []); source = 0; start = 134; len = 58; line = 6; column = 3 } ∷
    -- 20
    record { kind = PlBegin; children = 21 ∷ 25 ∷ 27 ∷ 32 ∷ []; tags = []; meaning = Nothing; root = 1; level = 1; slots = 0; sees = (record { name = codes "y"; up = 0; slot = 0 } ∷ record { name = codes "x"; up = 1; slot = 0 } ∷ record { name = codes "n"; up = 1; slot = 1 } ∷ []); source = 0; start = 134; len = 58; line = 6; column = 3 } ∷
    -- 21
    record { kind = (PlAssign (codes "n")); children = 22 ∷ []; tags = Statement ∷ WriteVariable ∷ []; meaning = (Local 1 1); root = 1; level = 1; slots = 0; sees = (record { name = codes "y"; up = 0; slot = 0 } ∷ record { name = codes "x"; up = 1; slot = 0 } ∷ record { name = codes "n"; up = 1; slot = 1 } ∷ []); source = 0; start = 140; len = 10; line = 6; column = 9 } ∷
    -- 22
    record { kind = (PlBinary Add); children = 23 ∷ 24 ∷ []; tags = Expression ∷ []; meaning = Nothing; root = 1; level = 1; slots = 0; sees = (record { name = codes "y"; up = 0; slot = 0 } ∷ record { name = codes "x"; up = 1; slot = 0 } ∷ record { name = codes "n"; up = 1; slot = 1 } ∷ []); source = 0; start = 145; len = 5; line = 6; column = 14 } ∷
    -- 23
    record { kind = (PlName (codes "n")); children = []; tags = Expression ∷ ReadVariable ∷ []; meaning = (Local 1 1); root = 1; level = 1; slots = 0; sees = (record { name = codes "y"; up = 0; slot = 0 } ∷ record { name = codes "x"; up = 1; slot = 0 } ∷ record { name = codes "n"; up = 1; slot = 1 } ∷ []); source = 0; start = 145; len = 1; line = 6; column = 14 } ∷
    -- 24
    record { kind = (PlNumber (pos 1)); children = []; tags = Expression ∷ []; meaning = Nothing; root = 1; level = 1; slots = 0; sees = (record { name = codes "y"; up = 0; slot = 0 } ∷ record { name = codes "x"; up = 1; slot = 0 } ∷ record { name = codes "n"; up = 1; slot = 1 } ∷ []); source = 0; start = 149; len = 1; line = 6; column = 18 } ∷
    -- 25
    record { kind = (PlAssign (codes "y")); children = 26 ∷ []; tags = Statement ∷ WriteVariable ∷ []; meaning = (Local 0 0); root = 1; level = 1; slots = 0; sees = (record { name = codes "y"; up = 0; slot = 0 } ∷ record { name = codes "x"; up = 1; slot = 0 } ∷ record { name = codes "n"; up = 1; slot = 1 } ∷ []); source = 0; start = 152; len = 6; line = 6; column = 21 } ∷
    -- 26
    record { kind = (PlName (codes "n")); children = []; tags = Expression ∷ ReadVariable ∷ []; meaning = (Local 1 1); root = 1; level = 1; slots = 0; sees = (record { name = codes "y"; up = 0; slot = 0 } ∷ record { name = codes "x"; up = 1; slot = 0 } ∷ record { name = codes "n"; up = 1; slot = 1 } ∷ []); source = 0; start = 157; len = 1; line = 6; column = 26 } ∷
    -- 27
    record { kind = PlIf; children = 28 ∷ 31 ∷ []; tags = []; meaning = Nothing; root = 1; level = 1; slots = 0; sees = (record { name = codes "y"; up = 0; slot = 0 } ∷ record { name = codes "x"; up = 1; slot = 0 } ∷ record { name = codes "n"; up = 1; slot = 1 } ∷ []); source = 0; start = 160; len = 20; line = 6; column = 29 } ∷
    -- 28
    record { kind = (PlBinary Less); children = 29 ∷ 30 ∷ []; tags = Expression ∷ Statement ∷ []; meaning = Nothing; root = 1; level = 1; slots = 0; sees = (record { name = codes "y"; up = 0; slot = 0 } ∷ record { name = codes "x"; up = 1; slot = 0 } ∷ record { name = codes "n"; up = 1; slot = 1 } ∷ []); source = 0; start = 163; len = 5; line = 6; column = 32 } ∷
    -- 29
    record { kind = (PlName (codes "n")); children = []; tags = Expression ∷ ReadVariable ∷ []; meaning = (Local 1 1); root = 1; level = 1; slots = 0; sees = (record { name = codes "y"; up = 0; slot = 0 } ∷ record { name = codes "x"; up = 1; slot = 0 } ∷ record { name = codes "n"; up = 1; slot = 1 } ∷ []); source = 0; start = 163; len = 1; line = 6; column = 32 } ∷
    -- 30
    record { kind = (PlNumber (pos 3)); children = []; tags = Expression ∷ []; meaning = Nothing; root = 1; level = 1; slots = 0; sees = (record { name = codes "y"; up = 0; slot = 0 } ∷ record { name = codes "x"; up = 1; slot = 0 } ∷ record { name = codes "n"; up = 1; slot = 1 } ∷ []); source = 0; start = 167; len = 1; line = 6; column = 36 } ∷
    -- 31
    record { kind = (PlCall (codes "p")); children = []; tags = Statement ∷ Call ∷ []; meaning = (Means 2); root = 1; level = 1; slots = 0; sees = (record { name = codes "y"; up = 0; slot = 0 } ∷ record { name = codes "x"; up = 1; slot = 0 } ∷ record { name = codes "n"; up = 1; slot = 1 } ∷ []); source = 0; start = 174; len = 6; line = 6; column = 43 } ∷
    -- 32
    record { kind = (PlCall (codes "r")); children = []; tags = Statement ∷ Call ∷ []; meaning = (Means 4); root = 1; level = 1; slots = 0; sees = (record { name = codes "y"; up = 0; slot = 0 } ∷ record { name = codes "x"; up = 1; slot = 0 } ∷ record { name = codes "n"; up = 1; slot = 1 } ∷ []); source = 0; start = 182; len = 6; line = 6; column = 51 } ∷
    -- 33
    record { kind = PlBody; children = 34 ∷ []; tags = RootBody ∷ []; meaning = Nothing; root = 0; level = 0; slots = 0; sees = (record { name = codes "x"; up = 0; slot = 0 } ∷ record { name = codes "n"; up = 0; slot = 1 } ∷ []); source = 0; start = 194; len = 26; line = 7; column = 1 } ∷
    -- 34
    record { kind = PlBegin; children = 35 ∷ 36 ∷ 38 ∷ []; tags = []; meaning = Nothing; root = 0; level = 0; slots = 0; sees = (record { name = codes "x"; up = 0; slot = 0 } ∷ record { name = codes "n"; up = 0; slot = 1 } ∷ []); source = 0; start = 194; len = 26; line = 7; column = 1 } ∷
    -- 35
    record { kind = (PlCall (codes "p")); children = []; tags = Statement ∷ Call ∷ []; meaning = (Means 2); root = 0; level = 0; slots = 0; sees = (record { name = codes "x"; up = 0; slot = 0 } ∷ record { name = codes "n"; up = 0; slot = 1 } ∷ []); source = 0; start = 200; len = 6; line = 7; column = 7 } ∷
    -- 36
    record { kind = PlWrite; children = 37 ∷ []; tags = Statement ∷ []; meaning = Nothing; root = 0; level = 0; slots = 0; sees = (record { name = codes "x"; up = 0; slot = 0 } ∷ record { name = codes "n"; up = 0; slot = 1 } ∷ []); source = 0; start = 208; len = 3; line = 7; column = 15 } ∷
    -- 37
    record { kind = (PlName (codes "x")); children = []; tags = Expression ∷ ReadVariable ∷ []; meaning = (Local 0 0); root = 0; level = 0; slots = 0; sees = (record { name = codes "x"; up = 0; slot = 0 } ∷ record { name = codes "n"; up = 0; slot = 1 } ∷ []); source = 0; start = 210; len = 1; line = 7; column = 17 } ∷
    -- 38
    record { kind = PlWrite; children = 39 ∷ []; tags = Statement ∷ []; meaning = Nothing; root = 0; level = 0; slots = 0; sees = (record { name = codes "x"; up = 0; slot = 0 } ∷ record { name = codes "n"; up = 0; slot = 1 } ∷ []); source = 0; start = 213; len = 3; line = 7; column = 20 } ∷
    -- 39
    record { kind = (PlName (codes "n")); children = []; tags = Expression ∷ ReadVariable ∷ []; meaning = (Local 0 1); root = 0; level = 0; slots = 0; sees = (record { name = codes "x"; up = 0; slot = 0 } ∷ record { name = codes "n"; up = 0; slot = 1 } ∷ []); source = 0; start = 215; len = 1; line = 7; column = 22 } ∷
    []

abbrev items : List Item
items =
    record { name = codes "println"; root = None } ∷
    record { name = codes "main"; root = Some 0 } ∷
    record { name = codes "p"; root = Some 1 } ∷
    record { name = codes "q"; root = Some 2 } ∷
    record { name = codes "r"; root = Some 13 } ∷
    []

abbrev pub program : Program
program = record { nodes = nodes; items = items; mains = Some 0 ∷ []; entries = 1 ∷ [] }

pub variables_by_nesting : brief (meaning_of program 1 1000000 []) ≡ (codes "36\n3\n", Done (Number (pos 36)), 103, 180)
unfolding meaning_of evaluated digits
variables_by_nesting = refl
