-- More arguments than variables.
use Rattle.std.specs.Prelude.{◌≡◌, refl, List, [], ◌∷◌, None, Some, pos, codes}
use Rattle.std.specs.Fmt.{digits}
use Rattle.pd_values.specs.declared.value.End.TheVariants.{Faulted}
use Rattle.pd_values.specs.declared.value.Fault.TheVariants.{CrossArity}
use Rattle.pd_meaning.specs.Meaning.{meaning_of, evaluated}
use Rattle.pd_meaning.proofs.Brief.{brief}
use Rattle.pd_tree.specs.declared.kind.Kind.TheVariants.{PlAssign, PlBegin, PlBinary, PlBody, PlCall, PlEmpty, PlName, PlProcedure, SlBinary, SlBody, SlCall, SlFunction, SlName, SlNumber, SlText}
use Rattle.pd_tree.specs.declared.kind.Operator.TheVariants.{Add}
use Rattle.pd_values.specs.declared.value.Tag.TheVariants.{Statement, Call, Root, RootBody, Expression, ReadVariable, WriteVariable}
use Rattle.pd_tree.specs.declared.kind.Meaning.TheVariants.{Local, Item as Means, Nothing}
use Rattle.pd_tree.specs.Program.{Program, Node, Item}

abbrev nodes : List Node
nodes =
    -- 0
    record { kind = (SlFunction (codes "log") (codes "m" ∷ [])); children = 1 ∷ []; tags = Root ∷ []; meaning = Nothing; root = 0; level = 0; slots = 1; sees = (record { name = codes "m"; up = 0; slot = 0 } ∷ []); source = 0; start = 0; len = 40; line = 1; column = 1 } ∷
    -- 1
    record { kind = SlBody; children = 2 ∷ []; tags = RootBody ∷ []; meaning = Nothing; root = 0; level = 0; slots = 0; sees = (record { name = codes "m"; up = 0; slot = 0 } ∷ []); source = 0; start = 16; len = 24; line = 1; column = 17 } ∷
    -- 2
    record { kind = SlCall; children = 3 ∷ 4 ∷ []; tags = Expression ∷ Call ∷ Statement ∷ []; meaning = Nothing; root = 0; level = 0; slots = 0; sees = (record { name = codes "m"; up = 0; slot = 0 } ∷ []); source = 0; start = 18; len = 19; line = 1; column = 19 } ∷
    -- 3
    record { kind = (SlName (codes "println")); children = []; tags = Expression ∷ []; meaning = (Means 0); root = 0; level = 0; slots = 0; sees = (record { name = codes "m"; up = 0; slot = 0 } ∷ []); source = 0; start = 18; len = 7; line = 1; column = 19 } ∷
    -- 4
    record { kind = (SlBinary Add); children = 5 ∷ 6 ∷ []; tags = Expression ∷ []; meaning = Nothing; root = 0; level = 0; slots = 0; sees = (record { name = codes "m"; up = 0; slot = 0 } ∷ []); source = 0; start = 26; len = 10; line = 1; column = 27 } ∷
    -- 5
    record { kind = (SlText (codes "log ")); children = []; tags = Expression ∷ []; meaning = Nothing; root = 0; level = 0; slots = 0; sees = (record { name = codes "m"; up = 0; slot = 0 } ∷ []); source = 0; start = 26; len = 6; line = 1; column = 27 } ∷
    -- 6
    record { kind = (SlName (codes "m")); children = []; tags = Expression ∷ ReadVariable ∷ []; meaning = (Local 0 0); root = 0; level = 0; slots = 0; sees = (record { name = codes "m"; up = 0; slot = 0 } ∷ []); source = 0; start = 35; len = 1; line = 1; column = 36 } ∷
    -- 7
    record { kind = (SlFunction (codes "main") []); children = 8 ∷ []; tags = Root ∷ []; meaning = Nothing; root = 7; level = 0; slots = 0; sees = []; source = 0; start = 41; len = 63; line = 2; column = 1 } ∷
    -- 8
    record { kind = SlBody; children = 9 ∷ 14 ∷ 18 ∷ []; tags = RootBody ∷ []; meaning = Nothing; root = 7; level = 0; slots = 0; sees = []; source = 0; start = 57; len = 47; line = 2; column = 17 } ∷
    -- 9
    record { kind = SlCall; children = 10 ∷ 11 ∷ []; tags = Expression ∷ Call ∷ Statement ∷ []; meaning = Nothing; root = 7; level = 0; slots = 0; sees = []; source = 0; start = 59; len = 15; line = 2; column = 19 } ∷
    -- 10
    record { kind = (SlName (codes "println")); children = []; tags = Expression ∷ []; meaning = (Means 0); root = 7; level = 0; slots = 0; sees = []; source = 0; start = 59; len = 7; line = 2; column = 19 } ∷
    -- 11
    record { kind = SlCall; children = 12 ∷ 13 ∷ []; tags = Expression ∷ Call ∷ []; meaning = Nothing; root = 7; level = 0; slots = 0; sees = []; source = 0; start = 67; len = 6; line = 2; column = 27 } ∷
    -- 12
    record { kind = (SlName (codes "set")); children = []; tags = Expression ∷ []; meaning = (Means 4); root = 7; level = 0; slots = 0; sees = []; source = 0; start = 67; len = 3; line = 2; column = 27 } ∷
    -- 13
    record { kind = (SlNumber (pos 7)); children = []; tags = Expression ∷ []; meaning = Nothing; root = 7; level = 0; slots = 0; sees = []; source = 0; start = 71; len = 1; line = 2; column = 31 } ∷
    -- 14
    record { kind = SlCall; children = 15 ∷ 16 ∷ []; tags = Expression ∷ Call ∷ Statement ∷ []; meaning = Nothing; root = 7; level = 0; slots = 0; sees = []; source = 0; start = 76; len = 14; line = 2; column = 36 } ∷
    -- 15
    record { kind = (SlName (codes "println")); children = []; tags = Expression ∷ []; meaning = (Means 0); root = 7; level = 0; slots = 0; sees = []; source = 0; start = 76; len = 7; line = 2; column = 36 } ∷
    -- 16
    record { kind = SlCall; children = 17 ∷ []; tags = Expression ∷ Call ∷ []; meaning = Nothing; root = 7; level = 0; slots = 0; sees = []; source = 0; start = 84; len = 5; line = 2; column = 44 } ∷
    -- 17
    record { kind = (SlName (codes "get")); children = []; tags = Expression ∷ []; meaning = (Means 5); root = 7; level = 0; slots = 0; sees = []; source = 0; start = 84; len = 3; line = 2; column = 44 } ∷
    -- 18
    record { kind = SlCall; children = 19 ∷ 20 ∷ 21 ∷ []; tags = Expression ∷ Call ∷ Statement ∷ []; meaning = Nothing; root = 7; level = 0; slots = 0; sees = []; source = 0; start = 92; len = 9; line = 2; column = 52 } ∷
    -- 19
    record { kind = (SlName (codes "set")); children = []; tags = Expression ∷ []; meaning = (Means 4); root = 7; level = 0; slots = 0; sees = []; source = 0; start = 92; len = 3; line = 2; column = 52 } ∷
    -- 20
    record { kind = (SlNumber (pos 1)); children = []; tags = Expression ∷ []; meaning = Nothing; root = 7; level = 0; slots = 0; sees = []; source = 0; start = 96; len = 1; line = 2; column = 56 } ∷
    -- 21
    record { kind = (SlNumber (pos 2)); children = []; tags = Expression ∷ []; meaning = Nothing; root = 7; level = 0; slots = 0; sees = []; source = 0; start = 99; len = 1; line = 2; column = 59 } ∷
    -- 22
    record { kind = (PlProcedure (codes "main") (codes "g" ∷ [])); children = 23 ∷ 31 ∷ 35 ∷ []; tags = Root ∷ []; meaning = Nothing; root = 22; level = 0; slots = 1; sees = (record { name = codes "g"; up = 0; slot = 0 } ∷ []); source = 1; start = 0; len = 92; line = 1; column = 1 } ∷
    -- 23
    record { kind = (PlProcedure (codes "set") (codes "v" ∷ [])); children = 24 ∷ []; tags = Root ∷ []; meaning = Nothing; root = 23; level = 1; slots = 1; sees = (record { name = codes "v"; up = 0; slot = 0 } ∷ record { name = codes "g"; up = 1; slot = 0 } ∷ []); source = 1; start = 7; len = 52; line = 2; column = 1 } ∷
    -- 24
    record { kind = PlBody; children = 25 ∷ []; tags = RootBody ∷ []; meaning = Nothing; root = 23; level = 1; slots = 0; sees = (record { name = codes "v"; up = 0; slot = 0 } ∷ record { name = codes "g"; up = 1; slot = 0 } ∷ []); source = 1; start = 29; len = 30; line = 2; column = 23 } ∷
    -- 25
    record { kind = PlBegin; children = 26 ∷ 30 ∷ []; tags = []; meaning = Nothing; root = 23; level = 1; slots = 0; sees = (record { name = codes "v"; up = 0; slot = 0 } ∷ record { name = codes "g"; up = 1; slot = 0 } ∷ []); source = 1; start = 29; len = 30; line = 2; column = 23 } ∷
    -- 26
    record { kind = (PlAssign (codes "g")); children = 27 ∷ []; tags = Statement ∷ WriteVariable ∷ []; meaning = (Local 1 0); root = 23; level = 1; slots = 0; sees = (record { name = codes "v"; up = 0; slot = 0 } ∷ record { name = codes "g"; up = 1; slot = 0 } ∷ []); source = 1; start = 35; len = 10; line = 2; column = 29 } ∷
    -- 27
    record { kind = (PlBinary Add); children = 28 ∷ 29 ∷ []; tags = Expression ∷ []; meaning = Nothing; root = 23; level = 1; slots = 0; sees = (record { name = codes "v"; up = 0; slot = 0 } ∷ record { name = codes "g"; up = 1; slot = 0 } ∷ []); source = 1; start = 40; len = 5; line = 2; column = 34 } ∷
    -- 28
    record { kind = (PlName (codes "g")); children = []; tags = Expression ∷ ReadVariable ∷ []; meaning = (Local 1 0); root = 23; level = 1; slots = 0; sees = (record { name = codes "v"; up = 0; slot = 0 } ∷ record { name = codes "g"; up = 1; slot = 0 } ∷ []); source = 1; start = 40; len = 1; line = 2; column = 34 } ∷
    -- 29
    record { kind = (PlName (codes "v")); children = []; tags = Expression ∷ ReadVariable ∷ []; meaning = (Local 0 0); root = 23; level = 1; slots = 0; sees = (record { name = codes "v"; up = 0; slot = 0 } ∷ record { name = codes "g"; up = 1; slot = 0 } ∷ []); source = 1; start = 44; len = 1; line = 2; column = 38 } ∷
    -- 30
    record { kind = (PlCall (codes "log")); children = []; tags = Statement ∷ Call ∷ []; meaning = (Means 1); root = 23; level = 1; slots = 0; sees = (record { name = codes "v"; up = 0; slot = 0 } ∷ record { name = codes "g"; up = 1; slot = 0 } ∷ []); source = 1; start = 47; len = 8; line = 2; column = 41 } ∷
    -- 31
    record { kind = (PlProcedure (codes "get") (codes "r" ∷ [])); children = 32 ∷ []; tags = Root ∷ []; meaning = Nothing; root = 31; level = 1; slots = 1; sees = (record { name = codes "r"; up = 0; slot = 0 } ∷ record { name = codes "g"; up = 1; slot = 0 } ∷ []); source = 1; start = 61; len = 28; line = 3; column = 1 } ∷
    -- 32
    record { kind = PlBody; children = 33 ∷ []; tags = RootBody ∷ []; meaning = Nothing; root = 31; level = 1; slots = 0; sees = (record { name = codes "r"; up = 0; slot = 0 } ∷ record { name = codes "g"; up = 1; slot = 0 } ∷ []); source = 1; start = 83; len = 6; line = 3; column = 23 } ∷
    -- 33
    record { kind = (PlAssign (codes "r")); children = 34 ∷ []; tags = Statement ∷ WriteVariable ∷ []; meaning = (Local 0 0); root = 31; level = 1; slots = 0; sees = (record { name = codes "r"; up = 0; slot = 0 } ∷ record { name = codes "g"; up = 1; slot = 0 } ∷ []); source = 1; start = 83; len = 6; line = 3; column = 23 } ∷
    -- 34
    record { kind = (PlName (codes "g")); children = []; tags = Expression ∷ ReadVariable ∷ []; meaning = (Local 1 0); root = 31; level = 1; slots = 0; sees = (record { name = codes "r"; up = 0; slot = 0 } ∷ record { name = codes "g"; up = 1; slot = 0 } ∷ []); source = 1; start = 88; len = 1; line = 3; column = 28 } ∷
    -- 35
    record { kind = PlBody; children = 36 ∷ []; tags = RootBody ∷ []; meaning = Nothing; root = 22; level = 0; slots = 0; sees = (record { name = codes "g"; up = 0; slot = 0 } ∷ []); source = 1; start = 91; len = 0; line = 4; column = 1 } ∷
    -- 36
    record { kind = PlEmpty; children = []; tags = []; meaning = Nothing; root = 22; level = 0; slots = 0; sees = (record { name = codes "g"; up = 0; slot = 0 } ∷ []); source = 1; start = 91; len = 0; line = 4; column = 1 } ∷
    []

abbrev items : List Item
items =
    record { name = codes "println"; root = None } ∷
    record { name = codes "log"; root = Some 0 } ∷
    record { name = codes "main"; root = Some 7 } ∷
    record { name = codes "main"; root = Some 22 } ∷
    record { name = codes "set"; root = Some 23 } ∷
    record { name = codes "get"; root = Some 31 } ∷
    []

abbrev pub program : Program
program = record { nodes = nodes; items = items; mains = None ∷ Some 22 ∷ []; entries = 2 ∷ [] }

pub cross_arity : brief (meaning_of program 2 1000000 []) ≡ (codes "log NULL\n7\n7\n", Faulted CrossArity 18, 34, 66)
unfolding meaning_of evaluated digits
cross_arity = refl
