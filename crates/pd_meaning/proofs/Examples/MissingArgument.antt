-- A text beside a number, a missing argument, and a name that is read after its block.
use Rattle.std.specs.Prelude.{◌≡◌, refl, List, [], ◌∷◌, None, Some, pos, codes}
use Rattle.std.specs.Fmt.{digits}
use Rattle.pd_values.specs.declared.value.End.TheVariants.{Faulted}
use Rattle.pd_values.specs.declared.value.Fault.TheVariants.{Undefined}
use Rattle.pd_meaning.specs.Meaning.{meaning_of, evaluated}
use Rattle.pd_meaning.proofs.Brief.{brief}
use Rattle.pd_tree.specs.declared.kind.Kind.TheVariants.{SlAssign, SlBinary, SlBlock, SlBody, SlCall, SlFunction, SlIf, SlName, SlNumber, SlReturn, SlText}
use Rattle.pd_tree.specs.declared.kind.Operator.TheVariants.{Add, Equal}
use Rattle.pd_values.specs.declared.value.Tag.TheVariants.{Statement, Call, Root, RootBody, Expression, ReadVariable, WriteVariable}
use Rattle.pd_tree.specs.declared.kind.Meaning.TheVariants.{Local, Item as Means, Nothing}
use Rattle.pd_tree.specs.Program.{Program, Node, Item}

abbrev nodes : List Node
nodes =
    -- 0
    record { kind = (SlFunction (codes "f") (codes "a" ∷ codes "b" ∷ [])); children = 1 ∷ []; tags = Root ∷ []; meaning = Nothing; root = 0; level = 0; slots = 2; sees = (record { name = codes "a"; up = 0; slot = 0 } ∷ record { name = codes "b"; up = 0; slot = 1 } ∷ []); source = 0; start = 0; len = 42; line = 1; column = 1 } ∷
    -- 1
    record { kind = SlBody; children = 2 ∷ []; tags = RootBody ∷ []; meaning = Nothing; root = 0; level = 0; slots = 0; sees = (record { name = codes "a"; up = 0; slot = 0 } ∷ record { name = codes "b"; up = 0; slot = 1 } ∷ []); source = 0; start = 17; len = 25; line = 1; column = 18 } ∷
    -- 2
    record { kind = SlReturn; children = 3 ∷ []; tags = Statement ∷ []; meaning = Nothing; root = 0; level = 0; slots = 0; sees = (record { name = codes "a"; up = 0; slot = 0 } ∷ record { name = codes "b"; up = 0; slot = 1 } ∷ []); source = 0; start = 21; len = 18; line = 2; column = 3 } ∷
    -- 3
    record { kind = (SlBinary Add); children = 4 ∷ 7 ∷ []; tags = Expression ∷ []; meaning = Nothing; root = 0; level = 0; slots = 0; sees = (record { name = codes "a"; up = 0; slot = 0 } ∷ record { name = codes "b"; up = 0; slot = 1 } ∷ []); source = 0; start = 28; len = 11; line = 2; column = 10 } ∷
    -- 4
    record { kind = (SlBinary Add); children = 5 ∷ 6 ∷ []; tags = Expression ∷ []; meaning = Nothing; root = 0; level = 0; slots = 0; sees = (record { name = codes "a"; up = 0; slot = 0 } ∷ record { name = codes "b"; up = 0; slot = 1 } ∷ []); source = 0; start = 28; len = 7; line = 2; column = 10 } ∷
    -- 5
    record { kind = (SlText (codes "x")); children = []; tags = Expression ∷ []; meaning = Nothing; root = 0; level = 0; slots = 0; sees = (record { name = codes "a"; up = 0; slot = 0 } ∷ record { name = codes "b"; up = 0; slot = 1 } ∷ []); source = 0; start = 28; len = 3; line = 2; column = 10 } ∷
    -- 6
    record { kind = (SlName (codes "a")); children = []; tags = Expression ∷ ReadVariable ∷ []; meaning = (Local 0 0); root = 0; level = 0; slots = 0; sees = (record { name = codes "a"; up = 0; slot = 0 } ∷ record { name = codes "b"; up = 0; slot = 1 } ∷ []); source = 0; start = 34; len = 1; line = 2; column = 16 } ∷
    -- 7
    record { kind = (SlName (codes "b")); children = []; tags = Expression ∷ ReadVariable ∷ []; meaning = (Local 0 1); root = 0; level = 0; slots = 0; sees = (record { name = codes "a"; up = 0; slot = 0 } ∷ record { name = codes "b"; up = 0; slot = 1 } ∷ []); source = 0; start = 38; len = 1; line = 2; column = 20 } ∷
    -- 8
    record { kind = (SlFunction (codes "main") []); children = 9 ∷ []; tags = Root ∷ []; meaning = Nothing; root = 8; level = 0; slots = 1; sees = []; source = 0; start = 43; len = 75; line = 4; column = 1 } ∷
    -- 9
    record { kind = SlBody; children = 10 ∷ 15 ∷ 22 ∷ []; tags = RootBody ∷ []; meaning = Nothing; root = 8; level = 0; slots = 0; sees = []; source = 0; start = 59; len = 59; line = 4; column = 17 } ∷
    -- 10
    record { kind = SlCall; children = 11 ∷ 12 ∷ []; tags = Expression ∷ Call ∷ Statement ∷ []; meaning = Nothing; root = 8; level = 0; slots = 0; sees = []; source = 0; start = 63; len = 13; line = 5; column = 3 } ∷
    -- 11
    record { kind = (SlName (codes "println")); children = []; tags = Expression ∷ []; meaning = (Means 0); root = 8; level = 0; slots = 0; sees = []; source = 0; start = 63; len = 7; line = 5; column = 3 } ∷
    -- 12
    record { kind = SlCall; children = 13 ∷ 14 ∷ []; tags = Expression ∷ Call ∷ []; meaning = Nothing; root = 8; level = 0; slots = 0; sees = []; source = 0; start = 71; len = 4; line = 5; column = 11 } ∷
    -- 13
    record { kind = (SlName (codes "f")); children = []; tags = Expression ∷ []; meaning = (Means 1); root = 8; level = 0; slots = 0; sees = []; source = 0; start = 71; len = 1; line = 5; column = 11 } ∷
    -- 14
    record { kind = (SlNumber (pos 1)); children = []; tags = Expression ∷ []; meaning = Nothing; root = 8; level = 0; slots = 0; sees = []; source = 0; start = 73; len = 1; line = 5; column = 13 } ∷
    -- 15
    record { kind = SlIf; children = 16 ∷ 19 ∷ []; tags = []; meaning = Nothing; root = 8; level = 0; slots = 0; sees = []; source = 0; start = 80; len = 22; line = 6; column = 3 } ∷
    -- 16
    record { kind = (SlBinary Equal); children = 17 ∷ 18 ∷ []; tags = Expression ∷ Statement ∷ []; meaning = Nothing; root = 8; level = 0; slots = 0; sees = []; source = 0; start = 84; len = 6; line = 6; column = 7 } ∷
    -- 17
    record { kind = (SlNumber (pos 1)); children = []; tags = Expression ∷ []; meaning = Nothing; root = 8; level = 0; slots = 0; sees = []; source = 0; start = 84; len = 1; line = 6; column = 7 } ∷
    -- 18
    record { kind = (SlNumber (pos 1)); children = []; tags = Expression ∷ []; meaning = Nothing; root = 8; level = 0; slots = 0; sees = []; source = 0; start = 89; len = 1; line = 6; column = 12 } ∷
    -- 19
    record { kind = SlBlock; children = 20 ∷ []; tags = []; meaning = Nothing; root = 8; level = 0; slots = 0; sees = []; source = 0; start = 92; len = 10; line = 6; column = 15 } ∷
    -- 20
    record { kind = (SlAssign (codes "y")); children = 21 ∷ []; tags = Expression ∷ WriteVariable ∷ Statement ∷ []; meaning = (Local 0 0); root = 8; level = 0; slots = 0; sees = []; source = 0; start = 94; len = 5; line = 6; column = 17 } ∷
    -- 21
    record { kind = (SlNumber (pos 5)); children = []; tags = Expression ∷ []; meaning = Nothing; root = 8; level = 0; slots = 0; sees = []; source = 0; start = 98; len = 1; line = 6; column = 21 } ∷
    -- 22
    record { kind = SlCall; children = 23 ∷ 24 ∷ []; tags = Expression ∷ Call ∷ Statement ∷ []; meaning = Nothing; root = 8; level = 0; slots = 0; sees = []; source = 0; start = 105; len = 10; line = 7; column = 3 } ∷
    -- 23
    record { kind = (SlName (codes "println")); children = []; tags = Expression ∷ []; meaning = (Means 0); root = 8; level = 0; slots = 0; sees = []; source = 0; start = 105; len = 7; line = 7; column = 3 } ∷
    -- 24
    record { kind = (SlName (codes "y")); children = []; tags = Expression ∷ []; meaning = Nothing; root = 8; level = 0; slots = 0; sees = []; source = 0; start = 113; len = 1; line = 7; column = 11 } ∷
    []

abbrev items : List Item
items =
    record { name = codes "println"; root = None } ∷
    record { name = codes "f"; root = Some 0 } ∷
    record { name = codes "main"; root = Some 8 } ∷
    []

abbrev pub program : Program
program = record { nodes = nodes; items = items; mains = None ∷ []; entries = 2 ∷ [] }

pub undefined_after_the_block : brief (meaning_of program 2 1000000 []) ≡ (codes "x1NULL\n", Faulted Undefined 24, 25, 46)
unfolding meaning_of evaluated digits
undefined_after_the_block = refl
