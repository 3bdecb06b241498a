-- A call is given a value before its body is over.
use Rattle.std.specs.Prelude.{◌≡◌, refl, List, [], ◌∷◌, None, Some, pos, codes}
use Rattle.std.specs.Fmt.{digits}
use Rattle.pd_values.specs.declared.value.End.TheVariants.{Done}
use Rattle.pd_values.specs.declared.value.Value.TheVariants.{Null, Number, Text as Chars}
use Rattle.pd_machine.specs.declared.event.Verdict.TheVariants.{Return}
use Rattle.pd_meaning.specs.Meaning.{meaning_of, evaluated}
use Rattle.pd_meaning.proofs.Brief.{brief}
use Rattle.pd_tree.specs.declared.kind.Kind.TheVariants.{SlBody, SlCall, SlFunction, SlName, SlNumber, SlReturn}
use Rattle.pd_values.specs.declared.value.Tag.TheVariants.{Statement, Call, Root, RootBody, Expression, ReadVariable}
use Rattle.pd_tree.specs.declared.kind.Meaning.TheVariants.{Local, Item as Means, Nothing}
use Rattle.pd_tree.specs.Program.{Program, Node, Item}

abbrev nodes : List Node
nodes =
    -- 0
    record { kind = (SlFunction (codes "f") (codes "a" ∷ [])); children = 1 ∷ []; tags = Root ∷ []; meaning = Nothing; root = 0; level = 0; slots = 1; sees = (record { name = codes "a"; up = 0; slot = 0 } ∷ []); source = 0; start = 0; len = 43; line = 1; column = 1 } ∷
    -- 1
    record { kind = SlBody; children = 2 ∷ 5 ∷ []; tags = RootBody ∷ []; meaning = Nothing; root = 0; level = 0; slots = 0; sees = (record { name = codes "a"; up = 0; slot = 0 } ∷ []); source = 0; start = 14; len = 29; line = 1; column = 15 } ∷
    -- 2
    record { kind = SlCall; children = 3 ∷ 4 ∷ []; tags = Expression ∷ Call ∷ Statement ∷ []; meaning = Nothing; root = 0; level = 0; slots = 0; sees = (record { name = codes "a"; up = 0; slot = 0 } ∷ []); source = 0; start = 18; len = 10; line = 2; column = 3 } ∷
    -- 3
    record { kind = (SlName (codes "println")); children = []; tags = Expression ∷ []; meaning = (Means 0); root = 0; level = 0; slots = 0; sees = (record { name = codes "a"; up = 0; slot = 0 } ∷ []); source = 0; start = 18; len = 7; line = 2; column = 3 } ∷
    -- 4
    record { kind = (SlName (codes "a")); children = []; tags = Expression ∷ ReadVariable ∷ []; meaning = (Local 0 0); root = 0; level = 0; slots = 0; sees = (record { name = codes "a"; up = 0; slot = 0 } ∷ []); source = 0; start = 26; len = 1; line = 2; column = 11 } ∷
    -- 5
    record { kind = SlReturn; children = 6 ∷ []; tags = Statement ∷ []; meaning = Nothing; root = 0; level = 0; slots = 0; sees = (record { name = codes "a"; up = 0; slot = 0 } ∷ []); source = 0; start = 32; len = 8; line = 3; column = 3 } ∷
    -- 6
    record { kind = (SlName (codes "a")); children = []; tags = Expression ∷ ReadVariable ∷ []; meaning = (Local 0 0); root = 0; level = 0; slots = 0; sees = (record { name = codes "a"; up = 0; slot = 0 } ∷ []); source = 0; start = 39; len = 1; line = 3; column = 10 } ∷
    -- 7
    record { kind = (SlFunction (codes "main") []); children = 8 ∷ []; tags = Root ∷ []; meaning = Nothing; root = 7; level = 0; slots = 0; sees = []; source = 0; start = 44; len = 36; line = 5; column = 1 } ∷
    -- 8
    record { kind = SlBody; children = 9 ∷ []; tags = RootBody ∷ []; meaning = Nothing; root = 7; level = 0; slots = 0; sees = []; source = 0; start = 60; len = 20; line = 5; column = 17 } ∷
    -- 9
    record { kind = SlCall; children = 10 ∷ 11 ∷ []; tags = Expression ∷ Call ∷ Statement ∷ []; meaning = Nothing; root = 7; level = 0; slots = 0; sees = []; source = 0; start = 64; len = 13; line = 6; column = 3 } ∷
    -- 10
    record { kind = (SlName (codes "println")); children = []; tags = Expression ∷ []; meaning = (Means 0); root = 7; level = 0; slots = 0; sees = []; source = 0; start = 64; len = 7; line = 6; column = 3 } ∷
    -- 11
    record { kind = SlCall; children = 12 ∷ 13 ∷ []; tags = Expression ∷ Call ∷ []; meaning = Nothing; root = 7; level = 0; slots = 0; sees = []; source = 0; start = 72; len = 4; line = 6; column = 11 } ∷
    -- 12
    record { kind = (SlName (codes "f")); children = []; tags = Expression ∷ []; meaning = (Means 1); root = 7; level = 0; slots = 0; sees = []; source = 0; start = 72; len = 1; line = 6; column = 11 } ∷
    -- 13
    record { kind = (SlNumber (pos 1)); children = []; tags = Expression ∷ []; meaning = Nothing; root = 7; level = 0; slots = 0; sees = []; source = 0; start = 74; len = 1; line = 6; column = 13 } ∷
    []

abbrev items : List Item
items =
    record { name = codes "println"; root = None } ∷
    record { name = codes "f"; root = Some 0 } ∷
    record { name = codes "main"; root = Some 7 } ∷
    []

abbrev pub program : Program
program = record { nodes = nodes; items = items; mains = None ∷ []; entries = 2 ∷ [] }

pub call_gives_nine : brief (meaning_of program 2 1000000 ((18, Return 0 (Number (pos 9))) ∷ [])) ≡ (codes "1\n9\n", Done Null, 13, 26)
unfolding meaning_of evaluated digits
call_gives_nine = refl

pub run_gives_a_text : brief (meaning_of program 2 1000000 ((18, Return 7 (Chars (codes "x"))) ∷ [])) ≡ (codes "1\n", Done (Chars (codes "x")), 13, 26)
unfolding meaning_of evaluated digits
run_gives_a_text = refl
