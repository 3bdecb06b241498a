-- A procedure is entered again. The main block's variable keeps what the first entry wrote.
use Rattle.std.specs.Prelude.{◌≡◌, refl, List, [], ◌∷◌, None, Some, pos, codes}
use Rattle.std.specs.Fmt.{digits}
use Rattle.pd_values.specs.declared.value.End.TheVariants.{Done}
use Rattle.pd_values.specs.declared.value.Value.TheVariants.{Null, Number}
use Rattle.pd_machine.specs.declared.event.EventKind.TheVariants.{Return as Gave}
use Rattle.pd_machine.specs.declared.event.Verdict.TheVariants.{Reenter}
use Rattle.pd_meaning.specs.Meaning.{meaning_of, evaluated}
use Rattle.pd_meaning.proofs.Brief.{brief, event_at, value_at}
use Rattle.pd_tree.specs.declared.kind.Kind.TheVariants.{PlAssign, PlBegin, PlBinary, PlBody, PlCall, PlName, PlNumber, PlProcedure, PlWrite}
use Rattle.pd_tree.specs.declared.kind.Operator.TheVariants.{Add, Mul}
use Rattle.pd_values.specs.declared.value.Tag.TheVariants.{Statement, Call, Root, RootBody, Expression, ReadVariable, WriteVariable}
use Rattle.pd_tree.specs.declared.kind.Meaning.TheVariants.{Local, Item as Means, Nothing}
use Rattle.pd_tree.specs.Program.{Program, Node, Item}

abbrev nodes : List Node
nodes =
    -- 0
    record { kind = (PlProcedure (codes "main") (codes "g" ∷ [])); children = 1 ∷ 12 ∷ []; tags = Root ∷ []; meaning = Nothing; root = 0; level = 0; slots = 1; sees = (record { name = codes "g"; up = 0; slot = 0 } ∷ []); source = 0; start = 0; len = 77; line = 1; column = 1 } ∷
    -- 1
    record { kind = (PlProcedure (codes "q") []); children = 2 ∷ []; tags = Root ∷ []; meaning = Nothing; root = 1; level = 1; slots = 0; sees = (record { name = codes "g"; up = 1; slot = 0 } ∷ []); source = 0; start = 7; len = 46; line = 2; column = 1 } ∷
    -- 2
    record { kind = PlBody; children = 3 ∷ []; tags = RootBody ∷ []; meaning = Nothing; root = 1; level = 1; slots = 0; sees = (record { name = codes "g"; up = 1; slot = 0 } ∷ []); source = 0; start = 20; len = 33; line = 2; column = 14 } ∷
    -- 3
    record { kind = PlBegin; children = 4 ∷ 8 ∷ []; tags = []; meaning = Nothing; root = 1; level = 1; slots = 0; sees = (record { name = codes "g"; up = 1; slot = 0 } ∷ []); source = 0; start = 20; len = 33; line = 2; column = 14 } ∷
    -- 4
    record { kind = (PlAssign (codes "g")); children = 5 ∷ []; tags = Statement ∷ WriteVariable ∷ []; meaning = (Local 1 0); root = 1; level = 1; slots = 0; sees = (record { name = codes "g"; up = 1; slot = 0 } ∷ []); source = 0; start = 26; len = 10; line = 2; column = 20 } ∷
    -- 5
    record { kind = (PlBinary Add); children = 6 ∷ 7 ∷ []; tags = Expression ∷ []; meaning = Nothing; root = 1; level = 1; slots = 0; sees = (record { name = codes "g"; up = 1; slot = 0 } ∷ []); source = 0; start = 31; len = 5; line = 2; column = 25 } ∷
    -- 6
    record { kind = (PlName (codes "g")); children = []; tags = Expression ∷ ReadVariable ∷ []; meaning = (Local 1 0); root = 1; level = 1; slots = 0; sees = (record { name = codes "g"; up = 1; slot = 0 } ∷ []); source = 0; start = 31; len = 1; line = 2; column = 25 } ∷
    -- 7
    record { kind = (PlNumber (pos 1)); children = []; tags = Expression ∷ []; meaning = Nothing; root = 1; level = 1; slots = 0; sees = (record { name = codes "g"; up = 1; slot = 0 } ∷ []); source = 0; start = 35; len = 1; line = 2; column = 29 } ∷
    -- 8
    record { kind = (PlAssign (codes "g")); children = 9 ∷ []; tags = Statement ∷ WriteVariable ∷ []; meaning = (Local 1 0); root = 1; level = 1; slots = 0; sees = (record { name = codes "g"; up = 1; slot = 0 } ∷ []); source = 0; start = 38; len = 11; line = 2; column = 32 } ∷
    -- 9
    record { kind = (PlBinary Mul); children = 10 ∷ 11 ∷ []; tags = Expression ∷ []; meaning = Nothing; root = 1; level = 1; slots = 0; sees = (record { name = codes "g"; up = 1; slot = 0 } ∷ []); source = 0; start = 43; len = 6; line = 2; column = 37 } ∷
    -- 10
    record { kind = (PlName (codes "g")); children = []; tags = Expression ∷ ReadVariable ∷ []; meaning = (Local 1 0); root = 1; level = 1; slots = 0; sees = (record { name = codes "g"; up = 1; slot = 0 } ∷ []); source = 0; start = 43; len = 1; line = 2; column = 37 } ∷
    -- 11
    record { kind = (PlNumber (pos 10)); children = []; tags = Expression ∷ []; meaning = Nothing; root = 1; level = 1; slots = 0; sees = (record { name = codes "g"; up = 1; slot = 0 } ∷ []); source = 0; start = 47; len = 2; line = 2; column = 41 } ∷
    -- 12
    record { kind = PlBody; children = 13 ∷ []; tags = RootBody ∷ []; meaning = Nothing; root = 0; level = 0; slots = 0; sees = (record { name = codes "g"; up = 0; slot = 0 } ∷ []); source = 0; start = 55; len = 21; line = 3; column = 1 } ∷
    -- 13
    record { kind = PlBegin; children = 14 ∷ 15 ∷ []; tags = []; meaning = Nothing; root = 0; level = 0; slots = 0; sees = (record { name = codes "g"; up = 0; slot = 0 } ∷ []); source = 0; start = 55; len = 21; line = 3; column = 1 } ∷
    -- 14
    record { kind = (PlCall (codes "q")); children = []; tags = Statement ∷ Call ∷ []; meaning = (Means 2); root = 0; level = 0; slots = 0; sees = (record { name = codes "g"; up = 0; slot = 0 } ∷ []); source = 0; start = 61; len = 6; line = 3; column = 7 } ∷
    -- 15
    record { kind = PlWrite; children = 16 ∷ []; tags = Statement ∷ []; meaning = Nothing; root = 0; level = 0; slots = 0; sees = (record { name = codes "g"; up = 0; slot = 0 } ∷ []); source = 0; start = 69; len = 3; line = 3; column = 15 } ∷
    -- 16
    record { kind = (PlName (codes "g")); children = []; tags = Expression ∷ ReadVariable ∷ []; meaning = (Local 0 0); root = 0; level = 0; slots = 0; sees = (record { name = codes "g"; up = 0; slot = 0 } ∷ []); source = 0; start = 71; len = 1; line = 3; column = 17 } ∷
    []

abbrev items : List Item
items =
    record { name = codes "println"; root = None } ∷
    record { name = codes "main"; root = Some 0 } ∷
    record { name = codes "q"; root = Some 1 } ∷
    []

abbrev pub program : Program
program = record { nodes = nodes; items = items; mains = Some 0 ∷ []; entries = 1 ∷ [] }

pub main_variable_stays : brief (meaning_of program 1 1000000 ((13, Reenter 0) ∷ [])) ≡ (codes "20\n", Done (Number (pos 20)), 25, 44)
unfolding meaning_of evaluated digits
main_variable_stays = refl

pub sum_is_written : event_at 11 (meaning_of program 1 1000000 ((13, Reenter 0) ∷ [])) ≡ (Some (Gave (Number (pos 1)), 5, 6, 2))
unfolding meaning_of evaluated digits
sum_is_written = refl

pub assignment_returns : event_at 12 (meaning_of program 1 1000000 ((13, Reenter 0) ∷ [])) ≡ (Some (Gave Null, 4, 5, 2))
unfolding meaning_of evaluated digits
assignment_returns = refl

pub seen_from_the_procedure : value_at 13 0 1 0 (meaning_of program 1 1000000 ((13, Reenter 0) ∷ [])) ≡ (Some (Number (pos 1)))
unfolding meaning_of evaluated digits
seen_from_the_procedure = refl

pub seen_from_the_main_block : value_at 13 1 0 0 (meaning_of program 1 1000000 ((13, Reenter 0) ∷ [])) ≡ (Some (Number (pos 1)))
unfolding meaning_of evaluated digits
seen_from_the_main_block = refl

pub seen_again : value_at 19 0 1 0 (meaning_of program 1 1000000 ((13, Reenter 0) ∷ [])) ≡ (Some (Number (pos 1)))
unfolding meaning_of evaluated digits
seen_again = refl

pub no_such_block : value_at 13 0 2 0 (meaning_of program 1 1000000 ((13, Reenter 0) ∷ [])) ≡ (None)
unfolding meaning_of evaluated digits
no_such_block = refl
