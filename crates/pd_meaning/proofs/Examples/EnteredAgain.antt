-- A function is entered again from its first argument, though it has changed its variable. What was printed stays.
use Rattle.std.specs.Prelude.{◌≡◌, refl, List, [], ◌∷◌, None, Some, pos, codes}
use Rattle.std.specs.Fmt.{digits}
use Rattle.pd_values.specs.declared.value.End.TheVariants.{Done}
use Rattle.pd_values.specs.declared.value.Value.TheVariants.{Null, Number}
use Rattle.pd_machine.specs.declared.event.EventKind.TheVariants.{Enter, Return as Gave, Leave}
use Rattle.pd_machine.specs.declared.event.Cause.TheVariants.{Unwinding}
use Rattle.pd_machine.specs.declared.event.Verdict.TheVariants.{Reenter}
use Rattle.pd_meaning.specs.Meaning.{meaning_of, evaluated}
use Rattle.pd_meaning.proofs.Brief.{brief, event_at, frames_at, value_at}
use Rattle.pd_tree.specs.declared.kind.Kind.TheVariants.{SlAssign, SlBinary, SlBody, SlCall, SlFunction, SlName, SlNumber, SlReturn}
use Rattle.pd_tree.specs.declared.kind.Operator.TheVariants.{Add}
use Rattle.pd_values.specs.declared.value.Tag.TheVariants.{Statement, Call, Root, RootBody, Expression, ReadVariable, WriteVariable}
use Rattle.pd_tree.specs.declared.kind.Meaning.TheVariants.{Local, Item as Means, Nothing}
use Rattle.pd_tree.specs.Program.{Program, Node, Item}

abbrev nodes : List Node
nodes =
    -- 0
    record { kind = (SlFunction (codes "f") (codes "a" ∷ [])); children = 1 ∷ []; tags = Root ∷ []; meaning = Nothing; root = 0; level = 0; slots = 1; sees = (record { name = codes "a"; up = 0; slot = 0 } ∷ []); source = 0; start = 0; len = 56; line = 1; column = 1 } ∷
    -- 1
    record { kind = SlBody; children = 2 ∷ 5 ∷ 9 ∷ []; tags = RootBody ∷ []; meaning = Nothing; root = 0; level = 0; slots = 0; sees = (record { name = codes "a"; up = 0; slot = 0 } ∷ []); source = 0; start = 14; len = 42; line = 1; column = 15 } ∷
    -- 2
    record { kind = SlCall; children = 3 ∷ 4 ∷ []; tags = Expression ∷ Call ∷ Statement ∷ []; meaning = Nothing; root = 0; level = 0; slots = 0; sees = (record { name = codes "a"; up = 0; slot = 0 } ∷ []); source = 0; start = 18; len = 10; line = 2; column = 3 } ∷
    -- 3
    record { kind = (SlName (codes "println")); children = []; tags = Expression ∷ []; meaning = (Means 0); root = 0; level = 0; slots = 0; sees = (record { name = codes "a"; up = 0; slot = 0 } ∷ []); source = 0; start = 18; len = 7; line = 2; column = 3 } ∷
    -- 4
    record { kind = (SlName (codes "a")); children = []; tags = Expression ∷ ReadVariable ∷ []; meaning = (Local 0 0); root = 0; level = 0; slots = 0; sees = (record { name = codes "a"; up = 0; slot = 0 } ∷ []); source = 0; start = 26; len = 1; line = 2; column = 11 } ∷
    -- 5
    record { kind = (SlAssign (codes "a")); children = 6 ∷ []; tags = Expression ∷ WriteVariable ∷ Statement ∷ []; meaning = (Local 0 0); root = 0; level = 0; slots = 0; sees = (record { name = codes "a"; up = 0; slot = 0 } ∷ []); source = 0; start = 32; len = 9; line = 3; column = 3 } ∷
    -- 6
    record { kind = (SlBinary Add); children = 7 ∷ 8 ∷ []; tags = Expression ∷ []; meaning = Nothing; root = 0; level = 0; slots = 0; sees = (record { name = codes "a"; up = 0; slot = 0 } ∷ []); source = 0; start = 36; len = 5; line = 3; column = 7 } ∷
    -- 7
    record { kind = (SlName (codes "a")); children = []; tags = Expression ∷ ReadVariable ∷ []; meaning = (Local 0 0); root = 0; level = 0; slots = 0; sees = (record { name = codes "a"; up = 0; slot = 0 } ∷ []); source = 0; start = 36; len = 1; line = 3; column = 7 } ∷
    -- 8
    record { kind = (SlNumber (pos 1)); children = []; tags = Expression ∷ []; meaning = Nothing; root = 0; level = 0; slots = 0; sees = (record { name = codes "a"; up = 0; slot = 0 } ∷ []); source = 0; start = 40; len = 1; line = 3; column = 11 } ∷
    -- 9
    record { kind = SlReturn; children = 10 ∷ []; tags = Statement ∷ []; meaning = Nothing; root = 0; level = 0; slots = 0; sees = (record { name = codes "a"; up = 0; slot = 0 } ∷ []); source = 0; start = 45; len = 8; line = 4; column = 3 } ∷
    -- 10
    record { kind = (SlName (codes "a")); children = []; tags = Expression ∷ ReadVariable ∷ []; meaning = (Local 0 0); root = 0; level = 0; slots = 0; sees = (record { name = codes "a"; up = 0; slot = 0 } ∷ []); source = 0; start = 52; len = 1; line = 4; column = 10 } ∷
    -- 11
    record { kind = (SlFunction (codes "main") []); children = 12 ∷ []; tags = Root ∷ []; meaning = Nothing; root = 11; level = 0; slots = 0; sees = []; source = 0; start = 57; len = 36; line = 6; column = 1 } ∷
    -- 12
    record { kind = SlBody; children = 13 ∷ []; tags = RootBody ∷ []; meaning = Nothing; root = 11; level = 0; slots = 0; sees = []; source = 0; start = 73; len = 20; line = 6; column = 17 } ∷
    -- 13
    record { kind = SlCall; children = 14 ∷ 15 ∷ []; tags = Expression ∷ Call ∷ Statement ∷ []; meaning = Nothing; root = 11; level = 0; slots = 0; sees = []; source = 0; start = 77; len = 13; line = 7; column = 3 } ∷
    -- 14
    record { kind = (SlName (codes "println")); children = []; tags = Expression ∷ []; meaning = (Means 0); root = 11; level = 0; slots = 0; sees = []; source = 0; start = 77; len = 7; line = 7; column = 3 } ∷
    -- 15
    record { kind = SlCall; children = 16 ∷ 17 ∷ []; tags = Expression ∷ Call ∷ []; meaning = Nothing; root = 11; level = 0; slots = 0; sees = []; source = 0; start = 85; len = 4; line = 7; column = 11 } ∷
    -- 16
    record { kind = (SlName (codes "f")); children = []; tags = Expression ∷ []; meaning = (Means 1); root = 11; level = 0; slots = 0; sees = []; source = 0; start = 85; len = 1; line = 7; column = 11 } ∷
    -- 17
    record { kind = (SlNumber (pos 1)); children = []; tags = Expression ∷ []; meaning = Nothing; root = 11; level = 0; slots = 0; sees = []; source = 0; start = 87; len = 1; line = 7; column = 13 } ∷
    []

abbrev items : List Item
items =
    record { name = codes "println"; root = None } ∷
    record { name = codes "f"; root = Some 0 } ∷
    record { name = codes "main"; root = Some 11 } ∷
    []

abbrev pub program : Program
program = record { nodes = nodes; items = items; mains = None ∷ []; entries = 2 ∷ [] }

pub again_from_one : brief (meaning_of program 2 1000000 ((26, Reenter 0) ∷ [])) ≡ (codes "1\n1\n2\n", Done Null, 28, 56)
unfolding meaning_of evaluated digits
again_from_one = refl

pub entered_first : event_at 10 (meaning_of program 2 1000000 ((26, Reenter 0) ∷ [])) ≡ (Some (Enter, 0, 10, 2))
unfolding meaning_of evaluated digits
entered_first = refl

pub left_by_unwinding : event_at 29 (meaning_of program 2 1000000 ((26, Reenter 0) ∷ [])) ≡ (Some (Leave Unwinding, 0, 10, 2))
unfolding meaning_of evaluated digits
left_by_unwinding = refl

pub entered_anew : event_at 30 (meaning_of program 2 1000000 ((26, Reenter 0) ∷ [])) ≡ (Some (Enter, 0, 30, 2))
unfolding meaning_of evaluated digits
entered_anew = refl

pub returned_at_last : event_at 51 (meaning_of program 2 1000000 ((26, Reenter 0) ∷ [])) ≡ (Some (Gave (Number (pos 2)), 0, 30, 2))
unfolding meaning_of evaluated digits
returned_at_last = refl

pub frames_at_the_verdict : frames_at 26 (meaning_of program 2 1000000 ((26, Reenter 0) ∷ [])) ≡ ((0, 9) ∷ (11, 15) ∷ [])
unfolding meaning_of evaluated digits
frames_at_the_verdict = refl

pub changed_at_the_verdict : value_at 26 0 0 0 (meaning_of program 2 1000000 ((26, Reenter 0) ∷ [])) ≡ (Some (Number (pos 2)))
unfolding meaning_of evaluated digits
changed_at_the_verdict = refl

pub first_again : value_at 32 0 0 0 (meaning_of program 2 1000000 ((26, Reenter 0) ∷ [])) ≡ (Some (Number (pos 1)))
unfolding meaning_of evaluated digits
first_again = refl
