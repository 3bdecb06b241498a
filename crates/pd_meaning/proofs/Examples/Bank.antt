-- A report over a ledger: calls go back and forth between the two languages.
use Rattle.std.specs.Prelude.{◌≡◌, refl, List, [], ◌∷◌, None, Some, pos, negsuc, codes}
use Rattle.std.specs.Fmt.{digits}
use Rattle.pd_values.specs.declared.value.End.TheVariants.{Done}
use Rattle.pd_values.specs.declared.value.Value.TheVariants.{Number}
use Rattle.pd_meaning.specs.Meaning.{meaning_of, evaluated}
use Rattle.pd_meaning.proofs.Brief.{output_and_end}
use Rattle.pd_tree.specs.declared.kind.Kind.TheVariants.{PlAssign, PlBegin, PlBinary, PlBody, PlCall, PlIf, PlName, PlNumber, PlProcedure, PlWrite, SlAssign, SlBinary, SlBlock, SlBody, SlCall, SlFunction, SlIf, SlName, SlNumber, SlReturn, SlText, SlWhile}
use Rattle.pd_tree.specs.declared.kind.Operator.TheVariants.{Add, Div, Equal, Greater, Less, LessEq, Mul, Sub}
use Rattle.pd_values.specs.declared.value.Tag.TheVariants.{Statement, Call, Root, RootBody, Expression, ReadVariable, WriteVariable}
use Rattle.pd_tree.specs.declared.kind.Meaning.TheVariants.{Local, Item as Means, Nothing}
use Rattle.pd_tree.specs.Program.{Program, Node, Item}

abbrev nodes : List Node
nodes =
    -- 0
    record { kind = (SlFunction (codes "label") (codes "n" ∷ [])); children = 1 ∷ []; tags = Root ∷ []; meaning = Nothing; root = 0; level = 0; slots = 1; sees = (record { name = codes "n"; up = 0; slot = 0 } ∷ []); source = 0; start = 18; len = 67; line = 2; column = 1 } ∷
    -- 1
    record { kind = SlBody; children = 2 ∷ 9 ∷ []; tags = RootBody ∷ []; meaning = Nothing; root = 0; level = 0; slots = 0; sees = (record { name = codes "n"; up = 0; slot = 0 } ∷ []); source = 0; start = 36; len = 49; line = 2; column = 19 } ∷
    -- 2
    record { kind = SlIf; children = 3 ∷ 6 ∷ []; tags = []; meaning = Nothing; root = 0; level = 0; slots = 0; sees = (record { name = codes "n"; up = 0; slot = 0 } ∷ []); source = 0; start = 40; len = 28; line = 3; column = 3 } ∷
    -- 3
    record { kind = (SlBinary Less); children = 4 ∷ 5 ∷ []; tags = Expression ∷ Statement ∷ []; meaning = Nothing; root = 0; level = 0; slots = 0; sees = (record { name = codes "n"; up = 0; slot = 0 } ∷ []); source = 0; start = 44; len = 5; line = 3; column = 7 } ∷
    -- 4
    record { kind = (SlName (codes "n")); children = []; tags = Expression ∷ ReadVariable ∷ []; meaning = (Local 0 0); root = 0; level = 0; slots = 0; sees = (record { name = codes "n"; up = 0; slot = 0 } ∷ []); source = 0; start = 44; len = 1; line = 3; column = 7 } ∷
    -- 5
    record { kind = (SlNumber (pos 0)); children = []; tags = Expression ∷ []; meaning = Nothing; root = 0; level = 0; slots = 0; sees = (record { name = codes "n"; up = 0; slot = 0 } ∷ []); source = 0; start = 48; len = 1; line = 3; column = 11 } ∷
    -- 6
    record { kind = SlBlock; children = 7 ∷ []; tags = []; meaning = Nothing; root = 0; level = 0; slots = 0; sees = (record { name = codes "n"; up = 0; slot = 0 } ∷ []); source = 0; start = 51; len = 17; line = 3; column = 14 } ∷
    -- 7
    record { kind = SlReturn; children = 8 ∷ []; tags = Statement ∷ []; meaning = Nothing; root = 0; level = 0; slots = 0; sees = (record { name = codes "n"; up = 0; slot = 0 } ∷ []); source = 0; start = 53; len = 12; line = 3; column = 16 } ∷
    -- 8
    record { kind = (SlText (codes "low")); children = []; tags = Expression ∷ []; meaning = Nothing; root = 0; level = 0; slots = 0; sees = (record { name = codes "n"; up = 0; slot = 0 } ∷ []); source = 0; start = 60; len = 5; line = 3; column = 23 } ∷
    -- 9
    record { kind = SlReturn; children = 10 ∷ []; tags = Statement ∷ []; meaning = Nothing; root = 0; level = 0; slots = 0; sees = (record { name = codes "n"; up = 0; slot = 0 } ∷ []); source = 0; start = 71; len = 11; line = 4; column = 3 } ∷
    -- 10
    record { kind = (SlText (codes "ok")); children = []; tags = Expression ∷ []; meaning = Nothing; root = 0; level = 0; slots = 0; sees = (record { name = codes "n"; up = 0; slot = 0 } ∷ []); source = 0; start = 78; len = 4; line = 4; column = 10 } ∷
    -- 11
    record { kind = (SlFunction (codes "step") (codes "i" ∷ [])); children = 12 ∷ []; tags = Root ∷ []; meaning = Nothing; root = 11; level = 0; slots = 2; sees = (record { name = codes "i"; up = 0; slot = 0 } ∷ []); source = 0; start = 86; len = 109; line = 6; column = 1 } ∷
    -- 12
    record { kind = SlBody; children = 13 ∷ 17 ∷ 30 ∷ []; tags = RootBody ∷ []; meaning = Nothing; root = 11; level = 0; slots = 0; sees = (record { name = codes "i"; up = 0; slot = 0 } ∷ []); source = 0; start = 103; len = 92; line = 6; column = 18 } ∷
    -- 13
    record { kind = (SlAssign (codes "amount")); children = 14 ∷ []; tags = Expression ∷ WriteVariable ∷ Statement ∷ []; meaning = (Local 0 1); root = 11; level = 0; slots = 0; sees = (record { name = codes "i"; up = 0; slot = 0 } ∷ []); source = 0; start = 107; len = 15; line = 7; column = 3 } ∷
    -- 14
    record { kind = (SlBinary Mul); children = 15 ∷ 16 ∷ []; tags = Expression ∷ []; meaning = Nothing; root = 11; level = 0; slots = 0; sees = (record { name = codes "i"; up = 0; slot = 0 } ∷ []); source = 0; start = 116; len = 6; line = 7; column = 12 } ∷
    -- 15
    record { kind = (SlName (codes "i")); children = []; tags = Expression ∷ ReadVariable ∷ []; meaning = (Local 0 0); root = 11; level = 0; slots = 0; sees = (record { name = codes "i"; up = 0; slot = 0 } ∷ []); source = 0; start = 116; len = 1; line = 7; column = 12 } ∷
    -- 16
    record { kind = (SlNumber (pos 25)); children = []; tags = Expression ∷ []; meaning = Nothing; root = 11; level = 0; slots = 0; sees = (record { name = codes "i"; up = 0; slot = 0 } ∷ []); source = 0; start = 120; len = 2; line = 7; column = 16 } ∷
    -- 17
    record { kind = SlIf; children = 18 ∷ 25 ∷ []; tags = []; meaning = Nothing; root = 11; level = 0; slots = 0; sees = (record { name = codes "i"; up = 0; slot = 0 } ∷ record { name = codes "amount"; up = 0; slot = 1 } ∷ []); source = 0; start = 126; len = 44; line = 8; column = 3 } ∷
    -- 18
    record { kind = (SlBinary Equal); children = 19 ∷ 24 ∷ []; tags = Expression ∷ Statement ∷ []; meaning = Nothing; root = 11; level = 0; slots = 0; sees = (record { name = codes "i"; up = 0; slot = 0 } ∷ record { name = codes "amount"; up = 0; slot = 1 } ∷ []); source = 0; start = 130; len = 14; line = 8; column = 7 } ∷
    -- 19
    record { kind = (SlBinary Mul); children = 20 ∷ 23 ∷ []; tags = Expression ∷ []; meaning = Nothing; root = 11; level = 0; slots = 0; sees = (record { name = codes "i"; up = 0; slot = 0 } ∷ record { name = codes "amount"; up = 0; slot = 1 } ∷ []); source = 0; start = 130; len = 9; line = 8; column = 7 } ∷
    -- 20
    record { kind = (SlBinary Div); children = 21 ∷ 22 ∷ []; tags = Expression ∷ []; meaning = Nothing; root = 11; level = 0; slots = 0; sees = (record { name = codes "i"; up = 0; slot = 0 } ∷ record { name = codes "amount"; up = 0; slot = 1 } ∷ []); source = 0; start = 130; len = 5; line = 8; column = 7 } ∷
    -- 21
    record { kind = (SlName (codes "i")); children = []; tags = Expression ∷ ReadVariable ∷ []; meaning = (Local 0 0); root = 11; level = 0; slots = 0; sees = (record { name = codes "i"; up = 0; slot = 0 } ∷ record { name = codes "amount"; up = 0; slot = 1 } ∷ []); source = 0; start = 130; len = 1; line = 8; column = 7 } ∷
    -- 22
    record { kind = (SlNumber (pos 2)); children = []; tags = Expression ∷ []; meaning = Nothing; root = 11; level = 0; slots = 0; sees = (record { name = codes "i"; up = 0; slot = 0 } ∷ record { name = codes "amount"; up = 0; slot = 1 } ∷ []); source = 0; start = 134; len = 1; line = 8; column = 11 } ∷
    -- 23
    record { kind = (SlNumber (pos 2)); children = []; tags = Expression ∷ []; meaning = Nothing; root = 11; level = 0; slots = 0; sees = (record { name = codes "i"; up = 0; slot = 0 } ∷ record { name = codes "amount"; up = 0; slot = 1 } ∷ []); source = 0; start = 138; len = 1; line = 8; column = 15 } ∷
    -- 24
    record { kind = (SlName (codes "i")); children = []; tags = Expression ∷ ReadVariable ∷ []; meaning = (Local 0 0); root = 11; level = 0; slots = 0; sees = (record { name = codes "i"; up = 0; slot = 0 } ∷ record { name = codes "amount"; up = 0; slot = 1 } ∷ []); source = 0; start = 143; len = 1; line = 8; column = 20 } ∷
    -- 25
    record { kind = SlBlock; children = 26 ∷ []; tags = []; meaning = Nothing; root = 11; level = 0; slots = 0; sees = (record { name = codes "i"; up = 0; slot = 0 } ∷ record { name = codes "amount"; up = 0; slot = 1 } ∷ []); source = 0; start = 146; len = 24; line = 8; column = 23 } ∷
    -- 26
    record { kind = (SlAssign (codes "amount")); children = 27 ∷ []; tags = Expression ∷ WriteVariable ∷ Statement ∷ []; meaning = (Local 0 1); root = 11; level = 0; slots = 0; sees = (record { name = codes "i"; up = 0; slot = 0 } ∷ record { name = codes "amount"; up = 0; slot = 1 } ∷ []); source = 0; start = 148; len = 19; line = 8; column = 25 } ∷
    -- 27
    record { kind = (SlBinary Sub); children = 28 ∷ 29 ∷ []; tags = Expression ∷ []; meaning = Nothing; root = 11; level = 0; slots = 0; sees = (record { name = codes "i"; up = 0; slot = 0 } ∷ record { name = codes "amount"; up = 0; slot = 1 } ∷ []); source = 0; start = 157; len = 10; line = 8; column = 34 } ∷
    -- 28
    record { kind = (SlNumber (pos 0)); children = []; tags = Expression ∷ []; meaning = Nothing; root = 11; level = 0; slots = 0; sees = (record { name = codes "i"; up = 0; slot = 0 } ∷ record { name = codes "amount"; up = 0; slot = 1 } ∷ []); source = 0; start = 157; len = 1; line = 8; column = 34 } ∷
    -- 29
    record { kind = (SlName (codes "amount")); children = []; tags = Expression ∷ ReadVariable ∷ []; meaning = (Local 0 1); root = 11; level = 0; slots = 0; sees = (record { name = codes "i"; up = 0; slot = 0 } ∷ record { name = codes "amount"; up = 0; slot = 1 } ∷ []); source = 0; start = 161; len = 6; line = 8; column = 38 } ∷
    -- 30
    record { kind = SlReturn; children = 31 ∷ []; tags = Statement ∷ []; meaning = Nothing; root = 11; level = 0; slots = 0; sees = (record { name = codes "i"; up = 0; slot = 0 } ∷ record { name = codes "amount"; up = 0; slot = 1 } ∷ []); source = 0; start = 173; len = 19; line = 9; column = 3 } ∷
    -- 31
    record { kind = SlCall; children = 32 ∷ 33 ∷ []; tags = Expression ∷ Call ∷ []; meaning = Nothing; root = 11; level = 0; slots = 0; sees = (record { name = codes "i"; up = 0; slot = 0 } ∷ record { name = codes "amount"; up = 0; slot = 1 } ∷ []); source = 0; start = 180; len = 12; line = 9; column = 10 } ∷
    -- 32
    record { kind = (SlName (codes "post")); children = []; tags = Expression ∷ []; meaning = (Means 6); root = 11; level = 0; slots = 0; sees = (record { name = codes "i"; up = 0; slot = 0 } ∷ record { name = codes "amount"; up = 0; slot = 1 } ∷ []); source = 0; start = 180; len = 4; line = 9; column = 10 } ∷
    -- 33
    record { kind = (SlName (codes "amount")); children = []; tags = Expression ∷ ReadVariable ∷ []; meaning = (Local 0 1); root = 11; level = 0; slots = 0; sees = (record { name = codes "i"; up = 0; slot = 0 } ∷ record { name = codes "amount"; up = 0; slot = 1 } ∷ []); source = 0; start = 185; len = 6; line = 9; column = 15 } ∷
    -- 34
    record { kind = (SlFunction (codes "audit") []); children = 35 ∷ []; tags = Root ∷ []; meaning = Nothing; root = 34; level = 0; slots = 0; sees = []; source = 0; start = 196; len = 51; line = 11; column = 1 } ∷
    -- 35
    record { kind = SlBody; children = 36 ∷ []; tags = RootBody ∷ []; meaning = Nothing; root = 34; level = 0; slots = 0; sees = []; source = 0; start = 213; len = 34; line = 11; column = 18 } ∷
    -- 36
    record { kind = SlCall; children = 37 ∷ 38 ∷ []; tags = Expression ∷ Call ∷ Statement ∷ []; meaning = Nothing; root = 34; level = 0; slots = 0; sees = []; source = 0; start = 217; len = 27; line = 12; column = 3 } ∷
    -- 37
    record { kind = (SlName (codes "println")); children = []; tags = Expression ∷ []; meaning = (Means 0); root = 34; level = 0; slots = 0; sees = []; source = 0; start = 217; len = 7; line = 12; column = 3 } ∷
    -- 38
    record { kind = (SlBinary Add); children = 39 ∷ 40 ∷ []; tags = Expression ∷ []; meaning = Nothing; root = 34; level = 0; slots = 0; sees = []; source = 0; start = 225; len = 18; line = 12; column = 11 } ∷
    -- 39
    record { kind = (SlText (codes "audit ")); children = []; tags = Expression ∷ []; meaning = Nothing; root = 34; level = 0; slots = 0; sees = []; source = 0; start = 225; len = 8; line = 12; column = 11 } ∷
    -- 40
    record { kind = SlCall; children = 41 ∷ []; tags = Expression ∷ Call ∷ []; meaning = Nothing; root = 34; level = 0; slots = 0; sees = []; source = 0; start = 236; len = 7; line = 12; column = 22 } ∷
    -- 41
    record { kind = (SlName (codes "total")); children = []; tags = Expression ∷ []; meaning = (Means 7); root = 34; level = 0; slots = 0; sees = []; source = 0; start = 236; len = 5; line = 12; column = 22 } ∷
    -- 42
    record { kind = (SlFunction (codes "main") []); children = 43 ∷ []; tags = Root ∷ []; meaning = Nothing; root = 42; level = 0; slots = 2; sees = []; source = 0; start = 248; len = 194; line = 14; column = 1 } ∷
    -- 43
    record { kind = SlBody; children = 44 ∷ 46 ∷ 72 ∷ 78 ∷ []; tags = RootBody ∷ []; meaning = Nothing; root = 42; level = 0; slots = 0; sees = []; source = 0; start = 264; len = 178; line = 14; column = 17 } ∷
    -- 44
    record { kind = (SlAssign (codes "i")); children = 45 ∷ []; tags = Expression ∷ WriteVariable ∷ Statement ∷ []; meaning = (Local 0 0); root = 42; level = 0; slots = 0; sees = []; source = 0; start = 268; len = 5; line = 15; column = 3 } ∷
    -- 45
    record { kind = (SlNumber (pos 1)); children = []; tags = Expression ∷ []; meaning = Nothing; root = 42; level = 0; slots = 0; sees = []; source = 0; start = 272; len = 1; line = 15; column = 7 } ∷
    -- 46
    record { kind = SlWhile; children = 47 ∷ 50 ∷ []; tags = []; meaning = Nothing; root = 42; level = 0; slots = 0; sees = (record { name = codes "i"; up = 0; slot = 0 } ∷ []); source = 0; start = 277; len = 114; line = 16; column = 3 } ∷
    -- 47
    record { kind = (SlBinary LessEq); children = 48 ∷ 49 ∷ []; tags = Expression ∷ Statement ∷ []; meaning = Nothing; root = 42; level = 0; slots = 0; sees = (record { name = codes "i"; up = 0; slot = 0 } ∷ []); source = 0; start = 284; len = 6; line = 16; column = 10 } ∷
    -- 48
    record { kind = (SlName (codes "i")); children = []; tags = Expression ∷ ReadVariable ∷ []; meaning = (Local 0 0); root = 42; level = 0; slots = 0; sees = (record { name = codes "i"; up = 0; slot = 0 } ∷ []); source = 0; start = 284; len = 1; line = 16; column = 10 } ∷
    -- 49
    record { kind = (SlNumber (pos 6)); children = []; tags = Expression ∷ []; meaning = Nothing; root = 42; level = 0; slots = 0; sees = (record { name = codes "i"; up = 0; slot = 0 } ∷ []); source = 0; start = 289; len = 1; line = 16; column = 15 } ∷
    -- 50
    record { kind = SlBlock; children = 51 ∷ 55 ∷ 68 ∷ []; tags = []; meaning = Nothing; root = 42; level = 0; slots = 0; sees = (record { name = codes "i"; up = 0; slot = 0 } ∷ []); source = 0; start = 292; len = 99; line = 16; column = 18 } ∷
    -- 51
    record { kind = (SlAssign (codes "balance")); children = 52 ∷ []; tags = Expression ∷ WriteVariable ∷ Statement ∷ []; meaning = (Local 0 1); root = 42; level = 0; slots = 0; sees = (record { name = codes "i"; up = 0; slot = 0 } ∷ []); source = 0; start = 298; len = 17; line = 17; column = 5 } ∷
    -- 52
    record { kind = SlCall; children = 53 ∷ 54 ∷ []; tags = Expression ∷ Call ∷ []; meaning = Nothing; root = 42; level = 0; slots = 0; sees = (record { name = codes "i"; up = 0; slot = 0 } ∷ []); source = 0; start = 308; len = 7; line = 17; column = 15 } ∷
    -- 53
    record { kind = (SlName (codes "step")); children = []; tags = Expression ∷ []; meaning = (Means 2); root = 42; level = 0; slots = 0; sees = (record { name = codes "i"; up = 0; slot = 0 } ∷ []); source = 0; start = 308; len = 4; line = 17; column = 15 } ∷
    -- 54
    record { kind = (SlName (codes "i")); children = []; tags = Expression ∷ ReadVariable ∷ []; meaning = (Local 0 0); root = 42; level = 0; slots = 0; sees = (record { name = codes "i"; up = 0; slot = 0 } ∷ []); source = 0; start = 313; len = 1; line = 17; column = 20 } ∷
    -- 55
    record { kind = SlCall; children = 56 ∷ 57 ∷ []; tags = Expression ∷ Call ∷ Statement ∷ []; meaning = Nothing; root = 42; level = 0; slots = 0; sees = (record { name = codes "i"; up = 0; slot = 0 } ∷ record { name = codes "balance"; up = 0; slot = 1 } ∷ []); source = 0; start = 321; len = 50; line = 18; column = 5 } ∷
    -- 56
    record { kind = (SlName (codes "println")); children = []; tags = Expression ∷ []; meaning = (Means 0); root = 42; level = 0; slots = 0; sees = (record { name = codes "i"; up = 0; slot = 0 } ∷ record { name = codes "balance"; up = 0; slot = 1 } ∷ []); source = 0; start = 321; len = 7; line = 18; column = 5 } ∷
    -- 57
    record { kind = (SlBinary Add); children = 58 ∷ 65 ∷ []; tags = Expression ∷ []; meaning = Nothing; root = 42; level = 0; slots = 0; sees = (record { name = codes "i"; up = 0; slot = 0 } ∷ record { name = codes "balance"; up = 0; slot = 1 } ∷ []); source = 0; start = 329; len = 41; line = 18; column = 13 } ∷
    -- 58
    record { kind = (SlBinary Add); children = 59 ∷ 64 ∷ []; tags = Expression ∷ []; meaning = Nothing; root = 42; level = 0; slots = 0; sees = (record { name = codes "i"; up = 0; slot = 0 } ∷ record { name = codes "balance"; up = 0; slot = 1 } ∷ []); source = 0; start = 329; len = 24; line = 18; column = 13 } ∷
    -- 59
    record { kind = (SlBinary Add); children = 60 ∷ 63 ∷ []; tags = Expression ∷ []; meaning = Nothing; root = 42; level = 0; slots = 0; sees = (record { name = codes "i"; up = 0; slot = 0 } ∷ record { name = codes "balance"; up = 0; slot = 1 } ∷ []); source = 0; start = 329; len = 18; line = 18; column = 13 } ∷
    -- 60
    record { kind = (SlBinary Add); children = 61 ∷ 62 ∷ []; tags = Expression ∷ []; meaning = Nothing; root = 42; level = 0; slots = 0; sees = (record { name = codes "i"; up = 0; slot = 0 } ∷ record { name = codes "balance"; up = 0; slot = 1 } ∷ []); source = 0; start = 329; len = 8; line = 18; column = 13 } ∷
    -- 61
    record { kind = (SlName (codes "i")); children = []; tags = Expression ∷ ReadVariable ∷ []; meaning = (Local 0 0); root = 42; level = 0; slots = 0; sees = (record { name = codes "i"; up = 0; slot = 0 } ∷ record { name = codes "balance"; up = 0; slot = 1 } ∷ []); source = 0; start = 329; len = 1; line = 18; column = 13 } ∷
    -- 62
    record { kind = (SlText (codes ": ")); children = []; tags = Expression ∷ []; meaning = Nothing; root = 42; level = 0; slots = 0; sees = (record { name = codes "i"; up = 0; slot = 0 } ∷ record { name = codes "balance"; up = 0; slot = 1 } ∷ []); source = 0; start = 333; len = 4; line = 18; column = 17 } ∷
    -- 63
    record { kind = (SlName (codes "balance")); children = []; tags = Expression ∷ ReadVariable ∷ []; meaning = (Local 0 1); root = 42; level = 0; slots = 0; sees = (record { name = codes "i"; up = 0; slot = 0 } ∷ record { name = codes "balance"; up = 0; slot = 1 } ∷ []); source = 0; start = 340; len = 7; line = 18; column = 24 } ∷
    -- 64
    record { kind = (SlText (codes " ")); children = []; tags = Expression ∷ []; meaning = Nothing; root = 42; level = 0; slots = 0; sees = (record { name = codes "i"; up = 0; slot = 0 } ∷ record { name = codes "balance"; up = 0; slot = 1 } ∷ []); source = 0; start = 350; len = 3; line = 18; column = 34 } ∷
    -- 65
    record { kind = SlCall; children = 66 ∷ 67 ∷ []; tags = Expression ∷ Call ∷ []; meaning = Nothing; root = 42; level = 0; slots = 0; sees = (record { name = codes "i"; up = 0; slot = 0 } ∷ record { name = codes "balance"; up = 0; slot = 1 } ∷ []); source = 0; start = 356; len = 14; line = 18; column = 40 } ∷
    -- 66
    record { kind = (SlName (codes "label")); children = []; tags = Expression ∷ []; meaning = (Means 1); root = 42; level = 0; slots = 0; sees = (record { name = codes "i"; up = 0; slot = 0 } ∷ record { name = codes "balance"; up = 0; slot = 1 } ∷ []); source = 0; start = 356; len = 5; line = 18; column = 40 } ∷
    -- 67
    record { kind = (SlName (codes "balance")); children = []; tags = Expression ∷ ReadVariable ∷ []; meaning = (Local 0 1); root = 42; level = 0; slots = 0; sees = (record { name = codes "i"; up = 0; slot = 0 } ∷ record { name = codes "balance"; up = 0; slot = 1 } ∷ []); source = 0; start = 362; len = 7; line = 18; column = 46 } ∷
    -- 68
    record { kind = (SlAssign (codes "i")); children = 69 ∷ []; tags = Expression ∷ WriteVariable ∷ Statement ∷ []; meaning = (Local 0 0); root = 42; level = 0; slots = 0; sees = (record { name = codes "i"; up = 0; slot = 0 } ∷ record { name = codes "balance"; up = 0; slot = 1 } ∷ []); source = 0; start = 377; len = 9; line = 19; column = 5 } ∷
    -- 69
    record { kind = (SlBinary Add); children = 70 ∷ 71 ∷ []; tags = Expression ∷ []; meaning = Nothing; root = 42; level = 0; slots = 0; sees = (record { name = codes "i"; up = 0; slot = 0 } ∷ record { name = codes "balance"; up = 0; slot = 1 } ∷ []); source = 0; start = 381; len = 5; line = 19; column = 9 } ∷
    -- 70
    record { kind = (SlName (codes "i")); children = []; tags = Expression ∷ ReadVariable ∷ []; meaning = (Local 0 0); root = 42; level = 0; slots = 0; sees = (record { name = codes "i"; up = 0; slot = 0 } ∷ record { name = codes "balance"; up = 0; slot = 1 } ∷ []); source = 0; start = 381; len = 1; line = 19; column = 9 } ∷
    -- 71
    record { kind = (SlNumber (pos 1)); children = []; tags = Expression ∷ []; meaning = Nothing; root = 42; level = 0; slots = 0; sees = (record { name = codes "i"; up = 0; slot = 0 } ∷ record { name = codes "balance"; up = 0; slot = 1 } ∷ []); source = 0; start = 385; len = 1; line = 19; column = 13 } ∷
    -- 72
    record { kind = SlCall; children = 73 ∷ 74 ∷ []; tags = Expression ∷ Call ∷ Statement ∷ []; meaning = Nothing; root = 42; level = 0; slots = 0; sees = (record { name = codes "i"; up = 0; slot = 0 } ∷ []); source = 0; start = 394; len = 27; line = 21; column = 3 } ∷
    -- 73
    record { kind = (SlName (codes "println")); children = []; tags = Expression ∷ []; meaning = (Means 0); root = 42; level = 0; slots = 0; sees = (record { name = codes "i"; up = 0; slot = 0 } ∷ []); source = 0; start = 394; len = 7; line = 21; column = 3 } ∷
    -- 74
    record { kind = (SlBinary Add); children = 75 ∷ 76 ∷ []; tags = Expression ∷ []; meaning = Nothing; root = 42; level = 0; slots = 0; sees = (record { name = codes "i"; up = 0; slot = 0 } ∷ []); source = 0; start = 402; len = 18; line = 21; column = 11 } ∷
    -- 75
    record { kind = (SlText (codes "posts ")); children = []; tags = Expression ∷ []; meaning = Nothing; root = 42; level = 0; slots = 0; sees = (record { name = codes "i"; up = 0; slot = 0 } ∷ []); source = 0; start = 402; len = 8; line = 21; column = 11 } ∷
    -- 76
    record { kind = SlCall; children = 77 ∷ []; tags = Expression ∷ Call ∷ []; meaning = Nothing; root = 42; level = 0; slots = 0; sees = (record { name = codes "i"; up = 0; slot = 0 } ∷ []); source = 0; start = 413; len = 7; line = 21; column = 22 } ∷
    -- 77
    record { kind = (SlName (codes "posts")); children = []; tags = Expression ∷ []; meaning = (Means 8); root = 42; level = 0; slots = 0; sees = (record { name = codes "i"; up = 0; slot = 0 } ∷ []); source = 0; start = 413; len = 5; line = 21; column = 22 } ∷
    -- 78
    record { kind = SlReturn; children = 79 ∷ []; tags = Statement ∷ []; meaning = Nothing; root = 42; level = 0; slots = 0; sees = (record { name = codes "i"; up = 0; slot = 0 } ∷ []); source = 0; start = 425; len = 14; line = 22; column = 3 } ∷
    -- 79
    record { kind = SlCall; children = 80 ∷ []; tags = Expression ∷ Call ∷ []; meaning = Nothing; root = 42; level = 0; slots = 0; sees = (record { name = codes "i"; up = 0; slot = 0 } ∷ []); source = 0; start = 432; len = 7; line = 22; column = 10 } ∷
    -- 80
    record { kind = (SlName (codes "total")); children = []; tags = Expression ∷ []; meaning = (Means 7); root = 42; level = 0; slots = 0; sees = (record { name = codes "i"; up = 0; slot = 0 } ∷ []); source = 0; start = 432; len = 5; line = 22; column = 10 } ∷
    -- 81
    record { kind = (PlProcedure (codes "main") (codes "sum" ∷ codes "count" ∷ [])); children = 82 ∷ 100 ∷ 104 ∷ 108 ∷ []; tags = Root ∷ []; meaning = Nothing; root = 81; level = 0; slots = 2; sees = (record { name = codes "sum"; up = 0; slot = 0 } ∷ record { name = codes "count"; up = 0; slot = 1 } ∷ []); source = 1; start = 0; len = 266; line = 1; column = 1 } ∷
    -- 82
    record { kind = (PlProcedure (codes "post") (codes "amount" ∷ [])); children = 83 ∷ []; tags = Root ∷ []; meaning = Nothing; root = 82; level = 1; slots = 1; sees = (record { name = codes "amount"; up = 0; slot = 0 } ∷ record { name = codes "sum"; up = 1; slot = 0 } ∷ record { name = codes "count"; up = 1; slot = 1 } ∷ []); source = 1; start = 34; len = 146; line = 3; column = 1 } ∷
    -- 83
    record { kind = PlBody; children = 84 ∷ []; tags = RootBody ∷ []; meaning = Nothing; root = 82; level = 1; slots = 0; sees = (record { name = codes "amount"; up = 0; slot = 0 } ∷ record { name = codes "sum"; up = 1; slot = 0 } ∷ record { name = codes "count"; up = 1; slot = 1 } ∷ []); source = 1; start = 66; len = 114; line = 5; column = 3 } ∷
    -- 84
    record { kind = PlBegin; children = 85 ∷ 89 ∷ 93 ∷ 98 ∷ []; tags = []; meaning = Nothing; root = 82; level = 1; slots = 0; sees = (record { name = codes "amount"; up = 0; slot = 0 } ∷ record { name = codes "sum"; up = 1; slot = 0 } ∷ record { name = codes "count"; up = 1; slot = 1 } ∷ []); source = 1; start = 66; len = 114; line = 5; column = 3 } ∷
    -- 85
    record { kind = (PlAssign (codes "count")); children = 86 ∷ []; tags = Statement ∷ WriteVariable ∷ []; meaning = (Local 1 1); root = 82; level = 1; slots = 0; sees = (record { name = codes "amount"; up = 0; slot = 0 } ∷ record { name = codes "sum"; up = 1; slot = 0 } ∷ record { name = codes "count"; up = 1; slot = 1 } ∷ []); source = 1; start = 76; len = 18; line = 6; column = 5 } ∷
    -- 86
    record { kind = (PlBinary Add); children = 87 ∷ 88 ∷ []; tags = Expression ∷ []; meaning = Nothing; root = 82; level = 1; slots = 0; sees = (record { name = codes "amount"; up = 0; slot = 0 } ∷ record { name = codes "sum"; up = 1; slot = 0 } ∷ record { name = codes "count"; up = 1; slot = 1 } ∷ []); source = 1; start = 85; len = 9; line = 6; column = 14 } ∷
    -- 87
    record { kind = (PlName (codes "count")); children = []; tags = Expression ∷ ReadVariable ∷ []; meaning = (Local 1 1); root = 82; level = 1; slots = 0; sees = (record { name = codes "amount"; up = 0; slot = 0 } ∷ record { name = codes "sum"; up = 1; slot = 0 } ∷ record { name = codes "count"; up = 1; slot = 1 } ∷ []); source = 1; start = 85; len = 5; line = 6; column = 14 } ∷
    -- 88
    record { kind = (PlNumber (pos 1)); children = []; tags = Expression ∷ []; meaning = Nothing; root = 82; level = 1; slots = 0; sees = (record { name = codes "amount"; up = 0; slot = 0 } ∷ record { name = codes "sum"; up = 1; slot = 0 } ∷ record { name = codes "count"; up = 1; slot = 1 } ∷ []); source = 1; start = 93; len = 1; line = 6; column = 22 } ∷
    -- 89
    record { kind = (PlAssign (codes "sum")); children = 90 ∷ []; tags = Statement ∷ WriteVariable ∷ []; meaning = (Local 1 0); root = 82; level = 1; slots = 0; sees = (record { name = codes "amount"; up = 0; slot = 0 } ∷ record { name = codes "sum"; up = 1; slot = 0 } ∷ record { name = codes "count"; up = 1; slot = 1 } ∷ []); source = 1; start = 100; len = 19; line = 7; column = 5 } ∷
    -- 90
    record { kind = (PlBinary Add); children = 91 ∷ 92 ∷ []; tags = Expression ∷ []; meaning = Nothing; root = 82; level = 1; slots = 0; sees = (record { name = codes "amount"; up = 0; slot = 0 } ∷ record { name = codes "sum"; up = 1; slot = 0 } ∷ record { name = codes "count"; up = 1; slot = 1 } ∷ []); source = 1; start = 107; len = 12; line = 7; column = 12 } ∷
    -- 91
    record { kind = (PlName (codes "sum")); children = []; tags = Expression ∷ ReadVariable ∷ []; meaning = (Local 1 0); root = 82; level = 1; slots = 0; sees = (record { name = codes "amount"; up = 0; slot = 0 } ∷ record { name = codes "sum"; up = 1; slot = 0 } ∷ record { name = codes "count"; up = 1; slot = 1 } ∷ []); source = 1; start = 107; len = 3; line = 7; column = 12 } ∷
    -- 92
    record { kind = (PlName (codes "amount")); children = []; tags = Expression ∷ ReadVariable ∷ []; meaning = (Local 0 0); root = 82; level = 1; slots = 0; sees = (record { name = codes "amount"; up = 0; slot = 0 } ∷ record { name = codes "sum"; up = 1; slot = 0 } ∷ record { name = codes "count"; up = 1; slot = 1 } ∷ []); source = 1; start = 113; len = 6; line = 7; column = 18 } ∷
    -- 93
    record { kind = PlIf; children = 94 ∷ 97 ∷ []; tags = []; meaning = Nothing; root = 82; level = 1; slots = 0; sees = (record { name = codes "amount"; up = 0; slot = 0 } ∷ record { name = codes "sum"; up = 1; slot = 0 } ∷ record { name = codes "count"; up = 1; slot = 1 } ∷ []); source = 1; start = 125; len = 30; line = 8; column = 5 } ∷
    -- 94
    record { kind = (PlBinary Greater); children = 95 ∷ 96 ∷ []; tags = Expression ∷ Statement ∷ []; meaning = Nothing; root = 82; level = 1; slots = 0; sees = (record { name = codes "amount"; up = 0; slot = 0 } ∷ record { name = codes "sum"; up = 1; slot = 0 } ∷ record { name = codes "count"; up = 1; slot = 1 } ∷ []); source = 1; start = 128; len = 11; line = 8; column = 8 } ∷
    -- 95
    record { kind = (PlName (codes "sum")); children = []; tags = Expression ∷ ReadVariable ∷ []; meaning = (Local 1 0); root = 82; level = 1; slots = 0; sees = (record { name = codes "amount"; up = 0; slot = 0 } ∷ record { name = codes "sum"; up = 1; slot = 0 } ∷ record { name = codes "count"; up = 1; slot = 1 } ∷ []); source = 1; start = 128; len = 3; line = 8; column = 8 } ∷
    -- 96
    record { kind = (PlNumber (pos 60)); children = []; tags = Expression ∷ []; meaning = Nothing; root = 82; level = 1; slots = 0; sees = (record { name = codes "amount"; up = 0; slot = 0 } ∷ record { name = codes "sum"; up = 1; slot = 0 } ∷ record { name = codes "count"; up = 1; slot = 1 } ∷ []); source = 1; start = 134; len = 5; line = 8; column = 14 } ∷
    -- 97
    record { kind = (PlCall (codes "audit")); children = []; tags = Statement ∷ Call ∷ []; meaning = (Means 3); root = 82; level = 1; slots = 0; sees = (record { name = codes "amount"; up = 0; slot = 0 } ∷ record { name = codes "sum"; up = 1; slot = 0 } ∷ record { name = codes "count"; up = 1; slot = 1 } ∷ []); source = 1; start = 145; len = 10; line = 8; column = 25 } ∷
    -- 98
    record { kind = (PlAssign (codes "amount")); children = 99 ∷ []; tags = Statement ∷ WriteVariable ∷ []; meaning = (Local 0 0); root = 82; level = 1; slots = 0; sees = (record { name = codes "amount"; up = 0; slot = 0 } ∷ record { name = codes "sum"; up = 1; slot = 0 } ∷ record { name = codes "count"; up = 1; slot = 1 } ∷ []); source = 1; start = 161; len = 13; line = 9; column = 5 } ∷
    -- 99
    record { kind = (PlName (codes "sum")); children = []; tags = Expression ∷ ReadVariable ∷ []; meaning = (Local 1 0); root = 82; level = 1; slots = 0; sees = (record { name = codes "amount"; up = 0; slot = 0 } ∷ record { name = codes "sum"; up = 1; slot = 0 } ∷ record { name = codes "count"; up = 1; slot = 1 } ∷ []); source = 1; start = 171; len = 3; line = 9; column = 15 } ∷
    -- 100
    record { kind = (PlProcedure (codes "total") (codes "r" ∷ [])); children = 101 ∷ []; tags = Root ∷ []; meaning = Nothing; root = 100; level = 1; slots = 1; sees = (record { name = codes "r"; up = 0; slot = 0 } ∷ record { name = codes "sum"; up = 1; slot = 0 } ∷ record { name = codes "count"; up = 1; slot = 1 } ∷ []); source = 1; start = 182; len = 36; line = 11; column = 1 } ∷
    -- 101
    record { kind = PlBody; children = 102 ∷ []; tags = RootBody ∷ []; meaning = Nothing; root = 100; level = 1; slots = 0; sees = (record { name = codes "r"; up = 0; slot = 0 } ∷ record { name = codes "sum"; up = 1; slot = 0 } ∷ record { name = codes "count"; up = 1; slot = 1 } ∷ []); source = 1; start = 210; len = 8; line = 13; column = 3 } ∷
    -- 102
    record { kind = (PlAssign (codes "r")); children = 103 ∷ []; tags = Statement ∷ WriteVariable ∷ []; meaning = (Local 0 0); root = 100; level = 1; slots = 0; sees = (record { name = codes "r"; up = 0; slot = 0 } ∷ record { name = codes "sum"; up = 1; slot = 0 } ∷ record { name = codes "count"; up = 1; slot = 1 } ∷ []); source = 1; start = 210; len = 8; line = 13; column = 3 } ∷
    -- 103
    record { kind = (PlName (codes "sum")); children = []; tags = Expression ∷ ReadVariable ∷ []; meaning = (Local 1 0); root = 100; level = 1; slots = 0; sees = (record { name = codes "r"; up = 0; slot = 0 } ∷ record { name = codes "sum"; up = 1; slot = 0 } ∷ record { name = codes "count"; up = 1; slot = 1 } ∷ []); source = 1; start = 215; len = 3; line = 13; column = 8 } ∷
    -- 104
    record { kind = (PlProcedure (codes "posts") (codes "r" ∷ [])); children = 105 ∷ []; tags = Root ∷ []; meaning = Nothing; root = 104; level = 1; slots = 1; sees = (record { name = codes "r"; up = 0; slot = 0 } ∷ record { name = codes "sum"; up = 1; slot = 0 } ∷ record { name = codes "count"; up = 1; slot = 1 } ∷ []); source = 1; start = 220; len = 38; line = 14; column = 1 } ∷
    -- 105
    record { kind = PlBody; children = 106 ∷ []; tags = RootBody ∷ []; meaning = Nothing; root = 104; level = 1; slots = 0; sees = (record { name = codes "r"; up = 0; slot = 0 } ∷ record { name = codes "sum"; up = 1; slot = 0 } ∷ record { name = codes "count"; up = 1; slot = 1 } ∷ []); source = 1; start = 248; len = 10; line = 16; column = 3 } ∷
    -- 106
    record { kind = (PlAssign (codes "r")); children = 107 ∷ []; tags = Statement ∷ WriteVariable ∷ []; meaning = (Local 0 0); root = 104; level = 1; slots = 0; sees = (record { name = codes "r"; up = 0; slot = 0 } ∷ record { name = codes "sum"; up = 1; slot = 0 } ∷ record { name = codes "count"; up = 1; slot = 1 } ∷ []); source = 1; start = 248; len = 10; line = 16; column = 3 } ∷
    -- 107
    record { kind = (PlName (codes "count")); children = []; tags = Expression ∷ ReadVariable ∷ []; meaning = (Local 1 1); root = 104; level = 1; slots = 0; sees = (record { name = codes "r"; up = 0; slot = 0 } ∷ record { name = codes "sum"; up = 1; slot = 0 } ∷ record { name = codes "count"; up = 1; slot = 1 } ∷ []); source = 1; start = 253; len = 5; line = 16; column = 8 } ∷
    -- 108
    record { kind = PlBody; children = 109 ∷ []; tags = RootBody ∷ []; meaning = Nothing; root = 81; level = 0; slots = 0; sees = (record { name = codes "sum"; up = 0; slot = 0 } ∷ record { name = codes "count"; up = 0; slot = 1 } ∷ []); source = 1; start = 260; len = 5; line = 17; column = 1 } ∷
    -- 109
    record { kind = PlWrite; children = 110 ∷ []; tags = Statement ∷ []; meaning = Nothing; root = 81; level = 0; slots = 0; sees = (record { name = codes "sum"; up = 0; slot = 0 } ∷ record { name = codes "count"; up = 0; slot = 1 } ∷ []); source = 1; start = 260; len = 5; line = 17; column = 1 } ∷
    -- 110
    record { kind = (PlName (codes "sum")); children = []; tags = Expression ∷ ReadVariable ∷ []; meaning = (Local 0 0); root = 81; level = 0; slots = 0; sees = (record { name = codes "sum"; up = 0; slot = 0 } ∷ record { name = codes "count"; up = 0; slot = 1 } ∷ []); source = 1; start = 262; len = 3; line = 17; column = 3 } ∷
    []

abbrev items : List Item
items =
    record { name = codes "println"; root = None } ∷
    record { name = codes "label"; root = Some 0 } ∷
    record { name = codes "step"; root = Some 11 } ∷
    record { name = codes "audit"; root = Some 34 } ∷
    record { name = codes "main"; root = Some 42 } ∷
    record { name = codes "main"; root = Some 81 } ∷
    record { name = codes "post"; root = Some 82 } ∷
    record { name = codes "total"; root = Some 100 } ∷
    record { name = codes "posts"; root = Some 104 } ∷
    []

abbrev pub program : Program
program = record { nodes = nodes; items = items; mains = None ∷ Some 81 ∷ []; entries = 4 ∷ [] }

pub eight_lines : output_and_end (meaning_of program 4 1000000 []) ≡ (codes "1: 25 ok\n2: -25 low\n3: 50 ok\n4: -50 low\naudit 75\n5: 75 ok\n6: -75 low\nposts 6\n", Done (Number (negsuc 74)))
unfolding meaning_of evaluated digits
eight_lines = refl

pub ledger_alone : output_and_end (meaning_of program 5 1000000 []) ≡ (codes "0\n", Done (Number (pos 0)))
unfolding meaning_of evaluated digits
ledger_alone = refl
