-- Rows over two sources that have every kind of node.
use Rattle.std.specs.Prelude.{◌≡◌, refl, ℕ, Bool, true, false, List, [], ◌∷◌, pos, codes, Some, None}
use Rattle.pd_values.specs.declared.value.Tag.{Tag}
use Rattle.pd_values.specs.declared.value.Tag.TheVariants.{Statement, Call, Root, RootBody, Expression, ReadVariable, WriteVariable, AlwaysHalt}
use Rattle.pd_tree.specs.declared.kind.Operator.TheVariants.{Equal, NotEqual, Less, Greater, Add, Sub, Mul}
use Rattle.pd_tree.specs.declared.kind.Kind.{Kind}
use Rattle.pd_tree.specs.declared.kind.Kind.TheVariants.{SlFunction, SlBody, SlBlock, SlIf, SlWhile, SlReturn, SlBreak, SlContinue, SlDebugger, SlOr, SlAnd, SlBinary, SlCall, SlAssign, SlName, SlNumber, SlText, PlProcedure, PlBody, PlEmpty, PlBegin, PlIf, PlWhile, PlAssign, PlCall, PlWrite, PlOdd, PlBinary, PlPlus, PlMinus, PlName, PlNumber}
use Rattle.pd_tree.specs.declared.kind.Meaning.{Meaning}
use Rattle.pd_tree.specs.declared.kind.Meaning.TheVariants.{Local, Item as Means, Nothing}
use Rattle.pd_tree.specs.Program.{Program, Node}
use Rattle.pd_tree.specs.Kinds.{tags_of}
use Rattle.pd_plan.specs.declared.plan.LineRange.{LineRange}
use Rattle.pd_plan.specs.declared.plan.Filter.{Filter}
use Rattle.pd_plan.specs.declared.plan.BindingSpec.{BindingSpec}
use Rattle.pd_plan.specs.declared.plan.BindingSpec.TheVariants.{Observe, Break, Pause}
use Rattle.pd_plan.specs.declared.condition.Condition.TheVariants.{Number}
use Rattle.pd_filter.specs.Matching.{row_of, is_always_drawn}

-- a node of a kind, with the meaning of its name; whether it stands as a statement or a condition, its root, source and line
abbrev node : Kind → Meaning → Bool → ℕ → ℕ → ℕ → Node
node kind meaning stands root source line =
    record { kind = kind; children = []; tags = tags_of kind meaning stands; meaning = meaning; root = root; level = 0; slots = 0; sees = []; source = source; start = 0; len = 0; line = line; column = 1 }

-- source 0:
--  1  function pick(a) {
--  2    while (a > 1 || a < 0) {
--  3      if (a == 3 && a != 4) { break; } else { continue; }
--  4      debugger;
--  5    }
--  6    return "t" + a;
--  7  }
--  8  function main() {
--  9    b = pick(2);
-- 10    println(b);
-- 11    b;
-- 12    pick;
-- 13  }
-- source 1:
--  1  const k = 2; var x;
--  2  procedure pick;
--  3    var y;
--  4    begin
--  5      y := - x * 2;
--  6      x := + y - k;
--  7      if odd x then ! x;
--  8      while x < y do call pick;
--  9    end;
-- 10  .
abbrev nodes : List Node
nodes =
    node (SlFunction (codes "pick") (codes "a" ∷ [])) Nothing false 0 0 1 ∷
    node SlBody Nothing false 0 0 1 ∷
    node SlWhile Nothing false 0 0 2 ∷
    node SlOr Nothing true 0 0 2 ∷
    node (SlBinary Greater) Nothing false 0 0 2 ∷
    node (SlName (codes "a")) (Local 0 0) false 0 0 2 ∷
    node (SlNumber (pos 1)) Nothing false 0 0 2 ∷
    node (SlBinary Less) Nothing false 0 0 2 ∷
    node (SlName (codes "a")) (Local 0 0) false 0 0 2 ∷
    node (SlNumber (pos 0)) Nothing false 0 0 2 ∷
    node SlBlock Nothing false 0 0 2 ∷
    node SlIf Nothing false 0 0 3 ∷
    node SlAnd Nothing true 0 0 3 ∷
    node (SlBinary Equal) Nothing false 0 0 3 ∷
    node (SlName (codes "a")) (Local 0 0) false 0 0 3 ∷
    node (SlNumber (pos 3)) Nothing false 0 0 3 ∷
    node (SlBinary NotEqual) Nothing false 0 0 3 ∷
    node (SlName (codes "a")) (Local 0 0) false 0 0 3 ∷
    node (SlNumber (pos 4)) Nothing false 0 0 3 ∷
    node SlBlock Nothing false 0 0 3 ∷
    node SlBreak Nothing true 0 0 3 ∷
    node SlBlock Nothing false 0 0 3 ∷
    node SlContinue Nothing true 0 0 3 ∷
    node SlDebugger Nothing true 0 0 4 ∷
    node SlReturn Nothing true 0 0 6 ∷
    node (SlBinary Add) Nothing false 0 0 6 ∷
    node (SlText (codes "t")) Nothing false 0 0 6 ∷
    node (SlName (codes "a")) (Local 0 0) false 0 0 6 ∷
    node (SlFunction (codes "main") []) Nothing false 28 0 8 ∷
    node SlBody Nothing false 28 0 8 ∷
    node (SlAssign (codes "b")) (Local 0 0) true 28 0 9 ∷
    node SlCall Nothing false 28 0 9 ∷
    node (SlName (codes "pick")) (Means 1) false 28 0 9 ∷
    node (SlNumber (pos 2)) Nothing false 28 0 9 ∷
    node SlCall Nothing true 28 0 10 ∷
    node (SlName (codes "println")) (Means 1) false 28 0 10 ∷
    node (SlName (codes "b")) (Local 0 0) false 28 0 10 ∷
    node (SlName (codes "b")) (Local 0 0) true 28 0 11 ∷
    node (SlName (codes "pick")) (Means 1) true 28 0 12 ∷
    node (PlProcedure (codes "main") (codes "x" ∷ [])) Nothing false 39 1 1 ∷
    node (PlProcedure (codes "pick") (codes "y" ∷ [])) Nothing false 40 1 2 ∷
    node PlBody Nothing false 40 1 4 ∷
    node PlBegin Nothing false 40 1 4 ∷
    node (PlAssign (codes "y")) (Local 0 0) false 40 1 5 ∷
    node PlMinus Nothing false 40 1 5 ∷
    node (PlBinary Mul) Nothing false 40 1 5 ∷
    node (PlName (codes "x")) (Local 0 0) false 40 1 5 ∷
    node (PlNumber (pos 2)) Nothing false 40 1 5 ∷
    node (PlAssign (codes "x")) (Local 0 0) false 40 1 6 ∷
    node (PlBinary Sub) Nothing false 40 1 6 ∷
    node PlPlus Nothing false 40 1 6 ∷
    node (PlName (codes "y")) (Local 0 0) false 40 1 6 ∷
    node (PlNumber (pos 2)) Nothing false 40 1 6 ∷
    node PlIf Nothing false 40 1 7 ∷
    node PlOdd Nothing false 40 1 7 ∷
    node (PlName (codes "x")) (Local 0 0) false 40 1 7 ∷
    node PlWrite Nothing false 40 1 7 ∷
    node (PlName (codes "x")) (Local 0 0) false 40 1 7 ∷
    node PlWhile Nothing false 40 1 8 ∷
    node (PlBinary Less) Nothing false 40 1 8 ∷
    node (PlName (codes "x")) (Local 0 0) false 40 1 8 ∷
    node (PlName (codes "y")) (Local 0 0) false 40 1 8 ∷
    node (PlCall (codes "pick")) (Means 1) false 40 1 8 ∷
    node PlEmpty Nothing false 40 1 9 ∷
    node PlBody Nothing false 39 1 10 ∷
    node PlEmpty Nothing false 39 1 10 ∷
    []

abbrev program : Program
program = record { nodes = nodes; items = []; mains = []; entries = [] }

abbrev lines : ℕ → ℕ → LineRange
lines from to = record { from = from; to = to }

abbrev filter_of : List Tag → List Tag → List ℕ → List LineRange → List (List ℕ) → Filter
filter_of tags not_tags sources lines roots = record { tags = tags; not_tags = not_tags; sources = sources; lines = lines; roots = roots }

abbrev observed : Filter → List ℕ
observed f = row_of program (Observe f)

abbrev break_at : ℕ → ℕ → BindingSpec
break_at source line = Break (record { session = 0; source = source; line = line; condition = None; ignore = 0; one_shot = false })

pub no_member : observed (filter_of [] [] [] [] []) ≡ 0 ∷ 1 ∷ 3 ∷ 4 ∷ 5 ∷ 6 ∷ 7 ∷ 8 ∷ 9 ∷ 12 ∷ 13 ∷ 14 ∷ 15 ∷ 16 ∷ 17 ∷ 18 ∷ 20 ∷ 22 ∷ 23 ∷ 24 ∷ 25 ∷ 26 ∷ 27 ∷ 28 ∷ 29 ∷ 30 ∷ 31 ∷ 32 ∷ 33 ∷ 34 ∷ 35 ∷ 36 ∷ 37 ∷ 38 ∷ 39 ∷ 40 ∷ 41 ∷ 43 ∷ 44 ∷ 45 ∷ 46 ∷ 47 ∷ 48 ∷ 49 ∷ 50 ∷ 51 ∷ 52 ∷ 54 ∷ 55 ∷ 56 ∷ 57 ∷ 59 ∷ 60 ∷ 61 ∷ 62 ∷ 64 ∷ []
no_member = refl

pub statements : observed (filter_of (Statement ∷ []) [] [] [] []) ≡ 3 ∷ 12 ∷ 20 ∷ 22 ∷ 23 ∷ 24 ∷ 30 ∷ 34 ∷ 37 ∷ 38 ∷ 43 ∷ 48 ∷ 54 ∷ 56 ∷ 59 ∷ 62 ∷ []
statements = refl

pub calls : observed (filter_of (Call ∷ []) [] [] [] []) ≡ 31 ∷ 34 ∷ 62 ∷ []
calls = refl

pub functions : observed (filter_of (Root ∷ []) [] [] [] []) ≡ 0 ∷ 28 ∷ 39 ∷ 40 ∷ []
functions = refl

pub bodies : observed (filter_of (RootBody ∷ []) [] [] [] []) ≡ 1 ∷ 29 ∷ 41 ∷ 64 ∷ []
bodies = refl

pub expressions : observed (filter_of (Expression ∷ []) [] [] [] []) ≡ 3 ∷ 4 ∷ 5 ∷ 6 ∷ 7 ∷ 8 ∷ 9 ∷ 12 ∷ 13 ∷ 14 ∷ 15 ∷ 16 ∷ 17 ∷ 18 ∷ 25 ∷ 26 ∷ 27 ∷ 30 ∷ 31 ∷ 32 ∷ 33 ∷ 34 ∷ 35 ∷ 36 ∷ 37 ∷ 38 ∷ 44 ∷ 45 ∷ 46 ∷ 47 ∷ 49 ∷ 50 ∷ 51 ∷ 52 ∷ 54 ∷ 55 ∷ 57 ∷ 59 ∷ 60 ∷ 61 ∷ []
expressions = refl

pub reads : observed (filter_of (ReadVariable ∷ []) [] [] [] []) ≡ 5 ∷ 8 ∷ 14 ∷ 17 ∷ 27 ∷ 36 ∷ 37 ∷ 46 ∷ 51 ∷ 55 ∷ 57 ∷ 60 ∷ 61 ∷ []
reads = refl

pub writes : observed (filter_of (WriteVariable ∷ []) [] [] [] []) ≡ 30 ∷ 43 ∷ 48 ∷ []
writes = refl

pub halts : observed (filter_of (AlwaysHalt ∷ []) [] [] [] []) ≡ 23 ∷ []
halts = refl

pub either_of_two_tags : observed (filter_of (Root ∷ RootBody ∷ []) [] [] [] []) ≡ 0 ∷ 1 ∷ 28 ∷ 29 ∷ 39 ∷ 40 ∷ 41 ∷ 64 ∷ []
either_of_two_tags = refl

pub calls_and_halts : observed (filter_of (Call ∷ AlwaysHalt ∷ []) [] [] [] []) ≡ 23 ∷ 31 ∷ 34 ∷ 62 ∷ []
calls_and_halts = refl

pub the_same_tag_twice : observed (filter_of (Statement ∷ Statement ∷ []) [] [] [] []) ≡ 3 ∷ 12 ∷ 20 ∷ 22 ∷ 23 ∷ 24 ∷ 30 ∷ 34 ∷ 37 ∷ 38 ∷ 43 ∷ 48 ∷ 54 ∷ 56 ∷ 59 ∷ 62 ∷ []
the_same_tag_twice = refl

pub every_tag : observed (filter_of (Statement ∷ Call ∷ Root ∷ RootBody ∷ Expression ∷ ReadVariable ∷ WriteVariable ∷ AlwaysHalt ∷ []) [] [] [] []) ≡ 0 ∷ 1 ∷ 3 ∷ 4 ∷ 5 ∷ 6 ∷ 7 ∷ 8 ∷ 9 ∷ 12 ∷ 13 ∷ 14 ∷ 15 ∷ 16 ∷ 17 ∷ 18 ∷ 20 ∷ 22 ∷ 23 ∷ 24 ∷ 25 ∷ 26 ∷ 27 ∷ 28 ∷ 29 ∷ 30 ∷ 31 ∷ 32 ∷ 33 ∷ 34 ∷ 35 ∷ 36 ∷ 37 ∷ 38 ∷ 39 ∷ 40 ∷ 41 ∷ 43 ∷ 44 ∷ 45 ∷ 46 ∷ 47 ∷ 48 ∷ 49 ∷ 50 ∷ 51 ∷ 52 ∷ 54 ∷ 55 ∷ 56 ∷ 57 ∷ 59 ∷ 60 ∷ 61 ∷ 62 ∷ 64 ∷ []
every_tag = refl

pub no_expression : observed (filter_of [] (Expression ∷ []) [] [] []) ≡ 0 ∷ 1 ∷ 20 ∷ 22 ∷ 23 ∷ 24 ∷ 28 ∷ 29 ∷ 39 ∷ 40 ∷ 41 ∷ 43 ∷ 48 ∷ 56 ∷ 62 ∷ 64 ∷ []
no_expression = refl

pub no_tag_at_all : observed (filter_of [] (Statement ∷ Call ∷ Root ∷ RootBody ∷ Expression ∷ ReadVariable ∷ WriteVariable ∷ AlwaysHalt ∷ []) [] [] []) ≡ []
no_tag_at_all = refl

pub neither_of_two_tags : observed (filter_of [] (Statement ∷ Expression ∷ []) [] [] []) ≡ 0 ∷ 1 ∷ 28 ∷ 29 ∷ 39 ∷ 40 ∷ 41 ∷ 64 ∷ []
neither_of_two_tags = refl

pub statements_that_are_no_expressions : observed (filter_of (Statement ∷ []) (Expression ∷ []) [] [] []) ≡ 20 ∷ 22 ∷ 23 ∷ 24 ∷ 43 ∷ 48 ∷ 56 ∷ 62 ∷ []
statements_that_are_no_expressions = refl

pub expressions_that_are_no_statements : observed (filter_of (Expression ∷ []) (Statement ∷ []) [] [] []) ≡ 4 ∷ 5 ∷ 6 ∷ 7 ∷ 8 ∷ 9 ∷ 13 ∷ 14 ∷ 15 ∷ 16 ∷ 17 ∷ 18 ∷ 25 ∷ 26 ∷ 27 ∷ 31 ∷ 32 ∷ 33 ∷ 35 ∷ 36 ∷ 44 ∷ 45 ∷ 46 ∷ 47 ∷ 49 ∷ 50 ∷ 51 ∷ 52 ∷ 55 ∷ 57 ∷ 60 ∷ 61 ∷ []
expressions_that_are_no_statements = refl

pub wanted_and_unwanted : observed (filter_of (Call ∷ []) (Call ∷ []) [] [] []) ≡ []
wanted_and_unwanted = refl

pub calls_inside : observed (filter_of (Call ∷ []) (Statement ∷ []) [] [] []) ≡ 31 ∷ []
calls_inside = refl

pub writes_of_statements : observed (filter_of (WriteVariable ∷ []) (Expression ∷ []) [] [] []) ≡ 43 ∷ 48 ∷ []
writes_of_statements = refl

pub functions_of_a_source : observed (filter_of (Root ∷ []) [] (0 ∷ []) [] []) ≡ 0 ∷ 28 ∷ []
functions_of_a_source = refl

pub statements_of_a_source : observed (filter_of (Statement ∷ []) [] (1 ∷ []) [] []) ≡ 43 ∷ 48 ∷ 54 ∷ 56 ∷ 59 ∷ 62 ∷ []
statements_of_a_source = refl

pub bodies_of_two_sources : observed (filter_of (RootBody ∷ []) [] (0 ∷ 1 ∷ []) [] []) ≡ 1 ∷ 29 ∷ 41 ∷ 64 ∷ []
bodies_of_two_sources = refl

pub a_source : observed (filter_of [] [] (1 ∷ []) [] []) ≡ 39 ∷ 40 ∷ 41 ∷ 43 ∷ 44 ∷ 45 ∷ 46 ∷ 47 ∷ 48 ∷ 49 ∷ 50 ∷ 51 ∷ 52 ∷ 54 ∷ 55 ∷ 56 ∷ 57 ∷ 59 ∷ 60 ∷ 61 ∷ 62 ∷ 64 ∷ []
a_source = refl

pub the_same_source_twice : observed (filter_of (Call ∷ []) [] (1 ∷ 1 ∷ []) [] []) ≡ 62 ∷ []
the_same_source_twice = refl

pub a_line_of_each_source : observed (filter_of [] [] [] (lines 4 4 ∷ []) []) ≡ 23 ∷ 41 ∷ []
a_line_of_each_source = refl

pub a_line_with_an_empty_statement : observed (filter_of [] [] [] (lines 9 9 ∷ []) []) ≡ 30 ∷ 31 ∷ 32 ∷ 33 ∷ []
a_line_with_an_empty_statement = refl

pub a_line_of_the_second_source : observed (filter_of [] [] [] (lines 5 5 ∷ []) []) ≡ 43 ∷ 44 ∷ 45 ∷ 46 ∷ 47 ∷ []
a_line_of_the_second_source = refl

pub statements_of_three_lines : observed (filter_of (Statement ∷ []) [] [] (lines 5 7 ∷ []) []) ≡ 24 ∷ 43 ∷ 48 ∷ 54 ∷ 56 ∷ []
statements_of_three_lines = refl

pub functions_of_two_lines : observed (filter_of (Root ∷ []) [] [] (lines 1 1 ∷ lines 8 8 ∷ []) []) ≡ 0 ∷ 28 ∷ 39 ∷ []
functions_of_two_lines = refl

pub ranges_that_overlap : observed (filter_of (AlwaysHalt ∷ RootBody ∷ []) [] [] (lines 1 3 ∷ lines 2 6 ∷ []) []) ≡ 1 ∷ 23 ∷ 41 ∷ []
ranges_that_overlap = refl

pub lines_past_the_last : observed (filter_of [] [] [] (lines 13 1048577 ∷ []) []) ≡ []
lines_past_the_last = refl

pub writes_of_all_lines : observed (filter_of (WriteVariable ∷ []) [] [] (lines 1 1048577 ∷ []) []) ≡ 30 ∷ 43 ∷ 48 ∷ []
writes_of_all_lines = refl

pub the_last_lines_of_a_source : observed (filter_of [] [] (0 ∷ []) (lines 10 12 ∷ []) []) ≡ 34 ∷ 35 ∷ 36 ∷ 37 ∷ 38 ∷ []
the_last_lines_of_a_source = refl

pub functions_of_a_name : observed (filter_of (Root ∷ []) [] [] [] (codes "pick" ∷ [])) ≡ 0 ∷ 40 ∷ []
functions_of_a_name = refl

pub all_of_a_name : observed (filter_of [] [] [] [] (codes "main" ∷ [])) ≡ 28 ∷ 29 ∷ 30 ∷ 31 ∷ 32 ∷ 33 ∷ 34 ∷ 35 ∷ 36 ∷ 37 ∷ 38 ∷ 39 ∷ 64 ∷ []
all_of_a_name = refl

pub the_front_of_a_name : observed (filter_of [] [] [] [] (codes "pic" ∷ [])) ≡ []
the_front_of_a_name = refl

pub statements_of_one_name_of_two : observed (filter_of (Statement ∷ []) [] [] [] (codes "nope" ∷ codes "main" ∷ [])) ≡ 30 ∷ 34 ∷ 37 ∷ 38 ∷ []
statements_of_one_name_of_two = refl

pub all_members : observed (filter_of (Statement ∷ Call ∷ []) (WriteVariable ∷ []) (1 ∷ []) (lines 6 8 ∷ []) (codes "pick" ∷ [])) ≡ 54 ∷ 56 ∷ 59 ∷ 62 ∷ []
all_members = refl

pub break_on_its_line : row_of program (break_at 0 3) ≡ 12 ∷ 20 ∷ 22 ∷ []
break_on_its_line = refl

pub break_before_the_first : row_of program (break_at 0 1) ≡ 3 ∷ []
break_before_the_first = refl

pub break_on_an_empty_line : row_of program (break_at 0 5) ≡ 24 ∷ []
break_on_an_empty_line = refl

pub break_past_the_last : row_of program (break_at 0 13) ≡ []
break_past_the_last = refl

pub break_in_the_second_source : row_of program (break_at 1 1) ≡ 43 ∷ []
break_in_the_second_source = refl

pub break_on_a_condition : row_of program (break_at 1 7) ≡ 54 ∷ 56 ∷ []
break_on_a_condition = refl

pub break_on_an_empty_statement : row_of program (break_at 1 9) ≡ []
break_on_an_empty_statement = refl

pub pause : row_of program (Pause 0) ≡ 3 ∷ 12 ∷ 20 ∷ 22 ∷ 23 ∷ 24 ∷ 30 ∷ 34 ∷ 37 ∷ 38 ∷ 43 ∷ 48 ∷ 54 ∷ 56 ∷ 59 ∷ 62 ∷ []
pause = refl

pub always : is_always_drawn (break_at 0 1) ≡ true
always = refl

pub after_a_condition : is_always_drawn (Break (record { session = 0; source = 0; line = 1; condition = Some (Number (pos 1)); ignore = 0; one_shot = false })) ≡ false
after_a_condition = refl
