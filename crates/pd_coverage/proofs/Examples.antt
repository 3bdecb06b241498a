-- Worked examples of the definitions: a block that isn't entered in one context, and is in another.
--  1  function main() {
--  2    if (1 == 2) {
--  3      println(1);
--  4    }
--  5    println(2);
--  6  }
use Rattle.std.specs.Prelude.{◌≡◌, refl, ℕ, List, [], ◌∷◌, ◌++◌, None, Some, pos, codes}
use Rattle.std.specs.Fmt.{digits}
use Rattle.pd_values.specs.declared.value.Value.TheVariants.{Null}
use Rattle.pd_values.specs.declared.value.Tag.TheVariants.{Statement, Call, Root, RootBody, Expression}
use Rattle.pd_tree.specs.declared.kind.Kind.TheVariants.{SlFunction, SlBody, SlBlock, SlIf, SlBinary, SlCall, SlName, SlNumber}
use Rattle.pd_tree.specs.declared.kind.Operator.TheVariants.{Equal}
use Rattle.pd_tree.specs.declared.kind.Meaning.TheVariants.{Item as Means, Nothing}
use Rattle.pd_tree.specs.Program.{Program, Node, Item}
use Rattle.pd_machine.specs.declared.event.EventKind.{EventKind}
use Rattle.pd_machine.specs.declared.event.EventKind.TheVariants.{Enter, Return}
use Rattle.pd_plan.specs.declared.plan.BindingSpec.{BindingSpec}
use Rattle.pd_plan.specs.declared.plan.BindingSpec.TheVariants.{Observe}
use Rattle.pd_plan.specs.declared.plan.Language.TheVariants.{Sl}
use Rattle.pd_plan.specs.declared.plan.Plan.{Plan}
use Rattle.pd_filter.specs.Matching.{is_about}
use Rattle.pd_log.specs.declared.Entry.{Entry}
use Rattle.pd_coverage.specs.declared.Covered.{Covered}
use Rattle.pd_coverage.specs.declared.Coverage.{Coverage}
use Rattle.pd_coverage.specs.Coverage.{coverage_of}
use Rattle.pd_coverage.specs.Text.{coverage_text}

abbrev nodes : List Node
nodes =
    -- 0
    record { kind = (SlFunction (codes "main") []); children = 1 ∷ []; tags = Root ∷ []; meaning = Nothing; root = 0; level = 0; slots = 0; sees = []; source = 0; start = 0; len = 72; line = 1; column = 1 } ∷
    -- 1
    record { kind = SlBody; children = 2 ∷ 10 ∷ []; tags = RootBody ∷ []; meaning = Nothing; root = 0; level = 0; slots = 0; sees = []; source = 0; start = 16; len = 56; line = 1; column = 17 } ∷
    -- 2
    record { kind = SlIf; children = 3 ∷ 6 ∷ []; tags = []; meaning = Nothing; root = 0; level = 0; slots = 0; sees = []; source = 0; start = 20; len = 34; line = 2; column = 3 } ∷
    -- 3
    record { kind = (SlBinary Equal); children = 4 ∷ 5 ∷ []; tags = Expression ∷ Statement ∷ []; meaning = Nothing; root = 0; level = 0; slots = 0; sees = []; source = 0; start = 24; len = 6; line = 2; column = 7 } ∷
    -- 4
    record { kind = (SlNumber (pos 1)); children = []; tags = Expression ∷ []; meaning = Nothing; root = 0; level = 0; slots = 0; sees = []; source = 0; start = 24; len = 1; line = 2; column = 7 } ∷
    -- 5
    record { kind = (SlNumber (pos 2)); children = []; tags = Expression ∷ []; meaning = Nothing; root = 0; level = 0; slots = 0; sees = []; source = 0; start = 29; len = 1; line = 2; column = 12 } ∷
    -- 6
    record { kind = SlBlock; children = 7 ∷ []; tags = []; meaning = Nothing; root = 0; level = 0; slots = 0; sees = []; source = 0; start = 32; len = 22; line = 2; column = 15 } ∷
    -- 7
    record { kind = SlCall; children = 8 ∷ 9 ∷ []; tags = Expression ∷ Call ∷ Statement ∷ []; meaning = Nothing; root = 0; level = 0; slots = 0; sees = []; source = 0; start = 38; len = 10; line = 3; column = 5 } ∷
    -- 8
    record { kind = (SlName (codes "println")); children = []; tags = Expression ∷ []; meaning = (Means 0); root = 0; level = 0; slots = 0; sees = []; source = 0; start = 38; len = 7; line = 3; column = 5 } ∷
    -- 9
    record { kind = (SlNumber (pos 1)); children = []; tags = Expression ∷ []; meaning = Nothing; root = 0; level = 0; slots = 0; sees = []; source = 0; start = 46; len = 1; line = 3; column = 13 } ∷
    -- 10
    record { kind = SlCall; children = 11 ∷ 12 ∷ []; tags = Expression ∷ Call ∷ Statement ∷ []; meaning = Nothing; root = 0; level = 0; slots = 0; sees = []; source = 0; start = 57; len = 10; line = 5; column = 3 } ∷
    -- 11
    record { kind = (SlName (codes "println")); children = []; tags = Expression ∷ []; meaning = (Means 0); root = 0; level = 0; slots = 0; sees = []; source = 0; start = 57; len = 7; line = 5; column = 3 } ∷
    -- 12
    record { kind = (SlNumber (pos 2)); children = []; tags = Expression ∷ []; meaning = Nothing; root = 0; level = 0; slots = 0; sees = []; source = 0; start = 65; len = 1; line = 5; column = 11 } ∷
    []

abbrev items : List Item
items =
    record { name = codes "println"; root = None } ∷
    record { name = codes "main"; root = Some 0 } ∷
    []

abbrev program : Program
program = record { nodes = nodes; items = items; mains = None ∷ []; entries = 1 ∷ [] }

abbrev plan : Plan
plan = record { sources = record { name = codes "main.sl"; language = Sl } ∷ []; exports = []; contexts = []; bindings = []; sessions = [] }

-- an observer of all statements
abbrev binding : BindingSpec
binding = Observe (record { tags = Statement ∷ []; not_tags = []; sources = []; lines = []; roots = [] })

abbrev entry : EventKind → ℕ → Entry
entry kind node = record { context = 0; event = 0; opened = 0; place = 0; kind = kind; node = node }

-- the condition is false; a Return alone hits nothing
abbrev log : List Entry
log = entry Enter 3 ∷ entry (Return Null) 3 ∷ entry (Return Null) 7 ∷ entry Enter 10 ∷ []

-- the block is entered, and the run ends in it
abbrev other : List Entry
other = entry Enter 3 ∷ entry (Return Null) 3 ∷ entry Enter 7 ∷ []

abbrev covered : List ℕ → Covered
covered hit = record { source = 0; nodes = 3 ∷ 7 ∷ 10 ∷ []; hit = hit }

-- one context
abbrev one : Coverage
one = record { contexts = (covered (3 ∷ 10 ∷ []) ∷ []) ∷ []; all = covered (3 ∷ 10 ∷ []) ∷ [] }

one_is : coverage_of program 1 (is_about program binding) (log ∷ []) ≡ one
one_is = refl

one_printed : coverage_text plan program one ≡
    codes "coverage 0 source 0 main.sl statements 2/3 lines 2/3\n" ++
    codes "  missed 3\n" ++
    codes "coverage all source 0 main.sl statements 2/3 lines 2/3\n" ++
    codes "  missed 3\n"
unfolding digits
one_printed = refl

-- two contexts: over both each statement was hit
abbrev two : Coverage
two = record { contexts = (covered (3 ∷ 10 ∷ []) ∷ []) ∷ (covered (3 ∷ 7 ∷ []) ∷ []) ∷ []; all = covered (3 ∷ 7 ∷ 10 ∷ []) ∷ [] }

two_is : coverage_of program 1 (is_about program binding) (log ∷ other ∷ []) ≡ two
two_is = refl

two_printed : coverage_text plan program two ≡
    codes "coverage 0 source 0 main.sl statements 2/3 lines 2/3\n" ++
    codes "  missed 3\n" ++
    codes "coverage 1 source 0 main.sl statements 2/3 lines 2/3\n" ++
    codes "  missed 5\n" ++
    codes "coverage all source 0 main.sl statements 3/3 lines 3/3\n"
unfolding digits
two_printed = refl
