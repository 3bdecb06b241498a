-- Definition, which public contracts cite.
-- The rule as a table's rule, and what a call asks of the table.
use Rattle.std.specs.Prelude.{◌≡◌, ℕ}
use Rattle.atomic_table.specs.Table.{Me, Allows}
use Rattle.atomic_table.specs.Table as table
use Rattle.pd_core.specs.declared.view.View.{View}
use Rattle.pd_core.specs.Layout.{Layout}
use Rattle.pd_core.specs.Words.{Change, operand, made_of}
use Rattle.pd_core.specs.Views.{noted_with}
use Rattle.pd_core.specs.Good.{Good}
use Rattle.pd_core.specs.Kinds.{Kind, effect, Found}

-- the rule of the table, which has no slots in use
abbrev pub Kept : Layout → table.State ℕ View → Type 0
Kept p s = Good p s.words s.views

-- what a step on this word with these two operands, which found n, tells: the view is that of the kind, and the rule held
abbrev pub Told : Layout → Kind → ℕ → ℕ → ℕ → Me ℕ View → ℕ → Me ℕ View → Type 0
Told p k word a second me n now = (now ≡ (noted_with word a second n (effect p k n me.0), me.1)) × Found p k me.0 n

-- the table admits the step, which has one operand: this is what a call of it asks
abbrev pub Admits : Layout → Kind → ℕ → ℕ → Me ℕ View → ℕ → Change → Type 0
Admits p k slots id me word c = Allows (Kept p) slots id me word (made_of c) (Told p k word (operand c) 0 me)
