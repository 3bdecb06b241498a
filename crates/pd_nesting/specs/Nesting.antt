-- Definition: what holds of the events of every run, and of the roots of every linked program, as facts that a contract can promise.
use Rattle.std.specs.Prelude.{◌≡◌, ℕ, Bool, true, List, [], Option, None, Some}
use Rattle.pd_tree.specs.declared.addition.Addition.{Addition}
use Rattle.pd_tree.specs.Program.{Program, item_at}
use Rattle.pd_tree.specs.Linked.{program_of}
use Rattle.pd_machine.specs.Events.{Told}
use Rattle.pd_meaning.specs.Meaning.{Verdicts, meaning_of}
use Rattle.pd_running.specs.Running.{is_root_node, IsCovered}
use Rattle.pd_running.specs.Nested.{IsNested}

-- each event has its number, and each end is that of the innermost activation
abbrev pub EventsAreNested : Type 0
EventsAreNested = (p : Program) (v : Verdicts) (fuel entry : ℕ) → IsNested [] 0 (meaning_of p entry fuel v).events

-- whether a root, if there is one, has its tag
abbrev pub is_rooted : Program → Option ℕ → Bool
is_rooted p None = true
is_rooted p (Some root) = is_root_node p root

-- where the root of the entry has its tag, some function or procedure runs at each event
abbrev pub EventsAreCovered : Type 0
EventsAreCovered = (p : Program) (v : Verdicts) (fuel entry : ℕ) → is_rooted p (item_at p entry).root ≡ true → IsCovered p (meaning_of p entry fuel v).events

-- the root of each item has its tag
abbrev pub AreRooted : Program → Type 0
AreRooted p = (i : ℕ) → is_rooted p (item_at p i).root ≡ true

-- so it is in each linked program
abbrev pub LinkedAreRooted : Type 0
LinkedAreRooted = (trees : List (List Addition)) (found : List (Option ℕ)) (entries : List ℕ) → AreRooted (program_of trees found entries)
