-- Definition: `keep`, `GivesNoFunction` and `IsRan`; the rest is for proofs.
-- What a watcher keeps, and how a machine and its watcher stand for a point of the meaning.
use Rattle.std.specs.Prelude.{◌≡◌, ℕ, ◌+◌, ◌*◌, ◌-◌, ◌^◌, ◌<◌, ◌≤◌, if◌then◌else◌, List, [], ◌∷◌, ◌++◌, length}
use Rattle.pd_values.specs.declared.value.Value.TheVariants.{Func}
use Rattle.pd_tree.specs.Program.{Program}
use Rattle.pd_machine.specs.declared.event.Event.{Event}
use Rattle.pd_machine.specs.declared.event.Verdict.{Verdict}
use Rattle.pd_machine.specs.declared.event.Verdict.TheVariants.{Go, Return}
use Rattle.pd_machine.specs.Events.{Told}
use Rattle.pd_machine.specs.Held.{Held, end_at}
use Rattle.pd_meaning.specs.Meaning.{Ran, Verdicts}
use Rattle.pd_eval.specs.declared.running.Ran.{Ran as Answered}
use Rattle.pd_meaning.specs.Machine.{Machine, obeyed}
use Rattle.pd_meaning.specs.Steps.{with_events}
use Rattle.pd_meaning.specs.Telling.{is_heeded}
use Rattle.pd_meaning.specs.Weight.{weight}
use Rattle.pd_meaning.specs.Leads.{AllBelow, LeadsUnder}
use Rattle.pd_order.specs.Standing.{IsOrderly}

-- the verdicts kept, with one more on the event of this number; go is not kept
abbrev pub keep : Verdicts → ℕ → Verdict → Verdicts
keep kept e Go = kept
keep kept e w = kept ++ (e, w) ∷ []

-- a verdict gives no function
abbrev pub GivesNoFunction : Verdict → Type 0
GivesNoFunction (Return k (Func i)) = ⊥
GivesNoFunction _ = Unit {0}

-- the machine obeyed a verdict
abbrev pub Obeys : Verdict → Held → Held → Type 0
Obeys w old new = ((es : List Told) → with_events new es ≡ obeyed w (with_events old es)) × (new.told ≡ old.told) × (new.fuel ≡ old.fuel)

-- the verdict on an event was obeyed, where verdicts count on that event
abbrev pub HasObeyed : Program → Event → Verdict → Held → Held → Type 0
HasObeyed p x w old new =
    ((es : List Told) → with_events new es ≡ (if is_heeded p x.kind x.node then obeyed w (with_events old es) else with_events old es))
    × (new.told ≡ old.told) × (new.fuel ≡ old.fuel)

-- a machine, with a watcher that was told these events and kept these verdicts, stands for a point of the meaning from this root with
-- this fuel
pub record Stands (p : Program) (fuel root : ℕ) (es : List Told) (kept : Verdicts) (m : Held) : Type 0 where
  pub count : length es ≡ m.told
  pub leads : LeadsUnder p fuel root kept (with_events m es)
  pub below : AllBelow (length es) kept
  -- each event costs a turn, and each turn lowers the weight
  pub bound : m.told + weight (with_events m es) ≤ 6 * fuel + 7
  pub fuel_is : m.fuel ≡ fuel

-- a machine knows the number of events told, and the verdicts kept are on these
abbrev pub IsCounted : List Told → Verdicts → Held → Type 0
IsCounted es kept m = (length es ≡ m.told) × AllBelow (length es) kept

-- the greatest fuel of a run
abbrev pub most_fuel : ℕ
most_fuel = 2 ^ 24

-- a machine, with the events that it told, between two turns of a run
abbrev pub IsOrderlyIn : Program → Machine → Type 0
IsOrderlyIn p m = IsOrderly (λ n. n < length p.nodes) (length p.nodes) most_fuel m

-- what a machine that is over has, with these events told
abbrev pub ran_by : Held → List Told → Ran
ran_by m es = record { output = m.output; events = es; used = m.fuel - m.left; finish = end_at m.mode }

-- the answer of a run, and the events that its watcher was told, are what a program means
pub record IsRan (r : Answered) (es : List Told) (means : Ran) : Type 0 where
  pub output : r.output ≡ means.output
  pub events : es ≡ means.events
  pub count : r.events ≡ length means.events
  pub used : r.used ≡ means.used
  pub finish : r.end ≡ means.finish
