-- Definition: what reading gives: a value, or the first broken rule with its path.
use Rattle.std.specs.Prelude.{◌≡◌, ℕ, List, [], ◌++◌, Bool, Result, Ok, Err, ⊤, codes, decimal, if◌then◌else◌}
use Rattle.pd_plan.specs.declared.refusal.PlanRule.{PlanRule}
use Rattle.pd_plan.specs.declared.refusal.PlanRefusal.{PlanRefusal}
use Rattle.pd_values.specs.declared.stop.Stop.{Stop}
use Rattle.pd_values.specs.declared.stop.Stop.TheVariants.{Refused, Memory}

-- what is read, or the first broken rule with its path
abbrev pub Read : Type 0 → Type 0
Read A = Result A PlanRefusal

-- one after the other; the first refusal is the answer
infixl 10 ◌>>=◌
abbrev pub ◌>>=◌ : {A B : Type 0} → Read A → (A → Read B) → Read B
(Ok x) >>= f = f x
(Err e) >>= f = Err e

infixl 10 ◌>>◌
abbrev pub ◌>>◌ : {A B : Type 0} → Read A → Read B → Read B
(Ok x) >> r = r
(Err e) >> r = Err e

-- a broken rule at this very value
abbrev pub refuse : {A : Type 0} → PlanRule → Read A
refuse rule = Err (record { rule = rule; path = [] })

-- refuses by the rule where the test holds
abbrev pub refuse_if : Bool → PlanRule → Read ⊤
refuse_if b rule = if b then refuse rule else Ok tt

-- The path of a refusal inside an entry or a member: a pointer of RFC 6901. The tables' names have no `/` and no `~`.
abbrev pub member_step : List ℕ → List ℕ
member_step name = codes "/" ++ name

-- the step of a path to the entry with this index
abbrev pub entry_step : ℕ → List ℕ
entry_step i = codes "/" ++ decimal i

-- a refusal inside a member or an entry, with the step to it before its path
abbrev pub under : {A : Type 0} → List ℕ → Read A → Read A
under step (Ok x) = Ok x
under step (Err e) = Err (record { rule = e.rule; path = step ++ e.path })

-- What a function returned is what reading gives, unless memory ran out.
abbrev pub Gives : {A : Type 0} → Result A (Stop PlanRefusal) → Read A → Type 0
Gives (Ok x) read = read ≡ Ok x
Gives (Err (Refused e)) read = read ≡ Err e
Gives (Err Memory) read = ⊤

-- The same of a refusal alone.
abbrev pub Stops : Stop PlanRefusal → PlanRule → List ℕ → Type 0
Stops (Refused e) rule path = (e.rule ≡ rule) × (e.path ≡ path)
Stops Memory rule path = ⊤

-- the second stop is the first one, with the step before its path
abbrev pub IsUnder : List ℕ → Stop PlanRefusal → Stop PlanRefusal → Type 0
IsUnder step (Refused e) stop = Stops stop e.rule (step ++ e.path)
IsUnder step Memory stop = stop ≡ Memory

-- The same, where what was returned is seen by view.
abbrev pub GivesBy : {A B : Type 0} → (A → B) → Result A (Stop PlanRefusal) → Read B → Type 0
GivesBy view (Ok x) read = read ≡ Ok (view x)
GivesBy view (Err (Refused e)) read = read ≡ Err e
GivesBy view (Err Memory) read = ⊤
