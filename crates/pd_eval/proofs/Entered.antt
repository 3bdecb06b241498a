-- The entry of a node by its tags.
use Rattle.std.proofs.Common.{◌≡◌, ℕ, Bool, true, false, cond, List, [], ◌∷◌, length, refl}
use Rattle.pd_values.specs.declared.value.Tag.{Tag}
use Rattle.pd_values.specs.declared.value.Tag.TheVariants.{Statement, Call}
use Rattle.pd_tree.specs.Program.{Program, node_at, has_tag}
use Rattle.pd_machine.specs.declared.event.Event.{Event}
use Rattle.pd_machine.specs.declared.event.EventKind.TheVariants.{Enter, Return as Gave}
use Rattle.pd_machine.specs.declared.event.Verdict.TheVariants.{Go}
use Rattle.pd_machine.specs.declared.run.Pending.{Pending}
use Rattle.pd_machine.specs.declared.run.Pending.TheVariants.{Leaving}
use Rattle.pd_machine.specs.declared.run.Mode.TheVariants.{Starting, Coming}
use Rattle.pd_machine.specs.declared.run.NodeResult.TheVariants.{Gives}
use Rattle.pd_values.specs.declared.value.Value.{Value}
use Rattle.pd_machine.specs.Events.{State, tell}
use Rattle.pd_machine.specs.Held.{Held}
use Rattle.pd_meaning.specs.Meaning.{Verdicts, verdict_on}
use Rattle.pd_meaning.specs.Steps.{with_events}
use Rattle.pd_meaning.specs.Telling.{due_on_tags, is_heeded}
use Rattle.pd_meaning.specs.Machine.{Machine, machine, obeyed, entered, value_came}
use Rattle.pd_eval.specs.Tagged.{is_tagged}
use Rattle.pd_eval.specs.Watching.{HasObeyed}

pub no_verdict : (b : Bool) (m : Machine) → obeyed (cond b Go Go) m ≡ m
no_verdict true m = refl
no_verdict false m = refl

pub plain : (p : Program) (n : ℕ) (tags : List Tag) (stack : List Pending) (s : State) → is_tagged tags ≡ false → entered p [] n tags stack s ≡ machine (Starting n) stack s
plain p n [] stack s h = refl
plain p n (t ∷ ts) stack s h = cc

pub tagged : (p : Program) (n : ℕ) (tags : List Tag) (stack : List Pending) (s : State) → is_tagged tags ≡ true → entered p [] n tags stack s ≡ machine (Starting n) (Leaving n (length s.events) ∷ stack) (tell n (length s.events) Enter s)
tagged p n [] stack s h = cc
tagged p n (t ∷ ts) stack s h = no_verdict (has_tag (node_at p n).tags Statement) _

-- a value leaves an activation
pub gave : (p : Program) (n opened : ℕ) (a : Value) (stack : List Pending) (s : State) → value_came p [] (Leaving n opened) a stack s ≡ machine (Coming (Gives a)) stack (tell n opened (Gave a) s)
gave p n opened a stack s = no_verdict (has_tag (node_at p n).tags Call) _

pub due_plain : (p : Program) (v : Verdicts) (n : ℕ) (tags : List Tag) (e : ℕ) → is_tagged tags ≡ false → due_on_tags p v n tags e ≡ Go
due_plain p v n [] e h = refl
due_plain p v n (t ∷ ts) e h = cc

pub due_tagged : (p : Program) (v : Verdicts) (n : ℕ) (tags : List Tag) (e : ℕ) → is_tagged tags ≡ true → due_on_tags p v n tags e ≡ verdict_on p v n Statement e
due_tagged p v n [] e h = cc
due_tagged p v n (t ∷ ts) e h = refl

either_way : {X : Type 0} (b : Bool) (x : X) → x ≡ cond b x x
either_way true x = refl
either_way false x = refl

-- a machine that goes on has obeyed, whether or not verdicts count
pub goes_on : (p : Program) (x : Event) (m : Held) → HasObeyed p x Go m m
goes_on p x m = (λ es. either_way (is_heeded p x.kind x.node) (with_events m es), refl, refl)
