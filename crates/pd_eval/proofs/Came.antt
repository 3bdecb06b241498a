-- A result comes to what waits, by what it is.
use Rattle.std.proofs.Common.{◌≡◌, ℕ, Bool, true, false, cond, List, [], ◌∷◌, Option, Some, None, Result, Ok, Err, refl, sym, ap, ◌∙◌, eq-eqb, ne_eqb}
use Rattle.std.specs.Prelude.{◌==◌}
use Rattle.pd_values.specs.declared.value.Value.{Value}
use Rattle.pd_tree.specs.Program.{Program}
use Rattle.pd_machine.specs.declared.event.Cause.{Cause}
use Rattle.pd_machine.specs.declared.event.Cause.TheVariants.{Returning, Breaking, Continuing, Faulting, Unwinding}
use Rattle.pd_machine.specs.declared.event.EventKind.TheVariants.{Leave}
use Rattle.pd_machine.specs.declared.run.Frame.{Frame}
use Rattle.pd_machine.specs.declared.run.Pending.{Pending}
use Rattle.pd_machine.specs.declared.run.Pending.TheVariants.{Leaving, Operand, Catching, Choosing, ChoosingBetween, Testing, Turning, LeftSide, RightSide, InCall, Dropping}
use Rattle.pd_machine.specs.declared.event.Verdict.TheVariants.{Go}
use Rattle.pd_machine.specs.declared.run.Mode.TheVariants.{Coming}
use Rattle.pd_machine.specs.declared.run.NodeResult.{NodeResult}
use Rattle.pd_machine.specs.declared.run.NodeResult.TheVariants.{Gives, Returns, Breaks, Continues, Faults, Unwinds, Stops}
use Rattle.std.specs.Prelude.{IfOk}
use Rattle.std.specs.declared.alloc.AllocError.{AllocError}
use Rattle.pd_machine.specs.declared.machine.Turn.{Turn}
use Rattle.pd_machine.specs.Held.{Held}
use Rattle.pd_meaning.specs.Steps.{state_of}
use Rattle.pd_machine.specs.Events.{State, tell}
use Rattle.pd_meaning.specs.Meaning.{Verdicts, ends, exit, popped}
use Rattle.pd_meaning.specs.Telling.{DoesTelling, due_at, due_on_value}
use Rattle.pd_meaning.specs.Machine.{machine, settled, call_again, call_begun, coming_turn, other_came, value_came}
use Rattle.pd_eval.specs.Tagged.{IsOther, call_ended, cause_of, jump_came, side_came, value_of}

pub value_comes : (p : Program) (r : NodeResult) (a : Value) (x : Pending) (stack : List Pending) (s : State) → Ok a ≡ value_of r → coming_turn p [] r (x ∷ stack) s ≡ value_came p [] x a stack s
value_comes p (Gives b) a x stack s h = let e : a ≡ b = cc in ap (λ c. value_came p [] x c stack s) (sym e)
value_comes p (Returns b) a x stack s h = cc
value_comes p Breaks a x stack s h = cc
value_comes p Continues a x stack s h = cc
value_comes p (Faults f n) a x stack s h = cc
value_comes p (Unwinds k b) a x stack s h = cc
value_comes p (Stops y) a x stack s h = cc

pub other_comes : (p : Program) (r o : NodeResult) (x : Pending) (stack : List Pending) (s : State) → Err o ≡ value_of r → coming_turn p [] r (x ∷ stack) s ≡ other_came p [] x o stack s
other_comes p (Gives b) o x stack s h = cc
other_comes p (Returns b) o x stack s h = let e : o ≡ Returns b = cc in ap (λ c. other_came p [] x c stack s) (sym e)
other_comes p Breaks o x stack s h = let e : o ≡ Breaks = cc in ap (λ c. other_came p [] x c stack s) (sym e)
other_comes p Continues o x stack s h = let e : o ≡ Continues = cc in ap (λ c. other_came p [] x c stack s) (sym e)
other_comes p (Faults f n) o x stack s h = let e : o ≡ Faults f n = cc in ap (λ c. other_came p [] x c stack s) (sym e)
other_comes p (Unwinds k b) o x stack s h = let e : o ≡ Unwinds k b = cc in ap (λ c. other_came p [] x c stack s) (sym e)
other_comes p (Stops y) o x stack s h = let e : o ≡ Stops y = cc in ap (λ c. other_came p [] x c stack s) (sym e)

pub other_is : (r o : NodeResult) → Err o ≡ value_of r → IsOther o
other_is (Gives b) (Gives a) h = cc
other_is (Returns b) (Gives a) h = cc
other_is Breaks (Gives a) h = cc
other_is Continues (Gives a) h = cc
other_is (Faults f n) (Gives a) h = cc
other_is (Unwinds k b) (Gives a) h = cc
other_is (Stops y) (Gives a) h = cc
other_is r (Returns a) h = tt
other_is r Breaks h = tt
other_is r Continues h = tt
other_is r (Faults f n) h = tt
other_is r (Unwinds k a) h = tt
other_is r (Stops y) h = tt

pub left : (p : Program) (n opened : ℕ) (r : NodeResult) (c : Cause) (stack : List Pending) (s : State) → Some c ≡ cause_of r → settled stack (exit p [] n opened (ends r s)) ≡ machine (Coming r) stack (tell n opened (Leave c) s)
left p n opened (Gives a) c stack s h = cc
left p n opened (Returns a) c stack s h = let e : c ≡ Returning = cc in ap (λ d. machine (Coming (Returns a)) stack (tell n opened (Leave d) s)) (sym e)
left p n opened Breaks c stack s h = let e : c ≡ Breaking = cc in ap (λ d. machine (Coming Breaks) stack (tell n opened (Leave d) s)) (sym e)
left p n opened Continues c stack s h = let e : c ≡ Continuing = cc in ap (λ d. machine (Coming Continues) stack (tell n opened (Leave d) s)) (sym e)
left p n opened (Faults f m) c stack s h = let e : c ≡ Faulting f = cc in ap (λ d. machine (Coming (Faults f m)) stack (tell n opened (Leave d) s)) (sym e)
left p n opened (Unwinds k a) c stack s h = let e : c ≡ Unwinding = cc in ap (λ d. machine (Coming (Unwinds k a)) stack (tell n opened (Leave d) s)) (sym e)
left p n opened (Stops y) c stack s h = cc

pub stopped : (p : Program) (n opened : ℕ) (r : NodeResult) (stack : List Pending) (s : State) → None ≡ cause_of r → IsOther r → settled stack (exit p [] n opened (ends r s)) ≡ machine (Coming r) stack s
stopped p n opened (Gives a) stack s h other = absurd other
stopped p n opened (Returns a) stack s h other = cc
stopped p n opened Breaks stack s h other = cc
stopped p n opened Continues stack s h other = cc
stopped p n opened (Faults f m) stack s h other = cc
stopped p n opened (Unwinds k a) stack s h other = cc
stopped p n opened (Stops y) stack s h other = refl

pub jump_is : (p : Program) (n test block : ℕ) (r : NodeResult) (stack : List Pending) (s : State) → IsOther r → other_came p [] (Turning n test block) r stack s ≡ jump_came n test block r stack s
jump_is p n test block (Gives a) stack s h = absurd h
jump_is p n test block (Returns a) stack s h = refl
jump_is p n test block Breaks stack s h = refl
jump_is p n test block Continues stack s h = refl
jump_is p n test block (Faults f m) stack s h = refl
jump_is p n test block (Unwinds k a) stack s h = refl
jump_is p n test block (Stops y) stack s h = refl

again_is : (b : Bool) (m : ℕ) (f : Frame) (stack : List Pending) (s : State) → call_again b m f stack s ≡ cond b (call_begun f stack s) (machine (Coming (Unwinds m None)) stack s)
again_is true m f stack s = refl
again_is false m f stack s = refl

pub ended_is : (p : Program) (k : ℕ) (f : Frame) (r : NodeResult) (stack : List Pending) (s : State) → IsOther r → other_came p [] (InCall k f) r stack s ≡ call_ended k f r stack s
ended_is p k f (Gives a) stack s h = absurd h
ended_is p k f (Returns a) stack s h = refl
ended_is p k f Breaks stack s h = refl
ended_is p k f Continues stack s h = refl
ended_is p k f (Faults g m) stack s h = refl
ended_is p k f (Unwinds m None) stack s h = again_is (m == k) m f stack (popped s)
ended_is p k f (Unwinds m (Some a)) stack s h = refl
ended_is p k f (Stops y) stack s h = refl

pub made_again : (k m : ℕ) (f : Frame) (stack : List Pending) (s : State) → m ≡ k → call_ended k f (Unwinds m None) stack s ≡ call_begun f stack (popped s)
made_again k m f stack s e = ap (λ b. cond b (call_begun f stack (popped s)) (machine (Coming (Unwinds m None)) stack (popped s))) (eq-eqb m k e)

pub given : (k m : ℕ) (f : Frame) (a : Value) (stack : List Pending) (s : State) → m ≡ k → call_ended k f (Unwinds m (Some a)) stack s ≡ machine (Coming (Gives a)) stack (popped s)
given k m f a stack s e = ap (λ b. machine (Coming (cond b (Gives a) (Unwinds m (Some a)))) stack (popped s)) (eq-eqb m k e)

pub passed : (k m : ℕ) (f : Frame) (g : Option Value) (stack : List Pending) (s : State) → (m ≡ k → ⊥) → call_ended k f (Unwinds m g) stack s ≡ machine (Coming (Unwinds m g)) stack (popped s)
passed k m f None stack s h = ap (λ b. cond b (call_begun f stack (popped s)) (machine (Coming (Unwinds m None)) stack (popped s))) (ne_eqb m k h)
passed k m f (Some a) stack s h = ap (λ b. machine (Coming (cond b (Gives a) (Unwinds m (Some a)))) stack (popped s)) (ne_eqb m k h)

pub side_is : (p : Program) (by : Bool) (n right : ℕ) (a : Value) (stack : List Pending) (s : State) → value_came p [] (LeftSide by n right) a stack s ≡ side_came by n right a stack s
side_is p true n right a stack s = refl
side_is p false n right a stack s = refl

-- what is due where a result comes
pub due_on_result : (p : Program) (v : Verdicts) (r : NodeResult) (a : Value) (x : Pending) (stack : List Pending) (left e : ℕ) → Ok a ≡ value_of r → due_at p v (Coming r) (x ∷ stack) left e ≡ due_on_value p v (x ∷ []) e
due_on_result p v (Gives b) a (Leaving n opened) stack left e h = refl
due_on_result p v (Gives b) a (Operand n values i) stack left e h = refl
due_on_result p v (Gives b) a Catching stack left e h = refl
due_on_result p v (Gives b) a (Choosing n block) stack left e h = refl
due_on_result p v (Gives b) a (ChoosingBetween n block other) stack left e h = refl
due_on_result p v (Gives b) a (Testing n test block) stack left e h = refl
due_on_result p v (Gives b) a (Turning n test block) stack left e h = refl
due_on_result p v (Gives b) a (LeftSide by n right) stack left e h = refl
due_on_result p v (Gives b) a (RightSide n) stack left e h = refl
due_on_result p v (Gives b) a (InCall k f) stack left e h = refl
due_on_result p v (Gives b) a Dropping stack left e h = refl
due_on_result p v (Returns b) a x stack left e h = cc
due_on_result p v Breaks a x stack left e h = cc
due_on_result p v Continues a x stack left e h = cc
due_on_result p v (Faults f n) a x stack left e h = cc
due_on_result p v (Unwinds k b) a x stack left e h = cc
due_on_result p v (Stops y) a x stack left e h = cc

pub due_on_other : (p : Program) (v : Verdicts) (r o : NodeResult) (stack : List Pending) (left e : ℕ) → Err o ≡ value_of r → due_at p v (Coming r) stack left e ≡ Go
due_on_other p v (Gives b) o stack left e h = cc
due_on_other p v (Returns b) o stack left e h = refl
due_on_other p v Breaks o stack left e h = refl
due_on_other p v Continues o stack left e h = refl
due_on_other p v (Faults f n) o stack left e h = refl
due_on_other p v (Unwinds k b) o stack left e h = refl
due_on_other p v (Stops y) o stack left e h = refl

-- another result than a value is passed on to what waits on top
pub passed_on : (p : Program) (r : Result Turn AllocError) (old new : Held) (rest : List Pending) (came other : NodeResult) (top : Pending) → old.stack ≡ top ∷ rest → Err other ≡ value_of came → IfOk r (λ t. DoesTelling p (λ v e. Go) (λ stack s. other_came p [] top other stack s) (record old { stack = rest }) new t) → IfOk r (λ t. DoesTelling p (λ v e. due_at p v (Coming came) old.stack old.left e) (λ stack s. coming_turn p [] came stack s) old new t)
passed_on p (Err x) old new rest came other top stacked valued h = tt
passed_on p (Ok t) old new rest came other top stacked valued h = (
  (λ es k. h.0 es k ∙ sym (ap (λ x. coming_turn p [] came x (state_of old es)) stacked ∙ other_comes p came other top rest (state_of old es) valued)),
  (λ v e. due_on_other p v came other old.stack old.left e valued ∙ h.1 v e),
  h.2,
  h.3,
  h.4,
)
