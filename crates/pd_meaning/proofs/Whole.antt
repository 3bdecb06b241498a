-- The machine from its start to its end gives the meaning, also where each verdict is only known once its event was told.
use Rattle.pd_machine.specs.declared.run.NodeResult.{NodeResult}
use Rattle.pd_machine.specs.declared.run.NodeResult.TheVariants.{Gives, Returns, Breaks, Continues, Faults, Unwinds, Stops}
use Rattle.pd_machine.specs.declared.run.Pending.{Pending}
use Rattle.pd_machine.specs.declared.run.Pending.TheVariants.{Leaving, Operand, Catching, Choosing, ChoosingBetween, Testing, Turning, LeftSide, RightSide, InCall, Dropping}
use Rattle.pd_machine.specs.declared.run.Mode.{Mode}
use Rattle.pd_machine.specs.declared.run.Mode.TheVariants.{Entering, Starting, Coming}
use Rattle.std.proofs.Common.{◌≡◌, ℕ, zero, suc, Bool, true, false, cond, List, [], ◌∷◌, ◌++◌, length, Some, None, refl, sym, ap, ◌∙◌, arith, ne_eqb, eq-eqb}
use Rattle.std.specs.Prelude.{◌==◌}
use Rattle.pd_values.specs.declared.value.Value.{Value}
use Rattle.pd_values.specs.declared.value.Tag.{Tag}
use Rattle.pd_values.specs.declared.value.Tag.TheVariants.{Statement, Call}
use Rattle.pd_machine.specs.declared.event.EventKind.TheVariants.{Enter, Return as Gave}
use Rattle.pd_machine.specs.declared.event.Verdict.{Verdict}
use Rattle.pd_machine.specs.declared.event.Verdict.TheVariants.{Go}
use Rattle.pd_tree.specs.Program.{Program, node_at, item_at, has_tag}
use Rattle.pd_machine.specs.Events.{State, tell}
use Rattle.pd_meaning.specs.Meaning.{Verdicts, ends, evaluated, verdict_at, verdict_on, ran, opening, entry_frame, from_root, meaning_of}
use Rattle.pd_meaning.specs.Machine.{Machine, machine, obeyed, entered, entering_turn, value_came, other_came, coming_turn, mode_turn, turn, whole, point, start, after_turns}
use Rattle.pd_meaning.specs.Leads.{AgreeBelow, AllBelow, LeadsUnder}
use Rattle.pd_meaning.specs.Telling.{due_on_enter, due_on_value, due_at, due}
use Rattle.pd_meaning.proofs.Bounds.{invoked_agrees}
use Rattle.pd_meaning.proofs.Simulation.{bounded_whole, at_call, turn_keeps, IsOther}

module _ (p : Program) (v : Verdicts) where
  pub start_leads : (fuel root : ℕ) → point p v (start p fuel root) ≡ from_root p v fuel (Some root)
  unfolding point
  start_leads fuel root =
      at_call p v (entry_frame root (node_at p root) (opening p fuel)) [] (opening p fuel)
      ∙ sym (invoked_agrees fuel (evaluated p v fuel) (whole p v) (bounded_whole p v fuel fuel (omega arith)) fuel fuel (entry_frame root (node_at p root) (opening p fuel)) (opening p fuel) (omega arith) (omega arith) (omega arith)).same

  pub turns_keep : (k : ℕ) (m : Machine) → point p v (after_turns p v k m) ≡ point p v m
  turns_keep zero m = refl
  turns_keep (suc k) m = turns_keep k (turn p v m) ∙ turn_keeps p v m

  pub over_leads : (r : NodeResult) (s : State) → point p v (machine (Coming r) [] s) ≡ ends r s
  unfolding point
  over_leads r s = refl

  -- where the machine is over, it has what the program means
  pub machine_means : (fuel root entry k : ℕ) (r : NodeResult) (s : State) → (item_at p entry).root ≡ Some root → after_turns p v k (start p fuel root) ≡ machine (Coming r) [] s → ran fuel (ends r s) ≡ meaning_of p entry fuel v
  unfolding meaning_of
  machine_means fuel root entry k r s item over =
      ap (ran fuel) (sym (over_leads r s) ∙ ap (point p v) (sym over) ∙ turns_keep k (start p fuel root) ∙ start_leads fuel root)
      ∙ ap (λ x. ran fuel (from_root p v fuel x)) (sym item)

-- ---- verdicts that come one by one

module _ (p : Program) (v : Verdicts) where
  no_verdict : (b : Bool) (m : Machine) → obeyed (cond b Go Go) m ≡ m
  no_verdict true m = refl
  no_verdict false m = refl

  on_enter : (left n : ℕ) (tags : List Tag) (stack : List Pending) (s : State) → tags ≡ (node_at p n).tags → entering_turn p v left n stack s ≡ obeyed (due_on_enter p v left n tags (length s.events)) (entering_turn p [] left n stack s)
  on_enter zero n tags stack s e = refl
  on_enter (suc left) n [] stack s e = ap (λ t. entered p v n t stack (record s { left = left })) (sym e) ∙ ap (λ t. entered p [] n t stack (record s { left = left })) e
  on_enter (suc left) n (t ∷ ts) stack s e =
      let u = record s { left = left } in
      let m = machine (Starting n) (Leaving n (length s.events) ∷ stack) (tell n (length s.events) Enter u) in
      ap (λ x. entered p v n x stack u) (sym e)
      ∙ ap (obeyed (verdict_on p v n Statement (length s.events))) (sym (no_verdict (has_tag (node_at p n).tags Statement) m) ∙ ap (λ x. entered p [] n x stack u) e)

  on_value : (x : Pending) (a : Value) (stack : List Pending) (s : State) → value_came p v x a stack s ≡ obeyed (due_on_value p v (x ∷ stack) (length s.events)) (value_came p [] x a stack s)
  on_value (Leaving n opened) a stack s =
      ap (obeyed (verdict_on p v n Call (length s.events))) (sym (no_verdict (has_tag (node_at p n).tags Call) (machine (Coming (Gives a)) stack (tell n opened (Gave a) s))))
  on_value (LeftSide true n right) a stack s = refl
  on_value (LeftSide false n right) a stack s = refl
  on_value _ a stack s = refl

  on_other : (x : Pending) (r : NodeResult) → IsOther r → (stack : List Pending) (s : State) → other_came p v x r stack s ≡ other_came p [] x r stack s
  on_other (Leaving n opened) (Gives a) h stack s = absurd h
  on_other (Leaving n opened) _ h stack s = refl
  on_other (Operand n values ms) (Gives a) h stack s = absurd h
  on_other (Operand n values ms) _ h stack s = refl
  on_other Catching (Gives a) h stack s = absurd h
  on_other Catching _ h stack s = refl
  on_other (Choosing n block) (Gives a) h stack s = absurd h
  on_other (Choosing n block) _ h stack s = refl
  on_other (ChoosingBetween n block other) (Gives a) h stack s = absurd h
  on_other (ChoosingBetween n block other) _ h stack s = refl
  on_other (Testing n test block) (Gives a) h stack s = absurd h
  on_other (Testing n test block) _ h stack s = refl
  on_other (Turning n test block) (Gives a) h stack s = absurd h
  on_other (Turning n test block) _ h stack s = refl
  on_other (LeftSide x n r') (Gives a) h stack s = absurd h
  on_other (LeftSide x n r') _ h stack s = refl
  on_other (RightSide n) (Gives a) h stack s = absurd h
  on_other (RightSide n) _ h stack s = refl
  on_other (InCall k f) (Gives a) h stack s = absurd h
  on_other (InCall k f) (Unwinds m None) h stack s = refl
  on_other (InCall k f) (Unwinds m (Some a)) h stack s = refl
  on_other (InCall k f) _ h stack s = refl
  on_other Dropping (Gives a) h stack s = absurd h
  on_other Dropping _ h stack s = refl

  on_coming : (r : NodeResult) (stack : List Pending) (s : State) → coming_turn p v r stack s ≡ obeyed (due_at p v (Coming r) stack s.left (length s.events)) (coming_turn p [] r stack s)
  on_coming (Gives a) [] s = refl
  on_coming _ [] s = refl
  on_coming (Gives a) (x ∷ stack) s = on_value x a stack s
  on_coming (Returns a) (x ∷ stack) s = on_other x (Returns a) tt stack s
  on_coming Breaks (x ∷ stack) s = on_other x Breaks tt stack s
  on_coming Continues (x ∷ stack) s = on_other x Continues tt stack s
  on_coming (Faults f n) (x ∷ stack) s = on_other x (Faults f n) tt stack s
  on_coming (Unwinds k a) (x ∷ stack) s = on_other x (Unwinds k a) tt stack s
  on_coming (Stops y) (x ∷ stack) s = on_other x (Stops y) tt stack s

  on_mode : (mode : Mode) (stack : List Pending) (s : State) → mode_turn p v mode stack s ≡ obeyed (due_at p v mode stack s.left (length s.events)) (mode_turn p [] mode stack s)
  on_mode (Entering n) stack s = on_enter s.left n (node_at p n).tags stack s refl
  on_mode (Starting n) stack s = refl
  on_mode (Coming r) stack s = on_coming r stack s

  -- a turn under verdicts is the turn without any, and then the verdict on the event that it told
  pub turn_obeys : (m : Machine) → turn p v m ≡ obeyed (due p v m) (turn p [] m)
  unfolding turn
  turn_obeys m = on_mode m.mode m.stack m.state

  -- what is due depends on the verdict at the next event alone
  due_by_enter : (u : Verdicts) (left n : ℕ) (tags : List Tag) (e : ℕ) → verdict_at v e ≡ verdict_at u e → due_on_enter p v left n tags e ≡ due_on_enter p u left n tags e
  due_by_enter u zero n tags e h = refl
  due_by_enter u (suc left) n [] e h = refl
  due_by_enter u (suc left) n (t ∷ ts) e h = ap (λ w. cond (has_tag (node_at p n).tags Statement) w Go) h

  due_by_value : (u : Verdicts) (stack : List Pending) (e : ℕ) → verdict_at v e ≡ verdict_at u e → due_on_value p v stack e ≡ due_on_value p u stack e
  due_by_value u [] e h = refl
  due_by_value u (Leaving n opened ∷ stack) e h = ap (λ w. cond (has_tag (node_at p n).tags Call) w Go) h
  due_by_value u (_ ∷ stack) e h = refl

  due_by_mode : (u : Verdicts) (mode : Mode) (stack : List Pending) (s : State) → verdict_at v (length s.events) ≡ verdict_at u (length s.events) → due_at p v mode stack s.left (length s.events) ≡ due_at p u mode stack s.left (length s.events)
  due_by_mode u (Entering n) stack s h = due_by_enter u s.left n (node_at p n).tags (length s.events) h
  due_by_mode u (Starting n) stack s h = refl
  due_by_mode u (Coming (Gives a)) stack s h = due_by_value u stack (length s.events) h
  due_by_mode u (Coming _) stack s h = refl

  pub due_by_next : (u : Verdicts) (m : Machine) → verdict_at v (length m.state.events) ≡ verdict_at u (length m.state.events) → due p v m ≡ due p u m
  due_by_next u m h = due_by_mode u m.mode m.stack m.state h

-- ---- the list of verdicts that a watcher keeps

pub other_event : (kept : Verdicts) (e k : ℕ) (w : Verdict) → (e ≡ k → ⊥) → verdict_at (kept ++ (e, w) ∷ []) k ≡ verdict_at kept k
other_event [] e k w h = ap (λ b. cond b w Go) (ne_eqb e k h)
other_event (x ∷ xs) e k w h = ap (λ r. cond (x.0 == k) x.1 r) (other_event xs e k w h)

pub this_event : (kept : Verdicts) (e : ℕ) (w : Verdict) → AllBelow e kept → verdict_at (kept ++ (e, w) ∷ []) e ≡ w
this_event [] e w h = ap (λ b. cond b w Go) (eq-eqb e e refl)
this_event (x ∷ xs) e w h = ap (λ b. cond b x.1 (verdict_at (xs ++ (e, w) ∷ []) e)) (ne_eqb x.0 e (λ k. omega (arith, h.0))) ∙ this_event xs e w h.1

pub no_event : (kept : Verdicts) (e : ℕ) → AllBelow e kept → verdict_at kept e ≡ Go
no_event [] e h = refl
no_event (x ∷ xs) e h = ap (λ b. cond b x.1 (verdict_at xs e)) (ne_eqb x.0 e (λ k. omega (arith, h.0))) ∙ no_event xs e h.1

module _ (p : Program) (fuel root : ℕ) where
  -- under every list before the first event
  pub leads_at_first : LeadsUnder p fuel root [] (start p fuel root)
  leads_at_first v h = start_leads p v fuel root

  -- after a turn on which no verdict counts
  pub leads_after_quiet : (kept : Verdicts) (m : Machine) → ((v : Verdicts) → due p v m ≡ Go) → LeadsUnder p fuel root kept m → (v : Verdicts) → AgreeBelow (length m.state.events) v kept → point p v (turn p [] m) ≡ from_root p v fuel (Some root)
  leads_after_quiet kept m quiet leads v h =
      ap (point p v) (sym (turn_obeys p v m ∙ ap (λ w. obeyed w (turn p [] m)) (quiet v))) ∙ turn_keeps p v m ∙ leads v h

  -- after a turn that tells an event, where the answer to it was kept and then obeyed
  pub leads_after_told : (kept : Verdicts) (m : Machine) (w : Verdict) → AllBelow (length m.state.events) kept → LeadsUnder p fuel root kept m → let e = length m.state.events in let more = kept ++ (e, w) ∷ [] in (v : Verdicts) → AgreeBelow (suc e) v more → point p v (obeyed (due p more m) (turn p [] m)) ≡ from_root p v fuel (Some root)
  leads_after_told kept m w below leads v h =
      let e = length m.state.events in
      let more = kept ++ (e, w) ∷ [] in
      let before : AgreeBelow e v kept = λ k lt. h k (omega arith) ∙ other_event kept e k w (λ q. omega (arith, q)) in
      ap (λ d. point p v (obeyed d (turn p [] m))) (sym (due_by_next p v more m (h e (omega arith)))) ∙ ap (point p v) (sym (turn_obeys p v m)) ∙ turn_keeps p v m ∙ leads v before
