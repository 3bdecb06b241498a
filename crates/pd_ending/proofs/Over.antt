-- Each turn lowers a number until the machine is over, and then changes nothing.
use Rattle.std.proofs.Common.{◌≡◌, ℕ, zero, suc, ◌≤◌, List, [], ◌∷◌, refl, sym, subst, arith}
use Rattle.pd_machine.specs.declared.run.Pending.{Pending}
use Rattle.pd_machine.specs.declared.run.Mode.{Mode}
use Rattle.pd_machine.specs.declared.run.Mode.TheVariants.{Entering, Starting, Coming}
use Rattle.pd_machine.specs.Events.{State}
use Rattle.pd_machine.specs.Held.{IsOverAt}
use Rattle.pd_tree.specs.Program.{Program}
use Rattle.pd_meaning.specs.Meaning.{Verdicts}
use Rattle.pd_meaning.specs.Machine.{Machine, machine, mode_turn, turn, after_turns}
use Rattle.pd_meaning.specs.Weight.{weight_of, weight}
use Rattle.pd_meaning.proofs.Measure.{turn_lowers}
use Rattle.pd_ending.specs.Ending.{IsOver}

module _ (p : Program) (v : Verdicts) where
  stays_at : (mode : Mode) (stack : List Pending) (s : State) → IsOverAt mode stack → mode_turn p v mode stack s ≡ machine mode stack s
  stays_at (Coming r) [] s h = refl
  stays_at (Coming r) (x ∷ stack) s h = absurd h
  stays_at (Entering n) stack s h = absurd h
  stays_at (Starting n) stack s h = absurd h

  stays : (m : Machine) → IsOver m → turn p v m ≡ m
  unfolding turn
  stays m h = stays_at m.mode m.stack m.state h

  stays_over : (k : ℕ) (m : Machine) → IsOver m → IsOver (after_turns p v k m)
  stays_over zero m h = h
  stays_over (suc k) m h = stays_over k (turn p v m) (subst (λ x. IsOver x) (sym (stays m h)) h)

  over_at : (k : ℕ) (mode : Mode) (stack : List Pending) (s : State) → weight_of mode stack s ≤ k → IsOver (after_turns p v k (machine mode stack s))
  over_at k (Coming r) [] s h = stays_over k (machine (Coming r) [] s) tt
  over_at zero (Coming r) (x ∷ stack) s h = absurd (omega (arith, h, turn_lowers p v (machine (Coming r) (x ∷ stack) s) (λ o. o)))
  over_at zero (Entering n) stack s h = absurd (omega (arith, h, turn_lowers p v (machine (Entering n) stack s) (λ o. o)))
  over_at zero (Starting n) stack s h = absurd (omega (arith, h, turn_lowers p v (machine (Starting n) stack s) (λ o. o)))
  over_at (suc k) (Coming r) (x ∷ stack) s h =
      let m = turn p v (machine (Coming r) (x ∷ stack) s) in
      over_at k m.mode m.stack m.state (omega (arith, h, turn_lowers p v (machine (Coming r) (x ∷ stack) s) (λ o. o)))
  over_at (suc k) (Entering n) stack s h =
      let m = turn p v (machine (Entering n) stack s) in
      over_at k m.mode m.stack m.state (omega (arith, h, turn_lowers p v (machine (Entering n) stack s) (λ o. o)))
  over_at (suc k) (Starting n) stack s h =
      let m = turn p v (machine (Starting n) stack s) in
      over_at k m.mode m.stack m.state (omega (arith, h, turn_lowers p v (machine (Starting n) stack s) (λ o. o)))

  -- as many turns as it weighs are enough
  pub over_in_time : (k : ℕ) (m : Machine) → weight m ≤ k → IsOver (after_turns p v k m)
  over_in_time k m h = over_at k m.mode m.stack m.state h
