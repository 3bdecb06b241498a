-- A machine and its watcher stand for a point of the meaning from the start on, after each turn, and at the end.
use Rattle.std.proofs.Common.{◌≡◌, ℕ, suc, ◌+◌, ◌-◌, ◌<◌, Bool, true, false, cond, List, [], ◌∷◌, ◌++◌, length, Some, None, Result, Ok, Err, refl, sym, ap, ◌∙◌, subst, arith, inl, inr, ◌⊎◌}
use Rattle.std.proofs.lemmas.List.{length_push}
use Rattle.std.proofs.lemmas.Bool.{cases_eq}
use Rattle.pd_tree.specs.Program.{Program, item_at}
use Rattle.pd_machine.specs.declared.event.Event.{Event}
use Rattle.pd_machine.specs.declared.event.Verdict.{Verdict}
use Rattle.pd_machine.specs.declared.event.Verdict.TheVariants.{Go, Reenter, Return, Kill}
use Rattle.pd_machine.specs.declared.machine.Turn.{Turn}
use Rattle.pd_machine.specs.declared.machine.Turn.TheVariants.{Quiet, Tells}
use Rattle.pd_machine.specs.declared.run.Mode.{Mode}
use Rattle.pd_machine.specs.declared.run.Mode.TheVariants.{Entering, Starting, Coming}
use Rattle.pd_machine.specs.declared.run.Pending.{Pending}
use Rattle.pd_machine.specs.Events.{State, Told, standing}
use Rattle.pd_machine.specs.Held.{Held, IsOver, IsOverAt, scene_of, end_at}
use Rattle.pd_meaning.specs.Meaning.{Outcome, Verdicts, from_root, meaning_of, ran, verdict_at}
use Rattle.pd_meaning.specs.Machine.{Machine, machine, mode_turn, obeyed, point, start, turn}
use Rattle.pd_meaning.specs.Steps.{state_of, with_events}
use Rattle.pd_meaning.specs.Telling.{DoesTelling, due, due_at, is_heeded}
use Rattle.pd_meaning.specs.Weight.{weight}
use Rattle.pd_meaning.specs.Leads.{AgreeBelow, AllBelow}
use Rattle.pd_meaning.proofs.Measure.{turn_lowers}
use Rattle.pd_meaning.proofs.Whole.{leads_after_quiet, leads_after_told, leads_at_first, over_leads, turn_obeys, this_event, other_event, no_event}
use Rattle.std.specs.Prelude.{IfOk}
use Rattle.std.specs.declared.alloc.AllocError.{AllocError}
use Rattle.pd_values.specs.declared.value.End.{End}
use Rattle.pd_values.specs.declared.value.End.TheVariants.{Done}
use Rattle.pd_values.specs.declared.value.Value.TheVariants.{Null}
use Rattle.pd_eval.specs.Watching.{HasObeyed, IsCounted, IsRan, Stands, keep, ran_by}

-- the turn that the machine does, without verdicts
abbrev pub HasTurned : Program → Held → Held → Turn → Type 0
HasTurned p m m' t = DoesTelling p (λ v e. due_at p v m.mode m.stack m.left e) (λ stack s. mode_turn p [] m.mode stack s) m m' t

pub turn_is : (p : Program) (v : Verdicts) (m : Held) (es : List Told) → turn p v (with_events m es) ≡ mode_turn p v m.mode m.stack (state_of m es)
unfolding turn
turn_is p v m es = refl

-- ---- the verdicts kept

keep_says : (kept : Verdicts) (e k : ℕ) (w : Verdict) → AllBelow e kept → verdict_at (keep kept e w) k ≡ verdict_at (kept ++ (e, w) ∷ []) k
keep_says kept e k Go h = go (cases_eq k e)
  where
    go : (k ≡ e) ⊎ (k ≡ e → ⊥) → verdict_at kept k ≡ verdict_at (kept ++ (e, Go) ∷ []) k
    go (inl q) = ap (verdict_at kept) q ∙ no_event kept e h ∙ sym (this_event kept e Go h) ∙ ap (verdict_at (kept ++ (e, Go) ∷ [])) (sym q)
    go (inr q) = sym (other_event kept e k Go (λ r. q (sym r)))
keep_says kept e k (Reenter i) h = refl
keep_says kept e k (Return i a) h = refl
keep_says kept e k Kill h = refl

below_more : (n : ℕ) (kept : Verdicts) → AllBelow n kept → AllBelow (n + 1) kept
below_more n [] h = tt
below_more n (x ∷ xs) h = (omega (arith, h.0), below_more n xs h.1)

below_push : (n : ℕ) (w : Verdict) (kept : Verdicts) → AllBelow n kept → AllBelow (n + 1) (kept ++ (n, w) ∷ [])
below_push n w [] h = (omega arith, tt)
below_push n w (x ∷ xs) h = (omega (arith, h.0), below_push n w xs h.1)

keep_below : (n : ℕ) (kept : Verdicts) (w : Verdict) → AllBelow n kept → AllBelow (n + 1) (keep kept n w)
keep_below n kept Go h = below_more n kept h
keep_below n kept (Reenter i) h = below_push n (Reenter i) kept h
keep_below n kept (Return i a) h = below_push n (Return i a) kept h
keep_below n kept Kill h = below_push n Kill kept h

obeyed_if : (b : Bool) (w : Verdict) (m : Machine) → obeyed (cond b w Go) m ≡ cond b (obeyed w m) m
obeyed_if true w m = refl
obeyed_if false w m = refl

-- ---- turns

module _ (p : Program) (fuel root : ℕ) (es : List Told) (kept : Verdicts) (m : Held) (going : IsOver m → ⊥) where
  abbrev M : Machine
  M = with_events m es

  pub quiet_lowers : (m' : Held) → length es ≡ m.told → HasTurned p m m' Quiet → weight (with_events m' es) < weight M
  quiet_lowers m' count turned =
      subst (λ x. weight x < weight M) (sym (turned.0 es count ∙ sym (turn_is p [] m es))) (turn_lowers p [] M going)

  pub quiet_stands : (m' : Held) → HasTurned p m m' Quiet → Stands p fuel root es kept m → Stands p fuel root es kept m'
  quiet_stands m' turned s =
      let E : with_events m' es ≡ turn p [] M = turned.0 es s.count ∙ sym (turn_is p [] m es) in
      let lower = quiet_lowers m' s.count turned in
      record {
        count = s.count ∙ sym turned.2;
        leads = λ v agree. ap (point p v) E ∙ leads_after_quiet p fuel root kept M (λ u. turned.1 u (length es)) s.leads v agree;
        below = s.below;
        bound = omega (arith, s.bound, turned.2, lower);
        fuel_is = turned.3 ∙ s.fuel_is;
      }

  module _ (m' m'' : Held) (x : Event) (w : Verdict) (turned : HasTurned p m m' (Tells x)) (obeys : HasObeyed p x w m' m'') (count : length es ≡ m.told) (below : AllBelow (length es) kept) where
    abbrev told : List Told
    told = es ++ record { event = x; scene = standing x.node (scene_of m') } ∷ []

    abbrev more : Verdicts
    more = kept ++ (length es, w) ∷ []

    due_is : due p more M ≡ cond (is_heeded p x.kind x.node) w Go
    due_is = turned.1 more (length es) ∙ ap (λ z. cond (is_heeded p x.kind x.node) z Go) (this_event kept (length es) w below)

    obeyed_is : with_events m'' told ≡ obeyed (due p more M) (turn p [] M)
    obeyed_is =
        obeys.0 told
        ∙ sym (obeyed_if (is_heeded p x.kind x.node) w (with_events m' told))
        ∙ ap (λ d. obeyed d (with_events m' told)) (sym due_is)
        ∙ ap (obeyed (due p more M)) (turned.0 es count ∙ sym (turn_is p [] m es))

    pub told_turn : with_events m'' told ≡ turn p more M
    told_turn = obeyed_is ∙ sym (turn_obeys p more M)

    pub told_lowers : weight (with_events m'' told) < weight M
    told_lowers = subst (λ y. weight y < weight M) (sym told_turn) (turn_lowers p more M going)

    pub told_stands : Stands p fuel root es kept m → Stands p fuel root told (keep kept x.number w) m''
    told_stands s =
        let number : x.number ≡ length es = turned.4 ∙ sym count in
        let size : length told ≡ length es + 1 = length_push es _ in
        let lower = told_lowers in
        let agrees : (v : Verdicts) → AgreeBelow (length told) v (keep kept x.number w) → AgreeBelow (suc (length es)) v more =
        λ v agree k lt. agree k (omega (arith, size)) ∙ ap (λ n. verdict_at (keep kept n w) k) number ∙ keep_says kept (length es) k w below in
        record {
          count = size ∙ ap (λ n. n + 1) count ∙ sym turned.2 ∙ sym obeys.1;
          leads = λ v agree. ap (point p v) obeyed_is ∙ leads_after_told p fuel root kept M w below s.leads v (agrees v agree);
          below = subst (λ n. AllBelow n (keep kept x.number w)) (sym size) (subst (λ n. AllBelow (length es + 1) (keep kept n w)) (sym number) (keep_below (length es) kept w below));
          bound = omega (arith, s.bound, turned.2, obeys.1, lower);
          fuel_is = obeys.2 ∙ turned.3 ∙ s.fuel_is;
        }

-- ---- the start and the end

pub stands_at_first : (p : Program) (fuel root : ℕ) (m : Held) → with_events m [] ≡ start p fuel root → m.told ≡ 0 → m.fuel ≡ fuel → Stands p fuel root [] [] m
stands_at_first p fuel root m begun told all = record {
  count = sym told;
  leads = λ v agree. ap (point p v) begun ∙ leads_at_first p fuel root v (λ e lt. absurd (omega arith));
  below = tt;
  bound = omega (arith, told, ap weight begun);
  fuel_is = all;
}

over_at : (p : Program) (v : Verdicts) (fuel root : ℕ) (mode : Mode) (stack : List Pending) (s : State) (o : Outcome) → IsOverAt mode stack → point p v (machine mode stack s) ≡ o → ran fuel o ≡ record { output = s.output; events = s.events; used = fuel - s.left; finish = end_at mode }
over_at p v fuel root (Coming r) [] s o h e = ap (ran fuel) (sym e ∙ over_leads p v r s)
over_at p v fuel root (Coming r) (x ∷ stack) s o h e = absurd h
over_at p v fuel root (Entering n) stack s o h e = absurd h
over_at p v fuel root (Starting n) stack s o h e = absurd h

pub over_means : (p : Program) (fuel root entry : ℕ) (es : List Told) (kept : Verdicts) (m : Held) → (item_at p entry).root ≡ Some root → IsOver m → Stands p fuel root es kept m → ran_by m es ≡ meaning_of p entry fuel kept
unfolding meaning_of
over_means p fuel root entry es kept m item over s =
    ap (λ f. record { output = m.output; events = es; used = f - m.left; finish = end_at m.mode }) s.fuel_is
    ∙ sym (over_at p kept fuel root m.mode m.stack (state_of m es) (from_root p kept fuel (Some root)) over (s.leads kept (λ e lt. refl)))
    ∙ ap (λ r. ran fuel (from_root p kept fuel r)) (sym item)

-- ---- what a run's calls say

pub served_stands : (p : Program) (r : Result (Unit {0}) AllocError) (es es' : List Told) (kept kept' : Verdicts) (m m' m'' : Held) (x : Event) (going : IsOver m → ⊥) (turned : HasTurned p m m' (Tells x)) → IfOk r (λ _. es' ≡ es ++ record { event = x; scene = standing x.node (scene_of m') } ∷ []) → IfOk r (λ _. (v : Verdict) × (kept' ≡ keep kept x.number v) × HasObeyed p x v m' m'') → IfOk r (λ _. (fuel root : ℕ) → Stands p fuel root es kept m → Stands p fuel root es' kept' m'')
served_stands p (Err e) es es' kept kept' m m' m'' x going turned heard answered = tt
served_stands p (Ok u) es es' kept kept' m m' m'' x going turned heard answered = λ fuel root s.
    subst (λ ks. Stands p fuel root es' ks m'') (sym answered.1)
    (subst (λ zs. Stands p fuel root zs (keep kept x.number answered.0) m'') (sym heard)
    (told_stands p fuel root es kept m going m' m'' x answered.0 turned answered.2 s.count s.below s))

pub served_lowers : (p : Program) (r : Result (Unit {0}) AllocError) (es es' : List Told) (kept kept' : Verdicts) (m m' m'' : Held) (x : Event) (going : IsOver m → ⊥) (counted : IsCounted es kept m) (turned : HasTurned p m m' (Tells x)) → IfOk r (λ _. es' ≡ es ++ record { event = x; scene = standing x.node (scene_of m') } ∷ []) → IfOk r (λ _. (v : Verdict) × (kept' ≡ keep kept x.number v) × HasObeyed p x v m' m'') → IfOk r (λ _. weight (with_events m'' es') < weight (with_events m es))
served_lowers p (Err e) es es' kept kept' m m' m'' x going counted turned heard answered = tt
served_lowers p (Ok u) es es' kept kept' m m' m'' x going counted turned heard answered =
    subst (λ zs. weight (with_events m'' zs) < weight (with_events m es)) (sym heard)
    (told_lowers p 0 0 es kept m going m' m'' x answered.0 turned answered.2 counted.0 counted.1)

-- the answer of a run that is over
pub ran_is : (p : Program) (fuel root entry : ℕ) (es : List Told) (kept : Verdicts) (m : Held) (output : List ℕ) (end : End) (used events : ℕ) → output ≡ m.output → end ≡ end_at m.mode → used ≡ m.fuel - m.left → events ≡ m.told → IsOver m → Stands p fuel root es kept m → (item_at p entry).root ≡ Some root → IsRan (record { output = output; end = end; used = used; events = events }) es (meaning_of p entry fuel kept)
ran_is p fuel root entry es kept m output end used events o e u n over s item =
    let means : ran_by m es ≡ meaning_of p entry fuel kept = over_means p fuel root entry es kept m item over s in
    record {
      output = o ∙ ap (λ x. x.output) means;
      events = ap (λ x. x.events) means;
      count = n ∙ sym s.count ∙ ap (λ x. length x.events) means;
      used = u ∙ ap (λ x. x.used) means;
      finish = e ∙ ap (λ x. x.finish) means;
    }

-- `println` alone: nothing is told
pub none_ran : (p : Program) (fuel entry : ℕ) (es : List Told) (kept : Verdicts) (output : List ℕ) → output ≡ [] → es ≡ [] → None ≡ (item_at p entry).root → IsRan (record { output = output; end = Done Null; used = 0; events = 0 }) es (meaning_of p entry fuel kept)
unfolding meaning_of
none_ran p fuel entry es kept output o none item =
    let means : ran fuel (from_root p kept fuel None) ≡ meaning_of p entry fuel kept = ap (λ r. ran fuel (from_root p kept fuel r)) item in
    let spent : 0 ≡ fuel - fuel = omega arith in
    record {
      output = o ∙ ap (λ x. x.output) means;
      events = none ∙ ap (λ x. x.events) means;
      count = ap (λ x. length x.events) means;
      used = spent ∙ ap (λ x. x.used) means;
      finish = ap (λ x. x.finish) means;
    }
