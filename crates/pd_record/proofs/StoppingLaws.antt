-- The suspensions of a context, session by session and event by event.
use Rattle.std.proofs.Common.{subst, ◌&&◌, ◌≡◌, ℕ, suc, ◌<◌, ◌≤◌, true, false, List, [], ◌∷◌, ◌++◌, map, length, refl, sym, ap, ◌∙◌, arith}
use Rattle.std.proofs.lemmas.List.{append-nil, map-append}
use Rattle.std.proofs.lemmas.List.{length-map}
use Rattle.std.proofs.Math.Seq.{append_snoc}
use Rattle.pd_tree.specs.Program.{Program}
use Rattle.pd_machine.specs.Events.{Told}
use Rattle.pd_plan.specs.declared.plan.BindingSpec.{BindingSpec}
use Rattle.pd_plan.specs.declared.plan.Plan.{Plan}
use Rattle.pd_board.specs.declared.answers.Drawn.{Drawn}
use Rattle.pd_board.specs.declared.answers.Sight.{Sight}
use Rattle.pd_suspend.specs.declared.suspension.Reason.{Reason}
use Rattle.pd_suspend.specs.declared.suspension.Reason.TheVariants.{Step, Halt}
use Rattle.pd_suspend.specs.Steps.{is_enter}
use Rattle.pd_tree.specs.Program.{node_at, has_tag}
use Rattle.pd_values.specs.declared.value.Tag.TheVariants.{AlwaysHalt}
use Rattle.pd_suspend.specs.declared.suspension.Suspension.{Suspension}
use Rattle.pd_suspend.specs.Stops.{Setting, Answered, answered_to, answered_at, hit_by, hits_from, is_over, step_in, where_so, reasons_at, suspension, is_verdict, stops_at, stops_of, sessions_of}
use Rattle.pd_suspend.proofs.Stopping.{stops_of-push, session-runs, session-stops, session-ends, answered_at-next}
use Rattle.pd_record.specs.Logs.{answer_at}
use Rattle.pd_record.specs.Record.{setting_of}
use Rattle.pd_record.specs.Stopping.{setting_with, IsStoppedTo, IsStoppingAt, reasons_by, stop_by}
use Rattle.std.specs.Option.{option_to_list}

module _ (plan : Plan) (p : Program) (context : ℕ) where
  -- no event yet
  pub stopped-none : (seen : List Sight) → IsStoppedTo plan p context 0 [] seen []
  stopped-none seen drawn same more = refl

  -- an event was served: its sessions are to be asked
  pub stopping-begins : (ts : List Told) (t : Told) (n : ℕ) (seen more_seen : List Sight) (stops : List Suspension)
      → t.event.number ≡ n → ((e b : ℕ) → e < n → answer_at more_seen e b ≡ answer_at seen e b)
      → IsStoppedTo plan p context n ts seen stops → IsStoppingAt plan p context ts t (sessions_of plan) more_seen stops
  stopping-begins ts t n seen more_seen stops number kept i drawn same more =
      let q : Setting = setting_with plan p context drawn stops more in
      stops_of-push q ts t
      ∙ ap (stops_at q ts t (sessions_of plan)) (i drawn (λ e b h. same e b (omega (arith, h, number)) ∙ kept e b h) more)

  -- all of them were asked
  pub stopping-over : (ts : List Told) (t : Told) (seen : List Sight) (stops : List Suspension)
      → IsStoppingAt plan p context ts t [] seen stops → IsStoppedTo plan p context (suc t.event.number) (ts ++ t ∷ []) seen stops
  stopping-over ts t seen stops i drawn same more = i drawn (λ e b h. same e b (omega (arith, h))) more

  -- ---- one session

  hits-same : (q r : ℕ → ℕ → Drawn) (replies more : List Answered) (s : ℕ) (t : Told) (b : ℕ) (xs : List BindingSpec) → ((c : ℕ) → q t.event.number c ≡ r t.event.number c)
      → hits_from (record { plan = plan; program = p; context = context; drawn = q; answered = replies }) s t b xs
      ≡ hits_from (record { plan = plan; program = p; context = context; drawn = r; answered = more }) s t b xs
  hits-same q r replies more s t b [] h = refl
  hits-same q r replies more s t b (x ∷ xs) h =
      ap (λ d. option_to_list (hit_by p s t b x d) ++ hits_from (record { plan = plan; program = p; context = context; drawn = q; answered = replies }) s t (suc b) xs) (h b)
      ∙ ap (λ ys. option_to_list (hit_by p s t b x (r t.event.number b)) ++ ys) (hits-same q r replies more s t (suc b) xs h)

  reasons-same : (drawn : ℕ → ℕ → Drawn) (ts : List Told) (seen : List Sight) (stops : List Suspension) (more : List Answered) (t : Told) (s : ℕ)
      → ((e b : ℕ) → e ≤ t.event.number → drawn e b ≡ answer_at seen e b)
      → reasons_at (setting_with plan p context drawn stops more) ts stops t s ≡ reasons_by plan p context ts seen stops t s
  reasons-same drawn ts seen stops more t s same =
      ap (λ hs. hs ++ where_so (is_over p ts t.event (step_in s stops)) Step ++ where_so (is_enter t.event.kind && has_tag (node_at p t.event.node).tags AlwaysHalt) Halt)
      (hits-same drawn (answer_at seen) (map answered_to stops ++ more) (map answered_to stops ++ []) s t 0 plan.bindings (λ c. same t.event.number c (omega arith)))

  -- it has none, and runs on
  pub stopping-runs : (ts : List Told) (t : Told) (s : ℕ) (ss : List ℕ) (seen : List Sight) (stops : List Suspension)
      → reasons_by plan p context ts seen stops t s ≡ []
      → IsStoppingAt plan p context ts t (s ∷ ss) seen stops → IsStoppingAt plan p context ts t ss seen stops
  stopping-runs ts t s ss seen stops none i drawn same more =
      i drawn same more ∙ session-runs (setting_with plan p context drawn stops more) ts t s ss stops (reasons-same drawn ts seen stops more t s same ∙ none)

  setting-next : (drawn : ℕ → ℕ → Drawn) (seen : List Sight) (stops : List Suspension) (t : Told) (s : ℕ) (rs : List Reason) (reply : Answered) (more : List Answered)
      → setting_with plan p context drawn stops (reply ∷ more) ≡ setting_with plan p context drawn (stops ++ stop_by plan p context seen stops t s rs reply ∷ []) more
  setting-next drawn seen stops t s rs reply more =
      ap (λ x. record { plan = plan; program = p; context = context; drawn = drawn; answered = x })
      (sym (append_snoc (map answered_to stops) reply more)
      ∙ ap (λ x. x ++ more) (sym (map-append answered_to stops (stop_by plan p context seen stops t s rs reply ∷ []))))

  next-reply : (drawn : ℕ → ℕ → Drawn) (stops : List Suspension) (reply : Answered) (more : List Answered)
      → answered_at (setting_with plan p context drawn stops (reply ∷ more)) (length stops) ≡ reply
  next-reply drawn stops reply more =
      answered_at-next (setting_with plan p context drawn stops (reply ∷ more)) (map answered_to stops) reply more (length stops) refl (sym (length-map stops answered_to))

  -- it has some, and is answered without a verdict
  pub stopping-stops : (ts : List Told) (t : Told) (s : ℕ) (ss : List ℕ) (seen : List Sight) (stops : List Suspension) (r : Reason) (rs : List Reason) (reply : Answered)
      → reasons_by plan p context ts seen stops t s ≡ r ∷ rs → is_verdict reply.resume ≡ false
      → IsStoppingAt plan p context ts t (s ∷ ss) seen stops → IsStoppingAt plan p context ts t ss seen (stops ++ stop_by plan p context seen stops t s (r ∷ rs) reply ∷ [])
  stopping-stops ts t s ss seen stops r rs reply some goes i drawn same more =
      let q : Setting = setting_with plan p context drawn stops (reply ∷ more) in
      let replied : answered_at q (length stops) ≡ reply = next-reply drawn stops reply more in
      subst (λ y. stops_of y (ts ++ t ∷ []) ≡ stops_at y ts t ss (stops ++ stop_by plan p context seen stops t s (r ∷ rs) reply ∷ [])) (setting-next drawn seen stops t s (r ∷ rs) reply more)
      (i drawn same (reply ∷ more)
      ∙ session-stops q ts t s ss stops r rs (reasons-same drawn ts seen stops (reply ∷ more) t s same ∙ some) (ap (λ y. is_verdict y.resume) replied ∙ goes)
      ∙ ap (λ y. stops_at q ts t ss (stops ++ suspension q t s (length stops) (r ∷ rs) y ∷ [])) replied)

  -- and with one: no later session is asked
  pub stopping-ends : (ts : List Told) (t : Told) (s : ℕ) (ss : List ℕ) (seen : List Sight) (stops : List Suspension) (r : Reason) (rs : List Reason) (reply : Answered)
      → reasons_by plan p context ts seen stops t s ≡ r ∷ rs → is_verdict reply.resume ≡ true
      → IsStoppingAt plan p context ts t (s ∷ ss) seen stops → IsStoppingAt plan p context ts t [] seen (stops ++ stop_by plan p context seen stops t s (r ∷ rs) reply ∷ [])
  stopping-ends ts t s ss seen stops r rs reply some ends i drawn same more =
      let q : Setting = setting_with plan p context drawn stops (reply ∷ more) in
      let replied : answered_at q (length stops) ≡ reply = next-reply drawn stops reply more in
      subst (λ y. stops_of y (ts ++ t ∷ []) ≡ (stops ++ stop_by plan p context seen stops t s (r ∷ rs) reply ∷ [])) (setting-next drawn seen stops t s (r ∷ rs) reply more)
      (i drawn same (reply ∷ more)
      ∙ session-ends q ts t s ss stops r rs (reasons-same drawn ts seen stops (reply ∷ more) t s same ∙ some) (ap (λ y. is_verdict y.resume) replied ∙ ends)
      ∙ ap (λ y. stops ++ suspension q t s (length stops) (r ∷ rs) y ∷ []) replied)

  -- ---- all events were served

  pub stopped-all : (n : ℕ) (events : List Told) (seen : List Sight) (stops : List Suspension)
      → IsStoppedTo plan p context n events seen stops → stops ≡ stops_of (setting_of plan p context seen stops) events
  stopped-all n events seen stops i =
      sym (i (answer_at seen) (λ e b h. refl) [])
      ∙ ap (λ x. stops_of (record { plan = plan; program = p; context = context; drawn = answer_at seen; answered = x }) events) (append-nil (map answered_to stops))
