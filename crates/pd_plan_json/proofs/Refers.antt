-- The plans that are read have what they refer to.
use Rattle.std.proofs.Common.{◌≡◌, ℕ, suc, ◌<◌, List, [], ◌∷◌, length, Ok, Err, Bool, true, false, not, Option, Some, None, slice_get, codes, refl, subst, arith, nat_lt}
use Rattle.std.specs.Prelude.{⊤}
use Rattle.std.specs.List.{AllByRecursion}
use Rattle.std.proofs.lemmas.Bool.Decides.{nat_tests}
use Rattle.serde_json.specs.Data.{Data}
use Rattle.pd_plan.specs.declared.refusal.PlanRule.TheVariants.{NoSuch, NotAnObserver}
use Rattle.pd_plan.specs.declared.plan.BindingSpec.{BindingSpec}
use Rattle.pd_plan.specs.declared.plan.BindingSpec.TheVariants.{Observe, Break, Pause}
use Rattle.pd_plan.specs.declared.plan.Act.TheVariants.{Attach, Dispose, Enable, Disable}
use Rattle.pd_plan.specs.declared.plan.Action.TheVariants as actions
use Rattle.pd_plan.specs.declared.plan.Plan.{Plan}
use Rattle.pd_plan.specs.Sound.{AllBelow, IsObserver, BreakRefers, BindingRefers, ActRefers, ActionRefers, AnswerRefers, SessionRefers, PlanRefers, IsSound}
use Rattle.pd_plan_json.specs.Reading.{Read, ◌>>◌, refuse_if, under, member_step, entry_step}
use Rattle.pd_plan_json.specs.References.{had, within, each, each_from, export_refers, context_refers, filter_refers, break_refers, binding_refers, act_refers, action_refers, answer_refers, session_refers, is_observer, observed, refers}
use Rattle.pd_plan_json.specs.Tables.{plan}
use Rattle.pd_plan_json.specs.Whole.{plan_of, plan_at, data_of}
use Rattle.pd_plan_json.proofs.Fits.{bind_ok, under_ok, plan_fits}

abbrev pub Shows : {A : Type 0} → (A → Read ⊤) → (A → Type 0) → Type 0
Shows {A} rule P = (x : A) → rule x ≡ Ok tt → P x

pub first_ok : (r s : Read ⊤) → (r >> s) ≡ Ok tt → (r ≡ Ok tt) × (s ≡ Ok tt)
first_ok (Ok x) s e = (refl, e)
first_ok (Err r) s e = absurd cc

had_shows : (count : ℕ) → Shows (had count) (λ n. n < count)
had_shows count n e = below (nat_lt n count) refl e
  where
    below : (b : Bool) → nat_lt n count ≡ b → refuse_if (not b) NoSuch ≡ Ok tt → n < count
    below true is h = grind (arith, nat_tests)
    below false is h = absurd cc

within_shows : {A : Type 0} (name : List ℕ) (rule : A → Read ⊤) (P : A → Type 0) → Shows rule P → Shows (within name rule) P
within_shows name rule P k x e = k x (under_ok (member_step name) (rule x) tt e)

each_from_shows : {A : Type 0} (rule : A → Read ⊤) (P : A → Type 0) → Shows rule P → (i : ℕ) → Shows (each_from rule i) (AllByRecursion P)
each_from_shows rule P k i [] e = tt
each_from_shows rule P k i (x ∷ xs) e =
    let a = first_ok (under (entry_step i) (rule x)) (each_from rule (suc i) xs) e in
    (k x (under_ok (entry_step i) (rule x) tt a.0), each_from_shows rule P k (suc i) xs a.1)

each_shows : {A : Type 0} (rule : A → Read ⊤) (P : A → Type 0) → Shows rule P → Shows (each rule) (AllByRecursion P)
unfolding each
each_shows rule P k xs e = each_from_shows rule P k 0 xs e

-- each entry of a list that is a member
pub listed_shows : {A : Type 0} (name : List ℕ) (rule : A → Read ⊤) (P : A → Type 0) → Shows rule P → Shows (within name (each rule)) (AllByRecursion P)
listed_shows name rule P k = within_shows name (each rule) (AllByRecursion P) (each_shows rule P k)

export_shows : (c : Plan) → Shows (export_refers c) (λ e. e.source < (length c.sources))
unfolding export_refers
export_shows c x e = within_shows (codes "source") (had (length c.sources)) (λ n. n < (length c.sources)) (had_shows (length c.sources)) x.source e

context_shows : (c : Plan) → Shows (context_refers c) (λ x. x.source < (length c.sources))
unfolding context_refers
context_shows c x e = within_shows (codes "source") (had (length c.sources)) (λ n. n < (length c.sources)) (had_shows (length c.sources)) x.source e

filter_shows : (c : Plan) → Shows (filter_refers c) (λ f. AllBelow (length c.sources) f.sources)
unfolding filter_refers
filter_shows c f e = listed_shows (codes "sources") (had (length c.sources)) (λ n. n < (length c.sources)) (had_shows (length c.sources)) f.sources e

break_shows : (c : Plan) → Shows (break_refers c) (BreakRefers (length c.sources) (length c.sessions))
unfolding break_refers
break_shows c b e =
    let a = first_ok (within (codes "session") (had (length c.sessions)) b.session) _ e in
    record {
      session = within_shows (codes "session") (had (length c.sessions)) (λ n. n < (length c.sessions)) (had_shows (length c.sessions)) b.session a.0;
      source = within_shows (codes "source") (had (length c.sources)) (λ n. n < (length c.sources)) (had_shows (length c.sources)) b.source a.1;
    }

binding_shows : (c : Plan) → Shows (binding_refers c) (BindingRefers (length c.sources) (length c.sessions))
unfolding binding_refers
binding_shows c (Observe f) e = within_shows (codes "filter") (filter_refers c) (λ f. AllBelow (length c.sources) f.sources) (filter_shows c) f e
binding_shows c (Break b) e = break_shows c b e
binding_shows c (Pause s) e = within_shows (codes "session") (had (length c.sessions)) (λ n. n < (length c.sessions)) (had_shows (length c.sessions)) s e

an_observer : (o : Option BindingSpec) → refuse_if (not (is_observer o)) NotAnObserver ≡ Ok tt → IsObserver o
an_observer (Some (Observe f)) e = tt
an_observer (Some (Break b)) e = absurd cc
an_observer (Some (Pause s)) e = absurd cc
an_observer None e = absurd cc

observed_shows : (c : Plan) → Shows (observed c) (λ n. IsObserver (slice_get c.bindings n))
unfolding observed
observed_shows c n e = an_observer (slice_get c.bindings n) (first_ok (had (length c.bindings) n) _ e).1

act_shows : (c : Plan) → Shows (act_refers c) (ActRefers c.bindings)
unfolding act_refers
act_shows c (Attach b) e = within_shows (codes "attach") (had (length c.bindings)) (λ n. n < (length c.bindings)) (had_shows (length c.bindings)) b e
act_shows c (Dispose b) e = within_shows (codes "dispose") (had (length c.bindings)) (λ n. n < (length c.bindings)) (had_shows (length c.bindings)) b e
act_shows c (Enable b) e = within_shows (codes "enable") (observed c) (λ n. IsObserver (slice_get c.bindings n)) (observed_shows c) b e
act_shows c (Disable b) e = within_shows (codes "disable") (observed c) (λ n. IsObserver (slice_get c.bindings n)) (observed_shows c) b e

action_shows : (c : Plan) → Shows (action_refers c) (ActionRefers c.bindings)
unfolding action_refers
action_shows c (actions.Act a) e = act_shows c a e
action_shows c (actions.Await n t) e = tt

answer_shows : (c : Plan) → Shows (answer_refers c) (AnswerRefers c.bindings)
unfolding answer_refers
answer_shows c a e = listed_shows (codes "first") (act_refers c) (ActRefers c.bindings) (act_shows c) a.first e

session_shows : (c : Plan) → Shows (session_refers c) (SessionRefers c.bindings)
unfolding session_refers
session_shows c s e =
    let a = first_ok (within (codes "before") (each (had (length c.bindings))) s.before) _ e in
    let b = first_ok (within (codes "actions") (each (action_refers c)) s.actions) _ a.1 in
    record {
      before = listed_shows (codes "before") (had (length c.bindings)) (λ n. n < (length c.bindings)) (had_shows (length c.bindings)) s.before a.0;
      actions = listed_shows (codes "actions") (action_refers c) (ActionRefers c.bindings) (action_shows c) s.actions b.0;
      answers = listed_shows (codes "answers") (answer_refers c) (AnswerRefers c.bindings) (answer_shows c) s.answers b.1;
    }

plan_shows : (c : Plan) → refers c ≡ Ok tt → PlanRefers c
unfolding refers
plan_shows c e =
    let a = first_ok (within (codes "exports") (each (export_refers c)) c.exports) _ e in
    let b = first_ok (within (codes "contexts") (each (context_refers c)) c.contexts) _ a.1 in
    let d = first_ok (within (codes "bindings") (each (binding_refers c)) c.bindings) _ b.1 in
    record {
      exports = listed_shows (codes "exports") (export_refers c) (λ e. e.source < (length c.sources)) (export_shows c) c.exports a.0;
      contexts = listed_shows (codes "contexts") (context_refers c) (λ x. x.source < (length c.sources)) (context_shows c) c.contexts b.0;
      bindings = listed_shows (codes "bindings") (binding_refers c) (BindingRefers (length c.sources) (length c.sessions)) (binding_shows c) c.bindings d.0;
      sessions = listed_shows (codes "sessions") (session_refers c) (SessionRefers c.bindings) (session_shows c) c.sessions d.1;
    }

referred_ok : (r : Read ⊤) (p x : Plan) → (r >> Ok p) ≡ Ok x → (r ≡ Ok tt) × (p ≡ x)
referred_ok (Ok u) p x e = (refl, cc)
referred_ok (Err r) p x e = absurd cc

-- what is read refers to what it has, and is what the walk of the value gave
plan_refers : (bytes : List ℕ) (p : Plan) → plan_at bytes ≡ Ok p → (d : Data) × (plan d ≡ Ok p) × PlanRefers p
unfolding plan_at plan_of
plan_refers bytes p e =
    let d = bind_ok (data_of bytes) plan_of p e in
    let q = bind_ok (plan d.0) _ p d.2 in
    let r = referred_ok (refers q.0) q.0 p q.2 in
    subst (λ p. (d : Data) × (plan d ≡ Ok p) × PlanRefers p) r.1 (d.0, q.1, plan_shows q.0 r.0)

-- the plans that are read are sound
pub plan_is_sound : (bytes : List ℕ) (p : Plan) → plan_at bytes ≡ Ok p → IsSound p
plan_is_sound bytes p e = let r = plan_refers bytes p e in record { fits = plan_fits r.0 p r.1; refers = r.2 }
