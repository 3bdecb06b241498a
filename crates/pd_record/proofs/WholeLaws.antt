-- The record of a context at its end, and what an event adds to the board's answers.
use Rattle.std.proofs.Common.{◌≡◌, ℕ, Bool, true, false, not, cond, List, [], ◌∷◌, ◌++◌, map, length, refl, sym, ap, ◌∙◌, subst, arith}
use Rattle.std.specs.Prelude.{filter, flat_map, nat_le, nat_lt, ◌==◌}
use Rattle.std.specs.List.{list_all, filter_map, cons_option}
use Rattle.std.proofs.lemmas.Bool.{and_parts, and_left, cond-false, ltb-true, leb-true, ne_eqb}
use Rattle.std.proofs.lemmas.List.{append-nil}
use Rattle.std.proofs.lemmas.List.Elements.{filter-append, filter_map-append}
use Rattle.std.proofs.lemmas.Grind.{flat_map-append}
use Rattle.pd_record.proofs.Lists.{list_all-weaker}
use Rattle.pd_tree.specs.Program.{Program}
use Rattle.pd_machine.specs.Events.{Told}
use Rattle.pd_plan.specs.declared.plan.Plan.{Plan}
use Rattle.pd_board.specs.declared.answers.ActResult.{ActResult}
use Rattle.pd_board.specs.declared.answers.Sight.{Sight}
use Rattle.pd_board.specs.Standing.{Standing}
use Rattle.pd_suspend.specs.declared.suspension.Suspension.{Suspension}
use Rattle.pd_suspend.specs.Stops.{verdicts_of}
use Rattle.pd_suspend.specs.Answers.{acts_of}
use Rattle.pd_suspend.specs.declared.context.ContextRecord.{ContextRecord}
use Rattle.pd_record.specs.Acts.{uses_up}
use Rattle.pd_record.specs.Replies.{used_up_by, Owed, of_act, of_hit, owed_at, owed_of}
use Rattle.pd_log.specs.declared.Entry.{Entry}
use Rattle.pd_board.specs.declared.answers.Drawn.{Drawn}
use Rattle.pd_board.specs.declared.answers.Known.{Known}
use Rattle.pd_board.specs.declared.answers.Known.TheVariants.{Attached, Disposed}
use Rattle.pd_board.specs.OnContext.{IsGivenOn, IsLifeOn}
use Rattle.pd_record.specs.Logs.{answer_at, moments_of, subject_events}
use Rattle.pd_record.specs.Life.{numbers_of}
use Rattle.pd_record.specs.Served.{IsServed}
use Rattle.pd_record.specs.Record.{IsObserved}
use Rattle.pd_record.specs.Serving.{IsCurrent}

-- ---- what was observed

pub observed-all : (plan : Plan) (p : Program) (context n : ℕ) (start now : Standing) (events : List Told) (r : ContextRecord)
    → r.seen ≡ now.sights → length r.logs ≡ length plan.bindings
    → IsCurrent plan p context start.known n events (acts_of r.stops) now r.logs → IsObserved plan p context start now events r
observed-all plan p context n start now events r seen count i = record {
  seen = seen;
  sights = i.seen;
  count = count;
  served = λ b h. i.served b;
}

-- ---- a binding's life

answers-are : (plan : Plan) (p : Program) (seen : List Sight) (b : ℕ) (ts : List Told)
    → map (λ (t : Told). answer_at seen t.event.number b) ts ≡ map (λ (m : ℕ × Drawn). m.1) (map (λ (t : Told). (t.event.number, answer_at seen t.event.number b)) ts)
answers-are plan p seen b [] = refl
answers-are plan p seen b (t ∷ ts) = ap (λ ds. answer_at seen t.event.number b ∷ ds) (answers-are plan p seen b ts)

-- a binding that was served has the life of a binding on one context
pub life-on : (plan : Plan) (p : Program) (context : ℕ) (start : Known) (s : Standing) (log : List Entry) (events : List Told) (done : List (ℕ × ActResult)) (b : ℕ)
    → IsServed plan p context start s log events done b
    → IsLifeOn (uses_up plan b) (start ≡ Attached) (s.known b ≡ Disposed) b (numbers_of s.sights b) (moments_of plan p s.sights events b) done
life-on plan p context start s log events done b i = record {
  given = subst (IsGivenOn (start ≡ Attached) (s.known b ≡ Disposed)) (answers-are plan p s.sights b (subject_events plan p s.sights events b)) i.life.given;
  acted = i.acted.on;
  rising = i.rising;
}

-- ---- the board's answers

pub unused : (plan : Plan) (e : ℕ) (ss : List Sight) → list_all (λ s. not (s.event == e)) ss ≡ true → filter_map (used_up_by plan e) ss ≡ []
unused plan e [] h = refl
unused plan e (s ∷ ss) h =
    let parts = and_parts (not (s.event == e)) (list_all (λ x. not (x.event == e)) ss) h in
    ap (λ o. cons_option o (filter_map (used_up_by plan e) ss)) (cond-false _ _ _ (and_left (s.event == e) (uses_up plan s.binding s.drawn) (is_not (s.event == e) parts.0)))
    ∙ unused plan e ss parts.1
  where
    is_not : (b : Bool) → not b ≡ true → b ≡ false
    is_not true k = cc
    is_not false k = refl

pub undone : (e : ℕ) (done : List (ℕ × ActResult)) → list_all (λ a. not (a.0 == e)) done ≡ true → filter (λ a. a.0 == e) done ≡ []
undone e [] h = refl
undone e (a ∷ rest) h =
    let parts = and_parts (not (a.0 == e)) (list_all (λ x. not (x.0 == e)) rest) h in
    skip (a.0 == e) parts.0 ∙ undone e rest parts.1
  where
    skip : (b : Bool) → not b ≡ true → cond b (a ∷ filter (λ x. x.0 == e) rest) (filter (λ x. x.0 == e) rest) ≡ filter (λ x. x.0 == e) rest
    skip true k = cc
    skip false k = refl

-- what an event adds stays, whatever is seen and done at other events after it
pub owed_at-later : (plan : Plan) (seen new : List Sight) (stops more : List Suspension) (e : ℕ)
    → list_all (λ s. not (s.event == e)) new ≡ true → list_all (λ a. not (a.0 == e)) (acts_of more) ≡ true
    → owed_at plan (seen ++ new) (stops ++ more) e ≡ owed_at plan seen stops e
owed_at-later plan seen new stops more e h k =
    let used : filter_map (used_up_by plan e) (seen ++ new) ≡ filter_map (used_up_by plan e) seen =
    filter_map-append (used_up_by plan e) seen new ∙ ap (λ x. filter_map (used_up_by plan e) seen ++ x) (unused plan e new h) ∙ append-nil (filter_map (used_up_by plan e) seen) in
    let did : acts_of (stops ++ more) ≡ acts_of stops ++ acts_of more = flat_map-append (λ x. map (λ r. (x.event, r)) x.acts) stops more in
    let done : filter (λ a. a.0 == e) (acts_of (stops ++ more)) ≡ filter (λ a. a.0 == e) (acts_of stops) =
    ap (filter (λ a. a.0 == e)) did ∙ filter-append (λ a. a.0 == e) (acts_of stops) (acts_of more)
    ∙ ap (λ x. filter (λ a. a.0 == e) (acts_of stops) ++ x) (undone e (acts_of more) k) ∙ append-nil (filter (λ a. a.0 == e) (acts_of stops)) in
    ap (λ x. map of_hit x ++ map (λ a. of_act a.1) (filter (λ a. a.0 == e) (acts_of (stops ++ more)))) used
    ∙ ap (λ x. map of_hit (filter_map (used_up_by plan e) seen) ++ map (λ a. of_act a.1) x) done

later_event : (e n m : ℕ) → nat_lt e n ≡ true → nat_le n m ≡ true → not (m == e) ≡ true
later_event e n m h k = ap not (ne_eqb m e (λ x. omega (arith, ltb-true e n h, leb-true n m k, x)))

flat-one : {X : Type 0} (f : Told → List X) (t : Told) → flat_map f (t ∷ []) ≡ f t
flat-one f t = append-nil (f t)

flat-same : {X : Type 0} (f g : Told → List X) (r : Told → Bool) → ((t : Told) → r t ≡ true → f t ≡ g t) → (ts : List Told) → list_all r ts ≡ true → flat_map f ts ≡ flat_map g ts
flat-same f g r same [] h = refl
flat-same f g r same (t ∷ ts) h =
    let parts = and_parts (r t) (list_all r ts) h in
    flat_map-append f (t ∷ []) ts ∙ ap (λ x. x ++ flat_map f ts) (flat-one f t ∙ same t parts.0 ∙ sym (flat-one g t))
    ∙ ap (λ x. flat_map g (t ∷ []) ++ x) (flat-same f g r same ts parts.1) ∙ sym (flat_map-append g (t ∷ []) ts)

-- what the events before number n add stays, whatever is seen and done from n on
pub owed_of-later : (plan : Plan) (seen new : List Sight) (stops more : List Suspension) (ts : List Told) (n : ℕ)
    → list_all (λ u. nat_lt u.event.number n) ts ≡ true
    → list_all (λ s. nat_le n s.event) new ≡ true → list_all (λ a. nat_le n a.0) (acts_of more) ≡ true
    → owed_of plan (seen ++ new) (stops ++ more) ts ≡ owed_of plan seen stops ts
owed_of-later plan seen new stops more ts n below h k =
    flat-same (λ u. owed_at plan (seen ++ new) (stops ++ more) u.event.number) (λ u. owed_at plan seen stops u.event.number) (λ u. nat_lt u.event.number n)
    (λ u e. owed_at-later plan seen new stops more u.event.number
    (list_all-weaker (λ s. nat_le n s.event) (λ s. not (s.event == u.event.number)) (λ s m. later_event u.event.number n s.event e m) new h)
    (list_all-weaker (λ a. nat_le n a.0) (λ a. not (a.0 == u.event.number)) (λ a m. later_event u.event.number n a.0 e m) (acts_of more) k)) ts below

-- an event n adds the disposals of what it used up, and what its acts were answered; what was seen and done there stands behind the rest
pub owed_of-next : (plan : Plan) (seen new : List Sight) (stops more : List Suspension) (ts : List Told) (t : Told) (n : ℕ)
    → list_all (λ u. nat_lt u.event.number n) ts ≡ true
    → list_all (λ s. nat_le n s.event) new ≡ true → list_all (λ a. nat_le n a.0) (acts_of more) ≡ true
    → owed_of plan (seen ++ new) (stops ++ more) (ts ++ t ∷ [])
    ≡ owed_of plan seen stops ts ++ owed_at plan (seen ++ new) (stops ++ more) t.event.number
owed_of-next plan seen new stops more ts t n below h k =
    let after : Told → List Owed = λ u. owed_at plan (seen ++ new) (stops ++ more) u.event.number in
    flat_map-append after ts (t ∷ [])
    ∙ ap (λ x. x ++ flat_map after (t ∷ [])) (owed_of-later plan seen new stops more ts n below h k)
    ∙ ap (λ x. owed_of plan seen stops ts ++ x) (flat-one after t)

-- ---- verdicts

pub verdicts_of-push : (stops : List Suspension) (x : Suspension) → verdicts_of (stops ++ x ∷ []) ≡ verdicts_of stops ++ verdicts_of (x ∷ [])
verdicts_of-push stops x = filter_map-append _ stops (x ∷ [])
