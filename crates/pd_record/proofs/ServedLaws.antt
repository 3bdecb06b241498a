-- A binding is served at one more event, or the event is none of its own; and one more act is done.
use Rattle.std.proofs.Common.{◌≡◌, ℕ, ◌≤◌, Bool, true, false, ◌||◌, not, List, [], ◌∷◌, ◌++◌, map, Option, None, Some, refl, sym, ap, ◌∙◌, subst, arith}
use Rattle.std.specs.Prelude.{nat_lt, IfSome}
use Rattle.std.specs.List.{list_all, list_any}
use Rattle.std.specs.Option.{option_map, option_to_list}
use Rattle.std.proofs.lemmas.Bool.{and_parts, and_from, ltb-true}
use Rattle.std.proofs.lemmas.List.{append-nil}
use Rattle.pd_tree.specs.Program.{Program}
use Rattle.pd_machine.specs.Events.{Told}
use Rattle.pd_plan.specs.declared.plan.Plan.{Plan}
use Rattle.pd_log.specs.declared.Entry.{Entry}
use Rattle.pd_board.specs.declared.answers.ActResult.{ActResult}
use Rattle.pd_board.specs.declared.answers.Known.{Known}
use Rattle.pd_board.specs.declared.answers.Known.TheVariants.{Fresh, Attached, Disposed}
use Rattle.pd_board.specs.declared.answers.Drawn.{Drawn}
use Rattle.pd_board.specs.declared.answers.Drawn.TheVariants.{On, Missed, Off}
use Rattle.pd_board.specs.Answers.{number_of, stage, is_attach}
use Rattle.pd_board.specs.Standing.{Standing}
use Rattle.pd_suspend.specs.Steps.{is_enter}
use Rattle.pd_record.specs.Logs.{answer_at, place_of, is_number, is_subject, subject_events, answers_of, moments_of, entry_of, log_of}
use Rattle.pd_record.specs.Life.{IsLife, rises, numbers_of}
use Rattle.pd_record.specs.Acts.{IsActed}
use Rattle.pd_record.specs.Seen.{is_met, is_end_met}
use Rattle.pd_record.specs.Served.{IsServed}
use Rattle.pd_record.specs.Turning.{is_earlier, is_up_to, IsTurned}
use Rattle.pd_record.specs.Step.{IsSameFor, IsAnswered, IsActStep, is_below}
use Rattle.pd_record.proofs.Lists.{list_all-any, list_all-push, list_all-filter}
use Rattle.pd_record.proofs.LifeLaws.{life-number, life-gone, life-fresh, off_then_numbers-all}
use Rattle.pd_record.proofs.ActsLaws.{acted-answer, acted-act, acted-known}
use Rattle.pd_record.proofs.Stable.{is_subject-same, answers_of-same, moments_of-same, log_of-same, ends-same, answers_of-subject, answers_of-other, moments_of-subject, moments_of-other, log_of-subject, log_of-other}

-- ---- nothing changes for a binding

pub served-same : (plan : Plan) (p : Program) (context : ℕ) (start : Known) (old new : Standing) (log : List Entry) (ts : List Told) (done : List (ℕ × ActResult)) (b : ℕ)
    → IsSameFor b old new → IsServed plan p context start old log ts done b → IsServed plan p context start new log ts done b
served-same plan p context start old new log ts done b same s =
    let any : Told → Bool = λ t. true in
    let all : list_all any ts ≡ true = list_all-any ts in
    let subjects : (t : Told) → any t ≡ true → is_subject plan p new.sights b t ≡ is_subject plan p old.sights b t =
    λ t _. is_subject-same plan p new.sights old.sights b t (same.answers t.event.opened) in
    let answers : (t : Told) → any t ≡ true → answer_at new.sights t.event.number b ≡ answer_at old.sights t.event.number b =
    λ t _. same.answers t.event.number in
    let answered : answers_of plan p new.sights ts b ≡ answers_of plan p old.sights ts b =
    answers_of-same plan p new.sights old.sights b any subjects answers ts all in
    let moments : moments_of plan p new.sights ts b ≡ moments_of plan p old.sights ts b =
    moments_of-same plan p new.sights old.sights b any subjects answers ts all in
    let logged : log_of context plan p new.sights ts b ≡ log_of context plan p old.sights ts b =
    log_of-same plan p new.sights old.sights b any subjects answers context ts all in
    record {
      life = subst (λ k. IsLife start k (answers_of plan p new.sights ts b)) (sym same.known) (subst (λ ds. IsLife start (old.known b) ds) (sym answered) s.life);
      acted = subst (λ k. IsActed plan (k ≡ Disposed) b (moments_of plan p new.sights ts b) done) (sym same.known) (subst (λ ms. IsActed plan (old.known b ≡ Disposed) b ms done) (sym moments) s.acted);
      rising = ap rises same.numbers ∙ s.rising;
      log_is = s.log_is ∙ sym logged;
      ends = ends-same plan p new.sights old.sights new.passes old.passes b any subjects same.met ts all s.ends;
      none = λ e. same.numbers ∙ s.none (sym same.known ∙ e);
    }

-- ---- an event that is none of the binding's

unsubject : (enter subject met : Bool) → subject ≡ false → (enter || not subject || met) ≡ true
unsubject true subject met h = refl
unsubject false subject met h = ap (λ x. not x || met) h

pub served-other : (plan : Plan) (p : Program) (context : ℕ) (start : Known) (s : Standing) (log : List Entry) (ts : List Told) (t : Told) (done : List (ℕ × ActResult)) (b : ℕ)
    → is_subject plan p s.sights b t ≡ false → IsServed plan p context start s log ts done b → IsServed plan p context start s log (ts ++ t ∷ []) done b
served-other plan p context start s log ts t done b h served = record {
  life = subst (λ ds. IsLife start (s.known b) ds) (sym (answers_of-other plan p s.sights ts t b h)) served.life;
  acted = subst (λ ms. IsActed plan (s.known b ≡ Disposed) b ms done) (sym (moments_of-other plan p s.sights ts t b h)) served.acted;
  rising = served.rising;
  log_is = served.log_is ∙ sym (log_of-other context plan p s.sights ts t b h);
  ends = list_all-push (is_end_met plan p s.sights s.passes b) ts t served.ends (unsubject (is_enter t.event.kind) _ _ h);
  none = served.none;
}

-- ---- an event at which the binding answers

disposed_fresh : Disposed ≡ Fresh → ⊥
disposed_fresh e = cc

met_here : (enter other met met' : Bool) → met ≡ met' → (enter || met') ≡ true → (enter || other || met) ≡ true
met_here true true met met' e h = refl
met_here true false met met' e h = refl
met_here false true met met' e h = refl
met_here false false met met' e h = e ∙ h

-- a life of a binding of which more is known
pub life-known : (start old new : Known) (ds : List Drawn) → stage old ≤ stage new → IsLife start old ds → IsLife start new ds
life-known start Fresh Fresh ds h l = l
life-known start Attached Attached ds h l = l
life-known start Disposed Disposed ds h l = l
life-known start Attached Fresh ds h l = absurd (one_zero h)
  where
    one_zero : 1 ≤ 0 → ⊥
    one_zero k = omega (arith, k)
life-known start Disposed Fresh ds h l = absurd (two_zero h)
  where
    two_zero : 2 ≤ 0 → ⊥
    two_zero k = omega (arith, k)
life-known start Disposed Attached ds h l = absurd (two_one h)
  where
    two_one : 2 ≤ 1 → ⊥
    two_one k = omega (arith, k)
life-known start Fresh Attached ds h l = record {
  given = record {
    window = l.given.window;
    lives = λ k. off_then_numbers-all ds (l.fresh refl);
    before = l.given.before;
    before_lives = λ e k. l.given.before_lives e (λ x. disposed_fresh (sym x));
  };
  fresh = λ e. absurd (attached_fresh e);
  forward = omega (arith, l.forward);
}
  where
    attached_fresh : Attached ≡ Fresh → ⊥
    attached_fresh e = cc
life-known start old Disposed ds h l = record {
  given = record {
    window = l.given.window;
    lives = λ k. absurd (k refl);
    before = l.given.before;
    before_lives = λ e k. absurd (k refl);
  };
  fresh = λ e. absurd (disposed_fresh e);
  forward = most start;
}
  where
    most : (k : Known) → stage k ≤ 2
    most Fresh = omega arith
    most Attached = omega arith
    most Disposed = omega arith

-- a number was given, and the binding is known as attached, or as disposed by that
numbered : (start old new : Known) (ds : List Drawn) (d : Drawn) → is_number d ≡ true → (new ≡ Fresh → ⊥) → (old ≡ Disposed → ⊥) → IsLife start old ds → IsLife start new (ds ++ d ∷ [])
numbered start old Fresh ds d number known alive l = absurd (known refl)
numbered start old Attached ds d number known alive l = life-number start old ds d number alive l
numbered start old Disposed ds d number known alive l = life-known start Attached Disposed (ds ++ d ∷ []) (omega arith) (life-number start old ds d number alive l)

life-turn : (plan : Plan) (b : ℕ) (done : List (ℕ × ActResult)) (start old new : Known) (ds : List Drawn) (d : Drawn) → IsTurned plan b done old d new → IsLife start old ds → IsLife start new (ds ++ d ∷ [])
life-turn plan b done start old new ds (On p) t l = numbered start old new ds (On p) refl (t.number refl) (t.alive refl) l
life-turn plan b done start old new ds (Missed p) t l = numbered start old new ds (Missed p) refl (t.number refl) (t.alive refl) l
life-turn plan b done start old Fresh ds Off t l =
    life-fresh start ds (subst (λ k. IsLife start k ds) (t.fresh refl refl) l)
life-turn plan b done start old Attached ds Off t l = absurd (attached_gone (t.off refl (λ e. cc)))
  where
    attached_gone : Attached ≡ Disposed → ⊥
    attached_gone e = cc
life-turn plan b done start old Disposed ds Off t l = life-gone start old ds l

rises-push : (ns : List ℕ) (p : ℕ) → rises ns ≡ true → list_all (λ m. nat_lt m p) ns ≡ true → rises (ns ++ p ∷ []) ≡ true
rises-push [] p h k = refl
rises-push (n ∷ ns) p h k =
    let hs = and_parts (list_all (nat_lt n) ns) (rises ns) h in
    let ks = and_parts (nat_lt n p) (list_all (λ m. nat_lt m p) ns) k in
    and_from _ _ (list_all-push (nat_lt n) ns p hs.0 ks.0) (rises-push ns p hs.1 ks.1)

rises-more : (ns : List ℕ) (o : Option ℕ) → rises ns ≡ true → IfSome o (λ p. list_all (λ m. nat_lt m p) ns ≡ true) → rises (ns ++ option_to_list o) ≡ true
rises-more ns None h k = ap rises (append-nil ns) ∙ h
rises-more ns (Some p) h k = rises-push ns p h k

numbers-none : (plan : Plan) (b : ℕ) (done : List (ℕ × ActResult)) (old new : Known) (d : Drawn) (ns : List ℕ) → IsTurned plan b done old d new → (old ≡ Fresh → ns ≡ []) → new ≡ Fresh → ns ++ option_to_list (number_of d) ≡ []
numbers-none plan b done old new Off ns t h e = append-nil ns ∙ h (t.fresh refl e)
numbers-none plan b done old new (On p) ns t h e = absurd (t.number refl e)
numbers-none plan b done old new (Missed p) ns t h e = absurd (t.number refl e)

-- the binding's moments stand before the event
moments_map : (f : Told → Bool) (g : ℕ × Drawn → Bool) (h : Told → ℕ × Drawn) → ((t : Told) → f t ≡ true → g (h t) ≡ true) → (ts : List Told) → list_all f ts ≡ true → list_all g (map h ts) ≡ true
moments_map f g h k [] e = refl
moments_map f g h k (t ∷ ts) e =
    let parts = and_parts (f t) (list_all f ts) e in
    and_from _ _ (k t parts.0) (moments_map f g h k ts parts.1)

pub moments_below : (plan : Plan) (p : Program) (s : Standing) (ts : List Told) (n b : ℕ) → list_all (is_below n) ts ≡ true → list_all (is_earlier n) (moments_of plan p s.sights ts b) ≡ true
moments_below plan p s ts n b below =
    moments_map (is_below n) (is_earlier n) (λ t. (t.event.number, answer_at s.sights t.event.number b)) (λ t h. (and_parts (nat_lt t.event.number n) _ h).0)
    (subject_events plan p s.sights ts b) (list_all-filter (is_below n) (is_subject plan p s.sights b) ts below)

pub served-answered : (plan : Plan) (p : Program) (context : ℕ) (start : Known) (old new : Standing) (log : List Entry) (ts : List Told) (t : Told) (done : List (ℕ × ActResult)) (n b : ℕ) (d : Drawn)
    → list_all (is_below n) ts ≡ true → list_all (is_earlier n) done ≡ true
    → (list_any (λ a. is_attach b a.1) done ≡ true → old.known b ≡ Fresh → ⊥)
    → t.event.number ≡ n
    → is_subject plan p new.sights b t ≡ true
    → (is_enter t.event.kind || is_met new.sights new.passes n b) ≡ true
    → IsAnswered plan done n b d old new → IsServed plan p context start old log ts done b
    → IsServed plan p context start new (log ++ option_to_list (option_map (entry_of context t.event) (place_of d))) (ts ++ t ∷ []) done b
served-answered plan p context start old new log ts t done n b d below acts_below tried number subject met a s =
    let r : Told → Bool = is_below n in
    let earlier : (t : Told) → r t ≡ true → answer_at new.sights t.event.number b ≡ answer_at old.sights t.event.number b =
    λ t h. a.earlier t.event.number (ltb-true _ _ (and_parts _ _ h).0) in
    let subjects : (t : Told) → r t ≡ true → is_subject plan p new.sights b t ≡ is_subject plan p old.sights b t =
    λ t h. is_subject-same plan p new.sights old.sights b t (a.earlier t.event.opened (ltb-true _ _ (and_parts _ _ h).1)) in
    let here : answer_at new.sights t.event.number b ≡ d = ap (λ e. answer_at new.sights e b) number ∙ a.answer in
    let answered : answers_of plan p new.sights (ts ++ t ∷ []) b ≡ answers_of plan p old.sights ts b ++ d ∷ [] =
    answers_of-subject plan p new.sights ts t b subject
    ∙ ap (λ x. x ++ answer_at new.sights t.event.number b ∷ []) (answers_of-same plan p new.sights old.sights b r subjects earlier ts below)
    ∙ ap (λ x. answers_of plan p old.sights ts b ++ x ∷ []) here in
    let moments : moments_of plan p new.sights (ts ++ t ∷ []) b ≡ moments_of plan p old.sights ts b ++ (n, d) ∷ [] =
    moments_of-subject plan p new.sights ts t b subject
    ∙ ap (λ x. x ++ (t.event.number, answer_at new.sights t.event.number b) ∷ []) (moments_of-same plan p new.sights old.sights b r subjects earlier ts below)
    ∙ ap (λ x. moments_of plan p old.sights ts b ++ (t.event.number, x) ∷ []) here
    ∙ ap (λ x. moments_of plan p old.sights ts b ++ (x, d) ∷ []) number in
    let logged : log_of context plan p new.sights (ts ++ t ∷ []) b ≡ log_of context plan p old.sights ts b ++ option_to_list (option_map (entry_of context t.event) (place_of d)) =
    log_of-subject context plan p new.sights ts t b subject
    ∙ ap (λ x. x ++ option_to_list (option_map (entry_of context t.event) (place_of (answer_at new.sights t.event.number b))))
    (log_of-same plan p new.sights old.sights b r subjects earlier context ts below)
    ∙ ap (λ x. log_of context plan p old.sights ts b ++ option_to_list (option_map (entry_of context t.event) (place_of x))) here in
    let ended : list_all (is_end_met plan p new.sights new.passes b) ts ≡ true =
    ends-same plan p new.sights old.sights new.passes old.passes b r subjects a.met ts below s.ends in
    record {
      life = subst (λ ds. IsLife start (new.known b) ds) (sym answered) (life-turn plan b done start (old.known b) (new.known b) _ d a.turns s.life);
      acted = subst (λ ms. IsActed plan (new.known b ≡ Disposed) b ms done) (sym moments)
          (acted-answer plan b n (moments_of plan p old.sights ts b) done (old.known b) (new.known b) d (moments_below plan p old ts n b below) acts_below tried a.turns s.acted);
      rising = ap rises a.numbers ∙ rises-more _ (number_of d) s.rising a.above;
      log_is = ap (λ x. x ++ option_to_list (option_map (entry_of context t.event) (place_of d))) s.log_is ∙ sym logged;
      ends = list_all-push (is_end_met plan p new.sights new.passes b) ts t ended
          (met_here (is_enter t.event.kind) (not (is_subject plan p new.sights b t)) (is_met new.sights new.passes t.event.number b) (is_met new.sights new.passes n b)
          (ap (λ e. is_met new.sights new.passes e b) number) met);
      none = λ e. a.numbers ∙ numbers-none plan b done (old.known b) (new.known b) d (numbers_of old.sights b) a.turns s.none e;
    }

-- ---- an act

pub fresh_only : (old new : Known) → stage old ≤ stage new → new ≡ Fresh → old ≡ Fresh
fresh_only Fresh new h e = refl
fresh_only Attached new h e = absurd (one (subst (λ k. 1 ≤ stage k) e h))
  where
    one : 1 ≤ 0 → ⊥
    one k = omega (arith, k)
fresh_only Disposed new h e = absurd (two (subst (λ k. 2 ≤ stage k) e h))
  where
    two : 2 ≤ 0 → ⊥
    two k = omega (arith, k)

pub served-act : (plan : Plan) (p : Program) (context : ℕ) (start : Known) (old new : Standing) (log : List Entry) (ts : List Told) (done : List (ℕ × ActResult)) (n b : ℕ) (r : ActResult)
    → list_all (is_up_to n) (moments_of plan p old.sights ts b) ≡ true
    → IsActStep plan p ts done r old new → IsServed plan p context start old log ts done b
    → IsServed plan p context start new log ts (done ++ (n, r) ∷ []) b
served-act plan p context start old new log ts done n b r early act s = record {
  log_is = s.log_is ∙ ap (λ ss. log_of context plan p ss ts b) (sym act.sights);
  life = subst (λ ss. IsLife start (new.known b) (answers_of plan p ss ts b)) (sym act.sights) (life-known start (old.known b) (new.known b) _ (act.forward b) s.life);
  acted = subst (λ ss. IsActed plan (new.known b ≡ Disposed) b (moments_of plan p ss ts b) (done ++ (n, r) ∷ [])) (sym act.sights)
      (acted-act plan b n (moments_of plan p old.sights ts b) done (old.known b) (new.known b) r early (act.is_done b) s.acted);
  rising = ap (λ ss. rises (numbers_of ss b)) act.sights ∙ s.rising;
  none = λ e. ap (λ ss. numbers_of ss b) act.sights ∙ s.none (fresh_only (old.known b) (new.known b) (act.forward b) e);
  ends = ap (λ ss. list_all (is_end_met plan p ss new.passes b) ts) act.sights ∙ ap (λ ps. list_all (is_end_met plan p old.sights ps b) ts) act.passes ∙ s.ends;
}

-- ---- more is known of the binding

disposed_stays : (old new : Known) → stage old ≤ stage new → old ≡ Disposed → new ≡ Disposed
disposed_stays old Disposed h e = refl
disposed_stays old Attached h e = absurd (two (subst (λ k. stage k ≤ 1) e h))
  where
    two : 2 ≤ 1 → ⊥
    two k = omega (arith, k)
disposed_stays old Fresh h e = absurd (two (subst (λ k. stage k ≤ 0) e h))
  where
    two : 2 ≤ 0 → ⊥
    two k = omega (arith, k)

pub served-known : (plan : Plan) (p : Program) (context : ℕ) (start : Known) (old new : Standing) (log : List Entry) (ts : List Told) (done : List (ℕ × ActResult)) (b : ℕ)
    → new.sights ≡ old.sights → new.passes ≡ old.passes → stage (old.known b) ≤ stage (new.known b)
    → IsServed plan p context start old log ts done b → IsServed plan p context start new log ts done b
served-known plan p context start old new log ts done b sights passes forward s = record {
  log_is = s.log_is ∙ ap (λ ss. log_of context plan p ss ts b) (sym sights);
  life = subst (λ ss. IsLife start (new.known b) (answers_of plan p ss ts b)) (sym sights) (life-known start (old.known b) (new.known b) _ forward s.life);
  acted = subst (λ ss. IsActed plan (new.known b ≡ Disposed) b (moments_of plan p ss ts b) done) (sym sights)
      (acted-known plan b (moments_of plan p old.sights ts b) done (old.known b) (new.known b) (disposed_stays (old.known b) (new.known b) forward) s.acted);
  rising = ap (λ ss. rises (numbers_of ss b)) sights ∙ s.rising;
  none = λ e. ap (λ ss. numbers_of ss b) sights ∙ s.none (fresh_only (old.known b) (new.known b) forward e);
  ends = ap (λ ss. list_all (is_end_met plan p ss new.passes b) ts) sights ∙ ap (λ ps. list_all (is_end_met plan p old.sights ps b) ts) passes ∙ s.ends;
}
