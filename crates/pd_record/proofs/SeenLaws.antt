-- What was seen, with one more event, one more thing seen, or one more pass.
use Rattle.std.proofs.Common.{◌≡◌, ℕ, ◌<◌, ◌+◌, Bool, true, false, ◌&&◌, ◌||◌, not, cond, List, [], ◌∷◌, ◌++◌, map, refl, sym, ap, ◌∙◌, ⊎_elim, arith, eqb-true}
use Rattle.std.specs.Prelude.{if◌then◌else◌, nat_lt, nat_le, ◌==◌}
use Rattle.std.specs.List.{list_all, list_any}
use Rattle.std.proofs.lemmas.Bool.{and_parts, and_from, and_left, and_right, or_left, or_cases, or_from, cond-false, ltb-true, lt-leb, ne_eqb}
use Rattle.std.proofs.Math.Bool.{and-true}
use Rattle.std.proofs.lemmas.List.{map-append}
use Rattle.std.proofs.lemmas.List.Folds.{list_any-append}
use Rattle.pd_machine.specs.Events.{Told}
use Rattle.pd_tree.specs.Program.{Program}
use Rattle.pd_plan.specs.declared.plan.Plan.{Plan}
use Rattle.pd_board.specs.declared.answers.Sight.{Sight}
use Rattle.pd_board.specs.declared.answers.Passed.{Passed}
use Rattle.pd_suspend.specs.Steps.{is_enter}
use Rattle.pd_record.specs.Logs.{is_of, is_subject, is_refused_by}
use Rattle.pd_record.specs.Seen.{is_before, in_order, enters, enters_to, is_subject_at, is_subject_end_at, is_refused_at, is_due_pass, IsSeen}
use Rattle.pd_record.specs.Step.{is_below}
use Rattle.pd_record.proofs.Lists.{list_all-weaker, list_all-push, list_any-same, map-same, count_by-push, count_by-same}
use Rattle.pd_record.proofs.Stable.{answer-other, is_subject-same, is_subject-enter}

-- ---- counts of Enters

pub enters-more : (ts : List Told) (t : Told) → enters (ts ++ t ∷ []) ≡ enters ts + cond (is_enter t.event.kind) 1 0
enters-more ts t = count_by-push (λ x. is_enter x.event.kind) ts t

-- a later event doesn't count
pub enters_to-later : (e : ℕ) (ts : List Told) (t : Told) → e < t.event.number → enters_to e (ts ++ t ∷ []) ≡ enters_to e ts
enters_to-later e ts t h =
    let test = λ (x : Told). is_enter x.event.kind && nat_le x.event.number e in
    let pushed : enters_to e (ts ++ t ∷ []) ≡ enters_to e ts + cond (test t) 1 0 = count_by-push test ts t in
    let none : test t ≡ false = and_right (is_enter t.event.kind) (nat_le t.event.number e) (lt-leb t.event.number e h) in
    omega (arith, pushed, cond-false {A = ℕ} (test t) 1 0 none)

-- where all events are at or before this one, all Enters count
pub enters_to-all : (e : ℕ) (ts : List Told) → list_all (λ t. nat_le t.event.number e) ts ≡ true → enters_to e ts ≡ enters ts
enters_to-all e ts h =
    count_by-same (λ t. nat_le t.event.number e) (λ t. is_enter t.event.kind && nat_le t.event.number e) (λ t. is_enter t.event.kind)
    (λ t k. ap (λ b. is_enter t.event.kind && b) k ∙ and-true (is_enter t.event.kind)) ts h

-- ---- one more event

subject_at-more : (plan : Plan) (p : Program) (ss : List Sight) (ts : List Told) (t : Told) (e b : ℕ) → is_subject_at plan p ss ts e b ≡ true → is_subject_at plan p ss (ts ++ t ∷ []) e b ≡ true
subject_at-more plan p ss ts t e b h = list_any-append _ ts (t ∷ []) ∙ or_left _ _ h

subject_end_at-more : (plan : Plan) (p : Program) (ss : List Sight) (ts : List Told) (t : Told) (e b : ℕ) → is_subject_end_at plan p ss ts e b ≡ true → is_subject_end_at plan p ss (ts ++ t ∷ []) e b ≡ true
subject_end_at-more plan p ss ts t e b h = list_any-append _ ts (t ∷ []) ∙ or_left _ _ h

-- what is found among events below n is below n
any_below : (f : Told → Bool) (e n : ℕ) → ((t : Told) → f t ≡ true → t.event.number ≡ e) → (ts : List Told) → list_any f ts ≡ true → list_all (is_below n) ts ≡ true → nat_lt e n ≡ true
any_below f e n number [] h k = cc
any_below f e n number (t ∷ ts) h k =
    let ks = and_parts (is_below n t) (list_all (is_below n) ts) k in
    ⊎_elim
    (λ (here : f t ≡ true). ap (λ m. nat_lt m n) (sym (number t here)) ∙ (and_parts (nat_lt t.event.number n) (nat_lt t.event.opened n) ks.0).0)
    (λ (later : list_any f ts ≡ true). any_below f e n number ts later ks.1)
    (or_cases (f t) (list_any f ts) h)

pub subject_below : (plan : Plan) (p : Program) (ss : List Sight) (ts : List Told) (n e b : ℕ) → list_all (is_below n) ts ≡ true → is_subject_at plan p ss ts e b ≡ true → nat_lt e n ≡ true
subject_below plan p ss ts n e b below h =
    any_below (λ t. (t.event.number == e) && is_subject plan p ss b t) e n (λ t k. eqb-true _ _ (and_parts (t.event.number == e) _ k).0) ts h below

pub subject_end_below : (plan : Plan) (p : Program) (ss : List Sight) (ts : List Told) (n e b : ℕ) → list_all (is_below n) ts ≡ true → is_subject_end_at plan p ss ts e b ≡ true → nat_lt e n ≡ true
subject_end_below plan p ss ts n e b below h =
    any_below (λ t. (t.event.number == e) && not (is_enter t.event.kind) && is_subject plan p ss b t) e n
    (λ t k. eqb-true _ _ (and_parts (t.event.number == e) _ (and_parts ((t.event.number == e) && not (is_enter t.event.kind)) _ k).0).0) ts h below

refused_below : (plan : Plan) (p : Program) (ts : List Told) (n e b : ℕ) → list_all (is_below n) ts ≡ true → is_refused_at plan p ts e b ≡ true → nat_lt e n ≡ true
refused_below plan p ts n e b below h =
    any_below (λ t. (t.event.number == e) && is_enter t.event.kind && is_refused_by plan p b t) e n
    (λ t k. eqb-true _ _ (and_parts (t.event.number == e) _ (and_parts ((t.event.number == e) && is_enter t.event.kind) _ k).0).0) ts h below

refused_at-more : (plan : Plan) (p : Program) (ts : List Told) (t : Told) (e b : ℕ) → is_refused_at plan p ts e b ≡ true → is_refused_at plan p (ts ++ t ∷ []) e b ≡ true
refused_at-more plan p ts t e b h = list_any-append _ ts (t ∷ []) ∙ or_left _ _ h

either_more : (c x y x' y' : Bool) → (x ≡ true → x' ≡ true) → (y ≡ true → y' ≡ true) → (if c then x else y) ≡ true → (if c then x' else y') ≡ true
either_more true x y x' y' f g h = f h
either_more false x y x' y' f g h = g h

either_below : (c x y z : Bool) → (x ≡ true → z ≡ true) → (y ≡ true → z ≡ true) → (if c then x else y) ≡ true → z ≡ true
either_below true x y z f g h = f h
either_below false x y z f g h = g h

-- what was seen before n
pub seen_below : (plan : Plan) (p : Program) (ts : List Told) (n : ℕ) (ss : List Sight) (after : List ℕ) (passed : List Passed) (loaded : ℕ → ℕ)
    → list_all (is_below n) ts ≡ true → IsSeen plan p ts ss after passed loaded → list_all (λ s. nat_lt s.event n) ss ≡ true
seen_below plan p ts n ss after passed loaded below i =
    list_all-weaker (λ s. is_subject_at plan p ss ts s.event s.binding) (λ s. nat_lt s.event n) (λ s h. subject_below plan p ss ts n s.event s.binding below h) ss i.subjects

pub seen-event : (plan : Plan) (p : Program) (ts : List Told) (t : Told) (n : ℕ) (ss : List Sight) (after : List ℕ) (passed : List Passed) (loaded reloaded : ℕ → ℕ)
    → list_all (is_below n) ts ≡ true → t.event.number ≡ n
    → ((m : ℕ) → reloaded m ≡ loaded m + cond (is_enter t.event.kind && (m == t.event.node)) 1 0)
    → IsSeen plan p ts ss after passed loaded → IsSeen plan p (ts ++ t ∷ []) ss after passed reloaded
seen-event plan p ts t n ss after passed loaded reloaded below number counted i =
    let later : (e : ℕ) → nat_lt e n ≡ true → enters_to e (ts ++ t ∷ []) ≡ enters_to e ts =
    λ e h. enters_to-later e ts t (omega (arith, ltb-true e n h)) in
    record {
      order = i.order;
      subjects = list_all-weaker (λ s. is_subject_at plan p ss ts s.event s.binding) (λ s. is_subject_at plan p ss (ts ++ t ∷ []) s.event s.binding)
          (λ s h. subject_at-more plan p ss ts t s.event s.binding h) ss i.subjects;
      loads = λ m. counted m ∙ ap (λ x. x + cond (is_enter t.event.kind && (m == t.event.node)) 1 0) (i.loads m)
          ∙ sym (count_by-push (λ x. is_enter x.event.kind && (m == x.event.node)) ts t);
      loads_before = i.loads_before ∙ map-same (λ s. nat_lt s.event n) (λ s. enters_to s.event ts) (λ s. enters_to s.event (ts ++ t ∷ []))
          (λ s h. sym (later s.event h)) ss (seen_below plan p ts n ss after passed loaded below i);
      passes = list_all-weaker (is_due_pass plan p ss ts) (is_due_pass plan p ss (ts ++ t ∷ []))
          (λ x h.
          let outer = and_parts (if x.disposed then is_subject_end_at plan p ss ts x.event x.binding else is_refused_at plan p ts x.event x.binding) (x.before == enters_to x.event ts) h in
          and_from _ _ (either_more x.disposed _ _ _ _ (subject_end_at-more plan p ss ts t x.event x.binding) (refused_at-more plan p ts t x.event x.binding) outer.0)
          (ap (λ m. x.before == m) (later x.event (either_below x.disposed _ _ _ (subject_end_below plan p ss ts n x.event x.binding below) (refused_below plan p ts n x.event x.binding below) outer.0)) ∙ outer.1))
          passed i.passes;
    }

-- ---- one more thing seen

in_order-push : (ss : List Sight) (s : Sight) → in_order ss ≡ true → list_all (is_before s.event s.binding) ss ≡ true → in_order (ss ++ s ∷ []) ≡ true
in_order-push [] s h k = refl
in_order-push (x ∷ xs) s h k =
    let hs = and_parts (list_all (λ t. is_before t.event t.binding x) xs) (in_order xs) h in
    let ks = and_parts (is_before s.event s.binding x) (list_all (is_before s.event s.binding) xs) k in
    and_from _ _ (list_all-push (λ t. is_before t.event t.binding x) xs s hs.0 ks.0) (in_order-push xs s hs.1 ks.1)

-- what is seen at an event changes nothing for the subject events up to there
pub subject-kept : (plan : Plan) (p : Program) (ss : List Sight) (s : Sight) (b : ℕ) (t : Told) → (is_enter t.event.kind || nat_lt t.event.opened s.event) ≡ true
    → is_subject plan p (ss ++ s ∷ []) b t ≡ is_subject plan p ss b t
subject-kept plan p ss s b t h =
    ⊎_elim
    (λ (enter : is_enter t.event.kind ≡ true). is_subject-enter plan p (ss ++ s ∷ []) ss b t enter)
    (λ (opened : nat_lt t.event.opened s.event ≡ true).
    is_subject-same plan p (ss ++ s ∷ []) ss b t
    (answer-other ss s t.event.opened b (and_left _ _ (ne_eqb s.event t.event.opened (λ e. omega (arith, ltb-true t.event.opened s.event opened, e))))))
    (or_cases (is_enter t.event.kind) (nat_lt t.event.opened s.event) h)

pub seen-sight : (plan : Plan) (p : Program) (ts : List Told) (ss : List Sight) (s : Sight) (after : List ℕ) (l : ℕ) (passed : List Passed) (loaded : ℕ → ℕ)
    → list_all (λ t. is_enter t.event.kind || nat_lt t.event.opened s.event) ts ≡ true
    → list_all (is_before s.event s.binding) ss ≡ true
    → is_subject_at plan p ss ts s.event s.binding ≡ true
    → l ≡ enters_to s.event ts
    → IsSeen plan p ts ss after passed loaded → IsSeen plan p ts (ss ++ s ∷ []) (after ++ l ∷ []) passed loaded
seen-sight plan p ts ss s after l passed loaded opens before subject count i =
    let r : Told → Bool = λ t. is_enter t.event.kind || nat_lt t.event.opened s.event in
    let same : (e b : ℕ) → is_subject_at plan p (ss ++ s ∷ []) ts e b ≡ is_subject_at plan p ss ts e b =
    λ e b. list_any-same r (λ t. (t.event.number == e) && is_subject plan p (ss ++ s ∷ []) b t) (λ t. (t.event.number == e) && is_subject plan p ss b t)
    (λ t k. ap (λ x. (t.event.number == e) && x) (subject-kept plan p ss s b t k)) ts opens in
    let ends : (e b : ℕ) → is_subject_end_at plan p (ss ++ s ∷ []) ts e b ≡ is_subject_end_at plan p ss ts e b =
    λ e b. list_any-same r (λ t. (t.event.number == e) && not (is_enter t.event.kind) && is_subject plan p (ss ++ s ∷ []) b t)
    (λ t. (t.event.number == e) && not (is_enter t.event.kind) && is_subject plan p ss b t)
    (λ t k. ap (λ x. (t.event.number == e) && not (is_enter t.event.kind) && x) (subject-kept plan p ss s b t k)) ts opens in
    record {
      order = in_order-push ss s i.order before;
      subjects = list_all-push (λ x. is_subject_at plan p (ss ++ s ∷ []) ts x.event x.binding) ss s
          (list_all-weaker (λ x. is_subject_at plan p ss ts x.event x.binding) (λ x. is_subject_at plan p (ss ++ s ∷ []) ts x.event x.binding)
          (λ x h. same x.event x.binding ∙ h) ss i.subjects)
          (same s.event s.binding ∙ subject);
      loads = i.loads;
      loads_before = ap (λ x. x ++ l ∷ []) i.loads_before ∙ ap (λ x. map (λ s. enters_to s.event ts) ss ++ x ∷ []) count
          ∙ sym (map-append (λ s. enters_to s.event ts) ss (s ∷ []));
      passes = list_all-weaker (is_due_pass plan p ss ts) (is_due_pass plan p (ss ++ s ∷ []) ts)
          (λ x h. ap (λ y. (if x.disposed then y else is_refused_at plan p ts x.event x.binding) && (x.before == enters_to x.event ts)) (ends x.event x.binding) ∙ h) passed i.passes;
    }

-- ---- one more pass

pub seen-pass : (plan : Plan) (p : Program) (ts : List Told) (ss : List Sight) (after : List ℕ) (passed : List Passed) (x : Passed) (loaded : ℕ → ℕ)
    → is_due_pass plan p ss ts x ≡ true → IsSeen plan p ts ss after passed loaded → IsSeen plan p ts ss after (passed ++ x ∷ []) loaded
seen-pass plan p ts ss after passed x loaded due i = record {
  order = i.order;
  subjects = i.subjects;
  loads = i.loads;
  loads_before = i.loads_before;
  passes = list_all-push (is_due_pass plan p ss ts) passed x i.passes due;
}

not_itself : (n b : ℕ) (s : Sight) → is_before n b s ≡ true → is_of n b s ≡ false
not_itself n b s h =
    ⊎_elim
    (λ (earlier : nat_lt s.event n ≡ true). and_left _ _ (ne_eqb s.event n (λ e. omega (arith, ltb-true s.event n earlier, e))))
    (λ (lower : ((s.event == n) && nat_lt s.binding b) ≡ true).
    and_right _ _ (ne_eqb s.binding b (λ e. omega (arith, ltb-true s.binding b (and_parts (s.event == n) (nat_lt s.binding b) lower).1, e))))
    (or_cases (nat_lt s.event n) ((s.event == n) && nat_lt s.binding b) h)

-- ---- what comes before an event, or before a binding at it

pub before_event : (n b : ℕ) (ss : List Sight) → list_all (λ s. nat_lt s.event n) ss ≡ true → list_all (is_before n b) ss ≡ true
before_event n b ss h = list_all-weaker (λ s. nat_lt s.event n) (is_before n b) (λ s k. or_left _ _ k) ss h

pub unseen_before : (n b : ℕ) (ss : List Sight) → list_all (is_before n b) ss ≡ true → list_any (is_of n b) ss ≡ false
unseen_before n b [] h = refl
unseen_before n b (s ∷ ss) h =
    let parts = and_parts (is_before n b s) (list_all (is_before n b) ss) h in
    or_from _ _ (not_itself n b s parts.0) (unseen_before n b ss parts.1)
