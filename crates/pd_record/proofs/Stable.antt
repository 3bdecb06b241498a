-- What the answers at some events depend on.
use Rattle.std.proofs.Common.{◌≡◌, ℕ, Bool, true, false, ◌&&◌, ◌||◌, not, List, [], ◌∷◌, ◌++◌, map, Option, None, Some, refl, sym, ap, ◌∙◌}
use Rattle.std.specs.Prelude.{filter, if◌then◌else◌}
use Rattle.std.specs.List.{list_all, list_any, filter_map, cons_option}
use Rattle.std.specs.Option.{option_map, option_to_list}
use Rattle.std.proofs.lemmas.Bool.{or_parts, cond-true, cond-false}
use Rattle.std.proofs.lemmas.List.{append-nil, map-append}
use Rattle.std.proofs.lemmas.List.Elements.{filter-append, filter_map-append}
use Rattle.pd_machine.specs.Events.{Told}
use Rattle.pd_tree.specs.Program.{Program}
use Rattle.pd_plan.specs.declared.plan.Plan.{Plan}
use Rattle.pd_break.specs.Hits.{is_observer}
use Rattle.pd_log.specs.declared.Entry.{Entry}
use Rattle.pd_board.specs.declared.answers.Drawn.TheVariants.{Off}
use Rattle.pd_board.specs.declared.answers.Sight.{Sight}
use Rattle.pd_board.specs.declared.answers.Passed.{Passed}
use Rattle.pd_suspend.specs.Steps.{is_enter}
use Rattle.pd_record.specs.Logs.{is_of, answer_at, place_of, is_on, is_met_by, has_binding, is_subject, moments_of, subject_events, answers_of, entry_of, delivery, log_of}
use Rattle.pd_record.specs.Seen.{is_met, is_end_met}
use Rattle.pd_record.proofs.Lists.{list_all-filter, filter-same, map-same, filter_map-same, list_all-weaker_where}

-- ---- one more thing seen

pub answer-other : (ss : List Sight) (s : Sight) (e b : ℕ) → is_of e b s ≡ false → answer_at (ss ++ s ∷ []) e b ≡ answer_at ss e b
answer-other [] s e b h = cond-false _ _ _ h
answer-other (x ∷ xs) s e b h = ap (λ d. if is_of e b x then x.drawn else d) (answer-other xs s e b h)

pub answer-unseen : (ss : List Sight) (e b : ℕ) → list_any (is_of e b) ss ≡ false → answer_at ss e b ≡ Off
answer-unseen [] e b h = refl
answer-unseen (x ∷ xs) e b h =
    let parts = or_parts (is_of e b x) (list_any (is_of e b) xs) h in
    cond-false _ _ _ parts.0 ∙ answer-unseen xs e b parts.1

pub answer-new : (ss : List Sight) (s : Sight) (e b : ℕ) → list_any (is_of e b) ss ≡ false → is_of e b s ≡ true → answer_at (ss ++ s ∷ []) e b ≡ s.drawn
answer-new [] s e b h k = cond-true _ _ _ k
answer-new (x ∷ xs) s e b h k =
    let parts = or_parts (is_of e b x) (list_any (is_of e b) xs) h in
    cond-false _ _ _ parts.0 ∙ answer-new xs s e b parts.1 k

pub is_subject-same : (plan : Plan) (p : Program) (us ss : List Sight) (b : ℕ) (t : Told) → answer_at us t.event.opened b ≡ answer_at ss t.event.opened b → is_subject plan p us b t ≡ is_subject plan p ss b t
is_subject-same plan p us ss b t h = ap (λ d. if is_enter t.event.kind then is_met_by plan p b t else has_binding plan b is_observer && is_on d) h

-- at an Enter what was seen makes no difference
pub is_subject-enter : (plan : Plan) (p : Program) (us ss : List Sight) (b : ℕ) (t : Told) → is_enter t.event.kind ≡ true → is_subject plan p us b t ≡ is_subject plan p ss b t
is_subject-enter plan p us ss b t h = cond-true _ _ _ h ∙ sym (cond-true _ _ _ h)

-- ---- answers that are the same at each event of a list: `us` and `ss` are what was seen, and r picks the events

module _ (plan : Plan) (p : Program) (us ss : List Sight) (b : ℕ) (r : Told → Bool)
    (subjects : (t : Told) → r t ≡ true → is_subject plan p us b t ≡ is_subject plan p ss b t)
    (answers : (t : Told) → r t ≡ true → answer_at us t.event.number b ≡ answer_at ss t.event.number b) where
  pub subject_events-same : (ts : List Told) → list_all r ts ≡ true → subject_events plan p us ts b ≡ subject_events plan p ss ts b
  subject_events-same ts h = filter-same r (λ t. is_subject plan p us b t) (λ t. is_subject plan p ss b t) subjects ts h

  pub answers_of-same : (ts : List Told) → list_all r ts ≡ true → answers_of plan p us ts b ≡ answers_of plan p ss ts b
  answers_of-same ts h =
      ap (map (λ t. answer_at us t.event.number b)) (subject_events-same ts h)
      ∙ map-same r (λ t. answer_at us t.event.number b) (λ t. answer_at ss t.event.number b) answers (subject_events plan p ss ts b)
      (list_all-filter r (λ t. is_subject plan p ss b t) ts h)

  pub moments_of-same : (ts : List Told) → list_all r ts ≡ true → moments_of plan p us ts b ≡ moments_of plan p ss ts b
  moments_of-same ts h =
      ap (map (λ t. (t.event.number, answer_at us t.event.number b))) (subject_events-same ts h)
      ∙ map-same r (λ t. (t.event.number, answer_at us t.event.number b)) (λ t. (t.event.number, answer_at ss t.event.number b)) (λ t k. ap (λ d. (t.event.number, d)) (answers t k)) (subject_events plan p ss ts b)
      (list_all-filter r (λ t. is_subject plan p ss b t) ts h)

  pub log_of-same : (context : ℕ) (ts : List Told) → list_all r ts ≡ true → log_of context plan p us ts b ≡ log_of context plan p ss ts b
  log_of-same context ts h =
      ap (filter_map (delivery context us b)) (subject_events-same ts h)
      ∙ filter_map-same r (delivery context us b) (delivery context ss b)
      (λ t k. ap (λ d. option_map (entry_of context t.event) (place_of d)) (answers t k))
      (subject_events plan p ss ts b) (list_all-filter r (λ t. is_subject plan p ss b t) ts h)

-- ---- one more event

push_filtered : {A : Type 0} (p : A → Bool) (xs : List A) (x : A) → p x ≡ true → filter p (xs ++ x ∷ []) ≡ filter p xs ++ x ∷ []
push_filtered p xs x h = filter-append p xs (x ∷ []) ∙ ap (λ ys. filter p xs ++ ys) (cond-true _ _ _ h)

drop_filtered : {A : Type 0} (p : A → Bool) (xs : List A) (x : A) → p x ≡ false → filter p (xs ++ x ∷ []) ≡ filter p xs
drop_filtered p xs x h = filter-append p xs (x ∷ []) ∙ ap (λ ys. filter p xs ++ ys) (cond-false _ _ _ h) ∙ append-nil (filter p xs)

pub answers_of-subject : (plan : Plan) (p : Program) (ss : List Sight) (ts : List Told) (t : Told) (b : ℕ) → is_subject plan p ss b t ≡ true
    → answers_of plan p ss (ts ++ t ∷ []) b ≡ answers_of plan p ss ts b ++ answer_at ss t.event.number b ∷ []
answers_of-subject plan p ss ts t b h =
    ap (map (λ x. answer_at ss x.event.number b)) (push_filtered (λ x. is_subject plan p ss b x) ts t h)
    ∙ map-append (λ x. answer_at ss x.event.number b) (subject_events plan p ss ts b) (t ∷ [])

pub moments_of-subject : (plan : Plan) (p : Program) (ss : List Sight) (ts : List Told) (t : Told) (b : ℕ) → is_subject plan p ss b t ≡ true
    → moments_of plan p ss (ts ++ t ∷ []) b ≡ moments_of plan p ss ts b ++ (t.event.number, answer_at ss t.event.number b) ∷ []
moments_of-subject plan p ss ts t b h =
    ap (map (λ x. (x.event.number, answer_at ss x.event.number b))) (push_filtered (λ x. is_subject plan p ss b x) ts t h)
    ∙ map-append (λ x. (x.event.number, answer_at ss x.event.number b)) (subject_events plan p ss ts b) (t ∷ [])

pub moments_of-other : (plan : Plan) (p : Program) (ss : List Sight) (ts : List Told) (t : Told) (b : ℕ) → is_subject plan p ss b t ≡ false
    → moments_of plan p ss (ts ++ t ∷ []) b ≡ moments_of plan p ss ts b
moments_of-other plan p ss ts t b h = ap (map (λ x. (x.event.number, answer_at ss x.event.number b))) (drop_filtered (λ x. is_subject plan p ss b x) ts t h)

filtered_one : (o : Option Entry) → cons_option o [] ≡ option_to_list o
filtered_one None = refl
filtered_one (Some x) = refl

pub log_of-subject : (context : ℕ) (plan : Plan) (p : Program) (ss : List Sight) (ts : List Told) (t : Told) (b : ℕ) → is_subject plan p ss b t ≡ true
    → log_of context plan p ss (ts ++ t ∷ []) b ≡ log_of context plan p ss ts b ++ option_to_list (delivery context ss b t)
log_of-subject context plan p ss ts t b h =
    ap (filter_map (delivery context ss b)) (push_filtered (λ x. is_subject plan p ss b x) ts t h)
    ∙ filter_map-append (delivery context ss b) (subject_events plan p ss ts b) (t ∷ [])
    ∙ ap (λ ys. log_of context plan p ss ts b ++ ys) (filtered_one (delivery context ss b t))

pub answers_of-other : (plan : Plan) (p : Program) (ss : List Sight) (ts : List Told) (t : Told) (b : ℕ) → is_subject plan p ss b t ≡ false
    → answers_of plan p ss (ts ++ t ∷ []) b ≡ answers_of plan p ss ts b
answers_of-other plan p ss ts t b h = ap (map (λ x. answer_at ss x.event.number b)) (drop_filtered (λ x. is_subject plan p ss b x) ts t h)

pub log_of-other : (context : ℕ) (plan : Plan) (p : Program) (ss : List Sight) (ts : List Told) (t : Told) (b : ℕ) → is_subject plan p ss b t ≡ false
    → log_of context plan p ss (ts ++ t ∷ []) b ≡ log_of context plan p ss ts b
log_of-other context plan p ss ts t b h = ap (filter_map (delivery context ss b)) (drop_filtered (λ x. is_subject plan p ss b x) ts t h)

-- ---- ends that are met

met_later : (enter subject met met' : Bool) → (met ≡ true → met' ≡ true) → (enter || not subject || met) ≡ true → (enter || not subject || met') ≡ true
met_later true true met met' f h = refl
met_later true false met met' f h = refl
met_later false false met met' f h = refl
met_later false true met met' f h = f h

pub ends-same : (plan : Plan) (p : Program) (us ss : List Sight) (passed passes : List Passed) (b : ℕ) (r : Told → Bool)
    → ((t : Told) → r t ≡ true → is_subject plan p us b t ≡ is_subject plan p ss b t)
    → ((e : ℕ) → is_met ss passes e b ≡ true → is_met us passed e b ≡ true)
    → (ts : List Told) → list_all r ts ≡ true → list_all (is_end_met plan p ss passes b) ts ≡ true → list_all (is_end_met plan p us passed b) ts ≡ true
ends-same plan p us ss passed passes b r subjects met ts h k =
    list_all-weaker_where r (is_end_met plan p ss passes b) (is_end_met plan p us passed b)
    (λ t g e. ap (λ x. is_enter t.event.kind || not x || is_met us passed t.event.number b) (subjects t g)
    ∙ met_later (is_enter t.event.kind) (is_subject plan p ss b t) (is_met ss passes t.event.number b) (is_met us passed t.event.number b) (met t.event.number) e)
    ts h k
