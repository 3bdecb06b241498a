-- From the record of a context to what its seat brings back.
use Rattle.std.proofs.Common.{◌≡◌, ℕ, List, [], ◌∷◌, ◌++◌, map, filter, Bool, true, false, not, ◌&&◌, ◌||◌, ◌==◌, Option, Some, None, sym, refl, ap, ◌∙◌, subst, ⊎_elim, eq-eqb}
use Rattle.std.specs.Prelude.{flat_map, if◌then◌else◌}
use Rattle.std.specs.List.{filter_map, list_any, list_all, cons_option}
use Rattle.std.proofs.lemmas.List.{map-append}
use Rattle.std.proofs.lemmas.List.Elements.{filter_map-append}
use Rattle.std.proofs.lemmas.List.Folds.{list_any-append, list_all-append}
use Rattle.std.proofs.lemmas.Bool.{and_parts, and_from, or_cases, or_left, or_right, false≢true, eqb-true}
use Rattle.pd_tree.specs.Program.{Program}
use Rattle.pd_machine.specs.Events.{Told}
use Rattle.pd_plan.specs.declared.plan.Plan.{Plan}
use Rattle.pd_board.specs.declared.answers.ActResult.{ActResult}
use Rattle.pd_board.specs.declared.answers.ActResult.TheVariants as acts
use Rattle.pd_board.specs.declared.answers.Known.TheVariants as knowns
use Rattle.pd_board.specs.declared.answers.Sight.{Sight}
use Rattle.pd_board.specs.Answers.{has_dispose, is_dispose}
use Rattle.pd_board.specs.Standing.{Standing}
use Rattle.pd_suspend.specs.declared.suspension.Suspension.{Suspension}
use Rattle.pd_suspend.specs.declared.context.ContextRecord.{ContextRecord}
use Rattle.pd_suspend.specs.Answers.{acts_of, numbers_in}
use Rattle.pd_record.specs.Acts.{uses_up}
use Rattle.pd_record.specs.Logs.{moments_of, is_subject}
use Rattle.pd_record.proofs.WholeLaws.{life-on}
use Rattle.pd_board.specs.OnContext.{rises}
use Rattle.pd_record.specs.Seen.{is_subject_at}
use Rattle.pd_record.specs.Served.{IsServed}
use Rattle.pd_record.specs.Replies.{Owed, of_act, of_hit, used_up_by, owed_at, owed_of, AreFor}
use Rattle.pd_shared.specs.Book.{known_at}
use Rattle.pd_shared.specs.Sitting.{Sitting, standing_of}
use Rattle.pd_run.specs.Part.{is_spent, HasLife, part_of}
use Rattle.pd_run.specs.Hands.{Deed, act_of, is_end, is_rightful, is_ended}
use Rattle.pd_run.specs.Record.{owed_told, deeds_for, RecordsAreHands}

pub map_twice : {A B C : Type 0} (g : B → C) (f : A → B) (xs : List A) → map g (map f xs) ≡ map (λ x. g (f x)) xs
map_twice g f [] = refl
map_twice g f (x ∷ xs) = ap (λ ys. g (f x) ∷ ys) (map_twice g f xs)

map_same : {A : Type 0} (xs : List A) → map (λ x. x) xs ≡ xs
map_same [] = refl
map_same (x ∷ xs) = ap (λ ys. x ∷ ys) (map_same xs)

-- ---- the answers, one by one

-- the act that is owed, with the number of its event
abbrev owed_act : ℕ × Owed → Option (ℕ × ActResult)
owed_act (e, of_act r) = Some (e, r)
owed_act (e, of_hit b) = None

-- whether a disposal that is owed is one of a binding that was used up in what was seen
abbrev is_due : Plan → List Sight → ℕ × Owed → Bool
is_due plan seen (e, of_act r) = true
is_due plan seen (e, of_hit b) = list_any (is_spent plan b) seen

-- whether a disposal of the binding is owed
abbrev is_hit_of : ℕ → ℕ × Owed → Bool
is_hit_of b (e, of_act r) = false
is_hit_of b (e, of_hit c) = c == b

abbrev bare : List (ℕ × Owed) → List Owed
bare os = map (λ o. o.1) os

pub deeds_all : (os : List (ℕ × Owed)) (xs : List ActResult) → AreFor (bare os) xs → map (λ (d : Deed). d.reply) (deeds_for os xs) ≡ xs
deeds_all [] [] h = refl
deeds_all [] (x ∷ xs) h = absurd h
deeds_all (o ∷ os) [] h = absurd h
deeds_all ((e, of_act r) ∷ os) (x ∷ xs) h = ap (λ ys. x ∷ ys) (deeds_all os xs h.1)
deeds_all ((e, of_hit b) ∷ os) (x ∷ xs) h = ap (λ ys. x ∷ ys) (deeds_all os xs h.1)

pub deeds_acts : (os : List (ℕ × Owed)) (xs : List ActResult) → AreFor (bare os) xs → filter_map act_of (deeds_for os xs) ≡ filter_map owed_act os
deeds_acts [] [] h = refl
deeds_acts [] (x ∷ xs) h = absurd h
deeds_acts (o ∷ os) [] h = absurd h
deeds_acts ((e, of_act r) ∷ os) (x ∷ xs) h = ap (λ y. (e, y) ∷ filter_map act_of (deeds_for os xs)) h.0 ∙ ap (λ ys. (e, r) ∷ ys) (deeds_acts os xs h.1)
deeds_acts ((e, of_hit b) ∷ os) (x ∷ xs) h = deeds_acts os xs h.1

hit_end : (plan : Plan) (seen : List Sight) (b : ℕ) (x : ActResult) → is_dispose b x ≡ true → list_any (is_spent plan b) seen ≡ true → is_end plan seen x ≡ true
hit_end plan seen b (acts.Disposed c a) h due = subst (λ n. list_any (is_spent plan n) seen ≡ true) (sym (eqb-true c b h)) due
hit_end plan seen b (acts.Attached c a) h due = absurd (false≢true h)
hit_end plan seen b (acts.Enabled c a) h due = absurd (false≢true h)
hit_end plan seen b (acts.Disabled c a) h due = absurd (false≢true h)

pub deeds_rightful : (plan : Plan) (seen : List Sight) (os : List (ℕ × Owed)) (xs : List ActResult) → AreFor (bare os) xs → list_all (is_due plan seen) os ≡ true → list_all (is_rightful plan seen) (deeds_for os xs) ≡ true
deeds_rightful plan seen [] [] h due = refl
deeds_rightful plan seen [] (x ∷ xs) h due = refl
deeds_rightful plan seen (o ∷ os) [] h due = absurd h
deeds_rightful plan seen ((e, of_act r) ∷ os) (x ∷ xs) h due = deeds_rightful plan seen os xs h.1 due
deeds_rightful plan seen ((e, of_hit b) ∷ os) (x ∷ xs) h due =
    let parts = and_parts (list_any (is_spent plan b) seen) (list_all (is_due plan seen) os) due in
    and_from (is_end plan seen x) (list_all (is_rightful plan seen) (deeds_for os xs)) (hit_end plan seen b x h.0 parts.0) (deeds_rightful plan seen os xs h.1 parts.1)

hit_dispose : (b c : ℕ) (x : ActResult) → is_dispose c x ≡ true → (c == b) ≡ true → is_dispose b x ≡ true
hit_dispose b c x h e = subst (λ n. is_dispose n x ≡ true) (eqb-true c b e) h

pub deeds_dispose : (b : ℕ) (os : List (ℕ × Owed)) (xs : List ActResult) → AreFor (bare os) xs → list_any (is_hit_of b) os ≡ true → has_dispose b xs ≡ true
deeds_dispose b [] xs h any = absurd (false≢true any)
deeds_dispose b (o ∷ os) [] h any = absurd h
deeds_dispose b ((e, of_act r) ∷ os) (x ∷ xs) h any = or_right (is_dispose b x) (has_dispose b xs) (deeds_dispose b os xs h.1 any)
deeds_dispose b ((e, of_hit c) ∷ os) (x ∷ xs) h any =
    ⊎_elim
    (λ y. or_left (is_dispose b x) (has_dispose b xs) (hit_dispose b c x h.0 y))
    (λ y. or_right (is_dispose b x) (has_dispose b xs) (deeds_dispose b os xs h.1 y))
    (or_cases (c == b) (list_any (is_hit_of b) os) any)

module _ (plan : Plan) (seen : List Sight) (stops : List Suspension) where
  abbrev at : ℕ → List (ℕ × Owed)
  at e = map (λ o. (e, o)) (owed_at plan seen stops e)

  abbrev told : List Told → List (ℕ × Owed)
  told events = owed_told plan seen stops events

  pub bare_told : (events : List Told) → bare (told events) ≡ owed_of plan seen stops events
  bare_told [] = refl
  bare_told (t ∷ ts) =
      map-append (λ (o : ℕ × Owed). o.1) (at t.event.number) (told ts)
      ∙ ap (λ xs. xs ++ bare (told ts)) (map_twice (λ (o : ℕ × Owed). o.1) (λ (o : Owed). (t.event.number, o)) (owed_at plan seen stops t.event.number) ∙ map_same (owed_at plan seen stops t.event.number))
      ∙ ap (λ xs. owed_at plan seen stops t.event.number ++ xs) (bare_told ts)

  -- ---- those of acts

  -- the acts of one event
  abbrev here : ℕ → List (ℕ × ActResult) → List (ℕ × ActResult)
  here e xs1 = filter (λ a. a.0 == e) xs1

  none_own : (e : ℕ) (bs : List ℕ) → filter_map owed_act (map (λ o. (e, o)) (map of_hit bs)) ≡ []
  none_own e [] = refl
  none_own e (b ∷ bs) = none_own e bs

  one_act : (e : ℕ) (a : ℕ × ActResult) (xs1 : List (ℕ × ActResult)) (t : Bool) → (a.0 == e) ≡ t → filter_map owed_act (map (λ o. (e, o)) (map (λ x. of_act x.1) (here e xs1))) ≡ here e xs1
      → filter_map owed_act (map (λ o. (e, o)) (map (λ x. of_act x.1) (if t then a ∷ here e xs1 else here e xs1))) ≡ (if t then a ∷ here e xs1 else here e xs1)
  one_act e a xs1 true q h = ap (λ xs. (e, a.1) ∷ xs) h ∙ ap (λ x. (x, a.1) ∷ here e xs1) (sym (eqb-true a.0 e q))
  one_act e a xs1 false q h = h

  acts_here : (e : ℕ) (xs1 : List (ℕ × ActResult)) → filter_map owed_act (map (λ o. (e, o)) (map (λ x. of_act x.1) (here e xs1))) ≡ here e xs1
  acts_here e [] = refl
  acts_here e (a ∷ xs1) = one_act e a xs1 (a.0 == e) refl (acts_here e xs1)

  abbrev hits : ℕ → List Sight → List Owed
  hits e xs = map of_hit (filter_map (used_up_by plan e) xs)

  abbrev replies : ℕ → List Owed
  replies e = map (λ a. of_act a.1) (here e (acts_of stops))

  at_parts : (e : ℕ) → at e ≡ map (λ o. (e, o)) (hits e seen) ++ map (λ o. (e, o)) (replies e)
  at_parts e = map-append (λ (o : Owed). (e, o)) (hits e seen) (replies e)

  acts_at : (e : ℕ) → filter_map owed_act (at e) ≡ here e (acts_of stops)
  acts_at e =
      ap (filter_map owed_act) (at_parts e)
      ∙ filter_map-append owed_act (map (λ o. (e, o)) (hits e seen)) (map (λ o. (e, o)) (replies e))
      ∙ ap (λ xs. xs ++ filter_map owed_act (map (λ o. (e, o)) (replies e))) (none_own e (filter_map (used_up_by plan e) seen))
      ∙ acts_here e (acts_of stops)

  pub acts_in : (events : List Told) → filter_map owed_act (told events) ≡ flat_map (λ t. here t.event.number (acts_of stops)) events
  acts_in [] = refl
  acts_in (t ∷ ts) = filter_map-append owed_act (at t.event.number) (told ts) ∙ ap (λ xs. xs ++ filter_map owed_act (told ts)) (acts_at t.event.number) ∙ ap (λ xs. here t.event.number (acts_of stops) ++ xs) (acts_in ts)

  -- ---- its own disposals are rightful

  -- what is in a part of what was seen is in all of it
  abbrev IsIn : List Sight → Type 0
  IsIn xs = (p : Sight → Bool) → list_any p xs ≡ true → list_any p seen ≡ true

  in_tail : (s : Sight) (xs : List Sight) → IsIn (s ∷ xs) → IsIn xs
  in_tail s xs h p e = h p (or_right (p s) (list_any p xs) e)

  one_own : (e : ℕ) (s : Sight) (xs : List Sight) (t : Bool) → ((s.event == e) && uses_up plan s.binding s.drawn) ≡ t → IsIn (s ∷ xs)
      → list_all (is_due plan seen) (map (λ o. (e, o)) (hits e xs)) ≡ true
      → list_all (is_due plan seen) (map (λ o. (e, o)) (map of_hit (cons_option (if t then Some s.binding else None) (filter_map (used_up_by plan e) xs)))) ≡ true
  one_own e s xs true q i h =
      let parts = and_parts (s.event == e) (uses_up plan s.binding s.drawn) q in
      and_from (list_any (is_spent plan s.binding) seen) (list_all (is_due plan seen) (map (λ o. (e, o)) (hits e xs)))
      (i (is_spent plan s.binding) (or_left (is_spent plan s.binding s) (list_any (is_spent plan s.binding) xs) (and_from (s.binding == s.binding) (uses_up plan s.binding s.drawn) (eq-eqb s.binding s.binding refl) parts.1)))
      h
  one_own e s xs false q i h = h

  own_rightful : (e : ℕ) (xs : List Sight) → IsIn xs → list_all (is_due plan seen) (map (λ o. (e, o)) (hits e xs)) ≡ true
  own_rightful e [] i = refl
  own_rightful e (s ∷ xs) i = one_own e s xs ((s.event == e) && uses_up plan s.binding s.drawn) refl i (own_rightful e xs (in_tail s xs i))

  acts_rightful : (e : ℕ) (xs1 : List (ℕ × ActResult)) → list_all (is_due plan seen) (map (λ o. (e, o)) (map (λ a. of_act a.1) xs1)) ≡ true
  acts_rightful e [] = refl
  acts_rightful e (a ∷ xs1) = acts_rightful e xs1

  pub rightful_all : (events : List Told) → list_all (is_due plan seen) (told events) ≡ true
  rightful_all [] = refl
  rightful_all (t ∷ ts) =
      list_all-append (is_due plan seen) (at t.event.number) (told ts)
      ∙ and_from _ _
      (ap (list_all (is_due plan seen)) (at_parts t.event.number)
      ∙ list_all-append (is_due plan seen) (map (λ o. (t.event.number, o)) (hits t.event.number seen)) (map (λ o. (t.event.number, o)) (replies t.event.number))
      ∙ and_from _ _ (own_rightful t.event.number seen (λ p e. e)) (acts_rightful t.event.number (here t.event.number (acts_of stops))))
      (rightful_all ts)

  -- ---- and each binding that was used up was disposed

  abbrev uses_at : ℕ → ℕ → Sight → Bool
  uses_at e b s = (s.event == e) && is_spent plan b s

  one_ends : (e b : ℕ) (s : Sight) (xs : List Sight) (t : Bool) → ((s.event == e) && uses_up plan s.binding s.drawn) ≡ t
      → (list_any (uses_at e b) xs ≡ true → list_any (is_hit_of b) (map (λ o. (e, o)) (hits e xs)) ≡ true)
      → list_any (uses_at e b) (s ∷ xs) ≡ true
      → list_any (is_hit_of b) (map (λ o. (e, o)) (map of_hit (cons_option (if t then Some s.binding else None) (filter_map (used_up_by plan e) xs)))) ≡ true
  one_ends e b s xs true q h any =
      ⊎_elim
      (λ x. let parts = and_parts (s.event == e) (is_spent plan b s) x in or_left (s.binding == b) _ (and_parts (s.binding == b) (uses_up plan b s.drawn) parts.1).0)
      (λ x. or_right (s.binding == b) (list_any (is_hit_of b) (map (λ o. (e, o)) (hits e xs))) (h x))
      (or_cases (uses_at e b s) (list_any (uses_at e b) xs) any)
  one_ends e b s xs false q h any =
      ⊎_elim
      (λ x.
      let parts = and_parts (s.event == e) (is_spent plan b s) x in
      let both = and_parts (s.binding == b) (uses_up plan b s.drawn) parts.1 in
      let yes : ((s.event == e) && uses_up plan s.binding s.drawn) ≡ true = and_from (s.event == e) (uses_up plan s.binding s.drawn) parts.0 (subst (λ y. uses_up plan y s.drawn ≡ true) (sym (eqb-true s.binding b both.0)) both.1) in
      absurd (false≢true (sym q ∙ yes)))
      h
      (or_cases (uses_at e b s) (list_any (uses_at e b) xs) any)

  ends_here : (e b : ℕ) (xs : List Sight) → list_any (uses_at e b) xs ≡ true → list_any (is_hit_of b) (map (λ o. (e, o)) (hits e xs)) ≡ true
  ends_here e b [] any = absurd (false≢true any)
  ends_here e b (s ∷ xs) any = one_ends e b s xs ((s.event == e) && uses_up plan s.binding s.drawn) refl (ends_here e b xs) any

  ends_at : (e b : ℕ) → list_any (uses_at e b) seen ≡ true → list_any (is_hit_of b) (at e) ≡ true
  ends_at e b any =
      ap (list_any (is_hit_of b)) (at_parts e)
      ∙ list_any-append (is_hit_of b) (map (λ o. (e, o)) (hits e seen)) (map (λ o. (e, o)) (replies e))
      ∙ or_left (list_any (is_hit_of b) (map (λ o. (e, o)) (hits e seen))) _ (ends_here e b seen any)

  ends_in : (p : Told → Bool) (e b : ℕ) → ((t : Told) → p t ≡ true → t.event.number ≡ e) → list_any (uses_at e b) seen ≡ true → (events : List Told) → list_any p events ≡ true → list_any (is_hit_of b) (told events) ≡ true
  ends_in p e b is any [] there = absurd (false≢true there)
  ends_in p e b is any (t ∷ ts) there =
      list_any-append (is_hit_of b) (at t.event.number) (told ts)
      ∙ ⊎_elim
      (λ x. or_left (list_any (is_hit_of b) (at t.event.number)) (list_any (is_hit_of b) (told ts)) (ends_at t.event.number b (subst (λ y. list_any (uses_at y b) seen ≡ true) (sym (is t x)) any)))
      (λ x. or_right (list_any (is_hit_of b) (at t.event.number)) (list_any (is_hit_of b) (told ts)) (ends_in p e b is any ts x))
      (or_cases (p t) (list_any p ts) there)

  module _ (p : Program) (events : List Told) (deeds : List Deed) (disposed : (b : ℕ) → list_any (is_hit_of b) (told events) ≡ true → has_dispose b (map (λ (d : Deed). d.reply) deeds) ≡ true) where
    one_ended : (s : Sight) (xs : List Sight) (t : Bool) → uses_up plan s.binding s.drawn ≡ t → IsIn (s ∷ xs) → is_subject_at plan p seen events s.event s.binding ≡ true → (not t || has_dispose s.binding (map (λ (d : Deed). d.reply) deeds)) ≡ true
    one_ended s xs true q i subject =
        disposed s.binding
        (ends_in (λ t. (t.event.number == s.event) && is_subject plan p seen s.binding t) s.event s.binding (λ t e. eqb-true t.event.number s.event (and_parts (t.event.number == s.event) (is_subject plan p seen s.binding t) e).0)
        (i (uses_at s.event s.binding) (or_left (uses_at s.event s.binding s) (list_any (uses_at s.event s.binding) xs) (and_from (s.event == s.event) (is_spent plan s.binding s) (eq-eqb s.event s.event refl) (and_from (s.binding == s.binding) (uses_up plan s.binding s.drawn) (eq-eqb s.binding s.binding refl) q))))
        events subject)
    one_ended s xs false q i subject = refl

    pub ended_all : (xs : List Sight) → IsIn xs → list_all (λ s. is_subject_at plan p seen events s.event s.binding) xs ≡ true → list_all (is_ended plan deeds) xs ≡ true
    ended_all [] i h = refl
    ended_all (s ∷ xs) i h =
        let parts = and_parts (is_subject_at plan p seen events s.event s.binding) (list_all (λ x. is_subject_at plan p seen events x.event x.binding) xs) h in
        and_from (is_ended plan deeds s) (list_all (is_ended plan deeds) xs) (one_ended s xs (uses_up plan s.binding s.drawn) refl i parts.0) (ended_all xs (in_tail s xs i) parts.1)

-- ---- the life of one binding

life_of : (plan : Plan) (p : Program) (context : ℕ) (events : List Told) (start : Standing) (s : Sitting) (r : ContextRecord) (b : ℕ) → r.seen ≡ s.token.journal.sights
    → (log : List _) → IsServed plan p context (start.known b) (standing_of s) log events (acts_of r.stops) b
    → HasLife plan b (start.known b ≡ knowns.Attached) (known_at s.token.known.items b ≡ knowns.Disposed) (part_of plan p events r)
life_of plan p context events start s r b seen log h =
    subst (λ xs. HasLife plan b (start.known b ≡ knowns.Attached) (known_at s.token.known.items b ≡ knowns.Disposed) (record { seen = xs; given = moments_of plan p xs events; acts = acts_of r.stops })) (sym seen)
    (life-on plan p context (start.known b) (standing_of s) log events (acts_of r.stops) b h)

pub records_are_hands : RecordsAreHands
records_are_hands plan p context events start s r o q a by none no_numbers =
    let owed : List (ℕ × Owed) = owed_told plan r.seen r.stops events in
    let each : AreFor (bare owed) a.grown = subst (λ xs. AreFor xs a.grown) (ap (λ xs. owed_of plan xs r.stops events) (sym o.seen) ∙ sym (bare_told plan r.seen r.stops events)) a.each in
    record {
      seen = sym o.seen;
      replies = record {
        all = a.replies ∙ ap (λ xs. xs ++ a.grown) none ∙ sym (deeds_all owed a.grown each);
        acts = by ∙ sym (acts_in plan r.seen r.stops events) ∙ sym (deeds_acts owed a.grown each);
        own = deeds_rightful plan r.seen owed a.grown each (rightful_all plan r.seen r.stops events);
        ends = ended_all plan r.seen r.stops p events (deeds_for owed a.grown) (λ b h. ap (has_dispose b) (deeds_all owed a.grown each) ∙ deeds_dispose b owed a.grown each h)
            r.seen (λ t e. e) (subst (λ xs. list_all (λ x. is_subject_at plan p xs events x.event x.binding) xs ≡ true) (sym o.seen) o.sights.subjects);
      };
      lives = λ b lt. life_of plan p context events start s r b o.seen _ (o.served b lt);
      numbers = λ t. ap rises (q.numbers t ∙ ap (λ xs. xs ++ numbers_in t r.stops) (no_numbers t)) ∙ q.rising t;
    }
