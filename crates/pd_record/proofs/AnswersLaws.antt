-- One suspension more: its acts, its answer number, its answer.
use Rattle.std.proofs.Common.{◌≡◌, ℕ, Bool, true, false, List, [], ◌∷◌, ◌++◌, map, refl, ap, ◌∙◌}
use Rattle.std.specs.Prelude.{◌==◌, if◌then◌else◌}
use Rattle.std.proofs.lemmas.Bool.{eq-eqb, ne_eqb}
use Rattle.std.proofs.lemmas.List.{append-nil, map-append}
use Rattle.std.proofs.lemmas.List.Elements.{filter-append}
use Rattle.std.proofs.lemmas.Grind.{flat_map-append}
use Rattle.pd_plan.specs.declared.plan.Answer.{Answer}
use Rattle.pd_suspend.specs.declared.suspension.Suspension.{Suspension}
use Rattle.pd_suspend.specs.Answers.{as_handed, acts_of, stops_in, numbers_in}
use Rattle.pd_record.specs.Replies.{IsGiven, AreGiven, none, more, kept_of}

-- all acts: those before, and then the suspension's own at its event
pub acts_of-push : (stops : List Suspension) (x : Suspension) → acts_of (stops ++ x ∷ []) ≡ acts_of stops ++ map (λ r. (x.event, r)) x.acts
acts_of-push stops x = flat_map-append (λ y. map (λ r. (y.event, r)) y.acts) stops (x ∷ []) ∙ ap (λ l. acts_of stops ++ l) (append-nil (map (λ r. (x.event, r)) x.acts))

numbers-after : (s : ℕ) (stops : List Suspension) (x : Suspension) (is : Bool) → (x.session == s) ≡ is
    → numbers_in s (stops ++ x ∷ []) ≡ numbers_in s stops ++ (if is then x.answer ∷ [] else [])
numbers-after s stops x is h =
    ap (map (λ (y : Suspension). y.answer)) (filter-append (λ (y : Suspension). y.session == s) stops (x ∷ []) ∙ ap (λ b. stops_in s stops ++ (if b then x ∷ [] else [])) h)
    ∙ map-append (λ (y : Suspension). y.answer) (stops_in s stops) (if is then x ∷ [] else [])
    ∙ ap (λ l. numbers_in s stops ++ l) (each is)
  where
    each : (b : Bool) → map (λ (y : Suspension). y.answer) (if b then x ∷ [] else []) ≡ (if b then x.answer ∷ [] else [])
    each true = refl
    each false = refl

-- the answer numbers of its own session get one more
pub numbers_in-own : (s : ℕ) (stops : List Suspension) (x : Suspension) → x.session ≡ s → numbers_in s (stops ++ x ∷ []) ≡ numbers_in s stops ++ x.answer ∷ []
numbers_in-own s stops x h = numbers-after s stops x true (eq-eqb x.session s h)

-- and those of any other session stay
pub numbers_in-other : (s : ℕ) (stops : List Suspension) (x : Suspension) → (x.session ≡ s → ⊥) → numbers_in s (stops ++ x ∷ []) ≡ numbers_in s stops
numbers_in-other s stops x h = numbers-after s stops x false (ne_eqb x.session s h) ∙ append-nil (numbers_in s stops)

-- one more answer
pub given-push : (admits : Suspension → Answer → Type 0) (stops : List Suspension) (given : List Answer) (x : Suspension) (a : Answer)
    → AreGiven admits stops given → IsGiven admits x a → AreGiven admits (stops ++ x ∷ []) (given ++ a ∷ [])
given-push admits [] [] x a none h = more h none
given-push admits [] (b ∷ bs) x a given h = elim given [ ]
given-push admits (y ∷ ys) [] x a given h = elim given [ ]
given-push admits (y ∷ ys) (b ∷ bs) x a (more first rest) h = more first (given-push admits ys bs x a rest h)

-- what the answerer keeps grows where it keeps the session
pub kept_of-push : (admits : Suspension → Answer → Type 0) (keeps : ℕ → Bool) (stops : List Suspension) (given : List Answer) (x : Suspension) (a : Answer)
    → AreGiven admits stops given
    → kept_of keeps (stops ++ x ∷ []) (given ++ a ∷ []) ≡ (if keeps x.session then kept_of keeps stops given ++ (as_handed x, a) ∷ [] else kept_of keeps stops given)
kept_of-push admits keeps [] [] x a none = refl
kept_of-push admits keeps [] (b ∷ bs) x a given = elim given [ ]
kept_of-push admits keeps (y ∷ ys) [] x a given = elim given [ ]
kept_of-push admits keeps (y ∷ ys) (b ∷ bs) x a (more first rest) =
    ap (λ l. if keeps y.session then (as_handed y, b) ∷ l else l) (kept_of-push admits keeps ys bs x a rest)
    ∙ both (keeps y.session) (keeps x.session)
  where
    both : (p q : Bool)
        → (if p then (as_handed y, b) ∷ (if q then kept_of keeps ys bs ++ (as_handed x, a) ∷ [] else kept_of keeps ys bs) else (if q then kept_of keeps ys bs ++ (as_handed x, a) ∷ [] else kept_of keeps ys bs))
        ≡ (if q then (if p then (as_handed y, b) ∷ kept_of keeps ys bs else kept_of keeps ys bs) ++ (as_handed x, a) ∷ [] else (if p then (as_handed y, b) ∷ kept_of keeps ys bs else kept_of keeps ys bs))
    both true true = refl
    both true false = refl
    both false true = refl
    both false false = refl
