-- What the board is asked, event after event.
use Rattle.std.proofs.Common.{◌≡◌, ℕ, ◌<◌, Bool, true, false, ◌&&◌, List, [], ◌∷◌, ◌++◌, map, refl, sym, ap, ◌∙◌, subst, arith, None, Some}
use Rattle.std.specs.Prelude.{◌==◌, nat_lt, filter, if◌then◌else◌}
use Rattle.std.specs.List.{list_all, filter_map, flat_map, cons_option}
use Rattle.std.proofs.lemmas.Bool.{and_parts, cond-true, cond-false, ltb-true, eqb-true, eq-eqb, ne_eqb}
use Rattle.std.proofs.lemmas.List.{append-nil, append_assoc, map-append}
use Rattle.std.proofs.lemmas.List.Elements.{filter-append, filter_map-append, All-push}
use Rattle.std.proofs.lemmas.Grind.{flat_map-append}
use Rattle.pd_machine.specs.Events.{Told}
use Rattle.pd_plan.specs.declared.plan.Plan.{Plan}
use Rattle.pd_plan.specs.declared.plan.Answer.{Answer}
use Rattle.pd_board.specs.declared.answers.ActResult.{ActResult}
use Rattle.pd_board.specs.declared.answers.Sight.{Sight}
use Rattle.pd_board.specs.Standing.{Standing}
use Rattle.pd_suspend.specs.declared.suspension.Suspension.{Suspension}
use Rattle.pd_suspend.specs.Answers.{as_handed, acts_of}
use Rattle.pd_record.specs.Acts.{uses_up}
use Rattle.pd_record.specs.Replies.{used_up_by, Owed, of_act, of_hit, owed_at, owed_of, AreFor, HasGrownBy}
use Rattle.pd_record.specs.Turning.{is_earlier}
use Rattle.pd_guest.specs.Replying.{answer_of, kept_stop, kept_by, IsGiven}
use Rattle.pd_guest.specs.Growing.{IsMore}
use Rattle.pd_guest.specs.Asking.{IsGivenBy}
use Rattle.pd_guest.proofs.GrowingLaws.{replies-both}

-- ---- what stands at other events

none_used : (plan : Plan) (e n : ℕ) → (n ≡ e → ⊥) → (ss : List Sight) → list_all (λ (s : Sight). s.event == n) ss ≡ true → filter_map (used_up_by plan e) ss ≡ []
none_used plan e n apart [] h = refl
none_used plan e n apart (s ∷ ss) h =
    let parts = and_parts (s.event == n) (list_all (λ (x : Sight). x.event == n) ss) h in
    ap (λ o. cons_option o (filter_map (used_up_by plan e) ss))
    (cond-false _ (Some s.binding) None (left_no (s.event == e) (uses_up plan s.binding s.drawn) (ne_eqb s.event e (λ k. apart (sym (eqb-true s.event n parts.0) ∙ k)))))
    ∙ none_used plan e n apart ss parts.1
  where
    left_no : (x y : Bool) → x ≡ false → (x && y) ≡ false
    left_no true y k = cc
    left_no false y k = refl

none_earlier : (plan : Plan) (n : ℕ) (ss : List Sight) → list_all (λ (s : Sight). nat_lt s.event n) ss ≡ true → filter_map (used_up_by plan n) ss ≡ []
none_earlier plan n [] h = refl
none_earlier plan n (s ∷ ss) h =
    let parts = and_parts (nat_lt s.event n) (list_all (λ (x : Sight). nat_lt x.event n) ss) h in
    let less : s.event < n = ltb-true s.event n parts.0 in
    ap (λ o. cons_option o (filter_map (used_up_by plan n) ss))
    (cond-false _ (Some s.binding) None (left_no (s.event == n) (uses_up plan s.binding s.drawn) (ne_eqb s.event n (λ k. omega (arith, less, k)))))
    ∙ none_earlier plan n ss parts.1
  where
    left_no : (x y : Bool) → x ≡ false → (x && y) ≡ false
    left_no true y k = cc
    left_no false y k = refl

keep_if : (b : Bool) (a : ℕ × ActResult) (rest : List (ℕ × ActResult)) → List (ℕ × ActResult)
keep_if b a rest = if b then a ∷ rest else rest

filter_none : (e : ℕ) (a : ℕ × ActResult) (rest : List (ℕ × ActResult)) → (a.0 == e) ≡ false → filter (λ (x : ℕ × ActResult). x.0 == e) (a ∷ rest) ≡ filter (λ (x : ℕ × ActResult). x.0 == e) rest
filter_none e a rest h = cond-false (a.0 == e) (a ∷ filter (λ (x : ℕ × ActResult). x.0 == e) rest) (filter (λ (x : ℕ × ActResult). x.0 == e) rest) h

filter_some : (e : ℕ) (a : ℕ × ActResult) (rest : List (ℕ × ActResult)) → (a.0 == e) ≡ true → filter (λ (x : ℕ × ActResult). x.0 == e) (a ∷ rest) ≡ a ∷ filter (λ (x : ℕ × ActResult). x.0 == e) rest
filter_some e a rest h = cond-true (a.0 == e) (a ∷ filter (λ (x : ℕ × ActResult). x.0 == e) rest) (filter (λ (x : ℕ × ActResult). x.0 == e) rest) h

none_done : (n : ℕ) (done : List (ℕ × ActResult)) → list_all (is_earlier n) done ≡ true → filter (λ (a : ℕ × ActResult). a.0 == n) done ≡ []
none_done n [] h = refl
none_done n (a ∷ rest) h =
    let parts = and_parts (nat_lt a.0 n) (list_all (is_earlier n) rest) h in
    let less : a.0 < n = ltb-true a.0 n parts.0 in
    filter_none n a rest (ne_eqb a.0 n (λ k. omega (arith, less, k))) ∙ none_done n rest parts.1

acts_at : ℕ → List ActResult → List (ℕ × ActResult)
acts_at n rs = map {B = ℕ × ActResult} (λ r. (n, r)) rs

other_acts : (n e : ℕ) → (n ≡ e → ⊥) → (rs : List ActResult) → filter (λ (a : ℕ × ActResult). a.0 == e) (acts_at n rs) ≡ []
unfolding acts_at
other_acts n e apart [] = refl
other_acts n e apart (r ∷ rs) = filter_none e (n, r) (acts_at n rs) (ne_eqb n e apart) ∙ other_acts n e apart rs

own_acts : (n : ℕ) (rs : List ActResult) → map (λ (a : ℕ × ActResult). of_act a.1) (filter (λ (a : ℕ × ActResult). a.0 == n) (acts_at n rs)) ≡ map of_act rs
unfolding acts_at
own_acts n [] = refl
own_acts n (r ∷ rs) = ap (map (λ (a : ℕ × ActResult). of_act a.1)) (filter_some n (n, r) (acts_at n rs) (eq-eqb n n refl)) ∙ ap (λ xs. of_act r ∷ xs) (own_acts n rs)

acts_of-push : (stops : List Suspension) (x : Suspension) → acts_of (stops ++ x ∷ []) ≡ acts_of stops ++ acts_at x.event x.acts
unfolding acts_at
acts_of-push stops x =
    flat_map-append (λ (y : Suspension). map {B = ℕ × ActResult} (λ r. (y.event, r)) y.acts) stops (x ∷ [])
    ∙ ap (λ xs. acts_of stops ++ xs) (append-nil (map {B = ℕ × ActResult} (λ r. (x.event, r)) x.acts))

-- what the acts so far are with those of one more suspension
pub acts-push : (stops : List Suspension) (x : Suspension) → acts_of (stops ++ x ∷ []) ≡ acts_of stops ++ map {B = ℕ × ActResult} (λ r. (x.event, r)) x.acts
unfolding acts_at
acts-push stops x = acts_of-push stops x

flat_same : (f g : Told → List Owed) (r : Told → Bool) → ((t : Told) → r t ≡ true → f t ≡ g t) → (ts : List Told) → list_all r ts ≡ true → flat_map f ts ≡ flat_map g ts
flat_same f g r same [] h = refl
flat_same f g r same (t ∷ ts) h =
    let parts = and_parts (r t) (list_all r ts) h in
    ap (λ x. x ++ flat_map f ts) (same t parts.0) ∙ ap (λ x. g t ++ x) (flat_same f g r same ts parts.1)

-- ---- an event is served

dues_at-seen : (plan : Plan) (seen news : List Sight) (stops : List Suspension) (e n : ℕ) → (n ≡ e → ⊥) → list_all (λ (s : Sight). s.event == n) news ≡ true
    → owed_at plan (seen ++ news) stops e ≡ owed_at plan seen stops e
dues_at-seen plan seen news stops e n apart h =
    ap (λ x. map of_hit x ++ map (λ (a : ℕ × ActResult). of_act a.1) (filter (λ (a : ℕ × ActResult). a.0 == e) (acts_of stops)))
    (filter_map-append (used_up_by plan e) seen news ∙ ap (λ x. filter_map (used_up_by plan e) seen ++ x) (none_used plan e n apart news h) ∙ append-nil (filter_map (used_up_by plan e) seen))

dues_at-now : (plan : Plan) (seen news : List Sight) (stops : List Suspension) (n : ℕ) → list_all (λ (s : Sight). nat_lt s.event n) seen ≡ true → list_all (is_earlier n) (acts_of stops) ≡ true
    → owed_at plan (seen ++ news) stops n ≡ map of_hit (filter_map (used_up_by plan n) news)
dues_at-now plan seen news stops n h k =
    ap (λ x. map of_hit x ++ map (λ (a : ℕ × ActResult). of_act a.1) (filter (λ (a : ℕ × ActResult). a.0 == n) (acts_of stops)))
    (filter_map-append (used_up_by plan n) seen news ∙ ap (λ x. x ++ filter_map (used_up_by plan n) news) (none_earlier plan n seen h))
    ∙ ap (λ x. map of_hit (filter_map (used_up_by plan n) news) ++ map (λ (a : ℕ × ActResult). of_act a.1) x) (none_done n (acts_of stops) k)
    ∙ append-nil (map of_hit (filter_map (used_up_by plan n) news))

pub dues-served : (plan : Plan) (seen news : List Sight) (stops : List Suspension) (ts : List Told) (t : Told) (n : ℕ)
    → t.event.number ≡ n → list_all (λ (u : Told). nat_lt u.event.number n) ts ≡ true
    → list_all (λ (s : Sight). nat_lt s.event n) seen ≡ true → list_all (λ (s : Sight). s.event == n) news ≡ true → list_all (is_earlier n) (acts_of stops) ≡ true
    → owed_of plan (seen ++ news) stops (ts ++ t ∷ []) ≡ owed_of plan seen stops ts ++ map of_hit (filter_map (used_up_by plan n) news)
dues-served plan seen news stops ts t n number below before now done =
    flat_map-append (λ (u : Told). owed_at plan (seen ++ news) stops u.event.number) ts (t ∷ [])
    ∙ ap (λ x. x ++ flat_map (λ (u : Told). owed_at plan (seen ++ news) stops u.event.number) (t ∷ []))
    (flat_same (λ (u : Told). owed_at plan (seen ++ news) stops u.event.number) (λ (u : Told). owed_at plan seen stops u.event.number) (λ (u : Told). nat_lt u.event.number n)
    (λ u h. dues_at-seen plan seen news stops u.event.number n (λ e. let less : u.event.number < n = ltb-true u.event.number n h in omega (arith, less, e)) now) ts below)
    ∙ ap (λ x. owed_of plan seen stops ts ++ x)
    (append-nil (owed_at plan (seen ++ news) stops t.event.number) ∙ ap (owed_at plan (seen ++ news) stops) number ∙ dues_at-now plan seen news stops n before done)

pub grown-served : (plan : Plan) (start : List ActResult) (n : ℕ) (old new : Standing) (stops : List Suspension) (ts : List Told) (t : Told)
    → t.event.number ≡ n → list_all (λ (u : Told). nat_lt u.event.number n) ts ≡ true
    → list_all (λ (s : Sight). nat_lt s.event n) old.sights ≡ true → list_all (is_earlier n) (acts_of stops) ≡ true
    → IsMore plan n old new → HasGrownBy (owed_of plan old.sights stops ts) start old.replies → HasGrownBy (owed_of plan new.sights stops (ts ++ t ∷ [])) start new.replies
grown-served plan start n old new stops ts t number below before done i g = record {
  grown = g.grown ++ i.more;
  replies = i.replies ∙ ap (λ x. x ++ i.more) g.replies ∙ append_assoc start g.grown i.more;
  each = subst (λ ss. AreFor (owed_of plan ss stops (ts ++ t ∷ [])) (g.grown ++ i.more)) (sym i.sights)
      (subst (λ ds. AreFor ds (g.grown ++ i.more)) (sym (dues-served plan old.sights i.news stops ts t n number below before i.now done))
      (replies-both (owed_of plan old.sights stops ts) (map of_hit (filter_map (used_up_by plan n) i.news)) g.grown i.more g.each i.replied));
}

-- ---- a suspension was answered

dues_at-later : (plan : Plan) (seen : List Sight) (stops : List Suspension) (x : Suspension) (e : ℕ) → (x.event ≡ e → ⊥) → owed_at plan seen (stops ++ x ∷ []) e ≡ owed_at plan seen stops e
dues_at-later plan seen stops x e apart =
    ap (λ y. map of_hit (filter_map (used_up_by plan e) seen) ++ map (λ (a : ℕ × ActResult). of_act a.1) y)
    (ap (filter (λ (a : ℕ × ActResult). a.0 == e)) (acts_of-push stops x) ∙ filter-append (λ (a : ℕ × ActResult). a.0 == e) (acts_of stops) (acts_at x.event x.acts)
    ∙ ap (λ y. filter (λ (a : ℕ × ActResult). a.0 == e) (acts_of stops) ++ y) (other_acts x.event e apart x.acts) ∙ append-nil (filter (λ (a : ℕ × ActResult). a.0 == e) (acts_of stops)))

dues_at-own : (plan : Plan) (seen : List Sight) (stops : List Suspension) (x : Suspension) → owed_at plan seen (stops ++ x ∷ []) x.event ≡ owed_at plan seen stops x.event ++ map of_act x.acts
dues_at-own plan seen stops x =
    let e = x.event in
    let begins : List Owed = map of_hit (filter_map (used_up_by plan e) seen) in
    let did : List (ℕ × ActResult) = filter (λ (a : ℕ × ActResult). a.0 == e) (acts_of stops) in
    ap (λ y. begins ++ map (λ (a : ℕ × ActResult). of_act a.1) y)
    (ap (filter (λ (a : ℕ × ActResult). a.0 == e)) (acts_of-push stops x) ∙ filter-append (λ (a : ℕ × ActResult). a.0 == e) (acts_of stops) (acts_at e x.acts))
    ∙ ap (λ y. begins ++ y) (map-append (λ (a : ℕ × ActResult). of_act a.1) did (filter (λ (a : ℕ × ActResult). a.0 == e) (acts_at e x.acts)) ∙ ap (λ y. map (λ (a : ℕ × ActResult). of_act a.1) did ++ y) (own_acts e x.acts))
    ∙ sym (append_assoc begins (map (λ (a : ℕ × ActResult). of_act a.1) did) (map of_act x.acts))

pub dues-asked : (plan : Plan) (seen : List Sight) (stops : List Suspension) (x : Suspension) (ts : List Told) (t : Told)
    → t.event.number ≡ x.event → list_all (λ (u : Told). nat_lt u.event.number x.event) ts ≡ true
    → owed_of plan seen (stops ++ x ∷ []) (ts ++ t ∷ []) ≡ owed_of plan seen stops (ts ++ t ∷ []) ++ map of_act x.acts
dues-asked plan seen stops x ts t number below =
    let before : Told → List Owed = λ u. owed_at plan seen stops u.event.number in
    let after : Told → List Owed = λ u. owed_at plan seen (stops ++ x ∷ []) u.event.number in
    let here : after t ≡ before t ++ map of_act x.acts =
    ap (owed_at plan seen (stops ++ x ∷ [])) number ∙ dues_at-own plan seen stops x ∙ ap (λ e. owed_at plan seen stops e ++ map of_act x.acts) (sym number) in
    flat_map-append after ts (t ∷ [])
    ∙ ap (λ y. y ++ flat_map after (t ∷ []))
    (flat_same after before (λ (u : Told). nat_lt u.event.number x.event)
    (λ u h. dues_at-later plan seen stops x u.event.number (λ e. let less : u.event.number < x.event = ltb-true u.event.number x.event h in omega (arith, less, e))) ts below)
    ∙ ap (λ y. flat_map before ts ++ y) (append-nil (after t) ∙ here ∙ ap (λ y. y ++ map of_act x.acts) (sym (append-nil (before t))))
    ∙ sym (append_assoc (flat_map before ts) (flat_map before (t ∷ [])) (map of_act x.acts))
    ∙ ap (λ y. y ++ map of_act x.acts) (sym (flat_map-append before ts (t ∷ [])))

replies_to_acts : (rs : List ActResult) → AreFor (map of_act rs) rs
replies_to_acts [] = tt
replies_to_acts (r ∷ rs) = (refl, replies_to_acts rs)

pub grown-asked : (plan : Plan) (start old new : List ActResult) (seen : List Sight) (stops : List Suspension) (x : Suspension) (ts : List Told) (t : Told)
    → t.event.number ≡ x.event → list_all (λ (u : Told). nat_lt u.event.number x.event) ts ≡ true → new ≡ old ++ x.acts
    → HasGrownBy (owed_of plan seen stops (ts ++ t ∷ [])) start old → HasGrownBy (owed_of plan seen (stops ++ x ∷ []) (ts ++ t ∷ [])) start new
grown-asked plan start old new seen stops x ts t number below replied g = record {
  grown = g.grown ++ x.acts;
  replies = replied ∙ ap (λ y. y ++ x.acts) g.replies ∙ append_assoc start g.grown x.acts;
  each = subst (λ ds. AreFor ds (g.grown ++ x.acts)) (sym (dues-asked plan seen stops x ts t number below))
      (replies-both (owed_of plan seen stops (ts ++ t ∷ [])) (map of_act x.acts) g.grown x.acts g.each (replies_to_acts x.acts));
}

-- ---- the answerer's list

kept_more : (keeps : ℕ → Bool) (x : Suspension) (list : List (Suspension × Answer)) (is : Bool) → keeps x.session ≡ is
    → (if is then list ++ (as_handed x, answer_of x) ∷ [] else list) ≡ list ++ kept_by keeps (x ∷ [])
kept_more keeps x list true h = ap (λ o. list ++ cons_option o []) (sym (cond-true (keeps x.session) (Some (as_handed x, answer_of x)) None h))
kept_more keeps x list false h = sym (append-nil list) ∙ ap (λ o. list ++ cons_option o []) (sym (cond-false (keeps x.session) (Some (as_handed x, answer_of x)) None h))

pub given-more : (admits : Suspension → Answer → Type 0) (keeps : ℕ → Bool) (first old new : List (Suspension × Answer)) (stops : List Suspension) (x : Suspension)
    → IsGiven admits keeps first old stops → IsGivenBy admits keeps old new x → IsGiven admits keeps first new (stops ++ x ∷ [])
given-more admits keeps first old new stops x i j = record {
  admitted = All-push (λ y. admits (as_handed y) (answer_of y)) stops x i.admitted j.admitted;
  kept = j.kept ∙ kept_more keeps x old (keeps x.session) refl ∙ ap (λ y. y ++ kept_by keeps (x ∷ [])) i.kept
      ∙ append_assoc first (kept_by keeps stops) (kept_by keeps (x ∷ [])) ∙ ap (λ y. first ++ y) (sym (filter_map-append (kept_stop keeps) stops (x ∷ [])));
}
