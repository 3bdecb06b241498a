-- What the board's answers have grown by, one call after another.
use Rattle.std.proofs.Common.{◌≡◌, ℕ, true, false, not, ◌&&◌, List, [], ◌∷◌, ◌++◌, map, Some, None, refl, sym, ap, ◌∙◌, subst, arith}
use Rattle.std.specs.Prelude.{filter, nat_lt, nat_le, ◌==◌}
use Rattle.std.specs.List.{list_all, filter_map, cons_option}
use Rattle.std.proofs.lemmas.Bool.{and_parts, and_from, and_right, cond-true, cond-false, ltb-true, eqb-true, le-leb, ne_eqb, eq-eqb}
use Rattle.std.proofs.lemmas.List.{append-nil, map-append}
use Rattle.std.proofs.lemmas.List.Elements.{filter-append, filter_map-append}
use Rattle.std.proofs.lemmas.Grind.{flat_map-append}
use Rattle.pd_machine.specs.Events.{Told}
use Rattle.pd_plan.specs.declared.plan.Plan.{Plan}
use Rattle.pd_board.specs.declared.answers.Drawn.{Drawn}
use Rattle.pd_board.specs.declared.answers.ActResult.{ActResult}
use Rattle.pd_board.specs.declared.answers.Sight.{Sight}
use Rattle.pd_board.specs.Answers.{is_dispose}
use Rattle.pd_suspend.specs.declared.suspension.Suspension.{Suspension}
use Rattle.pd_suspend.specs.Answers.{acts_of}
use Rattle.pd_record.specs.Acts.{uses_up}
use Rattle.pd_record.specs.Replies.{used_up_by, Owed, of_act, of_hit, owed_at, owed_of, IsFor, AreFor, HasGrownBy}
use Rattle.pd_record.specs.Replying.{owed_to}
use Rattle.pd_record.proofs.Lists.{list_all-weaker}
use Rattle.pd_record.proofs.WholeLaws.{unused, undone, owed_of-later, owed_of-next}

-- ---- one more answer

append-of : {X : Type 0} (xs ys zs : List X) → (xs ++ ys) ++ zs ≡ xs ++ (ys ++ zs)
append-of [] ys zs = refl
append-of (x ∷ xs) ys zs = ap (λ l. x ∷ l) (append-of xs ys zs)

are-push : (os : List Owed) (xs : List ActResult) (o : Owed) (x : ActResult) → AreFor os xs → IsFor o x → AreFor (os ++ o ∷ []) (xs ++ x ∷ [])
are-push [] [] o x h k = (k, tt)
are-push [] (y ∷ ys) o x h k = absurd h
are-push (p ∷ os) [] o x h k = absurd h
are-push (p ∷ os) (y ∷ ys) o x h k = (h.0, are-push os ys o x h.1 k)

-- nothing was asked yet
pub grown-none : (start : List ActResult) → HasGrownBy [] start start
grown-none start = record { grown = []; replies = sym (append-nil start); each = tt }

-- one more was asked, and answered
pub grown-more : (os : List Owed) (start now : List ActResult) (o : Owed) (x : ActResult) → HasGrownBy os start now → IsFor o x → HasGrownBy (os ++ o ∷ []) start (now ++ x ∷ [])
grown-more os start now o x i k = record {
  grown = i.grown ++ x ∷ [];
  replies = ap (λ ys. ys ++ x ∷ []) i.replies ∙ append-of start i.grown (x ∷ []);
  each = are-push os i.grown o x i.each k;
}

-- ---- an event

module _ (plan : Plan) (stops : List Suspension) (ts : List Told) (n : ℕ) (below : list_all (λ u. nat_lt u.event.number n) ts ≡ true) where
  not_yet : (s : Sight) → nat_lt s.event n ≡ true → not (s.event == n) ≡ true
  not_yet s h = ap not (ne_eqb s.event n (λ e. omega (arith, ltb-true s.event n h, e)))

  -- event n begins: nothing was seen there so far
  pub owed-begins : (seen : List Sight) → list_all (λ s. nat_lt s.event n) seen ≡ true → owed_to plan seen stops ts n [] ≡ owed_of plan seen stops ts
  owed-begins seen h =
      ap (λ bs. owed_of plan seen stops ts ++ (map of_hit bs ++ [])) (unused plan n seen (list_all-weaker (λ s. nat_lt s.event n) (λ s. not (s.event == n)) not_yet seen h))
      ∙ append-nil (owed_of plan seen stops ts)

  earlier-same : (seen : List Sight) (s : Sight) → s.event ≡ n → owed_of plan (seen ++ s ∷ []) stops ts ≡ owed_of plan seen stops ts
  earlier-same seen s at =
      ap (λ xs. owed_of plan (seen ++ s ∷ []) xs ts) (sym (append-nil stops))
      ∙ owed_of-later plan seen (s ∷ []) stops [] ts n below (and_from _ _ (le-leb n s.event (omega (arith, at))) refl) refl

  -- a draw that uses nothing up adds nothing
  pub owed-drawn : (seen : List Sight) (b : ℕ) (d : Drawn) → uses_up plan b d ≡ false
      → owed_to plan (seen ++ record { event = n; binding = b; drawn = d } ∷ []) stops ts n [] ≡ owed_to plan seen stops ts n []
  owed-drawn seen b d h =
      let s : Sight = record { event = n; binding = b; drawn = d } in
      let none : used_up_by plan n s ≡ None = cond-false ((n == n) && uses_up plan b d) (Some b) None (and_right (n == n) (uses_up plan b d) h) in
      ap (λ xs. xs ++ (map of_hit (filter_map (used_up_by plan n) (seen ++ s ∷ [])) ++ [])) (earlier-same seen s refl)
      ∙ ap (λ bs. owed_of plan seen stops ts ++ (map of_hit bs ++ []))
      (filter_map-append (used_up_by plan n) seen (s ∷ []) ∙ ap (λ o. filter_map (used_up_by plan n) seen ++ cons_option o []) none ∙ append-nil (filter_map (used_up_by plan n) seen))

  -- a draw that uses the binding up adds its disposal
  pub owed-used : (seen : List Sight) (b : ℕ) (d : Drawn) → uses_up plan b d ≡ true
      → owed_to plan (seen ++ record { event = n; binding = b; drawn = d } ∷ []) stops ts n [] ≡ owed_to plan seen stops ts n [] ++ of_hit b ∷ []
  owed-used seen b d h =
      let s : Sight = record { event = n; binding = b; drawn = d } in
      let own : List ℕ = filter_map (used_up_by plan n) seen in
      let some : used_up_by plan n s ≡ Some b = cond-true ((n == n) && uses_up plan b d) (Some b) None (and_from (n == n) (uses_up plan b d) (eq-eqb n n refl) h) in
      ap (λ xs. xs ++ (map of_hit (filter_map (used_up_by plan n) (seen ++ s ∷ [])) ++ [])) (earlier-same seen s refl)
      ∙ ap (λ bs. owed_of plan seen stops ts ++ (map of_hit bs ++ [])) (filter_map-append (used_up_by plan n) seen (s ∷ []) ∙ ap (λ o. own ++ cons_option o []) some)
      ∙ ap (λ xs. owed_of plan seen stops ts ++ xs) (append-nil (map of_hit (own ++ b ∷ [])) ∙ map-append of_hit own (b ∷ []))
      ∙ sym (append-of (owed_of plan seen stops ts) (map of_hit own) (of_hit b ∷ []))
      ∙ ap (λ xs. (owed_of plan seen stops ts ++ xs) ++ of_hit b ∷ []) (sym (append-nil (map of_hit own)))

  -- an act adds its answer
  pub owed-act : (seen : List Sight) (acts : List ActResult) (r : ActResult)
      → owed_to plan seen stops ts n (acts ++ r ∷ []) ≡ owed_to plan seen stops ts n acts ++ of_act r ∷ []
  owed-act seen acts r =
      let before : List Owed = owed_of plan seen stops ts in
      let hits : List Owed = map of_hit (filter_map (used_up_by plan n) seen) in
      ap (λ xs. before ++ (hits ++ xs)) (map-append of_act acts (r ∷ []))
      ∙ ap (λ xs. before ++ xs) (sym (append-of hits (map of_act acts) (of_act r ∷ [])))
      ∙ sym (append-of before (hits ++ map of_act acts) (of_act r ∷ []))

  map-once : (xs : List (ℕ × ActResult)) → map (λ (a : ℕ × ActResult). of_act a.1) xs ≡ map of_act (map (λ (a : ℕ × ActResult). a.1) xs)
  map-once [] = refl
  map-once (x ∷ xs) = ap (λ l. of_act x.1 ∷ l) (map-once xs)

  all-here : (xs : List (ℕ × ActResult)) → list_all (λ a. a.0 == n) xs ≡ true → filter (λ a. a.0 == n) xs ≡ xs
  all-here [] h = refl
  all-here (x ∷ xs) h =
      let parts = and_parts (x.0 == n) (list_all (λ a. a.0 == n) xs) h in
      cond-true (x.0 == n) (x ∷ filter (λ a. a.0 == n) xs) (filter (λ a. a.0 == n) xs) parts.0 ∙ ap (λ l. x ∷ l) (all-here xs parts.1)

  -- event n is over: `more` are its suspensions, whose acts were answered so
  pub owed-over : (seen : List Sight) (more : List Suspension) (t : Told) → t.event.number ≡ n
      → list_all (λ a. nat_lt a.0 n) (acts_of stops) ≡ true → list_all (λ a. a.0 == n) (acts_of more) ≡ true
      → owed_of plan seen (stops ++ more) (ts ++ t ∷ []) ≡ owed_to plan seen stops ts n (map (λ a. a.1) (acts_of more))
  owed-over seen more t at old new =
      let hits : List Owed = map of_hit (filter_map (used_up_by plan n) seen) in
      let from : list_all (λ a. nat_le n a.0) (acts_of more) ≡ true =
      list_all-weaker (λ a. a.0 == n) (λ a. nat_le n a.0) (λ a h. le-leb n a.0 (omega (arith, eqb-true a.0 n h))) (acts_of more) new in
      let gone : filter (λ a. a.0 == n) (acts_of stops) ≡ [] =
      undone n (acts_of stops) (list_all-weaker (λ a. nat_lt a.0 n) (λ a. not (a.0 == n)) (λ a h. ap not (ne_eqb a.0 n (λ e. omega (arith, ltb-true a.0 n h, e)))) (acts_of stops) old) in
      let here : filter (λ a. a.0 == n) (acts_of (stops ++ more)) ≡ acts_of more =
      ap (filter (λ a. a.0 == n)) (flat_map-append (λ x. map (λ r. (x.event, r)) x.acts) stops more)
      ∙ filter-append (λ a. a.0 == n) (acts_of stops) (acts_of more)
      ∙ ap (λ l. l ++ filter (λ a. a.0 == n) (acts_of more)) gone ∙ all-here (acts_of more) new in
      ap (λ ss. owed_of plan ss (stops ++ more) (ts ++ t ∷ [])) (sym (append-nil seen))
      ∙ owed_of-next plan seen [] stops more ts t n below refl from
      ∙ ap (λ ss. owed_of plan seen stops ts ++ owed_at plan ss (stops ++ more) t.event.number) (append-nil seen)
      ∙ ap (λ e. owed_of plan seen stops ts ++ owed_at plan seen (stops ++ more) e) at
      ∙ ap (λ l. owed_of plan seen stops ts ++ (hits ++ map (λ a. of_act a.1) l)) here
      ∙ ap (λ l. owed_of plan seen stops ts ++ (hits ++ l)) (map-once (acts_of more))

  -- ---- the same of what the board's answers have grown by

  pub replying-begins : (start now : List ActResult) (seen : List Sight) → list_all (λ s. nat_lt s.event n) seen ≡ true
      → HasGrownBy (owed_of plan seen stops ts) start now → HasGrownBy (owed_to plan seen stops ts n []) start now
  replying-begins start now seen h i = subst (λ os. HasGrownBy os start now) (sym (owed-begins seen h)) i

  pub replying-drawn : (start now : List ActResult) (seen : List Sight) (b : ℕ) (d : Drawn) → uses_up plan b d ≡ false
      → HasGrownBy (owed_to plan seen stops ts n []) start now
      → HasGrownBy (owed_to plan (seen ++ record { event = n; binding = b; drawn = d } ∷ []) stops ts n []) start now
  replying-drawn start now seen b d h i = subst (λ os. HasGrownBy os start now) (sym (owed-drawn seen b d h)) i

  pub replying-used : (start now : List ActResult) (seen : List Sight) (b : ℕ) (d : Drawn) (x : ActResult) → uses_up plan b d ≡ true → is_dispose b x ≡ true
      → HasGrownBy (owed_to plan seen stops ts n []) start now
      → HasGrownBy (owed_to plan (seen ++ record { event = n; binding = b; drawn = d } ∷ []) stops ts n []) start (now ++ x ∷ [])
  replying-used start now seen b d x h k i =
      subst (λ os. HasGrownBy os start (now ++ x ∷ [])) (sym (owed-used seen b d h)) (grown-more (owed_to plan seen stops ts n []) start now (of_hit b) x i k)

  pub replying-act : (start now : List ActResult) (seen : List Sight) (acts : List ActResult) (r : ActResult)
      → HasGrownBy (owed_to plan seen stops ts n acts) start now → HasGrownBy (owed_to plan seen stops ts n (acts ++ r ∷ [])) start (now ++ r ∷ [])
  replying-act start now seen acts r i =
      subst (λ os. HasGrownBy os start (now ++ r ∷ [])) (sym (owed-act seen acts r)) (grown-more (owed_to plan seen stops ts n acts) start now (of_act r) r i refl)

  pub replying-over : (start now : List ActResult) (seen : List Sight) (more : List Suspension) (t : Told) → t.event.number ≡ n
      → list_all (λ a. nat_lt a.0 n) (acts_of stops) ≡ true → list_all (λ a. a.0 == n) (acts_of more) ≡ true
      → HasGrownBy (owed_to plan seen stops ts n (map (λ a. a.1) (acts_of more))) start now
      → HasGrownBy (owed_of plan seen (stops ++ more) (ts ++ t ∷ [])) start now
  replying-over start now seen more t at old new i = subst (λ os. HasGrownBy os start now) (sym (owed-over seen more t at old new)) i
