-- A draw, and what it adds to the board's answers.
use Rattle.std.proofs.Common.{◌≡◌, ℕ, ◌≤◌, Bool, true, false, ◌&&◌, ◌||◌, List, [], ◌∷◌, ◌++◌, length, Option, None, Some, ◌⊎◌, inl, inr, refl, sym, ap, ◌∙◌, subst, length-set}
use Rattle.std.specs.Prelude.{IfSome, nat_le, map}
use Rattle.std.specs.List.{AllByRecursion, list_all, list_any}
use Rattle.std.specs.Option.{ForSome}
use Rattle.std.proofs.lemmas.Bool.{and_from, le-leb}
use Rattle.std.proofs.lemmas.List.Elements.{recursion_from_All, All-from_recursion}
use Rattle.std.proofs.lemmas.List.Folds.{list_any-append}
use Rattle.pd_machine.specs.declared.event.Event.{Event}
use Rattle.pd_log.specs.declared.Entry.{Entry}
use Rattle.pd_plan.specs.declared.plan.Plan.{Plan}
use Rattle.pd_board.specs.declared.answers.ActResult.{ActResult}
use Rattle.pd_board.specs.declared.answers.Known.{Known}
use Rattle.pd_board.specs.declared.answers.Known.TheVariants.{Fresh, Attached, Disposed}
use Rattle.pd_board.specs.declared.answers.Drawn.{Drawn}
use Rattle.pd_board.specs.declared.answers.Drawn.TheVariants.{On, Missed, Off}
use Rattle.pd_board.specs.Answers.{TogglesUpTo, number_of, toggle_count, is_gone, is_attach, has_attach}
use Rattle.pd_board.specs.Standing.{Standing}
use Rattle.pd_record.specs.Logs.{is_off, is_number}
use Rattle.pd_record.specs.Turning.{IsTurned}
use Rattle.pd_record.specs.Acts.{fits_count, none_or, all_numbers, uses_up}
use Rattle.pd_guest.specs.Delivering.{HasReplies, with_entry}

-- ---- the counts of switches

fits_above : (o : Option ℕ) (d : Drawn) (n : ℕ) → number_of d ≡ Some n → ForSome o (λ c. c ≤ n) → none_or o (λ c. all_numbers (nat_le c) (d ∷ [])) ≡ true
fits_above None d n e h = refl
fits_above (Some c) d n e h = ap (λ x. none_or x (nat_le c) && true) e ∙ and_from _ _ (le-leb c n (h c refl)) refl

fits_off : (o : Option ℕ) → none_or o (λ c. all_numbers (nat_le c) (Off ∷ [])) ≡ true
fits_off None = refl
fits_off (Some c) = refl

counted_above : (b n : ℕ) (d : Drawn) (done : List (ℕ × ActResult)) → number_of d ≡ Some n → AllByRecursion (λ r. ForSome (toggle_count b r) (λ c. c ≤ n)) (map (λ a. a.1) done)
    → list_all (λ a. fits_count b (λ c m. nat_le c m) (d ∷ []) a.1) done ≡ true
counted_above b n d [] e h = refl
counted_above b n d (a ∷ rest) e h = and_from _ _ (fits_above (toggle_count b a.1) d n e h.0) (counted_above b n d rest e h.1)

counted_off : (b : ℕ) (done : List (ℕ × ActResult)) → list_all (λ a. fits_count b (λ c m. nat_le c m) (Off ∷ []) a.1) done ≡ true
counted_off b [] = refl
counted_off b (a ∷ rest) = and_from _ _ (fits_off (toggle_count b a.1)) (counted_off b rest)

numbered : (b n : ℕ) (d : Drawn) (done : List (ℕ × ActResult)) (s : Standing) → HasReplies done s → number_of d ≡ Some n → TogglesUpTo b n s.replies
    → list_all (λ a. fits_count b (λ c m. nat_le c m) (d ∷ []) a.1) done ≡ true
numbered b n d done s has e h = counted_above b n d done e (recursion_from_All (λ r. ForSome (toggle_count b r) (λ c. c ≤ n)) (map (λ a. a.1) done) (has.counts b n h))

-- no switch of the acts so far counted the number that a draw took
pub counted-by : (b : ℕ) (d : Drawn) (done : List (ℕ × ActResult)) (s : Standing) → HasReplies done s → IfSome (number_of d) (λ n. TogglesUpTo b n s.replies)
    → list_all (λ a. fits_count b (λ c m. nat_le c m) (d ∷ []) a.1) done ≡ true
counted-by b (On n) done s has h = numbered b n (On n) done s has refl h
counted-by b (Missed n) done s has h = numbered b n (Missed n) done s has refl h
counted-by b Off done s has h = counted_off b done

-- ---- the board's answers grow

first_of : {X : Type 0} (P : X → Type 0) (xs ys : List X) → AllByRecursion P (xs ++ ys) → AllByRecursion P xs
first_of P [] ys h = tt
first_of P (x ∷ xs) ys h = (h.0, first_of P xs ys h.1)

any_of_first : (test : ActResult → Bool) (xs ys : List ActResult) → list_any test (xs ++ ys) ≡ false → list_any test xs ≡ false
any_of_first test xs ys h = no_left (list_any test xs) (list_any test ys) (sym (list_any-append test xs ys) ∙ h)
  where
    no_left : (x y : Bool) → (x || y) ≡ false → x ≡ false
    no_left true y h = h
    no_left false y h = refl

pub replies-grow : (done : List (ℕ × ActResult)) (old new : Standing) (more : List ActResult) → new.replies ≡ old.replies ++ more → HasReplies done old → HasReplies done new
replies-grow done old new more e has = record {
  counts = λ b n h.
      let test : ActResult → Type 0 = λ r. ForSome (toggle_count b r) (λ c. c ≤ n) in
      has.counts b n (All-from_recursion test old.replies (first_of test old.replies more (recursion_from_All test (old.replies ++ more) (subst (λ rs. TogglesUpTo b n rs) e h))));
  attaches = λ b h. has.attaches b (any_of_first (is_attach b) old.replies more (ap (has_attach b) (sym e) ∙ h));
}

pub replies-same : (done : List (ℕ × ActResult)) (old new : Standing) → new.replies ≡ old.replies → HasReplies done old → HasReplies done new
replies-same done old new e has = record {
  counts = λ b n h. has.counts b n (subst (λ rs. TogglesUpTo b n rs) e h);
  attaches = λ b h. has.attaches b (ap (has_attach b) (sym e) ∙ h);
}

-- ---- logs

pub length-with_entry : (context : ℕ) (e : Event) (b : ℕ) (o : Option ℕ) (logs : List (List Entry)) → length (with_entry context e b o logs) ≡ length logs
length-with_entry context e b None logs = refl
length-with_entry context e b (Some p) logs = length-set logs b _

-- ---- what a draw makes of the binding

alive_by : (k : Known) → is_gone k ≡ false → k ≡ Disposed → ⊥
alive_by Fresh h e = cc
alive_by Attached h e = cc
alive_by Disposed h e = cc

attached_by : (k : Known) (d : Drawn) → is_number d ≡ true → IfSome (number_of d) (λ _. k ≡ Attached) → k ≡ Fresh → ⊥
attached_by k (On n) h i e = cc
attached_by k (Missed n) h i e = cc
attached_by k Off h i e = cc

is_the_off : (d : Drawn) → is_off d ≡ true → d ≡ Off
is_the_off (On n) h = cc
is_the_off (Missed n) h = cc
is_the_off Off h = refl

ends_off : (old new : Known) → (new ≡ Disposed) ⊎ ((old ≡ Fresh) × (new ≡ Fresh)) → (new ≡ Fresh → ⊥) → new ≡ Disposed
ends_off old new (inl e) f = e
ends_off old new (inr e) f = absurd (f e.1)

begins_off : (old new : Known) → (new ≡ Disposed) ⊎ ((old ≡ Fresh) × (new ≡ Fresh)) → new ≡ Fresh → old ≡ Fresh
begins_off old new (inl e) f = cc
begins_off old new (inr e) f = e.0

pub turned : (plan : Plan) (b : ℕ) (done : List (ℕ × ActResult)) (old : Known) (d : Drawn) (new : Known) → is_gone old ≡ false → uses_up plan b d ≡ false
    → IfSome (number_of d) (λ _. new ≡ Attached) → (d ≡ Off → (new ≡ Disposed) ⊎ ((old ≡ Fresh) × (new ≡ Fresh)))
    → list_all (λ a. fits_count b (λ c m. nat_le c m) (d ∷ []) a.1) done ≡ true → IsTurned plan b done old d new
turned plan b done old d new alive unused number off counted = record {
  number = λ h. attached_by new d h number;
  alive = λ h. alive_by old alive;
  used = λ h. absurd (no (sym h ∙ unused));
  off = λ h. ends_off old new (off (is_the_off d h));
  fresh = λ h. begins_off old new (off (is_the_off d h));
  stays = λ e. absurd (alive_by old alive e);
  counted = counted;
}
  where
    no : true ≡ false → ⊥
    no e = cc

used_on : (plan : Plan) (b : ℕ) (d : Drawn) → uses_up plan b d ≡ true → is_off d ≡ true → ⊥
used_on plan b (On n) h i = cc
used_on plan b (Missed n) h i = cc
used_on plan b Off h i = cc

pub turned-used : (plan : Plan) (b : ℕ) (done : List (ℕ × ActResult)) (old : Known) (d : Drawn) (new : Known) → is_gone old ≡ false → uses_up plan b d ≡ true → new ≡ Disposed
    → list_all (λ a. fits_count b (λ c m. nat_le c m) (d ∷ []) a.1) done ≡ true → IsTurned plan b done old d new
turned-used plan b done old d new alive used gone counted = record {
  number = λ h e. not_both (sym e ∙ gone);
  alive = λ h. alive_by old alive;
  used = λ h. gone;
  off = λ h. absurd (used_on plan b d used h);
  fresh = λ h. absurd (used_on plan b d used h);
  stays = λ e. gone;
  counted = counted;
}
  where
    not_both : Fresh ≡ Disposed → ⊥
    not_both e = cc
