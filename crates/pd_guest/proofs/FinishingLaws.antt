-- One more observer is served at an end.
use Rattle.std.proofs.Common.{◌≡◌, ℕ, ◌<◌, ◌≤◌, ◌+◌, Bool, true, false, ◌&&◌, not, List, [], ◌∷◌, ◌++◌, length, get_or, drop, drop-cons, add-one, zero, suc, refl, sym, ap, ◌∙◌, subst, arith}
use Rattle.std.specs.Prelude.{nat_lt, ◌==◌}
use Rattle.std.specs.List.{list_all}
use Rattle.std.proofs.lemmas.Bool.{and_parts, and_right, or_right, ltb-true}
use Rattle.pd_machine.specs.Events.{Told}
use Rattle.pd_board.specs.declared.answers.Known.{Known}
use Rattle.pd_board.specs.declared.answers.ActResult.{ActResult}
use Rattle.pd_board.specs.declared.answers.Sight.{Sight}
use Rattle.pd_board.specs.Standing.{Standing}
use Rattle.pd_record.specs.Logs.{place_of}
use Rattle.pd_suspend.specs.Steps.{is_enter}
use Rattle.pd_record.specs.Life.{rises}
use Rattle.pd_record.specs.Serving.{IsServing, without, ons_at, is_in}
use Rattle.pd_record.proofs.Lists.{list_all-push}
use Rattle.pd_record.proofs.ServingLaws.{serving-drawn, serving-passed, serving-along}
use Rattle.pd_record.proofs.OnLaws.{ons-other, first_is_next, rest_is_left}
use Rattle.pd_guest.specs.declared.deliver.Deliveries.{Deliveries}
use Rattle.pd_guest.specs.Delivering.{spent_by, with_entry}
use Rattle.pd_guest.specs.Moment.{At}
use Rattle.pd_guest.specs.Finishing.{IsFinished, drawn, passed, IsFit, IsUsed, IsFinishing}
use Rattle.pd_guest.proofs.DeliveringLaws.{length-with_entry, replies-grow, replies-same}
use Rattle.pd_guest.proofs.OfferingLaws.{logged_entry, no_acts}

pub split_drop : (xs : List ℕ) (i : ℕ) → i < length xs → drop i xs ≡ get_or xs i 0 ∷ drop (i + 1) xs
split_drop xs i h = rw (add-one, drop-cons xs i 0)

pub dropped : (xs : List ℕ) (i : ℕ) → length xs ≤ i → drop i xs ≡ []
dropped [] zero h = refl
dropped [] (suc i) h = refl
dropped (x ∷ xs) zero h = absurd (omega (arith, h))
dropped (x ∷ xs) (suc i) h = dropped xs i (omega (arith, h))

not_equal : (x y : Bool) → (not x && y) ≡ true → x ≡ false
not_equal true y h = cc
not_equal false y h = refl

-- a number of the rest isn't the first
apart_from_first : (b c : ℕ) (bs : List ℕ) → rises (b ∷ bs) ≡ true → is_in bs c ≡ true → (c == b) ≡ false
apart_from_first b c bs h k =
    let w : without b (is_in (b ∷ bs)) c ≡ true = sym (rest_is_left b c bs h) ∙ k in
    not_equal (c == b) (is_in (b ∷ bs) c) w

pub fit-more : (m : At) (b : ℕ) (bs : List ℕ) (old new : Standing) (kept after : Deliveries)
    → IsFit (b ∷ bs) old kept → IsFinished m b old new kept after → IsFit bs new after
fit-more m b bs old new kept after i (drawn d x) =
    let parts = and_parts (list_all (nat_lt b) bs) (rises bs) i.rising in
    let t = x.taken in
    let drew = t.drawn [] (no_acts old) in
    record {
      is_open = ap (λ s. s.ended) t.steady ∙ i.is_open;
      count = ap length x.logs ∙ length-with_entry kept.context m.told.event b (place_of d) kept.logs.items ∙ i.count ∙ sym (ap (λ s. length s.rows) drew.table);
      rising = parts.1;
      below = ap (λ s. list_all (λ c. nat_lt c (length s.rows)) bs) drew.table ∙ (and_parts (nat_lt b (length old.table.rows)) (list_all (λ c. nat_lt c (length old.table.rows)) bs) i.below).1;
      known = λ c h k. i.known c (or_right (b == c) (is_in bs c) h) (sym (drew.others c (apart_from_first b c bs i.rising h)) ∙ k);
      nothing_due = λ c. t.due c ∙ and_right (not (c == b)) (old.due c) (i.nothing_due c);
      spare = omega (arith, t.spare, i.spare);
      share = omega (arith, t.share, i.share);
    }
fit-more m b bs old new kept after i (passed x same) =
    let parts = and_parts (list_all (nat_lt b) bs) (rises bs) i.rising in
    record {
      is_open = ap (λ s. s.ended) x.steady ∙ i.is_open;
      count = ap (λ y. length y.logs.items) same ∙ i.count ∙ sym (ap (λ s. length s.rows) x.passed.table);
      rising = parts.1;
      below = ap (λ s. list_all (λ c. nat_lt c (length s.rows)) bs) x.passed.table ∙ (and_parts (nat_lt b (length old.table.rows)) (list_all (λ c. nat_lt c (length old.table.rows)) bs) i.below).1;
      known = λ c h k. i.known c (or_right (b == c) (is_in bs c) h) (sym (ap (λ f. f c) x.passed.known) ∙ k);
      nothing_due = λ c. x.due c (i.nothing_due c);
      spare = omega (arith, x.spare, i.spare);
      share = omega (arith, x.share, i.share);
    }

pub used-more : (m : At) (n b : ℕ) (first old new : Standing) (before kept after : Deliveries)
    → IsUsed m.told.event.number n first old before kept → IsFinished m b old new kept after → IsUsed m.told.event.number (n + 1) first new before after
used-more m n b first old new before kept after i (drawn d x) =
    let t = x.taken in
    record {
      steady = t.steady ∙ i.steady;
      logs = ap length x.logs ∙ length-with_entry kept.context m.told.event b (place_of d) kept.logs.items ∙ i.logs;
      context = x.context ∙ i.context;
      share = omega (arith, t.share, i.share);
      cleared = t.cleared ∙ i.cleared;
      ons = λ y h. ap (λ ss. ons_at ss y) (t.drawn [] (no_acts old)).sights ∙ ons-other old.sights (record { event = m.told.event.number; binding = b; drawn = d }) y h ∙ i.ons y h;
    }
used-more m n b first old new before kept after i (passed x same) = record {
  steady = x.steady ∙ i.steady;
  logs = ap (λ y. length y.logs.items) same ∙ i.logs;
  context = ap (λ y. y.context) same ∙ i.context;
  share = omega (arith, x.share, i.share);
  cleared = x.cleared ∙ i.cleared;
  ons = λ y h. ap (λ ss. ons_at ss y) x.passed.sights ∙ i.ons y h;
}

pub finishing-more : (m : At) (start : ℕ → Known) (ts : List Told) (done : List (ℕ × ActResult)) (b : ℕ) (bs : List ℕ) (old new : Standing) (kept after : Deliveries)
    → is_enter m.told.event.kind ≡ false → IsFit (b ∷ bs) old kept → IsFinished m b old new kept after
    → IsFinishing m start ts done (b ∷ bs) old kept → IsFinishing m start ts done bs new after
finishing-more m start ts done b bs old new kept after end fit (drawn d x) i =
    let n = m.told.event.number in
    let s : Sight = record { event = n; binding = b; drawn = d } in
    let t = x.taken in
    let drew = t.drawn done i.stood in
    let low : nat_lt b (length old.table.rows) ≡ true = (and_parts (nat_lt b (length old.table.rows)) (list_all (λ c. nat_lt c (length old.table.rows)) bs) fit.below).0 in
    let few : b < length kept.logs.items = omega (arith, ltb-true b (length old.table.rows) low, fit.count) in
    record {
      serving = subst (λ z. IsServing m.plan m.program z start ts m.told done (is_in bs) new after.logs.items) (sym x.context)
          (serving-along m.plan m.program kept.context start ts m.told done (without b (is_in (b ∷ bs))) (is_in bs) new after.logs.items (λ c. rest_is_left b c bs fit.rising)
          (subst (λ z. IsServing m.plan m.program kept.context start ts m.told done (without b (is_in (b ∷ bs))) new z) (sym x.logs)
          (serving-drawn m.plan m.program kept.context start ts m.told done (is_in (b ∷ bs)) old new kept.logs.items (with_entry kept.context m.told.event b (place_of d) kept.logs.items) b d
          i.serving (first_is_next b bs fit.rising) (logged_entry kept.context m.told b d kept.logs.items few) drew)));
      stood = replies-grow done old new (spent_by _ b t.disposal) t.replies i.stood;
      seen = x.seen ∙ ap (λ z. z ++ s ∷ []) i.seen ∙ sym drew.sights;
      bound = ap (λ z. list_all (λ w. nat_lt w.binding (length z.rows)) new.sights) drew.table
          ∙ ap (λ z. list_all (λ w. nat_lt w.binding (length old.table.rows)) z) drew.sights
          ∙ list_all-push (λ w. nat_lt w.binding (length old.table.rows)) old.sights s i.bound low;
    }
finishing-more m start ts done b bs old new kept after end fit (passed x kept_is) i = record {
  serving = subst (λ z. IsServing m.plan m.program z.context start ts m.told done (is_in bs) new z.logs.items) (sym kept_is)
      (serving-along m.plan m.program kept.context start ts m.told done (without b (is_in (b ∷ bs))) (is_in bs) new kept.logs.items (λ c. rest_is_left b c bs fit.rising)
      (serving-passed m.plan m.program kept.context start ts m.told done (is_in (b ∷ bs)) old new kept.logs.items b i.serving (first_is_next b bs fit.rising) x.gone end x.passed));
  stood = replies-same done old new x.replies i.stood;
  seen = ap (λ z. z.seen.items) kept_is ∙ i.seen ∙ sym x.passed.sights;
  bound = ap (λ z. list_all (λ w. nat_lt w.binding (length z.rows)) new.sights) x.passed.table
      ∙ ap (λ z. list_all (λ w. nat_lt w.binding (length old.table.rows)) z) x.passed.sights ∙ i.bound;
}
