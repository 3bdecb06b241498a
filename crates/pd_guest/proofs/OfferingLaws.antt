-- One more binding of a load is served.
use Rattle.std.proofs.Common.{◌≡◌, ℕ, ◌<◌, ◌≤◌, ◌+◌, Bool, true, false, ◌&&◌, not, List, [], ◌∷◌, ◌++◌, length, Option, None, Some, refl, sym, ap, ◌∙◌, subst, ⊎_elim, arith, get_or-set_same, get_or-set_other}
use Rattle.std.specs.Prelude.{nat_lt, nat_le, ◌==◌, slice_get, filter}
use Rattle.std.specs.List.{list_all}
use Rattle.std.proofs.lemmas.Bool.{and_parts, and_from, and_left, and_right, cond-true, cond-false, leb-true, lt-ltb, lt-leb, le-leb, eqb-true, eqb-false, cases_Bool, cases_lt}
use Rattle.std.proofs.lemmas.List.{append-nil}
use Rattle.std.proofs.lemmas.List.Elements.{filter-append}
use Rattle.pd_machine.specs.Events.{Told}
use Rattle.pd_log.specs.declared.Entry.{Entry}
use Rattle.pd_plan.specs.declared.plan.Plan.{Plan}
use Rattle.pd_plan.specs.declared.plan.BindingSpec.{BindingSpec}
use Rattle.pd_filter.specs.Matching.{is_about, table_of}
use Rattle.pd_break.specs.Hits.{is_observer}
use Rattle.pd_condition.specs.Truths.{truth_for, is_false}
use Rattle.pd_board.specs.declared.answers.ActResult.{ActResult}
use Rattle.pd_board.specs.declared.answers.Known.{Known}
use Rattle.pd_board.specs.declared.answers.Drawn.{Drawn}
use Rattle.pd_board.specs.declared.answers.Drawn.TheVariants.{On, Missed, Off}
use Rattle.pd_board.specs.declared.answers.Sight.{Sight}
use Rattle.pd_board.specs.Bits.{IsLeastFrom}
use Rattle.pd_board.specs.Standing.{Standing, in_row}
use Rattle.pd_record.specs.Logs.{place_of, is_on, is_met_by, is_refused_by, has_binding, some_and, entry_of}
use Rattle.pd_suspend.specs.Steps.{is_enter}
use Rattle.pd_record.specs.Serving.{log_at, IsServing, without, IsNext, IsLogged, ons_at}
use Rattle.pd_record.proofs.Lists.{list_all-push}
use Rattle.pd_record.proofs.Matching.{rows_are}
use Rattle.pd_record.proofs.ServingLaws.{serving-drawn, serving-swept, serving-refused, serving-quiet, serving-along}
use Rattle.pd_record.proofs.OnLaws.{ons-other, ons-on, ons-off}
use Rattle.pd_guest.specs.declared.deliver.Deliveries.{Deliveries}
use Rattle.pd_guest.specs.Delivering.{IsDelivered, HasReplies, spent_by, with_entry}
use Rattle.pd_guest.specs.Moment.{At, is_false_at, is_observed, observers_at}
use Rattle.pd_guest.specs.Offering.{with_on, IsLeftOut, IsOffered, drawn, refused, swept, left_from, left_for, IsSpent, IsOffering}
use Rattle.pd_guest.proofs.DeliveringLaws.{length-with_entry, replies-grow, replies-same}

-- ---- what is left

true_false : true ≡ false → ⊥
true_false e = cc

not_below : (has : ℕ → Bool) (from b c : ℕ) → IsLeastFrom has from b → has c ≡ true → from ≤ c → b ≤ c
not_below has from b c i h k =
    ⊎_elim
    (λ (below : c < b). absurd (true_false (sym h ∙ i.least c k below)))
    (λ (above : b ≤ c). above)
    (cases_lt c b)

left_above : (has : ℕ → Bool) (from b c : ℕ) → IsLeastFrom has from b → has c ≡ true → from ≤ c → left_from has (b + 1) c ≡ without b (left_from has from) c
left_above has from b c i h high =
    let above : b ≤ c = not_below has from b c i h high in
    ⊎_elim
    (λ (same : (c == b) ≡ true).
    and_right (has c) (nat_le (b + 1) c) (lt-leb (b + 1) c (omega (arith, eqb-true c b same)))
    ∙ sym (ap (λ x. not x && left_from has from c) same))
    (λ (apart : (c == b) ≡ false).
    and_from _ _ h (le-leb (b + 1) c (omega (arith, above, eqb-false c b apart)))
    ∙ sym (ap (λ x. not x && left_from has from c) apart ∙ and_from _ _ h (le-leb from c high)))
    (cases_Bool (c == b))

left_at : (has : ℕ → Bool) (from b c : ℕ) → IsLeastFrom has from b → has c ≡ true → left_from has (b + 1) c ≡ without b (left_from has from) c
left_at has from b c i h =
    ⊎_elim
    (λ (low : c < from).
    and_right (has c) (nat_le (b + 1) c) (lt-leb (b + 1) c (omega (arith, i.from)))
    ∙ sym (and_right (not (c == b)) (left_from has from c) (and_right (has c) (nat_le from c) (lt-leb from c low))))
    (λ (high : from ≤ c). left_above has from b c i h high)
    (cases_lt c from)

left_more : (has : ℕ → Bool) (from b : ℕ) → IsLeastFrom has from b → (c : ℕ) → left_from has (b + 1) c ≡ without b (left_from has from) c
left_more has from b i c =
    ⊎_elim
    (λ (h : has c ≡ true). left_at has from b c i h)
    (λ (h : has c ≡ false). and_left (has c) (nat_le (b + 1) c) h ∙ sym (and_right (not (c == b)) (left_from has from c) (and_left (has c) (nat_le from c) h)))
    (cases_Bool (has c))

regroup : (x y z : Bool) → ((x && y) && z) ≡ (x && (y && z))
regroup true y z = refl
regroup false y z = refl

-- one that is to be served goes, and it is the least
met_more : (m : At) (has : ℕ → Bool) (from b : ℕ) → IsLeastFrom has from b → (c : ℕ) → left_for m has (b + 1) c ≡ without b (left_for m has from) c
met_more m has from b i c =
    ap (λ x. x && is_met_by m.plan m.program c m.told) (left_more has from b i c)
    ∙ regroup (not (c == b)) (left_from has from c) (is_met_by m.plan m.program c m.told)

next_met : (m : At) (has : ℕ → Bool) (from b : ℕ) → IsLeastFrom has from b → is_met_by m.plan m.program b m.told ≡ true → IsNext b (left_for m has from)
next_met m has from b i met = record {
  left_is = and_from _ _ (and_from _ _ i.passes (le-leb from b i.from)) met;
  least = λ c h.
      let outer = and_parts (left_from has from c) (is_met_by m.plan m.program c m.told) h in
      let parts = and_parts (has c) (nat_le from c) outer.0 in
      not_below has from b c i parts.0 (leb-true from c parts.1);
}

-- of one that isn't, nothing is left
unmet_more : (m : At) (has : ℕ → Bool) (from b : ℕ) → IsLeastFrom has from b → is_met_by m.plan m.program b m.told ≡ false → (c : ℕ) → left_for m has (b + 1) c ≡ left_for m has from c
unmet_more m has from b i unmet c =
    met_more m has from b i c
    ∙ ⊎_elim
    (λ (same : (c == b) ≡ true).
    ap (λ x. not x && left_for m has from c) same
    ∙ sym (and_right (left_from has from c) (is_met_by m.plan m.program c m.told) (subst (λ x. is_met_by m.plan m.program x m.told ≡ false) (sym (eqb-true c b same)) unmet)))
    (λ (apart : (c == b) ≡ false). ap (λ x. not x && left_for m has from c) apart)
    (cases_Bool (c == b))

-- ---- a binding that stands at the node

meets : {A : Type 0} (o : Option A) (f g : A → Bool) → some_and o f ≡ true → some_and o g ≡ false → some_and o (λ x. f x && not (g x)) ≡ true
meets None f g h k = h
meets (Some x) f g h k = and_from _ _ h (ap not k)

refuses : {A : Type 0} (o : Option A) (f g : A → Bool) → some_and o f ≡ true → some_and o g ≡ true → some_and o (λ x. f x && g x) ≡ true
refuses None f g h k = h
refuses (Some x) f g h k = and_from _ _ h k

unmeets : {A : Type 0} (o : Option A) (f g : A → Bool) → some_and o g ≡ true → some_and o (λ x. f x && not (g x)) ≡ false
unmeets None f g k = refl
unmeets (Some x) f g k = and_right (f x) (not (g x)) (ap not k)

stands : (m : At) (b : ℕ) (s : Standing) → s.table ≡ table_of m.plan m.program → in_row s.table b m.told.event.node ≡ true → has_binding m.plan b (λ x. is_about m.program x m.told.event.node) ≡ true
stands m b s table h = sym (rows_are m.plan m.program b m.told.event.node) ∙ ap (λ t. in_row t b m.told.event.node) (sym table) ∙ h

pub is_met : (m : At) (b : ℕ) (s : Standing) → s.table ≡ table_of m.plan m.program → in_row s.table b m.told.event.node ≡ true → is_false_at m.plan m.program b m.told.scene ≡ false → is_met_by m.plan m.program b m.told ≡ true
is_met m b s table h k = meets (slice_get m.plan.bindings b) (λ x. is_about m.program x m.told.event.node) (λ x. is_false (truth_for x m.program m.told.scene)) (stands m b s table h) k

is_refused : (m : At) (b : ℕ) (s : Standing) → s.table ≡ table_of m.plan m.program → in_row s.table b m.told.event.node ≡ true → is_false_at m.plan m.program b m.told.scene ≡ true → is_refused_by m.plan m.program b m.told ≡ true
is_refused m b s table h k = refuses (slice_get m.plan.bindings b) (λ x. is_about m.program x m.told.event.node) (λ x. is_false (truth_for x m.program m.told.scene)) (stands m b s table h) k

isn't_met : (m : At) (b : ℕ) → is_false_at m.plan m.program b m.told.scene ≡ true → is_met_by m.plan m.program b m.told ≡ false
isn't_met m b k = unmeets (slice_get m.plan.bindings b) (λ x. is_about m.program x m.told.event.node) (λ x. is_false (truth_for x m.program m.told.scene)) k

-- ---- one binding

pub met_on : (m : At) (b : ℕ) (x : BindingSpec) (false_there is : Bool) (d : Drawn) (old new : Standing) (before after : Deliveries) (on given : List ℕ)
    → slice_get m.plan.bindings b ≡ Some x → false_there ≡ is_false (truth_for x m.program m.told.scene) → false_there ≡ false
    → IsDelivered m.plan m.told.event b d old new before after → is ≡ (is_observer x && is_on d) → given ≡ with_on is b on → IsOffered m b old new before after on given
met_on m b x false_there is d old new before after on given spec truth not_false i same k =
    drawn d (ap (λ o. some_and o (λ y. is_false (truth_for y m.program m.told.scene))) spec ∙ sym truth ∙ not_false) i
    (k ∙ ap (λ y. with_on y b on) (same ∙ sym (ap (λ o. some_and o is_observer && is_on d) spec)))

pub met_not : (m : At) (b : ℕ) (x : BindingSpec) (false_there : Bool) (old new : Standing) (before after : Deliveries) (on given : List ℕ)
    → slice_get m.plan.bindings b ≡ Some x → false_there ≡ is_false (truth_for x m.program m.told.scene) → false_there ≡ true
    → IsLeftOut m.told.event.number b old new → after ≡ before → given ≡ on → IsOffered m b old new before after on given
met_not m b x false_there old new before after on given spec truth is i same k =
    refused (ap (λ o. some_and o (λ y. is_false (truth_for y m.program m.told.scene))) spec ∙ sym truth ∙ is) i same k

-- ---- what is kept

pub logged_entry : (context : ℕ) (t : Told) (b : ℕ) (d : Drawn) (logs : List (List Entry)) → b < length logs → IsLogged context t b d logs (with_entry context t.event b (place_of d) logs)
logged_entry context t b (On p) logs h = record {
  here = get_or-set_same logs b (log_at logs b ++ entry_of context t.event p ∷ []) [] h;
  others = λ c k. get_or-set_other logs b c (log_at logs b ++ entry_of context t.event p ∷ []) [] (eqb-false c b k);
}
logged_entry context t b (Missed p) logs h = record { here = sym (append-nil (log_at logs b)); others = λ c k. refl }
logged_entry context t b Off logs h = record { here = sym (append-nil (log_at logs b)); others = λ c k. refl }

observed_none : (plan : Plan) (b : ℕ) (on : List ℕ) (is : Bool) → is ≡ false → with_on (is_observed plan b && is) b on ≡ on
observed_none plan b on is h = cond-false _ (on ++ b ∷ []) on (and_right (is_observed plan b) is h)

one_more : (f : ℕ → Bool) (b : ℕ) (ns : List ℕ) (x : Bool) → f b ≡ x → filter f (ns ++ b ∷ []) ≡ with_on x b (filter f ns)
one_more f b ns true h = filter-append f ns (b ∷ []) ∙ ap (λ y. filter f ns ++ y) (cond-true (f b) (b ∷ []) [] h)
one_more f b ns false h = filter-append f ns (b ∷ []) ∙ ap (λ y. filter f ns ++ y) (cond-false (f b) (b ∷ []) [] h) ∙ append-nil (filter f ns)

and_true : (x : Bool) → (x && true) ≡ x
and_true true = refl
and_true false = refl

given_on : (plan : Plan) (ss : List Sight) (n b : ℕ) (d : Drawn) (on : List ℕ) → on ≡ observers_at plan ss n
    → with_on (is_observed plan b && is_on d) b on ≡ observers_at plan (ss ++ record { event = n; binding = b; drawn = d } ∷ []) n
given_on plan ss n b (On p) on h =
    ap (λ x. with_on x b on) (and_true (is_observed plan b))
    ∙ ap (with_on (is_observed plan b) b) h
    ∙ sym (ap (filter (is_observed plan)) (ons-on ss (record { event = n; binding = b; drawn = On p }) refl) ∙ one_more (is_observed plan) b (ons_at ss n) (is_observed plan b) refl)
given_on plan ss n b (Missed p) on h = observed_none plan b on false refl ∙ h ∙ sym (ap (filter (is_observed plan)) (ons-off ss (record { event = n; binding = b; drawn = Missed p }) refl))
given_on plan ss n b Off on h = observed_none plan b on false refl ∙ h ∙ sym (ap (filter (is_observed plan)) (ons-off ss (record { event = n; binding = b; drawn = Off }) refl))

-- ---- the room that is used

-- all that a draw keeps of no acts
pub no_acts : (s : Standing) → HasReplies [] s
no_acts s = record { counts = λ b n h. λ i x lt. absurd (omega (arith, lt)); attaches = λ b h. refl }

pub spent-more : (m : At) (has : ℕ → Bool) (from b : ℕ) (first old new : Standing) (before kept after : Deliveries) (on given : List ℕ)
    → IsSpent has m.told.event.number from first old before kept → IsOffered m b old new kept after on given → IsLeastFrom has from b → IsSpent has m.told.event.number (b + 1) first new before after
spent-more m has from b first old new before kept after on given s (drawn d _ x k) least =
    let t = x.taken in
    let n = m.told.event.number in
    record {
      steady = t.steady ∙ s.steady;
      count = ap length x.logs ∙ length-with_entry kept.context m.told.event b (place_of d) kept.logs.items ∙ s.count;
      context = x.context ∙ s.context;
      held = t.held ∙ s.held;
      due = λ c. t.due c ∙ ap (λ y. not (c == b) && y) (s.due c) ∙ sym (left_more has from b least c);
      last_node = t.last_node ∙ s.last_node;
      spare = omega (arith, t.spare, s.spare, least.from);
      share = omega (arith, t.share, s.share, least.from);
      cleared = omega (arith, t.cleared, s.cleared, least.from);
      ons = λ y h. ap (λ ss. ons_at ss y) (t.drawn [] (no_acts old)).sights ∙ ons-other old.sights (record { event = n; binding = b; drawn = d }) y h ∙ s.ons y h;
    }
spent-more m has from b first old new before kept after on given s (refused _ x same k) least = record {
  steady = x.steady ∙ s.steady;
  count = ap (λ y. length y.logs.items) same ∙ s.count;
  context = ap (λ y. y.context) same ∙ s.context;
  held = x.held ∙ s.held;
  due = λ c. x.due c ∙ ap (λ y. not (c == b) && y) (s.due c) ∙ sym (left_more has from b least c);
  last_node = x.last_node ∙ s.last_node;
  spare = omega (arith, x.spare, s.spare, least.from);
  share = omega (arith, x.share, s.share, least.from);
  cleared = omega (arith, x.cleared, s.cleared, least.from);
  ons = λ y h. ap (λ ss. ons_at ss y) x.refused.sights ∙ s.ons y h;
}
spent-more m has from b first old new before kept after on given s (swept x same k) least = record {
  steady = x.steady ∙ s.steady;
  count = ap (λ y. length y.logs.items) same ∙ s.count;
  context = ap (λ y. y.context) same ∙ s.context;
  held = x.held ∙ s.held;
  due = λ c. x.due c ∙ ap (λ y. not (c == b) && y) (s.due c) ∙ sym (left_more has from b least c);
  last_node = x.last_node ∙ s.last_node;
  spare = omega (arith, x.spare, s.spare, least.from);
  share = omega (arith, x.share, s.share, least.from);
  cleared = omega (arith, x.cleared, s.cleared, least.from);
  ons = λ y h. ap (λ ss. ons_at ss y) x.quiet.sights ∙ s.ons y h;
}

-- ---- the event is served at one more

module _ (m : At) (start : ℕ → Known) (ts : List Told) (done : List (ℕ × ActResult)) (has : ℕ → Bool) (from b : ℕ) (first old new : Standing) (before kept after : Deliveries) (on given : List ℕ)
    (enter : is_enter m.told.event.kind ≡ true) (table : first.table ≡ table_of m.plan m.program) (row : in_row first.table b m.told.event.node ≡ true)
    (within : b < length first.table.rows) (count : length before.logs.items ≡ length first.table.rows)
    (spent : IsSpent has m.told.event.number from first old before kept) (least : IsLeastFrom has from b) (i : IsOffering m start ts done has from old kept on) where
  same_table : old.table ≡ first.table
  same_table = ap (λ s. s.table) spent.steady

  offering-drawn : (d : Drawn) → is_false_at m.plan m.program b m.told.scene ≡ false → IsDelivered m.plan m.told.event b d old new kept after
      → given ≡ with_on (is_observed m.plan b && is_on d) b on → IsOffering m start ts done has (b + 1) new after given
  offering-drawn d true_there x k =
      let n = m.told.event.number in
      let s : Sight = record { event = n; binding = b; drawn = d } in
      let t = x.taken in
      let drew = t.drawn done i.stood in
      let met : is_met_by m.plan m.program b m.told ≡ true = is_met m b first table row true_there in
      let few : b < length kept.logs.items = omega (arith, within, count, spent.count) in
      let rows : length old.table.rows ≡ length first.table.rows = ap (λ z. length z.rows) same_table in
      record {
        serving = subst (λ z. IsServing m.plan m.program z start ts m.told done (left_for m has (b + 1)) new after.logs.items) (sym x.context)
            (serving-along m.plan m.program kept.context start ts m.told done (without b (left_for m has from)) (left_for m has (b + 1)) new after.logs.items (met_more m has from b least)
            (subst (λ z. IsServing m.plan m.program kept.context start ts m.told done (without b (left_for m has from)) new z) (sym x.logs)
            (serving-drawn m.plan m.program kept.context start ts m.told done (left_for m has from) old new kept.logs.items (with_entry kept.context m.told.event b (place_of d) kept.logs.items) b d
            i.serving (next_met m has from b least met) (logged_entry kept.context m.told b d kept.logs.items few) drew)));
        stood = replies-grow done old new (spent_by _ b t.disposal) t.replies i.stood;
        seen = x.seen ∙ ap (λ z. z ++ s ∷ []) i.seen ∙ sym drew.sights;
        on_is = k ∙ given_on m.plan old.sights n b d on i.on_is ∙ ap (λ z. observers_at m.plan z n) (sym drew.sights);
        bound = ap (λ z. list_all (λ w. nat_lt w.binding (length z.rows)) new.sights) drew.table
            ∙ ap (λ z. list_all (λ w. nat_lt w.binding (length old.table.rows)) z) drew.sights
            ∙ list_all-push (λ w. nat_lt w.binding (length old.table.rows)) old.sights s i.bound (lt-ltb b (length old.table.rows) (omega (arith, within, rows)));
      }

  pub offering-more : IsOffered m b old new kept after on given → IsOffering m start ts done has (b + 1) new after given
  offering-more (drawn d true_there x k) = offering-drawn d true_there x k
  offering-more (refused false_there x kept_is k) =
      let n = m.told.event.number in
      let r = x.refused in
      record {
        serving = subst (λ z. IsServing m.plan m.program z.context start ts m.told done (left_for m has (b + 1)) new z.logs.items) (sym kept_is)
            (serving-along m.plan m.program kept.context start ts m.told done (left_for m has from) (left_for m has (b + 1)) new kept.logs.items (unmet_more m has from b least (isn't_met m b false_there))
            (serving-refused m.plan m.program kept.context start ts m.told done (left_for m has from) old new kept.logs.items b enter (is_refused m b first table row false_there) r i.serving));
        stood = replies-same done old new x.replies i.stood;
        seen = ap (λ z. z.seen.items) kept_is ∙ i.seen ∙ sym r.sights;
        on_is = k ∙ i.on_is ∙ ap (λ z. observers_at m.plan z n) (sym r.sights);
        bound = ap (λ z. list_all (λ w. nat_lt w.binding (length z.rows)) new.sights) r.table
            ∙ ap (λ z. list_all (λ w. nat_lt w.binding (length old.table.rows)) z) r.sights ∙ i.bound;
      }
  offering-more (swept x kept_is k) =
      let n = m.told.event.number in
      let served : IsServing m.plan m.program kept.context start ts m.told done (left_for m has (b + 1)) new kept.logs.items =
      ⊎_elim
      (λ (met : is_met_by m.plan m.program b m.told ≡ true).
      serving-along m.plan m.program kept.context start ts m.told done (without b (left_for m has from)) (left_for m has (b + 1)) new kept.logs.items (met_more m has from b least)
      (serving-swept m.plan m.program kept.context start ts m.told done (left_for m has from) old new kept.logs.items b i.serving (next_met m has from b least met) x.gone enter x.quiet))
      (λ (unmet : is_met_by m.plan m.program b m.told ≡ false).
      serving-along m.plan m.program kept.context start ts m.told done (left_for m has from) (left_for m has (b + 1)) new kept.logs.items (unmet_more m has from b least unmet)
      (serving-quiet m.plan m.program kept.context start ts m.told done (left_for m has from) old new kept.logs.items i.serving x.quiet))
      (cases_Bool (is_met_by m.plan m.program b m.told)) in
      record {
        serving = subst (λ z. IsServing m.plan m.program z.context start ts m.told done (left_for m has (b + 1)) new z.logs.items) (sym kept_is) served;
        stood = replies-same done old new x.replies i.stood;
        seen = ap (λ z. z.seen.items) kept_is ∙ i.seen ∙ sym x.quiet.sights;
        on_is = k ∙ i.on_is ∙ ap (λ z. observers_at m.plan z n) (sym x.quiet.sights);
        bound = ap (λ z. list_all (λ w. nat_lt w.binding (length z.rows)) new.sights) x.quiet.table
            ∙ ap (λ z. list_all (λ w. nat_lt w.binding (length old.table.rows)) z) x.quiet.sights ∙ i.bound;
      }

-- ---- none is left

none_left : (has : ℕ → Bool) (from c : ℕ) → (has c ≡ true → c < from) → left_from has from c ≡ false
none_left has from c h =
    ⊎_elim
    (λ (k : has c ≡ true). and_right (has c) (nat_le from c) (lt-leb from c (h k)))
    (λ (k : has c ≡ false). and_left (has c) (nat_le from c) k)
    (cases_Bool (has c))

past : (has : ℕ → Bool) (from c : ℕ) → ((x : ℕ) → from ≤ x → has x ≡ false) → has c ≡ true → c < from
past has from c none h =
    ⊎_elim (λ (below : c < from). below) (λ (above : from ≤ c). absurd (true_false (sym h ∙ none c above))) (cases_lt c from)

pub offering-all : (m : At) (start : ℕ → Known) (ts : List Told) (done : List (ℕ × ActResult)) (has : ℕ → Bool) (from : ℕ) (s : Standing) (kept : Deliveries) (on : List ℕ)
    → ((c : ℕ) → from ≤ c → has c ≡ false) → ((c : ℕ) → has c ≡ true → c < 4096)
    → IsOffering m start ts done has from s kept on → IsOffering m start ts done has 4096 s kept on
offering-all m start ts done has from s kept on none few i = record {
  serving = serving-along m.plan m.program kept.context start ts m.told done (left_for m has from) (left_for m has 4096) s kept.logs.items
      (λ c. ap (λ x. x && is_met_by m.plan m.program c m.told) (none_left has 4096 c (few c) ∙ sym (none_left has from c (λ h. past has from c none h)))) i.serving;
  stood = i.stood;
  seen = i.seen;
  on_is = i.on_is;
  bound = i.bound;
}
