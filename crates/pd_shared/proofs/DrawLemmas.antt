-- The steps of a draw, and what they leave and give.
use Rattle.std.proofs.Common.{◌≡◌, ◌≢◌, ◌⊎◌, ℕ, zero, suc, ◌+◌, ◌-◌, ◌<◌, ◌≤◌, List, [], ◌∷◌, ◌++◌, length, slice_set, Bool, true, false, not, if◌then◌else◌, ◌==◌, ◌&&◌, sym, refl, ap, ◌∙◌, subst, arith, inl, inr, ⊎_elim, eq-eqb, append-nil}
use Rattle.std.specs.Prelude.{IfSome}
use mathlib.Core.List.{map-append}
use Rattle.pd_core.specs.declared.view.Drawn.TheVariants.{Off}
use Rattle.pd_board.specs.declared.answers.Known.{Known}
use Rattle.pd_board.specs.declared.answers.Known.TheVariants as knowns
use Rattle.pd_board.specs.declared.answers.Drawn.{Drawn}
use Rattle.pd_board.specs.declared.answers.Drawn.TheVariants as drawns
use Rattle.pd_board.specs.declared.answers.Sight.{Sight}
use Rattle.pd_board.specs.Answers.{is_gone, number_of, NumbersBelow, TogglesUpTo, has_disposal}
use Rattle.pd_core.specs.declared.view.View.{View}
use Rattle.pd_core.specs.declared.view.Deeds.{Deeds}
use Rattle.pd_core.specs.declared.view.Sight.{Sight as Seen}
use Rattle.pd_core.specs.Layout.{Layout, bindings, binding_word}
use Rattle.pd_core.specs.Words.{live, attached, disposed, off, sum_in}
use Rattle.pd_core.specs.Counts.{times, only_if}
use Rattle.pd_core.specs.Views.{Known as Found_as, fresh, found_attached, found_disposed, known, sight, outcome}
use Rattle.pd_core.specs.Kinds.{Found, after, load_binding, draw}
use Rattle.pd_core.proofs.Sums.{times_else, times_here}
use Rattle.pd_core.proofs.Bits.{disposed_fits}
use Rattle.pd_core.proofs.Attaches.{eqb_is}
use Rattle.pd_core.proofs.Waves.{known_fresh, known_attached, is_disposed, is_attached, same_known}
use Rattle.pd_core.proofs.Facts.{known_drew_off, known_drew_on}
use Rattle.pd_board.specs.Journal.{Entries}
use Rattle.pd_shared.specs.Book.{Book, known_at}
use Rattle.pd_shared.specs.Tied.{told, drawn_of, sight_of, before_of, is_alone, IsKnown, AreDeeds, AreReads, KnowsAlone, KnowsGone, IsTied}
use Rattle.pd_shared.specs.Took.{Took, DrawSteps, drew, looked, both as both_steps, Ready, at_once, looked_live, drawn_as, drawn_by, known_drawn, known_looked}
use Rattle.pd_shared.proofs.ActLemmas.{yes_or_no, not_flag, known_change, alone_change, alone_disposed, gone_same}
use Rattle.pd_core.specs.Good.{Ordered}
use Rattle.pd_shared.proofs.OrderLemmas.{live_not_gone, drawn_timed, looked_timed}
use Rattle.pd_shared.proofs.NumberLemmas.{numbers_low, limit_is, toggles_low}

-- ---- the steps

pub attached_left : (k : Found_as) → (told k ≡ knowns.Fresh → ⊥) → is_gone (told k) ≡ false → k ≡ found_attached
attached_left found_attached h g = refl
attached_left fresh h g = absurd (h refl)
attached_left found_disposed h g = absurd (cc)

pub looked_attached : (p : Layout) (event b u : ℕ) (v : View) → known v b ≡ fresh → live u ≡ true → known (after p (load_binding event b) u v) b ≡ found_attached
looked_attached p event b u v new on =
    let next : View = after p (load_binding event b) u v in
    let gone : (disposed u == 1) ≡ false = ap (λ (n : ℕ). n == 1) (live_not_gone u on) in
    is_attached next b
    (ap (λ (t : Bool). times b (v.found_disposed ++ only_if t b)) gone ∙ (ap (times b) (append-nil v.found_disposed) ∙ (known_fresh v b new).0))
    (subst (λ (t : Bool). 0 < times b (v.found_attached ++ only_if t b)) (sym on) (times_here b b v.found_attached refl))

pub ready_known : (p : Layout) (event b : ℕ) (v m : View) → Ready p event b v m → (known m b ≡ found_attached) × (m.draw_share ≡ v.draw_share)
ready_known p event b v m (at_once e is) = (ap (λ (y : View). known y b) is ∙ e, ap (λ (y : View). y.draw_share) is)
ready_known p event b v m (looked_live u new took on) = (ap (λ (y : View). known y b) took.1 ∙ looked_attached p event b u v new on, ap (λ (y : View). y.draw_share) took.1)

pub drawn_then : (p : Layout) (event b w : ℕ) (v m next : View) (drawn : Drawn) (later : Known) → Ready p event b v m → Took p (draw event b) m w next → drawn ≡ drawn_by w → later ≡ known_drawn w → DrawSteps p event b v next drawn later
drawn_then p event b w v m next drawn later (at_once e is) took d k = drew w e (subst (λ (y : View). Took p (draw event b) y w next) is took) d k
drawn_then p event b w v m next drawn later (looked_live u new first on) took d k = both_steps u w m new first on took d k

pub off_by : (w : ℕ) → live w ≡ false → (drawns.Off ≡ drawn_by w) × (knowns.Disposed ≡ known_drawn w)
off_by w e = (sym (ap (λ (t : Bool). drawn_as t (off w == 1) (sum_in w)) e), sym (ap (λ (t : Bool). if t then knowns.Attached else knowns.Disposed) e))

pub on_by : (w n : ℕ) → live w ≡ true → (off w == 1) ≡ false → n ≡ sum_in w → (drawns.On n ≡ drawn_by w) × (knowns.Attached ≡ known_drawn w)
on_by w n e o is = (ap drawns.On is ∙ sym (λ i. drawn_as (e i) (o i) (sum_in w)), sym (ap (λ (t : Bool). if t then knowns.Attached else knowns.Disposed) e))

pub missed_by : (w n : ℕ) → live w ≡ true → (off w == 1) ≡ true → n ≡ sum_in w → (drawns.Missed n ≡ drawn_by w) × (knowns.Attached ≡ known_drawn w)
missed_by w n e o is = (ap drawns.Missed is ∙ sym (λ i. drawn_as (e i) (o i) (sum_in w)), sym (ap (λ (t : Bool). if t then knowns.Attached else knowns.Disposed) e))

-- ---- the seat after a draw

abbrev pub with_sight : Entries → Sight → ℕ → Entries
with_sight e s loads = record e { sights = e.sights ++ s ∷ []; sight_loads = e.sight_loads ++ loads ∷ []; spare = e.spare - 1 }

deeds_seen : (d n : Deeds) (e m : Entries) (s : Seen) (loads : ℕ) → AreDeeds d e → n ≡ record d { sights = d.sights ++ s ∷ [] } → before_of s ≡ loads → m ≡ with_sight e (sight_of s) loads → (steps : ℕ) × Ordered (record d { sights = d.sights ++ s ∷ [] }) steps → AreDeeds n m
deeds_seen d n e m s loads k is before more timed = subst (λ (y : Deeds). AreDeeds y m) (sym is) (subst (λ (y : Entries). AreDeeds (record d { sights = d.sights ++ s ∷ [] }) y) (sym more) (record {
  sights = ap (λ (xs : List Sight). xs ++ sight_of s ∷ []) k.sights ∙ sym (map-append sight_of d.sights (s ∷ []));
  befores = (λ i. k.befores i ++ sym before i ∷ []) ∙ sym (map-append before_of d.sights (s ∷ []));
  made = k.made;
  firsts = k.firsts;
  late = k.late;
  counts = k.counts;
  toggles = k.toggles;
  order = k.order;
  timed = timed;
}))

tied_seen : (p : Layout) (v w : View) (k : Book) (m : Entries) (b : ℕ) (x : Known) (s : Seen) → b < bindings p → IsTied p v k → m ≡ with_sight k.entries (sight_of s) k.all_loads → before_of s ≡ length v.loads → w.deeds ≡ record v.deeds { sights = v.deeds.sights ++ s ∷ [] } → (steps : ℕ) × Ordered (record v.deeds { sights = v.deeds.sights ++ s ∷ [] }) steps → w.attaching ≡ v.attaching → w.talk ≡ v.talk → w.loads ≡ v.loads → w.cleared ≡ v.cleared → is_alone w ≡ is_alone v
    → x ≡ told (known w b) → ((c : ℕ) → c ≢ b → known w c ≡ known v c) → (is_alone v ≡ true → x ≡ knowns.Disposed → has_disposal b k.entries.replies ≡ true) → (known_at k.known b ≡ knowns.Disposed → x ≡ knowns.Disposed) → IsTied p w (record k { known = slice_set k.known b x; entries = m })
tied_seen p v w k m b x s lt t more before deeds timed idle talk loads cleared same here others new stays = record {
  idle = idle ∙ t.idle;
  known_is = known_change p v w k.known b x lt t.known_is here others;
  deeds = deeds_seen v.deeds w.deeds k.entries m s k.all_loads t.deeds deeds (before ∙ t.all_loads) more timed;
  reads = subst (λ y. AreReads p y k.ended k.sessions k.ends) (sym talk) t.reads;
  all_loads = ap length loads ∙ t.all_loads;
  cleared = ap length cleared ∙ t.cleared;
  alone = subst (λ (y : Entries). KnowsAlone w (slice_set k.known b x) y.replies) (sym more) (alone_change v w k.known k.entries.replies k.entries.replies b x (omega (arith, t.known_is.0)) t.alone same (λ c h. h) new);
  gone = subst (λ (y : Entries). KnowsGone (slice_set k.known b x) y.replies) (sym more) (gone_same k.known k.entries.replies b x (omega (arith, t.known_is.0)) t.gone stays);
  loads = t.loads;
}

drawn_same : (on is_off : Bool) (n : ℕ) → drawn_of (outcome on is_off n) ≡ drawn_as on is_off n
drawn_same true true n = refl
drawn_same true false n = refl
drawn_same false is_off n = refl

-- a draw is of a binding that was not known as disposed
not_gone_by : (p : Layout) (v : View) (ks : List Known) (b : ℕ) (k : Found_as) (x : Known) → b < bindings p → IsKnown p v ks → known v b ≡ k → (k ≡ found_disposed → ⊥) → known_at ks b ≡ knowns.Disposed → x ≡ knowns.Disposed
not_gone_by p v ks b k x lt is e never gone = absurd (never (sym e ∙ told_gone (known v b) (sym (is.1 b lt) ∙ gone)))
  where
    told_gone : (y : Found_as) → told y ≡ knowns.Disposed → y ≡ found_disposed
    told_gone found_disposed q = refl
    told_gone found_attached q = absurd (cc)
    told_gone fresh q = absurd (cc)

known_later : (p : Layout) (event b w : ℕ) (v : View) → known v b ≡ found_attached → known_drawn w ≡ told (known (after p (draw event b) w v) b)
known_later p event b w v e = ⊎_elim
    (λ (on : live w ≡ true). ap (λ (t : Bool). if t then knowns.Attached else knowns.Disposed) on ∙ ap told (sym (known_drew_on p event b w v on b ∙ e)))
    (λ (no_more : live w ≡ false). ap (λ (t : Bool). if t then knowns.Attached else knowns.Disposed) no_more ∙ ap told (sym (known_drew_off p event b w v no_more)))
    (yes_or_no (live w))

by_live : (w : ℕ) → known_drawn w ≡ knowns.Disposed → live w ≡ false
by_live w e = by (live w) e
  where
    by : (t : Bool) → (if t then knowns.Attached else knowns.Disposed) ≡ knowns.Disposed → t ≡ false
    by true q = absurd (cc)
    by false q = refl

-- a word that isn't live, of a binding that is attached, is disposed
dead_gone : (w : ℕ) → attached w ≡ 1 → live w ≡ false → disposed w ≡ 1
unfolding live
dead_gone w on e = ⊎_elim (λ (q : (disposed w == 1) ≡ true). eqb_is (disposed w) 1 q)
    (λ (q : (disposed w == 1) ≡ false). absurd (let alive : ((attached w == 1) && (disposed w == 0)) ≡ true = (λ i. eq-eqb (attached w) 1 on i && eq-eqb (disposed w) 0 (not_flag (disposed w) (disposed_fits w) q) i) in cc))
    (yes_or_no (disposed w == 1))

module _ (p : Layout) (event b w : ℕ) (v : View) (e : Entries) (lt : b < bindings p) (is : known v b ≡ found_attached) (deeds : AreDeeds v.deeds e) (f : Found p (draw event b) v w) where
  drew_gone : live w ≡ false → disposed (binding_word p f.0.words b) ≡ 1
  drew_gone dead = ap disposed f.3 ∙ dead_gone w (sym (ap attached f.3) ∙ (f.1.each f.2.0 v f.2.1).knows.attached_is b lt (known_on v b is)) dead
    where
      known_on : (y : View) (c : ℕ) → known y c ≡ found_attached → 0 < times c y.found_attached
      known_on y c q = (known_attached y c q).1

  pub drew_alone : is_alone v ≡ true → live w ≡ false → has_disposal b e.replies ≡ true
  drew_alone a dead = alone_disposed p f.0.words f.0.views f.2.0 b v e f.1 f.2.1 deeds a lt (drew_gone dead)

  above_by : (on is_off : Bool) (n : ℕ) → (on ≡ true → NumbersBelow b n e.sights) → IfSome (number_of (drawn_as on is_off n)) (λ x. NumbersBelow b x e.sights)
  above_by true true n h = h refl
  above_by true false n h = h refl
  above_by false is_off n h = tt

  counted_by : (on is_off : Bool) (n : ℕ) → (on ≡ true → TogglesUpTo b n e.replies) → IfSome (number_of (drawn_as on is_off n)) (λ x. TogglesUpTo b x e.replies)
  counted_by true true n h = h refl
  counted_by true false n h = h refl
  counted_by false is_off n h = tt

  pub drew_above : IfSome (number_of (drawn_by w)) (λ x. NumbersBelow b x e.sights)
  drew_above = above_by (live w) (off w == 1) (sum_in w) (λ on. numbers_low p f.0.words f.0.views f.2.0 b (sum_in w) v e f.1 f.2.1 deeds lt (let low = limit_is p f.0.words f.0.views b w f.1 lt f.3 (live_not_gone w on) in omega arith))

  pub drew_counted : IfSome (number_of (drawn_by w)) (λ x. TogglesUpTo b x e.replies)
  drew_counted = counted_by (live w) (off w == 1) (sum_in w) (λ on. toggles_low p f.0.words f.0.views f.2.0 b (sum_in w) v e f.1 f.2.1 deeds lt (let low = limit_is p f.0.words f.0.views b w f.1 lt f.3 (live_not_gone w on) in omega arith))

tied_drew : (p : Layout) (event b w : ℕ) (v : View) (k : Book) (m : Entries) (drawn : Drawn) (x : Known) → b < bindings p → IsTied p v k → known v b ≡ found_attached → Found p (draw event b) v w → drawn ≡ drawn_by w → x ≡ known_drawn w → m ≡ with_sight k.entries (record { event = event; binding = b; drawn = drawn }) k.all_loads
    → IsTied p (after p (draw event b) w v) (record k { known = slice_set k.known b x; entries = m })
tied_drew p event b w v k m drawn x lt t is f d later more =
    let next : View = after p (draw event b) w v in
    tied_seen p v next k m b x (sight event b (outcome (live w) (off w == 1) (sum_in w)) v) lt t
    (more ∙ ap (λ (y : Drawn). with_sight k.entries (record { event = event; binding = b; drawn = y }) k.all_loads) (d ∙ sym (drawn_same (live w) (off w == 1) (sum_in w))))
    refl refl (drawn_timed p b w v f.0.words f.0.views f.2.0 f.1 f.2.1 lt f.3 event) refl refl refl refl refl
    (later ∙ known_later p event b w v is)
    (λ c ne. same_known v next c (times_else c b v.found_disposed (not (live w)) ne) refl)
    (λ a gone. drew_alone p event b w v k.entries lt is t.deeds f a (by_live w (sym later ∙ gone)))
    (not_gone_by p v k.known b found_attached x lt t.known_is is (λ q. absurd (cc)))

tied_looked : (p : Layout) (event b w : ℕ) (v : View) (k : Book) (m : Entries) (drawn : Drawn) (x : Known) → b < bindings p → IsTied p v k → known v b ≡ fresh → Found p (load_binding event b) v w → live w ≡ false → drawn ≡ drawns.Off → x ≡ known_looked w → m ≡ with_sight k.entries (record { event = event; binding = b; drawn = drawn }) k.all_loads
    → IsTied p (after p (load_binding event b) w v) (record k { known = slice_set k.known b x; entries = m })
tied_looked p event b w v k m drawn x lt t new f dead d later more =
    let next : View = after p (load_binding event b) w v in
    let s : Seen = sight event b Off v in
    let on_same : (c : ℕ) → times c next.found_attached ≡ times c v.found_attached = λ c. ap (λ (y : Bool). times c (v.found_attached ++ only_if y b)) dead ∙ ap (times c) (append-nil v.found_attached) in
    tied_seen p v next k m b x s lt t
    (more ∙ ap (λ (y : Drawn). with_sight k.entries (record { event = event; binding = b; drawn = y }) k.all_loads) d)
    refl (ap (λ (y : Bool). record v.deeds { sights = v.deeds.sights ++ only_if (not y) s }) dead) (looked_timed p event b v f.0.words f.0.views f.2.0 f.1 f.2.1) refl refl refl refl refl
    (later ∙ ⊎_elim
    (λ (gone : (disposed w == 1) ≡ true). ap (λ (y : Bool). if y then knowns.Disposed else knowns.Fresh) gone
    ∙ ap told (sym (is_disposed next b (subst (λ (y : Bool). 0 < times b (v.found_disposed ++ only_if y b)) (sym gone) (times_here b b v.found_disposed refl)))))
    (λ (not_yet : (disposed w == 1) ≡ false). ap (λ (y : Bool). if y then knowns.Disposed else knowns.Fresh) not_yet
    ∙ ap told (sym (same_known v next b (ap (λ (y : Bool). times b (v.found_disposed ++ only_if y b)) not_yet ∙ ap (times b) (append-nil v.found_disposed)) (on_same b) ∙ new)))
    (yes_or_no (disposed w == 1)))
    (λ c ne. same_known v next c (times_else c b v.found_disposed (disposed w == 1) ne) (on_same c))
    (λ a gone. alone_disposed p f.0.words f.0.views f.2.0 b v k.entries f.1 f.2.1 t.deeds a lt (ap disposed f.3 ∙ eqb_is (disposed w) 1 (by_gone (disposed w == 1) (sym later ∙ gone))))
    (not_gone_by p v k.known b fresh x lt t.known_is new (λ q. absurd (cc)))
  where
    by_gone : (y : Bool) → (if y then knowns.Disposed else knowns.Fresh) ≡ knowns.Disposed → y ≡ true
    by_gone true q = refl
    by_gone false q = absurd (cc)

-- what a look at a live binding leaves
deeds_looked : (p : Layout) (event b u : ℕ) (v : View) → live u ≡ true → (after p (load_binding event b) u v).deeds ≡ v.deeds
deeds_looked p event b u v on = ap (λ (y : Bool). record v.deeds { sights = v.deeds.sights ++ only_if (not y) (sight event b Off v) }) on ∙ ap (λ (xs : List Seen). record v.deeds { sights = xs }) (append-nil v.deeds.sights)

tied_live : (p : Layout) (event b u : ℕ) (v : View) (k : Book) → b < bindings p → IsTied p v k → known v b ≡ fresh → live u ≡ true → IsTied p (after p (load_binding event b) u v) (record k { known = slice_set k.known b knowns.Attached })
tied_live p event b u v k lt t new on =
    let next : View = after p (load_binding event b) u v in
    record {
      idle = t.idle;
      known_is = known_change p v next k.known b knowns.Attached lt t.known_is (ap told (sym (looked_attached p event b u v new on))) (λ c ne. same_known v next c (times_else c b v.found_disposed (disposed u == 1) ne) (times_else c b v.found_attached (live u) ne));
      deeds = subst (λ (d : Deeds). AreDeeds d k.entries) (sym (deeds_looked p event b u v on)) t.deeds;
      reads = t.reads;
      all_loads = t.all_loads;
      cleared = t.cleared;
      alone = alone_change v next k.known k.entries.replies k.entries.replies b knowns.Attached (omega (arith, t.known_is.0)) t.alone refl (λ c h. h) (λ a q. absurd (cc));
      gone = gone_same k.known k.entries.replies b knowns.Attached (omega (arith, t.known_is.0)) t.gone (not_gone_by p v k.known b fresh knowns.Attached lt t.known_is new (λ q. absurd (cc)));
      loads = t.loads;
    }

set_twice : (ks : List Known) (i : ℕ) (x y : Known) → slice_set (slice_set ks i x) i y ≡ slice_set ks i y
set_twice [] i x y = refl
set_twice (k ∷ ks) zero x y = refl
set_twice (k ∷ ks) (suc i) x y = ap (λ (l : List Known). k ∷ l) (set_twice ks i x y)

pub tied_drawn : (p : Layout) (event b : ℕ) (v next : View) (k : Book) (m : Entries) (drawn : Drawn) (x : Known) → b < bindings p → IsTied p v k → DrawSteps p event b v next drawn x → m ≡ with_sight k.entries (record { event = event; binding = b; drawn = drawn }) k.all_loads → IsTied p next (record k { known = slice_set k.known b x; entries = m })
tied_drawn p event b v next k m drawn x lt t (drew w is took d later) more = subst (λ (y : View). IsTied p y (record k { known = slice_set k.known b x; entries = m })) (sym took.1) (tied_drew p event b w v k m drawn x lt t is took.0 d later more)
tied_drawn p event b v next k m drawn x lt t (looked w new took dead d later) more = subst (λ (y : View). IsTied p y (record k { known = slice_set k.known b x; entries = m })) (sym took.1) (tied_looked p event b w v k m drawn x lt t new took.0 dead d later more)
tied_drawn p event b v next k m drawn x lt t (both_steps u w between new first on took d later) more =
    let is : known between b ≡ found_attached = ap (λ (y : View). known y b) first.1 ∙ looked_attached p event b u v new on in
    let mid = subst (λ (y : View). IsTied p y (record k { known = slice_set k.known b knowns.Attached })) (sym first.1) (tied_live p event b u v k lt t new on) in
    let end = tied_drew p event b w between (record k { known = slice_set k.known b knowns.Attached }) m drawn x lt mid is took.0 d later more in
    subst (λ (y : View × List Known). IsTied p y.0 (record k { known = y.1; entries = m })) (λ i. (sym took.1 i, set_twice k.known b knowns.Attached x i)) end

-- ---- what it gave

pub draw_above : (p : Layout) (event b : ℕ) (v next : View) (e : Entries) (drawn : Drawn) (x : Known) → b < bindings p → AreDeeds v.deeds e → DrawSteps p event b v next drawn x → (IfSome (number_of drawn) (λ n. NumbersBelow b n e.sights)) × (IfSome (number_of drawn) (λ n. TogglesUpTo b n e.replies))
draw_above p event b v next e drawn x lt deeds (drew w is took d later) =
    subst (λ (y : Drawn). (IfSome (number_of y) (λ n. NumbersBelow b n e.sights)) × (IfSome (number_of y) (λ n. TogglesUpTo b n e.replies))) (sym d) (drew_above p event b w v e lt is deeds took.0, drew_counted p event b w v e lt is deeds took.0)
draw_above p event b v next e drawn x lt deeds (looked w new took dead d later) = subst (λ (y : Drawn). (IfSome (number_of y) (λ n. NumbersBelow b n e.sights)) × (IfSome (number_of y) (λ n. TogglesUpTo b n e.replies))) (sym d) (tt, tt)
draw_above p event b v next e drawn x lt deeds (both_steps u w between new first on took d later) =
    let is : known between b ≡ found_attached = ap (λ (y : View). known y b) first.1 ∙ looked_attached p event b u v new on in
    let mid = subst (λ (y : View). AreDeeds y.deeds e) (sym first.1) (subst (λ (y : Deeds). AreDeeds y e) (sym (deeds_looked p event b u v on)) deeds) in
    subst (λ (y : Drawn). (IfSome (number_of y) (λ n. NumbersBelow b n e.sights)) × (IfSome (number_of y) (λ n. TogglesUpTo b n e.replies))) (sym d) (drew_above p event b w between e lt is mid took.0, drew_counted p event b w between e lt is mid took.0)

given : (on is_off : Bool) (n : ℕ) → IfSome (number_of (drawn_as on is_off n)) (λ _. (if on then knowns.Attached else knowns.Disposed) ≡ knowns.Attached)
given true true n = refl
given true false n = refl
given false is_off n = tt

none_given : (on is_off : Bool) (n : ℕ) → drawn_as on is_off n ≡ drawns.Off → (if on then knowns.Attached else knowns.Disposed) ≡ knowns.Disposed
none_given true true n e = absurd (cc)
none_given true false n e = absurd (cc)
none_given false is_off n e = refl

pub draw_number : (p : Layout) (event b : ℕ) (v next : View) (drawn : Drawn) (x : Known) → DrawSteps p event b v next drawn x → IfSome (number_of drawn) (λ _. x ≡ knowns.Attached)
draw_number p event b v next drawn x (drew w is took d later) = subst (λ (y : Drawn × Known). IfSome (number_of y.0) (λ _. y.1 ≡ knowns.Attached)) (λ i. (sym d i, sym later i)) (given (live w) (off w == 1) (sum_in w))
draw_number p event b v next drawn x (looked w new took dead d later) = subst (λ (y : Drawn). IfSome (number_of y) (λ _. x ≡ knowns.Attached)) (sym d) tt
draw_number p event b v next drawn x (both_steps u w between new first on took d later) = subst (λ (y : Drawn × Known). IfSome (number_of y.0) (λ _. y.1 ≡ knowns.Attached)) (λ i. (sym d i, sym later i)) (given (live w) (off w == 1) (sum_in w))

looked_as : (w : ℕ) → (known_looked w ≡ knowns.Disposed) ⊎ (known_looked w ≡ knowns.Fresh)
looked_as w = by (disposed w == 1)
  where
    by : (t : Bool) → ((if t then knowns.Disposed else knowns.Fresh) ≡ knowns.Disposed) ⊎ ((if t then knowns.Disposed else knowns.Fresh) ≡ knowns.Fresh)
    by true = inl refl
    by false = inr refl

pub draw_off : (p : Layout) (event b : ℕ) (v next : View) (ks : List Known) (drawn : Drawn) (x : Known) → b < bindings p → IsKnown p v ks → DrawSteps p event b v next drawn x → drawn ≡ drawns.Off → (x ≡ knowns.Disposed) ⊎ ((known_at ks b ≡ knowns.Fresh) × (x ≡ knowns.Fresh))
draw_off p event b v next ks drawn x lt k (drew w is took d later) e = inl (later ∙ none_given (live w) (off w == 1) (sum_in w) (sym d ∙ e))
draw_off p event b v next ks drawn x lt k (looked w new took dead d later) e = ⊎_elim (λ (q : known_looked w ≡ knowns.Disposed). inl (later ∙ q)) (λ (q : known_looked w ≡ knowns.Fresh). inr (k.1 b lt ∙ ap told new, later ∙ q)) (looked_as w)
draw_off p event b v next ks drawn x lt k (both_steps u w between new first on took d later) e = inl (later ∙ none_given (live w) (off w == 1) (sum_in w) (sym d ∙ e))

-- what it spends, and what it leaves of the view
pub draw_rest : (p : Layout) (event b : ℕ) (v next : View) (drawn : Drawn) (x : Known) → DrawSteps p event b v next drawn x → (next.draw_share ≤ v.draw_share) × (v.draw_share ≤ next.draw_share + 1) × (next.talk ≡ v.talk) × (is_alone next ≡ is_alone v)
draw_rest p event b v next drawn x (drew w is took d later) = rw took.1 (omega arith, omega arith, refl, refl)
draw_rest p event b v next drawn x (looked w new took dead d later) = rw took.1 (omega arith, omega arith, refl, refl)
draw_rest p event b v next drawn x (both_steps u w between new first on took d later) = rw (took.1, first.1) (omega arith, omega arith, refl, refl)
