-- What a disable and an enable leave, and what their answers say.
use Rattle.std.proofs.Common.{◌≡◌, ℕ, ◌<◌, List, ◌++◌, slice_set, Bool, true, false, if◌then◌else◌, ◌==◌, sym, refl, ap, ◌∙◌, arith, ⊎_elim, eq-eqb, append-nil}
use Rattle.std.specs.Bool.{beq}
use mathlib.Core.List.{map-append}
use Rattle.pd_board.specs.declared.answers.Known.{Known}
use Rattle.pd_board.specs.declared.answers.Known.TheVariants as knowns
use Rattle.pd_board.specs.declared.answers.Toggle.TheVariants as toggles
use Rattle.pd_board.specs.declared.answers.ActResult.{ActResult}
use Rattle.pd_board.specs.declared.answers.ActResult.TheVariants as acts
use Rattle.pd_board.specs.Answers.{NumbersBelow}
use Rattle.pd_core.specs.declared.view.View.{View}
use Rattle.pd_core.specs.Layout.{Layout, bindings}
use Rattle.pd_core.specs.Words.{disposed, off, sum_in}
use Rattle.pd_core.specs.Counts.{times, only_if}
use Rattle.pd_core.specs.Views.{known}
use Rattle.pd_core.specs.Kinds.{Found, after, set_off, clear_off}
use Rattle.pd_core.proofs.Sums.{times_else}
use Rattle.pd_core.proofs.Bits.{disposed_fits}
use Rattle.pd_core.proofs.Attaches.{eqb_is}
use Rattle.pd_core.proofs.Waves.{same_known}
use Rattle.pd_core.proofs.Facts.{known_off_gone, known_on_gone}
use Rattle.pd_board.specs.Journal.{Entries}
use Rattle.pd_shared.specs.Book.{Book, known_at}
use Rattle.pd_shared.specs.Tied.{told, act_of, toggle_of, toggle_as, known_switched, IsKnown, AreDeeds, IsTied}
use Rattle.pd_shared.proofs.ActLemmas.{yes_or_no, not_flag, with_reply, deeds_act, tied_act, gone_there, alone_disposed, disposal_stays, toggle_apart, toggle_says, order_toggle}
use Rattle.pd_shared.proofs.OrderLemmas.{switched_timed}
use Rattle.pd_shared.proofs.NumberLemmas.{numbers_low, limit_is, turned_is}

by_test : (s : Bool) (k : Known) → (k ≡ knowns.Disposed → s ≡ true) → (if s then knowns.Disposed else k) ≡ knowns.Disposed → s ≡ true
by_test true k h e = refl
by_test false k h e = h e

test_is : (w : ℕ) → disposed w ≡ 1 → (disposed w == 1) ≡ true
test_is w e = eq-eqb (disposed w) 1 e

-- what is known after it, where what a switch found as disposed is known as such, and nothing else changed
switched_here : (w : ℕ) (was now : Known) → (disposed w ≡ 1 → now ≡ knowns.Disposed) → ((disposed w == 1) ≡ false → now ≡ was) → known_switched was w ≡ now
switched_here w was now gone same = ⊎_elim
    (λ (e : (disposed w == 1) ≡ true). ap (λ (s : Bool). if s then knowns.Disposed else was) e ∙ sym (gone (eqb_is (disposed w) 1 e)))
    (λ (e : (disposed w == 1) ≡ false). ap (λ (s : Bool). if s then knowns.Disposed else was) e ∙ sym (same e))
    (yes_or_no (disposed w == 1))

no_more : (v next : View) (b : ℕ) (s : Bool) → s ≡ false → next.found_disposed ≡ v.found_disposed ++ only_if s b → next.found_attached ≡ v.found_attached → told (known next b) ≡ told (known v b)
no_more v next b s e gone on = ap told (same_known v next b (ap (times b) (gone ∙ (ap (λ (t : Bool). v.found_disposed ++ only_if t b) e ∙ append-nil v.found_disposed))) (ap (times b) on))

switched_gone : (w : ℕ) (k : Known) → k ≡ knowns.Disposed → known_switched k w ≡ knowns.Disposed
switched_gone w k e = ap (λ y. known_switched y w) e ∙ both_gone (disposed w == 1)
  where
    both_gone : (s : Bool) → (if s then knowns.Disposed else knowns.Disposed) ≡ knowns.Disposed
    both_gone true = refl
    both_gone false = refl

toggle_gone : (disables : Bool) (w : ℕ) → disposed w ≡ 1 → toggle_of disables w ≡ toggles.Gone
toggle_gone disables w e = ap (λ (s : Bool). toggle_as s (beq (off w == 1) disables) (sum_in w)) (test_is w e)

pub tied_off : (p : Layout) (b w : ℕ) (v : View) (k : Book) (m : Entries) (x : Known) → b < bindings p → IsTied p v k → Found p (set_off b) v w → x ≡ known_switched (known_at k.known b) w → m ≡ with_reply k.entries (acts.Disabled b (toggle_of true w))
    → IsTied p (after p (set_off b) w v) (record k { known = slice_set k.known b x; entries = m })
tied_off p b w v k m x lt t f later is =
    let next : View = after p (set_off b) w v in
    let r : ActResult = acts.Disabled b (toggle_of true w) in
    tied_act p v next k m b x r lt t is t.idle refl refl refl refl
    (deeds_act v.deeds next.deeds k.entries m r t.deeds is refl (sym (append-nil v.deeds.made)) (sym (append-nil v.deeds.firsts)) (sym (append-nil v.deeds.late)) (sym (append-nil v.deeds.counts))
    (map-append act_of v.deeds.toggles _)
    (order_toggle true b (toggle_of true w) k.entries.replies (λ h. toggle_gone true w (sym (ap disposed f.3) ∙ gone_there p f.0.words f.0.views f.2.0 b v k.known f.1 f.2.1 lt t.known_is (t.gone b h))))
    (switched_timed p b w v f.0.words f.0.views f.2.0 f.1 f.2.1 lt f.3 true))
    (later ∙ switched_here w (known_at k.known b) (told (known next b)) (λ e. ap told (known_off_gone p b w v e)) (λ e. no_more v next b (disposed w == 1) e refl refl ∙ sym (t.known_is.1 b lt)))
    (λ c ne. same_known v next c (times_else c b v.found_disposed (disposed w == 1) ne) refl)
    (λ a gone. disposal_stays b k.entries.replies r (alone_disposed p f.0.words f.0.views f.2.0 b v k.entries f.1 f.2.1 t.deeds a lt
    (ap disposed f.3 ∙ eqb_is (disposed w) 1 (by_test (disposed w == 1) (known_at k.known b) (λ q. test_is w (sym (ap disposed f.3) ∙ gone_there p f.0.words f.0.views f.2.0 b v k.known f.1 f.2.1 lt t.known_is q)) (sym later ∙ gone)))))
    (λ c ne. toggle_apart true b c (toggle_of true w) ne) (λ gone. later ∙ switched_gone w (known_at k.known b) gone)
    (λ q. later ∙ ap (λ (s : Bool). if s then knowns.Disposed else known_at k.known b) (toggle_says true b (disposed w == 1) (beq (off w == 1) true) (sum_in w) q))

pub tied_on : (p : Layout) (b w : ℕ) (v : View) (k : Book) (m : Entries) (x : Known) → b < bindings p → IsTied p v k → Found p (clear_off b) v w → x ≡ known_switched (known_at k.known b) w → m ≡ with_reply k.entries (acts.Enabled b (toggle_of false w))
    → IsTied p (after p (clear_off b) w v) (record k { known = slice_set k.known b x; entries = m })
tied_on p b w v k m x lt t f later is =
    let next : View = after p (clear_off b) w v in
    let r : ActResult = acts.Enabled b (toggle_of false w) in
    tied_act p v next k m b x r lt t is t.idle refl refl refl refl
    (deeds_act v.deeds next.deeds k.entries m r t.deeds is refl (sym (append-nil v.deeds.made)) (sym (append-nil v.deeds.firsts)) (sym (append-nil v.deeds.late)) (sym (append-nil v.deeds.counts))
    (map-append act_of v.deeds.toggles _)
    (order_toggle false b (toggle_of false w) k.entries.replies (λ h. toggle_gone false w (sym (ap disposed f.3) ∙ gone_there p f.0.words f.0.views f.2.0 b v k.known f.1 f.2.1 lt t.known_is (t.gone b h))))
    (switched_timed p b w v f.0.words f.0.views f.2.0 f.1 f.2.1 lt f.3 false))
    (later ∙ switched_here w (known_at k.known b) (told (known next b)) (λ e. ap told (known_on_gone p b w v e)) (λ e. no_more v next b (disposed w == 1) e refl refl ∙ sym (t.known_is.1 b lt)))
    (λ c ne. same_known v next c (times_else c b v.found_disposed (disposed w == 1) ne) refl)
    (λ a gone. disposal_stays b k.entries.replies r (alone_disposed p f.0.words f.0.views f.2.0 b v k.entries f.1 f.2.1 t.deeds a lt
    (ap disposed f.3 ∙ eqb_is (disposed w) 1 (by_test (disposed w == 1) (known_at k.known b) (λ q. test_is w (sym (ap disposed f.3) ∙ gone_there p f.0.words f.0.views f.2.0 b v k.known f.1 f.2.1 lt t.known_is q)) (sym later ∙ gone)))))
    (λ c ne. toggle_apart false b c (toggle_of false w) ne) (λ gone. later ∙ switched_gone w (known_at k.known b) gone)
    (λ q. later ∙ ap (λ (s : Bool). if s then knowns.Disposed else known_at k.known b) (toggle_says false b (disposed w == 1) (beq (off w == 1) false) (sum_in w) q))

-- ---- their answers

pub off_gone : (p : Layout) (b w : ℕ) (v : View) (ks : List Known) → b < bindings p → IsKnown p v ks → Found p (set_off b) v w → known_at ks b ≡ knowns.Disposed → toggle_of true w ≡ toggles.Gone
off_gone p b w v ks lt k f e = toggle_gone true w (sym (ap disposed f.3) ∙ gone_there p f.0.words f.0.views f.2.0 b v ks f.1 f.2.1 lt k e)

pub on_gone : (p : Layout) (b w : ℕ) (v : View) (ks : List Known) → b < bindings p → IsKnown p v ks → Found p (clear_off b) v w → known_at ks b ≡ knowns.Disposed → toggle_of false w ≡ toggles.Gone
on_gone p b w v ks lt k f e = toggle_gone false w (sym (ap disposed f.3) ∙ gone_there p f.0.words f.0.views f.2.0 b v ks f.1 f.2.1 lt k e)

pub off_count : (p : Layout) (b w n : ℕ) (v : View) (e : Entries) → b < bindings p → AreDeeds v.deeds e → Found p (set_off b) v w → toggle_of true w ≡ toggles.At n → NumbersBelow b n e.sights
off_count p b w n v e lt d f q =
    let t = turned_is (beq (off w == 1) true) (disposed w == 1) (sum_in w) n q in
    let low = limit_is p f.0.words f.0.views b w f.1 lt f.3 (not_flag (disposed w) (disposed_fits w) t.0) in
    numbers_low p f.0.words f.0.views f.2.0 b n v e f.1 f.2.1 d lt (omega (arith, low, t.2))

pub on_count : (p : Layout) (b w n : ℕ) (v : View) (e : Entries) → b < bindings p → AreDeeds v.deeds e → Found p (clear_off b) v w → toggle_of false w ≡ toggles.At n → NumbersBelow b n e.sights
on_count p b w n v e lt d f q =
    let t = turned_is (beq (off w == 1) false) (disposed w == 1) (sum_in w) n q in
    let low = limit_is p f.0.words f.0.views b w f.1 lt f.3 (not_flag (disposed w) (disposed_fits w) t.0) in
    numbers_low p f.0.words f.0.views f.2.0 b n v e f.1 f.2.1 d lt (omega (arith, low, t.2))
