-- What an attach says.
use Rattle.std.proofs.Common.{◌≡◌, ◌≢◌, ℕ, ◌<◌, List, [], ◌∷◌, Bool, true, false, if◌then◌else◌, ◌==◌, ◌||◌, None, Option, sym, refl, ap, ◌∙◌, subst, arith, eq-eqb, ne_eqb}
use Rattle.std.specs.List.{filter_map, list_any}
use Rattle.pd_board.proofs.ChainLemmas.{by_eq}
use Rattle.pd_board.specs.declared.answers.Known.{Known}
use Rattle.pd_board.specs.declared.answers.Known.TheVariants as knowns
use Rattle.pd_board.specs.declared.answers.Attach.TheVariants as attaches
use Rattle.pd_board.specs.declared.answers.Dispose.TheVariants as disposes
use Rattle.pd_board.specs.declared.answers.ActResult.{ActResult}
use Rattle.pd_board.specs.declared.answers.ActResult.TheVariants as acts
use Rattle.pd_board.specs.Answers.{is_attach, is_dispose, is_disposal, has_attach, has_dispose, has_disposal, NumbersBelow}
use Rattle.pd_core.specs.declared.view.View.{View}
use Rattle.pd_core.specs.declared.view.Attaching.{Attaching}
use Rattle.pd_core.specs.declared.view.Deeds.{Deeds}
use Rattle.pd_core.specs.Layout.{Layout, bindings, binding_word}
use Rattle.pd_core.specs.Words.{attached, disposed}
use Rattle.pd_core.specs.Counts.{total, times}
use Rattle.pd_core.specs.Views.{past_in, half_in, over, of_all, makings, firsts, no_deeds, spent_view}
use Rattle.pd_core.specs.Kinds.{Found, set_attached}
use Rattle.pd_core.proofs.Sums.{same_here, same_else, over_none, times-none}
use Rattle.pd_core.proofs.Bits.{disposed_fits, attached_fits}
use Rattle.pd_core.proofs.Attaches.{eqb_is}
use Rattle.pd_core.proofs.Whole.{whole_total}
use Rattle.pd_shared.specs.Book.{Book, known_at}
use Rattle.pd_shared.specs.Tied.{attach_as, attach_of, known_set, made_by, first_by, is_alone, IsKnown, AreDeeds, KnowsAlone, KnowsGone}
use Rattle.pd_shared.proofs.ActLemmas.{not_flag, gone_there, attached_there, alone_disposed, or_first, or_second, alone_is, over_alone, dispose_says}
use Rattle.pd_shared.proofs.NumberLemmas.{numbers_low, over_own}

pub idle_start : (b : ℕ) (a : Option Attaching) → a ≡ None → (past_in a b ≡ 0) × (half_in a b ≡ false)
unfolding past_in half_in
idle_start b a e = (ap (λ (x : Option Attaching). past_in x b) e, ap (λ (x : Option Attaching). half_in x b) e)

already_not : (made gone : Bool) → (attach_as made gone ≡ attaches.Already → ⊥) → made ≡ false
already_not true gone h = absurd (h refl)
already_not false gone h = refl

attached_both : (made gone : Bool) → attach_as made gone ≡ attaches.Attached → (made ≡ false) × (gone ≡ false)
attached_both true gone e = absurd (cc)
attached_both false true e = absurd (cc)
attached_both false false e = (refl, refl)

fresh_left : (x : Known) → (x ≡ knowns.Attached → ⊥) → (x ≡ knowns.Disposed → ⊥) → x ≡ knowns.Fresh
fresh_left knowns.Fresh h k = refl
fresh_left knowns.Attached h k = absurd (h refl)
fresh_left knowns.Disposed h k = absurd (k refl)

attach_there : (b : ℕ) (rs : List ActResult) → list_any (is_attach b) rs ≡ true → 0 < times b (filter_map made_by rs)
unfolding times total
attach_there b [] h = absurd (cc)
attach_there b (acts.Attached c a ∷ rs) h = by_eq c b
    (λ (e : c ≡ b). omega (arith, same_here b c (sym e)))
    (λ (ne : c ≢ b). let rest = attach_there b rs (sym (ap (λ (t : Bool). t || list_any (is_attach b) rs) (ne_eqb c b ne)) ∙ h) in omega arith)
attach_there b (acts.Disposed c a ∷ rs) h = attach_there b rs h
attach_there b (acts.Enabled c a ∷ rs) h = attach_there b rs h
attach_there b (acts.Disabled c a ∷ rs) h = attach_there b rs h

first_there : (b : ℕ) (rs : List ActResult) → 0 < times b (filter_map first_by rs) → list_any (is_attach b) rs ≡ true
unfolding times total
first_there b [] h = absurd (omega arith)
first_there b (acts.Attached c attaches.Attached ∷ rs) h = by_eq c b
    (λ (e : c ≡ b). or_first (c == b) (list_any (is_attach b) rs) (eq-eqb c b e))
    (λ (ne : c ≢ b). or_second (c == b) (list_any (is_attach b) rs) (first_there b rs (omega (arith, same_else b c (λ q. ne (sym q))))))
first_there b (acts.Attached c attaches.Gone ∷ rs) h = by_eq c b
    (λ (e : c ≡ b). or_first (c == b) (list_any (is_attach b) rs) (eq-eqb c b e))
    (λ (ne : c ≢ b). or_second (c == b) (list_any (is_attach b) rs) (first_there b rs (omega (arith, same_else b c (λ q. ne (sym q))))))
first_there b (acts.Attached c attaches.Already ∷ rs) h = or_second (c == b) (list_any (is_attach b) rs) (first_there b rs h)
first_there b (acts.Disposed c a ∷ rs) h = first_there b rs h
first_there b (acts.Enabled c a ∷ rs) h = first_there b rs h
first_there b (acts.Disabled c a ∷ rs) h = first_there b rs h

tried_there : (b : ℕ) (rs : List ActResult) → list_any (is_disposal b) rs ≡ true → list_any (is_dispose b) rs ≡ true
tried_there b [] h = h
tried_there b (acts.Disposed c (disposes.Disposed n) ∷ rs) h = by_eq c b
    (λ (e : c ≡ b). or_first (c == b) (list_any (is_dispose b) rs) (eq-eqb c b e))
    (λ (ne : c ≢ b). or_second (c == b) (list_any (is_dispose b) rs) (tried_there b rs (sym (ap (λ (t : Bool). t || list_any (is_disposal b) rs) (ne_eqb c b ne)) ∙ h)))
tried_there b (acts.Disposed c disposes.Already ∷ rs) h = or_second (c == b) (list_any (is_dispose b) rs) (tried_there b rs h)
tried_there b (acts.Attached c a ∷ rs) h = tried_there b rs h
tried_there b (acts.Enabled c a ∷ rs) h = tried_there b rs h
tried_there b (acts.Disabled c a ∷ rs) h = tried_there b rs h

makings_are : (b : ℕ) (d : Deeds) → makings b d ≡ times b d.made
unfolding makings
makings_are b d = refl

firsts_are : (b : ℕ) (d : Deeds) → firsts b d ≡ times b d.firsts
unfolding firsts
firsts_are b d = refl

false_left : (s : Bool) → (s ≡ true → ⊥) → s ≡ false
false_left true h = absurd (h refl)
false_left false h = refl

-- ---- over the state in which the step found its word; m is the view then, which knows and did what v does

module _ (p : Layout) (b w : ℕ) (m : View) (k : Book) (lt : b < bindings p) (known_m : IsKnown p m k.known) (deeds_m : AreDeeds m.deeds k.entries) (f : Found p (set_attached b) m w) where
  here : attached (binding_word p f.0.words b) ≡ attached w
  here = ap attached f.3

  gone_here : disposed (binding_word p f.0.words b) ≡ disposed w
  gone_here = ap disposed f.3

  not_made : (attach_of w ≡ attaches.Already → ⊥) → attached w ≡ 0
  not_made h = not_flag (attached w) (attached_fits w) (already_not (attached w == 1) (disposed w == 1) h)

  pub first_known : (attach_of w ≡ attaches.Already → ⊥) → known_at k.known b ≡ knowns.Attached → ⊥
  first_known h e = let on = attached_there p f.0.words f.0.views f.2.0 b m k.known f.1 f.2.1 lt known_m e in omega (arith, here, on, not_made h)

  pub first_fresh : attach_of w ≡ attaches.Attached → known_at k.known b ≡ knowns.Fresh
  first_fresh e =
      let flags = attached_both (attached w == 1) (disposed w == 1) e in
      fresh_left (known_at k.known b)
      (λ q. let on = attached_there p f.0.words f.0.views f.2.0 b m k.known f.1 f.2.1 lt known_m q in omega (arith, here, on, not_flag (attached w) (attached_fits w) flags.0))
      (λ q. let gone = gone_there p f.0.words f.0.views f.2.0 b m k.known f.1 f.2.1 lt known_m q in omega (arith, gone_here, gone, not_flag (disposed w) (disposed_fits w) flags.1))

  pub first_number : (attach_of w ≡ attaches.Already → ⊥) → NumbersBelow b 0 k.entries.sights
  first_number h = numbers_low p f.0.words f.0.views f.2.0 b 0 m k.entries f.1 f.2.1 deeds_m lt
      (let sum = f.1.sound.none_yet b lt (here ∙ not_made h) in let low = f.1.sound.within b lt in omega arith)

  pub first_reply : (attach_of w ≡ attaches.Already → ⊥) → has_attach b k.entries.replies ≡ false
  first_reply h = false_left (has_attach b k.entries.replies)
      (λ e. let there = subst (λ (xs : List ℕ). 0 < times b xs) (sym deeds_m.made) (attach_there b k.entries.replies e) in
      let on = (f.1.each f.2.0 m f.2.1).done.made_is b lt (omega (arith, there, makings_are b m.deeds, over_own (makings b) m.deeds m.taken)) in
      omega (arith, here, on, not_made h))

  pub again : has_attach b k.entries.replies ≡ true → attach_of w ≡ attaches.Already
  again e =
      let there = subst (λ (xs : List ℕ). 0 < times b xs) (sym deeds_m.made) (attach_there b k.entries.replies e) in
      let on = (f.1.each f.2.0 m f.2.1).done.made_is b lt (omega (arith, there, makings_are b m.deeds, over_own (makings b) m.deeds m.taken)) in
      ap (λ (s : Bool). attach_as s (disposed w == 1)) (eq-eqb (attached w) 1 (sym here ∙ on))

  alone_made : is_alone m ≡ true → 0 < attached w → has_attach b k.entries.replies ≡ true
  alone_made a on =
      let whole = alone_is m a in
      let zero_sum : of_all (firsts b) spent_view ≡ 0 = over_none (firsts b) (firsts_are b no_deeds ∙ times-none b) in
      let all = whole_total p f.0.words f.0.views f.2.0 m (of_all (firsts b)) f.1 f.2.1 whole.0 zero_sum in
      let own : of_all (firsts b) m ≡ times b m.deeds.firsts = ap (λ (ds : List Deeds). over (firsts b) m.deeds ds) whole.1 ∙ (over_alone (firsts b) m.deeds ∙ firsts_are b m.deeds) in
      first_there b k.entries.replies (subst (λ (xs : List ℕ). 0 < times b xs) deeds_m.firsts (omega (arith, all, own, f.1.counted.set_first b lt, here, on)))

  alone_gone : is_alone m ≡ true → disposed w ≡ 1 → has_disposal b k.entries.replies ≡ true
  alone_gone a gone = alone_disposed p f.0.words f.0.views f.2.0 b m k.entries f.1 f.2.1 deeds_m a lt (gone_here ∙ gone)

  pub alone_known : is_alone m ≡ true → KnowsAlone m k.known k.entries.replies → has_disposal b k.entries.replies ≡ false → known_set (known_at k.known b) w ≡ knowns.Attached
  alone_known a knows none = by_value (known_at k.known b) refl
    where
      open_yet : (disposed w == 1) ≡ false
      open_yet = false_left (disposed w == 1) (λ e. let q : true ≡ false = sym (alone_gone a (eqb_is (disposed w) 1 e)) ∙ none in cc)

      by_value : (x : Known) → known_at k.known b ≡ x → known_set x w ≡ knowns.Attached
      by_value knowns.Disposed e = absurd (let q : true ≡ false = sym (knows a b e) ∙ none in cc)
      by_value knowns.Fresh e = ap (λ (s : Bool). if s then knowns.Disposed else knowns.Attached) open_yet
      by_value knowns.Attached e = ap (λ (s : Bool). if s then knowns.Disposed else knowns.Attached) open_yet

  pub alone_first_then : KnowsGone k.known k.entries.replies → attach_of w ≡ attaches.Attached → (has_attach b k.entries.replies ≡ false) × (has_dispose b k.entries.replies ≡ false)
  alone_first_then tried e =
      let flags = attached_both (attached w == 1) (disposed w == 1) e in (
        first_reply (λ q. let bad : attaches.Attached ≡ attaches.Already = sym e ∙ q in cc),
        false_left (has_dispose b k.entries.replies)
            (λ q. let gone = gone_there p f.0.words f.0.views f.2.0 b m k.known f.1 f.2.1 lt known_m (tried b (dispose_says b k.entries.replies q)) in omega (arith, gone_here, gone, not_flag (disposed w) (disposed_fits w) flags.1)),
      )

  pub alone_first_when : is_alone m ≡ true → has_attach b k.entries.replies ≡ false → has_dispose b k.entries.replies ≡ false → attach_of w ≡ attaches.Attached
  alone_first_when a none untried =
      let off : (attached w == 1) ≡ false = false_left (attached w == 1) (λ e. let on = eqb_is (attached w) 1 e in let q : true ≡ false = sym (alone_made a (omega arith)) ∙ none in cc) in
      let open_yet : (disposed w == 1) ≡ false = false_left (disposed w == 1) (λ e. let q : true ≡ false = sym (tried_there b k.entries.replies (alone_gone a (eqb_is (disposed w) 1 e))) ∙ untried in cc) in
      (λ i. attach_as (off i) (open_yet i))
