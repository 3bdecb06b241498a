-- A split and a join of passes keep the rule.
use Rattle.std.proofs.Common.{◌≡◌, ◌≢◌, ◌⊎◌, ℕ, zero, suc, ◌+◌, ◌<◌, ◌≤◌, List, [], ◌∷◌, ◌++◌, map, set, Bool, true, false, sym, refl, ap, ◌∙◌, subst, ⊎_elim, inl, inr, arith}
use mathlib.Core.Option.{some, some-ne-none, some-injective}
use mathlib.Core.List.{map-append}
use lib.ListN.{get_elem?}
use lib.Seq.{map-set}
use Rattle.atomic_table.proofs.Lists.{at_set, at_snoc, at_map, set_else}
use Rattle.pd_core.specs.declared.view.View.{View}
use Rattle.pd_core.specs.declared.view.Deeds.{Deeds}
use Rattle.pd_core.specs.Layout.{Layout}
use Rattle.pd_core.specs.Counts.{total, times}
use Rattle.pd_core.specs.Views.{Known, known, outcomes, no_deeds, over, of_all, drew_number, misses, toggles_upto, toggles_from, toggles_at, makings, firsts, lates, disposals, count_kept, spent_view, halved, newcomer, joined, talk_of}
use Rattle.pd_core.specs.Talks.{silent, new_talk, Spoken}
use Rattle.pd_core.specs.Good.{Wave, Knows, Done, Answered, IsOf, Fits, Good}
use Rattle.pd_core.specs.Runs.{MaySplit}
use Rattle.pd_core.proofs.Talks.{spoken_split, spoken_join}
use Rattle.pd_core.proofs.Sums.{total_push, total-set, times-append, times-none, over_joined, over_none}
use Rattle.pd_core.proofs.Waves.{wave_up}
use Rattle.pd_core.proofs.Parts.{none_underway, either_part, ordered_later, ordered_none}
use Rattle.pd_core.proofs.Frame.{There, answered_more, switched_same}
use Rattle.pd_core.specs.Layout.{binding_word}

pub no_outcomes : (k : Known) (l b : ℕ) → Wave k l (outcomes b [])
unfolding outcomes
no_outcomes k l b = record { before = 0; drawn = []; behind = 0; in_order = refl; rising = λ i j h m. absurd (omega arith); below = λ i h. absurd (omega arith); not_fresh = λ h e. omega arith; gone = λ h. absurd (omega arith) }

-- deeds that are none weigh nothing
pub drawn_none : (b x : ℕ) → over (drew_number b x) no_deeds [] ≡ 0
unfolding drew_number total
drawn_none b x = over_none (drew_number b x) refl

pub makings_none : (b : ℕ) → over (makings b) no_deeds [] ≡ 0
unfolding makings
makings_none b = over_none (makings b) (times-none b)

pub firsts_none : (b : ℕ) → over (firsts b) no_deeds [] ≡ 0
unfolding firsts
firsts_none b = over_none (firsts b) (times-none b)

pub lates_none : (b : ℕ) → over (lates b) no_deeds [] ≡ 0
unfolding lates
lates_none b = over_none (lates b) (times-none b)

pub disposals_none : (b : ℕ) → over (disposals b) no_deeds [] ≡ 0
unfolding disposals total
disposals_none b = over_none (disposals b) refl

pub kept_none : (b n : ℕ) → over (count_kept b n) no_deeds [] ≡ 0
unfolding count_kept total
kept_none b n = over_none (count_kept b n) refl

pub misses_none : (b x : ℕ) → over (misses b x) no_deeds [] ≡ 0
unfolding misses total
misses_none b x = over_none (misses b x) refl

pub upto_none : (kind : Bool) (b x : ℕ) → over (toggles_upto kind b x) no_deeds [] ≡ 0
unfolding toggles_upto total
upto_none kind b x = over_none (toggles_upto kind b x) refl

pub toggles_none : (b n : ℕ) → over (toggles_at b n) no_deeds [] ≡ 0
unfolding toggles_at total
toggles_none b n = over_none (toggles_at b n) refl

pub from_none : (kind : Bool) (b x : ℕ) → over (toggles_from kind b x) no_deeds [] ≡ 0
unfolding toggles_from total
from_none kind b x = over_none (toggles_from kind b x) refl

-- who did nothing has nothing to answer for
pub answered_none : (t : Bool → ℕ → ℕ → ℕ) (d : Deeds) → d ≡ no_deeds → Answered t d
answered_none t d e = subst (Answered t) (sym e) record { by_later = λ i j s y lt at there _ _ _ _. absurd (some-ne-none s (sym at)); by_any = λ j y there _ _. absurd (some-ne-none y (sym there)) }

at_append : {A : Type 0} (xs ys : List A) (k : ℕ) (a : A) → get_elem? (xs ++ ys) k ≡ some a → ((j : ℕ) × (get_elem? xs j ≡ some a)) ⊎ ((j : ℕ) × (get_elem? ys j ≡ some a))
at_append [] ys k a e = inr (k, e)
at_append (x ∷ xs) ys zero a e = inl (zero, e)
at_append (x ∷ xs) ys (suc k) a e = ⊎_elim (λ t. inl (suc t.0, t.1)) (λ t. inr t) (at_append xs ys k a e)

-- the deeds of a join are those of its parts
of_joined : (v w : View) (d : Deeds) → IsOf (joined v w) d → IsOf v d ⊎ IsOf w d
of_joined v w d (inl e) = inl (inl e)
of_joined v w d (inr t) = ⊎_elim (λ own. inl (inr own)) (λ (s : (j : ℕ) × (get_elem? (w.deeds ∷ w.taken) j ≡ some d)). inr (other s.0 s.1)) (at_append v.taken (w.deeds ∷ w.taken) t.0 d t.1)
  where
    other : (j : ℕ) → get_elem? (w.deeds ∷ w.taken) j ≡ some d → IsOf w d
    other zero e = inl (sym (some-injective w.deeds d e))
    other (suc j) e = inr (j, e)

of_spent : (d : Deeds) → IsOf spent_view d → d ≡ no_deeds
of_spent d (inl e) = e
of_spent d (inr t) = absurd (some-ne-none d (sym t.1))

module _ (p : Layout) (ws : List ℕ) (l : ℕ → ℕ) where
  pub knows_none : Knows p ws [] []
  knows_none = record { attached_is = λ c h k. absurd (omega (arith, times-none c)); disposed_is = λ c h k. absurd (omega (arith, times-none c)) }

  pub done_none : Done p ws l no_deeds []
  done_none = record { made_is = λ c h k. absurd (omega (arith, makings_none c)); late_is = λ c h k. absurd (omega (arith, lates_none c)); count_is = λ c n h k. absurd (omega (arith, kept_none c n)); toggle_is = λ c n h k. absurd (omega (arith, toggles_none c n)) }

  fits_halved : (v : View) → MaySplit p v → Fits p ws l v → Fits p ws l (halved v)
  fits_halved v may f = record { underway = f.underway; knows = f.knows; done = f.done; waves = f.waves; ordered = ordered_later v.deeds v.steps (v.steps + 1) (omega arith) f.ordered; few = f.few; idle = λ z. absurd (omega (arith, may.0)) }

  fits_newcomer : (v : View) → Fits p ws l v → Fits p ws l (newcomer v)
  fits_newcomer v f = record { underway = none_underway p ws; knows = f.knows; done = done_none; waves = λ c h. no_outcomes (known (newcomer v) c) (l c) c; ordered = ordered_none 0; few = (omega arith, omega arith); idle = λ z. absurd (omega arith) }

  pub fits_spent : Fits p ws l spent_view
  fits_spent = record { underway = none_underway p ws; knows = knows_none; done = done_none; waves = λ c h. no_outcomes (known spent_view c) (l c) c; ordered = ordered_none 0; few = (omega arith, omega arith); idle = λ z. refl }

  fits_joined : (v w : View) → 0 < v.seat_share → Fits p ws l v → Fits p ws l w → Fits p ws l (joined v w)
  fits_joined v w seated f g = record {
    underway = f.underway;
    knows = record {
      attached_is = λ c h k. either_part (times c v.found_attached) (times c w.found_attached) (times c (joined v w).found_attached) k (times-append c v.found_attached w.found_attached) (λ j. f.knows.attached_is c h j) (λ j. g.knows.attached_is c h j);
      disposed_is = λ c h k. either_part (times c v.found_disposed) (times c w.found_disposed) (times c (joined v w).found_disposed) k (times-append c v.found_disposed w.found_disposed) (λ j. f.knows.disposed_is c h j) (λ j. g.knows.disposed_is c h j);
    };
    done = record {
      made_is = λ c h k. either_part (of_all (makings c) v) (of_all (makings c) w) (of_all (makings c) (joined v w)) k (over_joined (makings c) v.deeds w.deeds v.taken w.taken) (λ j. f.done.made_is c h j) (λ j. g.done.made_is c h j);
      late_is = λ c h k. either_part (of_all (lates c) v) (of_all (lates c) w) (of_all (lates c) (joined v w)) k (over_joined (lates c) v.deeds w.deeds v.taken w.taken) (λ j. f.done.late_is c h j) (λ j. g.done.late_is c h j);
      toggle_is = λ c n h k. either_part (of_all (toggles_at c n) v) (of_all (toggles_at c n) w) (of_all (toggles_at c n) (joined v w)) k (over_joined (toggles_at c n) v.deeds w.deeds v.taken w.taken) (λ j. f.done.toggle_is c n h j) (λ j. g.done.toggle_is c n h j);
      count_is = λ c n h k. either_part (of_all (count_kept c n) v) (of_all (count_kept c n) w) (of_all (count_kept c n) (joined v w)) k (over_joined (count_kept c n) v.deeds w.deeds v.taken w.taken) (λ j. f.done.count_is c n h j) (λ j. g.done.count_is c n h j);
    };
    waves = λ c h. wave_up v (joined v w) c (l c) (outcomes c v.deeds.sights) (omega (arith, times-append c v.found_disposed w.found_disposed)) (omega (arith, times-append c v.found_attached w.found_attached)) (f.waves c h);
    ordered = ordered_later v.deeds v.steps (v.steps + 1) (omega arith) f.ordered;
    few = f.few;
    idle = λ z. absurd (omega arith);
  }

-- a weight that the two parts of a split have together stays
pub total_split : (f : View → ℕ) (views : List View) (id : ℕ) (v left right : View) → get_elem? views id ≡ some v → f left + f right ≡ f v → total f (set views id left ++ right ∷ []) ≡ total f views
total_split f views id v left right at e = omega (arith, total_push f (set views id left) right, total-set f views id v left at)

-- a weight that one takes over from another stays
pub total_join : (f : View → ℕ) (views : List View) (id other : ℕ) (v w both spent : View) → get_elem? views id ≡ some v → get_elem? (set views id both) other ≡ some w → f both + f spent ≡ f v + f w → total f (set (set views id both) other spent) ≡ total f views
total_join f views id other v w both spent at there e = omega (arith, total-set f (set views id both) other w spent there, total-set f views id v both at)

pub split_keeps : (p : Layout) (ws : List ℕ) (views : List View) (id : ℕ) (v : View) → Good p ws views → get_elem? views id ≡ some v → MaySplit p v → Good p ws (set views id (halved v) ++ newcomer v ∷ [])
split_keeps p ws views id v g at may =
    let mine = g.each id v at in
    let weighed : (f : Deeds → ℕ) → over f no_deeds [] ≡ 0 → total (of_all f) (set views id (halved v) ++ newcomer v ∷ []) ≡ total (of_all f) views = λ f none. total_split (of_all f) views id v (halved v) (newcomer v) at (omega (arith, none)) in
    record {
      shape = g.shape;
      sized = g.sized;
      limit = g.limit;
      sound = g.sound;
      each = λ j u e. ⊎_elim
          (λ was. ⊎_elim (λ (t : (j ≡ id) × (halved v ≡ u)). subst (Fits p ws g.limit) t.1 (fits_halved p ws g.limit v may mine)) (λ (t : (j ≢ id) × (get_elem? views j ≡ some u)). g.each j u t.1) (at_set views id j (halved v) u was))
          (λ (new : newcomer v ≡ u). subst (Fits p ws g.limit) new (fits_newcomer p ws g.limit v mine))
          (at_snoc (set views id (halved v)) (newcomer v) u j e);
      counted = record {
        drawn = λ b x h. weighed (drew_number b x) (drawn_none b x) ∙ g.counted.drawn b x h;
        set_first = λ b h. weighed (firsts b) (firsts_none b) ∙ g.counted.set_first b h;
        ended = λ b h. weighed (disposals b) (disposals_none b) ∙ g.counted.ended b h;
        draws = omega (arith, total_split (λ (u : View). u.draw_share) views id v (halved v) (newcomer v) at (omega (arith, may.1)), g.counted.draws);
        seats = total_split (λ (u : View). u.seat_share) views id v (halved v) (newcomer v) at (omega (arith, may.0)) ∙ g.counted.seats;
      };
      switched = λ b h. switched_same (binding_word p ws b) (binding_word p ws b) (g.limit b) (g.limit b) (λ x. total (of_all (toggles_upto true b x)) views) (λ x. total (of_all (toggles_upto false b x)) views) (λ x. total (of_all (misses b x)) views) _ _ _ refl refl refl
          (λ x. weighed (toggles_upto true b x) (upto_none true b x)) (λ x. weighed (toggles_upto false b x) (upto_none false b x)) (λ x. weighed (misses b x) (misses_none b x)) (g.switched b h);
      answered = λ j u e d is.
          let same_there : (kind : Bool) (b x : ℕ) → There views kind b x ≤ There (set views id (halved v) ++ newcomer v ∷ []) kind b x = λ kind b x. omega (arith, weighed (toggles_from kind b x) (from_none kind b x)) in
          let grown : Answered (There views) d → Answered (There (set views id (halved v) ++ newcomer v ∷ [])) d = answered_more (There views) (There (set views id (halved v) ++ newcomer v ∷ [])) d d refl same_there in
          ⊎_elim
          (λ was. ⊎_elim (λ (t : (j ≡ id) × (halved v ≡ u)). grown (g.answered id v at d (subst (λ (y : View). IsOf y d) (sym t.1) is))) (λ (t : (j ≢ id) × (get_elem? views j ≡ some u)). grown (g.answered j u t.1 d is)) (at_set views id j (halved v) u was))
          (λ (new : newcomer v ≡ u). answered_none (There (set views id (halved v) ++ newcomer v ∷ [])) d (of_spent d (subst (λ (y : View). IsOf y d) (sym new) is)))
          (at_snoc (set views id (halved v)) (newcomer v) u j e);
      spoken = subst (Spoken p ws) (sym (map-append talk_of (set views id (halved v)) (newcomer v ∷ []) ∙ ap (λ ts. ts ++ new_talk ∷ []) (map-set talk_of views id (halved v))))
          (spoken_split p ws (map talk_of views) id v.talk (at_map talk_of views id v at) (λ s lt. let e = may.2 s lt in omega arith) may.3 g.spoken);
    }

pub join_keeps : (p : Layout) (ws : List ℕ) (views : List View) (id other : ℕ) (v w : View) → Good p ws views → get_elem? views id ≡ some v → other ≢ id → get_elem? views other ≡ some w → 0 < v.seat_share → Good p ws (set (set views id (joined v w)) other spent_view)
join_keeps p ws views id other v w g at apart there seated =
    let both : View = joined v w in
    let there' : get_elem? (set views id both) other ≡ some w = set_else views id other both apart ∙ there in
    let weighed : (f : Deeds → ℕ) → over f no_deeds [] ≡ 0 → total (of_all f) (set (set views id both) other spent_view) ≡ total (of_all f) views =
    λ f none. total_join (of_all f) views id other v w both spent_view at there' (omega (arith, over_joined f v.deeds w.deeds v.taken w.taken, none)) in
    record {
      shape = g.shape;
      sized = g.sized;
      limit = g.limit;
      sound = g.sound;
      each = λ j u e. ⊎_elim
          (λ (t : (j ≡ other) × (spent_view ≡ u)). subst (Fits p ws g.limit) t.1 (fits_spent p ws g.limit))
          (λ (t : (j ≢ other) × (get_elem? (set views id both) j ≡ some u)). ⊎_elim (λ (s : (j ≡ id) × (both ≡ u)). subst (Fits p ws g.limit) s.1 (fits_joined p ws g.limit v w seated (g.each id v at) (g.each other w there)))
          (λ (s : (j ≢ id) × (get_elem? views j ≡ some u)). g.each j u s.1) (at_set views id j both u t.1))
          (at_set (set views id both) other j spent_view u e);
      counted = record {
        drawn = λ b x h. weighed (drew_number b x) (drawn_none b x) ∙ g.counted.drawn b x h;
        set_first = λ b h. weighed (firsts b) (firsts_none b) ∙ g.counted.set_first b h;
        ended = λ b h. weighed (disposals b) (disposals_none b) ∙ g.counted.ended b h;
        draws = omega (arith, total_join (λ (u : View). u.draw_share) views id other v w both spent_view at there' (omega arith), g.counted.draws);
        seats = total_join (λ (u : View). u.seat_share) views id other v w both spent_view at there' (omega arith) ∙ g.counted.seats;
      };
      switched = λ b h. switched_same (binding_word p ws b) (binding_word p ws b) (g.limit b) (g.limit b) (λ x. total (of_all (toggles_upto true b x)) views) (λ x. total (of_all (toggles_upto false b x)) views) (λ x. total (of_all (misses b x)) views) _ _ _ refl refl refl
          (λ x. weighed (toggles_upto true b x) (upto_none true b x)) (λ x. weighed (toggles_upto false b x) (upto_none false b x)) (λ x. weighed (misses b x) (misses_none b x)) (g.switched b h);
      answered = λ j u e d is.
          let same_there : (kind : Bool) (b x : ℕ) → There views kind b x ≤ There (set (set views id both) other spent_view) kind b x = λ kind b x. omega (arith, weighed (toggles_from kind b x) (from_none kind b x)) in
          let grown : Answered (There views) d → Answered (There (set (set views id both) other spent_view)) d = answered_more (There views) (There (set (set views id both) other spent_view)) d d refl same_there in
          ⊎_elim
          (λ (t : (j ≡ other) × (spent_view ≡ u)). answered_none (There (set (set views id both) other spent_view)) d (of_spent d (subst (λ (y : View). IsOf y d) (sym t.1) is)))
          (λ (t : (j ≢ other) × (get_elem? (set views id both) j ≡ some u)). ⊎_elim
          (λ (s : (j ≡ id) × (both ≡ u)). ⊎_elim (λ mine. grown (g.answered id v at d mine)) (λ theirs. grown (g.answered other w there d theirs)) (of_joined v w d (subst (λ (y : View). IsOf y d) (sym s.1) is)))
          (λ (s : (j ≢ id) × (get_elem? views j ≡ some u)). grown (g.answered j u s.1 d is)) (at_set views id j both u t.1))
          (at_set (set views id both) other j spent_view u e);
      spoken = subst (Spoken p ws) (sym (map-set talk_of (set views id both) other spent_view ∙ ap (λ ts. set ts other silent) (map-set talk_of views id both))) (spoken_join p ws (map talk_of views) id other v.talk w.talk (at_map talk_of views id v at) (at_map talk_of views other w there)
          (subst (λ ts. get_elem? ts other ≡ some w.talk) (map-set talk_of views id both) (at_map talk_of (set views id both) other w there')) g.spoken);
    }
