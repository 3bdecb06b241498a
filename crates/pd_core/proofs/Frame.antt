-- What a step leaves: other words, other views, and what is only seen to grow.
use Rattle.std.proofs.Common.{Bool, true, false, ◌≡◌, ◌≢◌, ◌⊎◌, ℕ, ◌+◌, ◌/◌, ◌<◌, ◌≤◌, List, map, length, set, eqb, cond, Option, sym, refl, ap, ◌∙◌, subst, ⊎_elim, inl, inr, arith, length-set, get_or-set_same, get_or-set_other, eq-eqb, ne_eqb}
use Rattle.std.specs.Prelude.{slice_index}
use mathlib.Core.Logic.{dite}
use mathlib.Core.Option.{some}
use native.Mathlib.Decide.{ℕ_discrete}
use lib.ListN.{get_elem?}
use Rattle.atomic_table.proofs.Lists.{at_set}
use Rattle.pd_core.specs.declared.view.View.{View}
use Rattle.pd_core.specs.Layout.{Layout, bindings, row, width, Matches, IsSound, front, binding_at, binding_word}
use Rattle.pd_core.specs.Words.{attached, disposed, off, sum_in, mark, summary, IsLive}
use Rattle.pd_core.specs.Counts.{total, added, once_below}
use Rattle.pd_core.specs.declared.view.Deeds.{Deeds}
use Rattle.pd_core.specs.declared.view.Attaching.{Attaching}
use Rattle.pd_core.specs.Views.{Known, known, past_in, over, of_all, drew_number, misses, toggles_upto, toggles_from, toggle_from, firsts, disposals, outcomes, talk_of}
use Rattle.pd_core.specs.Talks.{Spoken}
use Rattle.pd_core.specs.Good.{Wave, Sound, Underway, Knows, Done, Switched, Answered, IsOf, Fits, Counted, Good}
use lib.Seq.{set-get_or}
use Rattle.pd_core.specs.Words.{made_of}
use Rattle.pd_core.specs.Kinds.{Kind, word_of, change_of, effect, May, State}
use Rattle.pd_core.proofs.Places.{row_of, row_inside, node_inside, mark_other, summary_other}
use Rattle.pd_core.proofs.Speaks.{Behind, map_stays, spoken_stays}
use Rattle.pd_core.proofs.Sums.{over_same, total-set, added_same, added_change}

-- What others know stays right
pub record Grows (p : Layout) (ws ws' : List ℕ) (l l' : ℕ → ℕ) : Type 0 where
  pub bits : (b n : ℕ) → b < bindings p → n < p.nodes → mark p ws n b ≡ 1 → (mark p ws' n b ≡ 1) ⊎ (disposed (binding_word p ws' b) ≡ 1)
  pub sums : (n r : ℕ) → n < p.nodes → summary ws n r ≡ 1 → summary ws' n r ≡ 1
  pub attached_stays : (b : ℕ) → b < bindings p → attached (binding_word p ws b) ≡ 1 → attached (binding_word p ws' b) ≡ 1
  pub disposed_stays : (b : ℕ) → b < bindings p → disposed (binding_word p ws b) ≡ 1 → disposed (binding_word p ws' b) ≡ 1
  pub limit_stays : (b : ℕ) → b < bindings p → disposed (binding_word p ws b) ≡ 1 → l' b ≡ l b
  pub limit_grows : (b : ℕ) → b < bindings p → l b ≤ l' b

wave_grows : (k : Known) (l l' : ℕ) (outs : List (Option ℕ)) → l ≤ l' → Wave k l outs → Wave k l' outs
wave_grows k l l' outs le w = record {
  before = w.before;
  drawn = w.drawn;
  behind = w.behind;
  in_order = w.in_order;
  rising = w.rising;
  below = λ i h. omega (arith, w.below i h);
  not_fresh = w.not_fresh;
  gone = w.gone;
}

module _ (p : Layout) (ws ws' : List ℕ) (l l' : ℕ → ℕ) (shape : IsSound p) (g : Grows p ws ws' l l') where
  pub underway_grows : (a : Option Attaching) → Underway p ws a → Underway p ws' a
  underway_grows a f = record {
    past = λ b k lt h. let was = f.past b k lt h in (was.0, g.sums (slice_index (row p b) k) (b / 64) (shape.1 b k was.0) was.1, ⊎_elim (λ e. g.bits b (slice_index (row p b) k) lt (shape.1 b k was.0) e) (λ d. inr (g.disposed_stays b lt d)) was.2);
    half_done = λ b n lt h. ⊎_elim (λ e. g.bits b n lt (subst (λ (x : ℕ). x < p.nodes) h.1.1 (shape.1 b (past_in a b) h.1.0)) e) (λ d. inr (g.disposed_stays b lt d)) (f.half_done b n lt h);
  }

  pub knows_grows : (on gone : List ℕ) → Knows p ws on gone → Knows p ws' on gone
  knows_grows on gone f = record { attached_is = λ b lt h. g.attached_stays b lt (f.attached_is b lt h); disposed_is = λ b lt h. g.disposed_stays b lt (f.disposed_is b lt h) }

  pub done_grows : (d : Deeds) (ds : List Deeds) → Done p ws l d ds → Done p ws' l' d ds
  done_grows d ds f = record {
    made_is = λ b lt h. g.attached_stays b lt (f.made_is b lt h);
    late_is = λ b lt h. let was = f.late_is b lt h in (g.disposed_stays b lt was.0, g.limit_stays b lt was.0 ∙ was.1);
    count_is = λ b n lt h. let was = f.count_is b n lt h in (g.disposed_stays b lt was.0, was.1 ∙ sym (g.limit_stays b lt was.0));
    toggle_is = λ b n lt h. omega (arith, f.toggle_is b n lt h, g.limit_grows b lt);
  }

pub fits_grows : (p : Layout) (ws ws' : List ℕ) (l l' : ℕ → ℕ) (v : View) → IsSound p → Grows p ws ws' l l' → Fits p ws l v → Fits p ws' l' v
fits_grows p ws ws' l l' v shape g f = record {
  underway = underway_grows p ws ws' l l' shape g v.attaching f.underway;
  knows = knows_grows p ws ws' l l' shape g v.found_attached v.found_disposed f.knows;
  done = done_grows p ws ws' l l' shape g v.deeds v.taken f.done;
  waves = λ b lt. wave_grows (known v b) (l b) (l' b) (outcomes b v.deeds.sights) (g.limit_grows b lt) (f.waves b lt);
  ordered = f.ordered;
  few = f.few;
  idle = f.idle;
}

pub each_grows : (p : Layout) (ws ws' : List ℕ) (l l' : ℕ → ℕ) (views : List View) (id : ℕ) (w : View) → IsSound p → Grows p ws ws' l l'
    → ((j : ℕ) (u : View) → get_elem? views j ≡ some u → Fits p ws l u) → Fits p ws' l' w → (j : ℕ) (u : View) → get_elem? (set views id w) j ≡ some u → Fits p ws' l' u
each_grows p ws ws' l l' views id w shape g each mine j u e =
    ⊎_elim (λ (t : (j ≡ id) × (w ≡ u)). subst (Fits p ws' l') t.1 mine) (λ (t : (j ≢ id) × (get_elem? views j ≡ some u)). fits_grows p ws ws' l l' u shape g (each j u t.1)) (at_set views id j w u e)

-- What a change of one view owes to what all have together
pub record Weighs (p : Layout) (ws ws' : List ℕ) (l l' : ℕ → ℕ) (v w : View) : Type 0 where
  pub drawn : (b x : ℕ) → b < bindings p → of_all (drew_number b x) w + once_below x (l b) ≡ of_all (drew_number b x) v + once_below x (l' b)
  pub set_first : (b : ℕ) → b < bindings p → of_all (firsts b) w + attached (binding_word p ws b) ≡ of_all (firsts b) v + attached (binding_word p ws' b)
  pub ended : (b : ℕ) → b < bindings p → of_all (disposals b) w + disposed (binding_word p ws b) ≡ of_all (disposals b) v + disposed (binding_word p ws' b)
  pub draws : w.draw_share + added (λ b. sum_in (binding_word p ws' b)) (bindings p) ≤ v.draw_share + added (λ b. sum_in (binding_word p ws b)) (bindings p)
  pub seats : w.seat_share ≡ v.seat_share

pub counted_weighs : (p : Layout) (ws ws' : List ℕ) (l l' : ℕ → ℕ) (views : List View) (id : ℕ) (v w : View) → get_elem? views id ≡ some v → Weighs p ws ws' l l' v w → Counted p ws l views → Counted p ws' l' (set views id w)
counted_weighs p ws ws' l l' views id v w at h c = record {
  drawn = λ b x lt. omega (arith, total-set (of_all (drew_number b x)) views id v w at, h.drawn b x lt, c.drawn b x lt);
  set_first = λ b lt. omega (arith, total-set (of_all (firsts b)) views id v w at, h.set_first b lt, c.set_first b lt);
  ended = λ b lt. omega (arith, total-set (of_all (disposals b)) views id v w at, h.ended b lt, c.ended b lt);
  draws = omega (arith, total-set (λ (u : View). u.draw_share) views id v w at, h.draws, c.draws);
  seats = omega (arith, total-set (λ (u : View). u.seat_share) views id v w at, h.seats, c.seats);
}

-- there is room for the words of nodes and bindings
pub room : {p : Layout} {ws : List ℕ} {views : List View} → Good p ws views → front p + bindings p ≤ length ws
room g = omega (arith, g.sized)

-- what the toggles of all bindings say
abbrev pub AllSwitched : Layout → List ℕ → (ℕ → ℕ) → List View → Type 0
AllSwitched p ws l views = (b : ℕ) → b < bindings p → Switched (binding_word p ws b) (l b) (λ x. total (of_all (toggles_upto true b x)) views) (λ x. total (of_all (toggles_upto false b x)) views) (λ x. total (of_all (misses b x)) views)

-- the toggles that found nothing to change, of all views
abbrev pub There : List View → Bool → ℕ → ℕ → ℕ
There views kind b x = total (of_all (toggles_from kind b x)) views

abbrev pub AllAnswered : List View → Type 0
AllAnswered views = (id : ℕ) (v : View) → get_elem? views id ≡ some v → (d : Deeds) → IsOf v d → Answered (There views) d

pub answered_more : (t u : Bool → ℕ → ℕ → ℕ) (d e : Deeds) → e.toggles ≡ d.toggles → ((kind : Bool) (b x : ℕ) → t kind b x ≤ u kind b x) → Answered t d → Answered u e
answered_more t u d e same_toggles more f = record {
  by_later = λ i j s y lt at there is turned other so. let was = f.by_later i j s y lt (ap (λ xs. get_elem? xs i) (sym same_toggles) ∙ at) (ap (λ xs. get_elem? xs j) (sym same_toggles) ∙ there) is turned other so in omega (arith, more y.disables y.binding (sum_in s.found));
  by_any = λ j y there kind so. let was = f.by_any j y (ap (λ xs. get_elem? xs j) (sym same_toggles) ∙ there) kind so in omega (arith, more true y.binding 0);
}

-- what one view answers for grows, and it answers for its own deeds and for what it took in as before
pub answered_grows : (views : List View) (id : ℕ) (v w : View) → get_elem? views id ≡ some v → ((kind : Bool) (b x : ℕ) → of_all (toggles_from kind b x) v ≤ of_all (toggles_from kind b x) w) → w.taken ≡ v.taken → Answered (There (set views id w)) w.deeds
    → AllAnswered views → AllAnswered (set views id w)
answered_grows views id v w at more same_taken own all j u e d is =
    let grown : (kind : Bool) (b x : ℕ) → There views kind b x ≤ There (set views id w) kind b x = λ kind b x. omega (arith, total-set (of_all (toggles_from kind b x)) views id v w at, more kind b x) in
    ⊎_elim
    (λ (c : (j ≡ id) × (w ≡ u)). ⊎_elim
    (λ (mine : d ≡ u.deeds). subst (Answered (There (set views id w))) (ap (λ (y : View). y.deeds) c.1 ∙ sym mine) own)
    (λ (other : (k : ℕ) × (get_elem? u.taken k ≡ some d)). answered_more (There views) (There (set views id w)) d d refl grown (all id v at d (inr (other.0, ap (λ xs. get_elem? xs other.0) (sym same_taken ∙ ap (λ (y : View). y.taken) c.1) ∙ other.1)))) is)
    (λ (c : (j ≢ id) × (get_elem? views j ≡ some u)). answered_more (There views) (There (set views id w)) d d refl grown (all j u c.1 d is)) (at_set views id j w u e)

-- a step that leaves the toggles
pub answered_kept : (views : List View) (id : ℕ) (v w : View) → get_elem? views id ≡ some v → w.deeds.toggles ≡ v.deeds.toggles → w.taken ≡ v.taken → AllAnswered views → AllAnswered (set views id w)
unfolding toggles_from
answered_kept views id v w at same_toggles same_taken all =
    let alike : (kind : Bool) (b x : ℕ) → of_all (toggles_from kind b x) w ≡ of_all (toggles_from kind b x) v =
    λ kind b x. ap (λ ds. over (toggles_from kind b x) w.deeds ds) same_taken ∙ over_same (toggles_from kind b x) v.deeds w.deeds v.taken (ap (total (toggle_from kind b x)) same_toggles) in
    let more : (kind : Bool) (b x : ℕ) → There views kind b x ≤ There (set views id w) kind b x = λ kind b x. omega (arith, total-set (of_all (toggles_from kind b x)) views id v w at, alike kind b x) in
    answered_grows views id v w at (λ kind b x. omega (arith, alike kind b x)) same_taken (answered_more (There views) (There (set views id w)) v.deeds w.deeds same_toggles more (all id v at v.deeds (inl refl))) all

pub switched_same : (o o' l l' : ℕ) (d e m d' e' m' : ℕ → ℕ) → disposed o' ≡ disposed o → off o' ≡ off o → l' ≡ l → ((x : ℕ) → d' x ≡ d x) → ((x : ℕ) → e' x ≡ e x) → ((x : ℕ) → m' x ≡ m x) → Switched o l d e m → Switched o' l' d' e' m'
switched_same o o' l l' d e m d' e' m' gone_same off_same limit_same dd ee mm s = record {
  below = λ x h. omega (arith, s.below x (omega arith), dd x, ee x, mm x);
  on = λ x h k. omega (arith, s.on x (omega arith) (sym gone_same ∙ k), dd x, ee x);
  gone = λ x h k. ⊎_elim (λ (y : d x ≡ e x). inl (omega (arith, dd x, ee x))) (λ (y : d x ≡ e x + 1). inr (omega (arith, dd x, ee x))) (s.gone x (omega arith) (sym gone_same ∙ k));
  none = λ x h. omega (arith, s.none x (omega arith), mm x);
}

-- a step whose word, limit and view are all of these kinds keeps the rule
pub good_steps : (p : Layout) (ws ws' : List ℕ) (views : List View) (id : ℕ) (v w : View) (g : Good p ws views) (l' : ℕ → ℕ) → length ws' ≡ length ws → get_elem? views id ≡ some v → Sound p ws' l'
    → Grows p ws ws' g.limit l' → Weighs p ws ws' g.limit l' v w → Fits p ws' l' w → Spoken p ws' (map talk_of (set views id w)) → AllSwitched p ws' l' (set views id w) → AllAnswered (set views id w) → Good p ws' (set views id w)
good_steps p ws ws' views id v w g l' wide at sound grows weighs mine spoken switched answered = record {
  shape = g.shape;
  sized = wide ∙ g.sized;
  limit = l';
  sound = sound;
  each = each_grows p ws ws' g.limit l' views id w g.shape grows g.each mine;
  counted = counted_weighs p ws ws' g.limit l' views id v w at weighs g.counted;
  switched = switched;
  answered = answered;
  spoken = spoken;
}

-- a step that leaves the talk alone, and the words of the talk
talk_stays : (p : Layout) (ws ws' : List ℕ) (views : List View) (id : ℕ) (v w : View) → Good p ws views → get_elem? views id ≡ some v → w.talk ≡ v.talk → Behind p ws ws' → Spoken p ws' (map talk_of (set views id w))
talk_stays p ws ws' views id v w g at same_talk behind = subst (Spoken p ws') (sym (map_stays talk_of views id v w at same_talk)) (spoken_stays p ws ws' (map talk_of views) behind g.spoken)

-- the function, with another value at one number
abbrev pub put : (ℕ → ℕ) → ℕ → ℕ → ℕ → ℕ
put f b m c = cond (eqb c b) m (f c)

pub put_here : (f : ℕ → ℕ) (b m : ℕ) → put f b m b ≡ m
put_here f b m = ap (λ t. cond t m (f b)) (eq-eqb b b refl)

pub put_else : (f : ℕ → ℕ) (b m c : ℕ) → c ≢ b → put f b m c ≡ f c
put_else f b m c ne = ap (λ t. cond t m (f c)) (ne_eqb c b ne)

-- A step on the word of b, which becomes x, while its limit becomes m
module _ (p : Layout) (ws : List ℕ) (b x m : ℕ) (l : ℕ → ℕ) (sized : front p + bindings p ≤ length ws) (lt : b < bindings p) where
  abbrev turned : List ℕ
  turned = set ws (binding_at p b) x

  pub word_here : binding_word p turned b ≡ x
  word_here = get_or-set_same ws (binding_at p b) x 0 (omega arith)

  pub word_else : (c : ℕ) → c ≢ b → binding_word p turned c ≡ binding_word p ws c
  word_else c ne = get_or-set_other ws (binding_at p b) (binding_at p c) x 0 (λ e. ne (omega arith))

  pub mark_stays : (c n : ℕ) → c / 64 < width p → n < p.nodes → mark p turned n c ≡ mark p ws n c
  mark_stays c n h k = mark_other p ws (binding_at p b) x n c (λ e. omega (arith, row_inside p n (c / 64) k h))

  pub summary_stays : (n r : ℕ) → n < p.nodes → summary turned n r ≡ summary ws n r
  summary_stays n r k = summary_other ws (binding_at p b) x n r (λ e. omega (arith, node_inside p n k))

  -- what holds of the new word and of each other one
  pub at_binding : (Q : ℕ → ℕ → ℕ → Type 0) → Q b x m → ((c : ℕ) → c ≢ b → Q c (binding_word p ws c) (l c)) → (c : ℕ) → Q c (binding_word p turned c) (put l b m c)
  at_binding Q here others c =
      dite (ℕ_discrete c b)
      (λ e. subst (λ (y : ℕ × ℕ × ℕ). Q y.0 y.1 y.2) (λ i. (sym e i, (sym word_here ∙ ap (binding_word p turned) (sym e)) i, (sym (put_here l b m) ∙ ap (put l b m) (sym e)) i)) here)
      (λ ne. subst (λ (y : ℕ × ℕ). Q c y.0 y.1) (λ i. (sym (word_else c ne) i, sym (put_else l b m c ne) i)) (others c ne))

-- What a step makes of the word o with the limit l
pub record Turns (o x l m : ℕ) : Type 0 where
  pub attached_stays : attached o ≡ 1 → attached x ≡ 1
  pub disposed_stays : disposed o ≡ 1 → disposed x ≡ 1
  pub limit_stays : disposed o ≡ 1 → m ≡ l
  pub limit_grows : l ≤ m
  pub none_yet : attached x ≡ 0 → sum_in x ≡ 0
  pub until : disposed x ≡ 0 → m ≡ sum_in x
  pub within : m ≤ sum_in x

-- What it owes to the sums
pub record Owes (b o x l m : ℕ) (v w : View) : Type 0 where
  pub drawn_here : (y : ℕ) → of_all (drew_number b y) w + once_below y l ≡ of_all (drew_number b y) v + once_below y m
  pub drawn_else : (c y : ℕ) → c ≢ b → of_all (drew_number c y) w ≡ of_all (drew_number c y) v
  pub first_here : of_all (firsts b) w + attached o ≡ of_all (firsts b) v + attached x
  pub first_else : (c : ℕ) → c ≢ b → of_all (firsts c) w ≡ of_all (firsts c) v
  pub ended_here : of_all (disposals b) w + disposed o ≡ of_all (disposals b) v + disposed x
  pub ended_else : (c : ℕ) → c ≢ b → of_all (disposals c) w ≡ of_all (disposals c) v
  pub draws : w.draw_share + sum_in x ≤ v.draw_share + sum_in o
  pub seats : w.seat_share ≡ v.seat_share
  pub talks : w.talk ≡ v.talk
  pub upto_else : (kind : Bool) (c y : ℕ) → c ≢ b → of_all (toggles_upto kind c y) w ≡ of_all (toggles_upto kind c y) v
  pub misses_else : (c y : ℕ) → c ≢ b → of_all (misses c y) w ≡ of_all (misses c y) v
  pub switch : (d e f d' e' f' : ℕ → ℕ) → ((y : ℕ) → d' y + of_all (toggles_upto true b y) v ≡ d y + of_all (toggles_upto true b y) w) → ((y : ℕ) → e' y + of_all (toggles_upto false b y) v ≡ e y + of_all (toggles_upto false b y) w)
      → ((y : ℕ) → f' y + of_all (misses b y) v ≡ f y + of_all (misses b y) w) → Switched o l d e f → Switched x m d' e' f'

module _ (p : Layout) (ws : List ℕ) (b x m : ℕ) (l : ℕ → ℕ) (sized : front p + bindings p ≤ length ws) (lt : b < bindings p) (shape : IsSound p) (t : Turns (binding_word p ws b) x (l b) m) where
  abbrev later : List ℕ
  later = turned p ws b x m l sized lt

  pub turned_grows : Grows p ws later l (put l b m)
  turned_grows = record {
    bits = λ c n h k e. inl (mark_stays p ws b x m l sized lt c n (row_of p c h) k ∙ e);
    sums = λ n r k e. summary_stays p ws b x m l sized lt n r k ∙ e;
    attached_stays = λ c h. at_binding p ws b x m l sized lt (λ c y k. attached (binding_word p ws c) ≡ 1 → attached y ≡ 1) t.attached_stays (λ c ne e. e) c;
    disposed_stays = λ c h. at_binding p ws b x m l sized lt (λ c y k. disposed (binding_word p ws c) ≡ 1 → disposed y ≡ 1) t.disposed_stays (λ c ne e. e) c;
    limit_stays = λ c h. at_binding p ws b x m l sized lt (λ c y k. disposed (binding_word p ws c) ≡ 1 → k ≡ l c) t.limit_stays (λ c ne e. refl) c;
    limit_grows = λ c h. at_binding p ws b x m l sized lt (λ c y k. l c ≤ k) t.limit_grows (λ c ne. omega arith) c;
  }

  pub turned_sound : Sound p ws l → (IsLive x → (n : ℕ) → Matches p b n → mark p ws n b ≡ 1) → (attached x ≡ 1 → (n : ℕ) → Matches p b n → summary ws n (b / 64) ≡ 1) → Sound p later (put l b m)
  turned_sound s marks sums = record {
    marked = λ c n h live at. mark_stays p ws b x m l sized lt c n (row_of p c h) (subst (λ (k : ℕ). k < p.nodes) at.1.1 (shape.1 c at.0 at.1.0))
        ∙ at_binding p ws b x m l sized lt (λ c y k. c < bindings p → IsLive y → Matches p c n → mark p ws n c ≡ 1) (λ _ live at. marks live n at) (λ c ne h live at. s.marked c n h live at) c h live at;
    only = λ c n h k e. s.only c n h k (sym (mark_stays p ws b x m l sized lt c n h k) ∙ e);
    summed = λ c n h on at. summary_stays p ws b x m l sized lt n (c / 64) (subst (λ (k : ℕ). k < p.nodes) at.1.1 (shape.1 c at.0 at.1.0))
        ∙ at_binding p ws b x m l sized lt (λ c y k. c < bindings p → attached y ≡ 1 → Matches p c n → summary ws n (c / 64) ≡ 1) (λ _ on at. sums on n at) (λ c ne h on at. s.summed c n h on at) c h on at;
    sums_only = λ n r k e. s.sums_only n r k (sym (summary_stays p ws b x m l sized lt n r k) ∙ e);
    none_yet = λ c h. at_binding p ws b x m l sized lt (λ c y k. c < bindings p → attached y ≡ 0 → sum_in y ≡ 0) (λ _. t.none_yet) (λ c ne h. s.none_yet c h) c h;
    until = λ c h. at_binding p ws b x m l sized lt (λ c y k. c < bindings p → disposed y ≡ 0 → k ≡ sum_in y) (λ _. t.until) (λ c ne h. s.until c h) c h;
    within = λ c h. at_binding p ws b x m l sized lt (λ c y k. c < bindings p → k ≤ sum_in y) (λ _. t.within) (λ c ne h. s.within c h) c h;
  }

  pub turned_weighs : (v w : View) → Owes b (binding_word p ws b) x (l b) m v w → Weighs p ws later l (put l b m) v w
  turned_weighs v w h = record {
    drawn = λ c y k. at_binding p ws b x m l sized lt (λ c z n. of_all (drew_number c y) w + once_below y (l c) ≡ of_all (drew_number c y) v + once_below y n) (h.drawn_here y) (λ c ne. ap (λ n. n + once_below y (l c)) (h.drawn_else c y ne)) c;
    set_first = λ c k. at_binding p ws b x m l sized lt (λ c z n. of_all (firsts c) w + attached (binding_word p ws c) ≡ of_all (firsts c) v + attached z) h.first_here (λ c ne. ap (λ n. n + attached (binding_word p ws c)) (h.first_else c ne)) c;
    ended = λ c k. at_binding p ws b x m l sized lt (λ c z n. of_all (disposals c) w + disposed (binding_word p ws c) ≡ of_all (disposals c) v + disposed z) h.ended_here (λ c ne. ap (λ n. n + disposed (binding_word p ws c)) (h.ended_else c ne)) c;
    draws =
        let change : added (λ c. sum_in (binding_word p later c)) (bindings p) + sum_in (binding_word p ws b) ≡ added (λ c. sum_in (binding_word p ws c)) (bindings p) + sum_in (binding_word p later b) =
        added_change (λ c. sum_in (binding_word p ws c)) (λ c. sum_in (binding_word p later c)) (bindings p) b lt (λ c k ne. ap sum_in (word_else p ws b x m l sized lt c ne)) in
        let now : sum_in (binding_word p later b) ≡ sum_in x = ap sum_in (word_here p ws b x m l sized lt) in
        omega (arith, h.draws);
    seats = h.seats;
  }

pub turned_switched : (p : Layout) (ws : List ℕ) (views : List View) (id b x m : ℕ) (v w : View) (g : Good p ws views) (lt : b < bindings p) → get_elem? views id ≡ some v → Owes b (binding_word p ws b) x (g.limit b) m v w
    → AllSwitched p (set ws (binding_at p b) x) (put g.limit b m) (set views id w)
turned_switched p ws views id b x m v w g lt at h c k =
    let d : Bool → ℕ → ℕ → ℕ = λ kind c y. total (of_all (toggles_upto kind c y)) views in
    let d' : Bool → ℕ → ℕ → ℕ = λ kind c y. total (of_all (toggles_upto kind c y)) (set views id w) in
    let f : ℕ → ℕ → ℕ = λ c y. total (of_all (misses c y)) views in
    let f' : ℕ → ℕ → ℕ = λ c y. total (of_all (misses c y)) (set views id w) in
    at_binding p ws b x m g.limit (room g) lt (λ c z n. c < bindings p → Switched z n (d' true c) (d' false c) (f' c))
    (λ _. h.switch (d true b) (d false b) (f b) (d' true b) (d' false b) (f' b) (λ y. total-set (of_all (toggles_upto true b y)) views id v w at) (λ y. total-set (of_all (toggles_upto false b y)) views id v w at) (λ y. total-set (of_all (misses b y)) views id v w at) (g.switched b lt))
    (λ c ne q. switched_same (binding_word p ws c) (binding_word p ws c) (g.limit c) (g.limit c) (d true c) (d false c) (f c) (d' true c) (d' false c) (f' c) refl refl refl
    (λ y. omega (arith, total-set (of_all (toggles_upto true c y)) views id v w at, h.upto_else true c y ne)) (λ y. omega (arith, total-set (of_all (toggles_upto false c y)) views id v w at, h.upto_else false c y ne))
    (λ y. omega (arith, total-set (of_all (misses c y)) views id v w at, h.misses_else c y ne)) (g.switched c q)) c k

-- A step on the word of b
pub binding_steps : (p : Layout) (ws : List ℕ) (views : List View) (id b x m : ℕ) (v w : View) (g : Good p ws views) (lt : b < bindings p) → get_elem? views id ≡ some v
    → Turns (binding_word p ws b) x (g.limit b) m → (IsLive x → (n : ℕ) → Matches p b n → mark p ws n b ≡ 1) → (attached x ≡ 1 → (n : ℕ) → Matches p b n → summary ws n (b / 64) ≡ 1) → Owes b (binding_word p ws b) x (g.limit b) m v w
    → (Fits p (set ws (binding_at p b) x) (put g.limit b m) v → Fits p (set ws (binding_at p b) x) (put g.limit b m) w) → AllAnswered (set views id w) → Good p (set ws (binding_at p b) x) (set views id w)
binding_steps p ws views id b x m v w g lt at t marks sums owes mine answered =
    let grows = turned_grows p ws b x m g.limit (room g) lt g.shape t in
    good_steps p ws (set ws (binding_at p b) x) views id v w g (put g.limit b m) (length-set ws (binding_at p b) x) at (turned_sound p ws b x m g.limit (room g) lt g.shape t g.sound marks sums) grows
    (turned_weighs p ws b x m g.limit (room g) lt g.shape t v w owes)
    (mine (fits_grows p ws (set ws (binding_at p b) x) g.limit (put g.limit b m) v g.shape grows (g.each id v at)))
    (talk_stays p ws (set ws (binding_at p b) x) views id v w g at owes.talks (λ i h. get_or-set_other ws (binding_at p b) i x 0 (λ e. omega arith)))
    (turned_switched p ws views id b x m v w g lt at owes) answered

-- What two views have alike
pub record Alike (v w : View) : Type 0 where
  pub drawn_same : (c y : ℕ) → of_all (drew_number c y) w ≡ of_all (drew_number c y) v
  pub firsts_same : (c : ℕ) → of_all (firsts c) w ≡ of_all (firsts c) v
  pub disposals_same : (c : ℕ) → of_all (disposals c) w ≡ of_all (disposals c) v
  pub draws_same : w.draw_share ≡ v.draw_share
  pub seats_same : w.seat_share ≡ v.seat_share
  pub upto_same : (kind : Bool) (c y : ℕ) → of_all (toggles_upto kind c y) w ≡ of_all (toggles_upto kind c y) v
  pub misses_same : (c y : ℕ) → of_all (misses c y) w ≡ of_all (misses c y) v
  pub toggles_kept : w.deeds.toggles ≡ v.deeds.toggles
  pub taken_kept : w.taken ≡ v.taken

-- a step on a binding that leaves its toggles, the numbers missed, "disposed", "off" and the limit
pub switch_none : (b o x l : ℕ) (v w : View) → disposed x ≡ disposed o → off x ≡ off o → ((kind : Bool) (y : ℕ) → of_all (toggles_upto kind b y) w ≡ of_all (toggles_upto kind b y) v) → ((y : ℕ) → of_all (misses b y) w ≡ of_all (misses b y) v)
    → (d e f d' e' f' : ℕ → ℕ) → ((y : ℕ) → d' y + of_all (toggles_upto true b y) v ≡ d y + of_all (toggles_upto true b y) w) → ((y : ℕ) → e' y + of_all (toggles_upto false b y) v ≡ e y + of_all (toggles_upto false b y) w)
    → ((y : ℕ) → f' y + of_all (misses b y) v ≡ f y + of_all (misses b y) w) → Switched o l d e f → Switched x l d' e' f'
switch_none b o x l v w gone_same off_same upto same_misses d e f d' e' f' dd ee ff s =
    switched_same o x l l d e f d' e' f' gone_same off_same refl (λ y. omega (arith, dd y, upto true y)) (λ y. omega (arith, ee y, upto false y)) (λ y. omega (arith, ff y, same_misses y)) s

pub owes_none : (b o l : ℕ) (v w : View) → Alike v w → w.talk ≡ v.talk → Owes b o o l l v w
owes_none b o l v w a same_talk = record {
  drawn_here = λ y. omega (arith, a.drawn_same b y);
  drawn_else = λ c y ne. a.drawn_same c y;
  first_here = omega (arith, a.firsts_same b);
  first_else = λ c ne. a.firsts_same c;
  ended_here = omega (arith, a.disposals_same b);
  ended_else = λ c ne. a.disposals_same c;
  draws = omega (arith, a.draws_same);
  seats = a.seats_same;
  talks = same_talk;
  upto_else = λ kind c y ne. a.upto_same kind c y;
  misses_else = λ c y ne. a.misses_same c y;
  switch = switch_none b o o l v w refl refl (λ kind y. a.upto_same kind b y) (λ y. a.misses_same b y);
}

-- A step that leaves the words of bindings, and sets or clears bits at nodes as the rule admits
pub record Quiet (p : Layout) (ws ws' : List ℕ) : Type 0 where
  pub bindings_same : (c : ℕ) → c < bindings p → binding_word p ws' c ≡ binding_word p ws c
  pub keeps : (c n : ℕ) → c < bindings p → n < p.nodes → mark p ws n c ≡ 1 → (mark p ws' n c ≡ 1) ⊎ (disposed (binding_word p ws c) ≡ 1)
  pub comes : (c n : ℕ) → c / 64 < width p → n < p.nodes → mark p ws' n c ≡ 1 → (mark p ws n c ≡ 1) ⊎ Matches p c n
  pub sums_keep : (n r : ℕ) → n < p.nodes → summary ws n r ≡ 1 → summary ws' n r ≡ 1
  pub sums_come : (n r : ℕ) → n < p.nodes → summary ws' n r ≡ 1 → (summary ws n r ≡ 1) ⊎ ((b : ℕ) × (b < bindings p) × (b / 64 ≡ r) × Matches p b n)

module _ (p : Layout) (ws ws' : List ℕ) (l : ℕ → ℕ) (q : Quiet p ws ws') where
  pub quiet_grows : Grows p ws ws' l l
  quiet_grows = record {
    bits = λ c n h k e. ⊎_elim (λ b. inl b) (λ d. inr (ap disposed (q.bindings_same c h) ∙ d)) (q.keeps c n h k e);
    sums = q.sums_keep;
    attached_stays = λ c h e. ap attached (q.bindings_same c h) ∙ e;
    disposed_stays = λ c h e. ap disposed (q.bindings_same c h) ∙ e;
    limit_stays = λ c h e. refl;
    limit_grows = λ c h. omega arith;
  }

  pub quiet_sound : IsSound p → Sound p ws l → Sound p ws' l
  quiet_sound shape s = record {
    marked = λ c n h live at. let inside : n < p.nodes = subst (λ (k : ℕ). k < p.nodes) at.1.1 (shape.1 c at.0 at.1.0) in let was = was_live c h live in
        ⊎_elim (λ b. b) (λ d. absurd (omega (arith, was.1))) (q.keeps c n h inside (s.marked c n h was at));
    only = λ c n h k e. ⊎_elim (λ was. s.only c n h k was) (λ there. there) (q.comes c n h k e);
    summed = λ c n h on at. q.sums_keep n (c / 64) (subst (λ (k : ℕ). k < p.nodes) at.1.1 (shape.1 c at.0 at.1.0)) (s.summed c n h (sym (ap attached (q.bindings_same c h)) ∙ on) at);
    sums_only = λ n r k e. ⊎_elim (λ was. s.sums_only n r k was) (λ there. there) (q.sums_come n r k e);
    none_yet = λ c h e. ap sum_in (q.bindings_same c h) ∙ s.none_yet c h (sym (ap attached (q.bindings_same c h)) ∙ e);
    until = λ c h e. s.until c h (sym (ap disposed (q.bindings_same c h)) ∙ e) ∙ sym (ap sum_in (q.bindings_same c h));
    within = λ c h. let w = s.within c h in omega (arith, ap sum_in (q.bindings_same c h));
  }
    where
      was_live : (c : ℕ) → c < bindings p → IsLive (binding_word p ws' c) → IsLive (binding_word p ws c)
      was_live c h live = (sym (ap attached (q.bindings_same c h)) ∙ live.0, sym (ap disposed (q.bindings_same c h)) ∙ live.1)

  pub quiet_weighs : (v w : View) → Alike v w → Weighs p ws ws' l l v w
  quiet_weighs v w a = record {
    drawn = λ c y h. omega (arith, a.drawn_same c y);
    set_first = λ c h. omega (arith, a.firsts_same c, ap attached (q.bindings_same c h));
    ended = λ c h. omega (arith, a.disposals_same c, ap disposed (q.bindings_same c h));
    draws = omega (arith, a.draws_same, added_same (λ c. sum_in (binding_word p ws' c)) (λ c. sum_in (binding_word p ws c)) (bindings p) (λ c h. ap sum_in (q.bindings_same c h)));
    seats = a.seats_same;
  }

-- a step that leaves the words of bindings leaves what the toggles say
pub switched_stays : (p : Layout) (ws ws' : List ℕ) (views : List View) (id : ℕ) (v w : View) (g : Good p ws views) → get_elem? views id ≡ some v → ((c : ℕ) → c < bindings p → binding_word p ws' c ≡ binding_word p ws c)
    → ((kind : Bool) (c y : ℕ) → of_all (toggles_upto kind c y) w ≡ of_all (toggles_upto kind c y) v) → ((c y : ℕ) → of_all (misses c y) w ≡ of_all (misses c y) v) → AllSwitched p ws' g.limit (set views id w)
switched_stays p ws ws' views id v w g at words upto same_misses c h =
    switched_same (binding_word p ws c) (binding_word p ws' c) (g.limit c) (g.limit c) (λ y. total (of_all (toggles_upto true c y)) views) (λ y. total (of_all (toggles_upto false c y)) views) (λ y. total (of_all (misses c y)) views)
    (λ y. total (of_all (toggles_upto true c y)) (set views id w)) (λ y. total (of_all (toggles_upto false c y)) (set views id w)) (λ y. total (of_all (misses c y)) (set views id w)) (ap disposed (words c h)) (ap off (words c h)) refl
    (λ y. omega (arith, total-set (of_all (toggles_upto true c y)) views id v w at, upto true c y)) (λ y. omega (arith, total-set (of_all (toggles_upto false c y)) views id v w at, upto false c y))
    (λ y. omega (arith, total-set (of_all (misses c y)) views id v w at, same_misses c y)) (g.switched c h)

-- a step on the word i of a node
pub node_steps : (p : Layout) (ws : List ℕ) (views : List View) (id i x : ℕ) (v w : View) (g : Good p ws views) → i < front p → get_elem? views id ≡ some v → Quiet p ws (set ws i x) → Alike v w → w.talk ≡ v.talk
    → (Fits p (set ws i x) g.limit v → Fits p (set ws i x) g.limit w) → Good p (set ws i x) (set views id w)
node_steps p ws views id i x v w g inside at q alike same_talk mine =
    let grows = quiet_grows p ws (set ws i x) g.limit q in
    good_steps p ws (set ws i x) views id v w g g.limit (length-set ws i x) at (quiet_sound p ws (set ws i x) g.limit q g.shape g.sound) grows (quiet_weighs p ws (set ws i x) g.limit q v w alike)
    (mine (fits_grows p ws (set ws i x) g.limit g.limit v g.shape grows (g.each id v at)))
    (talk_stays p ws (set ws i x) views id v w g at same_talk (λ j h. get_or-set_other ws i j x 0 (λ e. omega arith)))
    (switched_stays p ws (set ws i x) views id v w g at q.bindings_same alike.upto_same alike.misses_same) (answered_kept views id v w at alike.toggles_kept alike.taken_kept g.answered)

-- a load of the word i leaves all words
pub quiet_load : (p : Layout) (ws : List ℕ) (i : ℕ) → Quiet p ws (set ws i (slice_index ws i))
quiet_load p ws i =
    subst (Quiet p ws) (sym (set-get_or ws i 0))
    record { bindings_same = λ c h. refl; keeps = λ c n h k e. inl e; comes = λ c n h k e. inl e; sums_keep = λ n r k e. e; sums_come = λ n r k e. inl e }

-- Whatever the state is, the word and the effect of a step of this kind keep the rule
abbrev pub Keeps : Layout → Kind → Type 0
Keeps p k = (s : State) (id : ℕ) (v : View) → Good p s.words s.views → get_elem? s.views id ≡ some v → 0 < v.seat_share → May p k v
    → Good p (set s.words (word_of p k) (made_of (change_of k) (slice_index s.words (word_of p k)))) (set s.views id (effect p k (slice_index s.words (word_of p k)) v))
