-- What the rule and the calls' clauses give to the layer above: what is known after each kind of step, and what a word that was found says.
use Rattle.std.proofs.Common.{◌≡◌, ◌≢◌, ◌⊎◌, ℕ, zero, suc, ◌+◌, ◌<◌, ◌≤◌, ◌^◌, ◌++◌, List, map, Bool, true, false, not, sym, refl, ap, ◌∙◌, subst, ⊎_elim, inl, inr, arith, eq-eqb, ne_eqb, append-nil}
use lib.ListN.{get_elem?}
use mathlib.Core.Option.{some}
use Rattle.pd_core.specs.declared.view.View.{View}
use Rattle.pd_core.specs.declared.view.Talk.{Talk}
use Rattle.pd_core.specs.Layout.{Layout, bindings, width, session_word, end_word}
use Rattle.pd_core.specs.Words.{disposed, live, summary, bit_of}
use Rattle.pd_core.specs.Counts.{total, times, only_if}
use Rattle.pd_core.specs.Talks.{spent, readings, end_readings}
use Rattle.pd_core.specs.Views.{found_attached, found_disposed, known, of_all, misses, toggles_upto, talk_of}
use Rattle.pd_core.specs.Good.{Good}
use Rattle.pd_core.specs.Kinds.{Found, after, load_node, draw, set_attached, set_disposed, count_answer, load_answers, load_ends, set_off, clear_off}
use Rattle.pd_core.proofs.Sums.{times_here}
use Rattle.pd_core.proofs.Waves.{is_disposed, is_attached, same_known}
use Rattle.pd_core.proofs.Draws.{zero_or_one}
use Rattle.pd_core.proofs.Answers.{total_under}
use Rattle.pd_core.proofs.Replies.{missed_once}
use Rattle.pd_core.proofs.Places.{row_of, summary_is}
use Rattle.atomic_table.proofs.Lists.{at_map}

-- A draw that found its binding not live leaves it known as disposed, and any other leaves what is known
pub known_drew_off : (p : Layout) (event b w : ℕ) (v : View) → live w ≡ false → known (after p (draw event b) w v) b ≡ found_disposed
known_drew_off p event b w v e = is_disposed (after p (draw event b) w v) b (subst (λ (t : Bool). 0 < times b (v.found_disposed ++ only_if (not t) b)) (sym e) (times_here b b v.found_disposed refl))

pub known_drew_on : (p : Layout) (event b w : ℕ) (v : View) → live w ≡ true → (c : ℕ) → known (after p (draw event b) w v) c ≡ known v c
known_drew_on p event b w v e c = same_known v (after p (draw event b) w v) c (ap (λ (t : Bool). times c (v.found_disposed ++ only_if (not t) b)) e ∙ ap (times c) (append-nil v.found_disposed)) refl

-- A disposal leaves its binding known as disposed
pub known_disposed_of : (p : Layout) (b w : ℕ) (v : View) → known (after p (set_disposed b) w v) b ≡ found_disposed
known_disposed_of p b w v = is_disposed (after p (set_disposed b) w v) b (times_here b b v.found_disposed refl)

-- so does an attachment or a toggle that found it disposed
pub known_set_gone : (p : Layout) (b w : ℕ) (v : View) → disposed w ≡ 1 → known (after p (set_attached b) w v) b ≡ found_disposed
known_set_gone p b w v e = is_disposed (after p (set_attached b) w v) b (subst (λ (t : Bool). 0 < times b (v.found_disposed ++ only_if t b)) (sym (eq-eqb (disposed w) 1 e)) (times_here b b v.found_disposed refl))

pub known_off_gone : (p : Layout) (b w : ℕ) (v : View) → disposed w ≡ 1 → known (after p (set_off b) w v) b ≡ found_disposed
known_off_gone p b w v e = is_disposed (after p (set_off b) w v) b (subst (λ (t : Bool). 0 < times b (v.found_disposed ++ only_if t b)) (sym (eq-eqb (disposed w) 1 e)) (times_here b b v.found_disposed refl))

pub known_on_gone : (p : Layout) (b w : ℕ) (v : View) → disposed w ≡ 1 → known (after p (clear_off b) w v) b ≡ found_disposed
known_on_gone p b w v e = is_disposed (after p (clear_off b) w v) b (subst (λ (t : Bool). 0 < times b (v.found_disposed ++ only_if t b)) (sym (eq-eqb (disposed w) 1 e)) (times_here b b v.found_disposed refl))

-- An attachment that didn't find its binding disposed, and didn't know it as such, leaves it known as attached
pub known_set : (p : Layout) (b w : ℕ) (v : View) → disposed w ≡ 0 → known v b ≢ found_disposed → known (after p (set_attached b) w v) b ≡ found_attached
known_set p b w v e ne = is_attached (after p (set_attached b) w v) b (ap (λ (t : Bool). times b (v.found_disposed ++ only_if t b)) (ne_eqb (disposed w) 1 (λ q. omega arith)) ∙ (ap (times b) (append-nil v.found_disposed) ∙ none (times b v.found_disposed) (λ h. ne (is_disposed v b h)))) (times_here b b v.found_attached refl)
  where
    none : (n : ℕ) → (0 < n → ⊥) → n ≡ 0
    none zero h = refl
    none (suc n) h = absurd (h (omega arith))

-- A number below the limit is a place, where the disables up to it are as many as the enables, or missed, where they are one more
pub place_or_missed : (p : Layout) (ws : List ℕ) (views : List View) (id b x : ℕ) (v : View) (g : Good p ws views) → get_elem? views id ≡ some v → b < bindings p → x < g.limit b
    → ((total (of_all (toggles_upto true b x)) views ≡ total (of_all (toggles_upto false b x)) views) × (total (of_all (misses b x)) views ≡ 0)) ⊎ ((total (of_all (toggles_upto true b x)) views ≡ total (of_all (toggles_upto false b x)) views + 1) × (total (of_all (misses b x)) views ≡ 1))
place_or_missed p ws views id b x v g at lt low =
    let m = total (of_all (misses b x)) views in
    let e = (g.switched b lt).below x low in
    ⊎_elim (λ (z : total (of_all (misses b x)) views ≡ 0). inl (omega arith, z)) (λ (z : total (of_all (misses b x)) views ≡ 1). inr (omega arith, z)) (zero_or_one (total (of_all (misses b x)) views) (let once = missed_once p ws views id b v g at lt x in omega arith))

-- The words of sessions and of ended contexts fit 32 bits
pub session_fits : (p : Layout) (ws : List ℕ) (views : List View) (s : ℕ) → Good p ws views → s < p.sessions → session_word p ws s < 2 ^ 32
session_fits p ws views s g lt = omega (arith, total_under (spent s) (λ (t : Talk). t.granted) (map talk_of views) (λ j t e. (g.spoken.heard j t e).within s lt), g.spoken.added s lt, g.spoken.granted s lt)

pub end_fits : (p : Layout) (ws : List ℕ) (views : List View) → Good p ws views → end_word p ws < 2 ^ 32
end_fits p ws views g = omega (arith, g.spoken.end_granted)

-- An answer number that was given fits 32 bits
pub answer_fits : (p : Layout) (s n : ℕ) (v : View) → s < p.sessions → Found p (count_answer s) v n → n < 2 ^ 32
answer_fits p s n v lt f = subst (λ (k : ℕ). k < 2 ^ 32) f.3 (session_fits p f.0.words f.0.views s f.1 lt)

-- What is read is no less than what was read before
pub answers_rise : (p : Layout) (s n m : ℕ) (v : View) → s < p.sessions → Found p (load_answers s) v n → 0 < readings s m v.talk → m ≤ n
answers_rise p s n m v lt f h = subst (λ (k : ℕ). m ≤ k) f.3 ((f.1.spoken.heard f.2.0 v.talk (at_map talk_of f.0.views f.2.0 v f.2.1)).reads s m lt h)

pub ends_rise : (p : Layout) (n m : ℕ) (v : View) → Found p load_ends v n → 0 < end_readings m v.talk → m ≤ n
ends_rise p n m v f h = subst (λ (k : ℕ). m ≤ k) f.3 ((f.1.spoken.heard f.2.0 v.talk (at_map talk_of f.0.views f.2.0 v f.2.1)).end_reads m h)

-- A bit of a summary that was loaded is that of a row word that there is
pub row_there : (p : Layout) (n r w : ℕ) (v : View) → n < p.nodes → Found p (load_node n) v w → bit_of w r ≡ 1 → r < width p
row_there p n r w v lt f e =
    let there : summary f.0.words n r ≡ 1 = summary_is f.0.words n r ∙ (ap (λ (k : ℕ). bit_of k r) f.3 ∙ e) in
    let some_binding = f.1.sound.sums_only n r lt there in
    subst (λ (k : ℕ). k < width p) some_binding.2 (row_of p some_binding.0 some_binding.1)
