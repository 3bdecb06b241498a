-- Definition, which public contracts cite.
-- The rule: what holds between any two steps, of the words and of all views.
use Rattle.std.specs.Prelude.{◌≡◌, ◌⊎◌, ℕ, ◌+◌, ◌/◌, ◌<◌, ◌≤◌, ◌^◌, List, ◌++◌, map, length, replicate, slice_index, Option, Some, None, Bool, true, false, not}
use mathlib.Core.Option.{some}
use lib.ListN.{get_elem?}
use Rattle.pd_core.specs.declared.view.View.{View}
use Rattle.pd_core.specs.declared.view.Deeds.{Deeds}
use Rattle.pd_core.specs.declared.view.Sight.{Sight}
use Rattle.pd_core.specs.declared.view.Toggle.{Toggle}
use Rattle.pd_core.specs.declared.view.Attaching.{Attaching}
use Rattle.pd_core.specs.Layout.{Layout, words_in, bindings, row, width, Matches, Rising, IsSound, binding_word}
use Rattle.pd_core.specs.Words.{attached, disposed, off, sum_in, mark, summary, IsLive}
use Rattle.pd_core.specs.Counts.{total, added, times, once_below}
use Rattle.pd_core.specs.Talks.{Spoken}
use Rattle.pd_core.specs.Views.{known, Known, fresh, found_disposed, past_in, IsHalf, over, of_all, drew_number, misses, did_turn, found_so, toggles_upto, toggles_from, toggles_at, number_in, makings, firsts, lates, disposals, count_kept, outcomes, spent_view, talk_of}

-- The outcomes of the draws of a binding: first none, then numbers that rise and lie below the limit, then none again.
-- With a number the binding is not fresh, and with a none after a number it is known as disposed
pub record Wave (is : Known) (limit : ℕ) (outs : List (Option ℕ)) : Type 0 where
  pub before : ℕ
  pub drawn : List ℕ
  pub behind : ℕ
  pub in_order : outs ≡ (replicate before None ++ map Some drawn) ++ replicate behind None
  pub rising : Rising drawn
  pub below : (i : ℕ) → i < length drawn → slice_index drawn i < limit
  pub not_fresh : 0 < length drawn → is ≡ fresh → ⊥
  pub gone : 0 < behind → is ≡ found_disposed

-- What the words say. The limit of a binding is the count that its disposal found, and the sum before
pub record Sound (p : Layout) (words : List ℕ) (limit : ℕ → ℕ) : Type 0 where
  -- the bits of a live binding stand at each node of its row
  pub marked : (b n : ℕ) → b < bindings p → IsLive (binding_word p words b) → Matches p b n → mark p words n b ≡ 1
  -- no other node has a bit of a binding, and no row word has any other bit
  pub only : (b n : ℕ) → b / 64 < width p → n < p.nodes → mark p words n b ≡ 1 → Matches p b n
  -- where a binding is attached, the summaries of its row have the bit of its row word
  pub summed : (b n : ℕ) → b < bindings p → attached (binding_word p words b) ≡ 1 → Matches p b n → summary words n (b / 64) ≡ 1
  -- and no summary has a bit for nothing
  pub sums_only : (n r : ℕ) → n < p.nodes → summary words n r ≡ 1 → (b : ℕ) × (b < bindings p) × (b / 64 ≡ r) × Matches p b n
  -- nothing is drawn before the attachment
  pub none_yet : (b : ℕ) → b < bindings p → attached (binding_word p words b) ≡ 0 → sum_in (binding_word p words b) ≡ 0
  -- the limit is the sum until the disposal, and at most the sum
  pub until : (b : ℕ) → b < bindings p → disposed (binding_word p words b) ≡ 0 → limit b ≡ sum_in (binding_word p words b)
  pub within : (b : ℕ) → b < bindings p → limit b ≤ sum_in (binding_word p words b)

-- The nodes that an attachment has come past have the summary bit, and they have the bit or the binding is disposed.
-- So has a node half done, but for the summary bit
pub record Underway (p : Layout) (words : List ℕ) (a : Option Attaching) : Type 0 where
  pub past : (b k : ℕ) → b < bindings p → k < past_in a b → (k < length (row p b)) × (summary words (slice_index (row p b) k) (b / 64) ≡ 1) × ((mark p words (slice_index (row p b) k) b ≡ 1) ⊎ (disposed (binding_word p words b) ≡ 1))
  pub half_done : (b n : ℕ) → b < bindings p → IsHalf p a b n → (mark p words n b ≡ 1) ⊎ (disposed (binding_word p words b) ≡ 1)

-- What was found is so
pub record Knows (p : Layout) (words : List ℕ) (on gone : List ℕ) : Type 0 where
  pub attached_is : (b : ℕ) → b < bindings p → 0 < times b on → attached (binding_word p words b) ≡ 1
  pub disposed_is : (b : ℕ) → b < bindings p → 0 < times b gone → disposed (binding_word p words b) ≡ 1

-- What was done to bindings, by one pass and those that it took in
pub record Done (p : Layout) (words : List ℕ) (limit : ℕ → ℕ) (own : Deeds) (taken : List Deeds) : Type 0 where
  -- a binding that was set attached is attached
  pub made_is : (b : ℕ) → b < bindings p → 0 < over (makings b) own taken → attached (binding_word p words b) ≡ 1
  -- where it was set first and found disposed, it is disposed and has no numbers
  pub late_is : (b : ℕ) → b < bindings p → 0 < over (lates b) own taken → (disposed (binding_word p words b) ≡ 1) × (limit b ≡ 0)
  -- a count that is kept is the limit of a binding that is disposed
  pub count_is : (b n : ℕ) → b < bindings p → 0 < over (count_kept b n) own taken → (disposed (binding_word p words b) ≡ 1) × (n ≡ limit b)
  -- a toggle's count is at most the limit
  pub toggle_is : (b n : ℕ) → b < bindings p → 0 < over (toggles_at b n) own taken → n ≤ limit b

-- Within a view's own steps, whose sights and toggles stand in order, each toggle's count is above the numbers drawn before it, and at most
-- those drawn after it
pub record Ordered (own : Deeds) (steps : ℕ) : Type 0 where
  pub order : (i j : ℕ) (t : Toggle) (s : Sight) (n : ℕ) → get_elem? own.toggles i ≡ some t → did_turn t ≡ true → get_elem? own.sights j ≡ some s → s.binding ≡ t.binding → number_in s.drawn ≡ Some n
      → (s.step < t.step → n < sum_in t.found) × (t.step < s.step → sum_in t.found ≤ n)
  -- each was made by a step that was taken
  pub toggled : (i : ℕ) (t : Toggle) → get_elem? own.toggles i ≡ some t → t.step ≤ steps
  pub seen : (j : ℕ) (s : Sight) → get_elem? own.sights j ≡ some s → s.step ≤ steps
  -- and the lists are in the order of the steps
  pub toggles_rise : (i j : ℕ) (s t : Toggle) → i < j → get_elem? own.toggles i ≡ some s → get_elem? own.toggles j ≡ some t → s.step ≤ t.step
  pub sights_rise : (i j : ℕ) (s t : Sight) → i < j → get_elem? own.sights i ≡ some s → get_elem? own.sights j ≡ some t → s.step ≤ t.step

-- What one pass did: a toggle that found nothing to change, and not "disposed", has an answer among all views. A disable has
-- some disable. Where it came after a toggle of the other kind with the count c, it has one of its own kind with a count of
-- at least c
pub record Answered (there : Bool → ℕ → ℕ → ℕ) (own : Deeds) : Type 0 where
  pub by_later : (i j : ℕ) (s t : Toggle) → i < j → get_elem? own.toggles i ≡ some s → get_elem? own.toggles j ≡ some t → s.binding ≡ t.binding → did_turn s ≡ true → s.disables ≡ not t.disables → found_so t ≡ true
      → 0 < there t.disables t.binding (sum_in s.found)
  pub by_any : (j : ℕ) (t : Toggle) → get_elem? own.toggles j ≡ some t → t.disables ≡ true → found_so t ≡ true → 0 < there true t.binding 0

-- these are the view's own deeds, or those of a pass that it took in
abbrev pub IsOf : View → Deeds → Type 0
IsOf v d = (d ≡ v.deeds) ⊎ ((k : ℕ) × (get_elem? v.taken k ≡ some d))

-- What the toggles of one binding say, by its word and its limit. Of a number x these are the disables with counts of at
-- most x, the enables with counts of at most x, and how often x was missed
pub record Switched (word limit : ℕ) (disables enables missed : ℕ → ℕ) : Type 0 where
  -- below the limit the disables exceed the enables by 1 where x was missed, and else by 0
  pub below : (x : ℕ) → x < limit → disables x ≡ enables x + missed x
  -- from the limit on, where all toggles count, by 1 where the binding is off, and by 0 or 1 where it is disposed
  pub on : (x : ℕ) → limit ≤ x → disposed word ≡ 0 → disables x ≡ enables x + off word
  pub gone : (x : ℕ) → limit ≤ x → disposed word ≡ 1 → (disables x ≡ enables x) ⊎ (disables x ≡ enables x + 1)
  pub none : (x : ℕ) → limit ≤ x → missed x ≡ 0

-- What holds of one view
pub record Fits (p : Layout) (words : List ℕ) (limit : ℕ → ℕ) (v : View) : Type 0 where
  pub underway : Underway p words v.attaching
  pub knows : Knows p words v.found_attached v.found_disposed
  pub done : Done p words limit v.deeds v.taken
  pub waves : (b : ℕ) → b < bindings p → Wave (known v b) (limit b) (outcomes b v.deeds.sights)
  pub ordered : Ordered v.deeds v.steps
  -- its numbers of loads of nodes fit 32 bits, and its number of cleared bits 60
  pub few : (length v.loads < 2 ^ 32) × (length v.cleared < 2 ^ 60)
  -- a view with no share of the seats is spent
  pub idle : v.seat_share ≡ 0 → v ≡ spent_view

-- What all views have together
pub record Counted (p : Layout) (words : List ℕ) (limit : ℕ → ℕ) (views : List View) : Type 0 where
  -- each number below the limit was drawn once, and no other
  pub drawn : (b x : ℕ) → b < bindings p → total (of_all (drew_number b x)) views ≡ once_below x (limit b)
  -- exactly where a binding is attached one view set it first, and exactly where it is disposed one keeps the count
  pub set_first : (b : ℕ) → b < bindings p → total (of_all (firsts b)) views ≡ attached (binding_word p words b)
  pub ended : (b : ℕ) → b < bindings p → total (of_all (disposals b)) views ≡ disposed (binding_word p words b)
  -- the shares
  pub draws : total (λ v. v.draw_share) views + added (λ b. sum_in (binding_word p words b)) (bindings p) ≤ 2 ^ 60
  pub seats : total (λ v. v.seat_share) views ≡ 2 ^ 32

-- the rule: the words have the layout, and there are limits such that words and views fit them, one by one and all
-- together
pub record Good (p : Layout) (words : List ℕ) (views : List View) : Type 0 where
  pub shape : IsSound p
  pub sized : length words ≡ words_in p
  pub limit : ℕ → ℕ
  pub sound : Sound p words limit
  pub each : (id : ℕ) (v : View) → get_elem? views id ≡ some v → Fits p words limit v
  pub counted : Counted p words limit views
  pub switched : (b : ℕ) → b < bindings p → Switched (binding_word p words b) (limit b) (λ x. total (of_all (toggles_upto true b x)) views) (λ x. total (of_all (toggles_upto false b x)) views) (λ x. total (of_all (misses b x)) views)
  pub answered : (id : ℕ) (v : View) → get_elem? views id ≡ some v → (d : Deeds) → IsOf v d → Answered (λ kind b x. total (of_all (toggles_from kind b x)) views) d
  pub spoken : Spoken p words (map talk_of views)
