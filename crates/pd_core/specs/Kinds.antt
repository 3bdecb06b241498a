-- Definition, which public contracts cite.
-- The kinds of step: the word of each, what it makes of it, when a view may take it, and what the view is then.
-- The sixteenth kind, a split or a join, is in Runs.
use Rattle.std.specs.Prelude.{◌≡◌, ℕ, ◌+◌, ◌/◌, ◌%◌, ◌<◌, ◌≤◌, ◌^◌, List, length, slice_index, slice_set, true, false}
use mathlib.Core.Option.{some}
use lib.ListN.{get_elem?}
use Rattle.pd_core.specs.declared.view.View.{View}
use Rattle.pd_core.specs.Layout.{Layout, bindings, row, width, row_at, binding_at, session_at, end_at}
use Rattle.pd_core.specs.Words.{Change, reads, adds, sets, leaves, operand, made_of, only_bit, all_but}
use Rattle.pd_core.specs.Counts.{total, first_is}
use Rattle.pd_core.specs.Talks.{answer_share, answered, asked, ended_talk, counted_ends}
use Rattle.pd_core.specs.Views.{known, fresh, found_attached, found_disposed, past_of, IsHalf, IsNext, HasRow, loaded, row_loaded, summed, looked, drew, disposed_of, set_of, marked, swept, toggled, spoke, noted}
use Rattle.pd_core.specs.Good.{Good}

-- the kinds of step, each with the numbers that say on which word it steps
pub data Kind : Type 0 where
  -- of a node
  load_node : ℕ → Kind
  -- at an event, of a binding
  load_binding : ℕ → ℕ → Kind
  draw : ℕ → ℕ → Kind
  -- at a node, of a binding
  clear_bit : ℕ → ℕ → Kind
  set_bit : ℕ → ℕ → Kind
  -- of a binding
  set_attached : ℕ → Kind
  set_disposed : ℕ → Kind
  -- of a session
  count_answer : ℕ → Kind
  load_answers : ℕ → Kind
  -- of ended contexts
  count_end : Kind
  load_ends : Kind
  -- of a node, and a row word of it
  load_row : ℕ → ℕ → Kind
  set_summary : ℕ → ℕ → Kind
  -- of a binding
  set_off : ℕ → Kind
  clear_off : ℕ → Kind

-- the number of the word on which a step of this kind steps
abbrev pub word_of : Layout → Kind → ℕ
word_of p (load_node n) = n
word_of p (load_binding event b) = binding_at p b
word_of p (draw event b) = binding_at p b
word_of p (clear_bit n b) = row_at p n (b / 64)
word_of p (set_bit n b) = row_at p n (b / 64)
word_of p (set_attached b) = binding_at p b
word_of p (set_disposed b) = binding_at p b
word_of p (count_answer s) = session_at p s
word_of p (load_answers s) = session_at p s
word_of p count_end = end_at p
word_of p load_ends = end_at p
word_of p (load_row n r) = row_at p n r
word_of p (set_summary n r) = n
word_of p (set_off b) = binding_at p b
word_of p (clear_off b) = binding_at p b

-- what a step of this kind makes of its word
abbrev pub change_of : Kind → Change
change_of (load_node n) = reads
change_of (load_binding event b) = reads
change_of (draw event b) = adds 8
change_of (clear_bit n b) = leaves (all_but (b % 64))
change_of (set_bit n b) = sets (only_bit (b % 64))
change_of (set_attached b) = sets 1
change_of (set_disposed b) = sets 2
change_of (count_answer s) = adds 1
change_of (load_answers s) = reads
change_of count_end = adds 1
change_of load_ends = reads
change_of (load_row n r) = reads
change_of (set_summary n r) = sets (only_bit r)
change_of (set_off b) = sets 4
change_of (clear_off b) = leaves (all_but 2)

-- the numbers that it names are in range
abbrev pub InRange : Layout → Kind → Type 0
InRange p (load_node n) = n < p.nodes
InRange p (load_binding event b) = b < bindings p
InRange p (draw event b) = b < bindings p
InRange p (clear_bit n b) = (n < p.nodes) × (b < bindings p)
InRange p (set_bit n b) = (n < p.nodes) × (b < bindings p)
InRange p (set_attached b) = b < bindings p
InRange p (set_disposed b) = b < bindings p
InRange p (count_answer s) = s < p.sessions
InRange p (load_answers s) = s < p.sessions
InRange p count_end = Unit {0}
InRange p load_ends = Unit {0}
InRange p (load_row n r) = (n < p.nodes) × (r < width p)
InRange p (set_summary n r) = (n < p.nodes) × (r < width p)
InRange p (set_off b) = b < bindings p
InRange p (clear_off b) = b < bindings p

-- the condition on the view
abbrev pub Condition : Layout → Kind → View → Type 0
Condition p (load_node n) v = Unit {0}
Condition p (load_binding event b) v = known v b ≡ fresh
Condition p (draw event b) v = (known v b ≡ found_attached) × (0 < v.draw_share)
Condition p (clear_bit n b) v = known v b ≡ found_disposed
Condition p (set_bit n b) v = IsNext p v.attaching b n
Condition p (set_attached b) v = length (row p b) ≤ past_of v b
Condition p (set_disposed b) v = Unit {0}
Condition p (count_answer s) v = 0 < answer_share s v.talk
Condition p (load_answers s) v = Unit {0}
Condition p count_end v = (v.talk.ended ≡ false) × (0 < v.talk.end_granted)
Condition p load_ends v = Unit {0}
Condition p (load_row n r) v = HasRow v.loaded n r
Condition p (set_summary n r) v = (b : ℕ) × (b < bindings p) × IsHalf p v.attaching b n × (b / 64 ≡ r)
Condition p (set_off b) v = Unit {0}
Condition p (clear_off b) v = Unit {0}

-- the view's numbers of loads stay below 2^32, and its number of cleared bits below 2^60
abbrev pub Bounded : Kind → View → Type 0
Bounded (load_node n) v = length v.loads + 1 < 2 ^ 32
Bounded (load_binding event b) v = Unit {0}
Bounded (draw event b) v = Unit {0}
Bounded (clear_bit n b) v = length v.cleared + 1 < 2 ^ 60
Bounded (set_bit n b) v = Unit {0}
Bounded (set_attached b) v = Unit {0}
Bounded (set_disposed b) v = Unit {0}
Bounded (count_answer s) v = Unit {0}
Bounded (load_answers s) v = total (first_is s) v.talk.reads + 1 < 2 ^ 32
Bounded count_end v = Unit {0}
Bounded load_ends v = length v.talk.end_reads + 1 < 2 ^ 32
Bounded (load_row n r) v = Unit {0}
Bounded (set_summary n r) v = Unit {0}
Bounded (set_off b) v = Unit {0}
Bounded (clear_off b) v = Unit {0}

-- the condition on a step: its numbers are in range, what the view knows allows it, and the view has room for it
abbrev pub May : Layout → Kind → View → Type 0
May p k v = InRange p k × Condition p k v × Bounded k v

-- the effect besides the word, with the word found
abbrev pub effect : Layout → Kind → ℕ → View → View
effect p (load_node n) w v = loaded n w v
effect p (load_binding event b) w v = looked event b w v
effect p (draw event b) w v = drew event b w v
effect p (clear_bit n b) w v = swept n b v
effect p (set_bit n b) w v = marked b v
effect p (set_attached b) w v = set_of b w v
effect p (set_disposed b) w v = disposed_of b w v
effect p (count_answer s) w v = spoke (answered s w v.talk) v
effect p (load_answers s) w v = spoke (asked s w v.talk) v
effect p count_end w v = spoke (ended_talk v.talk) v
effect p load_ends w v = spoke (counted_ends w v.talk) v
effect p (load_row n r) w v = row_loaded p n r w v
effect p (set_summary n r) w v = summed v
effect p (set_off b) w v = toggled true b w v
effect p (clear_off b) w v = toggled false b w v

-- the view after the step, which is counted and kept
abbrev pub after : Layout → Kind → ℕ → View → View
after p k w v = noted (word_of p k) (operand (change_of k)) w (effect p k w v)

-- the words and the views
pub record State : Type 0 where
  pub words : List ℕ
  pub views : List View

-- the view v, of this number, takes the step
abbrev pub stepped : Layout → Kind → ℕ → View → State → State
stepped p k id v s = record {
  words = slice_set s.words (word_of p k) (made_of (change_of k) (slice_index s.words (word_of p k)));
  views = slice_set s.views id (after p k (slice_index s.words (word_of p k)) v);
}

-- When the step was taken the rule held, this view stood among the views, and this was the word
abbrev pub Found : Layout → Kind → View → ℕ → Type 0
Found p k v n = (s : State) × Good p s.words s.views × ((id : ℕ) × (get_elem? s.views id ≡ some v)) × (slice_index s.words (word_of p k) ≡ n)
