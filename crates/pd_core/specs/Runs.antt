-- Definition, which public contracts cite.
-- Lists of steps by any passes, from the opening state.
use Rattle.std.specs.Prelude.{◌≡◌, ℕ, ◌<◌, ◌≤◌, List, [], ◌∷◌, ◌++◌, replicate, slice_set}
use mathlib.Core.Option.{some}
use lib.ListN.{get_elem?}
use Rattle.pd_core.specs.declared.view.View.{View}
use Rattle.pd_core.specs.Layout.{Layout, words_in, IsSound, bindings}
use Rattle.pd_core.specs.Words.{mark}
use Rattle.pd_core.specs.Talks.{answer_share, handed_answers}
use Rattle.pd_core.specs.Views.{first_view, spent_view, halved, newcomer, joined, handed_share}
use Rattle.pd_core.specs.Good.{Good}
use Rattle.pd_core.specs.Kinds.{Kind, set_bit, clear_bit, May, State, stepped}

-- all words are 0, and the first pass has all shares
abbrev pub opening : Layout → State
opening p = record { words = replicate (words_in p) 0; views = first_view ∷ [] }

-- a step of one of the fifteen kinds, a split, or a join of the second pass into the first
pub data Turn : Type 0 where
  moves : Kind → ℕ → Turn
  splits : ℕ → Turn
  joins : ℕ → ℕ → Turn

-- the view has the shares that a split hands on
abbrev pub MaySplit : Layout → View → Type 0
MaySplit p v = (2 ≤ v.seat_share) × (handed_share ≤ v.draw_share) × ((s : ℕ) → s < p.sessions → handed_answers ≤ answer_share s v.talk) × (1 ≤ v.talk.end_granted)

-- the state after the pass `id` was split: the new pass comes last
abbrev pub split_state : ℕ → View → State → State
split_state id v s = record { words = s.words; views = slice_set s.views id (halved v) ++ newcomer v ∷ [] }

-- the state after the pass `id` took in the pass `other`, which is left with nothing
abbrev pub joined_state : ℕ → View → ℕ → View → State → State
joined_state id v other w s = record { words = s.words; views = slice_set (slice_set s.views id (joined v w)) other spent_view }

-- the turn leads from the first state to the second
abbrev pub Leads : Layout → State → Turn → State → Type 0
Leads p s (moves k id) next = (v : View) × (get_elem? s.views id ≡ some v) × (0 < v.seat_share) × May p k v × (next ≡ stepped p k id v s)
Leads p s (splits id) next = (v : View) × (get_elem? s.views id ≡ some v) × MaySplit p v × (next ≡ split_state id v s)
Leads p s (joins id other) next = (v : View) × (w : View) × (get_elem? s.views id ≡ some v) × (get_elem? s.views other ≡ some w) × (other ≡ id → ⊥) × (0 < v.seat_share) × (next ≡ joined_state id v other w s)

-- these turns, one after another, lead from the one state to the other
abbrev pub Runs : Layout → State → List Turn → State → Type 0
Runs p s [] next = next ≡ s
Runs p s (t ∷ ts) next = (m : State) × Leads p s t m × Runs p m ts next

-- the rule holds in the opening state, and after every list of steps
abbrev pub EveryRunIsGood : Type 0
EveryRunIsGood = (p : Layout) (ts : List Turn) (next : State) → IsSound p → Runs p (opening p) ts next → Good p next.words next.views

-- After every list of steps, a bit of a node that was clear and is set was set by a set bit among them
abbrev pub BitsComeBySetBit : Type 0
BitsComeBySetBit = (p : Layout) (s : State) (ts : List Turn) (next : State) (n b : ℕ) → Good p s.words s.views → Runs p s ts next → n < p.nodes → b < bindings p → mark p s.words n b ≡ 0 → mark p next.words n b ≡ 1
    → (k : ℕ) × (id : ℕ) × (get_elem? ts k ≡ some (moves (set_bit n b) id))

-- a clear bit leaves the bit clear
abbrev pub ClearBitLeavesNone : Type 0
ClearBitLeavesNone = (p : Layout) (s : State) (id : ℕ) (next : State) (n b : ℕ) → Good p s.words s.views → Leads p s (moves (clear_bit n b) id) next → mark p next.words n b ≡ 0

-- the rule holds of the words, with some views, among them this one
abbrev pub IsLast : Layout → View → List ℕ → Type 0
IsLast p v words = (views : List View) × Good p words views × ((id : ℕ) × (get_elem? views id ≡ some v))
