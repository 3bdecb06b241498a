-- Definition, which public contracts cite.
-- The steps of each call of a seat, and how many they are.
use Rattle.std.specs.Prelude.{◌≡◌, ℕ, zero, suc, ◌+◌, ◌*◌, ◌/◌, ◌≤◌, ◌==◌, Bool, true, false, if◌then◌else◌, length, slice_index}
use Rattle.pd_board.specs.declared.answers.Known.{Known}
use Rattle.pd_board.specs.declared.answers.Drawn.{Drawn}
use Rattle.pd_core.specs.declared.view.View.{View}
use Rattle.pd_core.specs.Layout.{Layout, row, width}
use Rattle.pd_core.specs.Words.{bit_of}
use Rattle.pd_core.specs.Kinds.{Kind, load_node, load_row, set_bit, set_summary, set_attached, count_end}
use Rattle.pd_core.specs.Views.{known, found_attached, past_in, half_in}
use Rattle.pd_shared.specs.Took.{Took, DrawSteps}

-- one step of this kind
abbrev pub TookOne : Layout → Kind → View → View → Type 0
TookOne p k v next = (w : ℕ) × Took p k v w next

-- at each of the first k nodes of the row of b a set bit, and then a set summary
abbrev pub MarkedTo : Layout → ℕ → ℕ → View → View → Type 0
MarkedTo p b zero v next = next ≡ v
MarkedTo p b (suc k) v next = (m : View) × (u : View) × MarkedTo p b k v m × TookOne p (set_bit (slice_index (row p b) k) b) m u × TookOne p (set_summary (slice_index (row p b) k) (b / 64)) u next

-- the view has come past so many nodes of the row of b by these steps, and is else the same, but for its steps
pub record HasMarked (p : Layout) (b k : ℕ) (v next : View) : Type 0 where
  pub past : past_in next.attaching b ≡ k
  pub whole : half_in next.attaching b ≡ false
  pub rest : next ≡ record v { attaching = next.attaching; steps = next.steps; last = next.last }
  pub marks : MarkedTo p b k v next

-- an attach marks each node of the row, and then sets the binding attached
abbrev pub AttachSteps : Layout → ℕ → View → View → Type 0
AttachSteps p b v next = (m : View) × MarkedTo p b (length (row p b)) v m × TookOne p (set_attached b) m next

-- a load of the row word r, where the summary has its bit, and else no step
abbrev pub LoadedIf : Bool → Layout → ℕ → ℕ → View → View → Type 0
LoadedIf true p n r v next = TookOne p (load_row n r) v next
LoadedIf false p n r v next = next ≡ v

-- the same for each row word below r, rising
abbrev pub LoadedTo : Layout → ℕ → ℕ → ℕ → View → View → Type 0
LoadedTo p n summary zero v next = next ≡ v
LoadedTo p n summary (suc r) v next = (m : View) × LoadedTo p n summary r v m × LoadedIf (bit_of summary r == 1) p n r m next

-- a seat counts its end, where it hasn't ended, and else makes no step
abbrev pub EndSteps : Bool → Layout → View → View → Type 0
EndSteps true p v next = next ≡ v
EndSteps false p v next = TookOne p count_end v next

-- how many bits a summary has below r
abbrev pub rows_below : ℕ → ℕ → ℕ
rows_below summary zero = 0
rows_below summary (suc r) = rows_below summary r + (if bit_of summary r == 1 then 1 else 0)

-- a load of a node loads its summary, which has so many bits, and then each row word whose bit that has
abbrev pub ChainSteps : Layout → ℕ → ℕ → View → View → Type 0
ChainSteps p n rows v next = (w : ℕ) × (m : View) × Took p (load_node n) v w m × LoadedTo p n w (width p) m next × (rows ≡ rows_below w (width p))

-- ---- how many they are

-- a call that is one step raises the number of steps by one
abbrev pub CountsOne : Type 0
CountsOne = (p : Layout) (k : Kind) (v next : View) → TookOne p k v next → next.steps ≡ v.steps + 1

-- a load of a node takes one step for the summary, and one for each bit that it has
abbrev pub CountsChain : Type 0
CountsChain = (p : Layout) (n rows : ℕ) (v next : View) → ChainSteps p n rows v next → next.steps ≡ v.steps + (1 + rows)

-- an attach takes two steps for each node of the row, and one more
abbrev pub CountsAttach : Type 0
CountsAttach = (p : Layout) (b : ℕ) (v next : View) → AttachSteps p b v next → next.steps ≡ v.steps + (2 * length (row p b) + 1)

-- a draw takes one or two steps, and one where the binding was known as attached
abbrev pub CountsDraw : Type 0
CountsDraw = (p : Layout) (event b : ℕ) (v next : View) (drawn : Drawn) (later : Known) → DrawSteps p event b v next drawn later
    → (v.steps + 1 ≤ next.steps) × (next.steps ≤ v.steps + 2) × (known v b ≡ found_attached → next.steps ≡ v.steps + 1)
