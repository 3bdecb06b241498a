-- Definition, which public contracts cite.
-- The steps that a call took, as its view tells.
use Rattle.std.specs.Prelude.{◌≡◌, ℕ, ◌/◌, ◌%◌, List, ◌==◌, Bool, true, false, if◌then◌else◌}
use Rattle.pd_core.specs.declared.view.View.{View}
use Rattle.pd_plan.specs.declared.table.MatchTable.{MatchTable}
use Rattle.pd_board.specs.Answers.{known_after_load}
use Rattle.pd_board.specs.Standing.{in_row}
use Rattle.pd_shared.specs.Book.{known_at}
use Rattle.pd_core.specs.Layout.{Layout}
use Rattle.pd_core.specs.Words.{live, off, disposed, sum_in, bit_of}
use Rattle.pd_core.specs.Views.{known, fresh, found_attached}
use Rattle.pd_core.specs.Kinds.{Kind, load_binding, draw, after, Found}
use Rattle.pd_board.specs.declared.answers.Known.{Known}
use Rattle.pd_board.specs.declared.answers.Known.TheVariants as knowns
use Rattle.pd_board.specs.declared.answers.Drawn.{Drawn}
use Rattle.pd_board.specs.declared.answers.Drawn.TheVariants as drawns

-- one step of this kind led from the first view to the second, and found this word
abbrev pub Took : Layout → Kind → View → ℕ → View → Type 0
Took p k v w next = Found p k v w × (next ≡ after p k w v)

-- the answer of a draw that found the binding live or not, off or not, and with this sum
abbrev pub drawn_as : Bool → Bool → ℕ → Drawn
drawn_as true true n = drawns.Missed n
drawn_as true false n = drawns.On n
drawn_as false _ n = drawns.Off

-- the answer of a draw that found the word w
abbrev pub drawn_by : ℕ → Drawn
drawn_by w = drawn_as (live w) (off w == 1) (sum_in w)

-- what is known of a binding after a draw that found the word w
abbrev pub known_drawn : ℕ → Known
known_drawn w = if live w then knowns.Attached else knowns.Disposed

-- what is known of a binding after a look at its word w, which isn't live
abbrev pub known_looked : ℕ → Known
known_looked w = if disposed w == 1 then knowns.Disposed else knowns.Fresh

-- A draw is an addition where the binding is known as attached. Else its word is loaded, and the addition follows only
-- where that was live
pub data DrawSteps (p : Layout) (event b : ℕ) (v next : View) (drawn : Drawn) (later : Known) : Type 0 where
  drew : (w : ℕ) → known v b ≡ found_attached → Took p (draw event b) v w next → drawn ≡ drawn_by w → later ≡ known_drawn w → DrawSteps p event b v next drawn later
  looked : (w : ℕ) → known v b ≡ fresh → Took p (load_binding event b) v w next → live w ≡ false → drawn ≡ drawns.Off → later ≡ known_looked w → DrawSteps p event b v next drawn later
  both : (u w : ℕ) (between : View) → known v b ≡ fresh → Took p (load_binding event b) v u between → live u ≡ true → Took p (draw event b) between w next → drawn ≡ drawn_by w → later ≡ known_drawn w → DrawSteps p event b v next drawn later

-- what is known after a load of the node's row word r: an attached one of its bindings that matches and lacks its bit is disposed
abbrev pub IsRowKnown : MatchTable → ℕ → ℕ → ℕ → List Known → List Known → Type 0
IsRowKnown table n r w was now = (b : ℕ) → known_at now b ≡ (if b / 64 == r then known_after_load (in_row table b n) (bit_of w (b % 64) == 1) (known_at was b) else known_at was b)

-- the view from which a draw adds: the binding was known as attached, or its word was loaded and was live
pub data Ready (p : Layout) (event b : ℕ) (v between : View) : Type 0 where
  at_once : known v b ≡ found_attached → between ≡ v → Ready p event b v between
  looked_live : (u : ℕ) → known v b ≡ fresh → Took p (load_binding event b) v u between → live u ≡ true → Ready p event b v between
