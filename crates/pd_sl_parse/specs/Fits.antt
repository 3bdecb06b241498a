-- For the code's proofs: no public contract needs it.
-- How many parts each kind of node has.
use Rattle.std.specs.Prelude.{◌≡◌, ℕ, ◌≤◌, ◌⊎◌, List, [], ◌∷◌}
use Rattle.pd_turn.specs.declared.Node.{Node}
use Rattle.pd_sl_read.specs.declared.parts.Part.{Part}
use Rattle.pd_sl_read.specs.declared.parts.Shape.{Shape}
use Rattle.pd_sl_read.specs.declared.parts.Shape.TheVariants as shapes

-- a node of this shape has so many parts
abbrev pub Fits : Shape → ℕ → Type 0
Fits (shapes.Function n) c = c ≡ 1
Fits shapes.Body c = Unit {0}
Fits shapes.Block c = Unit {0}
Fits shapes.If c = (c ≡ 2) ⊎ (c ≡ 3)
Fits shapes.While c = c ≡ 2
Fits shapes.Return c = c ≤ 1
Fits shapes.Break c = c ≡ 0
Fits shapes.Continue c = c ≡ 0
Fits shapes.Debugger c = c ≡ 0
Fits shapes.Or c = c ≡ 2
Fits shapes.And c = c ≡ 2
Fits (shapes.Binary o) c = c ≡ 2
Fits shapes.Call c = 1 ≤ c
Fits shapes.Assign c = c ≡ 1
Fits shapes.Name c = c ≡ 0
Fits (shapes.Number v) c = c ≡ 0
Fits shapes.Text c = c ≡ 0

-- each node has the number of parts that its shape asks for
abbrev pub AllFit : List (Node Part) → Type 0
AllFit [] = Unit {0}
AllFit (x ∷ xs) = Fits x.what.shape x.parts × AllFit xs
