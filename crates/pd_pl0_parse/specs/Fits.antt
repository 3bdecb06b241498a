-- For the code's proofs: no public contract needs it.
-- How many parts each kind of node has.
use Rattle.std.specs.Prelude.{◌≡◌, ℕ, ◌≤◌, List, [], ◌∷◌}
use Rattle.pd_turn.specs.declared.Node.{Node}
use Rattle.pd_pl0_read.specs.declared.parts.Part.{Part}
use Rattle.pd_pl0_read.specs.declared.parts.Shape.{Shape}
use Rattle.pd_pl0_read.specs.declared.parts.Shape.TheVariants as shapes

-- a node of this shape has so many parts
abbrev pub Fits : Shape → ℕ → Type 0
Fits (shapes.Main m n) c = 1 ≤ c
Fits (shapes.Procedure m n) c = 1 ≤ c
Fits shapes.Body c = c ≡ 1
Fits shapes.Empty c = c ≡ 0
Fits shapes.Begin c = 1 ≤ c
Fits shapes.If c = c ≡ 2
Fits shapes.While c = c ≡ 2
Fits (shapes.Assign m) c = c ≡ 1
Fits shapes.Call c = c ≡ 0
Fits shapes.Write c = c ≡ 1
Fits shapes.Odd c = c ≡ 1
Fits (shapes.Binary o) c = c ≡ 2
Fits shapes.Plus c = c ≡ 1
Fits shapes.Minus c = c ≡ 1
Fits (shapes.Name m) c = c ≡ 0
Fits (shapes.Number v) c = c ≡ 0

-- each node has the number of parts that its shape asks for
abbrev pub AllFit : List (Node Part) → Type 0
AllFit [] = Unit {0}
AllFit (x ∷ xs) = Fits x.what.shape x.parts × AllFit xs
