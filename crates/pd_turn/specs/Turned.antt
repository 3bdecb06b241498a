-- Definition: the nodes of trees, each after its parts, and each before them.
use Rattle.std.specs.Prelude.{ℕ, zero, suc, ◌-◌, List, [], ◌∷◌, ◌++◌, nat_lt, if◌then◌else◌}
use Rattle.pd_turn.specs.declared.Node.{Node}
use Rattle.pd_turn.specs.declared.Pending.{Pending}

mutual
  pub data Rose (T : Type 0) : Type 0 where
    rose : T → Roses T → Rose T

  pub data Roses (T : Type 0) : Type 0 where
    none : Roses T
    also : Rose T → Roses T → Roses T

-- the number of the trees
abbrev pub count : {T : Type 0} → Roses T → ℕ
count none = 0
count (also t ts) = suc (count ts)

-- the nodes of the trees, each after its parts
abbrev mutual
  pub post : {T : Type 0} → Rose T → List (Node T)
  post (rose x ts) = posts ts ++ record { what = x; parts = count ts } ∷ []

  pub posts : {T : Type 0} → Roses T → List (Node T)
  posts none = []
  posts (also t ts) = post t ++ posts ts

-- the nodes of the trees, each before its parts
abbrev mutual
  pub pre : {T : Type 0} → Rose T → List (Node T)
  pre (rose x ts) = record { what = x; parts = count ts } ∷ pres ts

  pub pres : {T : Type 0} → Roses T → List (Node T)
  pres none = []
  pres (also t ts) = pre t ++ pres ts

-- a part is done: so may be what it is the last missing part of
unfoldable pub part_done : {T : Type 0} → List (Pending T) → List (Node T) → List (Pending T) × List (Node T)
part_done [] out = ([], out)
part_done (p ∷ k) out =
    let r = part_done k (out ++ p.node ∷ []) in
    if nat_lt 1 p.missing then (record { node = p.node; missing = p.missing - 1 } ∷ k, out) else r

-- takes one more node, which has so many parts: with none it is done at once, else it waits for them
abbrev pub turn_at : {T : Type 0} → ℕ → Node T → List (Pending T) → List (Node T) → List (Pending T) × List (Node T)
turn_at zero x k out = part_done k (out ++ x ∷ [])
turn_at (suc n) x k out = (record { node = x; missing = suc n } ∷ k, out)

-- the nodes from the last to the first
unfoldable pub turns : {T : Type 0} → List (Node T) → List (Pending T) × List (Node T) → List (Pending T) × List (Node T)
turns [] s = s
turns (x ∷ xs) s = turns xs (turn_at x.parts x s.0 s.1)
