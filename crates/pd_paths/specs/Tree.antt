-- Definition, which public contracts cite.
-- The call tree of a context: its paths, each with the number of its activations and of the events that belong to them. An event belongs
-- to the innermost activation that runs at it, and the path of an activation is that of its Enter.
use Rattle.std.specs.Prelude.{◌≡◌, ℕ, ◌<◌, ◌==◌, ◌&&◌, ◌||◌, Bool, true, false, nat_lt, List, [], ◌∷◌, filter, length, bytes_eq}
use Rattle.std.specs.List.{All, list_all, list_any}
use Rattle.pd_tree.specs.Program.{Program}
use Rattle.pd_machine.specs.Events.{Told}
use Rattle.pd_running.specs.Running.{is_enter, of_root, path_at, moments}
use Rattle.pd_paths.specs.declared.PathCount.{PathCount}

-- whether an activation of a function or a procedure begins
abbrev pub begins_root : Program → Told → Bool
begins_root p t = is_enter t.event.kind && of_root p t

-- the number of activations with this path
abbrev pub count_of : Program → List Told → List ℕ → ℕ
count_of p events path = length (filter (λ (m : List Told × Told). begins_root p m.1 && bytes_eq (path_at p m.0 m.1) path) (moments events))

-- the number of events that belong to them
abbrev pub own_of : Program → List Told → List ℕ → ℕ
own_of p events path = length (filter (λ (m : List Told × Told). bytes_eq (path_at p m.0 m.1) path) (moments events))

-- whether a list of numbers stands before another: a part of it first, and else by the first number that differs
abbrev pub is_before : List ℕ → List ℕ → Bool
is_before [] [] = false
is_before [] (y ∷ ys) = true
is_before (x ∷ xs) [] = false
is_before (x ∷ xs) (y ∷ ys) = nat_lt x y || ((x == y) && is_before xs ys)

-- whether each path stands before all later ones
abbrev pub paths_rise : List PathCount → Bool
paths_rise [] = true
paths_rise (x ∷ xs) = list_all (λ y. is_before x.path y.path) xs && paths_rise xs

abbrev pub has_path : List ℕ → List PathCount → Bool
has_path path tree = list_any (λ x. bytes_eq x.path path) tree

-- a path with its numbers
pub record IsCounted (p : Program) (events : List Told) (x : PathCount) : Type 0 where
  pub some : 0 < x.count
  pub count : x.count ≡ count_of p events x.path
  pub own : x.own ≡ own_of p events x.path

-- the call tree of these events
pub record IsCallTree (p : Program) (events : List Told) (tree : List PathCount) : Type 0 where
  pub rising : paths_rise tree ≡ true
  pub counted : All (IsCounted p events) tree
  -- each path that an activation has is there
  pub whole : (path : List ℕ) → 0 < count_of p events path → has_path path tree ≡ true
