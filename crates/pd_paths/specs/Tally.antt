-- Definition, which public contracts cite.
-- The numbers of a call tree, as the log of all events of functions and procedures tells them. Events between two entries are counted by
-- their numbers alone.
use Rattle.std.specs.Prelude.{◌≡◌, ℕ, suc, ◌+◌, ◌-◌, ◌≤◌, Bool, true, false, not, cond, nat_lt, List, [], ◌∷◌, ◌++◌, bytes_eq}
use Rattle.std.specs.List.{list_all}
use Rattle.pd_running.specs.Running.{is_enter, Mark}
use Rattle.pd_running.specs.Laws.{but_last}
use Rattle.pd_paths.specs.declared.PathCount.{PathCount}
use Rattle.pd_paths.specs.Tree.{paths_rise}

-- a number, where a test holds
abbrev pub weigh : Bool → ℕ → ℕ
weigh test k = cond test k 0

-- the sum of a number of the paths that pass a test
abbrev pub amount : (PathCount → ℕ) → (List ℕ → Bool) → List PathCount → ℕ
amount number test [] = 0
amount number test (x ∷ xs) = weigh (test x.path) (number x) + amount number test xs

-- a number made of two, as their sum is, or one of them
abbrev pub IsAdditive : (ℕ → ℕ → ℕ) → Type 0
IsAdditive w = (a b c d : ℕ) → w (a + c) (b + d) ≡ w a b + w c d

-- that number of a path
abbrev pub number : (ℕ → ℕ → ℕ) → PathCount → ℕ
number w = λ x. w x.count x.own

-- ---- over entries

-- the path after an entry, an Enter or an end, and the number of the first event that isn't counted then
abbrev pub path_after : Bool → List ℕ → ℕ → List ℕ
path_after true path node = path ++ node ∷ []
path_after false path node = but_last path

abbrev pub next_after : Bool → ℕ → ℕ
next_after true event = event
next_after false event = suc event

-- what an entry adds to the paths that pass a test: the events up to it, and an activation that begins
abbrev pub begun_by : (ℕ → ℕ → ℕ) → (List ℕ → Bool) → Bool → List ℕ → ℕ
begun_by w test true path = weigh (test path) (w 1 0)
begun_by w test false path = 0

-- what the entries add, where a path stands and the events below `next` are counted, out of so many events
abbrev pub tallied : (ℕ → ℕ → ℕ) → (List ℕ → Bool) → ℕ → List ℕ → ℕ → List Mark → ℕ
tallied w test events path next [] = weigh (test path) (w 0 (events - next))
tallied w test events path next (m ∷ ms) =
    weigh (test path) (w 0 (next_after (is_enter m.kind) m.number - next))
    + (begun_by w test (is_enter m.kind) (path_after (is_enter m.kind) path m.node)
    + tallied w test events (path_after (is_enter m.kind) path m.node) (next_after (is_enter m.kind) m.number) ms)

-- the entries are of rising events, from number `next` on and below so many
abbrev pub AreRising : ℕ → ℕ → List Mark → Type 0
AreRising next events [] = next ≤ events
AreRising next events (m ∷ ms) = (next ≤ m.number) × AreRising (suc m.number) events ms

-- ---- the paths that are counted

abbrev pub is_path : List ℕ → Bool
is_path path = not (bytes_eq path [])

abbrev pub paths_full : List PathCount → Bool
paths_full tree = list_all (λ x. is_path x.path) tree

abbrev pub all_some : List PathCount → Bool
all_some tree = list_all (λ x. nat_lt 0 x.count) tree

-- these paths have the numbers of the entries, out of so many events
pub record IsTally (events : ℕ) (marks : List Mark) (tree : List PathCount) : Type 0 where
  pub rising : paths_rise tree ≡ true
  pub full : paths_full tree ≡ true
  pub some : all_some tree ≡ true
  pub amounts : (w : ℕ → ℕ → ℕ) (test : List ℕ → Bool) → IsAdditive w → test [] ≡ false → amount (number w) test tree ≡ tallied w test events [] 0 marks
