-- For the code's proofs: no public contract needs it.
-- What is kept while the entries of a log are counted.
use Rattle.std.specs.Prelude.{◌≡◌, ℕ, zero, suc, ◌+◌, ◌*◌, ◌-◌, ◌<◌, ◌≤◌, ◌^◌, Bool, true, List, [], ◌∷◌, ◌++◌, length, slice_index, slice_index_or, Option, Some}
use Rattle.std.specs.Ordering.{nat_cmp}
use Rattle.std.specs.BTreeMap.{get}
use Rattle.pd_running.specs.Running.{Mark}
use Rattle.pd_running.specs.Laws.{but_last}
use Rattle.pd_paths.specs.declared.PathCount.{PathCount}
use Rattle.pd_paths.specs.declared.counter.Counter.{Counter}
use Rattle.pd_paths.specs.Tally.{weigh, amount, IsAdditive, number, tallied, AreRising, paths_full, all_some}

-- where the path of this number and a further node is looked up
abbrev pub slot : ℕ → ℕ → ℕ
slot path node = path * 4294967296 + node

-- what stands for a path past the last one
abbrev pub no_path : PathCount
no_path = record { path = []; count = 0; own = 0 }

abbrev pub path_at : List PathCount → ℕ → List ℕ
path_at paths i = (slice_index_or paths i no_path).path

-- so many activations and events more of the path of this number
abbrev pub raised : ℕ → ℕ → ℕ → List PathCount → List PathCount
raised i count own [] = []
raised zero count own (x ∷ xs) = record { path = x.path; count = x.count + count; own = x.own + own } ∷ xs
raised (suc i) count own (x ∷ xs) = x ∷ raised i count own xs

-- the first path is the empty one, and each other began
abbrev pub AreBegun : List PathCount → Type 0
AreBegun [] = ⊥
AreBegun (x ∷ xs) = (x.path ≡ []) × (all_some xs ≡ true) × (paths_full xs ≡ true)

-- the paths, the one around each, and where a path and a further node lead
pub record IsKept (paths : List PathCount) (outer : List ℕ) (inner : ℕ → Option ℕ) : Type 0 where
  pub long : length outer ≡ length paths
  pub begun : AreBegun paths
  pub up : (i : ℕ) → i < length paths → (slice_index outer i < length paths) × (path_at paths (slice_index outer i) ≡ but_last (path_at paths i))
  pub sound : (a n i : ℕ) → n < 2 ^ 32 → inner (slot a n) ≡ Some i → (a < length paths) × (i < length paths) × (path_at paths i ≡ path_at paths a ++ n ∷ [])
  pub whole : (a n i : ℕ) → n < 2 ^ 32 → a < length paths → i < length paths → path_at paths i ≡ path_at paths a ++ n ∷ [] → inner (slot a n) ≡ Some i
  pub once : (i j : ℕ) → i < length paths → j < length paths → path_at paths i ≡ path_at paths j → i ≡ j

abbrev pub inner_of : Counter → ℕ → Option ℕ
inner_of c k = get nat_cmp c.inner k

-- so it is, and the path of what runs is one of them
abbrev pub IsKeptBy : Counter → Type 0
IsKeptBy c = IsKept c.paths.items c.outer.items (inner_of c) × (c.at < length c.paths.items)

-- nothing is counted
pub record IsFirst (c : Counter) : Type 0 where
  pub kept : IsKeptBy c
  pub at : path_at c.paths.items c.at ≡ []
  pub next : c.next ≡ 0
  pub amounts : (w : ℕ → ℕ → ℕ) (test : List ℕ → Bool) → IsAdditive w → amount (number w) test c.paths.items ≡ 0

-- the events up to this number can be counted
pub record HasRoom (end : ℕ) (c : Counter) : Type 0 where
  pub kept : IsKeptBy c
  pub before : c.next ≤ end
  pub owns : amount (λ x. x.own) (λ q. true) c.paths.items + (end - c.next) < 2 ^ 32

-- they were counted
pub record IsCountedTo (end : ℕ) (old new : Counter) : Type 0 where
  pub kept : IsKeptBy new
  pub path : path_at new.paths.items new.at ≡ path_at old.paths.items old.at
  pub next : new.next ≡ end
  pub amounts : (w : ℕ → ℕ → ℕ) (test : List ℕ → Bool) → IsAdditive w
      → amount (number w) test new.paths.items ≡ amount (number w) test old.paths.items + weigh (test (path_at old.paths.items old.at)) (w 0 (end - old.next))

-- one more activation can be
abbrev pub HasCount : Counter → Type 0
HasCount c = amount (λ x. x.count) (λ q. true) c.paths.items + 1 < 2 ^ 32

-- an activation of this node began
pub record IsBegunAt (node : ℕ) (old new : Counter) : Type 0 where
  pub kept : IsKeptBy new
  pub path : path_at new.paths.items new.at ≡ path_at old.paths.items old.at ++ node ∷ []
  pub next : new.next ≡ old.next
  pub amounts : (w : ℕ → ℕ → ℕ) (test : List ℕ → Bool) → IsAdditive w
      → amount (number w) test new.paths.items ≡ amount (number w) test old.paths.items + weigh (test (path_at old.paths.items old.at ++ node ∷ [])) (w 1 0)

-- out of these entries these are left: what is counted and what they add are what all add
pub record IsStanding (events : ℕ) (all rest : List Mark) (c : Counter) : Type 0 where
  pub kept : IsKeptBy c
  pub whole : AreRising 0 events all
  pub rising : AreRising c.next events rest
  pub amounts : (w : ℕ → ℕ → ℕ) (test : List ℕ → Bool) → IsAdditive w
      → amount (number w) test c.paths.items + tallied w test events (path_at c.paths.items c.at) c.next rest ≡ tallied w test events [] 0 all

-- this entry is the next one
pub record IsUnderWay (m : Mark) (c : Counter) : Type 0 where
  pub events : ℕ
  pub all : List Mark
  pub rest : List Mark
  pub few : events < 2 ^ 32
  pub standing : IsStanding events all (m ∷ rest) c

-- it was counted
abbrev pub HasPassed : Mark → Counter → Counter → Type 0
HasPassed m old new = (events : ℕ) (all rest : List Mark) → IsStanding events all (m ∷ rest) old → IsStanding events all rest new
