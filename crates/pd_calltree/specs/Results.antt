-- Definition, which public contracts cite.
-- What a call tree is for the report of a run.
use Rattle.std.specs.Prelude.{ℕ, suc, List, [], ◌∷◌, slice_index_or}
use Rattle.pd_tree.specs.Program.{Program}
use Rattle.pd_plan.specs.declared.plan.Plan.{Plan}
use Rattle.pd_log.specs.declared.Entry.{Entry}
use Rattle.pd_suspend.specs.declared.context.ContextRecord.{ContextRecord}
use Rattle.pd_run.specs.Run.{events_of}
use Rattle.pd_paths.specs.declared.PathCount.{PathCount}
use Rattle.pd_paths.specs.Tree.{IsCallTree}
use Rattle.pd_paths.specs.Laws.{IsSummed}

-- the log of binding b in a context
abbrev pub log_in : ℕ → ContextRecord → List Entry
log_in b r = slice_index_or r.logs b []

-- in each context from number c on these are the call trees of its events
abbrev pub AreTrees : Plan → Program → ℕ → List ContextRecord → List (List PathCount) → Type 0
AreTrees plan p c [] [] = Unit {0}
AreTrees plan p c (r ∷ rs) (t ∷ ts) = IsCallTree p (events_of plan p c r) t × AreTrees plan p (suc c) rs ts
AreTrees plan p c _ _ = ⊥

-- their numbers add up to those of the context's events
abbrev pub AreSummedIn : Plan → Program → ℕ → List ContextRecord → List (List PathCount) → Type 0
AreSummedIn plan p c [] [] = Unit {0}
AreSummedIn plan p c (r ∷ rs) (t ∷ ts) = IsSummed p (events_of plan p c r) t × AreSummedIn plan p (suc c) rs ts
AreSummedIn plan p c _ _ = ⊥
