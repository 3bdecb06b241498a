-- Definition, which public contracts cite.
-- The text of a call tree.
use Rattle.std.specs.Prelude.{ℕ, suc, List, [], ◌∷◌, ◌++◌}
use Rattle.pd_tree.specs.Program.{Program}
use Rattle.pd_suspend.specs.declared.context.ContextRecord.{ContextRecord}
use Rattle.pd_run.specs.declared.report.Report.{Report}
use Rattle.pd_paths.specs.declared.PathCount.{PathCount}
use Rattle.pd_paths.specs.Text.{tree_text}
use Rattle.pd_calltree.specs.declared.trees.CallTree.{CallTree}

-- the contexts from number c on, each with its tree
abbrev pub trees_text : Program → ℕ → List ContextRecord → List (List PathCount) → List ℕ
trees_text p c (r ∷ rs) (t ∷ ts) = tree_text p c r.events t ++ trees_text p (suc c) rs ts
trees_text p c _ _ = []

abbrev pub calltree_text : Program → Report → CallTree → List ℕ
calltree_text p r t = trees_text p 0 r.contexts t.contexts
