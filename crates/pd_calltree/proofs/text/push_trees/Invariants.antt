use Rattle.std.proofs.Common.{◌≡◌, ◌++◌, drop, string_bytes}
use Rattle.pd_calltree.specs.Text.{trees_text}
use Rattle.pd_calltree.proofs.text.push_trees.Given as goal

-- what is written and what is left are the whole
abbrev pub invariant-loop-number : goal.invariant-loop-number
invariant-loop-number l = string_bytes l.text ++ trees_text l.program l.number (drop l.number l.contexts) (drop l.number l.trees) ≡ string_bytes l.initial.text ++ trees_text l.program 0 l.contexts l.trees
