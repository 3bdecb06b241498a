use Rattle.std.proofs.Common.{◌≡◌, ◌∷◌, ◌++◌, drop}
use Rattle.pd_sections.specs.Starts.{starts_behind}
use Rattle.pd_sections.proofs.line_starts.Given as goal

-- the starts found so far, and those behind the bytes that are left, are all
abbrev pub invariant-loop-place : goal.invariant-loop-place
invariant-loop-place l = l.starts.items ++ starts_behind l.place (drop l.place l.bytes) ≡ 0 ∷ starts_behind 0 l.bytes
