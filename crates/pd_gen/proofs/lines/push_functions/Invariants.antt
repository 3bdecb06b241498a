use Rattle.std.proofs.Common.{◌≡◌, ◌++◌, string_bytes}
use Rattle.pd_gen.specs.Workload.{function_lines}
use Rattle.pd_gen.proofs.lines.push_functions.Given as goal

-- the lines up to function i are written
abbrev pub invariant-loop-i : goal.invariant-loop-i
invariant-loop-i l = string_bytes l.text ≡ string_bytes l.fn.text ++ function_lines l.number l.i
