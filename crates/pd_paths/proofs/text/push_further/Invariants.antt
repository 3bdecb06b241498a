use Rattle.std.proofs.Common.{◌≡◌, ◌++◌, take, string_bytes, flat_map}
use Rattle.pd_paths.specs.Text.{next_name}
use Rattle.pd_paths.proofs.text.push_further.Given as goal

-- those so far are written
abbrev pub invariant-loop-root : goal.invariant-loop-root
invariant-loop-root l = string_bytes l.text ≡ string_bytes l.initial.text ++ flat_map (next_name l.program) (take l.root-index l.path)
