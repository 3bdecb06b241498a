use Rattle.std.proofs.Common.{◌≡◌, ◌++◌, take, string_bytes, flat_map}
use Rattle.pd_paths.specs.Text.{path_text}
use Rattle.pd_paths.proofs.text.push_paths.Given as goal

-- those so far are written
abbrev pub invariant-loop-path : goal.invariant-loop-path
invariant-loop-path l = string_bytes l.text ≡ string_bytes l.initial.text ++ flat_map (path_text l.program) (take l.path-index l.paths)
