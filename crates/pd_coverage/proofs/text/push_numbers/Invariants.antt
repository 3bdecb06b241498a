use Rattle.std.proofs.Common.{◌≡◌, ◌++◌, take, string_bytes, flat_map}
use Rattle.pd_coverage.specs.Text.{number_text}
use Rattle.pd_coverage.proofs.text.push_numbers.Given as goal

-- those so far are written
abbrev pub invariant-loop-number : goal.invariant-loop-number
invariant-loop-number l = string_bytes l.text ≡ string_bytes l.initial.text ++ flat_map number_text (take l.number-index l.numbers)
