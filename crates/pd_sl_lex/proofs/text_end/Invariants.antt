use Rattle.std.proofs.Common.{◌≡◌, ◌+◌, drop}
use Rattle.std.specs.Option.{option_map}
use Rattle.pd_sl_lex.specs.Scan.{text_end}
use Rattle.pd_sl_lex.proofs.text_end.Given as goal

abbrev pub invariant-loop-place : goal.invariant-loop-place
invariant-loop-place l = text_end l.bytes ≡ option_map (λ len. l.place + len) (text_end (drop l.place l.bytes))
