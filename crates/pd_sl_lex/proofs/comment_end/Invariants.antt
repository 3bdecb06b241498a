use Rattle.std.proofs.Common.{◌≡◌, ◌+◌, drop}
use Rattle.std.specs.Option.{option_map}
use Rattle.pd_sl_lex.specs.Scan.{comment_end}
use Rattle.pd_sl_lex.proofs.comment_end.Given as goal

abbrev pub invariant-loop-place : goal.invariant-loop-place
invariant-loop-place l = comment_end l.bytes ≡ option_map (λ len. l.place + len) (comment_end (drop l.place l.bytes))
