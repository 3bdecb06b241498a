use Rattle.std.proofs.Common.{◌≡◌, ◌≤◌, drop}
use Rattle.pd_pl0_read.specs.Tokens.{decimal}
use Rattle.pd_pl0_read.proofs.tokens.number.Given as goal

abbrev pub invariant-loop-digit : goal.invariant-loop-digit
invariant-loop-digit l = record { small : l.value ≤ 9223372036854775807; rest : decimal l.value (drop l.digit-index l.digits) ≡ decimal 0 l.digits }
