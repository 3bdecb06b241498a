use Rattle.std.proofs.Common.{◌+◌, ◌*◌, ◌-◌, ◌<◌, get_or, sym, arith}
use Rattle.pd_pl0_spell.specs.Refusals.{largest}
use Rattle.pd_pl0_read.proofs.Digits.{too_large_next}
use Rattle.pd_pl0_read.proofs.tokens.number.Goals as goal

pub returns-then-value : goal.returns-then-value
returns-then-value c =
    let big : largest < c.loop-digit.value * 10 + (get_or c.args.digits.now c.loop-digit.digit-index 0 - 48) = omega arith in
    sym (too_large_next c.loop-digit.value c.loop-digit.digit-index c.args.digits.now c.args.digits.now c.loop-digit-test.true c.loop-digit.invariant.rest big)

pub returns-then-value-gt-LARGEST : goal.returns-then-value-gt-LARGEST
returns-then-value-gt-LARGEST c =
    let big : largest < c.loop-digit.value * 10 + (get_or c.args.digits.now c.loop-digit.digit-index 0 - 48) = omega arith in
    sym (too_large_next c.loop-digit.value c.loop-digit.digit-index c.args.digits.now c.args.digits.now c.loop-digit-test.true c.loop-digit.invariant.rest big)
