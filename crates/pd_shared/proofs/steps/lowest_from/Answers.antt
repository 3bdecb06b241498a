use Rattle.std.proofs.Common.{arith}
use Rattle.pd_core.specs.Words.{bit_of}
use Rattle.pd_board.proofs.BitLemmas.{none_from, lowest_found, no_bit_above}
use Rattle.pd_shared.proofs.steps.lowest_from.Goals as goal

pub returns-then-low-ge64 : goal.returns-then-low-ge64
unfolding bit_of
returns-then-low-ge64 c i above = no_bit_above c.args.word i c.ranges.word.fits (omega arith)

pub returns-then-rest-eq0 : goal.returns-then-rest-eq0
unfolding bit_of
returns-then-rest-eq0 c = none_from c.args.word c.args.low c.if-rest-eq0.true

pub returns : goal.returns
returns c = lowest_found c.args.word c.args.low c.ranges.word.fits (omega arith)
