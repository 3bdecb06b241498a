-- At the end the list has each number below the count.
use Rattle.std.proofs.Common.{arith}
use Rattle.seat_threads.proofs.numbers.each_once.Goals as goal

pub returns-clause-each : goal.returns-clause-each
returns-clause-each c = λ yes n below. c.loop-n.invariant n (omega arith)
