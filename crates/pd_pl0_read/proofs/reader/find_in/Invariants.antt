use Rattle.std.proofs.Common.{◌≡◌, ◌≤◌, ◌+◌, length, take, reverse}
use Rattle.pd_pl0_read.specs.Held.{found, found_from}
use Rattle.pd_pl0_read.proofs.reader.find_in.Given as goal

abbrev pub invariant-loop-left : goal.invariant-loop-left
invariant-loop-left l = record { within : l.left ≤ length l.blocks; sum : l.left + l.up ≡ length l.blocks; rest : found_from l.up l.name (reverse (take l.left l.blocks)) ≡ found l.name (reverse l.blocks) }

abbrev pub decreases-loop-left : goal.decreases-loop-left
decreases-loop-left l = l.left
