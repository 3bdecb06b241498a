use Rattle.std.proofs.Common.{string_bytes, slice_index_or, rules}
use Rattle.pd_report.proofs.NumberedLemmas.{numbered_more}
use Rattle.pd_gen.specs.Summing.{count_line}
use Rattle.pd_gen.proofs.telling.push_counts.Goals as goal

pub loop-number-preserved : goal.loop-number-preserved
loop-number-preserved c =
    let k = c.loop-number.number-counter in
    let count = slice_index_or c.args.counts.now k 0 in
    numbered_more count_line c.args.counts.now k count (string_bytes c.args.text.now) (string_bytes c.loop-number.text) (string_bytes c.writeln.new.self)
    c.loop-number-test.true (search rules) c.loop-number.invariant c.in_ok-writeln.ensures.bytes
