-- A line that is less than those before it is the least.
use Rattle.std.proofs.Common.{ℕ, sym, ◌∙◌, ap}
use Rattle.std.specs.List.{range_with_len, filter}
use Rattle.pd_break.specs.Resolving.{starts_from, least_line, lesser}
use Rattle.pd_tree.specs.Program.{node_at}
use Rattle.pd_break.proofs.Rows.{passing_more-yes, passing_more-no, least_line-more}
use Rattle.pd_break.proofs.resolving.resolve.Goals as goal
use Rattle.pd_break.proofs.resolving.resolve.Goals.{then-is_from, else-is_from}

pub loop-n-preserved : goal.loop-n-preserved
loop-n-preserved c =
    let p = c.args.program.now in
    let from = starts_from p c.args.source c.args.line in
    let n = c.loop-n.n in
    elim c.if-is_from.branch [
      | then-is_from w ↦
          let more = ap (least_line p) (passing_more-yes from n (sym c.is_from.ensures ∙ w.if-is_from.true)) in
          let least = least_line-more p (filter from (range_with_len 0 n)) n in
          let line = ap (λ (k : ℕ). lesser k c.loop-n.least) w.line.ensures in
          cc (ap (lesser (node_at p n).line) c.loop-n.invariant)
      | else-is_from w ↦ let more = ap (least_line p) (passing_more-no from n (sym c.is_from.ensures ∙ w.if-is_from.false)) in cc
    ]
