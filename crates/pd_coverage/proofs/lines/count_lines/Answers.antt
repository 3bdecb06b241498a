use Rattle.std.proofs.Common.{◌≡◌, ℕ, ◌+◌, ◌-◌, not, length, ap, ◌∙◌, arith}
use Rattle.pd_coverage.specs.Lines.{is_line_of, covered_lines}
use Rattle.pd_coverage.proofs.LineLists.{all_line, no_line, also_line, not_also_line, neither_line, tells, all_gone, all_is, missed_is, missed_are_few, missed_rest}
use Rattle.pd_coverage.proofs.lines.count_lines.Goals as goal
use Rattle.pd_coverage.proofs.lines.count_lines.Goals.{then-is_marked+in_ok-push+then-not-is_marked+in_ok-push-2, then-is_marked+in_ok-push+else-not-is_marked, else-is_marked}

pub loop-line-preserved : goal.loop-line-preserved
loop-line-preserved c =
    let p = c.args.program.now in
    let nodes = c.args.x.now.nodes in
    let hit = c.args.x.now.hit in
    let line = c.loop-line.line in
    let below = c.loop-line-test.true in
    let is = c.loop-line.invariant in
    let is_line = tells p nodes c.as_slice-2.result.now (c.last_line.result + 1) line c.in_ok-starting.starting c.is_marked.result c.as_slice-2.ensures c.in_ok-starting.ensures below c.is_marked.ensures in
    let test = is_line_of p nodes in
    let also = λ (l : ℕ). not (is_line_of p hit l) in
    let all = c.loop-line.all.items in
    let missed = c.loop-line.missed.items in
    elim c.if-is_marked.branch [
      | then-is_marked+in_ok-push+then-not-is_marked+in_ok-push-2 w ↦ (
          let is_hit = tells p hit c.as_slice-3.result.now (c.last_line.result + 1) line c.in_ok-covered.covered w.is_marked-then-is_marked.result c.as_slice-3.ensures c.in_ok-covered.ensures below w.is_marked-then-is_marked.ensures in
          let starts = is_line ∙ w.if-is_marked.true in record {
            all = all_line test line all c.if-is_marked.all.items starts is.all (ap (λ v. v.items) w.all-is ∙ w.in_ok-push.ensures.items);
            missed = also_line test also line missed c.if-is_marked.missed.items starts (ap not (is_hit ∙ w.if-not-is_marked.true)) is.missed (ap (λ v. v.items) w.missed-is ∙ w.in_ok-push-2.ensures.items);
          })
      | then-is_marked+in_ok-push+else-not-is_marked w ↦ (
          let is_hit = tells p hit c.as_slice-3.result.now (c.last_line.result + 1) line c.in_ok-covered.covered w.is_marked-then-is_marked.result c.as_slice-3.ensures c.in_ok-covered.ensures below w.is_marked-then-is_marked.ensures in
          let starts = is_line ∙ w.if-is_marked.true in record {
            all = all_line test line all c.if-is_marked.all.items starts is.all (ap (λ v. v.items) w.all-is ∙ w.in_ok-push.ensures.items);
            missed = ap (λ v. v.items) w.missed-is ∙ not_also_line test also line missed starts (ap not (is_hit ∙ w.if-not-is_marked.false)) is.missed;
          })
      | else-is_marked w ↦ (
          let starts = is_line ∙ w.if-is_marked.false in record {
            all = ap (λ v. v.items) w.all-is ∙ no_line test line all starts is.all;
            missed = ap (λ v. v.items) w.missed-is ∙ neither_line test also line missed starts is.missed;
          })
    ]

pub overflow_sub-result : goal.overflow_sub-result
overflow_sub-result c =
    let gone = all_gone c.args.program.now c.args.x.now.nodes c.as_slice.result.now c.last_line.result c.loop-line.line c.last_line.ensures c.as_slice.ensures c.loop-line-test.false c.loop-line.auto.line-end in
    let few = missed_are_few c.args.program.now c.args.x.now c.loop-line.line c.loop-line.all.items c.loop-line.missed.items gone c.loop-line.invariant.all c.loop-line.invariant.missed in
    omega arith

pub returns-clause-all : goal.returns-clause-all
returns-clause-all c =
    let gone = all_gone c.args.program.now c.args.x.now.nodes c.as_slice.result.now c.last_line.result c.loop-line.line c.last_line.ensures c.as_slice.ensures c.loop-line-test.false c.loop-line.auto.line-end in
    c.len.ensures ∙ c.loop-line.all.ok.0 ∙ ap length (all_is c.args.program.now c.args.x.now.nodes c.loop-line.line c.loop-line.all.items gone c.loop-line.invariant.all)

pub returns-clause-covered : goal.returns-clause-covered
returns-clause-covered c =
    let gone = all_gone c.args.program.now c.args.x.now.nodes c.as_slice.result.now c.last_line.result c.loop-line.line c.last_line.ensures c.as_slice.ensures c.loop-line-test.false c.loop-line.auto.line-end in
    let rest = missed_rest c.args.program.now c.args.x.now c.loop-line.line c.loop-line.all.items c.loop-line.missed.items gone c.loop-line.invariant.all c.loop-line.invariant.missed in
    left (length (covered_lines c.args.program.now c.args.x.now)) (length c.loop-line.missed.items) (length c.loop-line.all.items) c.len-2.result c.len-3.result rest (c.len-2.ensures ∙ c.loop-line.all.ok.0) (c.len-3.ensures ∙ c.loop-line.missed.ok.0)
  where
    left : (a b n m k : ℕ) → a + b ≡ n → m ≡ n → k ≡ b → m - k ≡ a
    left a b n m k sum whole part = omega arith

pub returns-clause-missed : goal.returns-clause-missed
returns-clause-missed c =
    let gone = all_gone c.args.program.now c.args.x.now.nodes c.as_slice.result.now c.last_line.result c.loop-line.line c.last_line.ensures c.as_slice.ensures c.loop-line-test.false c.loop-line.auto.line-end in
    missed_is c.args.program.now c.args.x.now c.loop-line.line c.loop-line.missed.items gone c.loop-line.invariant.missed
