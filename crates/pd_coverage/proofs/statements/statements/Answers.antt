use Rattle.std.proofs.Common.{◌≡◌, ◌+◌, length, map, sym, ap, subst, ◌∙◌, arith}
use Rattle.std.specs.Prelude.{◌==◌}
use Rattle.std.specs.List.{filter, range_with_len}
use Rattle.pd_tree.specs.Program.{node_at}
use Rattle.pd_break.specs.Resolving.{is_statement}
use Rattle.pd_filter.specs.Matching.{satisfies}
use Rattle.pd_coverage.specs.Coverage.{is_counted}
use Rattle.pd_coverage.specs.Table.{IsSplit}
use Rattle.pd_coverage.proofs.Splits.{not_split, one_split, split_lists, is_of, is_of_none}
use Rattle.pd_coverage.proofs.statements.statements.Goals as goal
use Rattle.pd_coverage.proofs.statements.statements.Goals.{then-is_watched+in_ok-add, else-is_watched}

pub loop-n-preserved : goal.loop-n-preserved
loop-n-preserved c =
    let p = c.args.program.now in
    let about = satisfies c.args.filter.now p in
    let n = c.loop-n.n in
    let test = is_counted p about in
    let sources = c.args.sources in
    let lists = c.loop-n.lists.items in
    elim c.if-is_watched.branch [
      | then-is_watched+in_ok-add w ↦
          subst (IsSplit test (range_with_len 0 (n + 1)) sources) (sym (ap (λ v. v.items) w.lists-is ∙ w.in_ok-add.ensures))
          (one_split test sources n w.section.result.source lists
          (λ s. is_of (is_statement p n) (about n) (node_at p n).source w.section.result.source s (sym c.is_watched.ensures ∙ w.if-is_watched.true) w.section.ensures.source)
          c.loop-n.invariant)
      | else-is_watched w ↦
          subst (IsSplit test (range_with_len 0 (n + 1)) sources) (sym (ap (λ v. v.items) w.lists-is))
          (not_split test sources n lists
          (λ s. is_of_none (is_statement p n) (about n) ((node_at p n).source == s) (sym c.is_watched.ensures ∙ w.if-is_watched.false))
          c.loop-n.invariant)
    ]

pub returns : goal.returns
returns c =
    let p = c.args.program.now in
    let test = is_counted p (satisfies c.args.filter.now p) in
    let sources = c.args.sources in
    let upto = c.nodes-n-end.ensures.count in
    let from = c.loop-n-test.false in
    let end_at : c.loop-n.n ≡ length p.nodes = omega (arith, c.loop-n.auto.n-end) in
    split_lists test (range_with_len 0 c.loop-n.n) sources c.loop-n.lists.items c.loop-n.invariant
    ∙ ap (λ k. map (λ s. filter (test s) (range_with_len 0 k)) (range_with_len 0 sources)) end_at
