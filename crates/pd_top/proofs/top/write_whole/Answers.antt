use Rattle.std.proofs.Common.{◌+◌, refl, sym, subst, arith}
use Rattle.std.proofs.lemmas.List.{append-nil, take_all}
use Rattle.pd_top.specs.Answers.{writing_of, IsWritten}
use Rattle.pd_top.proofs.PieceLemmas.{append_known-nil, written_in_part, written_on, on_err}
use Rattle.pd_top.proofs.top.write_whole.Goals as goal

pub loop-at-init : goal.loop-at-init
loop-at-init g c = (
  omega arith,
  record { taken = sym (append_known-nil (g.K.Sink.taken c.args.out.now)); accepted = sym (append-nil (g.K.Sink.accepted c.args.out.now)) },
  omega arith,
)

pub returns-clause-whole : goal.returns-clause-whole
returns-clause-whole g c =
    let done = c.loop-at-test.false in
    subst (IsWritten (writing_of g.K.Sink.taken g.K.Sink.accepted g.K.Sink.faults c.args.out.now c.loop-at.out))
    (take_all c.loop-at.at c.args.bytes.now (omega (arith, done))) c.loop-at.invariant.1

pub returns-in_err-write-clause-part : goal.returns-in_err-write-clause-part
returns-in_err-write-clause-part g c =
    let more = c.loop-at-test.true in
    on_err c.from_residual.result _
    (written_in_part (writing_of g.K.Sink.taken g.K.Sink.accepted g.K.Sink.faults c.args.out.now c.loop-at.out)
    (writing_of g.K.Sink.taken g.K.Sink.accepted g.K.Sink.faults c.args.out.now c.write.new.self) c.args.bytes.now c.loop-at.at
    (c.loop-at.at + c.min.result) c.in_err-write.ensures.part.0 (omega (arith, more)) c.loop-at.invariant.1 refl refl c.in_err-write.ensures.part.1
    c.in_err-write.ensures.accepted_at_err)

pub loop-at-preserved : goal.loop-at-preserved
loop-at-preserved g c =
    let shorter = c.min.ensures in
    let below = c.loop-at.invariant.0 in
    let counted = c.in_ok-write.ensures.count in
    let before = c.loop-at.invariant.2 in (
      grind (arith, shorter, below),
      written_on (writing_of g.K.Sink.taken g.K.Sink.accepted g.K.Sink.faults c.args.out.now c.loop-at.out)
          (writing_of g.K.Sink.taken g.K.Sink.accepted g.K.Sink.faults c.args.out.now c.write.new.self) c.args.bytes.now c.loop-at.at
          (c.loop-at.at + c.min.result) (omega arith) c.loop-at.invariant.1 refl refl c.in_ok-write.ensures.whole c.in_ok-write.ensures.accepted,
      omega (arith, counted, before),
    )
