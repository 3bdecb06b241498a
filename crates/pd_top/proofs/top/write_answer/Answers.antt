use Rattle.std.proofs.Common.{◌≡◌, subst}
use Rattle.pd_top.specs.Answers.{writing_of, IsWrittenInPart}
use Rattle.pd_top.proofs.top.write_answer.Goals as goal

pub returns-in-Err-clause-tells : goal.returns-in-Err-clause-tells
returns-in-Err-clause-tells g c = λ reading whole.
    let text = c.args.prepared.text in
    let same : c.as_bytes.result.now ≡ text = cc in (
      text,
      whole,
      c.in-Err.ensures.failed,
      subst (IsWrittenInPart (writing_of g.K.Sink.taken g.K.Sink.accepted g.K.Sink.faults c.args.out.now c.write_whole.new.out)) same c.in-Err.ensures.part,
    )
