use Rattle.pd_shared.proofs.CloseLemmas.{answers_once_all, reads_within}
use Rattle.pd_shared.proofs.close.Tally.answers.Goals as goal

pub returns-clause-once : goal.returns-clause-once
returns-clause-once c = answers_once_all c.args.self.now.core.value.layout c.args.self.now.last.value c.args.self.now.bindings c.args.self.now.answers c.as_slice.result.now c.args.self.now.closed c.as_slice.ensures

pub returns-clause-read : goal.returns-clause-read
returns-clause-read c = reads_within c.args.self.now.core.value.layout c.args.self.now.last.value c.args.self.now.bindings c.args.self.now.answers c.as_slice.result.now c.args.self.now.closed c.as_slice.ensures
