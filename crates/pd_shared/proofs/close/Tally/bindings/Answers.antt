use Rattle.pd_shared.proofs.CloseLemmas.{counts_once, toggles_have_causes}
use Rattle.pd_shared.proofs.close.Tally.bindings.Goals as goal

pub returns-clause-once : goal.returns-clause-once
returns-clause-once c = counts_once c.args.self.now.core.value.layout c.args.self.now.last.value c.args.self.now.bindings c.as_slice.result.now c.args.self.now.answers c.args.self.now.closed c.as_slice.ensures

pub returns-clause-causes : goal.returns-clause-causes
returns-clause-causes c = toggles_have_causes c.args.self.now.core.value.layout c.args.self.now.last.value c.args.self.now.bindings c.as_slice.result.now c.args.self.now.answers c.args.self.now.closed c.as_slice.ensures
