-- An entry that is `println` does nothing.
use Rattle.std.proofs.Common.{sym, ◌∙◌}
use Rattle.pd_eval.proofs.Standing.{none_ran}
use Rattle.pd_eval.proofs.running.run.Goals as goal

pub returns-in-None-clause-ran : goal.returns-in-None-clause-ran
returns-in-None-clause-ran g c =
    none_ran c.args.program.now c.args.fuel c.args.entry (g.W.Watcher.events c.args.w.now) (g.W.Watcher.kept c.args.w.now) c.of.result (c.of.ensures ∙ c.new.ensures.bytes) c.requires.no_events (sym c.in-None.is ∙ c.root_of.ensures)
