-- The machine and its watcher stand for a point of the meaning.
use Rattle.std.proofs.Common.{◌≡◌}
use Rattle.pd_meaning.specs.Steps.{with_events}
use Rattle.pd_meaning.specs.Weight.{weight}
use Rattle.pd_eval.specs.Watching.{IsOrderlyIn, Stands}
use Rattle.pd_eval.proofs.running.run_from.Given as goal

abbrev pub invariant-turns : goal.invariant-turns
invariant-turns g l = record {
  stands : Stands l.program l.fuel l.fn.root (g.W.Watcher.events l.w) (g.W.Watcher.kept l.w) l.m;
  orderly : IsOrderlyIn l.program (with_events l.m (g.W.Watcher.events l.w));
  ready : g.W.Watcher.ready l.w;
  fixed : g.W.Watcher.fixed l.w ≡ g.W.Watcher.fixed l.fn.w;
}

abbrev pub decreases-turns : goal.decreases-turns
decreases-turns g l = weight (with_events l.m (g.W.Watcher.events l.w))
