-- One context more has its task.
use Rattle.std.proofs.Common.{◌+◌, ap, length, sym, ◌∙◌}
use Rattle.std.proofs.lemmas.List.{length_push}
use Rattle.pd_threads.specs.declared.work.Work.TheVariants.{Context}
use Rattle.pd_threads.proofs.TaskLaws.{context_more}
use Rattle.pd_threads.proofs.tasks.context_tasks.Goals as goal

pub loop-c-preserved : goal.loop-c-preserved
loop-c-preserved c =
    let was = c.loop-c.invariant in
    record {
      are = context_more c.loop-c.tasks.items c.push.new.self.items _ c.in_ok-push.ensures.items was.are (ap (λ n. Context n) (sym was.len));
      len = ap length c.in_ok-push.ensures.items ∙ length_push c.loop-c.tasks.items _ ∙ ap (λ n. n + 1) was.len;
    }
