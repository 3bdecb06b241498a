-- One session more has its task.
use Rattle.std.proofs.Common.{◌+◌, refl, ap, length, ◌∙◌, arith}
use Rattle.std.proofs.lemmas.List.{length_push}
use Rattle.pd_threads.proofs.TaskLaws.{session_more}
use Rattle.pd_threads.proofs.tasks.session_tasks.Goals as goal

pub loop-s-preserved : goal.loop-s-preserved
loop-s-preserved c =
    let was = c.loop-s.invariant in
    record {
      are = session_more c.args.scripts.now c.loop-s.s c.loop-s.tasks.items c.push.new.self.items _ (omega (arith, c.loop-s-test.true, c.requires)) c.in_ok-push.ensures.items was.are refl was.len;
      len = ap length c.in_ok-push.ensures.items ∙ length_push c.loop-s.tasks.items _ ∙ ap (λ n. n + 1) was.len;
    }
