-- Another result than a value is passed on.
use Rattle.std.proofs.Common.{IfOk, [], sym, ◌∙◌, subst}
use Rattle.pd_machine.specs.declared.event.Verdict.TheVariants.{Go}
use Rattle.pd_machine.specs.Held.{Held}
use Rattle.pd_meaning.specs.Machine.{other_came}
use Rattle.pd_meaning.specs.Telling.{DoesTelling}
use Rattle.pd_eval.proofs.Came.{passed_on}
use Rattle.pd_eval.proofs.results.come.Goals as goal

pub returns-in-Err : goal.returns-in-Err
returns-in-Err c =
    let p = c.args.program.now in
    passed_on p c.other_comes.result c.args.m.now c.other_comes.new.m c.pop.new.self.stack c.args.came c.in-Err.other c.in-Some.top c.in-Some.ensures.some (sym c.in-Err.is ∙ c.split.ensures)
    (subst (λ (x : Held). IfOk c.other_comes.result (λ t. DoesTelling p (λ v e. Go) (λ stack s. other_came p [] c.in-Some.top c.in-Err.other stack s) x c.other_comes.new.m t)) c.pop.ensures.rest (c.other_comes.ensures p))
