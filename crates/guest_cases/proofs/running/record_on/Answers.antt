-- The scripts of a sound plan answer lawfully.
use Rattle.std.proofs.Common.{sym, subst, ap, ◌∙◌}
use Rattle.pd_suspend.specs.Answers.{IsLawful, scripted}
use Rattle.guest_cases.proofs.running.record_on.Goals as goal

pub run_context-requires-clause-lawful : goal.run_context-requires-clause-lawful
run_context-requires-clause-lawful g c κs within = λ x a given.
    subst (λ y. IsLawful c.args.plan.now y) (sym (given ∙ ap (λ p. scripted p x.session x.answer) c.new-script.ensures)) (c.script_law.ensures c.args.plan.now c.requires.sound x.session x.answer)
