use Rattle.std.proofs.Common.{◌≡◌, ℕ, ◌-◌, ◌≤◌, ◌^◌, ap, ◌∙◌, sym, subst, arith}
use Rattle.pd_core.specs.declared.view.View.{View}
use Rattle.pd_core.specs.Talks.{answer_share}
use Rattle.pd_shared.proofs.LeftLemmas.{first_share}
use Rattle.board_tests.proofs.seats.toggled.Goals as goal

pub reserve-requires-clause-answers : goal.reserve-requires-clause-answers
reserve-requires-clause-answers g c s lt =
    let share : answer_share s c.args.seat.now.token.pass.view.talk ≡ 2 ^ 32 - 1 = ap (λ (v : View). answer_share s v.talk) c.requires.view ∙ first_share s in
    subst (λ (n : ℕ). 16 ≤ n) (sym share) (omega arith)
