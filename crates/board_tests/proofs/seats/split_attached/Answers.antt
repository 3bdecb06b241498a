use Rattle.std.proofs.Common.{rules, ◌≡◌, ℕ, ◌-◌, ◌≤◌, ◌^◌, ap, sym, ◌∙◌, subst, arith}
use Rattle.pd_core.specs.declared.view.View.{View}
use Rattle.pd_core.specs.Tokens.{Holder}
use Rattle.pd_core.specs.Talks.{answer_share, handed_answers}
use Rattle.pd_core.specs.Views.{first_view}
use Rattle.pd_shared.proofs.LeftLemmas.{first_share}
use Rattle.board_tests.proofs.seats.split_attached.Goals as goal

pub reserve-requires-clause-answers : goal.reserve-requires-clause-answers
reserve-requires-clause-answers g c s lt =
    let share : answer_share s c.args.first.now.token.pass.view.talk ≡ 2 ^ 32 - 1 = ap (λ (v : View). answer_share s v.talk) c.requires.view ∙ first_share s in
    subst (λ (n : ℕ). 8 ≤ n) (sym share) (omega arith)

pub split-requires : goal.split-requires
split-requires g c =
    let view : c.reserve.new.self.token.pass.view ≡ first_view = ap (λ (h : Holder). h.view) c.reserve.ensures.steps ∙ c.requires.view in
    let draws : c.attach.new.seat.token.pass.view.draw_share ≡ 2 ^ 60 = c.attach.ensures.draws ∙ ap (λ (v : View). v.draw_share) view in
    let ends : c.attach.new.seat.token.pass.view.talk.end_granted ≡ 2 ^ 32 - 1 = c.attach.ensures.ends ∙ ap (λ (v : View). v.talk.end_granted) view in (
      search rules,
      subst (λ (n : ℕ). 2 ^ 38 ≤ n) (sym draws) (omega arith),
      λ s lt. let share : answer_share s c.attach.new.seat.token.pass.view.talk ≡ 2 ^ 32 - 1 = ap (λ (f : ℕ → ℕ). f s) c.attach.ensures.answers ∙ (ap (λ (v : View). answer_share s v.talk) view ∙ first_share s) in
          subst (λ (n : ℕ). handed_answers ≤ n) (sym share) (omega arith),
      subst (λ (n : ℕ). 1 ≤ n) (sym ends) (omega arith),
    )
