-- What is kept before the first event.
use Rattle.std.proofs.Common.{◌<◌, ◌≤◌, length, refl, sym, ap, ◌∙◌, subst}
use Rattle.pd_board.specs.Answers.{stage}
use Rattle.pd_board.specs.Standing.{Standing, bindings}
use Rattle.pd_guest.specs.Keeping.{start_of}
use Rattle.pd_guest.proofs.BeginningLaws.{begins-known, begins-forward}
use Rattle.pd_guest.proofs.record.begin.Goals as goal

pub returns : goal.returns
returns g c =
    let s : Standing = g.B.Board.standing c.args.board.now in
    record {
      context_is = refl;
      same = refl;
      opens = c.new.ensures.items;
      events = c.nothing.ensures;
      stops = c.new-3.ensures.items;
      seen = c.new-2.ensures.items;
      count_is = c.in_ok-no_logs.ensures.count ∙ ap length c.as_slice.ensures;
      logs = c.in_ok-no_logs.ensures.empty;
      start = λ b lt. ap (λ xs. start_of xs b) c.of.ensures.0 ∙ begins-known s.known (bindings s) b (subst (λ n. b < n) c.requires lt);
      forward = λ b. subst (λ xs. stage (start_of xs b) ≤ stage (s.known b)) (sym c.of.ensures.0) (begins-forward s.known (bindings s) b);
      replies = c.of.ensures.1;
      first_is = c.of-2.ensures;
      steppers = c.in_ok-no_steps.ensures.count ∙ ap length c.as_slice-2.ensures;
      idle_all = c.in_ok-no_steps.ensures.none;
    }
