-- One action more was done.
use Rattle.std.proofs.Common.{rules, ℕ, ◌+◌, ◌<◌, List, length, ap, ◌∙◌, arith}
use Rattle.pd_plan.specs.declared.plan.Action.{Action}
use Rattle.pd_board.specs.Standing.{Standing}
use Rattle.pd_session.proofs.DoLaws.{loads_left, ends_left, one_more, rest_more}
use Rattle.pd_session.proofs.script.run_script.Goals as goal

pub loop-action-preserved : goal.loop-action-preserved
loop-action-preserved g c =
    let xs : List Action = c.args.script.now.actions in
    let i : ℕ = c.loop-action.action-index in
    let now : Standing = g.B.Board.standing c.do_action.new.board in
    let mid : Standing = g.B.Board.standing c.loop-action.board in
    let within : i < length xs = omega (arith, c.loop-action-test.true, ap length c.as_slice-action-items.ensures) in
    let did = c.in_ok-do_action.ensures.done in
    record {
      position = ap (λ n. n + 1) c.loop-action.invariant.position;
      done = one_more c.args.session xs i c.loop-action.results.items c.push.new.self.items _ _ (g.B.Board.standing c.args.board.now) mid now within (search rules) c.loop-action.invariant.done c.in_ok-push.ensures.items did;
      loads = loads_left c.args.session xs i _ _ mid now within did (search rules) c.loop-action.invariant.loads;
      ends = ends_left c.args.session xs i _ _ mid now within did (search rules) c.loop-action.invariant.ends;
      rest = rest_more (g.B.Board.standing c.args.board.now) mid now c.loop-action.invariant.rest c.in_ok-do_action.ensures.rest;
      base = c.in_ok-do_action.ensures.base ∙ c.loop-action.invariant.base;
    }
