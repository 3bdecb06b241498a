-- All pieces were done, and all seats are back.
use Rattle.std.proofs.Common.{length, map, ap, sym, subst, ◌∙◌}
use Rattle.pd_seats.specs.Shares.{AreNewcomers}
use Rattle.pd_threads.specs.Tasks.{CanDo, DidDo}
use Rattle.pd_seats.proofs.RunLaws.{written, ready, may_retire, shares_back, all_done}
use Rattle.pd_threads.proofs.running.run_tasks.Goals as goal

pub run_pieces-requires-after_bounds : goal.run_pieces-requires-after_bounds
run_pieces-requires-after_bounds g c κs within =
    let value = c.as_mut_slice.ensures.value in
    ready (CanDo (g.Q.HasPlan.given c.args.work.now.plan.now) c.args.work.now.program.now) c.args.first.now c.as_mut_slice.result.now c.args.tasks.items (ap (map (λ p. p.own)) value ∙ c.in_ok-pieces.ensures.own)
    (subst (λ ps. AreNewcomers c.args.first.now (map (λ p. p.seat) ps)) (sym value) c.in_ok-pieces.ensures.new) c.requires.can

pub gathered-requires : goal.gathered-requires
gathered-requires g c =
    let value = c.as_mut_slice.ensures.value in
    may_retire c.args.first.now c.pieces_for.new.first c.as_mut_slice.result.now c.run_pieces.new.pieces _
    (subst (λ ps. AreNewcomers c.args.first.now (map (λ p. p.seat) ps)) (sym value) c.in_ok-pieces.ensures.new)
    c.run_pieces.ensures.len c.run_pieces.ensures.base c.in_ok-pieces.ensures.handed.hub
    (written c.in_ok-pieces.pieces.items c.run_pieces.new.pieces c.in_ok-pieces.pieces.len (c.run_pieces.ensures.len ∙ ap length value) c.in_ok-pieces.pieces.ok.0)

pub returns-clause-shares : goal.returns-clause-shares
returns-clause-shares g c =
    let value = c.as_mut_slice.ensures.value in
    shares_back c.args.first.now c.pieces_for.new.first c.gathered.new.into c.args.tasks.len c.as_mut_slice.result.now c.run_pieces.new.pieces _ c.args.tasks.items _
    c.in_ok-pieces.ensures.handed (ap (map (λ p. p.own)) value ∙ c.in_ok-pieces.ensures.own) c.args.tasks.ok.0 c.run_pieces.ensures.len
    (written c.in_ok-pieces.pieces.items c.run_pieces.new.pieces c.in_ok-pieces.pieces.len (c.run_pieces.ensures.len ∙ ap length value) c.in_ok-pieces.pieces.ok.0)
    c.in_ok-done.ensures.gathered

pub returns-clause-done : goal.returns-clause-done
returns-clause-done g c =
    let value = c.as_mut_slice.ensures.value in
    all_done (DidDo (g.Q.HasPlan.given c.args.work.now.plan.now) c.args.work.now.program.now) c.args.first.now c.pieces_for.new.first c.gathered.new.into c.args.tasks.len c.as_mut_slice.result.now c.run_pieces.new.pieces _ c.args.tasks.items _ _
    (ap (map (λ p. p.own)) value ∙ c.in_ok-pieces.ensures.own)
    (subst (λ ps. AreNewcomers c.args.first.now (map (λ p. p.seat) ps)) (sym value) c.in_ok-pieces.ensures.new)
    c.in_ok-pieces.ensures.handed c.args.tasks.ok.0 c.run_pieces.ensures.len c.run_pieces.ensures.did c.run_pieces.ensures.base
    (written c.in_ok-pieces.pieces.items c.run_pieces.new.pieces c.in_ok-pieces.pieces.len (c.run_pieces.ensures.len ∙ ap length value) c.in_ok-pieces.pieces.ok.0)
    c.in_ok-done.ensures.own c.in_ok-done.ensures.gathered
