-- One seat more retires.
use Rattle.std.proofs.Common.{◌∙◌, refl, sym, subst, length}
use Rattle.std.proofs.lemmas.Iterator.Adapters.{YieldsList-from_vec}
use Rattle.std.proofs.lemmas.Iterator.Consumers.{YieldsList-turn}
use Rattle.pd_seats.specs.Gathered.{IsOneSeat}
use Rattle.pd_seats.proofs.GatherLaws.{one_more_of, own_more}
use Rattle.pd_seats.proofs.gathering.gathered.Goals as goal

pub loop-piece-preserved : goal.loop-piece-preserved
loop-piece-preserved g c =
    let given = c.into_iter-piece-iterator.ensures.into_iter_gives in
    let all = YieldsList-from_vec c.args.pieces.items given.0 (given.1 ∙ c.args.pieces.ok.0) in
    let turn = YieldsList-turn all c.loop-piece.yielded _ c.loop-piece.yielded_by _ c.next.new.self c.in-Some.piece c.in-Some.is c.next.ensures.steps in
    let one : IsOneSeat c.args.into.now.hub c.in-Some.piece.seat = subst (λ p. IsOneSeat c.args.into.now.hub p.seat) (sym turn.1) (c.requires (length c.loop-piece.yielded) c.in-Some.piece turn.0) in
    let done = c.retire-sights.ensures in
    record {
      own = own_more (λ p. p.own) (λ d. d.own) c.loop-piece.yielded c.loop-piece.done.items c.push.new.self.items c.in-Some.piece _ c.in_ok-push.ensures.items c.loop-piece.invariant.own refl;
      gathered = one_more_of (λ p. p.seat) (λ d. d.sights) c.loop-piece.yielded c.loop-piece.done.items c.push.new.self.items c.in-Some.piece _ c.args.into.now c.loop-piece.into c.retire-sights.new.into
          c.in_ok-push.ensures.items c.loop-piece.invariant.gathered one done.leaves done.over done.takes done.did done.learned;
    }
