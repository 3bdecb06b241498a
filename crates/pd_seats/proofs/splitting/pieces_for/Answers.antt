-- One piece more has its seat.
use Rattle.std.proofs.Common.{◌∙◌, sym, subst, length, arith}
use Rattle.std.proofs.lemmas.List.{length_push}
use Rattle.std.proofs.lemmas.Iterator.Adapters.{YieldsList-from_vec}
use Rattle.std.proofs.lemmas.Iterator.Consumers.{YieldsList-turn, YieldsList-end}
use Rattle.pd_seats.specs.Shares.{HasHandedOn}
use Rattle.pd_seats.proofs.ShareLaws.{may_split, one_more, came_from, new_more, own_more, map_same}
use Rattle.pd_seats.proofs.splitting.pieces_for.Goals as goal

pub split-requires : goal.split-requires
split-requires g c =
    let given = c.into_iter-own-iterator.ensures.into_iter_gives in
    let all = YieldsList-from_vec c.args.owns.items given.0 (given.1 ∙ c.args.owns.ok.0) in
    let turn = YieldsList-turn all c.loop-own.yielded _ c.loop-own.yielded_by _ c.next.new.self c.in-Some.own c.in-Some.is c.next.ensures.steps in
    may_split c.args.owns.len (length c.loop-own.yielded) c.args.first.now c.loop-own.first c.requires (omega (arith, turn.0, c.args.owns.ok.0)) c.loop-own.invariant.handed

pub loop-own-preserved : goal.loop-own-preserved
loop-own-preserved g c =
    let given = c.into_iter-own-iterator.ensures.into_iter_gives in
    let all = YieldsList-from_vec c.args.owns.items given.0 (given.1 ∙ c.args.owns.ok.0) in
    let turn = YieldsList-turn all c.loop-own.yielded _ c.loop-own.yielded_by _ c.next.new.self c.in-Some.own c.in-Some.is c.next.ensures.steps in
    let k = length c.loop-own.yielded in
    let was = c.loop-own.invariant.handed in
    let came = came_from k c.args.first.now c.loop-own.first c.in_ok-seat.seat was c.in_ok-seat.ensures.new in
    record {
      own = own_more (λ p. p.own) c.loop-own.pieces.items c.push.new.self.items c.loop-own.yielded _ c.in_ok-push.ensures.items c.loop-own.invariant.own;
      new = new_more (λ p. p.seat) c.args.first.now c.loop-own.pieces.items c.push.new.self.items _ c.in_ok-push.ensures.items c.loop-own.invariant.new came;
      handed = subst (λ n. HasHandedOn n c.args.first.now c.split.new.self) (sym (length_push c.loop-own.yielded c.in-Some.own))
          (one_more c.args.owns.len k c.args.first.now c.loop-own.first c.split.new.self c.requires (omega (arith, turn.0, c.args.owns.ok.0)) was c.in_ok-seat.ensures.old);
    }

pub returns : goal.returns
returns g c =
    let given = c.into_iter-own-iterator.ensures.into_iter_gives in
    let all = YieldsList-from_vec c.args.owns.items given.0 (given.1 ∙ c.args.owns.ok.0) in
    let end = YieldsList-end all c.loop-own.yielded _ c.loop-own.yielded_by _ c.next.new.self c.in-None.is c.next.ensures.steps in
    record {
      own = c.loop-own.invariant.own ∙ (sym (map_same c.loop-own.yielded) ∙ end.0);
      new = c.loop-own.invariant.new;
      handed = subst (λ n. HasHandedOn n c.args.first.now c.loop-own.first) (end.1 ∙ sym c.args.owns.ok.0) c.loop-own.invariant.handed;
    }
