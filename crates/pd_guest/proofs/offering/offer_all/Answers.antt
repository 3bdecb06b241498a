-- One binding more is served, and at last all are.
use Rattle.std.proofs.Common.{ℕ, arith, ◌∙◌}
use Rattle.pd_board.specs.Chain.{has}
use Rattle.pd_board.specs.Standing.{Standing}
use Rattle.pd_guest.proofs.OfferingLaws.{spent-more, offering-more, offering-all}
use Rattle.pd_guest.proofs.GrowingLaws.{more-after, more-offered}
use Rattle.pd_guest.proofs.offering.offer_all.Goals as goal

pub chain-preserved : goal.chain-preserved
chain-preserved g c =
    let b : ℕ = c.in-Some.b in
    let first : Standing = g.B.Board.standing c.args.board.now in
    let old : Standing = g.B.Board.standing c.chain.board in
    let new : Standing = g.B.Board.standing c.offer.new.board in
    record {
      from_in = omega (arith, c.requires.ample.within b c.in-Some.ensures.passes, c.requires.ample.rows);
      spent = spent-more c.args.m.now (has c.args.chain.now) c.chain.from b first old new
          c.args.kept.now c.chain.kept c.offer.new.kept c.chain.on c.offer.new.on c.chain.invariant.spent c.in_ok-offer.ensures.met c.in-Some.ensures;
      more = more-after c.args.m.now.plan c.args.m.now.told.event.number first old new c.chain.invariant.more
          (more-offered c.args.m.now b old new c.chain.kept c.offer.new.kept c.chain.on c.offer.new.on c.in_ok-offer.ensures.met);
      base = c.offer.ensures.base ∙ c.chain.invariant.base;
      offering = λ start ts done enter i.
          offering-more c.args.m.now start ts done (has c.args.chain.now) c.chain.from b first old new
          c.args.kept.now c.chain.kept c.offer.new.kept c.chain.on c.offer.new.on enter c.requires.ample.table (c.requires.ample.matching b c.in-Some.ensures.passes)
          (c.requires.ample.within b c.in-Some.ensures.passes) c.requires.ample.count c.chain.invariant.spent c.in-Some.ensures (c.chain.invariant.offering start ts done enter i) c.in_ok-offer.ensures.met;
    }

pub returns-clause-offering : goal.returns-clause-offering
returns-clause-offering g c = λ start ts done enter i.
    offering-all c.args.m.now start ts done (has c.args.chain.now) c.chain.from (g.B.Board.standing c.chain.board) c.chain.kept c.chain.on
    c.in_default.ensures (λ x h. omega (arith, c.requires.ample.within x h, c.requires.ample.rows)) (c.chain.invariant.offering start ts done enter i)
