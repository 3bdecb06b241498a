-- Each piece so far has a seat of its own, and the shares were handed on.
use Rattle.std.proofs.Common.{◌≡◌, length, map}
use Rattle.pd_seats.specs.Shares.{HasHandedOn, AreNewcomers}
use Rattle.pd_seats.proofs.splitting.pieces_for.Given as goal

abbrev pub invariant-loop-own : goal.invariant-loop-own
invariant-loop-own g l = record {
  own : map (λ p. p.own) l.pieces.items ≡ l.yielded;
  new : AreNewcomers l.fn.first (map (λ p. p.seat) l.pieces.items);
  handed : HasHandedOn (length l.yielded) l.fn.first l.first;
}
