-- The seats of the pieces so far have retired.
use Rattle.std.proofs.Common.{◌≡◌, map}
use Rattle.pd_seats.specs.Gathered.{IsGathered}
use Rattle.pd_seats.proofs.gathering.gathered.Given as goal

abbrev pub invariant-loop-piece : goal.invariant-loop-piece
invariant-loop-piece g l = record {
  own : map (λ d. d.own) l.done.items ≡ map (λ p. p.own) l.yielded;
  gathered : IsGathered (map (λ p. p.seat) l.yielded) (map (λ d. d.sights) l.done.items) l.fn.into l.into;
}
