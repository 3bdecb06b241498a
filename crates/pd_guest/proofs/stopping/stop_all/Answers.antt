-- One more session had its turn.
use Rattle.std.proofs.Common.{sym, ap, subst}
use Rattle.pd_guest.specs.declared.serving.Progress.{Progress}
use Rattle.pd_guest.specs.Replying.{IsGiven}
use Rattle.pd_guest.proofs.stopping.stop_all.Goals as goal

pub turn-requires-clause-given : goal.turn-requires-clause-given
turn-requires-clause-given g c =
    subst (λ b. IsGiven (g.A.Answerer.admits b) (g.A.Answerer.keeps b) c.sessions.h.first.list (g.A.Answerer.list c.sessions.answerer) c.sessions.h.stops.items) (sym c.sessions.invariant.answerer)
    (subst (λ xs. IsGiven (g.A.Answerer.admits (g.A.Answerer.base c.args.answerer.now)) (g.A.Answerer.keeps (g.A.Answerer.base c.args.answerer.now)) xs (g.A.Answerer.list c.sessions.answerer) c.sessions.h.stops.items)
    (sym (ap (λ (y : Progress). y.first.list) c.sessions.invariant.rest)) c.sessions.invariant.given)

pub turn-requires-clause-lawful : goal.turn-requires-clause-lawful
turn-requires-clause-lawful g c = λ x a admitted. c.requires.lawful x a (subst (λ b. g.A.Answerer.admits b x a) c.sessions.invariant.answerer admitted)
