use Rattle.std.proofs.Common.{subst, sym}
use Rattle.pd_link.specs.Linking.{AllOpenedIn}
use Rattle.pd_link.proofs.Opens.{opened_in-push, opened_in-front, opened_in-last}
use Rattle.pd_link.proofs.walk.part_came.Goals as goal

pub returns-in_ok-push-clause-within : goal.returns-in_ok-push-clause-within
returns-in_ok-push-clause-within c changes h =
    let rest = c.pop.new.self.items in
    let last = c.in-Some.last in
    let old = subst (AllOpenedIn changes) c.in-Some.ensures.items h in
    subst (AllOpenedIn changes) (sym c.in_ok-push.ensures.items)
    (opened_in-push changes rest _ (opened_in-front changes rest last old) (opened_in-last changes rest last old))
