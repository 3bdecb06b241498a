use Rattle.std.proofs.Common.{◌++◌, ◌∷◌, sym, subst}
use Rattle.pd_core.specs.declared.view.View.{View}
use Rattle.pd_board.specs.Journal.{Entries}
use Rattle.pd_shared.specs.Sitting.{Sitting}
use Rattle.pd_shared.specs.Tied.{AreDeeds}
use Rattle.pd_core.specs.Tokens.{Hub}
use Rattle.pd_shared.specs.Left.{DidLeave, HasLearned, IsOver}
use Rattle.pd_shared.proofs.LeftLemmas.{did_leave, has_learned}
use Rattle.pd_shared.proofs.seat.Seat.retire.Goals as goal

pub returns-clause-did : goal.returns-clause-did
returns-clause-did c left others before behind =
    let behind_is = subst (λ (s : Sitting). DidLeave others s.token.pass.view.taken) (sym c.self.view_is) behind in
    let own = subst (λ (e : Entries). AreDeeds c.self.inside.token.pass.view.deeds e) (sym c.take_in.ensures.leaves.journal) c.self.invariant.1.deeds in
    subst (λ (v : View). DidLeave (left ++ c.take_in.result ∷ others) v.taken) (sym c.take_in.ensures.takes.view) (did_leave left others _ _ c.take_in.result _ before own behind_is)

pub returns-clause-over : goal.returns-clause-over
returns-clause-over c = subst (λ (h : Hub). IsOver h.layout c.take_in.result) c.requires c.take_in.ensures.over

pub returns-clause-learned : goal.returns-clause-learned
returns-clause-learned c left others before behind =
    let behind_is = subst (λ (s : Sitting). HasLearned s.token others) (sym c.self.view_is) behind in
    has_learned _ c.self.inside.token _ c.take_in.ensures.takes c.take_in.result c.take_in.ensures.leaves c.self.invariant.1.gone left others before behind_is
