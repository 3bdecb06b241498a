use Rattle.pd_load.proofs.scope.Scope.pass.Goals as goal

pub returns : goal.returns
returns c = λ s h. c.in_ok-end.ensures _ (c.in_ok-open.ensures _ (c.in_ok-count_part.ensures _ (c.in_ok-declare.ensures s h)))
