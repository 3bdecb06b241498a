-- One outcome more is taken apart.
use Rattle.std.proofs.Common.{[], ◌∷◌, ◌++◌, map, refl, sym, ap, ◌∙◌}
use Rattle.std.proofs.lemmas.List.{append-nil, map-append}
use Rattle.pd_threads.specs.declared.work.Outcome.TheVariants.{Ran, Acted}
use Rattle.pd_threads.specs.Returned.{ran_in, acted_in}
use Rattle.pd_threads.proofs.OutcomeLaws.{one_more, come_more}
use Rattle.pd_threads.proofs.outcomes.outcomes_of.Goals as goal

pub loop-piece-preserved-in-Continue-branch-2 : goal.loop-piece-preserved-in-Continue-branch-2
loop-piece-preserved-in-Continue-branch-2 c =
    let was = c.loop-piece.invariant in
    let o = Ran c.in-Ran.record in
    record {
      records = one_more ran_in c.loop-piece.yielded c.in-Some.piece o c.in-Ran.is _ _ c.in_ok-push-in-Ran.ensures.items was.records;
      results = one_more acted_in c.loop-piece.yielded c.in-Some.piece o c.in-Ran.is _ _ (sym (append-nil _)) was.results;
      sights = c.in_ok-push.ensures.items ∙ ap (λ ls. ls ++ c.in-Some.piece.sights ∷ []) was.sights ∙ sym (map-append (λ d. d.sights) c.loop-piece.yielded (c.in-Some.piece ∷ []));
      come = come_more c.loop-piece.yielded c.in-Some.piece o c.in-Ran.is was.come refl;
    }

pub loop-piece-preserved : goal.loop-piece-preserved
loop-piece-preserved c =
    let was = c.loop-piece.invariant in
    let o = Acted c.in-Acted.acted in
    record {
      records = one_more ran_in c.loop-piece.yielded c.in-Some.piece o c.in-Acted.is _ _ (sym (append-nil _)) was.records;
      results = one_more acted_in c.loop-piece.yielded c.in-Some.piece o c.in-Acted.is (map (λ v. v.items) c.loop-piece.results.items) _
          (ap (map (λ v. v.items)) c.in_ok-push-in-Acted.ensures.items ∙ map-append (λ v. v.items) c.loop-piece.results.items (c.in-Acted.acted ∷ [])) was.results;
      sights = c.in_ok-push.ensures.items ∙ ap (λ ls. ls ++ c.in-Some.piece.sights ∷ []) was.sights ∙ sym (map-append (λ d. d.sights) c.loop-piece.yielded (c.in-Some.piece ∷ []));
      come = come_more c.loop-piece.yielded c.in-Some.piece o c.in-Acted.is was.come refl;
    }
