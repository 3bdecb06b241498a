use Rattle.std.proofs.Common.{◌++◌, ◌∷◌, [], refl, ap, ◌∙◌}
use Rattle.pd_paths.specs.declared.PathCount.{PathCount}
use Rattle.std.specs.Ordering.{nat_cmp, is_eq}
use Rattle.std.specs.Map.{lookup}
use Rattle.pd_paths.proofs.Passing.{first_counter}
use Rattle.pd_paths.proofs.counter.Counter.new.Goals as goal

pub returns : goal.returns
returns c =
    let x : PathCount = record { path = c.of.result; count = 0; own = 0 } in
    first_counter _ x
    (c.in_ok-push.ensures.items ∙ ap (λ ps. ps ++ x ∷ []) c.new-paths.ensures.items) (c.of.ensures ∙ c.new.ensures.items) refl refl
    (c.in_ok-push-2.ensures.items ∙ ap (λ os. os ++ 0 ∷ []) c.new-outer.ensures.items)
    (λ k. ap (λ es. lookup (λ q. is_eq (nat_cmp k q)) es) c.new-2.ensures.empty) refl refl
