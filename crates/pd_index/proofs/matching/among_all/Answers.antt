-- A node that the binding is about comes behind the others.
use Rattle.std.specs.Prelude.{ℕ, List, [], ◌∷◌, ◌++◌}
use Rattle.std.proofs.Common.{sym, ◌∙◌, ap}
use Rattle.std.specs.declared.vec.Vec.{Vec}
use Rattle.std.specs.declared.alloc.Global.{Global}
use Rattle.pd_filter.specs.Matching.{is_about}
use Rattle.pd_break.proofs.Rows.{passing_more-yes, passing_more-no}
use Rattle.pd_index.proofs.matching.among_all.Goals as goal
use Rattle.pd_index.proofs.matching.among_all.Goals.{then-concerns+in_ok-push, else-concerns}

pub loop-n-preserved : goal.loop-n-preserved
loop-n-preserved c =
    let n = c.loop-n.n in
    let about = is_about c.args.program.now c.args.binding.now in
    elim c.if-concerns.branch [
      | then-concerns+in_ok-push w ↦
          ap (λ (v : Vec ℕ Global). v.items) w.row-is
          ∙ w.in_ok-push.ensures.items
          ∙ ap (λ (ns : List ℕ). ns ++ n ∷ []) c.loop-n.invariant
          ∙ sym (passing_more-yes about n (sym c.concerns.ensures ∙ w.if-concerns.true))
      | else-concerns w ↦
          ap (λ (v : Vec ℕ Global). v.items) w.row-is
          ∙ c.loop-n.invariant
          ∙ sym (passing_more-no about n (sym c.concerns.ensures ∙ w.if-concerns.false))
    ]
