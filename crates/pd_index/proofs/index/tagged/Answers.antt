-- A node with the tag comes behind the others.
use Rattle.std.specs.Prelude.{ℕ, List, [], ◌∷◌, ◌++◌}
use Rattle.std.proofs.Common.{sym, ◌∙◌, ap}
use Rattle.std.specs.declared.vec.Vec.{Vec}
use Rattle.std.specs.declared.alloc.Global.{Global}
use Rattle.pd_index.specs.Indexing.{bears}
use Rattle.pd_break.proofs.Rows.{passing_more-yes, passing_more-no}
use Rattle.pd_index.proofs.index.tagged.Goals as goal
use Rattle.pd_index.proofs.index.tagged.Goals.{then-has+in_ok-push, else-has}

pub loop-n-preserved : goal.loop-n-preserved
loop-n-preserved c =
    let n = c.loop-n.n in
    let about = bears c.args.program.now c.args.tag in
    elim c.if-has.branch [
      | then-has+in_ok-push w ↦
          ap (λ (v : Vec ℕ Global). v.items) w.nodes-is
          ∙ w.in_ok-push.ensures.items
          ∙ ap (λ (ns : List ℕ). ns ++ n ∷ []) c.loop-n.invariant
          ∙ sym (passing_more-yes about n (sym c.has.ensures ∙ w.if-has.true))
      | else-has w ↦
          ap (λ (v : Vec ℕ Global). v.items) w.nodes-is
          ∙ c.loop-n.invariant
          ∙ sym (passing_more-no about n (sym c.has.ensures ∙ w.if-has.false))
    ]
