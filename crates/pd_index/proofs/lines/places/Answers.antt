-- The place of a node with a tag comes behind the others.
use Rattle.std.proofs.Common.{◌<◌, ◌^◌, List, [], ◌∷◌, ◌++◌, map, sym, subst, ◌∙◌, ap, inl, inr, arith}
use Rattle.std.proofs.lemmas.List.{map-append}
use Rattle.std.proofs.lemmas.Bool.Decides.{eqb_tells}
use Rattle.std.specs.List.{range_with_len, filter}
use Rattle.std.specs.declared.vec.Vec.{Vec}
use Rattle.std.specs.declared.alloc.Global.{Global}
use Rattle.pd_tree.specs.Program.{node_at}
use Rattle.pd_index.specs.declared.lines.Place.{Place}
use Rattle.pd_index.specs.Places.{place_of, is_tagged}
use Rattle.pd_break.proofs.Rows.{passing_more-yes, passing_more-no}
use Rattle.pd_index.proofs.lines.places.Goals as goal
use Rattle.pd_index.proofs.lines.places.Goals.{then-has_tags+in_ok-push, else-has_tags}

pub loop-n-preserved : goal.loop-n-preserved
loop-n-preserved c =
    let p = c.args.program.now in
    let n = c.loop-n.n in
    let tagged = is_tagged p in
    let so_far = filter tagged (range_with_len 0 n) in
    record {
      places = elim c.if-has_tags.branch [
        | then-has_tags+in_ok-push w ↦
            ap (λ (v : Vec Place Global). v.items) w.places-is
            ∙ w.in_ok-push.ensures.items
            ∙ ap (λ (x : Place). c.loop-n.places.items ++ x ∷ []) c.stands_at-place.ensures.place
            ∙ ap (λ (xs : List Place). xs ++ place_of p n ∷ []) c.loop-n.invariant.places
            ∙ sym (map-append (place_of p) so_far (n ∷ []))
            ∙ ap (map (place_of p)) (sym (passing_more-yes tagged n (sym c.has_tags.ensures ∙ w.if-has_tags.true)))
        | else-has_tags w ↦
            ap (λ (v : Vec Place Global). v.items) w.places-is
            ∙ c.loop-n.invariant.places
            ∙ ap (map (place_of p)) (sym (passing_more-no tagged n (sym c.has_tags.ensures ∙ w.if-has_tags.false)))
      ];
      fit = λ m lt. elim (eqb_tells m n) [
        | inl at ↦ subst (λ k. (node_at p k).line < 2 ^ 32) (sym at.1) c.stands_at-place.ensures.fits
        | inr at ↦ c.loop-n.invariant.fit m (omega (arith, lt, at.1))
      ];
    }
