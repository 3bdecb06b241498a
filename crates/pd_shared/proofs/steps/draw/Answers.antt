use Rattle.std.proofs.Common.{rules, ◌≡◌, ◌<◌, ◌==◌, true, false, refl, sym, ap, ◌∙◌, subst}
use Rattle.pd_board.specs.Answers.{is_gone}
use Rattle.pd_board.specs.declared.answers.Known.TheVariants as knowns
use Rattle.pd_core.specs.Tokens.{Holder}
use Rattle.pd_core.specs.Words.{live, off}
use Rattle.pd_core.specs.Views.{known, fresh}
use Rattle.pd_shared.specs.Tied.{told}
use Rattle.pd_shared.specs.Took.{looked, Ready, at_once, looked_live}
use Rattle.pd_shared.proofs.DrawLemmas.{attached_left, ready_known, drawn_then, off_by, on_by, missed_by}
use Rattle.pd_shared.proofs.steps.draw.Goals.{then-eq+else-not-is_live, else-eq}
use Rattle.pd_shared.proofs.steps.draw.Goals as goal

pub returns-then-is_disposed-clause-steps : goal.returns-then-is_disposed-clause-steps
returns-then-is_disposed-clause-steps c =
    let new : known c.args.pass.now.view c.args.b ≡ fresh = search rules in
    let off_now : live c.load_binding-looked.result ≡ false = search rules in
    looked c.load_binding-looked.result new (c.load_binding-looked.ensures.found, ap (λ (h : Holder). h.view) c.load_binding-looked.ensures.view) off_now refl (search rules)

pub returns-else-is_disposed-clause-steps : goal.returns-else-is_disposed-clause-steps
returns-else-is_disposed-clause-steps c =
    let new : known c.args.pass.now.view c.args.b ≡ fresh = search rules in
    let off_now : live c.load_binding-looked.result ≡ false = search rules in
    looked c.load_binding-looked.result new (c.load_binding-looked.ensures.found, ap (λ (h : Holder). h.view) c.load_binding-looked.ensures.view) off_now refl (search rules)

pub add_draw-word-requires : goal.add_draw-word-requires
add_draw-word-requires c =
    let ready : Ready c.args.core.now.layout c.args.event c.args.b c.args.pass.now.view c.if-eq.pass.view = elim c.if-eq.branch [
      | then-eq+else-not-is_live w ↦ let new : known c.args.pass.now.view c.args.b ≡ fresh = search rules in let on : live w.load_binding-looked.result ≡ true = search rules in
          looked_live w.load_binding-looked.result new (w.load_binding-looked.ensures.found, ap (λ (h : Holder). h.view) (w.pass-is ∙ w.load_binding-looked.ensures.view)) on
      | else-eq w ↦ let not_new : told (known c.args.pass.now.view c.args.b) ≡ knowns.Fresh → ⊥ = search rules in let not_gone : is_gone (told (known c.args.pass.now.view c.args.b)) ≡ false = search rules in
          at_once (attached_left (known c.args.pass.now.view c.args.b) not_new not_gone) (ap (λ (h : Holder). h.view) w.pass-is)
    ] in
    let has = ready_known c.args.core.now.layout c.args.event c.args.b c.args.pass.now.view c.if-eq.pass.view ready in
    let id : c.if-eq.pass.id ≡ c.args.core.now.id = elim c.if-eq.branch [
      | then-eq+else-not-is_live w ↦ ap (λ (h : Holder). h.id) (w.pass-is ∙ w.load_binding-looked.ensures.view) ∙ c.requires.id
      | else-eq w ↦ ap (λ (h : Holder). h.id) w.pass-is ∙ c.requires.id
    ] in
    (id, (c.requires.binding, (has.0, subst (λ n. 0 < n) (sym has.1) c.requires.share), tt))

pub returns-then-not-is_live-2-clause-steps : goal.returns-then-not-is_live-2-clause-steps
returns-then-not-is_live-2-clause-steps c =
    let ready : Ready c.args.core.now.layout c.args.event c.args.b c.args.pass.now.view c.if-eq.pass.view = elim c.if-eq.branch [
      | then-eq+else-not-is_live w ↦ let new : known c.args.pass.now.view c.args.b ≡ fresh = search rules in let on : live w.load_binding-looked.result ≡ true = search rules in
          looked_live w.load_binding-looked.result new (w.load_binding-looked.ensures.found, ap (λ (h : Holder). h.view) (w.pass-is ∙ w.load_binding-looked.ensures.view)) on
      | else-eq w ↦ let not_new : told (known c.args.pass.now.view c.args.b) ≡ knowns.Fresh → ⊥ = search rules in let not_gone : is_gone (told (known c.args.pass.now.view c.args.b)) ≡ false = search rules in
          at_once (attached_left (known c.args.pass.now.view c.args.b) not_new not_gone) (ap (λ (h : Holder). h.view) w.pass-is)
    ] in
    let off_now : live c.add_draw-word.result ≡ false = search rules in
    let by = off_by c.add_draw-word.result off_now in
    drawn_then c.args.core.now.layout c.args.event c.args.b c.add_draw-word.result c.args.pass.now.view c.if-eq.pass.view c.add_draw-word.new.p.view _ _ ready (c.add_draw-word.ensures.found, ap (λ (h : Holder). h.view) c.add_draw-word.ensures.view) by.0 by.1

pub returns-then-is_off-clause-steps : goal.returns-then-is_off-clause-steps
returns-then-is_off-clause-steps c =
    let ready : Ready c.args.core.now.layout c.args.event c.args.b c.args.pass.now.view c.if-eq.pass.view = elim c.if-eq.branch [
      | then-eq+else-not-is_live w ↦ let new : known c.args.pass.now.view c.args.b ≡ fresh = search rules in let on : live w.load_binding-looked.result ≡ true = search rules in
          looked_live w.load_binding-looked.result new (w.load_binding-looked.ensures.found, ap (λ (h : Holder). h.view) (w.pass-is ∙ w.load_binding-looked.ensures.view)) on
      | else-eq w ↦ let not_new : told (known c.args.pass.now.view c.args.b) ≡ knowns.Fresh → ⊥ = search rules in let not_gone : is_gone (told (known c.args.pass.now.view c.args.b)) ≡ false = search rules in
          at_once (attached_left (known c.args.pass.now.view c.args.b) not_new not_gone) (ap (λ (h : Holder). h.view) w.pass-is)
    ] in
    let on_now : live c.add_draw-word.result ≡ true = search rules in
    let switched : (off c.add_draw-word.result == 1) ≡ true = search rules in
    let by = missed_by c.add_draw-word.result c.sum_of.result on_now switched c.sum_of.ensures in
    drawn_then c.args.core.now.layout c.args.event c.args.b c.add_draw-word.result c.args.pass.now.view c.if-eq.pass.view c.add_draw-word.new.p.view _ _ ready (c.add_draw-word.ensures.found, ap (λ (h : Holder). h.view) c.add_draw-word.ensures.view) by.0 by.1

pub returns-else-is_off-clause-steps : goal.returns-else-is_off-clause-steps
returns-else-is_off-clause-steps c =
    let ready : Ready c.args.core.now.layout c.args.event c.args.b c.args.pass.now.view c.if-eq.pass.view = elim c.if-eq.branch [
      | then-eq+else-not-is_live w ↦ let new : known c.args.pass.now.view c.args.b ≡ fresh = search rules in let on : live w.load_binding-looked.result ≡ true = search rules in
          looked_live w.load_binding-looked.result new (w.load_binding-looked.ensures.found, ap (λ (h : Holder). h.view) (w.pass-is ∙ w.load_binding-looked.ensures.view)) on
      | else-eq w ↦ let not_new : told (known c.args.pass.now.view c.args.b) ≡ knowns.Fresh → ⊥ = search rules in let not_gone : is_gone (told (known c.args.pass.now.view c.args.b)) ≡ false = search rules in
          at_once (attached_left (known c.args.pass.now.view c.args.b) not_new not_gone) (ap (λ (h : Holder). h.view) w.pass-is)
    ] in
    let on_now : live c.add_draw-word.result ≡ true = search rules in
    let switched : (off c.add_draw-word.result == 1) ≡ false = search rules in
    let by = on_by c.add_draw-word.result c.sum_of-else-is_off.result on_now switched c.sum_of-else-is_off.ensures in
    drawn_then c.args.core.now.layout c.args.event c.args.b c.add_draw-word.result c.args.pass.now.view c.if-eq.pass.view c.add_draw-word.new.p.view _ _ ready (c.add_draw-word.ensures.found, ap (λ (h : Holder). h.view) c.add_draw-word.ensures.view) by.0 by.1
