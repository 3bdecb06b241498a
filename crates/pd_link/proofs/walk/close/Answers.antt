use Rattle.std.proofs.Common.{◌∙◌, ap, sym, subst, length, arith}
use Rattle.std.proofs.lemmas.List.{get_or_default, length_push}
use Rattle.pd_tree.specs.declared.addition.Addition.{Addition}
use Rattle.pd_tree.specs.Linked.{closed, seen_behind, no_addition}
use Rattle.pd_tree.specs.Kept.{list_at}
use Rattle.pd_link.specs.Linking.{AllOpenedIn, open_in, opens_in}
use Rattle.pd_link.specs.Walks.{AllOpenAt, meaning_at}
use Rattle.pd_link.proofs.Variables.{grew_twice}
use Rattle.pd_link.proofs.Opens.{opens-push, opens-grow, opened_in-front, opened_in-last, opened_in-grow, closed-end, opens-nodes}
use Rattle.pd_link.proofs.walk.close.Goals as goal

pub bounds-all-last : goal.bounds-all-last
bounds-all-last c =
    let nodes = opens-nodes (length c.args.all.now) c.args.all.now c.loop-last.changes.items c.loop-last.opened.items c.pop.new.self.items c.in-Some.last c.in-Some.ensures.items c.loop-last.invariant.nodes in
    nodes.0.node

pub seen_behind-requires-clause-outside : goal.seen_behind-requires-clause-outside
seen_behind-requires-clause-outside c =
    opened_in-last c.loop-last.changes.items c.pop.new.self.items c.in-Some.last
    (subst (AllOpenedIn c.loop-last.changes.items) c.in-Some.ensures.items c.loop-last.invariant.opened_within)

pub loop-last-preserved : goal.loop-last-preserved
loop-last-preserved c =
    let all = c.args.all.now in
    let old = c.loop-last.changes.items in
    let new = c.seen_behind.new.changes.items in
    let rest = c.pop.new.self.items in
    let x = c.in-Some.last in
    let within = opened_in-front old rest x (subst (AllOpenedIn old) c.in-Some.ensures.items c.loop-last.invariant.opened_within) in
    let nodes = opens-nodes (length all) all old c.loop-last.opened.items rest x c.in-Some.ensures.items c.loop-last.invariant.nodes in
    let kind = ap (λ (a : Addition). a.kind) (get_or_default all x.node c.index-all-last.result no_addition nodes.0.node) in
    let step = c.in_ok-seen.ensures all kind in
    let opens = opens-grow all old new rest step.grew within in
    let seen = list_at all old c.loop-last.seen in
    let one = ap length c.in-Some.ensures.items ∙ length_push rest x in
    record {
      grew = grew_twice _ _ _ c.loop-last.invariant.grew step.grew;
      before = λ h. step.before (c.loop-last.invariant.before h);
      few = omega (arith, step.one, one, c.loop-last.invariant.few);
      opened_within = opened_in-grow old new rest step.grew within;
      seen_within = step.within;
      nodes = subst (AllOpenAt (length all)) (sym opens) nodes.1;
      walked =
          ap (λ os. closed all os (list_at all new c.in_ok-seen.seen)) opens
          ∙ ap (closed all (opens_in all old rest)) (step.seen ∙ ap (λ k. seen_behind k (meaning_at all x.node) (list_at all old x.outside) seen) kind)
          ∙ sym (closed-end all (open_in all old x) (opens_in all old rest) seen (omega arith))
          ∙ sym (ap (λ os. closed all os seen) (ap (opens_in all old) c.in-Some.ensures.items ∙ opens-push all old rest x))
          ∙ c.loop-last.invariant.walked;
    }
