use Rattle.std.proofs.Common.{◌∙◌, ap, sym, subst, ◌∷◌, length, arith}
use Rattle.std.proofs.lemmas.List.{length_push}
use Rattle.pd_tree.specs.Linked.{closed}
use Rattle.pd_tree.specs.Kept.{list_at}
use Rattle.pd_link.specs.Linking.{AllOpenedIn, open_in, opens_in}
use Rattle.pd_link.specs.Walks.{AllOpenAt}
use Rattle.pd_link.proofs.Opens.{opens-push, opened_in-push}
use Rattle.pd_link.proofs.walk.Walker.enter.Goals as goal

pub close-requires : goal.close-requires
close-requires c =
    let all = c.args.all.now in
    let changes = c.args.self.now.changes.items in
    let came = c.part_came.new.opened.items in
    let opens =
    ap (opens_in all changes) c.in_ok-push.ensures.items ∙ opens-push all changes came c.args.next
    ∙ ap (λ os. open_in all changes c.args.next ∷ os) (c.in_ok-part_came.ensures.came all changes) in
    record {
      opened = subst (AllOpenedIn changes) (sym c.in_ok-push.ensures.items)
          (opened_in-push changes came c.args.next (c.in_ok-part_came.ensures.within changes c.requires.opened) c.requires.outside);
      inside = c.requires.inside;
      nodes = subst (AllOpenAt (length all)) (sym opens) c.requires.nodes;
    }

pub returns : goal.returns
returns c =
    let all = c.args.all.now in
    let changes = c.args.self.now.changes.items in
    let came = c.part_came.new.opened.items in
    let opens =
    ap (opens_in all changes) c.in_ok-push.ensures.items ∙ opens-push all changes came c.args.next
    ∙ ap (λ os. open_in all changes c.args.next ∷ os) (c.in_ok-part_came.ensures.came all changes) in
    let inside = list_at all changes c.args.inside in
    let count = ap length c.in_ok-push.ensures.items ∙ length_push came c.args.next in
    let closes = c.in_ok-self.ensures in
    record {
      grew = closes.grew;
      before = closes.before;
      few = omega (arith, closes.few, count, c.in_ok-part_came.ensures.count);
      opened_within = closes.opened_within;
      seen_within = closes.seen_within;
      walked = closes.walked ∙ ap (λ os. closed all os inside) opens;
    }
