use Rattle.std.proofs.Common.{◌≡◌, ◌∙◌, ap, sym, subst, ◌+◌, ◌-◌, ◌≤◌, length, arith}
use Rattle.std.proofs.lemmas.List.{length_push}
use Rattle.pd_tree.specs.Seen.{applied, AllUp}
use Rattle.pd_tree.proofs.Changes.{applied-push}
use Rattle.pd_tree.proofs.Variables.{up-more, up-changed}
use Rattle.pd_tree.proofs.seen.list_of.Goals as goal

pub apply-requires-clause-near : goal.apply-requires-clause-near
apply-requires-clause-near c =
    let whole = length c.in_ok-chain.chain.items in
    let left = length c.loop-change.chain.items in
    let some : left ≡ length c.pop.new.self.items + 1 = ap length c.in-Some.ensures.items ∙ length_push c.pop.new.self.items c.in-Some.change in
    let near : whole - left ≤ 4294967294 = omega (arith, some, c.in_ok-chain.ensures.few, c.requires.within, c.requires.few, c.loop-change.invariant.few) in
    up-more (whole - left) 4294967294 c.loop-change.seen.items near c.loop-change.invariant.up

pub loop-change-preserved : goal.loop-change-preserved
loop-change-preserved c =
    let all = c.args.additions.now in
    let whole = length c.in_ok-chain.chain.items in
    let left = length c.loop-change.chain.items in
    let rest = c.pop.new.self.items in
    let x = c.in-Some.change in
    let seen = c.loop-change.seen.items in
    let some : left ≡ length rest + 1 = ap length c.in-Some.ensures.items ∙ length_push rest x in
    let more : whole - left + 1 ≡ whole - length rest = omega (arith, some, c.loop-change.invariant.few) in
    record {
      seen =
          ap (applied all rest) c.in_ok-seen.ensures
          ∙ sym (applied-push all rest x seen)
          ∙ ap (λ l. applied all l seen) (sym c.in-Some.ensures.items)
          ∙ c.loop-change.invariant.seen;
      few = omega (arith, some, c.loop-change.invariant.few);
      up = subst (λ k. AllUp k c.in_ok-seen.seen.items) more
          (subst (AllUp (whole - left + 1)) (sym c.in_ok-seen.ensures) (up-changed (whole - left) all x seen c.loop-change.invariant.up));
    }
