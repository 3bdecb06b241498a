use Rattle.std.proofs.Common.{◌≡◌, ◌∙◌, ap, sym, ◌+◌, ◌-◌, ◌<◌, length, get_or, arith}
use Rattle.std.proofs.lemmas.List.{length_push}
use Rattle.pd_tree.specs.declared.change.Change.{Change}
use Rattle.pd_tree.specs.declared.change.Edge.TheVariants.{First}
use Rattle.pd_tree.specs.Kept.{list_at}
use Rattle.pd_tree.specs.Seen.{applied}
use Rattle.pd_tree.proofs.Changes.{before-at, list-of, list-none, applied-push}
use Rattle.pd_tree.proofs.seen.chain_to.Goals as goal

abbrev none : Change
none = record { edge = First; node = 0; before = 0 }

pub loop-at-smaller : goal.loop-at-smaller
loop-at-smaller c =
    let i = c.loop-at.at - 1 in
    let within : i < length c.args.changes.now = omega (arith, c.loop-at-test.true, c.loop-at.invariant.few, c.requires.within) in
    omega (arith, before-at c.args.changes.now i none c.requires.before within, c.loop-at-test.true)

pub loop-at-preserved : goal.loop-at-preserved
loop-at-preserved c =
    let changes = c.args.changes.now in
    let chain = c.loop-at.chain.items in
    let i = c.loop-at.at - 1 in
    let x = get_or changes i none in
    let within : i < length changes = omega (arith, c.loop-at-test.true, c.loop-at.invariant.few, c.requires.within) in
    let back : i + 1 ≡ c.loop-at.at = omega (arith, c.loop-at-test.true) in
    record {
      chain = λ additions.
          ap (λ l. applied additions l (list_at additions changes x.before)) c.in_ok-push.ensures.items
          ∙ applied-push additions chain x (list_at additions changes x.before)
          ∙ ap (applied additions chain) (sym (list-of additions changes i none c.requires.before within) ∙ ap (list_at additions changes) back)
          ∙ c.loop-at.invariant.chain additions;
      few = omega (arith, ap length c.in_ok-push.ensures.items, length_push chain x, before-at changes i none c.requires.before within, c.loop-at.invariant.few, c.loop-at-test.true);
    }

pub returns-clause-chain : goal.returns-clause-chain
returns-clause-chain c additions =
    let changes = c.args.changes.now in
    let chain = c.loop-at.chain.items in
    let done : 0 ≡ c.loop-at.at = omega (arith, c.loop-at-test.false) in
    ap (applied additions chain) (sym (list-none additions changes) ∙ ap (list_at additions changes) done)
    ∙ c.loop-at.invariant.chain additions
