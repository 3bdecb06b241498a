use Rattle.std.proofs.Common.{◌≡◌, refl, sym, ◌∙◌, ap, subst, ℕ, List, length, Option, arith}
use Rattle.pd_tree.specs.Program.{Program, Node, Item}
use Rattle.pd_tree.specs.Linked.{joined, nodes_of, items_of, mains_from, program_of, AllComplete}
use Rattle.pd_tree.specs.Kept.{nodes_in, kept_program}
use Rattle.pd_tree.specs.WellFormed.{IsWellFormed}
use Rattle.pd_link.proofs.Nodes.{place-in, names-counted}
use Rattle.pd_link.proofs.Whole.{whole-joined}
use Rattle.pd_link.proofs.WellFormed.{means-found, well-formed}
use Rattle.pd_link.proofs.program.link.Goals as goal

program-same : (nodes ns : List Node) (items is : List Item) (mains ms : List (Option ℕ)) (entries : List ℕ) (p q : Program) → p ≡ record { nodes = nodes; items = items; mains = mains; entries = entries } → q ≡ record { nodes = ns; items = is; mains = ms; entries = entries } → nodes ≡ ns → items ≡ is → mains ≡ ms → p ≡ q
program-same nodes ns items is mains ms entries p q e f g h i =
    let made : List Node → List Item → List (Option ℕ) → Program = λ x y z. record { nodes = x; items = y; mains = z; entries = entries } in
    e ∙ ap (λ x. made x items mains) g ∙ ap (λ x. made ns x mains) h ∙ ap (made ns is) i ∙ sym f

pub places_of-requires : goal.places_of-requires
places_of-requires c =
    let trees = c.args.trees.items in
    let all : c.as_slice-3.result.now ≡ joined trees = c.as_slice-3.ensures.value ∙ c.in_ok-additions.ensures.joined in
    let complete = (whole-joined trees c.in_ok-additions.ensures.whole).complete in
    record {
      complete = subst AllComplete (sym all) complete;
      few = omega (arith, ap length all);
      found = ap length c.as_slice-4.ensures.value ∙ c.requires.found ∙ sym (ap length all);
    }

pub keep-requires-clause-kept : goal.keep-requires-clause-kept
keep-requires-clause-kept c =
    let p = c.in_ok-places.field-0 in
    let complete = subst AllComplete (sym c.in_ok-additions.ensures.joined) (whole-joined c.args.trees.items c.in_ok-additions.ensures.whole).complete in
    record {
      nodes = c.in_ok-places.ensures.beside ∙ ap length c.as_slice-3.ensures.value;
      few = omega (arith, ap length c.in_ok-additions.ensures.joined);
      counted = names-counted c.in_ok-additions.additions.items complete;
      few_changes = c.in_ok-places.ensures.few_changes;
      before = c.in_ok-places.ensures.before;
      items = c.in_ok-names.ensures.beside;
      within = λ n h. place-in p.parts.items p.changes.items p.places.items n c.in_ok-places.ensures.within h;
    }

pub keep-requires-clause-linked : goal.keep-requires-clause-linked
keep-requires-clause-linked c =
    let trees = c.args.trees.items in
    let found = c.args.found.items in
    let p = c.in_ok-places.field-0 in
    let x = c.in_ok-names.field-0 in
    let additions = c.in_ok-additions.additions.items in
    let all : c.as_slice-3.result.now ≡ joined trees = c.as_slice-3.ensures.value ∙ c.in_ok-additions.ensures.joined in
    let nodes : nodes_in p.parts.items p.changes.items additions additions p.places.items ≡ nodes_of (joined trees) found =
    sym (ap (λ l. nodes_in p.parts.items p.changes.items l l p.places.items) c.as_slice-3.ensures.value)
    ∙ c.in_ok-places.ensures.nodes ∙ ap (λ l. nodes_of l c.as_slice-4.result.now) all ∙ ap (nodes_of (joined trees)) c.as_slice-4.ensures.value in
    let items = c.in_ok-names.ensures.items ∙ ap items_of (c.as_slice-2.ensures.value ∙ c.in_ok-additions.ensures.joined) in
    let mains = c.in_ok-mains.ensures ∙ ap (mains_from 0) c.as_slice.ensures.value in
    let entries = c.args.entries.items in
    let kept : Program = kept_program p.parts.items p.changes.items additions p.places.items x.names.items x.roots.items c.in_ok-mains.mains.items entries in
    let same : kept ≡ program_of trees found entries = program-same _ _ _ _ _ _ entries kept (program_of trees found entries) refl refl nodes items mains in
    subst IsWellFormed (sym same)
    (well-formed trees found entries c.in_ok-additions.ensures.whole c.requires.found
    (means-found (length (items_of (joined trees))) (joined trees) found c.requires.unlinked c.requires.found_items) c.requires.entry_items)

pub returns : goal.returns
returns c =
    let trees = c.args.trees.items in
    let found = c.args.found.items in
    let p = c.in_ok-places.field-0 in
    let x = c.in_ok-names.field-0 in
    let additions = c.in_ok-additions.additions.items in
    let all : c.as_slice-3.result.now ≡ joined trees = c.as_slice-3.ensures.value ∙ c.in_ok-additions.ensures.joined in
    let nodes : nodes_in p.parts.items p.changes.items additions additions p.places.items ≡ nodes_of (joined trees) found =
    sym (ap (λ l. nodes_in p.parts.items p.changes.items l l p.places.items) c.as_slice-3.ensures.value)
    ∙ c.in_ok-places.ensures.nodes ∙ ap (λ l. nodes_of l c.as_slice-4.result.now) all ∙ ap (nodes_of (joined trees)) c.as_slice-4.ensures.value in
    let items = c.in_ok-names.ensures.items ∙ ap items_of (c.as_slice-2.ensures.value ∙ c.in_ok-additions.ensures.joined) in
    let mains = c.in_ok-mains.ensures ∙ ap (mains_from 0) c.as_slice.ensures.value in
    program-same _ _ _ _ _ _ c.args.entries.items c.keep.result (program_of trees found c.args.entries.items) c.keep.ensures refl nodes items mains
