use Rattle.std.proofs.Common.{refl, sym, ◌∙◌, ap, subst, ℕ, ◌+◌, ◌<◌, List, [], ◌++◌, length, take, drop, get_or, None, arith, length-drop}
use Rattle.std.proofs.lemmas.List.{append-nil, drop_all, take_all, length_push}
use Rattle.pd_tree.specs.declared.place.Place.{Place}
use Rattle.pd_tree.specs.Linked.{nodes_from}
use Rattle.pd_tree.specs.Kept.{nodes_in}
use Rattle.pd_link.specs.Linking.{IsIn}
use Rattle.pd_link.specs.Walks.{AllPlacesIn, Steps, IsPlacedTo, walk_of}
use Rattle.pd_link.proofs.Nodes.{placed-next, length-shapes, shape-in, names-counted}
use Rattle.pd_link.proofs.places.places_of.Goals as goal

pub loop-shape-init : goal.loop-shape-init
loop-shape-init c =
    let all = c.args.all.now in
    let found = c.args.found.now in
    let P : List Place → Type 0 = λ l. AllPlacesIn c.in_ok-parts.field-0.parts.items c.new-walker.result.changes.items l in
    record {
      within = omega arith;
      count = ap length c.new-places.ensures.items;
      shapes_are = c.in_ok-parts.ensures;
      kept = c.new-walker.ensures.kept all;
      places_in = subst P (sym c.new-places.ensures.items) tt;
      nodes = ap (λ w. nodes_from all found 0 w all) (c.new-walker.ensures.start all);
    }

pub step-requires-clause-names : goal.step-requires-clause-names
step-requires-clause-names c = names-counted c.args.all.now c.requires.complete c.loop-shape.n

pub step-requires-clause-parts : goal.step-requires-clause-parts
step-requires-clause-parts c =
    let P : List ℕ → Type 0 = λ l. IsIn l c.in-Some.shape.parts in
    subst P (sym c.as_slice.ensures.value)
    (shape-in c.in_ok-parts.field-0.parts.items c.loop-shape.shapes.items c.pop.new.self.items c.in-Some.shape c.in-Some.ensures.items c.loop-shape.invariant.shapes_are.within)

pub loop-shape-preserved : goal.loop-shape-preserved
loop-shape-preserved c =
    let all = c.args.all.now in
    let n = c.loop-shape.n in
    let Q : List ℕ → Type 0 = λ l. Steps all n (get_or c.args.found.now n None) l c.in-Some.shape c.loop-shape.walker c.step.new.self c.in_ok-place.place in
    let parts = c.in_ok-parts.field-0.parts.items in
    let sizes = length-shapes n (drop n all) parts c.loop-shape.shapes.items c.loop-shape.invariant.shapes_are in
    let lt : n < length all = omega (arith, length-drop n all, sizes, ap length c.in-Some.ensures.items, length_push c.pop.new.self.items c.in-Some.shape) in
    let next = placed-next all c.args.found.now n (get_or c.args.found.now n None) parts c.loop-shape.shapes.items c.pop.new.self.items c.in-Some.shape c.loop-shape.walker c.step.new.self c.loop-shape.places.items c.in_ok-place.place lt refl c.loop-shape.invariant c.in-Some.ensures.items (subst Q c.as_slice.ensures.value c.in_ok-place.ensures) in
    let P : List Place → Type 0 = λ l. IsPlacedTo (n + 1) all c.args.found.now parts c.pop.new.self.items c.step.new.self l in
    subst P (sym c.in_ok-push.ensures.items) next

pub returns-clause-nodes : goal.returns-clause-nodes
returns-clause-nodes c =
    let all = c.args.all.now in
    let n = c.loop-shape.n in
    let parts = c.in_ok-parts.field-0.parts.items in
    let changes = c.loop-shape.walker.changes.items in
    let places = c.loop-shape.places.items in
    let inv = c.loop-shape.invariant in
    let sizes = length-shapes n (drop n all) parts c.loop-shape.shapes.items inv.shapes_are in
    let done : length all < n + 1 = omega (arith, length-drop n all, sizes, c.in_default.ensures.cases.0, c.loop-shape.shapes.ok.0) in
    let none = drop_all n all (omega arith) in
    sym (append-nil (nodes_in parts changes all all places))
    ∙ sym (ap (λ l. nodes_in parts changes all l places ++ []) (take_all n all (omega arith)))
    ∙ sym (ap (λ l. nodes_in parts changes all (take n all) places ++ nodes_from all c.args.found.now n (walk_of all c.loop-shape.walker) l) none)
    ∙ inv.nodes

pub returns-clause-beside : goal.returns-clause-beside
returns-clause-beside c =
    let all = c.args.all.now in
    let n = c.loop-shape.n in
    let inv = c.loop-shape.invariant in
    let sizes = length-shapes n (drop n all) c.in_ok-parts.field-0.parts.items c.loop-shape.shapes.items inv.shapes_are in
    omega (arith, length-drop n all, sizes, c.in_default.ensures.cases.0, c.loop-shape.shapes.ok.0, inv.count, inv.within)
