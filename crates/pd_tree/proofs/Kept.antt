-- What is read of a program that is kept.
use Rattle.std.proofs.Common.{subst, ◌≤◌, ◌≡◌, refl, sym, ◌∙◌, ap, ℕ, zero, suc, ◌+◌, ◌<◌, List, [], ◌∷◌, length, map, slice_index_or, Option, None, arith}
use Rattle.pd_tree.specs.declared.kind.Visible.{Visible}
use Rattle.pd_tree.specs.declared.change.Change.{Change}
use Rattle.pd_tree.specs.declared.addition.Addition.{Addition}
use Rattle.pd_tree.specs.declared.place.Place.{Place}
use Rattle.pd_tree.specs.Program.{Program, Node, no_node, no_item, node_at, item_at}
use Rattle.pd_tree.specs.Kinds.{tags_of}
use Rattle.pd_tree.specs.Linked.{no_addition, procedure_names}
use Rattle.pd_tree.specs.Kept.{stretch, list_at, seen_by, node_in, nodes_in, items_in, no_place, kept_program, IsAdditionOf, IsPlaceOf, IsWithin}

pub length-nodes_in : (parts : List ℕ) (changes : List Change) (all additions : List Addition) (places : List Place) → length places ≡ length additions → length (nodes_in parts changes all additions places) ≡ length additions
length-nodes_in parts changes all [] [] e = refl
length-nodes_in parts changes all [] (p ∷ ps) e = absurd (omega arith)
length-nodes_in parts changes all (x ∷ xs) [] e = absurd (omega arith)
length-nodes_in parts changes all (x ∷ xs) (p ∷ ps) e = ap suc (length-nodes_in parts changes all xs ps (omega arith))

pub node-nodes_in : (parts : List ℕ) (changes : List Change) (all additions : List Addition) (places : List Place) (n : ℕ) → length places ≡ length additions → n < length additions → slice_index_or (nodes_in parts changes all additions places) n no_node ≡ node_in parts changes all (slice_index_or additions n no_addition) (slice_index_or places n no_place)
node-nodes_in parts changes all [] [] n e h = absurd (omega arith)
node-nodes_in parts changes all [] (p ∷ ps) n e h = absurd (omega arith)
node-nodes_in parts changes all (x ∷ xs) [] n e h = absurd (omega arith)
node-nodes_in parts changes all (x ∷ xs) (p ∷ ps) zero e h = refl
node-nodes_in parts changes all (x ∷ xs) (p ∷ ps) (suc n) e h = node-nodes_in parts changes all xs ps n (omega arith) (omega arith)

pub length-items_in : (names : List (List ℕ)) (roots : List (Option ℕ)) → length roots ≡ length names → length (items_in names roots) ≡ length names
length-items_in [] [] e = refl
length-items_in [] (r ∷ rs) e = absurd (omega arith)
length-items_in (x ∷ xs) [] e = absurd (omega arith)
length-items_in (x ∷ xs) (r ∷ rs) e = ap suc (length-items_in xs rs (omega arith))

pub names-items_in : (names : List (List ℕ)) (roots : List (Option ℕ)) → length roots ≡ length names → map (λ i. i.name) (items_in names roots) ≡ names
names-items_in [] [] e = refl
names-items_in [] (r ∷ rs) e = absurd (omega arith)
names-items_in (x ∷ xs) [] e = absurd (omega arith)
names-items_in (x ∷ xs) (r ∷ rs) e = ap (λ ys. x ∷ ys) (names-items_in xs rs (omega arith))

-- ---- one node

pub below-kept : (parts : List ℕ) (changes : List Change) (additions : List Addition) (places : List Place) (names : List (List ℕ)) (roots mains : List (Option ℕ)) (entries : List ℕ) (p : Program) (n m : ℕ) → kept_program parts changes additions places names roots mains entries ≡ p → m ≡ n → n < length p.nodes → length places ≡ length additions → m < length additions
below-kept parts changes additions places names roots mains entries p n m view e h sizes =
    let same : length (nodes_in parts changes additions additions places) ≡ length p.nodes = ap (λ q. length q.nodes) view in
    let len : length (nodes_in parts changes additions additions places) ≡ length additions = length-nodes_in parts changes additions additions places sizes in
    omega arith

pub node-kept : (parts : List ℕ) (changes : List Change) (additions : List Addition) (places : List Place) (names : List (List ℕ)) (roots mains : List (Option ℕ)) (entries : List ℕ) (p : Program) (n m : ℕ) → kept_program parts changes additions places names roots mains entries ≡ p → m ≡ n → m < length additions → length places ≡ length additions → node_in parts changes additions (slice_index_or additions m no_addition) (slice_index_or places m no_place) ≡ node_at p n
node-kept parts changes additions places names roots mains entries p n m view e h sizes =
    sym (node-nodes_in parts changes additions additions places m sizes h)
    ∙ ap (λ k. slice_index_or (nodes_in parts changes additions additions places) k no_node) e
    ∙ ap (λ q. node_at q n) view

pub addition-kept : (parts : List ℕ) (changes : List Change) (all : List Addition) (a b : Addition) (place : Place) (node : Node) → node_in parts changes all b place ≡ node → a ≡ b → IsAdditionOf node a
addition-kept parts changes all a b place node at same = record {
  kind = ap (λ x. x.kind) same ∙ ap (λ x. x.kind) at;
  source = ap (λ x. x.section.source) same ∙ ap (λ x. x.source) at;
  start = ap (λ x. x.section.start) same ∙ ap (λ x. x.start) at;
  len = ap (λ x. x.section.len) same ∙ ap (λ x. x.len) at;
  line = ap (λ x. x.line) same ∙ ap (λ x. x.line) at;
  column = ap (λ x. x.column) same ∙ ap (λ x. x.column) at;
}

pub place-kept : (parts : List ℕ) (changes : List Change) (all : List Addition) (a : Addition) (place other : Place) (node : Node) → node_in parts changes all a other ≡ node → place ≡ other → IsPlaceOf node place
place-kept parts changes all a place other node at same = record {
  tags = ap (λ k. tags_of k place.meaning place.stands) (sym (ap (λ x. x.kind) at)) ∙ ap (λ x. tags_of a.kind x.meaning x.stands) same ∙ ap (λ x. x.tags) at;
  meaning = ap (λ x. x.meaning) same ∙ ap (λ x. x.meaning) at;
  root = ap (λ x. x.root) same ∙ ap (λ x. x.root) at;
  level = ap (λ x. x.level) same ∙ ap (λ x. x.level) at;
  slots = ap (λ x. x.slots) same ∙ ap (λ x. x.slots) at;
}

pub children-kept : (parts : List ℕ) (changes : List Change) (place other : Place) → place ≡ other → IsWithin parts changes other → place.parts.from + place.parts.len ≤ length parts
children-kept parts changes place other same within = let P : Place → Type 0 = λ x. x.parts.from + x.parts.len ≤ length parts in subst P (sym same) within.parts_within

pub sees-kept : (parts : List ℕ) (changes : List Change) (place other : Place) → place ≡ other → IsWithin parts changes other → place.sees ≤ length changes
sees-kept parts changes place other same within = let P : Place → Type 0 = λ x. x.sees ≤ length changes in subst P (sym same) within.sees_within

pub seen-kept : (parts : List ℕ) (changes : List Change) (all : List Addition) (a : Addition) (place other : Place) (node : Node) (own : List ℕ) (seen : List Visible) → node_in parts changes all a other ≡ node → place ≡ other → own ≡ stretch place.parts parts → seen ≡ list_at all changes place.sees → seen_by a.kind (procedure_names all own) seen ≡ node.sees
seen-kept parts changes all a place other node own seen at same own_is seen_is =
    ap (λ l. seen_by a.kind (procedure_names all l) seen) own_is
    ∙ ap (seen_by a.kind (procedure_names all (stretch place.parts parts))) seen_is
    ∙ ap (λ (x : Place). seen_by a.kind (procedure_names all (stretch x.parts parts)) (list_at all changes x.sees)) same
    ∙ ap (λ (x : Node). x.sees) at

-- ---- items

pub root-items_in : (names : List (List ℕ)) (roots : List (Option ℕ)) (i : ℕ) → length roots ≡ length names → i < length names → (slice_index_or (items_in names roots) i no_item).root ≡ slice_index_or roots i None
root-items_in [] rs i e h = absurd (omega arith)
root-items_in (x ∷ xs) [] i e h = absurd (omega arith)
root-items_in (x ∷ xs) (r ∷ rs) zero e h = refl
root-items_in (x ∷ xs) (r ∷ rs) (suc i) e h = root-items_in xs rs i (omega arith) (omega arith)

pub root-kept : (parts : List ℕ) (changes : List Change) (additions : List Addition) (places : List Place) (names : List (List ℕ)) (roots mains : List (Option ℕ)) (entries : List ℕ) (p : Program) (i : ℕ) → kept_program parts changes additions places names roots mains entries ≡ p → length roots ≡ length names → i < length names → slice_index_or roots i None ≡ (item_at p i).root
root-kept parts changes additions places names roots mains entries p i view e h =
    sym (root-items_in names roots i e h) ∙ ap (λ q. (item_at q i).root) view

pub item-below-kept : (parts : List ℕ) (changes : List Change) (additions : List Addition) (places : List Place) (names : List (List ℕ)) (roots mains : List (Option ℕ)) (entries : List ℕ) (p : Program) (i : ℕ) → kept_program parts changes additions places names roots mains entries ≡ p → length roots ≡ length names → i < length p.items → i < length names
item-below-kept parts changes additions places names roots mains entries p i view e h =
    let same : length (items_in names roots) ≡ length p.items = ap (λ q. length q.items) view in
    let len : length (items_in names roots) ≡ length names = length-items_in names roots e in
    omega arith
