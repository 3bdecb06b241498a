-- One step of the walk: how deep procedures stand, and which list a node sees, after so many nodes.
use Rattle.std.proofs.Common.{◌≡◌, refl, sym, ◌∙◌, ap, subst, ℕ, ◌+◌, ◌<◌, ◌≤◌, Bool, true, false, List, [], ◌∷◌, length, get_or, arith, inl, inr, Option}
use Rattle.std.specs.Prelude.{if◌then◌else◌}
use Rattle.std.proofs.lemmas.Bool.{cases_eq}
use Rattle.pd_tree.specs.declared.kind.Kind.{Kind}
use Rattle.pd_tree.specs.declared.kind.Kind.TheVariants.{SlFunction, PlProcedure}
use Rattle.pd_tree.specs.declared.kind.Meaning.{Meaning}
use Rattle.pd_tree.specs.declared.kind.Visible.{Visible}
use Rattle.pd_tree.specs.declared.addition.Addition.{Addition}
use Rattle.pd_tree.specs.declared.change.Change.{Change}
use Rattle.pd_tree.specs.Kinds.{is_root}
use Rattle.pd_tree.specs.Linked.{Open, Walk, seen_inside, seen_behind, closed, part_came, next_root, next_level, next_stands, walked, kind_at, no_addition, seen_at, procedure_names, linked}
use Rattle.pd_tree.specs.declared.place.Span.{Span}
use Rattle.pd_tree.specs.declared.place.Place.{Place}
use Rattle.pd_tree.specs.Kept.{stretch, list_at, node_in, seen_by}
use Rattle.pd_link.specs.declared.shape.Shape.{Shape}
use Rattle.pd_link.specs.declared.walk.Opened.{Opened}
use Rattle.pd_link.specs.declared.walk.Walker.{Walker}
use Rattle.pd_link.specs.Linking.{Grew, IsIn, AllOpenedIn, open_in, opens_in}
use Rattle.pd_link.specs.Walks.{IsOpenAt, AllOpenAt, Sees, Walks, Steps, IsKeptTo, walk_of, number_at, slots_by, node_by, node_with}
use Rattle.pd_link.proofs.Variables.{grew_twice, list-grew, within-grew}
use Rattle.pd_link.proofs.Opens.{closed-end, closed-open, opens-grow}

-- ---- open nodes

open-more : (j k : ℕ) (o : Open) → j ≤ k → IsOpenAt j o → IsOpenAt k o
open-more j k o le h =
    let node = h.node in
    let level = h.level in
    record { node = omega arith; level = omega arith }

pub opens-more : (j k : ℕ) (os : List Open) → j ≤ k → AllOpenAt j os → AllOpenAt k os
opens-more j k [] le h = tt
opens-more j k (o ∷ os) le h = (open-more j k o le h.0, opens-more j k os le h.1)

opens-came : (k : ℕ) (os : List Open) → AllOpenAt k os → AllOpenAt k (part_came os)
opens-came k [] h = tt
opens-came k (o ∷ os) h = (record { node = h.0.node; level = h.0.level }, h.1)

level-if : (k l : ℕ) (b : Bool) → l ≤ k → (if b then l + 1 else l) ≤ k + 1
level-if k l true h = omega arith
level-if k l false h = omega arith

level-next : (k : ℕ) (kind : Kind) (os : List Open) → AllOpenAt k os → next_level kind os ≤ k + 1
level-next k kind [] h = omega arith
level-next k kind (o ∷ os) h = level-if k o.level (is_root kind) h.0.level

-- the node that is entered, and those around it
opens-entered : (n : ℕ) (a : Addition) (w : Walk) → AllOpenAt n w.open_nodes → AllOpenAt (n + 1) (record { node = n; left = a.children; first = true; root = next_root a.kind n w.open_nodes; level = next_level a.kind w.open_nodes; outside = w.seen } ∷ part_came w.open_nodes)
opens-entered n a w h = (
  record { node = omega arith; level = level-next n a.kind w.open_nodes h },
  opens-came (n + 1) w.open_nodes (opens-more n (n + 1) w.open_nodes (omega arith) h),
)

pub opens-entered-below : (n k : ℕ) (a : Addition) (w : Walk) → n < k → AllOpenAt n w.open_nodes → AllOpenAt k (record { node = n; left = a.children; first = true; root = next_root a.kind n w.open_nodes; level = next_level a.kind w.open_nodes; outside = w.seen } ∷ part_came w.open_nodes)
opens-entered-below n k a w lt h =
    opens-more (n + 1) k (record { node = n; left = a.children; first = true; root = next_root a.kind n w.open_nodes; level = next_level a.kind w.open_nodes; outside = w.seen } ∷ part_came w.open_nodes)
    (omega arith) (opens-entered n a w h)

closed-to : (k : ℕ) (all : List Addition) (os : List Open) (seen : List Visible) → AllOpenAt k os → AllOpenAt k (closed all os seen).open_nodes
closed-to k all [] seen h = tt
closed-to k all (x ∷ xs) seen h =
    let behind = seen_behind (kind_at all x.node) (get_or all x.node no_addition).meaning x.outside seen in
    let P : Walk → Type 0 = λ w. AllOpenAt k w.open_nodes in
    elim (cases_eq x.left 0) [
      | inl z ↦ subst P (sym (closed-end all x xs seen z)) (closed-to k all xs behind h.1)
      | inr s ↦ subst P (sym (closed-open all x xs seen (omega arith))) h
    ]

pub walked-to : (all : List Addition) (n : ℕ) (w : Walk) (a : Addition) → AllOpenAt n w.open_nodes → AllOpenAt (n + 1) (walked all n w a).open_nodes
walked-to all n w a h =
    closed-to (n + 1) all (record { node = n; left = a.children; first = true; root = next_root a.kind n w.open_nodes; level = next_level a.kind w.open_nodes; outside = w.seen } ∷ part_came w.open_nodes) (seen_inside a.kind a.constants w.seen) (opens-entered n a w h)

-- ---- what the code keeps of a step

seen_by-at : (kind : Kind) (constants inner : List (List ℕ)) (seen : List Visible) → seen_by kind inner (if is_root kind then seen_inside kind constants seen else seen) ≡ seen_at kind constants inner seen
seen_by-at (SlFunction name parameters) constants inner seen = refl
seen_by-at (PlProcedure name variables) constants inner seen = refl
seen_by-at _ constants inner seen = refl

list-if : (all : List Addition) (changes : List Change) (b : Bool) (inside outside : ℕ) → list_at all changes (if b then inside else outside) ≡ (if b then list_at all changes inside else list_at all changes outside)
list-if all changes true inside outside = refl
list-if all changes false inside outside = refl

within-if : (size : ℕ) (b : Bool) (inside outside : ℕ) → inside ≤ size → outside ≤ size → (if b then inside else outside) ≤ size
within-if size true inside outside h g = h
within-if size false inside outside h g = g

-- the open nodes behind the first byte of node n
pub opens-next : (all : List Addition) (n : ℕ) (a : Addition) (opened : List Opened) (seen : ℕ) (old new : List Change) (root level : ℕ) → Grew old new → AllOpenedIn old opened → seen ≤ length old → root ≡ next_root a.kind n (opens_in all old opened) → level ≡ next_level a.kind (opens_in all old opened) → open_in all new (record { node = n; left = a.children; first = true; root = root; level = level; outside = seen }) ∷ part_came (opens_in all new opened) ≡ record { node = n; left = a.children; first = true; root = next_root a.kind n (opens_in all old opened); level = next_level a.kind (opens_in all old opened); outside = list_at all old seen } ∷ part_came (opens_in all old opened)
opens-next all n a opened seen old new root level g within inside rooted levelled =
    let entered : ℕ → ℕ → List Visible → Open = λ r l o. record { node = n; left = a.children; first = true; root = r; level = l; outside = o } in
    let r = next_root a.kind n (opens_in all old opened) in
    let l = next_level a.kind (opens_in all old opened) in
    ap (λ k. entered k level (list_at all new seen) ∷ part_came (opens_in all new opened)) rooted
    ∙ ap (λ k. entered r k (list_at all new seen) ∷ part_came (opens_in all new opened)) levelled
    ∙ ap (λ o. entered r l o ∷ part_came (opens_in all new opened)) (list-grew all old new seen g inside)
    ∙ ap (λ os. entered r l (list_at all old seen) ∷ part_came os) (opens-grow all old new opened g within)

node-same : (a : Addition) (children : List ℕ) (m n : Meaning) (s t : Bool) (r q : ℕ) (l k : ℕ) (i j : ℕ) (u v : List Visible) → m ≡ n → s ≡ t → r ≡ q → l ≡ k → i ≡ j → u ≡ v → node_with a children m s r l i u ≡ node_with a children n t q k j v
node-same a children m n s t r q l k i j u v e f g h x y =
    ap (λ z. node_with a children z s r l i u) e
    ∙ ap (λ z. node_with a children n z r l i u) f
    ∙ ap (λ z. node_with a children n t z l i u) g
    ∙ ap (λ z. node_with a children n t q z i u) h
    ∙ ap (λ z. node_with a children n t q k z u) x
    ∙ ap (λ z. node_with a children n t q k j z) y

pub stepped : (all : List Addition) (n : ℕ) (found : Option ℕ) (parts : List ℕ) (shape : Shape) (a : Addition) (old new : Walker) (first : List Change) (inside : ℕ) (place : Place) → a ≡ get_or all n no_addition → IsKeptTo all n old → IsIn parts shape.parts → Sees all old.changes.items first inside (seen_inside a.kind a.constants (list_at all old.changes.items old.seen)) → place.parts ≡ shape.parts → place.sees ≡ number_at a.kind old.seen inside → place.meaning ≡ linked a.meaning found → place.stands ≡ next_stands all (walk_of all old).open_nodes → place.root ≡ next_root a.kind n (walk_of all old).open_nodes → place.level ≡ next_level a.kind (walk_of all old).open_nodes → place.slots ≡ slots_by a.kind shape.assigned → Walks all first new.changes.items (length first + (length old.opened.items + 1)) new.opened.items new.seen (closed all (open_in all first (record { node = n; left = a.children; first = true; root = place.root; level = place.level; outside = old.seen }) ∷ part_came (opens_in all first old.opened.items)) (list_at all first inside)) → Steps all n found parts shape old new place
stepped all n found parts shape a old new first inside place at kept has one own seen meaning stands root level slots two =
    let w : Walk = walk_of all old in
    let zero = old.changes.items in
    let last = new.changes.items in
    let grew : Grew zero last = grew_twice zero first last one.grew two.grew in
    let inner = procedure_names all (stretch shape.parts parts) in
    let within : inside ≤ length last = within-grew first last inside two.grew one.within in
    let outside : old.seen ≤ length last = within-grew zero last old.seen grew kept.seen_within in
    let next : walk_of all new ≡ walked all n w a =
    two.walked
    ∙ ap (λ os. closed all os (list_at all first inside)) (opens-next all n a old.opened.items old.seen zero first place.root place.level one.grew kept.opened_within kept.seen_within root level)
    ∙ ap (closed all (record { node = n; left = a.children; first = true; root = next_root a.kind n w.open_nodes; level = next_level a.kind w.open_nodes; outside = w.seen } ∷ part_came w.open_nodes)) one.seen in
    let behind : list_at all last inside ≡ seen_inside a.kind a.constants w.seen = list-grew all first last inside two.grew one.within ∙ one.seen in
    let before : list_at all last old.seen ≡ w.seen = list-grew all zero last old.seen grew kept.seen_within in
    let seen_there : seen_by a.kind inner (list_at all last place.sees) ≡ seen_at a.kind a.constants inner w.seen =
    ap (λ k. seen_by a.kind inner (list_at all last k)) seen
    ∙ ap (seen_by a.kind inner) (list-if all last (is_root a.kind) inside old.seen)
    ∙ ap (λ l. seen_by a.kind inner (if is_root a.kind then l else list_at all last old.seen)) behind
    ∙ ap (λ l. seen_by a.kind inner (if is_root a.kind then seen_inside a.kind a.constants w.seen else l)) before
    ∙ seen_by-at a.kind a.constants inner w.seen in
    let node : node_in parts last all a place ≡ node_by all n found w a (stretch shape.parts parts) shape.assigned =
    ap (λ s. node_with a (stretch s parts) place.meaning place.stands place.root place.level place.slots (seen_by a.kind (procedure_names all (stretch s parts)) (list_at all last place.sees))) own
    ∙ node-same a (stretch shape.parts parts) place.meaning (linked a.meaning found) place.stands (next_stands all w.open_nodes) place.root (next_root a.kind n w.open_nodes) place.level (next_level a.kind w.open_nodes) place.slots (slots_by a.kind shape.assigned) (seen_by a.kind inner (list_at all last place.sees)) (seen_at a.kind a.constants inner w.seen) meaning stands root level slots seen_there in
    record {
      grew = grew;
      kept = record {
        opened_within = two.opened_within;
        seen_within = two.seen_within;
        before = two.before (one.before kept.before);
        few = omega (arith, two.few, one.one, kept.few);
        open_nodes = (let P : Walk → Type 0 = λ x. AllOpenAt (n + 1) x.open_nodes in subst P (sym next) (walked-to all n w a kept.open_nodes));
      };
      next = next ∙ ap (walked all n w) at;
      node = (let P : Addition → Type 0 = λ x. node_in parts last all x place ≡ node_by all n found w x (stretch shape.parts parts) shape.assigned in subst P at node);
      within = record {
        parts_within = (let P : Span → Type 0 = IsIn parts in subst P (sym own) has);
        sees_within = (let P : ℕ → Type 0 = λ k. k ≤ length last in subst P (sym seen) (within-if (length last) (is_root a.kind) inside old.seen within outside));
      };
    }
