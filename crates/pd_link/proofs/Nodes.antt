-- The nodes that are placed one after another.
use Rattle.std.proofs.Common.{◌≡◌, refl, sym, ◌∙◌, ap, subst, ℕ, zero, suc, ◌+◌, ◌^◌, ◌<◌, List, [], ◌∷◌, ◌++◌, length, map, take, drop, reverse, get_or, Option, None, arith}
use Rattle.std.proofs.lemmas.List.{append_assoc, reverse-append, map-append, drop_more, take_more, length-reverse, length-map, length_push, length-take-le}
use Rattle.pd_tree.specs.declared.kind.Kind.{Kind}
use Rattle.pd_tree.specs.declared.kind.Kind.TheVariants.{SlFunction, PlProcedure}
use Rattle.pd_tree.specs.declared.kind.Visible.{Visible}
use Rattle.pd_tree.specs.declared.change.Change.{Change}
use Rattle.pd_tree.specs.declared.addition.Addition.{Addition}
use Rattle.pd_tree.specs.declared.place.Place.{Place}
use Rattle.pd_tree.specs.Program.{Node}
use Rattle.pd_tree.specs.Linked.{Walk, procedure_names, parts_of, assigned_slots, slots_of, names_in, node_of, nodes_from, walked, no_addition, kind_at, AllComplete}
use Rattle.pd_tree.specs.Kept.{stretch, seen_by, node_in, nodes_in, no_place, IsWithin}
use Rattle.pd_link.specs.declared.shape.Shape.{Shape}
use Rattle.pd_link.specs.declared.walk.Walker.{Walker}
use Rattle.pd_link.specs.Linking.{Grew, IsIn, Late, late_from, late_in, ShapesFrom, AllShapesIn}
use Rattle.pd_link.specs.Walks.{Steps, IsPlacedTo, AllPlacesIn, walk_of, slots_by, node_by}
use Rattle.pd_link.proofs.Variables.{list-grew, within-grew}

-- ---- places, when changes are added

node_in-grow : (parts : List ℕ) (old new : List Change) (all : List Addition) (a : Addition) (p : Place) → Grew old new → IsWithin parts old p → node_in parts new all a p ≡ node_in parts old all a p
node_in-grow parts old new all a p g h =
    let with_sees : List Visible → Node = λ l. record (node_in parts old all a p) { sees = seen_by a.kind (procedure_names all (stretch p.parts parts)) l } in
    ap with_sees (list-grew all old new p.sees g h.sees_within)

nodes_in-grow : (parts : List ℕ) (old new : List Change) (all xs : List Addition) (places : List Place) → Grew old new → AllPlacesIn parts old places → nodes_in parts new all xs places ≡ nodes_in parts old all xs places
nodes_in-grow parts old new all [] places g h = refl
nodes_in-grow parts old new all (x ∷ xs) [] g h = refl
nodes_in-grow parts old new all (x ∷ xs) (p ∷ ps) g h =
    ap (λ y. y ∷ nodes_in parts new all xs ps) (node_in-grow parts old new all x p g h.0) ∙ ap (λ ys. node_in parts old all x p ∷ ys) (nodes_in-grow parts old new all xs ps g h.1)

nodes_in-push : (parts : List ℕ) (changes : List Change) (all xs : List Addition) (places : List Place) (a : Addition) (p : Place) → length xs ≡ length places → nodes_in parts changes all (xs ++ a ∷ []) (places ++ p ∷ []) ≡ nodes_in parts changes all xs places ++ node_in parts changes all a p ∷ []
nodes_in-push parts changes all [] [] a p e = refl
nodes_in-push parts changes all [] (q ∷ qs) a p e = absurd (omega arith)
nodes_in-push parts changes all (x ∷ xs) [] a p e = absurd (omega arith)
nodes_in-push parts changes all (x ∷ xs) (q ∷ qs) a p e = ap (λ ys. node_in parts changes all x q ∷ ys) (nodes_in-push parts changes all xs qs a p (omega arith))

places_in-grow : (parts : List ℕ) (old new : List Change) (places : List Place) → Grew old new → AllPlacesIn parts old places → AllPlacesIn parts new places
places_in-grow parts old new [] g h = tt
places_in-grow parts old new (p ∷ ps) g h =
    (record { parts_within = h.0.parts_within; sees_within = within-grew old new p.sees g h.0.sees_within }, places_in-grow parts old new ps g h.1)

places_in-push : (parts : List ℕ) (changes : List Change) (places : List Place) (p : Place) → AllPlacesIn parts changes places → IsWithin parts changes p → AllPlacesIn parts changes (places ++ p ∷ [])
places_in-push parts changes [] p h e = (e, tt)
places_in-push parts changes (q ∷ qs) p h e = (h.0, places_in-push parts changes qs p h.1 e)

pub place-in : (parts : List ℕ) (changes : List Change) (places : List Place) (n : ℕ) → AllPlacesIn parts changes places → n < length places → IsWithin parts changes (get_or places n no_place)
place-in parts changes [] n h lt = absurd (omega arith)
place-in parts changes (p ∷ ps) zero h lt = h.0
place-in parts changes (p ∷ ps) (suc n) h lt = place-in parts changes ps n h.1 (omega arith)

-- ---- shapes that are taken from the end

shapes_in-front : (parts : List ℕ) (rest : List Shape) (x : Shape) → AllShapesIn parts (rest ++ x ∷ []) → AllShapesIn parts rest × IsIn parts x.parts
shapes_in-front parts [] x h = (tt, h.0)
shapes_in-front parts (y ∷ ys) x h = let more = shapes_in-front parts ys x h.1 in ((h.0, more.0), more.1)

pub shape-in : (parts : List ℕ) (shapes rest : List Shape) (x : Shape) → shapes ≡ rest ++ x ∷ [] → AllShapesIn parts shapes → IsIn parts x.parts
shape-in parts shapes rest x e h = (shapes_in-front parts rest x (subst (AllShapesIn parts) e h)).1

length-late_from : (n : ℕ) (rest : List Addition) → length (late_from n rest) ≡ length rest
length-late_from n [] = refl
length-late_from n (a ∷ rest) = ap suc (length-late_from (n + 1) rest)

pub length-shapes : (n : ℕ) (rest : List Addition) (parts : List ℕ) (shapes : List Shape) → ShapesFrom n rest parts shapes → length shapes ≡ length rest
length-shapes n rest parts shapes h =
    sym (length-map shapes (late_in parts)) ∙ sym (length-reverse (map (late_in parts) shapes)) ∙ ap length h.late ∙ length-late_from n rest

pub record TakesShape (n : ℕ) (a : Addition) (rest : List Addition) (parts : List ℕ) (left : List Shape) (x : Shape) : Type 0 where
  pub parts_are : stretch x.parts parts ≡ parts_of n a rest
  pub assigned : x.assigned ≡ assigned_slots rest
  pub within : IsIn parts x.parts
  pub left_are : ShapesFrom (n + 1) rest parts left

pub shape-taken : (n : ℕ) (a : Addition) (rest : List Addition) (parts : List ℕ) (shapes left : List Shape) (x : Shape) → shapes ≡ left ++ x ∷ [] → ShapesFrom n (a ∷ rest) parts shapes → TakesShape n a rest parts left x
shape-taken n a rest parts shapes left x e h =
    let f : Shape → Late = late_in parts in
    let within = shapes_in-front parts left x (subst (AllShapesIn parts) e h.within) in
    let first : Late = record { parts = parts_of n a rest; assigned = assigned_slots rest } in
    let both : f x ∷ reverse (map f left) ≡ first ∷ late_from (n + 1) rest =
    sym (ap (λ l. reverse (map f l)) e ∙ ap reverse (map-append f left (x ∷ [])) ∙ reverse-append (map f left) (f x ∷ [])) ∙ h.late in
    let one : f x ≡ first = cc both in
    let others : reverse (map f left) ≡ late_from (n + 1) rest = cc both in
    record {
      parts_are = ap (λ (l : Late). l.parts) one;
      assigned = ap (λ (l : Late). l.assigned) one;
      within = within.1;
      left_are = record { late = others; within = within.0 };
    }

-- ---- one node more

slots_by-of : (kind : Kind) (rest : List Addition) → slots_by kind (assigned_slots rest) ≡ slots_of kind rest
slots_by-of (SlFunction name parameters) rest = refl
slots_by-of (PlProcedure name variables) rest = refl
slots_by-of _ rest = refl

node_by-of : (all : List Addition) (found : List (Option ℕ)) (n : ℕ) (w : Walk) (a : Addition) (rest : List Addition) (item : Option ℕ) (parts : List ℕ) (assigned : ℕ) → item ≡ get_or found n None → parts ≡ parts_of n a rest → assigned ≡ assigned_slots rest → node_by all n item w a parts assigned ≡ node_of all found n w a rest
node_by-of all found n w a rest item parts assigned e f g =
    ap (λ i. node_by all n i w a parts assigned) e
    ∙ ap (λ ps. node_by all n (get_or found n None) w a ps assigned) f
    ∙ ap (λ k. node_by all n (get_or found n None) w a (parts_of n a rest) k) g
    ∙ ap (λ k. let x : Node = record (node_of all found n w a rest) { slots = k } in x) (slots_by-of a.kind rest)

pub placed-next : (all : List Addition) (found : List (Option ℕ)) (n : ℕ) (item : Option ℕ) (parts : List ℕ) (shapes left : List Shape) (shape : Shape) (old new : Walker) (places : List Place) (place : Place) → n < length all → item ≡ get_or found n None → IsPlacedTo n all found parts shapes old places → shapes ≡ left ++ shape ∷ [] → Steps all n item parts shape old new place → IsPlacedTo (n + 1) all found parts left new (places ++ place ∷ [])
placed-next all found n item parts shapes left shape old new places place lt same h e s =
    let a = get_or all n no_addition in
    let rest = drop (n + 1) all in
    let front : drop n all ≡ a ∷ rest = drop_more all n no_addition lt in
    let P : List Addition → Type 0 = λ l. ShapesFrom n l parts shapes in
    let taken = shape-taken n a rest parts shapes left shape e (subst P front h.shapes_are) in
    let before = nodes_in parts old.changes.items all (take n all) places in
    let node = s.node ∙ node_by-of all found n (walk_of all old) a rest item (stretch shape.parts parts) shape.assigned same taken.parts_are taken.assigned in
    let sizes : length (take n all) ≡ length places = length-take-le n all h.within ∙ sym h.count in
    let pushed =
    ap (λ l. nodes_in parts new.changes.items all l (places ++ place ∷ [])) (take_more all n no_addition lt)
    ∙ nodes_in-push parts new.changes.items all (take n all) places a place sizes
    ∙ ap (λ l. l ++ node_in parts new.changes.items all a place ∷ []) (nodes_in-grow parts old.changes.items new.changes.items all (take n all) places s.grew h.places_in)
    ∙ ap (λ x. before ++ x ∷ []) node in
    record {
      within = omega arith;
      count = length_push places place ∙ ap (λ k. k + 1) h.count;
      shapes_are = taken.left_are;
      kept = s.kept;
      places_in = places_in-push parts new.changes.items places place (places_in-grow parts old.changes.items new.changes.items places s.grew h.places_in) s.within;
      nodes =
          ap (λ l. l ++ nodes_from all found (n + 1) (walk_of all new) rest) pushed
          ∙ ap (λ w. before ++ node_of all found n (walk_of all old) a rest ∷ [] ++ nodes_from all found (n + 1) w rest) s.next
          ∙ append_assoc before (node_of all found n (walk_of all old) a rest ∷ []) (nodes_from all found (n + 1) (walked all n (walk_of all old) a) rest)
          ∙ sym (ap (λ l. before ++ nodes_from all found n (walk_of all old) l) front)
          ∙ h.nodes;
    }

pub names-counted : (all : List Addition) → AllComplete all → (n : ℕ) → length (names_in (kind_at all n)) < 2 ^ 32
names-counted [] h zero = omega arith
names-counted [] h (suc n) = omega arith
names-counted (a ∷ rest) h zero = h.2
names-counted (a ∷ rest) h (suc n) = names-counted rest h.4 n
