-- The parts of nodes, from the last node to the first.
use Rattle.std.proofs.Common.{◌≡◌, refl, sym, ◌∙◌, ap, ℕ, zero, suc, ◌+◌, ◌-◌, ◌≤◌, List, [], ◌∷◌, ◌++◌, length, take, drop, map, reverse, arith, length-take, length-drop, length-append}
use Rattle.std.proofs.lemmas.List.{reverse-append, map-append}
use Rattle.pd_tree.specs.declared.addition.Addition.{Addition}
use Rattle.pd_link.specs.declared.shape.Shape.{Shape}
use Rattle.pd_tree.specs.Linked.{tops, assigned_slots, AllComplete}
use Rattle.pd_tree.specs.Kept.{stretch}
use Rattle.pd_link.specs.Linking.{Late, late_from, late_in, ShapesFrom, AllShapesIn}
use Rattle.pd_link.proofs.Lists.{stretch-grow, drop-end, take-twice}

pub length-tops : (m n : ℕ) (rest : List Addition) → length (tops m rest) ≡ length (tops n rest)
length-tops m n [] = refl
length-tops m n (a ∷ rest) =
    ap suc (length-drop a.children (tops (m + 1) rest) ∙ ap (λ k. k - a.children) (length-tops (m + 1) (n + 1) rest) ∙ sym (length-drop a.children (tops (n + 1) rest)))

pub complete-drop : (k : ℕ) (all : List Addition) → AllComplete all → AllComplete (drop k all)
complete-drop zero all h = h
complete-drop (suc k) [] h = tt
complete-drop (suc k) (a ∷ rest) h = complete-drop k rest h.4

late_in-grow : (parts more : List ℕ) (x : Shape) → x.parts.from + x.parts.len ≤ length parts → late_in (parts ++ more) x ≡ late_in parts x
late_in-grow parts more x h =
    ap (λ xs. let l : Late = record { parts = xs; assigned = x.assigned } in l) (stretch-grow x.parts.from x.parts.len parts more h)

-- the shapes so far stay as they are when parts are added
late-grow : (parts more : List ℕ) (shapes : List Shape) → AllShapesIn parts shapes → map (late_in (parts ++ more)) shapes ≡ map (late_in parts) shapes
late-grow parts more [] h = refl
late-grow parts more (x ∷ xs) h =
    ap (λ y. y ∷ map (late_in (parts ++ more)) xs) (late_in-grow parts more x h.0) ∙ ap (λ ys. late_in parts x ∷ ys) (late-grow parts more xs h.1)

within-grow : (parts more : List ℕ) (shapes : List Shape) → AllShapesIn parts shapes → AllShapesIn (parts ++ more) shapes
within-grow parts more [] h = tt
within-grow parts more (x ∷ xs) h = let inside = h.0 in (omega (arith, length-append parts more), within-grow parts more xs h.1)

within-push : (parts : List ℕ) (shapes : List Shape) (x : Shape) → AllShapesIn parts shapes → x.parts.from + x.parts.len ≤ length parts → AllShapesIn parts (shapes ++ x ∷ [])
within-push parts [] x h e = (e, tt)
within-push parts (y ∷ ys) x h e = (h.0, within-push parts ys x h.1 e)

-- one more node before the others
pub shapes-step : (n m : ℕ) (a : Addition) (rest : List Addition) (parts : List ℕ) (shapes : List Shape) (x : Shape) → n ≡ m + 1 → ShapesFrom n rest parts shapes → x.parts.from ≡ length parts → x.parts.len ≡ a.children → x.assigned ≡ assigned_slots rest → a.children ≤ length (tops n rest) → ShapesFrom m (a ∷ rest) (parts ++ take a.children (tops n rest)) (shapes ++ x ∷ [])
shapes-step n m a rest parts shapes x e h from len assigned enough =
    let more = take a.children (tops n rest) in
    let f : Shape → Late = late_in (parts ++ more) in
    let own : stretch x.parts (parts ++ more) ≡ take a.children (tops (m + 1) rest) =
    ap (λ k. take k (drop x.parts.from (parts ++ more))) len
    ∙ ap (λ k. take a.children (drop k (parts ++ more))) from
    ∙ ap (take a.children) (drop-end parts more)
    ∙ take-twice a.children (tops n rest)
    ∙ ap (λ k. take a.children (tops k rest)) e in
    let first : f x ≡ record { parts = take a.children (tops (m + 1) rest); assigned = assigned_slots rest } =
    ap (λ xs. let l : Late = record { parts = xs; assigned = x.assigned } in l) own
    ∙ ap (λ k. let l : Late = record { parts = take a.children (tops (m + 1) rest); assigned = k } in l) assigned in
    record {
      late =
          ap reverse (map-append f shapes (x ∷ []))
          ∙ reverse-append (map f shapes) (f x ∷ [])
          ∙ ap (λ ls. f x ∷ reverse ls) (late-grow parts more shapes h.within)
          ∙ ap (λ ls. f x ∷ ls) h.late
          ∙ ap (λ k. f x ∷ late_from k rest) e
          ∙ ap (λ l. l ∷ late_from (m + 1) rest) first;
      within = within-push (parts ++ more) shapes x (within-grow parts more shapes h.within)
          (omega (arith, length-append parts more, length-take {A = ℕ}));
    }
