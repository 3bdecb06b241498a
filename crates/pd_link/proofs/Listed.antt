-- Items and main blocks that are listed one after another.
use Rattle.std.proofs.Common.{◌≡◌, refl, ◌∙◌, ap, ℕ, ◌+◌, true, false, List, [], ◌∷◌, ◌++◌, length, Option, Some, arith, sym, length-append}
use Rattle.pd_tree.specs.declared.addition.Addition.{Addition}
use Rattle.pd_tree.specs.Program.{Item}
use Rattle.pd_tree.specs.Kinds.{is_root, root_name_of}
use Rattle.pd_tree.specs.Linked.{items_from}
use Rattle.pd_tree.specs.Kept.{items_in}

pub items-push : (names : List (List ℕ)) (roots : List (Option ℕ)) (name : List ℕ) (root : Option ℕ) (more : List Item) → length roots ≡ length names → items_in (names ++ name ∷ []) (roots ++ root ∷ []) ++ more ≡ items_in names roots ++ record { name = name; root = root } ∷ more
items-push [] [] name root more e = refl
items-push [] (r ∷ rs) name root more e = absurd (omega arith)
items-push (x ∷ xs) [] name root more e = absurd (omega arith)
items-push (x ∷ xs) (r ∷ rs) name root more e = ap (λ ys. record { name = x; root = r } ∷ ys) (items-push xs rs name root more (omega arith))

pub beside-push : {A B : Type 0} (xs : List A) (ys : List B) (x : A) (y : B) → length ys ≡ length xs → length (ys ++ y ∷ []) ≡ length (xs ++ x ∷ [])
beside-push xs ys x y e = length-append ys (y ∷ []) ∙ ap (λ k. k + 1) e ∙ sym (length-append xs (x ∷ []))

pub items-root : (n : ℕ) (a : Addition) (rest : List Addition) → is_root a.kind ≡ true → items_from n (a ∷ rest) ≡ record { name = root_name_of a.kind; root = Some n } ∷ items_from (n + 1) rest
items-root n a rest e = rw e refl

pub items-other : (n : ℕ) (a : Addition) (rest : List Addition) → is_root a.kind ≡ false → items_from n (a ∷ rest) ≡ items_from (n + 1) rest
items-other n a rest e = rw e refl
