-- The texts of trees, one after another.
use Rattle.std.proofs.Common.{◌≡◌, ℕ, suc, ◌+◌, ◌<◌, List, [], ◌∷◌, ◌++◌, length, drop, refl, sym, ap, ◌∙◌, append_assoc, arith}
use Rattle.std.specs.Prelude.{slice_index_or}
use Rattle.std.proofs.lemmas.List.{append-nil, drop_more, length-drop}
use Rattle.pd_tree.specs.Program.{Program}
use Rattle.pd_suspend.specs.declared.context.ContextRecord.{ContextRecord}
use Rattle.pd_paths.specs.declared.PathCount.{PathCount}
use Rattle.pd_paths.specs.Text.{tree_text}
use Rattle.pd_calltree.specs.Text.{trees_text}

-- one more is written: what is written and what is left are the whole
pub text_more : (p : Program) (rs : List ContextRecord) (ts : List (List PathCount)) (k : ℕ) (r : ContextRecord) (t : List PathCount) (old now next : List ℕ) → k < length rs → k < length ts → r ≡ slice_index_or rs k r → t ≡ slice_index_or ts k t
    → now ++ trees_text p k (drop k rs) (drop k ts) ≡ old ++ trees_text p 0 rs ts → next ≡ now ++ tree_text p k r.events t → next ++ trees_text p (k + 1) (drop (k + 1) rs) (drop (k + 1) ts) ≡ old ++ trees_text p 0 rs ts
text_more p rs ts k r t old now next l m e f h n =
    let left : drop k rs ≡ r ∷ drop (k + 1) rs = drop_more rs k r l ∙ ap (λ x. x ∷ drop (k + 1) rs) (sym e) in
    let right : drop k ts ≡ t ∷ drop (k + 1) ts = drop_more ts k t m ∙ ap (λ x. x ∷ drop (k + 1) ts) (sym f) in
    let one : suc k ≡ k + 1 = omega arith in
    let rest : List ℕ = trees_text p (k + 1) (drop (k + 1) rs) (drop (k + 1) ts) in
    let split : trees_text p k (drop k rs) (drop k ts) ≡ tree_text p k r.events t ++ rest =
    ap (λ xs. trees_text p k xs (drop k ts)) left ∙ ap (trees_text p k (r ∷ drop (k + 1) rs)) right ∙ ap (λ j. tree_text p k r.events t ++ trees_text p j (drop (k + 1) rs) (drop (k + 1) ts)) one in
    ap (λ x. x ++ rest) n ∙ append_assoc now (tree_text p k r.events t) rest ∙ ap (λ x. now ++ x) (sym split) ∙ h

none_left : (p : Program) (c : ℕ) (rs : List ContextRecord) → trees_text p c rs [] ≡ []
none_left p c [] = refl
none_left p c (r ∷ rs) = refl

-- none is left
pub text_over : (p : Program) (rs : List ContextRecord) (ts : List (List PathCount)) (k : ℕ) (old now : List ℕ) → (k < length rs → k < length ts → ⊥) → now ++ trees_text p k (drop k rs) (drop k ts) ≡ old ++ trees_text p 0 rs ts → now ≡ old ++ trees_text p 0 rs ts
text_over p rs ts k old now over h = sym (append-nil now) ∙ ap (λ x. now ++ x) (sym nothing) ∙ h
  where
    over_cases : (xs : List ContextRecord) (ys : List (List PathCount)) → (0 < length xs → 0 < length ys → ⊥) → trees_text p k xs ys ≡ []
    over_cases [] ys f = refl
    over_cases (x ∷ xs) [] f = refl
    over_cases (x ∷ xs) (y ∷ ys) f = absurd (f (omega arith) (omega arith))

    nothing : trees_text p k (drop k rs) (drop k ts) ≡ []
    nothing = over_cases (drop k rs) (drop k ts) (λ a b. over (longer rs a) (longer ts b))
      where
        longer : {A : Type 0} (xs : List A) → 0 < length (drop k xs) → k < length xs
        longer xs a = let e = length-drop k xs in omega (arith, a, e)
