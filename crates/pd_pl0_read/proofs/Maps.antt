-- The names of a block as the map holds them, and what a name finds among them.
use Rattle.std.proofs.Common.{◌≡◌, ℕ, Bool, true, false, List, [], ◌∷◌, Option, Some, None, refl, sym, ap, ◌∙◌}
use Rattle.std.specs.Prelude.{Vec, bytes_eq, cond}
use Rattle.std.specs.declared.cmp.Ordering.{Ordering}
use Rattle.std.specs.declared.cmp.Ordering.TheVariants.{Less, Equal, Greater}
use Rattle.std.specs.Ordering.{nat_cmp, is_eq, match_ordering}
use Rattle.std.specs.Cmp.Lexicographic.{slice_cmp, bytes_decides, nat_list_eq_equiv}
use Rattle.std.specs.Map.{lookup}
use Rattle.std.specs.BTreeMap.{insert_entry, is_at}
use Rattle.std.proofs.lemmas.Map.Text.{is_eq-slice_cmp}
use Rattle.pd_pl0_read.specs.declared.names.Declared.{Declared}
use Rattle.pd_pl0_read.specs.Entries.{Entries, named, inserted, entry_at}

pub lookup_named : {A : Type 0} (x : List ℕ) (es : List (Vec ℕ A × Declared)) → lookup (is_at (λ k. slice_cmp nat_cmp x k.items)) es ≡ entry_at x (named es)
lookup_named x [] = refl
lookup_named x (e ∷ es) = ap (cond (is_eq (slice_cmp nat_cmp x e.0.items)) (Some e.1)) (lookup_named x es)

pub named_inserted : {A : Type 0} (k : Vec ℕ A) (d : Declared) (es : List (Vec ℕ A × Declared)) → named (insert_entry (λ x y. slice_cmp nat_cmp x.items y.items) es k d) ≡ inserted k.items d (named es)
named_inserted k d [] = refl
named_inserted k d (e ∷ es) = go (named_inserted k d es) (slice_cmp nat_cmp k.items e.0.items)
  where
    go : named (insert_entry (λ x y. slice_cmp nat_cmp x.items y.items) es k d) ≡ inserted k.items d (named es) → (o : Ordering) → named (match_ordering o ((k, d) ∷ e ∷ es) ((e.0, d) ∷ es) (e ∷ insert_entry (λ x y. slice_cmp nat_cmp x.items y.items) es k d))
        ≡ match_ordering o ((k.items, d) ∷ named (e ∷ es)) ((e.0.items, d) ∷ named es) ((e.0.items, e.1) ∷ inserted k.items d (named es))
    go ih Less = refl
    go ih Equal = refl
    go ih Greater = ap (λ l. (e.0.items, e.1) ∷ l) ih

-- a name that is declared, and any other name
abbrev with : Bool → Declared → Option Declared → Option Declared
with b d r = cond b (Some d) r

same_twice : (b : Bool) (d e : Declared) (r : Option Declared) → with b d r ≡ with b d (with b e r)
same_twice true d e r = refl
same_twice false d e r = refl

apart : (a b : Bool) (d e : Declared) (r : Option Declared) → (a ≡ true → b ≡ true → ⊥) → with a e (with b d r) ≡ with b d (with a e r)
apart true true d e r h = absurd (h refl refl)
apart true false d e r h = refl
apart false true d e r h = refl
apart false false d e r h = refl

pub found_inserted : (x y : List ℕ) (d : Declared) (es : Entries) → entry_at x (inserted y d es) ≡ cond (bytes_eq x y) (Some d) (entry_at x es)
found_inserted x y d [] = ap (λ b. with b d None) (is_eq-slice_cmp x y)
found_inserted x y d (e ∷ es) = go (found_inserted x y d es) (slice_cmp nat_cmp y e.0) refl
  where
    at : Bool
    at = is_eq (slice_cmp nat_cmp x e.0)

    absurd_same : bytes_eq y y ≡ false → ⊥
    absurd_same h = let equal : bytes_eq y y ≡ true = nat_list_eq_equiv.refl y in absurd (cc)

    go : entry_at x (inserted y d es) ≡ with (bytes_eq x y) d (entry_at x es) → (o : Ordering) → slice_cmp nat_cmp y e.0 ≡ o → entry_at x (match_ordering o ((y, d) ∷ e ∷ es) ((e.0, d) ∷ es) (e ∷ inserted y d es)) ≡ with (bytes_eq x y) d (with at e.1 (entry_at x es))
    go ih Less h = ap (λ b. with b d (with at e.1 (entry_at x es))) (is_eq-slice_cmp x y)
    go ih Equal h =
        let equal : y ≡ e.0 = (bytes_decides y e.0).0 (sym (is_eq-slice_cmp y e.0) ∙ ap is_eq h) in
        let here : at ≡ bytes_eq x y = is_eq-slice_cmp x e.0 ∙ ap (bytes_eq x) (sym equal) in
        ap (λ b. with b d (entry_at x es)) here ∙ same_twice (bytes_eq x y) d e.1 (entry_at x es) ∙ ap (λ b. with (bytes_eq x y) d (with b e.1 (entry_at x es))) (sym here)
    go ih Greater h =
        let never : at ≡ true → bytes_eq x y ≡ true → ⊥ = λ a b.
        let first : x ≡ e.0 = (bytes_decides x e.0).0 (sym (is_eq-slice_cmp x e.0) ∙ a) in
        let second : x ≡ y = (bytes_decides x y).0 b in
        let same : is_eq (slice_cmp nat_cmp y y) ≡ false = ap (λ l. is_eq (slice_cmp nat_cmp y l)) (sym second ∙ first) ∙ ap is_eq h in
        absurd_same (sym (is_eq-slice_cmp y y) ∙ same) in
        ap (with at e.1) ih ∙ apart at (bytes_eq x y) d e.1 (entry_at x es) never
