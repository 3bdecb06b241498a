-- Sources that are UTF-8 behind one another, and the first one that isn't.
use Rattle.std.proofs.Common.{◌≡◌, ◌+◌, ◌<◌, ℕ, List, [], ◌∷◌, length, take, get_or, map, refl, ap, subst, arith, inl, inr}
use Rattle.std.specs.List.{AllByRecursion}
use Rattle.pd_sections.specs.Written.{Written}
use Rattle.pd_load.specs.declared.refusal.LoadRefusal.{LoadRefusal}
use Rattle.pd_load.specs.Tables.{IsText}
use Rattle.pd_top.specs.Causes.{IsNotText, IsFirstNotText}

pub map_same : (ws : List Written) → map (λ (w : Written). w) ws ≡ ws
map_same [] = refl
map_same (w ∷ ws) = ap (λ vs. w ∷ vs) (map_same ws)

-- the first source that isn't UTF-8, by its place
pub not_text_at : (number : ℕ) (all ws : List Written) (w : Written) (refusal : LoadRefusal) → ws ≡ take (length ws) all → length ws < length all
    → w ≡ get_or all (length ws) w → AllByRecursion IsText ws → IsNotText (number + length ws) w refusal → IsFirstNotText number all refusal
not_text_at number [] ws w refusal front within there texts not = absurd (omega (arith, within))
not_text_at number (x ∷ all) [] w refusal front within there texts not =
    let same : number + length {A = Written} [] ≡ number = omega arith in
    inl (subst (λ (v : Written). IsNotText number v refusal) there (subst (λ n. IsNotText n w refusal) same not))
not_text_at number (x ∷ all) (v ∷ ws) w refusal front within there texts not =
    let first : v ≡ x = cc in
    let rest : ws ≡ take (length ws) all = cc in
    let same : number + length (v ∷ ws) ≡ number + 1 + length ws = omega arith in
    inr (subst IsText first texts.0, not_text_at (number + 1) all ws w refusal rest (omega (arith, within)) there texts.1 (subst (λ n. IsNotText n w refusal) same not))
