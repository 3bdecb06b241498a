-- A list filled up by one more, and a parameter that takes its argument.
use Rattle.std.proofs.Common.{◌≡◌, ℕ, suc, ◌+◌, ◌-◌, ◌<◌, List, [], ◌∷◌, ◌++◌, length, drop, Option, None, Some, get_or, refl, sym, ap, ◌∙◌, arith}
use Rattle.std.specs.Prelude.{Bool, cond, nat_lt, not, replicate, map, position, bytes_eq, slice_set}
use Rattle.std.specs.List.{prefix_len}
use Rattle.std.proofs.lemmas.List.{append_assoc, length-map, drop-drop, drop_more, length_push}
use Rattle.pd_values.specs.declared.value.Value.{Value}
use Rattle.pd_meaning.specs.Meaning.{filled, first_or_null, parameter_values}

pub filled_more : (size : ℕ) (a : Value) (xs : List Value) → length xs < size → filled size a (xs ++ a ∷ []) ≡ filled size a xs
filled_more size a xs h =
    let e : size - length xs ≡ suc (size - length (xs ++ a ∷ [])) = omega (arith, length_push xs a) in
    append_assoc xs (a ∷ []) (replicate (size - length (xs ++ a ∷ [])) a) ∙ sym (ap (λ k. xs ++ replicate k a) e)

front_among : {X : Type 0} (f : List ℕ → Bool) (g : X → List ℕ) (xs : List X) → prefix_len (λ x. not (f x)) (map g xs) ≡ prefix_len (λ x. not (f (g x))) xs
front_among f g [] = refl
front_among f g (x ∷ xs) = ap (λ r. cond (not (f (g x))) (1 + r) 0) (front_among f g xs)

-- a place among the names of items
pub place_among : {X : Type 0} (f : List ℕ → Bool) (g : X → List ℕ) (xs : List X) → position f (map g xs) ≡ position (λ x. f (g x)) xs
place_among f g xs =
    ap (λ k. cond (nat_lt k (length (map g xs))) (Some k) None) (front_among f g xs)
    ∙ ap (λ l. cond (nat_lt (prefix_len (λ x. not (f (g x))) xs) l) (Some (prefix_len (λ x. not (f (g x))) xs)) None) (length-map xs g)

module _ (ps : List (List ℕ)) (args : List Value) (names : List (List ℕ)) (values : List Value) (i : ℕ) (x : List ℕ) (within : i < length ps) (name : x ≡ get_or ps i x) where
  abbrev chosen : Option ℕ → List Value
  chosen o = elim o [
    | Some k ↦ parameter_values names (slice_set values k (first_or_null (drop i args))) (drop (i + 1) ps) (drop 1 (drop i args))
    | None ↦ parameter_values (names ++ x ∷ []) (values ++ first_or_null (drop i args) ∷ []) (drop (i + 1) ps) (drop 1 (drop i args))
  ]

  by_place : (o : Option ℕ) → o ≡ position (bytes_eq x) names → parameter_values names values (drop i ps) (drop i args) ≡ chosen o
  by_place o h =
      ap (λ q. parameter_values names values q (drop i args)) (drop_more ps i x within ∙ ap (λ y. y ∷ drop (i + 1) ps) (sym name)) ∙ ap chosen (sym h)

  -- a name that stood before takes the later argument
  pub named_again : (k : ℕ) (a : Value) → Some k ≡ position (bytes_eq x) names → a ≡ first_or_null (drop i args) → parameter_values names (slice_set values k a) (drop (i + 1) ps) (drop (i + 1) args) ≡ parameter_values names values (drop i ps) (drop i args)
  named_again k a h e =
      sym (by_place (Some k) h
      ∙ ap (λ r. parameter_values names (slice_set values k (first_or_null (drop i args))) (drop (i + 1) ps) r) (drop-drop 1 i args)
      ∙ ap (λ b. parameter_values names (slice_set values k b) (drop (i + 1) ps) (drop (i + 1) args)) (sym e))

  -- a new name is one more variable
  pub named_first : (a : Value) → None ≡ position (bytes_eq x) names → a ≡ first_or_null (drop i args) → parameter_values (names ++ x ∷ []) (values ++ a ∷ []) (drop (i + 1) ps) (drop (i + 1) args) ≡ parameter_values names values (drop i ps) (drop i args)
  named_first a h e =
      sym (by_place None h
      ∙ ap (λ r. parameter_values (names ++ x ∷ []) (values ++ first_or_null (drop i args) ∷ []) (drop (i + 1) ps) r) (drop-drop 1 i args)
      ∙ ap (λ b. parameter_values (names ++ x ∷ []) (values ++ b ∷ []) (drop (i + 1) ps) (drop (i + 1) args)) (sym e))
