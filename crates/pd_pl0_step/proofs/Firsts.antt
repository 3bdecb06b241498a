-- The first value of a list by its place.
use Rattle.std.proofs.Common.{◌≡◌, List, [], ◌∷◌, unwrap_or, refl}
use Rattle.std.specs.Prelude.{slice_get}
use Rattle.pd_values.specs.declared.value.Value.{Value}
use Rattle.pd_values.specs.declared.value.Value.TheVariants.{Null}
use Rattle.pd_meaning.specs.Meaning.{first_or_null}

pub first_is : (xs : List Value) → first_or_null xs ≡ unwrap_or (slice_get xs 0) Null
first_is [] = refl
first_is (x ∷ xs) = refl
