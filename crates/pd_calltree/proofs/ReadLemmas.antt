-- An element that is read, or what stands for none.
use Rattle.std.proofs.Common.{◌≡◌, ◌∙◌, ℕ, List, slice_index_or, sym, ap, Some, None}
use Rattle.std.specs.Prelude.{slice_get, unwrap_or}
use Rattle.std.proofs.lemmas.Option.{get_or_from_slice_get, unwrap_or-slice_get}

pub read_some : {X : Type 0} (xs : List X) (i : ℕ) (x d : X) → Some x ≡ slice_get xs i → x ≡ slice_index_or xs i d
read_some xs i x d is = sym (get_or_from_slice_get xs i x d (sym is))

pub read_none : {X : Type 0} (xs : List X) (i : ℕ) (d : X) → None ≡ slice_get xs i → d ≡ slice_index_or xs i d
read_none xs i d is = ap (λ o. unwrap_or o d) is ∙ unwrap_or-slice_get xs i d
