-- Lists of values, beside the items that they stand for.
use Rattle.std.proofs.Common.{◌≡◌, suc, List, [], ◌∷◌, ◌++◌, length, Ok, refl, ap}
use Rattle.serde_json.specs.View.{items_view}
use Rattle.serde_json.specs.declared.value.Value.{Value}
use Rattle.pd_plan.specs.declared.refusal.PlanRule.TheVariants.{WrongShape}
use Rattle.pd_plan_json.specs.Reading.{Read, ◌>>=◌, refuse}
use Rattle.pd_plan_json.specs.Tables.{pair, frame_and_value}
use Rattle.pd_plan_json.specs.Shapes.{count}

pub count_of_items : (vs : List Value) → count (items_view vs) ≡ length vs
count_of_items [] = refl
count_of_items (v ∷ vs) = ap suc (count_of_items vs)

-- entries that were read before the others
abbrev pub with_front : {A : Type 0} → List A → Read (List A) → Read (List A)
with_front front read = read >>= λ xs. Ok (front ++ xs)

pub pair_of_others : (vs : List Value) → (length vs ≡ 2 → ⊥) → pair (items_view vs) ≡ refuse WrongShape
pair_of_others [] other = refl
pair_of_others (a ∷ []) other = refl
pair_of_others (a ∷ b ∷ []) other = absurd (other refl)
pair_of_others (a ∷ b ∷ c ∷ vs) other = refl

pub frame_of_others : (vs : List Value) → (length vs ≡ 2 → ⊥) → frame_and_value (items_view vs) ≡ refuse WrongShape
frame_of_others [] other = refl
frame_of_others (a ∷ []) other = refl
frame_of_others (a ∷ b ∷ []) other = absurd (other refl)
frame_of_others (a ∷ b ∷ c ∷ vs) other = refl
