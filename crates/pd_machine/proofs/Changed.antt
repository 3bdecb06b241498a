-- A list with one element changed, and what the frames show where the innermost one stands at another node.
use Rattle.std.proofs.Common.{◌≡◌, ℕ, zero, suc, ◌-◌, ◌<◌, ◌≤◌, List, [], ◌∷◌, length, Option, Some, None, set, get_or, refl, sym, ap, ◌∙◌, arith}
use Rattle.std.specs.Prelude.{slice_get, nat_lt, if◌then◌else◌, cond}
use Rattle.std.proofs.lemmas.Bool.{cond-true, lt-ltb}
use Rattle.pd_machine.specs.declared.run.Frame.{Frame}
use Rattle.pd_machine.specs.declared.run.Home.{Home}
use Rattle.pd_machine.specs.declared.run.Home.TheVariants.{InFrame, InMain}
use Rattle.pd_machine.specs.Events.{Scene, change_at, frame_of, root_of, at_of, blocks_of, variables_of, variables_at, scene_value, standing}

pub length_of_changed : {X : Type 0} (xs : List X) (i : ℕ) (f : X → X) → length (change_at xs i f) ≡ length xs
length_of_changed [] i f = refl
length_of_changed (x ∷ xs) zero f = refl
length_of_changed (x ∷ xs) (suc i) f = ap suc (length_of_changed xs i f)

pub changed_is_set : {X : Type 0} (xs : List X) (i : ℕ) (f : X → X) (d : X) → i < length xs → change_at xs i f ≡ set xs i (f (get_or xs i d))
changed_is_set [] i f d h = absurd (omega arith)
changed_is_set (x ∷ xs) zero f d h = refl
changed_is_set (x ∷ xs) (suc i) f d h = ap (λ r. x ∷ r) (changed_is_set xs i f d (omega arith))

pub changed_past : {X : Type 0} (xs : List X) (i : ℕ) (f : X → X) → length xs ≤ i → change_at xs i f ≡ xs
changed_past [] i f h = refl
changed_past (x ∷ xs) zero f h = absurd (omega arith)
changed_past (x ∷ xs) (suc i) f h = ap (λ r. x ∷ r) (changed_past xs i f (omega arith))

-- what is written over an item that was read there
pub changed_read : {X : Type 0} (xs : List X) (i : ℕ) (f : X → X) (x : X) → i < length xs → x ≡ get_or xs i x → set xs i (f x) ≡ change_at xs i f
changed_read xs i f x h e = ap (λ y. set xs i (f y)) e ∙ sym (changed_is_set xs i f x h)

other_at : {X : Type 0} (xs : List X) (i j : ℕ) (f : X → X) → (j ≡ i → ⊥) → slice_get (change_at xs i f) j ≡ slice_get xs j
other_at [] i j f h = refl
other_at (x ∷ xs) zero zero f h = absurd (h refl)
other_at (x ∷ xs) zero (suc j) f h = refl
other_at (x ∷ xs) (suc i) zero f h = refl
other_at (x ∷ xs) (suc i) (suc j) f h = other_at xs i j f (λ e. h (ap suc e))

module _ (n : ℕ) where
  abbrev at_node : Frame → Frame
  at_node f = record f { at = n }

  moved : List Frame → ℕ → List Frame
  moved fs i = change_at fs i at_node

  root_at : (fs : List Frame) (i j : ℕ) → root_of (slice_get (change_at fs i at_node) j) ≡ root_of (slice_get fs j)
  root_at [] i j = refl
  root_at (x ∷ xs) zero zero = refl
  root_at (x ∷ xs) zero (suc j) = refl
  root_at (x ∷ xs) (suc i) zero = refl
  root_at (x ∷ xs) (suc i) (suc j) = root_at xs i j

  blocks_at : (fs : List Frame) (i j : ℕ) → blocks_of (slice_get (change_at fs i at_node) j) ≡ blocks_of (slice_get fs j)
  blocks_at [] i j = refl
  blocks_at (x ∷ xs) zero zero = refl
  blocks_at (x ∷ xs) zero (suc j) = refl
  blocks_at (x ∷ xs) (suc i) zero = refl
  blocks_at (x ∷ xs) (suc i) (suc j) = blocks_at xs i j

  vars_at : (fs : List Frame) (i j : ℕ) → variables_of (slice_get (change_at fs i at_node) j) ≡ variables_of (slice_get fs j)
  vars_at [] i j = refl
  vars_at (x ∷ xs) zero zero = refl
  vars_at (x ∷ xs) zero (suc j) = refl
  vars_at (x ∷ xs) (suc i) zero = refl
  vars_at (x ∷ xs) (suc i) (suc j) = vars_at xs i j

  same_at : (fs : List Frame) (i : ℕ) → i < length fs → at_of (slice_get (change_at fs i at_node) i) ≡ Some n
  same_at [] i h = absurd (omega arith)
  same_at (x ∷ xs) zero h = refl
  same_at (x ∷ xs) (suc i) h = same_at xs i (omega arith)

  -- frame i of the frames by its place from the outermost
  abbrev placed : ℕ → ℕ → List Frame → Option Frame
  placed l i fs = if nat_lt i l then slice_get fs (l - suc i) else None

  placed_is : (c : Scene) (i : ℕ) → frame_of (standing n c).frames i ≡ placed (length c.frames) i (change_at c.frames (length c.frames - 1) at_node)
  placed_is c i = ap (λ l. placed l i (change_at c.frames (length c.frames - 1) at_node)) (length_of_changed c.frames (length c.frames - 1) at_node)

  choose : {Y : Type 0} (b : _) (g : Option Frame → Y) (x y : Option Frame) → g x ≡ g y → g (cond b x None) ≡ g (cond b y None)
  choose Rattle.std.specs.Prelude.true g x y h = h
  choose Rattle.std.specs.Prelude.false g x y h = refl

  pub standing_root : (c : Scene) (i : ℕ) → root_of (frame_of (standing n c).frames i) ≡ root_of (frame_of c.frames i)
  standing_root c i =
      ap root_of (placed_is c i) ∙ choose (nat_lt i (length c.frames)) root_of _ _ (root_at c.frames (length c.frames - 1) (length c.frames - suc i))

  pub standing_blocks : (c : Scene) (i : ℕ) → blocks_of (frame_of (standing n c).frames i) ≡ blocks_of (frame_of c.frames i)
  standing_blocks c i =
      ap blocks_of (placed_is c i) ∙ choose (nat_lt i (length c.frames)) blocks_of _ _ (blocks_at c.frames (length c.frames - 1) (length c.frames - suc i))

  pub standing_variables : (c : Scene) (h : Option Home) → variables_at (standing n c) h ≡ variables_at c h
  standing_variables c None = refl
  standing_variables c (Some (InFrame k)) = vars_at c.frames (length c.frames - 1) k
  standing_variables c (Some (InMain m)) = refl

  pub standing_value : (c : Scene) (i up slot : ℕ) → scene_value (standing n c) i up slot ≡ scene_value c i up slot
  standing_value c i up slot =
      ap (λ vs. slice_get vs slot) (standing_variables c (slice_get (blocks_of (frame_of (standing n c).frames i)) up)
      ∙ ap (λ bs. variables_at c (slice_get bs up)) (standing_blocks c i))

some_at : {X : Type 0} (xs : List X) (k : ℕ) (x : X) → k < length xs → x ≡ get_or xs k x → slice_get xs k ≡ Some x
some_at [] k x h e = absurd (omega arith)
some_at (y ∷ ys) zero x h e = ap Some (sym e)
some_at (y ∷ ys) (suc k) x h e = some_at ys k x (omega arith) e

-- frame i, read at its place from the outermost
pub frame_at : (fs : List Frame) (i : ℕ) (x : Frame) → i < length fs → x ≡ get_or fs (length fs - 1 - i) x → frame_of fs i ≡ Some x
frame_at fs i x h e =
    let place : length fs - 1 - i ≡ length fs - suc i = omega arith in
    cond-true (nat_lt i (length fs)) (slice_get fs (length fs - suc i)) None (lt-ltb i (length fs) h)
    ∙ some_at fs (length fs - suc i) x (omega arith) (e ∙ ap (λ k. get_or fs k x) place)

-- at the event's node the innermost frame, and at its own node any other
pub standing_at_first : (n : ℕ) (c : Scene) → 0 < length c.frames → at_of (frame_of (standing n c).frames 0) ≡ Some n
standing_at_first n c h =
    ap at_of (placed_is n c 0 ∙ cond-true (nat_lt 0 (length c.frames)) _ None (lt-ltb 0 (length c.frames) h))
    ∙ same_at n c.frames (length c.frames - 1) (omega arith)

pub standing_at_other : (n : ℕ) (c : Scene) (i : ℕ) → (i ≡ 0 → ⊥) → i < length c.frames → frame_of (standing n c).frames i ≡ frame_of c.frames i
standing_at_other n c i other h =
    placed_is n c i ∙ ap (λ x. if nat_lt i (length c.frames) then x else None) (other_at c.frames (length c.frames - 1) (length c.frames - suc i) (at_node n) (λ e. other (omega (arith, e))))
