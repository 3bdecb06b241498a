-- Lists of frames: changes that a map doesn't see, one frame more and one less; paths; and the blocks that a frame sees.
use Rattle.std.proofs.Common.{◌≡◌, ℕ, zero, suc, Bool, true, false, cond, List, [], ◌∷◌, ◌++◌, length, map, take, Option, None, refl, sym, ap, ◌∙◌, arith}
use Rattle.std.specs.Prelude.{◌-◌, nat_lt, slice_get, slice_index_or}
use Rattle.std.proofs.lemmas.List.Elements.{filter-append}
use Rattle.pd_machine.specs.declared.run.Home.{Home}
use Rattle.pd_machine.specs.declared.run.Frame.{Frame}
use Rattle.pd_machine.specs.Events.{Told, change_at, frame_of, blocks_of}
use Rattle.pd_tree.specs.Program.{Program, node_at}
use Rattle.pd_running.specs.Running.{of_root, roots_in, nodes_in}
use Rattle.pd_running.proofs.Stack.{append_none}
use Rattle.pd_framing.specs.Framing.{blocks_seen, blocks_for, blocks_from}

-- ---- frames

pub change_map : {A B : Type 0} (h : A → B) (fs : List A) (k : ℕ) (g : A → A) → ((f : A) → h (g f) ≡ h f) → map h (change_at fs k g) ≡ map h fs
change_map h [] k g e = refl
change_map h (f ∷ fs) zero g e = ap (λ b. b ∷ map h fs) (e f)
change_map h (f ∷ fs) (suc k) g e = ap (λ bs. h f ∷ bs) (change_map h fs k g e)

pub change_length : (fs : List Frame) (k : ℕ) (g : Frame → Frame) → length (change_at fs k g) ≡ length fs
change_length [] k g = refl
change_length (f ∷ fs) zero g = refl
change_length (f ∷ fs) (suc k) g = ap suc (change_length fs k g)

pub map_push : {A B : Type 0} (h : A → B) (xs : List A) (x : A) → map h (xs ++ x ∷ []) ≡ map h xs ++ h x ∷ []
map_push h [] x = refl
map_push h (y ∷ xs) x = ap (λ ys. h y ∷ ys) (map_push h xs x)

pub map_length : {A B : Type 0} (h : A → B) (xs : List A) → length (map h xs) ≡ length xs
map_length h [] = refl
map_length h (x ∷ xs) = ap suc (map_length h xs)

less_one : (k : ℕ) → suc k - 1 ≡ k
less_one k = omega arith

less_two : (k : ℕ) → suc (suc k) - 1 ≡ suc k
less_two k = omega arith

-- without the innermost frame
pub map_pop : {A B : Type 0} (h : A → B) (fs : List A) (ns : List B) (n : B) → map h fs ≡ ns ++ n ∷ [] → map h (take (length fs - 1) fs) ≡ ns
map_pop h [] [] n e = absurd (cc)
map_pop h [] (m ∷ ns) n e = absurd (cc)
map_pop h (f ∷ []) [] n e = refl
map_pop h (f ∷ []) (m ∷ []) n e = absurd (cc)
map_pop h (f ∷ []) (m ∷ k ∷ ns) n e = absurd (cc)
map_pop h (f ∷ g ∷ fs) [] n e = absurd (cc)
map_pop h (f ∷ g ∷ fs) (m ∷ ns) n e =
    let head : h f ≡ m = cc in
    let tail : map h (g ∷ fs) ≡ ns ++ n ∷ [] = cc in
    ap (λ k. map h (take k (f ∷ g ∷ fs))) (less_two (length fs)) ∙ cc (head, ap (λ k. map h (take k (g ∷ fs))) (sym (less_one (length fs))) ∙ map_pop h (g ∷ fs) ns n tail)

-- ---- paths

abbrev pub path_of : Program → List Told → List ℕ
path_of p live = nodes_in (roots_in p live)

pub path_root : (p : Program) (live : List Told) (t : Told) → of_root p t ≡ true → path_of p (live ++ t ∷ []) ≡ path_of p live ++ t.event.node ∷ []
path_root p live t h = ap nodes_in (filter-append (of_root p) live (t ∷ []) ∙ ap (λ b. roots_in p live ++ cond b (t ∷ []) []) h) ∙ map_push (λ (t : Told). t.event.node) (roots_in p live) t

pub path_other : (p : Program) (live : List Told) (t : Told) → of_root p t ≡ false → path_of p (live ++ t ∷ []) ≡ path_of p live
path_other p live t h = ap nodes_in (filter-append (of_root p) live (t ∷ []) ∙ ap (λ b. roots_in p live ++ cond b (t ∷ []) []) h ∙ append_none (roots_in p live))

-- some function or procedure is on the path
abbrev pub IsSome : List ℕ → Type 0
IsSome [] = ⊥
IsSome (n ∷ ns) = Unit {0}

pub push_some : (path : List ℕ) (n : ℕ) → IsSome (path ++ n ∷ [])
push_some [] n = tt
push_some (m ∷ path) n = tt

-- ---- blocks

pub blocks_push : (p : Program) (before : List (List Home)) (path : List ℕ) (n : ℕ) → blocks_from p before (path ++ n ∷ []) ≡ blocks_from p before path ++ blocks_for (node_at p n) (blocks_from p before path) ∷ []
blocks_push p before [] n = refl
blocks_push p before (m ∷ path) n = blocks_push p (before ++ blocks_for (node_at p m) before ∷ []) path n

-- the blocks that a frame sees, told from those of all frames
blocks_get : (fs : List Frame) (k : ℕ) → blocks_of (slice_get fs k) ≡ slice_index_or (map (λ f. f.blocks) fs) k []
blocks_get [] k = refl
blocks_get (f ∷ fs) zero = refl
blocks_get (f ∷ fs) (suc k) = blocks_get fs k

either_frame : (b : Bool) (f : Option Frame) (bs : List Home) → blocks_of f ≡ bs → blocks_of (cond b f None) ≡ cond b bs []
either_frame true f bs h = h
either_frame false f bs h = refl

pub blocks_frame : (fs : List Frame) (i : ℕ) → blocks_of (frame_of fs i) ≡ blocks_seen (map (λ f. f.blocks) fs) i
blocks_frame fs i =
    either_frame (nat_lt i (length fs)) (slice_get fs (length fs - suc i)) _ (blocks_get fs (length fs - suc i))
    ∙ ap (λ k. cond (nat_lt i k) (slice_index_or (map (λ f. f.blocks) fs) (k - suc i) []) []) (sym (map_length (λ (f : Frame). f.blocks) fs))
