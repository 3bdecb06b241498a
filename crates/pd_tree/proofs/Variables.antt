-- Variables that are seen: those of a name, in the order of slots, and from further in.
use Rattle.std.proofs.Common.{cond, Option, Some, is_some, ◌≡◌, refl, sym, ◌∙◌, ap, ℕ, suc, ◌+◌, ◌<◌, ◌≤◌, Bool, true, false, List, [], ◌∷◌, ◌++◌, length, take, drop, get_or, arith, add-one, inl, inr}
use Rattle.std.specs.Prelude.{if◌then◌else◌, nat_lt, ◌==◌, ◌||◌, bytes_eq}
use Rattle.std.proofs.lemmas.Bool.{cases_Bool, or_parts, eq-eqb, ne_eqb}
use Rattle.std.proofs.lemmas.List.{drop_more, get_or_default, get_or_past}
use Rattle.pd_tree.specs.declared.kind.Kind.{Kind}
use Rattle.pd_tree.specs.declared.kind.Kind.TheVariants.{SlFunction, SlBlock, SlAssign, PlProcedure, PlEmpty}
use Rattle.pd_tree.specs.declared.kind.Meaning.{Meaning}
use Rattle.pd_tree.specs.declared.kind.Meaning.TheVariants.{Local}
use Rattle.pd_tree.specs.declared.kind.Visible.{Visible}
use Rattle.pd_tree.specs.declared.addition.Addition.{Addition}
use Rattle.pd_tree.specs.declared.change.Change.{Change}
use Rattle.pd_tree.specs.declared.change.Edge.{Edge}
use Rattle.pd_tree.specs.declared.change.Edge.TheVariants.{First, Last}
use Rattle.pd_tree.specs.Linked.{sees_name, with_parameters, with_assigned, inserted, without, without_all, declared, from_inside, seen_inside, seen_behind, procedure_names, kind_at, no_addition}
use Rattle.pd_tree.specs.Kept.{changed, seen_at_edge}
use Rattle.pd_tree.specs.Seen.{slots_before, without_part, AllUp}

-- what is left of a list, by the item that is read next
pub front : {X : Type 0} (xs : List X) (i : ℕ) (x : X) → i < length xs → x ≡ get_or xs i x → drop i xs ≡ x ∷ drop (i + 1) xs
front xs i x h e = drop_more xs i x h ∙ ap (λ y. y ∷ drop (i + 1) xs) (sym e)

-- ---- without a name

pub without-unseen : (x : List ℕ) (seen : List Visible) → sees_name x seen ≡ false → without x seen ≡ seen
without-unseen x [] h = refl
without-unseen x (v ∷ vs) h =
    let parts = or_parts (bytes_eq v.name x) (sees_name x vs) h in
    ap (λ b. if b then without x vs else v ∷ without x vs) parts.0 ∙ ap (λ ws. v ∷ ws) (without-unseen x vs parts.1)

-- ---- names that are known

or-cond : (a b s : Bool) → (a || cond b true s) ≡ cond b true (a || s)
or-cond true true s = refl
or-cond true false s = refl
or-cond false true s = refl
or-cond false false s = refl

or-last : (b : Bool) → (b || false) ≡ cond b true false
or-last true = refl
or-last false = refl

some-cond : {X : Type 0} (b : Bool) (w : X) (o : Option X) → is_some (cond b (Some w) o) ≡ cond b true (is_some o)
some-cond true w o = refl
some-cond false w o = refl

sees-push : (q : List ℕ) (seen : List Visible) (v : Visible) → sees_name q (seen ++ v ∷ []) ≡ cond (bytes_eq v.name q) true (sees_name q seen)
sees-push q [] v = or-last (bytes_eq v.name q)
sees-push q (w ∷ ws) v = ap (λ b. bytes_eq w.name q || b) (sees-push q ws v) ∙ or-cond (bytes_eq w.name q) (bytes_eq v.name q) (sees_name q ws)

-- what a map of names knows, one name more
pub known-more : {X : Type 0} (q : List ℕ) (seen : List Visible) (v : Visible) (w : X) (old new : Option X) → new ≡ cond (bytes_eq v.name q) (Some w) old → sees_name q seen ≡ is_some old → sees_name q (seen ++ v ∷ []) ≡ is_some new
known-more q seen v w old new e h =
    sees-push q seen v ∙ ap (cond (bytes_eq v.name q) true) h ∙ sym (ap is_some e ∙ some-cond (bytes_eq v.name q) w old)

pub parameters-next : (seen : List Visible) (x : List ℕ) (xs : List (List ℕ)) → sees_name x seen ≡ false → with_parameters seen (x ∷ xs) ≡ with_parameters (seen ++ (record { name = x; up = 0; slot = length seen }) ∷ []) xs
parameters-next seen x xs h = ap (λ b. with_parameters (if b then seen else seen ++ (record { name = x; up = 0; slot = length seen }) ∷ []) xs) h

pub parameters-known : (seen : List Visible) (x : List ℕ) (xs : List (List ℕ)) → sees_name x seen ≡ true → with_parameters seen (x ∷ xs) ≡ with_parameters seen xs
parameters-known seen x xs h = ap (λ b. with_parameters (if b then seen else seen ++ (record { name = x; up = 0; slot = length seen }) ∷ []) xs) h

-- ---- in the order of slots

inserted-skip : (v x : Visible) (xs : List Visible) → nat_lt x.slot v.slot ≡ true → inserted v (x ∷ xs) ≡ x ∷ inserted v xs
inserted-skip v x xs h = ap (λ b. if b then x ∷ inserted v xs else (if x.slot == v.slot then x ∷ xs else v ∷ x ∷ xs)) h

inserted-stop : (v x : Visible) (xs : List Visible) → nat_lt x.slot v.slot ≡ false → inserted v (x ∷ xs) ≡ (if x.slot == v.slot then x ∷ xs else v ∷ x ∷ xs)
inserted-stop v x xs h = ap (λ b. if b then x ∷ inserted v xs else (if x.slot == v.slot then x ∷ xs else v ∷ x ∷ xs)) h

before-skip : (slot : ℕ) (x : Visible) (xs : List Visible) → nat_lt x.slot slot ≡ true → slots_before slot (x ∷ xs) ≡ suc (slots_before slot xs)
before-skip slot x xs h = ap (λ b. if b then slots_before slot xs + 1 else 0) h ∙ add-one (slots_before slot xs)

before-stop : (slot : ℕ) (x : Visible) (xs : List Visible) → nat_lt x.slot slot ≡ false → slots_before slot (x ∷ xs) ≡ 0
before-stop slot x xs h = ap (λ b. if b then slots_before slot xs + 1 else 0) h

-- a variable that is there already
pub inserted-there : (v : Visible) (seen : List Visible) (x : Visible) → slots_before v.slot seen < length seen → x ≡ get_or seen (slots_before v.slot seen) x → x.slot ≡ v.slot → inserted v seen ≡ seen
inserted-there v [] x h is same = absurd (omega arith)
inserted-there v (y ∷ ys) x h is same =
    elim (cases_Bool (nat_lt y.slot v.slot)) [
      | inl t ↦
          let e = before-skip v.slot y ys t in
          inserted-skip v y ys t
          ∙ ap (λ zs. y ∷ zs) (inserted-there v ys x (omega arith) (is ∙ ap (λ k. get_or (y ∷ ys) k x) e) same)
      | inr f ↦
          let e = before-stop v.slot y ys f in
          let first : x ≡ y = is ∙ ap (λ k. get_or (y ∷ ys) k x) e in
          inserted-stop v y ys f
          ∙ ap (λ b. if b then y ∷ ys else v ∷ y ∷ ys) (eq-eqb y.slot v.slot (sym (ap (λ (z : Visible). z.slot) first) ∙ same))
    ]

-- one that isn't
pub inserted-new : (v : Visible) (seen : List Visible) → (slots_before v.slot seen < length seen → (get_or seen (slots_before v.slot seen) v).slot ≡ v.slot → ⊥) → inserted v seen ≡ take (slots_before v.slot seen) seen ++ v ∷ [] ++ drop (slots_before v.slot seen) seen
inserted-new v [] h = refl
inserted-new v (y ∷ ys) h =
    elim (cases_Bool (nat_lt y.slot v.slot)) [
      | inl t ↦
          let e = before-skip v.slot y ys t in
          inserted-skip v y ys t
          ∙ ap (λ zs. y ∷ zs) (inserted-new v ys (λ within same. h (omega arith) (ap (λ k. (get_or (y ∷ ys) k v).slot) e ∙ same)))
          ∙ sym (ap (λ k. take k (y ∷ ys) ++ v ∷ [] ++ drop k (y ∷ ys)) e)
      | inr f ↦
          let e = before-stop v.slot y ys f in
          inserted-stop v y ys f
          ∙ ap (λ b. if b then y ∷ ys else v ∷ y ∷ ys) (ne_eqb y.slot v.slot (λ same. h (omega arith) (ap (λ k. (get_or (y ∷ ys) k v).slot) e ∙ same)))
          ∙ sym (ap (λ k. take k (y ∷ ys) ++ v ∷ [] ++ drop k (y ∷ ys)) e)
    ]

-- ---- inner procedures

pub kind-found : (all : List Addition) (m : ℕ) (d : Addition) → m < length all → kind_at all m ≡ (get_or all m d).kind
kind-found all m d h = ap (λ (x : Addition). x.kind) (get_or_default all m no_addition d h)

pub kind-past : (all : List Addition) (m : ℕ) → length all ≤ m → kind_at all m ≡ PlEmpty
kind-past all m h = ap (λ (x : Addition). x.kind) (get_or_past all m no_addition h)

without-part : (k : Kind) (rest : List (List ℕ)) (seen : List Visible) → without_all (elim k [ PlProcedure name variables ↦ name ∷ rest | _ ↦ rest ]) seen ≡ without_all rest (without_part k seen)
without-part (PlProcedure name variables) rest seen = refl
without-part _ rest seen = refl

pub procedure_names-next : (all : List Addition) (m : ℕ) (ms : List ℕ) (seen : List Visible) → without_all (procedure_names all (m ∷ ms)) seen ≡ without_all (procedure_names all ms) (without_part (kind_at all m) seen)
procedure_names-next all m ms seen = without-part (kind_at all m) (procedure_names all ms) seen

pub part-next : (all : List Addition) (parts : List ℕ) (i m : ℕ) (seen : List Visible) → i < length parts → m ≡ get_or parts i m → without_all (procedure_names all (drop (i + 1) parts)) (without_part (kind_at all m) seen) ≡ without_all (procedure_names all (drop i parts)) seen
part-next all parts i m seen h e =
    sym (ap (λ ms. without_all (procedure_names all ms) seen) (front parts i m h e) ∙ procedure_names-next all m (drop (i + 1) parts) seen)

-- ---- how far outward

pub up-more : (j k : ℕ) (seen : List Visible) → j ≤ k → AllUp j seen → AllUp k seen
up-more j k [] le h = tt
up-more j k (v ∷ vs) le h = let first = h.0 in (omega arith, up-more j k vs le h.1)

up-append : (k : ℕ) (xs ys : List Visible) → AllUp k xs → AllUp k ys → AllUp k (xs ++ ys)
up-append k [] ys h e = e
up-append k (x ∷ xs) ys h e = (h.0, up-append k xs ys h.1 e)

up-if : (k : ℕ) (b : Bool) (xs ys : List Visible) → AllUp k xs → AllUp k ys → AllUp k (if b then xs else ys)
up-if k true xs ys h e = h
up-if k false xs ys h e = e

up-with_parameters : (k : ℕ) (seen : List Visible) (names : List (List ℕ)) → AllUp k seen → AllUp k (with_parameters seen names)
up-with_parameters k seen [] h = h
up-with_parameters k seen (x ∷ xs) h =
    let more = seen ++ (record { name = x; up = 0; slot = length seen }) ∷ [] in
    up-with_parameters k (if sees_name x seen then seen else more) xs (up-if k (sees_name x seen) seen more h (up-append k seen _ h (omega arith, tt)))

up-inserted : (k : ℕ) (v : Visible) (seen : List Visible) → v.up ≤ k → AllUp k seen → AllUp k (inserted v seen)
up-inserted k v [] e h = (e, tt)
up-inserted k v (x ∷ xs) e h =
    up-if k (nat_lt x.slot v.slot) (x ∷ inserted v xs) (if x.slot == v.slot then x ∷ xs else v ∷ x ∷ xs)
    (h.0, up-inserted k v xs e h.1) (up-if k (x.slot == v.slot) (x ∷ xs) (v ∷ x ∷ xs) h (e, h))

pub up-without : (k : ℕ) (x : List ℕ) (seen : List Visible) → AllUp k seen → AllUp k (without x seen)
up-without k x [] h = tt
up-without k x (v ∷ vs) h =
    up-if k (bytes_eq v.name x) (without x vs) (v ∷ without x vs) (up-without k x vs h.1) (h.0, up-without k x vs h.1)

pub up-without_all : (k : ℕ) (names : List (List ℕ)) (seen : List Visible) → AllUp k seen → AllUp k (without_all names seen)
up-without_all k [] seen h = h
up-without_all k (x ∷ xs) seen h = up-without_all k xs (without x seen) (up-without k x seen h)

up-declared : (k slot : ℕ) (names : List (List ℕ)) → AllUp k (declared slot names)
up-declared k slot [] = tt
up-declared k slot (x ∷ xs) = (omega arith, up-declared k (slot + 1) xs)

up-from_inside : (k : ℕ) (seen : List Visible) → AllUp k seen → AllUp (k + 1) (from_inside seen)
up-from_inside k [] h = tt
up-from_inside k (v ∷ vs) h = let first = h.0 in (omega arith, up-from_inside k vs h.1)

up-inside : (k : ℕ) (kind : Kind) (constants : List (List ℕ)) (seen : List Visible) → AllUp k seen → AllUp (k + 1) (seen_inside kind constants seen)
up-inside k (SlFunction name parameters) constants seen h = up-with_parameters (k + 1) [] parameters tt
up-inside k (PlProcedure name variables) constants seen h =
    up-append (k + 1) (declared 0 variables) (from_inside (without_all constants (without_all variables (without name seen))))
    (up-declared (k + 1) 0 variables)
    (up-from_inside k _ (up-without_all k constants _ (up-without_all k variables _ (up-without k name seen h))))
up-inside k _ constants seen h = up-more k (k + 1) seen (omega arith) h

up-assigned : (k : ℕ) (name : List ℕ) (meaning : Meaning) (seen : List Visible) → AllUp k seen → AllUp k (with_assigned name meaning seen)
up-assigned k name (Local up slot) seen h = up-inserted k (record { name = name; up = 0; slot = slot }) seen (omega arith) h
up-assigned k name _ seen h = h

up-behind : (k : ℕ) (kind : Kind) (meaning : Meaning) (outside seen : List Visible) → AllUp k outside → AllUp k seen → AllUp k (seen_behind kind meaning outside seen)
up-behind k (SlFunction name parameters) meaning outside seen o h = o
up-behind k SlBlock meaning outside seen o h = o
up-behind k (SlAssign name) meaning outside seen o h = up-assigned k name meaning seen h
up-behind k (PlProcedure name variables) meaning outside seen o h = up-without k name outside o
up-behind k _ meaning outside seen o h = h

up-edge : (k : ℕ) (edge : Edge) (a : Addition) (seen : List Visible) → AllUp k seen → AllUp (k + 1) (seen_at_edge edge a seen)
up-edge k First a seen h = up-inside k a.kind a.constants seen h
up-edge k Last a seen h = up-more k (k + 1) (seen_behind a.kind a.meaning seen seen) (omega arith) (up-behind k a.kind a.meaning seen seen h h)

pub up-changed : (k : ℕ) (all : List Addition) (c : Change) (seen : List Visible) → AllUp k seen → AllUp (k + 1) (changed all c seen)
up-changed k all c seen h = up-edge k c.edge (get_or all c.node no_addition) seen h
