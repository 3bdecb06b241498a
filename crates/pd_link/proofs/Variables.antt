-- Lists of variables, when changes are added.
use Rattle.std.proofs.Common.{◌≡◌, sym, ◌∙◌, ap, ◌+◌, ◌≤◌, ℕ, List, [], ◌∷◌, ◌++◌, length, arith, inl, inr}
use Rattle.std.specs.Prelude.{if◌then◌else◌}
use Rattle.std.proofs.lemmas.Bool.{cases_Bool}
use Rattle.std.proofs.lemmas.List.{append-nil, append_assoc, length-append}
use Rattle.pd_tree.specs.declared.kind.Kind.{Kind}
use Rattle.pd_tree.specs.declared.kind.Kind.TheVariants.{SlAssign, PlProcedure}
use Rattle.pd_tree.specs.declared.kind.Visible.{Visible}
use Rattle.pd_tree.specs.declared.addition.Addition.{Addition}
use Rattle.pd_tree.specs.declared.change.Change.{Change}
use Rattle.pd_tree.specs.declared.change.Edge.TheVariants.{First, Last}
use Rattle.pd_tree.specs.Linked.{with_parameters, sees_name, seen_inside, seen_behind, kind_at}
use Rattle.pd_tree.specs.Kept.{changed, list_at}
use Rattle.pd_tree.proofs.Changes.{list-grow, list-push, before-push}
use Rattle.pd_link.specs.Linking.{Grew}
use Rattle.pd_link.specs.Walks.{Sees, constants_at, meaning_at}

-- ---- a list that grows

pub grew_same : {T : Type 0} (xs : List T) → Grew xs xs
grew_same xs = ([], sym (append-nil xs))

pub grew_twice : {T : Type 0} (xs ys zs : List T) → Grew xs ys → Grew ys zs → Grew xs zs
grew_twice xs ys zs a b =
    (a.0 ++ b.0, b.1 ∙ ap (λ l. l ++ b.0) a.1 ∙ append_assoc xs a.0 b.0)

pub list-grew : (all : List Addition) (xs ys : List Change) (k : ℕ) → Grew xs ys → k ≤ length xs → list_at all ys k ≡ list_at all xs k
list-grew all xs ys k g h = ap (λ l. list_at all l k) g.1 ∙ list-grow all xs g.0 k h

pub within-grew : (xs ys : List Change) (k : ℕ) → Grew xs ys → k ≤ length xs → k ≤ length ys
within-grew xs ys k g h = omega (arith, ap length g.1, length-append xs g.0)

pub sees_same : (all : List Addition) (xs : List Change) (s : ℕ) (content : List Visible) → s ≤ length xs → list_at all xs s ≡ content → Sees all xs xs s content
sees_same all xs s content h e = record { grew = grew_same xs; before = λ b. b; one = omega arith; within = h; seen = e }

-- one change more
pub sees_more : (all : List Addition) (xs ys : List Change) (c : Change) (s : ℕ) → ys ≡ xs ++ c ∷ [] → s ≡ length ys → c.before ≤ length xs → Sees all xs ys s (changed all c (list_at all xs c.before))
sees_more all xs ys c s e at h =
    let size : length ys ≡ length xs + 1 = ap length e ∙ length-append xs (c ∷ []) in
    record {
      grew = (c ∷ [], e);
      before = λ b. rw e (before-push xs c b h);
      one = omega (arith, size);
      within = omega (arith, at);
      seen = ap (list_at all ys) (at ∙ size) ∙ ap (λ l. list_at all l (length xs + 1)) e ∙ list-push all xs c;
    }

-- ---- what a change makes

pub changed-inside : (all : List Addition) (n before : ℕ) (kind : Kind) (seen : List Visible) → kind ≡ kind_at all n → changed all (record { edge = First; node = n; before = before }) seen ≡ seen_inside kind (constants_at all n) seen
changed-inside all n before kind seen e = ap (λ k. seen_inside k (constants_at all n) seen) (sym e)

pub changed-assign : (all : List Addition) (n before : ℕ) (kind : Kind) (name : List ℕ) (outside seen : List Visible) → kind ≡ kind_at all n → kind ≡ SlAssign name → changed all (record { edge = Last; node = n; before = before }) seen ≡ seen_behind kind (meaning_at all n) outside seen
changed-assign all n before kind name outside seen e f =
    ap (λ k. seen_behind k (meaning_at all n) seen seen) (sym e ∙ f) ∙ ap (λ k. seen_behind k (meaning_at all n) outside seen) (sym f)

pub changed-procedure : (all : List Addition) (n before : ℕ) (kind : Kind) (name : List ℕ) (variables : List (List ℕ)) (outside seen : List Visible) → kind ≡ kind_at all n → kind ≡ PlProcedure name variables → changed all (record { edge = Last; node = n; before = before }) outside ≡ seen_behind kind (meaning_at all n) outside seen
changed-procedure all n before kind name variables outside seen e f =
    ap (λ k. seen_behind k (meaning_at all n) outside outside) (sym e ∙ f) ∙ ap (λ k. seen_behind k (meaning_at all n) outside seen) (sym f)

-- ---- parameters

pub length-with_parameters : (seen : List Visible) (parameters : List (List ℕ)) → length (with_parameters seen parameters) ≤ length seen + length parameters
length-with_parameters seen [] = omega arith
length-with_parameters seen (x ∷ xs) =
    elim (cases_Bool (sees_name x seen)) [
      | inl t ↦
          let e = ap (λ b. length (with_parameters (if b then seen else seen ++ (record { name = x; up = 0; slot = length seen }) ∷ []) xs)) t in
          omega (arith, e, length-with_parameters seen xs)
      | inr f ↦
          let more = seen ++ (record { name = x; up = 0; slot = length seen }) ∷ [] in
          let e = ap (λ b. length (with_parameters (if b then seen else more) xs)) f in
          omega (arith, e, length-with_parameters more xs, length-append seen (record { name = x; up = 0; slot = length seen } ∷ []))
    ]
