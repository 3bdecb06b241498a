-- The additions of a source's nodes are whole: each announced part is there, and the nodes at the top are functions.
use Rattle.std.proofs.Common.{◌≡◌, ℕ, suc, ◌+◌, ◌<◌, ◌≤◌, ◌^◌, IsTrue, List, [], ◌∷◌, ◌++◌, length, drop, get_or, refl, sym, ap, subst, ◌∙◌, append_assoc, length-append, arith}
use Rattle.std.proofs.Math.Seq.{get_or-append_seam}
use Rattle.pd_sections.specs.declared.Token.{Token}
use Rattle.pd_tree.specs.declared.addition.Addition.{Addition}
use Rattle.pd_tree.specs.declared.kind.Kind.{Kind}
use Rattle.pd_tree.specs.Kinds.{is_root, HasParts}
use Rattle.pd_tree.specs.Linked.{no_addition, kind_at, tops, slots_up_to, names_in, AllComplete, AllRoots, IsWhole}
use Rattle.pd_turn.specs.declared.Node.{Node}
use Rattle.pd_turn.specs.Turned.{pre, pres}
use Rattle.pd_sl_spell.specs.Words.{Word, function, Trees, none, also}
use Rattle.pd_sl_spell.specs.Grammar.{Program, first_function, MoreFunctions, no_more_functions, next_function, a_function}
use Rattle.pd_sl_read.specs.declared.parts.Part.{Part}
use Rattle.pd_sl_read.specs.declared.parts.Shape.{Shape}
use Rattle.pd_sl_read.specs.declared.parts.Shape.TheVariants as shapes
use Rattle.pd_sl_read.specs.Places.{end_of, roses, rose_as}
use Rattle.pd_sl_parse.specs.Locals.{meaning_of}
use Rattle.pd_sl_parse.specs.Additions.{KindIs, IsAdditionOf, AreAdditionsOf}
use Rattle.pd_sl_parse.specs.Fits.{Fits, AllFit}
use Rattle.pd_sl_parse.proofs.Forest.{node_tops, AllAnnounced, heads, parts_tops, parts_announced}
use Rattle.pd_sl_parse.proofs.Fitting.{trees_fit}
use Rattle.pd_sl_parse.proofs.Standing.{past}

abbrev pub AllSmall : List Addition → Type 0
AllSmall [] = Unit {0}
AllSmall (a ∷ as') = (length (names_in a.kind) < 2 ^ 32) × (slots_up_to a.meaning < 2 ^ 32) × AllSmall as'

-- one node more
pub small_more : (as' : List Addition) (a : Addition) → AllSmall as' → length (names_in a.kind) < 2 ^ 32 → slots_up_to a.meaning < 2 ^ 32 → AllSmall (as' ++ a ∷ [])
small_more [] a h n s = (n, s, tt)
small_more (x ∷ xs) a h n s = (h.0, h.1, small_more xs a h.2 n s)

pub past_more : (xs : List (Node Part)) (x : Node Part) (qs : List Part) → past (xs ++ x ∷ []) qs ≡ x.what ∷ past xs qs
past_more [] x qs = refl
past_more (y ∷ ys) x qs = past_more ys x (y.what ∷ qs)

pub additions_more : (bytes : List ℕ) (tokens : List Token) (source : ℕ) (qs : List Part) (xs : List (Node Part)) (as' : List Addition) (x : Node Part) (a : Addition) → AreAdditionsOf bytes tokens source qs xs as' → IsAdditionOf bytes tokens source (meaning_of bytes tokens x.what.shape x.what (past xs qs)) x a → AreAdditionsOf bytes tokens source qs (xs ++ x ∷ []) (as' ++ a ∷ [])
additions_more bytes tokens source qs [] [] x a h g = (g, tt)
additions_more bytes tokens source qs [] (b ∷ bs) x a h g = absurd h
additions_more bytes tokens source qs (y ∷ ys) [] x a h g = absurd h
additions_more bytes tokens source qs (y ∷ ys) (b ∷ bs) x a h g = (h.0, additions_more bytes tokens source (y.what ∷ qs) ys bs x a h.1 g)

tops_same : (bytes : List ℕ) (tokens : List Token) (source : ℕ) (qs : List Part) (xs : List (Node Part)) (as' : List Addition) (n : ℕ) → AreAdditionsOf bytes tokens source qs xs as' → tops n as' ≡ node_tops n xs
tops_same bytes tokens source qs [] [] n h = refl
tops_same bytes tokens source qs [] (b ∷ bs) n h = absurd h
tops_same bytes tokens source qs (y ∷ ys) [] n h = absurd h
tops_same bytes tokens source qs (y ∷ ys) (b ∷ bs) n h =
    ap (λ c. n ∷ drop c (tops (n + 1) bs)) h.0.children
    ∙ ap (λ l. n ∷ drop y.parts l) (tops_same bytes tokens source (y.what ∷ qs) ys bs (n + 1) h.1)

parts_fit : (bytes : List ℕ) (tokens : List Token) (sh : Shape) (first c : ℕ) (k : Kind) → KindIs bytes tokens sh first k → Fits sh c → HasParts k c
parts_fit bytes tokens (shapes.Function n) first c k h f = subst (λ x. HasParts x c) (sym h.2) f
parts_fit bytes tokens shapes.Body first c k h f = subst (λ x. HasParts x c) (sym h) f
parts_fit bytes tokens shapes.Block first c k h f = subst (λ x. HasParts x c) (sym h) f
parts_fit bytes tokens shapes.If first c k h f = subst (λ x. HasParts x c) (sym h) f
parts_fit bytes tokens shapes.While first c k h f = subst (λ x. HasParts x c) (sym h) f
parts_fit bytes tokens shapes.Return first c k h f = subst (λ x. HasParts x c) (sym h) f
parts_fit bytes tokens shapes.Break first c k h f = subst (λ x. HasParts x c) (sym h) f
parts_fit bytes tokens shapes.Continue first c k h f = subst (λ x. HasParts x c) (sym h) f
parts_fit bytes tokens shapes.Debugger first c k h f = subst (λ x. HasParts x c) (sym h) f
parts_fit bytes tokens shapes.Or first c k h f = subst (λ x. HasParts x c) (sym h) f
parts_fit bytes tokens shapes.And first c k h f = subst (λ x. HasParts x c) (sym h) f
parts_fit bytes tokens (shapes.Binary o) first c k h f = subst (λ x. HasParts x c) (sym h) f
parts_fit bytes tokens shapes.Call first c k h f = subst (λ x. HasParts x c) (sym h) f
parts_fit bytes tokens shapes.Assign first c k h f = subst (λ x. HasParts x c) (sym h.1) f
parts_fit bytes tokens shapes.Name first c k h f = subst (λ x. HasParts x c) (sym h.1) f
parts_fit bytes tokens (shapes.Number v) first c k h f = subst (λ x. HasParts x c) (sym h) f
parts_fit bytes tokens shapes.Text first c k h f = subst (λ x. HasParts x c) (sym h.1) f

all_complete : (bytes : List ℕ) (tokens : List Token) (source : ℕ) (qs : List Part) (xs : List (Node Part)) (as' : List Addition) → AreAdditionsOf bytes tokens source qs xs as' → AllAnnounced xs → AllFit xs → AllSmall as' → AllComplete as'
all_complete bytes tokens source qs [] [] h g f m = tt
all_complete bytes tokens source qs [] (b ∷ bs) h g f m = absurd h
all_complete bytes tokens source qs (y ∷ ys) [] h g f m = absurd h
all_complete bytes tokens source qs (y ∷ ys) (b ∷ bs) h g f m =
    let r = y.what ∷ qs in
    let there : b.children ≤ length (tops 0 bs) = omega (arith, h.0.children, ap length (tops_same bytes tokens source r ys bs 0 h.1), g.0) in
    (there, parts_fit bytes tokens y.what.shape y.what.first b.children b.kind h.0.kind (subst (Fits y.what.shape) (sym h.0.children) f.0), m.0, m.1, all_complete bytes tokens source r ys bs h.1 g.1 f.1 m.2)

-- The nodes at the top are functions.
abbrev pub IsFunction : Shape → Type 0
IsFunction (shapes.Function n) = Unit {0}
IsFunction _ = ⊥

abbrev pub Functions : Trees → Type 0
Functions none = Unit {0}
Functions (also (function x xs b) ts) = Functions ts
Functions (also _ ts) = ⊥

functions_more : {ws : List Word} {T : Trees} → MoreFunctions ws T → Functions T
functions_more no_more_functions = tt
functions_more (next_function (a_function p b) m) = functions_more m

pub functions_only : {ws : List Word} {T : Trees} → Program ws T → Functions T
functions_only (first_function (a_function p b) m) = functions_more m

no_node : Node Part
no_node = record { what = record { shape = shapes.Body; first = 0; end = 0 }; parts = 0 }

root_here : (bytes : List ℕ) (tokens : List Token) (sh : Shape) (first : ℕ) (k : Kind) → KindIs bytes tokens sh first k → IsFunction sh → IsTrue (is_root k)
root_here bytes tokens (shapes.Function n) first k h f = subst (λ x. IsTrue (is_root x)) (sym h.2) refl
root_here bytes tokens shapes.Body first k h f = absurd f
root_here bytes tokens shapes.Block first k h f = absurd f
root_here bytes tokens shapes.If first k h f = absurd f
root_here bytes tokens shapes.While first k h f = absurd f
root_here bytes tokens shapes.Return first k h f = absurd f
root_here bytes tokens shapes.Break first k h f = absurd f
root_here bytes tokens shapes.Continue first k h f = absurd f
root_here bytes tokens shapes.Debugger first k h f = absurd f
root_here bytes tokens shapes.Or first k h f = absurd f
root_here bytes tokens shapes.And first k h f = absurd f
root_here bytes tokens (shapes.Binary o) first k h f = absurd f
root_here bytes tokens shapes.Call first k h f = absurd f
root_here bytes tokens shapes.Assign first k h f = absurd f
root_here bytes tokens shapes.Name first k h f = absurd f
root_here bytes tokens (shapes.Number v) first k h f = absurd f
root_here bytes tokens shapes.Text first k h f = absurd f

-- the additions split where the nodes do
abbrev pub Split : List ℕ → List Token → ℕ → List Part → List (Node Part) → List (Node Part) → List Addition → Type 0
Split bytes tokens source qs xs ys all = (as' : List Addition) × (bs : List Addition) × (all ≡ as' ++ bs) × (length as' ≡ length xs) × AreAdditionsOf bytes tokens source (past xs qs) ys bs

split : (bytes : List ℕ) (tokens : List Token) (source : ℕ) (qs : List Part) (xs ys : List (Node Part)) (all : List Addition) → AreAdditionsOf bytes tokens source qs (xs ++ ys) all → Split bytes tokens source qs xs ys all
split bytes tokens source qs [] ys all h = ([], all, refl, refl, h)
split bytes tokens source qs (x ∷ xs) ys [] h = absurd h
split bytes tokens source qs (x ∷ xs) ys (b ∷ bs) h =
    let r = split bytes tokens source (x.what ∷ qs) xs ys bs h.1 in
    (b ∷ r.0, r.1, ap (λ l. b ∷ l) r.2, ap (λ n. suc n) r.3, r.4)

root_at : (bytes : List ℕ) (tokens : List Token) (source : ℕ) (qs : List Part) (xs ys : List (Node Part)) (y : Node Part) (all : List Addition) → AreAdditionsOf bytes tokens source qs (xs ++ y ∷ ys) all → IsFunction y.what.shape → IsTrue (is_root (kind_at all (length xs)))
root_at bytes tokens source qs xs ys y all h f = go (split bytes tokens source qs xs (y ∷ ys) all h)
  where
    go : Split bytes tokens source qs xs (y ∷ ys) all → IsTrue (is_root (kind_at all (length xs)))
    go (as', [], e, n, g) = absurd g
    go (as', b ∷ bs, e, n, g) =
        let here : get_or all (length xs) no_addition ≡ b = ap (λ l. get_or l (length xs) no_addition) e ∙ ap (λ m. get_or (as' ++ b ∷ bs) m no_addition) (sym n) ∙ get_or-append_seam as' b bs no_addition in
        subst (λ (x : Addition). IsTrue (is_root x.kind)) (sym here) (root_here bytes tokens y.what.shape y.what.first b.kind g.0.kind f)

roots_from : (bytes : List ℕ) (tokens : List Token) (source : ℕ) (qs : List Part) (before : List (Node Part)) (i : ℕ) (fs : Trees) (all : List Addition) → Functions fs → AreAdditionsOf bytes tokens source qs (before ++ pres (roses i fs)) all → AllRoots all (heads (length before) (roses i fs))
roots_from bytes tokens source qs before i none all f h = tt
roots_from bytes tokens source qs before i (also (function x xs b) fs) all f h =
    let t = rose_as shapes.Block i (function x xs b) in
    let rest = pres (roses (end_of i (function x xs b)) fs) in
    let g = subst (λ l. AreAdditionsOf bytes tokens source qs l all) (sym (append_assoc before (pre t) rest)) h in
    (root_at bytes tokens source qs before _ _ all h tt, subst (λ n. AllRoots all (heads n (roses (end_of i (function x xs b)) fs))) (length-append before (pre t)) (roots_from bytes tokens source qs (before ++ pre t) (end_of i (function x xs b)) fs all f g))
roots_from bytes tokens source qs before i (also t fs) all f h = absurd f

append_none : (l : List ℕ) → l ++ [] ≡ l
append_none [] = refl
append_none (x ∷ xs) = ap (λ ys. x ∷ ys) (append_none xs)

nodes_none : (l : List (Node Part)) → l ++ [] ≡ l
nodes_none [] = refl
nodes_none (x ∷ xs) = ap (λ ys. x ∷ ys) (nodes_none xs)

pub whole : (bytes : List ℕ) (tokens : List Token) (source : ℕ) (ws : List Word) (T : Trees) (all : List Addition) → Program ws T → AreAdditionsOf bytes tokens source [] (pres (roses 0 T)) all → AllSmall all → IsWhole all
whole bytes tokens source ws T all p h m = record {
  complete = all_complete bytes tokens source [] (pres (roses 0 T)) all h (subst AllAnnounced (nodes_none (pres (roses 0 T))) (parts_announced (roses 0 T) [] tt)) (trees_fit 0 T) m;
  roots = subst (AllRoots all) (sym (tops_same bytes tokens source [] (pres (roses 0 T)) all 0 h ∙ ap (node_tops 0) (sym (nodes_none (pres (roses 0 T)))) ∙ parts_tops (roses 0 T) 0 [] ∙ append_none (heads 0 (roses 0 T)))) (roots_from bytes tokens source [] [] 0 T all (functions_only p) h);
}
