-- The additions of a source's nodes are whole: each announced part is there, and the node at the top is the main block.
use Rattle.std.proofs.Common.{◌≡◌, ℕ, ◌+◌, ◌<◌, ◌≤◌, ◌^◌, IsTrue, List, [], ◌∷◌, ◌++◌, length, drop, refl, sym, ap, subst, ◌∙◌, arith}
use Rattle.pd_sections.specs.declared.Token.{Token}
use Rattle.pd_tree.specs.declared.addition.Addition.{Addition}
use Rattle.pd_tree.specs.declared.kind.Kind.{Kind}
use Rattle.pd_tree.specs.Kinds.{is_root, HasParts}
use Rattle.pd_tree.specs.Linked.{tops, slots_up_to, names_in, AllComplete, AllRoots, IsWhole}
use Rattle.pd_turn.specs.declared.Node.{Node}
use Rattle.pd_turn.specs.Turned.{pres}
use Rattle.pd_pl0_spell.specs.Words.{Word, Tree}
use Rattle.pd_pl0_spell.specs.Names.{every_rule, no_declarations}
use Rattle.pd_pl0_spell.specs.Grammar.{Program, a_program, a_block}
use Rattle.pd_pl0_read.specs.declared.parts.Part.{Part}
use Rattle.pd_pl0_read.specs.declared.parts.Shape.{Shape}
use Rattle.pd_pl0_read.specs.declared.parts.Shape.TheVariants as shapes
use Rattle.pd_pl0_read.specs.Places.{program_trees}
use Rattle.pd_pl0_parse.specs.Additions.{KindIs, IsAdditionOf, AreAdditionsOf}
use Rattle.pd_pl0_parse.specs.Fits.{Fits, AllFit}
use Rattle.pd_pl0_parse.proofs.Forest.{node_tops, AllAnnounced, heads, parts_tops, parts_announced}
use Rattle.pd_pl0_parse.proofs.Fitting.{fits}

abbrev pub AllSmall : List Addition → Type 0
AllSmall [] = Unit {0}
AllSmall (a ∷ as') = (length (names_in a.kind) < 2 ^ 32) × (slots_up_to a.meaning < 2 ^ 32) × AllSmall as'

-- one node more
pub small_more : (as' : List Addition) (a : Addition) → AllSmall as' → length (names_in a.kind) < 2 ^ 32 → slots_up_to a.meaning < 2 ^ 32 → AllSmall (as' ++ a ∷ [])
small_more [] a h n s = (n, s, tt)
small_more (x ∷ xs) a h n s = (h.0, h.1, small_more xs a h.2 n s)

pub additions_more : (bytes : List ℕ) (tokens : List Token) (source : ℕ) (xs : List (Node Part)) (as' : List Addition) (x : Node Part) (a : Addition) → AreAdditionsOf bytes tokens source xs as' → IsAdditionOf bytes tokens source x a → AreAdditionsOf bytes tokens source (xs ++ x ∷ []) (as' ++ a ∷ [])
additions_more bytes tokens source [] [] x a h g = (g, tt)
additions_more bytes tokens source [] (b ∷ bs) x a h g = absurd h
additions_more bytes tokens source (y ∷ ys) [] x a h g = absurd h
additions_more bytes tokens source (y ∷ ys) (b ∷ bs) x a h g = (h.0, additions_more bytes tokens source ys bs x a h.1 g)

tops_same : (bytes : List ℕ) (tokens : List Token) (source : ℕ) (xs : List (Node Part)) (as' : List Addition) (n : ℕ) → AreAdditionsOf bytes tokens source xs as' → tops n as' ≡ node_tops n xs
tops_same bytes tokens source [] [] n h = refl
tops_same bytes tokens source [] (b ∷ bs) n h = absurd h
tops_same bytes tokens source (y ∷ ys) [] n h = absurd h
tops_same bytes tokens source (y ∷ ys) (b ∷ bs) n h =
    ap (λ c. n ∷ drop c (tops (n + 1) bs)) h.0.children
    ∙ ap (λ l. n ∷ drop y.parts l) (tops_same bytes tokens source ys bs (n + 1) h.1)

parts_fit : (bytes : List ℕ) (tokens : List Token) (sh : Shape) (first c : ℕ) (k : Kind) → KindIs bytes tokens sh first k → Fits sh c → HasParts k c
parts_fit bytes tokens (shapes.Main m n) first c k h f = subst (λ x. HasParts x c) (sym h.1) f
parts_fit bytes tokens (shapes.Procedure m n) first c k h f = subst (λ x. HasParts x c) (sym h.2) f
parts_fit bytes tokens shapes.Body first c k h f = subst (λ x. HasParts x c) (sym h) f
parts_fit bytes tokens shapes.Empty first c k h f = subst (λ x. HasParts x c) (sym h) f
parts_fit bytes tokens shapes.Begin first c k h f = subst (λ x. HasParts x c) (sym h) f
parts_fit bytes tokens shapes.If first c k h f = subst (λ x. HasParts x c) (sym h) f
parts_fit bytes tokens shapes.While first c k h f = subst (λ x. HasParts x c) (sym h) f
parts_fit bytes tokens (shapes.Assign m) first c k h f = subst (λ x. HasParts x c) (sym h.1) f
parts_fit bytes tokens shapes.Call first c k h f = subst (λ x. HasParts x c) (sym h.1) f
parts_fit bytes tokens shapes.Write first c k h f = subst (λ x. HasParts x c) (sym h) f
parts_fit bytes tokens shapes.Odd first c k h f = subst (λ x. HasParts x c) (sym h) f
parts_fit bytes tokens (shapes.Binary o) first c k h f = subst (λ x. HasParts x c) (sym h) f
parts_fit bytes tokens shapes.Plus first c k h f = subst (λ x. HasParts x c) (sym h) f
parts_fit bytes tokens shapes.Minus first c k h f = subst (λ x. HasParts x c) (sym h) f
parts_fit bytes tokens (shapes.Name m) first c k h f = subst (λ x. HasParts x c) (sym h.1) f
parts_fit bytes tokens (shapes.Number v) first c k h f = subst (λ x. HasParts x c) (sym h) f

all_complete : (bytes : List ℕ) (tokens : List Token) (source : ℕ) (xs : List (Node Part)) (as' : List Addition) → AreAdditionsOf bytes tokens source xs as' → AllAnnounced xs → AllFit xs → AllSmall as' → AllComplete as'
all_complete bytes tokens source [] [] h g f m = tt
all_complete bytes tokens source [] (b ∷ bs) h g f m = absurd h
all_complete bytes tokens source (y ∷ ys) [] h g f m = absurd h
all_complete bytes tokens source (y ∷ ys) (b ∷ bs) h g f m =
    let there : b.children ≤ length (tops 0 bs) = omega (arith, h.0.children, ap length (tops_same bytes tokens source ys bs 0 h.1), g.0) in
    (there, parts_fit bytes tokens y.what.shape y.what.first b.children b.kind h.0.kind (subst (Fits y.what.shape) (sym h.0.children) f.0), m.0, m.1, all_complete bytes tokens source ys bs h.1 g.1 f.1 m.2)

-- The node at the top is the main block.
main_first : (bytes : List ℕ) (tokens : List Token) (source : ℕ) (ws : List Word) (T : Tree) (all : List Addition) → Program every_rule ws T → AreAdditionsOf bytes tokens source (pres (program_trees T)) all → AllRoots all (0 ∷ [])
main_first bytes tokens source ws T [] (a_program (a_block c v p s)) h = absurd h
main_first bytes tokens source ws T (a ∷ as') (a_program (a_block c v p s)) h = (subst (λ x. IsTrue (is_root x)) (sym h.0.kind.1) refl, tt)

append_none : (l : List ℕ) → l ++ [] ≡ l
append_none [] = refl
append_none (x ∷ xs) = ap (λ ys. x ∷ ys) (append_none xs)

nodes_none : (l : List (Node Part)) → l ++ [] ≡ l
nodes_none [] = refl
nodes_none (x ∷ xs) = ap (λ ys. x ∷ ys) (nodes_none xs)

pub whole : (bytes : List ℕ) (tokens : List Token) (source : ℕ) (ws : List Word) (T : Tree) (all : List Addition) → Program every_rule ws T → AreAdditionsOf bytes tokens source (pres (program_trees T)) all → AllSmall all → IsWhole all
whole bytes tokens source ws T all p h m = record {
  complete = all_complete bytes tokens source (pres (program_trees T)) all h (subst AllAnnounced (nodes_none (pres (program_trees T))) (parts_announced (program_trees T) [] tt)) (subst AllFit (sym (nodes_none _)) (fits no_declarations 0 T)) m;
  roots = subst (AllRoots all) (sym (tops_same bytes tokens source (pres (program_trees T)) all 0 h ∙ ap (node_tops 0) (sym (nodes_none (pres (program_trees T)))) ∙ parts_tops (program_trees T) 0 [] ∙ append_none (heads 0 (program_trees T)))) (main_first bytes tokens source ws T all p h);
}
