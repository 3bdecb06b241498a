-- In a linked program the root of each item has its tag.
use Rattle.std.proofs.Common.{◌≡◌, ℕ, zero, suc, ◌+◌, Bool, true, false, cond, List, [], ◌∷◌, Option, Some, None, refl, sym, ap, subst, ◌∙◌, ⊎_elim, arith}
use Rattle.std.specs.Prelude.{slice_index_or}
use Rattle.std.proofs.lemmas.Bool.{cases_Bool}
use Rattle.pd_values.specs.declared.value.Tag.TheVariants.{Root}
use Rattle.pd_tree.specs.declared.kind.Kind.{Kind}
use Rattle.pd_tree.specs.declared.kind.Kind.TheVariants.{SlFunction, PlProcedure}
use Rattle.pd_tree.specs.declared.kind.Meaning.{Meaning}
use Rattle.pd_tree.specs.declared.addition.Addition.{Addition}
use Rattle.pd_tree.specs.Program.{Program, Node, Item, node_at, no_node, no_item, has_tag}
use Rattle.pd_tree.specs.Kinds.{is_root, root_name_of, tags_of}
use Rattle.pd_tree.specs.Linked.{Walk, walked, nodes_from, items_from, joined, program_of}
use Rattle.pd_nesting.specs.Nesting.{is_rooted, AreRooted}

tagged : (k : Kind) (m : Meaning) (stands : Bool) → is_root k ≡ true → has_tag (tags_of k m stands) Root ≡ true
tagged (SlFunction name parameters) m stands h = refl
tagged (PlProcedure name variables) m stands h = refl
tagged _ m stands h = cc

-- a node of these, of which the first has the number n, has the tag where it is this one
abbrev HasRoot : ℕ → List Node → Option ℕ → Type 0
HasRoot n nodes None = Unit {0}
HasRoot n nodes (Some r) = (k : ℕ) × (r ≡ n + k) × (has_tag (slice_index_or nodes k no_node).tags Root ≡ true)

later : (n : ℕ) (node : Node) (nodes : List Node) (r : Option ℕ) → HasRoot (n + 1) nodes r → HasRoot n (node ∷ nodes) r
later n node nodes None h = tt
later n node nodes (Some r) h = (suc h.0, (let e = h.1 in omega (arith, e)), h.2)

-- the items from a function or procedure on
at_root : (all : List Addition) (found : List (Option ℕ)) (n : ℕ) (w : Walk) (a : Addition) (rest : List Addition) → is_root a.kind ≡ true
    → ((i : ℕ) → HasRoot (n + 1) (nodes_from all found (n + 1) (walked all n w a) rest) (slice_index_or (items_from (n + 1) rest) i no_item).root)
    → (i : ℕ) → HasRoot n (nodes_from all found n w (a ∷ rest)) (slice_index_or (record { name = root_name_of a.kind; root = Some n } ∷ items_from (n + 1) rest) i no_item).root
at_root all found n w a rest h go zero = (0, omega arith, tagged a.kind _ _ h)
at_root all found n w a rest h go (suc i) = later n _ _ _ (go i)

item_rooted : (all : List Addition) (found : List (Option ℕ)) (n : ℕ) (w : Walk) (rest : List Addition) (i : ℕ) → HasRoot n (nodes_from all found n w rest) (slice_index_or (items_from n rest) i no_item).root
item_rooted all found n w [] i = tt
item_rooted all found n w (a ∷ rest) i =
    let here : Item = record { name = root_name_of a.kind; root = Some n } in
    let go = item_rooted all found (n + 1) (walked all n w a) rest in
    ⊎_elim
    (λ (h : is_root a.kind ≡ true). subst (λ b. HasRoot n (nodes_from all found n w (a ∷ rest)) (slice_index_or (cond b (here ∷ items_from (n + 1) rest) (items_from (n + 1) rest)) i no_item).root) (sym h) (at_root all found n w a rest h go i))
    (λ (h : is_root a.kind ≡ false). subst (λ b. HasRoot n (nodes_from all found n w (a ∷ rest)) (slice_index_or (cond b (here ∷ items_from (n + 1) rest) (items_from (n + 1) rest)) i no_item).root) (sym h) (later n _ _ _ (go i)))
    (cases_Bool (is_root a.kind))

from_root : (p : Program) (r : Option ℕ) → HasRoot 0 p.nodes r → is_rooted p r ≡ true
from_root p None h = refl
from_root p (Some r) h =
    let e = h.1 in
    let same : r ≡ h.0 = omega (arith, e) in
    ap (λ k. has_tag (node_at p k).tags Root) same ∙ h.2

pub linked_rooted : (trees : List (List Addition)) (found : List (Option ℕ)) (entries : List ℕ) → AreRooted (program_of trees found entries)
linked_rooted trees found entries zero = refl
linked_rooted trees found entries (suc i) =
    from_root (program_of trees found entries) _ (item_rooted (joined trees) found 0 (record { open_nodes = []; seen = [] }) (joined trees) i)
