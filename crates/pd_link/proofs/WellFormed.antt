-- Every linked program is well formed.
use Rattle.std.proofs.Common.{◌≡◌, refl, sym, ◌∙◌, ap, subst, ℕ, zero, suc, ◌+◌, ◌-◌, ◌<◌, ◌≤◌, Bool, true, false, cond, IsTrue, List, [], ◌∷◌, ◌++◌, length, take, drop, get_or, Option, None, Some, arith, add-zero, get_or-drop}
use Rattle.std.proofs.lemmas.List.{length-take-le, drop-drop}
use Rattle.pd_tree.specs.declared.addition.Addition.{Addition}
use Rattle.pd_tree.specs.declared.kind.Kind.{Kind}
use Rattle.pd_tree.specs.declared.kind.Kind.TheVariants.{PlProcedure}
use Rattle.pd_tree.specs.declared.kind.Visible.{Visible}
use Rattle.pd_tree.specs.declared.kind.Meaning.{Meaning}
use Rattle.pd_tree.specs.declared.kind.Meaning.TheVariants.{Local, Item as Means, Nothing}
use Rattle.pd_tree.specs.Program.{Program, Node, Item, no_node, no_item, node_at, item_at}
use Rattle.pd_tree.specs.Kinds.{is_root, HasParts}
use Rattle.pd_tree.specs.Linked.{no_addition, kind_at, tops, AllComplete, AllRoots, Open, Walk, closed, part_came, next_root, next_level, seen_inside, walked, linked, node_of, nodes_from, items_from, items_of, mains_from, joined, program_of}
use Rattle.pd_tree.specs.WellFormed.{AllBehind, MeansAnItem, IsRootOf, IsWellFormed}
use Rattle.pd_link.specs.Linking.{AllWhole, AllMean, AllFound, IsUnlinked, AllUnlinked, AllBelow}
use Rattle.pd_link.proofs.Lists.{drop-next, drop-end}
use Rattle.pd_link.proofs.Shapes.{length-tops}
use Rattle.pd_link.proofs.Whole.{IsRootAt, whole-joined}

-- ---- the list of additions from a node on

here : {A : Type 0} (d : A) (xs : List A) (n : ℕ) (x : A) (rest : List A) → drop n xs ≡ x ∷ rest → get_or xs n d ≡ x
here d xs n x rest e =
    ap (λ k. get_or xs k d) (sym (add-zero n)) ∙ sym (get_or-drop n xs 0 d) ∙ ap (λ ys. get_or ys 0 d) e

kind-here : (all : List Addition) (n : ℕ) (a : Addition) (rest : List Addition) → drop n all ≡ a ∷ rest → kind_at all n ≡ a.kind
kind-here all n a rest e = ap (λ (x : Addition). x.kind) (here no_addition all n a rest e)

below-here : (all : List Addition) (n : ℕ) (a : Addition) (rest : List Addition) → drop n all ≡ a ∷ rest → n + suc (length rest) ≡ length all
below-here [] zero a rest e = cc
below-here [] (suc n) a rest e = cc
below-here (x ∷ xs) zero a rest e = let same : suc (length xs) ≡ suc (length rest) = ap length e in omega arith
below-here (x ∷ xs) (suc n) a rest e = let h = below-here xs n a rest e in omega arith

-- ---- parts stand behind their node

behind-drop : (n nodes k : ℕ) (ms : List ℕ) → AllBehind n nodes ms → AllBehind n nodes (drop k ms)
behind-drop n nodes zero ms h = h
behind-drop n nodes (suc k) [] h = tt
behind-drop n nodes (suc k) (m ∷ ms) h = behind-drop n nodes k ms h.2

behind-take : (n nodes k : ℕ) (ms : List ℕ) → AllBehind n nodes ms → AllBehind n nodes (take k ms)
behind-take n nodes zero ms h = tt
behind-take n nodes (suc k) [] h = tt
behind-take n nodes (suc k) (m ∷ ms) h = (h.0, h.1, behind-take n nodes k ms h.2)

tops-behind : (n nodes m : ℕ) (rest : List Addition) → n < m → m + length rest ≤ nodes → AllBehind n nodes (tops m rest)
tops-behind n nodes m [] h g = tt
tops-behind n nodes m (a ∷ rest) h g =
    (h, omega arith, behind-drop n nodes a.children (tops (m + 1) rest) (tops-behind n nodes (m + 1) rest (omega arith) (omega arith)))

-- ---- the walk: open nodes stand in functions or procedures, and the nodes behind their parts are part of no other

abbrev left_in : List Open → ℕ
left_in [] = 0
left_in (x ∷ xs) = x.left + left_in xs

abbrev AllInRoots : List Addition → ℕ → List Open → Type 0
AllInRoots all n [] = Unit {0}
AllInRoots all n (x ∷ xs) = (x.root ≤ n) × IsRootAt all x.root × AllInRoots all n xs

-- parts may still come to the innermost open node
abbrev IsWaiting : List Open → Type 0
IsWaiting [] = Unit {0}
IsWaiting (x ∷ xs) = 0 < x.left

record IsWalked (all : List Addition) (n : ℕ) (rest : List Addition) (opened : List Open) : Type 0 where
  roots : AllInRoots all n opened
  behind : AllRoots all (drop (left_in opened) (tops n rest))
  waiting : IsWaiting opened

in_roots-later : (all : List Addition) (n : ℕ) (opened : List Open) → AllInRoots all n opened → AllInRoots all (n + 1) opened
in_roots-later all n [] h = tt
in_roots-later all n (x ∷ xs) h = let below = h.0 in (omega arith, h.1, in_roots-later all n xs h.2)

in_roots-came : (all : List Addition) (n : ℕ) (opened : List Open) → AllInRoots all n opened → AllInRoots all n (part_came opened)
in_roots-came all n [] h = tt
in_roots-came all n (x ∷ xs) h = h

-- a node to which no part comes any more ends
closed-at : (all : List Addition) (n : ℕ) (rest : List Addition) (node left : ℕ) (first : Bool) (root level : ℕ) (outside : List Visible) (xs : List Open) (seen : List Visible) → AllInRoots all n (record { node = node; left = left; first = first; root = root; level = level; outside = outside } ∷ xs) → AllRoots all (drop (left + left_in xs) (tops n rest)) → ((s : List Visible) → AllRoots all (drop (left_in xs) (tops n rest)) → IsWalked all n rest (closed all xs s).open_nodes) → IsWalked all n rest (closed all (record { node = node; left = left; first = first; root = root; level = level; outside = outside } ∷ xs) seen).open_nodes
closed-at all n rest node zero first root level outside xs seen h g later =
    let none : 0 + left_in xs ≡ left_in xs = omega arith in
    later _ (subst (λ k. AllRoots all (drop k (tops n rest))) none g)
closed-at all n rest node (suc left) first root level outside xs seen h g later = record { roots = h; behind = g; waiting = omega arith }

closed-walked : (all : List Addition) (n : ℕ) (rest : List Addition) (opened : List Open) (seen : List Visible) → AllInRoots all n opened → AllRoots all (drop (left_in opened) (tops n rest)) → IsWalked all n rest (closed all opened seen).open_nodes
closed-walked all n rest [] seen h g = record { roots = tt; behind = g; waiting = tt }
closed-walked all n rest (x ∷ xs) seen h g =
    closed-at all n rest x.node x.left x.first x.root x.level x.outside xs seen h g (λ s k. closed-walked all n rest xs s h.2 k)

-- where a node's parts stand
root-pick : (all : List Addition) (n root : ℕ) (b : Bool) → (IsTrue b → IsRootAt all n) → root ≤ n → IsRootAt all root → ((cond b n root) ≤ n) × IsRootAt all (cond b n root)
root-pick all n root true own below outer = (omega arith, own refl)
root-pick all n root false own below outer = (below, outer)

root-next : (all : List Addition) (n : ℕ) (a : Addition) (rest : List Addition) (opened : List Open) → kind_at all n ≡ a.kind → IsWalked all n (a ∷ rest) opened → (next_root a.kind n opened ≤ n) × IsRootAt all (next_root a.kind n opened)
root-next all n a rest [] e h = (omega arith, h.behind.0)
root-next all n a rest (x ∷ xs) e h =
    root-pick all n x.root (is_root a.kind) (λ t. subst (λ k. IsTrue (is_root k)) (sym e) t) h.roots.0 h.roots.1

-- the nodes behind the parts that may still come
behind-next : (all : List Addition) (n : ℕ) (a : Addition) (rest : List Addition) (opened : List Open) → IsWalked all n (a ∷ rest) opened → AllRoots all (drop (a.children + left_in (part_came opened)) (tops (n + 1) rest))
behind-next all n a rest [] h =
    let none : a.children ≡ a.children + 0 = omega arith in
    subst (λ k. AllRoots all (drop k (tops (n + 1) rest))) none h.behind.1
behind-next all n a rest (x ∷ xs) h =
    let waiting = h.waiting in
    let one : x.left + left_in xs ≡ suc (x.left - 1 + left_in xs) = omega arith in
    let next : AllRoots all (drop (x.left - 1 + left_in xs) (drop a.children (tops (n + 1) rest))) = subst (λ k. AllRoots all (drop k (tops n (a ∷ rest)))) one h.behind in
    subst (AllRoots all) (drop-drop (x.left - 1 + left_in xs) a.children (tops (n + 1) rest)) next

walked-next : (all : List Addition) (n : ℕ) (a : Addition) (rest : List Addition) (opened : List Open) (seen : List Visible) → kind_at all n ≡ a.kind → IsWalked all n (a ∷ rest) opened → IsWalked all (n + 1) rest (walked all n (record { open_nodes = opened; seen = seen }) a).open_nodes
walked-next all n a rest opened seen e h =
    let root = root-next all n a rest opened e h in
    let below = root.0 in
    let inner : Open = record { node = n; left = a.children; first = true; root = next_root a.kind n opened; level = next_level a.kind opened; outside = seen } in
    closed-walked all (n + 1) rest (inner ∷ part_came opened) (seen_inside a.kind a.constants seen)
    (omega arith, root.1, in_roots-later all n (part_came opened) (in_roots-came all n opened h.roots))
    (behind-next all n a rest opened h)

-- ---- nodes

record IsSound (all : List Addition) (items : ℕ) (n : ℕ) (x : Node) : Type 0 where
  parts : AllBehind n (length all) x.children
  arity : HasParts x.kind (length x.children)
  root : x.root ≤ n
  root_kind : IsRootAt all x.root
  item : MeansAnItem items x.meaning

node-sound : (all : List Addition) (found : List (Option ℕ)) (items n : ℕ) (w : Walk) (a : Addition) (rest : List Addition) (i : Option ℕ) → drop n all ≡ a ∷ rest → get_or found n None ≡ i → AllComplete (a ∷ rest) → MeansAnItem items (linked a.meaning i) → IsWalked all n (a ∷ rest) w.open_nodes → IsSound all items n (node_of all found n w a rest)
node-sound all found items n w a rest i e f complete means h =
    let root = root-next all n a rest w.open_nodes (kind-here all n a rest e) h in
    let enough : a.children ≤ length (tops (n + 1) rest) = let c = complete.0 in omega (arith, length-tops 0 (n + 1) rest) in
    let below : n + 1 + length rest ≤ length all = let b = below-here all n a rest e in omega arith in
    record {
      parts = behind-take n (length all) a.children (tops (n + 1) rest) (tops-behind n (length all) (n + 1) rest (omega arith) below);
      arity = subst (HasParts a.kind) (sym (length-take-le a.children (tops (n + 1) rest) enough)) complete.1;
      root = root.0;
      root_kind = root.1;
      item = subst (λ o. MeansAnItem items (linked a.meaning o)) (sym f) means;
    }

nodes-sound : (all : List Addition) (found : List (Option ℕ)) (items n : ℕ) (w : Walk) (rest : List Addition) (left : List (Option ℕ)) → drop n all ≡ rest → drop n found ≡ left → length left ≡ length rest → AllComplete rest → AllMean items rest left → IsWalked all n rest w.open_nodes → (m : ℕ) → m < length rest → IsSound all items (n + m) (get_or (nodes_from all found n w rest) m no_node)
nodes-sound all found items n w [] left e f same complete means h m below = absurd (omega arith)
nodes-sound all found items n w (a ∷ rest) [] e f same complete means h m below = absurd (omega arith)
nodes-sound all found items n w (a ∷ rest) (i ∷ left) e f same complete means h zero below =
    let x = node_of all found n w a rest in
    subst (λ k. IsSound all items k x) (sym (add-zero n)) (node-sound all found items n w a rest i e (here None found n i left f) complete means.0 h)
nodes-sound all found items n w (a ∷ rest) (i ∷ left) e f same complete means h (suc m) below =
    let place : n + 1 + m ≡ n + suc m = omega arith in
    let x = get_or (nodes_from all found (n + 1) (walked all n w a) rest) m no_node in
    subst (λ k. IsSound all items k x) place
    (nodes-sound all found items (n + 1) (walked all n w a) rest left (drop-next n all a rest e) (drop-next n found i left f) (omega arith) complete.4 means.1 (walked-next all n a rest w.open_nodes w.seen (kind-here all n a rest e) h) m (omega arith))

means-one : (items : ℕ) (meaning : Meaning) → IsUnlinked meaning → MeansAnItem items meaning
means-one items (Local up slot) h = tt
means-one items (Means i) h = absurd h
means-one items Nothing h = tt

-- what was found is there, and no other name means an item
pub means-found : (items : ℕ) (all : List Addition) (found : List (Option ℕ)) → AllUnlinked all → AllFound items found → AllMean items all found
means-found items [] found h g = tt
means-found items (a ∷ rest) [] h g = tt
means-found items (a ∷ rest) (None ∷ found) h g = (means-one items a.meaning h.0, means-found items rest found h.1 g)
means-found items (a ∷ rest) (Some i ∷ found) h g = (g.0, means-found items rest found h.1 g.1)

-- ---- items and main blocks

abbrev IsRootIn : List Addition → Option ℕ → Type 0
IsRootIn all None = Unit {0}
IsRootIn all (Some n) = (n < length all) × IsRootAt all n

item-pick : (all : List Addition) (b : Bool) (x : Item) (xs : List Item) (i : ℕ) → (IsTrue b → IsRootIn all x.root) → ((j : ℕ) → IsRootIn all (get_or xs j no_item).root) → IsRootIn all (get_or (cond b (x ∷ xs) xs) i no_item).root
item-pick all true x xs zero h later = h refl
item-pick all true x xs (suc i) h later = later i
item-pick all false x xs i h later = later i

items-sound : (all : List Addition) (n : ℕ) (rest : List Addition) → drop n all ≡ rest → (i : ℕ) → IsRootIn all (get_or (items_from n rest) i no_item).root
items-sound all n [] e zero = tt
items-sound all n [] e (suc i) = tt
items-sound all n (a ∷ rest) e i =
    let below : n < length all = let b = below-here all n a rest e in omega arith in
    item-pick all (is_root a.kind) _ (items_from (n + 1) rest) i
    (λ t. (below, subst (λ k. IsTrue (is_root k)) (sym (kind-here all n a rest e)) t))
    (items-sound all (n + 1) rest (drop-next n all a rest e))

abbrev main_at : ℕ → Kind → Option ℕ
main_at n (PlProcedure name variables) = Some n
main_at n _ = None

main-sound : (all : List Addition) (n : ℕ) (k : Kind) → n < length all → kind_at all n ≡ k → IsRootIn all (main_at n k)
main-sound all n (PlProcedure name variables) below e = (below, subst (λ k. IsTrue (is_root k)) (sym e) refl)
main-sound all n _ below e = tt

mains-sound : (all : List Addition) (n : ℕ) (trees : List (List Addition)) → drop n all ≡ joined trees → (s : ℕ) → IsRootIn all (get_or (mains_from n trees) s None)
mains-sound all n [] e zero = tt
mains-sound all n [] e (suc s) = tt
mains-sound all n ([] ∷ ts) e zero = tt
mains-sound all n ((a ∷ rest) ∷ ts) e zero =
    let below : n < length all = let b = below-here all n a (rest ++ joined ts) e in omega arith in
    main-sound all n a.kind below (kind-here all n a (rest ++ joined ts) e)
mains-sound all n (t ∷ ts) e (suc s) = mains-sound all (n + length t) ts (sym (drop-drop (length t) n all) ∙ ap (drop (length t)) e ∙ drop-end t (joined ts)) s

entries-sound : (items : ℕ) (entries : List ℕ) → AllBelow items entries → (c : ℕ) → c < length entries → get_or entries c 0 < items
entries-sound items [] h c below = absurd (omega arith)
entries-sound items (x ∷ xs) h zero below = h.0
entries-sound items (x ∷ xs) h (suc c) below = entries-sound items xs h.1 c (omega arith)

-- ---- programs

length-nodes : (all : List Addition) (found : List (Option ℕ)) (n : ℕ) (w : Walk) (rest : List Addition) → length (nodes_from all found n w rest) ≡ length rest
length-nodes all found n w [] = refl
length-nodes all found n w (a ∷ rest) = ap suc (length-nodes all found (n + 1) (walked all n w a) rest)

kind-nodes : (all : List Addition) (found : List (Option ℕ)) (n : ℕ) (w : Walk) (rest : List Addition) (m : ℕ) → (get_or (nodes_from all found n w rest) m no_node).kind ≡ kind_at rest m
kind-nodes all found n w [] zero = refl
kind-nodes all found n w [] (suc m) = refl
kind-nodes all found n w (a ∷ rest) zero = refl
kind-nodes all found n w (a ∷ rest) (suc m) = kind-nodes all found (n + 1) (walked all n w a) rest m

-- the walk before the first node
abbrev start : Walk
start = record { open_nodes = []; seen = [] }

items-all : (all : List Addition) (i : ℕ) → IsRootIn all (get_or (items_of all) i no_item).root
items-all all zero = tt
items-all all (suc i) = items-sound all 0 all refl i

root-of : (all : List Addition) (p : Program) (o : Option ℕ) → length p.nodes ≡ length all → ((m : ℕ) → IsRootAt all m → IsTrue (is_root (node_at p m).kind)) → IsRootIn all o → IsRootOf p o
root-of all p None nodes root h = tt
root-of all p (Some n) nodes root h = let below = h.0 in (omega arith, root n h.1)

pub well-formed : (trees : List (List Addition)) (found : List (Option ℕ)) (entries : List ℕ) → AllWhole trees → length found ≡ length (joined trees) → AllMean (length (items_of (joined trees))) (joined trees) found → AllBelow (length (items_of (joined trees))) entries → IsWellFormed (program_of trees found entries)
well-formed trees found entries whole same means below =
    let all = joined trees in
    let w = whole-joined trees whole in
    let items = length (items_of all) in
    let p = program_of trees found entries in
    let nodes : length p.nodes ≡ length all = length-nodes all found 0 start all in
    let first : IsWalked all 0 all [] = record { roots = tt; behind = w.roots; waiting = tt } in
    let kind : (m : ℕ) → (node_at p m).kind ≡ kind_at all m = λ m. kind-nodes all found 0 start all m in
    let root : (m : ℕ) → IsRootAt all m → IsTrue (is_root (node_at p m).kind) = λ m h. subst (λ k. IsTrue (is_root k)) (sym (kind m)) h in
    record {
      nodes = λ n h.
          let at : n < length all = omega (arith, nodes) in
          let place : 0 + n ≡ n = omega arith in
          let sound : IsSound all items n (node_at p n) = subst (λ k. IsSound all items k (node_at p n)) place (nodes-sound all found items 0 start all found refl refl same w.complete means first n at) in
          record {
            parts = subst (λ k. AllBehind n k (node_at p n).children) (sym nodes) sound.parts;
            arity = sound.arity;
            root = sound.root;
            root_kind = root (node_at p n).root sound.root_kind;
            item = sound.item;
          };
      items = λ i h. root-of all p (item_at p i).root nodes root (items-all all i);
      mains = λ s h. root-of all p (get_or p.mains s None) nodes root (mains-sound all 0 trees refl s);
      entries = entries-sound items entries below;
      builtin = refl;
    }
