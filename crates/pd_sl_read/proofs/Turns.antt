-- The nodes behind their parts are those of the tree of nodes.
use Rattle.std.proofs.Common.{◌≡◌, ℕ, suc, ◌+◌, List, [], ◌∷◌, ◌++◌, refl, sym, ap, ◌∙◌, append_assoc, arith}
use Rattle.pd_turn.specs.declared.Node.{Node}
use Rattle.pd_turn.specs.Turned
use Rattle.pd_turn.specs.Turned.{Rose, rose, Roses}
use Rattle.pd_sl_spell.specs.Words.{Tree, name, number, text, parens, call, assign, either, both, compared, sum, product, while, conditional, conditional_else, return_nothing, return, break, continue, debugger, expression_statement, block, function, Trees, none, also}
use Rattle.pd_sl_read.specs.declared.parts.Part.{Part}
use Rattle.pd_sl_read.specs.declared.parts.Shape.{Shape}
use Rattle.pd_sl_read.specs.declared.parts.Shape.TheVariants as shapes
use Rattle.pd_sl_read.specs.Held.{node}
use Rattle.pd_sl_read.specs.Places.{comparison, addition, multiplication, length_of, end_of, arguments_end, trees_end, body_place, count, post_as, argument_posts, more_argument_posts, posts, part, two, rose_as, argument_roses, more_argument_roses, roses}
use Rattle.pd_sl_read.proofs.Follows.{Nodes, append_none}

one_more : (n : ℕ) → suc n ≡ n + 1
one_more n = omega arith

arguments_count : (i : ℕ) (es : Trees) → Turned.count (argument_roses i es) ≡ count es
arguments_count i none = refl
arguments_count i (also e es) = ap (λ n. suc n) (more_count (end_of i e) es) ∙ one_more (count es)
  where
    more_count : (i : ℕ) (es : Trees) → Turned.count (more_argument_roses i es) ≡ count es
    more_count i none = refl
    more_count i (also e es) = ap (λ n. suc n) (more_count (end_of (i + 1) e) es) ∙ one_more (count es)

trees_count : (i : ℕ) (ts : Trees) → Turned.count (roses i ts) ≡ count ts
trees_count i none = refl
trees_count i (also t ts) = ap (λ n. suc n) (trees_count (end_of i t) ts) ∙ one_more (count ts)

one_part : (p : Part) (a : Rose Part) (as' : Nodes) → Turned.post a ≡ as' → Turned.post (rose p (Turned.also a Turned.none)) ≡ as' ++ node p.shape p.first p.end 1 ∷ []
one_part p a as' h = ap (λ ns. ns ++ node p.shape p.first p.end 1 ∷ []) (append_none (Turned.post a) ∙ h)

two_parts : (p : Part) (a b : Rose Part) (as' bs : Nodes) → Turned.post a ≡ as' → Turned.post b ≡ bs → Turned.post (rose p (two a b)) ≡ (as' ++ bs) ++ node p.shape p.first p.end 2 ∷ []
two_parts p a b as' bs h g =
    ap (λ ns. ns ++ node p.shape p.first p.end 2 ∷ []) (ap (λ ns. Turned.post a ++ ns) (append_none (Turned.post b) ∙ g) ∙ ap (λ ns. ns ++ bs) h)

three_parts : (p : Part) (a b c : Rose Part) (as' bs cs : Nodes) → Turned.post a ≡ as' → Turned.post b ≡ bs → Turned.post c ≡ cs → Turned.post (rose p (Turned.also a (two b c))) ≡ ((as' ++ bs) ++ cs) ++ node p.shape p.first p.end 3 ∷ []
three_parts p a b c as' bs cs h g k =
    ap (λ ns. ns ++ node p.shape p.first p.end 3 ∷ [])
    (ap (λ ns. Turned.post a ++ (Turned.post b ++ ns)) (append_none (Turned.post c) ∙ k)
    ∙ ap (λ ns. Turned.post a ++ (ns ++ cs)) g ∙ ap (λ ns. ns ++ (bs ++ cs)) h ∙ sym (append_assoc as' bs cs))

call_parts : (p : Part) (a : Rose Part) (es : Roses Part) (as' bs : Nodes) (n : ℕ) → Turned.post a ≡ as' → Turned.posts es ≡ bs → Turned.count es ≡ n → Turned.post (rose p (Turned.also a es)) ≡ (as' ++ bs) ++ node p.shape p.first p.end (n + 1) ∷ []
call_parts p a es as' bs n h g k =
    ap (λ ns. (ns ++ Turned.posts es) ++ node p.shape p.first p.end (suc (Turned.count es)) ∷ []) h
    ∙ ap (λ ns. (as' ++ ns) ++ node p.shape p.first p.end (suc (Turned.count es)) ∷ []) g
    ∙ ap (λ m. (as' ++ bs) ++ node p.shape p.first p.end m ∷ []) (ap (λ m. suc m) k ∙ one_more n)

block_parts : (p : Part) (ts : Roses Part) (as' : Nodes) (n : ℕ) → Turned.posts ts ≡ as' → Turned.count ts ≡ n → Turned.post (rose p ts) ≡ as' ++ node p.shape p.first p.end n ∷ []
block_parts p ts as' n h k = ap (λ ns. ns ++ node p.shape p.first p.end (Turned.count ts) ∷ []) h ∙ ap (λ m. as' ++ node p.shape p.first p.end m ∷ []) k

both_same : (as' bs cs ds : Nodes) → as' ≡ cs → bs ≡ ds → as' ++ bs ≡ cs ++ ds
both_same as' bs cs ds h g = ap (λ ns. ns ++ bs) h ∙ ap (λ ns. cs ++ ns) g

mutual
  pub turned_as : (s : Shape) (i : ℕ) (t : Tree) → Turned.post (rose_as s i t) ≡ post_as s i t
  turned_as s i (name x) = refl
  turned_as s i (number n) = refl
  turned_as s i (text t) = refl
  turned_as s i (parens e) = turned_as shapes.Block (i + 1) e
  turned_as s i (call c es) = call_parts (part shapes.Call i (arguments_end (end_of i c + 1) es)) (rose_as shapes.Block i c) (argument_roses (end_of i c + 1) es) _ _ _ (turned_as shapes.Block i c) (arguments_turned (end_of i c + 1) es) (arguments_count (end_of i c + 1) es)
  turned_as s i (assign x e) = one_part (part shapes.Assign i (end_of ((i + 1) + 1) e)) (rose_as shapes.Block ((i + 1) + 1) e) _ (turned_as shapes.Block ((i + 1) + 1) e)
  turned_as s i (either a b) = two_parts (part shapes.Or i (end_of (end_of i a + 1) b)) (rose_as shapes.Block i a) (rose_as shapes.Block (end_of i a + 1) b) _ _ (turned_as shapes.Block i a) (turned_as shapes.Block (end_of i a + 1) b)
  turned_as s i (both a b) = two_parts (part shapes.And i (end_of (end_of i a + 1) b)) (rose_as shapes.Block i a) (rose_as shapes.Block (end_of i a + 1) b) _ _ (turned_as shapes.Block i a) (turned_as shapes.Block (end_of i a + 1) b)
  turned_as s i (compared o a b) = two_parts (part (shapes.Binary (comparison o)) i (end_of (end_of i a + 1) b)) (rose_as shapes.Block i a) (rose_as shapes.Block (end_of i a + 1) b) _ _ (turned_as shapes.Block i a) (turned_as shapes.Block (end_of i a + 1) b)
  turned_as s i (sum o a b) = two_parts (part (shapes.Binary (addition o)) i (end_of (end_of i a + 1) b)) (rose_as shapes.Block i a) (rose_as shapes.Block (end_of i a + 1) b) _ _ (turned_as shapes.Block i a) (turned_as shapes.Block (end_of i a + 1) b)
  turned_as s i (product o a b) = two_parts (part (shapes.Binary (multiplication o)) i (end_of (end_of i a + 1) b)) (rose_as shapes.Block i a) (rose_as shapes.Block (end_of i a + 1) b) _ _ (turned_as shapes.Block i a) (turned_as shapes.Block (end_of i a + 1) b)
  turned_as s i (while c b) = two_parts (part shapes.While i (end_of (end_of ((i + 1) + 1) c + 1) b)) (rose_as shapes.Block ((i + 1) + 1) c) (rose_as shapes.Block (end_of ((i + 1) + 1) c + 1) b) _ _ (turned_as shapes.Block ((i + 1) + 1) c) (turned_as shapes.Block (end_of ((i + 1) + 1) c + 1) b)
  turned_as s i (conditional c b) = two_parts (part shapes.If i (end_of (end_of ((i + 1) + 1) c + 1) b)) (rose_as shapes.Block ((i + 1) + 1) c) (rose_as shapes.Block (end_of ((i + 1) + 1) c + 1) b) _ _ (turned_as shapes.Block ((i + 1) + 1) c) (turned_as shapes.Block (end_of ((i + 1) + 1) c + 1) b)
  turned_as s i (conditional_else c b d) = three_parts (part shapes.If i (end_of (end_of (end_of ((i + 1) + 1) c + 1) b + 1) d)) (rose_as shapes.Block ((i + 1) + 1) c) (rose_as shapes.Block (end_of ((i + 1) + 1) c + 1) b) (rose_as shapes.Block (end_of (end_of ((i + 1) + 1) c + 1) b + 1) d) _ _ _ (turned_as shapes.Block ((i + 1) + 1) c) (turned_as shapes.Block (end_of ((i + 1) + 1) c + 1) b) (turned_as shapes.Block (end_of (end_of ((i + 1) + 1) c + 1) b + 1) d)
  turned_as s i return_nothing = refl
  turned_as s i (return e) = one_part (part shapes.Return i (end_of (i + 1) e)) (rose_as shapes.Block (i + 1) e) _ (turned_as shapes.Block (i + 1) e)
  turned_as s i break = refl
  turned_as s i continue = refl
  turned_as s i debugger = refl
  turned_as s i (expression_statement e) = turned_as shapes.Block i e
  turned_as s i (block ss) = block_parts (part s i (trees_end (i + 1) ss + 1)) (roses (i + 1) ss) _ _ (all_turned (i + 1) ss) (trees_count (i + 1) ss)
  turned_as s i (function x xs b) = one_part (part (shapes.Function (length_of xs)) i (end_of (body_place i xs) b)) (rose_as shapes.Body (body_place i xs) b) _ (turned_as shapes.Body (body_place i xs) b)

  arguments_turned : (i : ℕ) (es : Trees) → Turned.posts (argument_roses i es) ≡ argument_posts i es
  arguments_turned i none = refl
  arguments_turned i (also e es) = both_same (Turned.post (rose_as shapes.Block i e)) (Turned.posts (more_argument_roses (end_of i e) es)) _ _ (turned_as shapes.Block i e) (more_arguments_turned (end_of i e) es)

  more_arguments_turned : (i : ℕ) (es : Trees) → Turned.posts (more_argument_roses i es) ≡ more_argument_posts i es
  more_arguments_turned i none = refl
  more_arguments_turned i (also e es) = both_same (Turned.post (rose_as shapes.Block (i + 1) e)) (Turned.posts (more_argument_roses (end_of (i + 1) e) es)) _ _ (turned_as shapes.Block (i + 1) e) (more_arguments_turned (end_of (i + 1) e) es)

  pub all_turned : (i : ℕ) (ts : Trees) → Turned.posts (roses i ts) ≡ posts i ts
  all_turned i none = refl
  all_turned i (also t ts) = both_same (Turned.post (rose_as shapes.Block i t)) (Turned.posts (roses (end_of i t) ts)) _ _ (turned_as shapes.Block i t) (all_turned (end_of i t) ts)
