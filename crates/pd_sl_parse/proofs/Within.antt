-- A function has no more parameters than its source has tokens.
use Rattle.std.proofs.Common.{◌≡◌, ℕ, suc, ◌+◌, ◌≤◌, List, [], ◌∷◌, ◌++◌, length, Option, Some, None, refl, ap, length-append, arith}
use Rattle.pd_turn.specs.declared.Node.{Node}
use Rattle.pd_turn.specs.Turned
use Rattle.pd_turn.specs.Turned.{Rose, rose, Roses, pre, pres, post}
use Rattle.pd_sl_spell.specs.Words.{Word, Tree, name, number, text, parens, call, assign, either, both, compared, sum, product, while, conditional, conditional_else, return_nothing, return, break, continue, debugger, expression_statement, block, function, Trees, none, also}
use Rattle.pd_sl_spell.specs.Grammar.{Program}
use Rattle.pd_sl_spell.specs.Machine.{State, Start, Between, step, final, run, followed}
use Rattle.pd_sl_spell.proofs.Forward.{complete}
use Rattle.pd_sl_read.specs.declared.parts.Part.{Part}
use Rattle.pd_sl_read.specs.declared.parts.Shape.{Shape}
use Rattle.pd_sl_read.specs.declared.parts.Shape.TheVariants as shapes
use Rattle.pd_sl_read.specs.Places.{end_of, arguments_end, more_arguments_end, trees_end, more_parameters_end, parameters_end, body_place, count, length_of, rose_as, argument_roses, more_argument_roses, roses}
use Rattle.pd_sl_read.specs.Behind.{size}
use Rattle.pd_sl_read.proofs.Sizes.{IsRegular, Grows, grows}

parameters_grow : (i : ℕ) (xs : List (List ℕ)) → i + length_of xs ≤ more_parameters_end i xs
parameters_grow i [] = omega arith
parameters_grow i (x ∷ xs) = omega (arith, parameters_grow ((i + 1) + 1) xs)

some_parameters_grow : (i : ℕ) (xs : List (List ℕ)) → i + length_of xs ≤ parameters_end i xs
some_parameters_grow i [] = omega arith
some_parameters_grow i (x ∷ xs) = omega (arith, parameters_grow (i + 1) xs)

pub body_grows : (i : ℕ) (xs : List (List ℕ)) → i + length_of xs ≤ body_place i xs
body_grows i xs = omega (arith, some_parameters_grow (((i + 1) + 1) + 1) xs)

-- A tree has a word at least.
mutual
  pub tree_grows : (i : ℕ) (t : Tree) → i + 1 ≤ end_of i t
  tree_grows i (name x) = omega arith
  tree_grows i (number n) = omega arith
  tree_grows i (text s) = omega arith
  tree_grows i (parens e) = omega (arith, tree_grows (i + 1) e)
  tree_grows i (call c es) = omega (arith, tree_grows i c, arguments_grow (end_of i c + 1) es)
  tree_grows i (assign x e) = omega (arith, tree_grows ((i + 1) + 1) e)
  tree_grows i (either a b) = omega (arith, tree_grows i a, tree_grows (end_of i a + 1) b)
  tree_grows i (both a b) = omega (arith, tree_grows i a, tree_grows (end_of i a + 1) b)
  tree_grows i (compared o a b) = omega (arith, tree_grows i a, tree_grows (end_of i a + 1) b)
  tree_grows i (sum o a b) = omega (arith, tree_grows i a, tree_grows (end_of i a + 1) b)
  tree_grows i (product o a b) = omega (arith, tree_grows i a, tree_grows (end_of i a + 1) b)
  tree_grows i (while c b) = omega (arith, tree_grows ((i + 1) + 1) c, tree_grows (end_of ((i + 1) + 1) c + 1) b)
  tree_grows i (conditional c b) = omega (arith, tree_grows ((i + 1) + 1) c, tree_grows (end_of ((i + 1) + 1) c + 1) b)
  tree_grows i (conditional_else c b d) = omega (arith, tree_grows ((i + 1) + 1) c, tree_grows (end_of ((i + 1) + 1) c + 1) b, tree_grows (end_of (end_of ((i + 1) + 1) c + 1) b + 1) d)
  tree_grows i return_nothing = omega arith
  tree_grows i (return e) = omega (arith, tree_grows (i + 1) e)
  tree_grows i break = omega arith
  tree_grows i continue = omega arith
  tree_grows i debugger = omega arith
  tree_grows i (expression_statement e) = omega (arith, tree_grows i e)
  tree_grows i (block ss) = omega (arith, trees_grow (i + 1) ss)
  tree_grows i (function x xs b) = omega (arith, body_grows i xs, tree_grows (body_place i xs) b)

  pub arguments_grow : (i : ℕ) (es : Trees) → i + count es ≤ arguments_end i es
  arguments_grow i none = omega arith
  arguments_grow i (also e es) = omega (arith, tree_grows i e, more_arguments_grow (end_of i e) es)

  pub more_arguments_grow : (i : ℕ) (es : Trees) → i + count es ≤ more_arguments_end i es
  more_arguments_grow i none = omega arith
  more_arguments_grow i (also e es) = omega (arith, tree_grows (i + 1) e, more_arguments_grow (end_of (i + 1) e) es)

  pub trees_grow : (i : ℕ) (ts : Trees) → i + count ts ≤ trees_end i ts
  trees_grow i none = omega arith
  trees_grow i (also t ts) = omega (arith, tree_grows i t, trees_grow (end_of i t) ts)

abbrev pub IsShort : ℕ → Shape → Type 0
IsShort n (shapes.Function m) = m ≤ n
IsShort n _ = Unit {0}

abbrev pub AllShort : ℕ → List (Node Part) → Type 0
AllShort n [] = Unit {0}
AllShort n (x ∷ xs) = IsShort n x.what.shape × AllShort n xs

all_short : (n : ℕ) (xs ys : List (Node Part)) → AllShort n xs → AllShort n ys → AllShort n (xs ++ ys)
all_short n [] ys h g = g
all_short n (x ∷ xs) ys h g = (h.0, all_short n xs ys h.1 g)

one : (n : ℕ) (a : Rose Part) → AllShort n (pre a) → AllShort n (pres (Turned.also a Turned.none))
one n a h = all_short n (pre a) [] h tt

pair : (n : ℕ) (a b : Rose Part) → AllShort n (pre a) → AllShort n (pre b) → AllShort n (pres (Turned.also a (Turned.also b Turned.none)))
pair n a b h g = all_short n (pre a) _ h (one n b g)

triple : (n : ℕ) (a b c : Rose Part) → AllShort n (pre a) → AllShort n (pre b) → AllShort n (pre c) → AllShort n (pres (Turned.also a (Turned.also b (Turned.also c Turned.none))))
triple n a b c h g k = all_short n (pre a) _ h (pair n b c g k)

mutual
  short_as : (n : ℕ) (s : Shape) → IsShort n s → (i : ℕ) (t : Tree) → end_of i t ≤ n → AllShort n (pre (rose_as s i t))
  short_as n s f i (name x) h = (tt, tt)
  short_as n s f i (number m) h = (tt, tt)
  short_as n s f i (text t) h = (tt, tt)
  short_as n s f i (parens e) h = short_as n shapes.Block tt (i + 1) e (omega arith)
  short_as n s f i (call c es) h = (tt, all_short n (pre (rose_as shapes.Block i c)) _ (short_as n shapes.Block tt i c (omega (arith, arguments_grow (end_of i c + 1) es))) (arguments_short n (end_of i c + 1) es h))
  short_as n s f i (assign x e) h = (tt, one n (rose_as shapes.Block ((i + 1) + 1) e) (short_as n shapes.Block tt ((i + 1) + 1) e h))
  short_as n s f i (either a b) h = (tt, pair n (rose_as shapes.Block i a) (rose_as shapes.Block (end_of i a + 1) b) (short_as n shapes.Block tt i a (omega (arith, tree_grows (end_of i a + 1) b))) (short_as n shapes.Block tt (end_of i a + 1) b h))
  short_as n s f i (both a b) h = (tt, pair n (rose_as shapes.Block i a) (rose_as shapes.Block (end_of i a + 1) b) (short_as n shapes.Block tt i a (omega (arith, tree_grows (end_of i a + 1) b))) (short_as n shapes.Block tt (end_of i a + 1) b h))
  short_as n s f i (compared o a b) h = (tt, pair n (rose_as shapes.Block i a) (rose_as shapes.Block (end_of i a + 1) b) (short_as n shapes.Block tt i a (omega (arith, tree_grows (end_of i a + 1) b))) (short_as n shapes.Block tt (end_of i a + 1) b h))
  short_as n s f i (sum o a b) h = (tt, pair n (rose_as shapes.Block i a) (rose_as shapes.Block (end_of i a + 1) b) (short_as n shapes.Block tt i a (omega (arith, tree_grows (end_of i a + 1) b))) (short_as n shapes.Block tt (end_of i a + 1) b h))
  short_as n s f i (product o a b) h = (tt, pair n (rose_as shapes.Block i a) (rose_as shapes.Block (end_of i a + 1) b) (short_as n shapes.Block tt i a (omega (arith, tree_grows (end_of i a + 1) b))) (short_as n shapes.Block tt (end_of i a + 1) b h))
  short_as n s f i (while c b) h =
      let j = end_of ((i + 1) + 1) c + 1 in
      (tt, pair n (rose_as shapes.Block ((i + 1) + 1) c) (rose_as shapes.Block j b) (short_as n shapes.Block tt ((i + 1) + 1) c (omega (arith, tree_grows j b))) (short_as n shapes.Block tt j b h))
  short_as n s f i (conditional c b) h =
      let j = end_of ((i + 1) + 1) c + 1 in
      (tt, pair n (rose_as shapes.Block ((i + 1) + 1) c) (rose_as shapes.Block j b) (short_as n shapes.Block tt ((i + 1) + 1) c (omega (arith, tree_grows j b))) (short_as n shapes.Block tt j b h))
  short_as n s f i (conditional_else c b d) h =
      let j = end_of ((i + 1) + 1) c + 1 in
      let k = end_of j b + 1 in (
        tt,
        triple n (rose_as shapes.Block ((i + 1) + 1) c) (rose_as shapes.Block j b) (rose_as shapes.Block k d)
            (short_as n shapes.Block tt ((i + 1) + 1) c (omega (arith, tree_grows j b, tree_grows k d)))
            (short_as n shapes.Block tt j b (omega (arith, tree_grows k d)))
            (short_as n shapes.Block tt k d h),
      )
  short_as n s f i return_nothing h = (tt, tt)
  short_as n s f i (return e) h = (tt, one n (rose_as shapes.Block (i + 1) e) (short_as n shapes.Block tt (i + 1) e (omega arith)))
  short_as n s f i break h = (tt, tt)
  short_as n s f i continue h = (tt, tt)
  short_as n s f i debugger h = (tt, tt)
  short_as n s f i (expression_statement e) h = short_as n shapes.Block tt i e (omega arith)
  short_as n s f i (block ss) h = (f, trees_short n (i + 1) ss (omega arith))
  short_as n s f i (function x xs b) h = (omega (arith, body_grows i xs, tree_grows (body_place i xs) b), one n (rose_as shapes.Body (body_place i xs) b) (short_as n shapes.Body tt (body_place i xs) b h))

  arguments_short : (n i : ℕ) (es : Trees) → arguments_end i es ≤ n → AllShort n (pres (argument_roses i es))
  arguments_short n i none h = tt
  arguments_short n i (also e es) h = all_short n (pre (rose_as shapes.Block i e)) _ (short_as n shapes.Block tt i e (omega (arith, more_arguments_grow (end_of i e) es))) (more_arguments_short n (end_of i e) es h)

  more_arguments_short : (n i : ℕ) (es : Trees) → more_arguments_end i es ≤ n → AllShort n (pres (more_argument_roses i es))
  more_arguments_short n i none h = tt
  more_arguments_short n i (also e es) h = all_short n (pre (rose_as shapes.Block (i + 1) e)) _ (short_as n shapes.Block tt (i + 1) e (omega (arith, more_arguments_grow (end_of (i + 1) e) es))) (more_arguments_short n (end_of (i + 1) e) es h)

  pub trees_short : (n i : ℕ) (ts : Trees) → trees_end i ts ≤ n → AllShort n (pres (roses i ts))
  trees_short n i none h = tt
  trees_short n i (also t ts) h = all_short n (pre (rose_as shapes.Block i t)) _ (short_as n shapes.Block tt i t (omega (arith, trees_grow (end_of i t) ts))) (trees_short n (end_of i t) ts h)

-- The places of a program's trees end behind its last word.
run_ends : (s : State) (ws : List Word) (T : Trees) → IsRegular s → run s ws ≡ Some T → trees_end 0 T ≡ size s + length ws
run_ends s [] T g e = final_ends s e
  where
    final_ends : (s : State) → final s ≡ Some T → trees_end 0 T ≡ size s + 0
    final_ends (Between fs) e = let same : fs ≡ T = cc in omega (arith, ap (trees_end 0) same)
    final_ends s e = absurd (cc)
run_ends s (w ∷ ws) T g e = go (step s w) (grows s w g) (λ s' g'. run_ends s' ws T g') e
  where
    go : (o : Option State) → Grows (size s) o → ((s' : State) → IsRegular s' → run s' ws ≡ Some T → trees_end 0 T ≡ size s' + length ws) → followed o (λ s'. run s' ws) ≡ Some T → trees_end 0 T ≡ size s + suc (length ws)
    go None grown ih e = absurd (cc)
    go (Some s') grown ih e = omega (arith, ih s' grown.1 e, grown.0)

pub program_ends : (ws : List Word) (T : Trees) → Program ws T → trees_end 0 T ≡ length ws
program_ends ws T p = omega (arith, run_ends Start ws T tt (complete ws Start T p))

-- As many nodes stand before their parts as behind them.
mutual
  tree_length : {T : Type 0} → (t : Rose T) → length (pre t) ≡ length (post t)
  tree_length (rose x ts) = omega (arith, trees_length ts, length-append (Turned.posts ts) (record { what = x; parts = Turned.count ts } ∷ []))

  pub trees_length : {T : Type 0} → (ts : Roses T) → length (pres ts) ≡ length (Turned.posts ts)
  trees_length Turned.none = refl
  trees_length (Turned.also t ts) = omega (arith, tree_length t, trees_length ts, length-append (pre t) (pres ts), length-append (post t) (Turned.posts ts))
