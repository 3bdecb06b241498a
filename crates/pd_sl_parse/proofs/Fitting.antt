-- Each node of a tree has as many parts as its kind asks for.
use Rattle.std.proofs.Common.{ℕ, ◌+◌, inl, inr, List, [], ◌∷◌, ◌++◌, refl, arith}
use Rattle.pd_turn.specs.declared.Node.{Node}
use Rattle.pd_turn.specs.Turned
use Rattle.pd_turn.specs.Turned.{Rose, Roses, pre, pres}
use Rattle.pd_sl_spell.specs.Words.{Tree, name, number, text, parens, call, assign, either, both, compared, sum, product, while, conditional, conditional_else, return_nothing, return, break, continue, debugger, expression_statement, block, function, Trees, none, also}
use Rattle.pd_sl_read.specs.declared.parts.Part.{Part}
use Rattle.pd_sl_read.specs.declared.parts.Shape.{Shape}
use Rattle.pd_sl_read.specs.declared.parts.Shape.TheVariants as shapes
use Rattle.pd_sl_read.specs.Places.{end_of, body_place, rose_as, argument_roses, more_argument_roses, roses}
use Rattle.pd_sl_parse.specs.Fits.{Fits, AllFit}

all_fit : (xs ys : List (Node Part)) → AllFit xs → AllFit ys → AllFit (xs ++ ys)
all_fit [] ys h g = g
all_fit (x ∷ xs) ys h g = (h.0, all_fit xs ys h.1 g)

one : (a : Rose Part) → AllFit (pre a) → AllFit (pres (Turned.also a Turned.none))
one a h = all_fit (pre a) [] h tt

pair : (a b : Rose Part) → AllFit (pre a) → AllFit (pre b) → AllFit (pres (Turned.also a (Turned.also b Turned.none)))
pair a b h g = all_fit (pre a) _ h (one b g)

triple : (a b c : Rose Part) → AllFit (pre a) → AllFit (pre b) → AllFit (pre c) → AllFit (pres (Turned.also a (Turned.also b (Turned.also c Turned.none))))
triple a b c h g k = all_fit (pre a) _ h (pair b c g k)

anything : (c : ℕ) → Fits shapes.Block c
anything c = tt

body_anything : (c : ℕ) → Fits shapes.Body c
body_anything c = tt

mutual
  pub fits_as : (s : Shape) → ((c : ℕ) → Fits s c) → (i : ℕ) (t : Tree) → AllFit (pre (rose_as s i t))
  fits_as s f i (name x) = (refl, tt)
  fits_as s f i (number n) = (refl, tt)
  fits_as s f i (text t) = (refl, tt)
  fits_as s f i (parens e) = fits_as shapes.Block anything (i + 1) e
  fits_as s f i (call c es) = (omega arith, all_fit (pre (rose_as shapes.Block i c)) _ (fits_as shapes.Block anything i c) (arguments_fit (end_of i c + 1) es))
  fits_as s f i (assign x e) = (refl, one (rose_as shapes.Block ((i + 1) + 1) e) (fits_as shapes.Block anything ((i + 1) + 1) e))
  fits_as s f i (either a b) = (refl, pair (rose_as shapes.Block i a) (rose_as shapes.Block (end_of i a + 1) b) (fits_as shapes.Block anything i a) (fits_as shapes.Block anything (end_of i a + 1) b))
  fits_as s f i (both a b) = (refl, pair (rose_as shapes.Block i a) (rose_as shapes.Block (end_of i a + 1) b) (fits_as shapes.Block anything i a) (fits_as shapes.Block anything (end_of i a + 1) b))
  fits_as s f i (compared o a b) = (refl, pair (rose_as shapes.Block i a) (rose_as shapes.Block (end_of i a + 1) b) (fits_as shapes.Block anything i a) (fits_as shapes.Block anything (end_of i a + 1) b))
  fits_as s f i (sum o a b) = (refl, pair (rose_as shapes.Block i a) (rose_as shapes.Block (end_of i a + 1) b) (fits_as shapes.Block anything i a) (fits_as shapes.Block anything (end_of i a + 1) b))
  fits_as s f i (product o a b) = (refl, pair (rose_as shapes.Block i a) (rose_as shapes.Block (end_of i a + 1) b) (fits_as shapes.Block anything i a) (fits_as shapes.Block anything (end_of i a + 1) b))
  fits_as s f i (while c b) = (refl, pair (rose_as shapes.Block ((i + 1) + 1) c) (rose_as shapes.Block (end_of ((i + 1) + 1) c + 1) b) (fits_as shapes.Block anything ((i + 1) + 1) c) (fits_as shapes.Block anything (end_of ((i + 1) + 1) c + 1) b))
  fits_as s f i (conditional c b) = (inl refl, pair (rose_as shapes.Block ((i + 1) + 1) c) (rose_as shapes.Block (end_of ((i + 1) + 1) c + 1) b) (fits_as shapes.Block anything ((i + 1) + 1) c) (fits_as shapes.Block anything (end_of ((i + 1) + 1) c + 1) b))
  fits_as s f i (conditional_else c b d) = (inr refl, triple (rose_as shapes.Block ((i + 1) + 1) c) (rose_as shapes.Block (end_of ((i + 1) + 1) c + 1) b) (rose_as shapes.Block (end_of (end_of ((i + 1) + 1) c + 1) b + 1) d) (fits_as shapes.Block anything ((i + 1) + 1) c) (fits_as shapes.Block anything (end_of ((i + 1) + 1) c + 1) b) (fits_as shapes.Block anything (end_of (end_of ((i + 1) + 1) c + 1) b + 1) d))
  fits_as s f i return_nothing = (omega arith, tt)
  fits_as s f i (return e) = (omega arith, one (rose_as shapes.Block (i + 1) e) (fits_as shapes.Block anything (i + 1) e))
  fits_as s f i break = (refl, tt)
  fits_as s f i continue = (refl, tt)
  fits_as s f i debugger = (refl, tt)
  fits_as s f i (expression_statement e) = fits_as shapes.Block anything i e
  fits_as s f i (block ss) = (f _, trees_fit (i + 1) ss)
  fits_as s f i (function x xs b) = (refl, one (rose_as shapes.Body (body_place i xs) b) (fits_as shapes.Body body_anything (body_place i xs) b))

  arguments_fit : (i : ℕ) (es : Trees) → AllFit (pres (argument_roses i es))
  arguments_fit i none = tt
  arguments_fit i (also e es) = all_fit (pre (rose_as shapes.Block i e)) _ (fits_as shapes.Block anything i e) (more_arguments_fit (end_of i e) es)

  more_arguments_fit : (i : ℕ) (es : Trees) → AllFit (pres (more_argument_roses i es))
  more_arguments_fit i none = tt
  more_arguments_fit i (also e es) = all_fit (pre (rose_as shapes.Block (i + 1) e)) _ (fits_as shapes.Block anything (i + 1) e) (more_arguments_fit (end_of (i + 1) e) es)

  pub trees_fit : (i : ℕ) (ts : Trees) → AllFit (pres (roses i ts))
  trees_fit i none = tt
  trees_fit i (also t ts) = all_fit (pre (rose_as shapes.Block i t)) _ (fits_as shapes.Block anything i t) (trees_fit (end_of i t) ts)
