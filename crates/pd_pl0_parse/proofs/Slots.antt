-- A block has no more variables than its source has tokens.
use Rattle.std.proofs.Common.{◌≡◌, ℕ, suc, ◌+◌, ◌≤◌, Bool, true, false, List, [], ◌∷◌, ◌++◌, length, Option, Some, None, refl, ap, arith}
use Rattle.std.specs.Prelude.{bytes_eq, cond}
use Rattle.pd_tree.specs.Linked.{slots_up_to}
use Rattle.pd_turn.specs.declared.Node.{Node}
use Rattle.pd_turn.specs.Turned.{Rose, pre, pres}
use Rattle.pd_pl0_spell.specs.Words.{Adding, Plus, Minus, Constant, Tree, name, number, parens, signed, sum, product, odd, compared, empty, assign, call, write, sequence, conditional, while, block, procedure, Trees, none, also, Word}
use Rattle.pd_pl0_spell.specs.Names.{Kind, AConstant, AVariable, AProcedure, Declaration, Scope, declare, entered, no_rule, every_rule}
use Rattle.pd_pl0_spell.specs.Grammar.{Program}
use Rattle.pd_pl0_spell.specs.Machine.{State, Finished, start, step, final, run, followed}
use Rattle.pd_pl0_spell.proofs.Walks.{loosened_program, spelled_run}
use Rattle.pd_pl0_read.specs.declared.names.Declared.{Declared}
use Rattle.pd_pl0_read.specs.declared.names.Declared.TheVariants as declared
use Rattle.pd_pl0_read.specs.declared.names.Found.{Found}
use Rattle.pd_pl0_read.specs.declared.parts.Part.{Part}
use Rattle.pd_pl0_read.specs.Resolving.{constants_declared, variables_declared, procedures_declared, declared_by, counted, slots, declared_as, found_in, or_outer, found_from, resolved, meaning_as, meaning_of, factor_as, factor_of}
use Rattle.pd_pl0_read.specs.Places.{declarations_end, end_of, statements_end, procedures_end, sign, one, two, tree, procedure_trees, statement_trees}
use Rattle.pd_pl0_read.specs.Behind.{size}
use Rattle.pd_pl0_read.proofs.Follows.{IsRegular}
use Rattle.pd_pl0_read.proofs.Sizes.{Grows, grows}
use Rattle.pd_pl0_read.proofs.Grows.{declarations_grow, tree_grows, statements_grow, procedures_grow}
use Rattle.pd_pl0_parse.specs.Additions.{meaning_in}

-- at most so many variables in each block
abbrev AllFew : ℕ → List (List Declaration) → Type 0
AllFew n [] = Unit {0}
AllFew n (ds ∷ blocks) = (slots ds ≤ n) × AllFew n blocks

abbrev AreFew : ℕ → Scope → Type 0
AreFew n s = AllFew n (s.own ∷ s.around)

all_more : (m n : ℕ) (blocks : List (List Declaration)) → m ≤ n → AllFew m blocks → AllFew n blocks
all_more m n [] h g = tt
all_more m n (ds ∷ blocks) h g = (omega (arith, g.0), all_more m n blocks h g.1)

few_more : (m n : ℕ) (s : Scope) → m ≤ n → AreFew m s → AreFew n s
few_more m n s h g = all_more m n (s.own ∷ s.around) h g

few_constants : (n : ℕ) (cs : List Constant) (s : Scope) → AreFew n s → AreFew n (constants_declared cs s)
few_constants n [] s h = h
few_constants n (c ∷ cs) s h = few_constants n cs (declare c.name (AConstant c.value) s) h

few_variables : (n : ℕ) (vs : List (List ℕ)) (s : Scope) → AreFew n s → AreFew (n + length vs) (variables_declared vs s)
few_variables n [] s h = few_more n (n + 0) s (omega arith) h
few_variables n (x ∷ xs) s h =
    let r = declare x AVariable s in
    few_more ((n + 1) + length xs) (n + suc (length xs)) (variables_declared xs r) (omega arith) (few_variables (n + 1) xs r (omega (arith, h.0), all_more n (n + 1) s.around (omega arith) h.1))

few_declared : (n : ℕ) (t : Tree) (s : Scope) → AreFew n s → AreFew n (declared_by t s)
few_declared n (procedure x b) s h = h
few_declared n t s h = h

few_procedures : (n : ℕ) (ts : Trees) (s : Scope) → AreFew n s → AreFew n (procedures_declared ts s)
few_procedures n none s h = h
few_procedures n (also t ts) s h = few_procedures n ts (declared_by t s) (few_declared n t s h)

-- the slot that a name finds
abbrev IsFew : ℕ → ℕ → Option Declared → Type 0
IsFew n up None = Unit {0}
IsFew n up (Some d) = slots_up_to (meaning_as up d) ≤ n

few_in : (up : ℕ) (x : List ℕ) (ds : List Declaration) → IsFew (slots ds) up (found_in x ds)
few_in up x [] = tt
few_in up x (d ∷ ds) = go (bytes_eq x d.name) (few_in up x ds)
  where
    here : (k : Kind) (m : ℕ) → slots_up_to (meaning_as up (declared_as k m)) ≤ counted k m
    here (AConstant v) m = omega arith
    here AVariable m = omega arith
    here AProcedure m = omega arith

    further : (k : Kind) (m : ℕ) (f : Option Declared) → IsFew m up f → IsFew (counted k m) up f
    further k m None h = tt
    further (AConstant v) m (Some e) h = h
    further AVariable m (Some e) h = omega (arith, h)
    further AProcedure m (Some e) h = h

    go : (b : Bool) → IsFew (slots ds) up (found_in x ds) → IsFew (counted d.kind (slots ds)) up (cond b (Some (declared_as d.kind (slots ds))) (found_in x ds))
    go true ih = here d.kind (slots ds)
    go false ih = further d.kind (slots ds) (found_in x ds) ih

few_from : (n up : ℕ) (x : List ℕ) (blocks : List (List Declaration)) → AllFew n blocks → slots_up_to (meaning_of (found_from up x blocks)) ≤ n
few_from n up x [] h = omega arith
few_from n up x (ds ∷ blocks) h = go (found_in x ds) (found_from (up + 1) x blocks) (few_in up x ds) (few_from n (up + 1) x blocks h.1)
  where
    go : (d : Option Declared) (f : Option Found) → IsFew (slots ds) up d → slots_up_to (meaning_of f) ≤ n → slots_up_to (meaning_of (or_outer up d f)) ≤ n
    go (Some d) f k m = omega (arith, k, h.0)
    go None f k m = m

abbrev pub AllSlots : ℕ → List (Node Part) → Type 0
AllSlots n [] = Unit {0}
AllSlots n (x ∷ xs) = (slots_up_to (meaning_in x.what.shape) ≤ n) × AllSlots n xs

all_slots : (n : ℕ) (xs ys : List (Node Part)) → AllSlots n xs → AllSlots n ys → AllSlots n (xs ++ ys)
all_slots n [] ys h g = g
all_slots n (x ∷ xs) ys h g = (h.0, all_slots n xs ys h.1 g)

alone : (n : ℕ) (a : Rose Part) → AllSlots n (pre a) → AllSlots n (pres (one a))
alone n a h = all_slots n (pre a) [] h tt

pair : (n : ℕ) (a b : Rose Part) → AllSlots n (pre a) → AllSlots n (pre b) → AllSlots n (pres (two a b))
pair n a b h g = all_slots n (pre a) _ h (alone n b g)

factor_few : (n : ℕ) (f : Option Found) → slots_up_to (meaning_of f) ≤ n → slots_up_to (meaning_in (factor_of f)) ≤ n
factor_few n None h = h
factor_few n (Some f) h = go f.what h
  where
    go : (d : Declared) → slots_up_to (meaning_as f.up d) ≤ n → slots_up_to (meaning_in (factor_as f.up d)) ≤ n
    go (declared.Constant v) g = g
    go (declared.Variable m) g = g
    go declared.Procedure g = g

none_few : (n : ℕ) → 0 ≤ n
none_few n = omega arith

sign_few : (n : ℕ) (o : Adding) → slots_up_to (meaning_in (sign o)) ≤ n
sign_few n Plus = omega arith
sign_few n Minus = omega arith

mutual
  pub few : (n : ℕ) (s : Scope) (i : ℕ) (t : Tree) → AreFew i s → end_of i t ≤ n → AllSlots n (pre (tree s i t))
  few n s i (name x) f h = (factor_few n (resolved x s) (few_from n 0 x (s.own ∷ s.around) (few_more i n s (omega arith) f)), tt)
  few n s i (number m) f h = (none_few n, tt)
  few n s i (parens e) f h = few n s (i + 1) e (few_more i (i + 1) s (omega arith) f) (omega arith)
  few n s i (signed o e) f h = (sign_few n o, alone n (tree s (i + 1) e) (few n s (i + 1) e (few_more i (i + 1) s (omega arith) f) h))
  few n s i (sum o a b) f h = let j = end_of i a + 1 in (none_few n, pair n (tree s i a) (tree s j b) (few n s i a f (omega (arith, tree_grows j b))) (few n s j b (few_more i j s (omega (arith, tree_grows i a)) f) h))
  few n s i (product o a b) f h = let j = end_of i a + 1 in (none_few n, pair n (tree s i a) (tree s j b) (few n s i a f (omega (arith, tree_grows j b))) (few n s j b (few_more i j s (omega (arith, tree_grows i a)) f) h))
  few n s i (odd e) f h = (none_few n, alone n (tree s (i + 1) e) (few n s (i + 1) e (few_more i (i + 1) s (omega arith) f) h))
  few n s i (compared o a b) f h = let j = end_of i a + 1 in (none_few n, pair n (tree s i a) (tree s j b) (few n s i a f (omega (arith, tree_grows j b))) (few n s j b (few_more i j s (omega (arith, tree_grows i a)) f) h))
  few n s i empty f h = (none_few n, tt)
  few n s i (assign x e) f h =
      let j = (i + 1) + 1 in
      (few_from n 0 x (s.own ∷ s.around) (few_more i n s (omega (arith, tree_grows j e)) f), alone n (tree s j e) (few n s j e (few_more i j s (omega arith) f) h))
  few n s i (call x) f h = (none_few n, tt)
  few n s i (write e) f h = (none_few n, alone n (tree s (i + 1) e) (few n s (i + 1) e (few_more i (i + 1) s (omega arith) f) h))
  few n s i (sequence none) f h = (none_few n, tt)
  few n s i (sequence (also t ts)) f h =
      let j = end_of (i + 1) t in
      (none_few n, all_slots n (pre (tree s (i + 1) t)) _ (few n s (i + 1) t (few_more i (i + 1) s (omega arith) f) (omega (arith, statements_grow j ts))) (statements_few n s j ts (few_more i j s (omega (arith, tree_grows (i + 1) t)) f) (omega arith)))
  few n s i (conditional c a) f h =
      let j = end_of (i + 1) c + 1 in
      (none_few n, pair n (tree s (i + 1) c) (tree s j a) (few n s (i + 1) c (few_more i (i + 1) s (omega arith) f) (omega (arith, tree_grows j a))) (few n s j a (few_more i j s (omega (arith, tree_grows (i + 1) c)) f) h))
  few n s i (while c a) f h =
      let j = end_of (i + 1) c + 1 in
      (none_few n, pair n (tree s (i + 1) c) (tree s j a) (few n s (i + 1) c (few_more i (i + 1) s (omega arith) f) (omega (arith, tree_grows j a))) (few n s j a (few_more i j s (omega (arith, tree_grows (i + 1) c)) f) h))
  few n s i (block cs vs ps a) f h =
      let inside = variables_declared vs (constants_declared cs s) in
      let first = declarations_end i cs vs in
      let body = procedures_end first ps in
      let g : AreFew first inside = few_more (i + length vs) first inside (omega (arith, declarations_grow i cs vs)) (few_variables i vs (constants_declared cs s) (few_constants i cs s f)) in (
        none_few n,
        procedures_few n inside first ps _ g (omega (arith, tree_grows body a))
            (none_few n, alone n (tree (procedures_declared ps inside) body a) (few n (procedures_declared ps inside) body a (few_procedures body ps inside (few_more first body inside (omega (arith, procedures_grow first ps)) g)) h)),
      )
  few n s i (procedure x (block cs vs ps a)) f h =
      let j = ((i + 1) + 1) + 1 in
      let r = entered (declare x AProcedure s) in
      let inside = variables_declared vs (constants_declared cs r) in
      let first = declarations_end j cs vs in
      let body = procedures_end first ps in
      let e : AreFew j r = (omega arith, all_more i j (s.own ∷ s.around) (omega arith) f) in
      let g : AreFew first inside = few_more (j + length vs) first inside (omega (arith, declarations_grow j cs vs)) (few_variables j vs (constants_declared cs r) (few_constants j cs r e)) in (
        none_few n,
        procedures_few n inside first ps _ g (omega (arith, tree_grows body a))
            (none_few n, alone n (tree (procedures_declared ps inside) body a) (few n (procedures_declared ps inside) body a (few_procedures body ps inside (few_more first body inside (omega (arith, procedures_grow first ps)) g)) h)),
      )
  few n s i (procedure x b) f h = few n s (((i + 1) + 1) + 1) b (few_more i (((i + 1) + 1) + 1) s (omega arith) f) h

  procedures_few : (n : ℕ) (s : Scope) (i : ℕ) (ps : Trees) (b : Rose Part) → AreFew i s → procedures_end i ps ≤ n → AllSlots n (pre b) → AllSlots n (pres (procedure_trees s i ps b))
  procedures_few n s i none b f h g = alone n b g
  procedures_few n s i (also t ts) b f h g =
      let j = end_of i t + 1 in
      all_slots n (pre (tree s i t)) _ (few n s i t f (omega (arith, procedures_grow j ts))) (procedures_few n (declared_by t s) j ts b (few_declared j t s (few_more i j s (omega (arith, tree_grows i t)) f)) h g)

  statements_few : (n : ℕ) (s : Scope) (i : ℕ) (ts : Trees) → AreFew i s → statements_end i ts ≤ n → AllSlots n (pres (statement_trees s i ts))
  statements_few n s i none f h = tt
  statements_few n s i (also t ts) f h =
      let j = end_of (i + 1) t in
      all_slots n (pre (tree s (i + 1) t)) _ (few n s (i + 1) t (few_more i (i + 1) s (omega arith) f) (omega (arith, statements_grow j ts))) (statements_few n s j ts (few_more i j s (omega (arith, tree_grows (i + 1) t)) f) h)

-- The places of a program's tree end before its last word.
run_ends : (s : State) (ws : List Word) (T : Tree) → IsRegular s → run s ws ≡ Some T → end_of 0 T + 1 ≡ size s + length ws
run_ends s [] T g e = final_ends s e
  where
    final_ends : (s : State) → final s ≡ Some T → end_of 0 T + 1 ≡ size s + 0
    final_ends (Finished b) e = let same : b ≡ T = cc in omega (arith, ap (end_of 0) same)
    final_ends s e = absurd (cc)
run_ends s (w ∷ ws) T g e = go (step s w) (grows s w g) (λ s' g'. run_ends s' ws T g') e
  where
    go : (o : Option State) → Grows (size s) o → ((s' : State) → IsRegular s' → run s' ws ≡ Some T → end_of 0 T + 1 ≡ size s' + length ws) → followed o (λ s'. run s' ws) ≡ Some T → end_of 0 T + 1 ≡ size s + suc (length ws)
    go None grown ih e = absurd (cc)
    go (Some s') grown ih e = omega (arith, ih s' grown.1 e, grown.0)

pub program_ends : (ws : List Word) (T : Tree) → Program every_rule ws T → end_of 0 T + 1 ≡ length ws
program_ends ws T p = omega (arith, run_ends start ws T (refl, tt) (spelled_run ws T (loosened_program no_rule ws T p)))
