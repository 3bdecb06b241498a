-- Where the nodes of a program have their names: at words that are names.
use Rattle.std.proofs.Common.{◌≡◌, ℕ, zero, suc, ◌+◌, ◌*◌, ◌<◌, List, [], ◌∷◌, ◌++◌, length, Option, Some, None, drop, refl, sym, ap, ◌∙◌, subst, arith}
use Rattle.std.proofs.lemmas.List.{drop-drop}
use Rattle.pd_turn.specs.declared.Node.{Node}
use Rattle.pd_turn.specs.Turned
use Rattle.pd_turn.specs.Turned.{Rose, rose, Roses, pre, pres}
use Rattle.pd_pl0_spell.specs.Words.{Adding, Plus, Minus, Word, Name, Constant, Tree, block, procedure, Trees}
use Rattle.pd_pl0_spell.specs.Names.{AProcedure, Scope, no_declarations, declare, entered, Rules}
use Rattle.pd_pl0_spell.specs.Grammar.{Expression, without_sign, with_sign, MoreTerms, no_sum, adding, Term, of_factors, MoreFactors, no_product, multiplying, Factor, a_name, a_number, in_parens, Condition, is_odd, comparison, Statement, an_empty, an_assignment, a_call, a_write, a_sequence, an_if, a_while, MoreStatements, no_more_statements, next_statement, MoreConstants, no_more_constants, next_constant, Constants, no_constant, first_constant, MoreVariables, no_more_variables, next_variable, Variables, no_variable, first_variable, Block, a_block, Procedures, no_more_procedures, next_procedure, Program, a_program}
use Rattle.pd_pl0_read.specs.declared.names.Declared.{Declared}
use Rattle.pd_pl0_read.specs.declared.names.Declared.TheVariants as declared
use Rattle.pd_pl0_read.specs.declared.names.Found.{Found}
use Rattle.pd_pl0_read.specs.declared.parts.Part.{Part}
use Rattle.pd_pl0_read.specs.declared.parts.Shape.{Shape}
use Rattle.pd_pl0_read.specs.declared.parts.Shape.TheVariants as shapes
use Rattle.pd_pl0_read.specs.Resolving.{constants_declared, variables_declared, procedures_declared, declared_by, resolved, factor_as, factor_of}
use Rattle.pd_pl0_read.specs.Places.{sign, constants_end, variables_end, declarations_end, end_of, statements_end, procedures_end, part, one, tree, procedure_trees, statement_trees, program_trees}
use Rattle.pd_pl0_parse.specs.Texts as places

abbrev pub IsNamed : Word → Type 0
IsNamed (Name x) = Unit {0}
IsNamed _ = ⊥

-- the first of the words is a name
abbrev pub NameNext : List Word → Type 0
NameNext [] = ⊥
NameNext (w ∷ ws) = IsNamed w

-- `n` words are names, of which the first has the number `first`, and each next one stands `step` words on
abbrev pub AllNamed : List Word → ℕ → ℕ → ℕ → Type 0
AllNamed ws first step n = (k : ℕ) → k < n → NameNext (drop (first + step * k) ws)

-- a block that begins at `first` declares `m` constants and `n` variables
pub record BlockNamed (ws : List Word) (first m n : ℕ) : Type 0 where
  pub constants : AllNamed ws (places.first_constant first) 4 m
  pub variables : AllNamed ws (places.first_variable first m) 2 n

-- the words of a node of this shape whose first one has this number
abbrev pub IsWorded : List Word → Shape → ℕ → Type 0
IsWorded ws (shapes.Main m n) i = BlockNamed ws i m n
IsWorded ws (shapes.Procedure m n) i = NameNext (drop (i + 1) ws) × BlockNamed ws (i + 3) m n
IsWorded ws (shapes.Assign m) i = NameNext (drop i ws)
IsWorded ws shapes.Call i = NameNext (drop (i + 1) ws)
IsWorded ws (shapes.Name m) i = NameNext (drop i ws)
IsWorded ws _ i = Unit {0}

abbrev pub AllWorded : List Word → List (Node Part) → Type 0
AllWorded ws [] = Unit {0}
AllWorded ws (x ∷ xs) = IsWorded ws x.what.shape x.what.first × AllWorded ws xs

abbrev mutual
  RoseWorded : List Word → Rose Part → Type 0
  RoseWorded ws (rose x ts) = IsWorded ws x.shape x.first × RosesWorded ws ts

  RosesWorded : List Word → Roses Part → Type 0
  RosesWorded ws Turned.none = Unit {0}
  RosesWorded ws (Turned.also t ts) = RoseWorded ws t × RosesWorded ws ts

all_worded : (ws : List Word) (xs ys : List (Node Part)) → AllWorded ws xs → AllWorded ws ys → AllWorded ws (xs ++ ys)
all_worded ws [] ys h g = g
all_worded ws (x ∷ xs) ys h g = (h.0, all_worded ws xs ys h.1 g)

mutual
  rose_worded : (ws : List Word) (t : Rose Part) → RoseWorded ws t → AllWorded ws (pre t)
  rose_worded ws (rose x ts) h = (h.0, roses_worded ws ts h.1)

  roses_worded : (ws : List Word) (ts : Roses Part) → RosesWorded ws ts → AllWorded ws (pres ts)
  roses_worded ws Turned.none h = tt
  roses_worded ws (Turned.also t ts) h = all_worded ws (pre t) (pres ts) (rose_worded ws t h.0) (roses_worded ws ts h.1)

next : (ws : List Word) (i : ℕ) {w : Word} {r : List Word} → drop i ws ≡ w ∷ r → drop (i + 1) ws ≡ r
next ws i h = sym (drop-drop 1 i ws) ∙ ap (drop 1) h

named : (ws : List Word) (i : ℕ) {x : List ℕ} {r : List Word} → drop i ws ≡ Name x ∷ r → NameNext (drop i ws)
named ws i h = subst NameNext (sym h) tt

sign_worded : (ws : List Word) (o : Adding) (i : ℕ) → IsWorded ws (sign o) i
sign_worded ws Plus i = tt
sign_worded ws Minus i = tt

factor_worded : (ws : List Word) (f : Option Found) (i : ℕ) → NameNext (drop i ws) → IsWorded ws (factor_of f) i
factor_worded ws None i h = h
factor_worded ws (Some f) i h = go f.up f.what
  where
    go : (up : ℕ) (d : Declared) → IsWorded ws (factor_as up d) i
    go up (declared.Constant v) = tt
    go up (declared.Variable slot) = h
    go up declared.Procedure = h

-- the tree at `i` has its words there, whatever is in scope, and these come behind it
abbrev Read : List Word → ℕ → Tree → List Word → Type 0
Read ws i t r = ((s : Scope) → RoseWorded ws (tree s i t)) × (drop (end_of i t) ws ≡ r)

mutual
  expression : (ws : List Word) {n : Rules} {s : Scope} {ts r : List Word} {e : Tree} (i : ℕ) → drop i ws ≡ ts → Expression n s ts e r → Read ws i e r
  expression ws i h (without_sign t m) = more_terms ws i m (term ws i h t)
  expression ws i h (with_sign {o = o} t m) =
      let d = term ws (i + 1) (next ws i h) t in
      more_terms ws i m ((λ s. (sign_worded ws o i, (d.0 s, tt))), d.1)

  more_terms : (ws : List Word) {n : Rules} {s : Scope} {a e : Tree} {r r' : List Word} (i : ℕ) → MoreTerms n s a r e r' → Read ws i a r → Read ws i e r'
  more_terms ws i no_sum d = d
  more_terms ws i (adding {a = a} t m) d =
      let b = term ws (end_of i a + 1) (next ws (end_of i a) d.1) t in
      more_terms ws i m ((λ s. (tt, (d.0 s, (b.0 s, tt)))), b.1)

  term : (ws : List Word) {n : Rules} {s : Scope} {ts r : List Word} {e : Tree} (i : ℕ) → drop i ws ≡ ts → Term n s ts e r → Read ws i e r
  term ws i h (of_factors t m) = more_factors ws i m (factor ws i h t)

  more_factors : (ws : List Word) {n : Rules} {s : Scope} {a e : Tree} {r r' : List Word} (i : ℕ) → MoreFactors n s a r e r' → Read ws i a r → Read ws i e r'
  more_factors ws i no_product d = d
  more_factors ws i (multiplying {a = a} t m) d =
      let b = factor ws (end_of i a + 1) (next ws (end_of i a) d.1) t in
      more_factors ws i m ((λ s. (tt, (d.0 s, (b.0 s, tt)))), b.1)

  factor : (ws : List Word) {n : Rules} {s : Scope} {ts r : List Word} {e : Tree} (i : ℕ) → drop i ws ≡ ts → Factor n s ts e r → Read ws i e r
  factor ws i h (a_name {x = x} k) = ((λ s. (factor_worded ws (resolved x s) i (named ws i h), tt)), next ws i h)
  factor ws i h a_number = ((λ s. (tt, tt)), next ws i h)
  factor ws i h (in_parens {e = t} e) =
      let d = expression ws (i + 1) (next ws i h) e in
      (d.0, next ws (end_of (i + 1) t) d.1)

condition : (ws : List Word) {n : Rules} {s : Scope} {ts r : List Word} {c : Tree} (i : ℕ) → drop i ws ≡ ts → Condition n s ts c r → Read ws i c r
condition ws i h (is_odd e) =
    let d = expression ws (i + 1) (next ws i h) e in
    ((λ s. (tt, (d.0 s, tt))), d.1)
condition ws i h (comparison {a = a} e f) =
    let d = expression ws i h e in
    let b = expression ws (end_of i a + 1) (next ws (end_of i a) d.1) f in
    ((λ s. (tt, (d.0 s, (b.0 s, tt)))), b.1)

mutual
  statement : (ws : List Word) {n : Rules} {s : Scope} {ts r : List Word} {a : Tree} (i : ℕ) → drop i ws ≡ ts → Statement n s ts a r → Read ws i a r
  statement ws i h an_empty = ((λ s. (tt, tt)), h)
  statement ws i h (an_assignment k e) =
      let d = expression ws ((i + 1) + 1) (next ws (i + 1) (next ws i h)) e in
      ((λ s. (named ws i h, (d.0 s, tt))), d.1)
  statement ws i h (a_call k) = ((λ s. (named ws (i + 1) (next ws i h), tt)), next ws (i + 1) (next ws i h))
  statement ws i h (a_write e) =
      let d = expression ws (i + 1) (next ws i h) e in
      ((λ s. (tt, (d.0 s, tt))), d.1)
  statement ws i h (a_sequence {a = t} a m) =
      let d = statement ws (i + 1) (next ws i h) a in
      let more = more_statements ws (end_of (i + 1) t) d.1 m in
      ((λ s. (tt, (d.0 s, more.0 s))), more.1)
  statement ws i h (an_if {c = c} e a) =
      let d = condition ws (i + 1) (next ws i h) e in
      let b = statement ws (end_of (i + 1) c + 1) (next ws (end_of (i + 1) c) d.1) a in
      ((λ s. (tt, (d.0 s, (b.0 s, tt)))), b.1)
  statement ws i h (a_while {c = c} e a) =
      let d = condition ws (i + 1) (next ws i h) e in
      let b = statement ws (end_of (i + 1) c + 1) (next ws (end_of (i + 1) c) d.1) a in
      ((λ s. (tt, (d.0 s, (b.0 s, tt)))), b.1)

  more_statements : (ws : List Word) {n : Rules} {s : Scope} {ts r : List Word} {ss : Trees} (i : ℕ) → drop i ws ≡ ts → MoreStatements n s ts ss r
      → ((s : Scope) → RosesWorded ws (statement_trees s i ss)) × (drop (statements_end i ss + 1) ws ≡ r)
  more_statements ws i h no_more_statements = ((λ s. tt), next ws i h)
  more_statements ws i h (next_statement {a = t} a m) =
      let d = statement ws (i + 1) (next ws i h) a in
      let more = more_statements ws (end_of (i + 1) t) d.1 m in
      ((λ s. (d.0 s, more.0 s)), more.1)

-- ---- declarations

none_named : (ws : List Word) (first step : ℕ) → AllNamed ws first step 0
none_named ws first step k lt = absurd (omega arith)

four_named : (ws : List Word) (i n : ℕ) → NameNext (drop i ws) → AllNamed ws ((((i + 1) + 1) + 1) + 1) 4 n → AllNamed ws i 4 (suc n)
four_named ws i n h more zero lt = subst (λ j. NameNext (drop j ws)) (at_first i) h
  where
    at_first : (j : ℕ) → j ≡ j + 4 * 0
    at_first j = omega arith
four_named ws i n h more (suc k) lt = subst (λ j. NameNext (drop j ws)) (behind i k) (more k (omega arith))
  where
    behind : (j m : ℕ) → ((((j + 1) + 1) + 1) + 1) + 4 * m ≡ j + 4 * suc m
    behind j m = omega arith

two_named : (ws : List Word) (i n : ℕ) → NameNext (drop i ws) → AllNamed ws ((i + 1) + 1) 2 n → AllNamed ws i 2 (suc n)
two_named ws i n h more zero lt = subst (λ j. NameNext (drop j ws)) (at_first i) h
  where
    at_first : (j : ℕ) → j ≡ j + 2 * 0
    at_first j = omega arith
two_named ws i n h more (suc k) lt = subst (λ j. NameNext (drop j ws)) (behind i k) (more k (omega arith))
  where
    behind : (j m : ℕ) → ((j + 1) + 1) + 2 * m ≡ j + 2 * suc m
    behind j m = omega arith

-- the names of constants that are declared behind `i`, and what comes behind the `;`
abbrev ConstantsRead : List Word → ℕ → ℕ → List Word → Type 0
ConstantsRead ws i n r = AllNamed ws (i + 1) 4 n × (drop ((i + 4 * n) + 1) ws ≡ r)

constants_read : (ws : List Word) {r : List Word} (i n : ℕ) → NameNext (drop (i + 1) ws) → ConstantsRead ws ((((i + 1) + 1) + 1) + 1) n r → ConstantsRead ws i (suc n) r
constants_read ws i n h d = (four_named ws (i + 1) n h d.0, ap (λ j. drop j ws) (behind i n) ∙ d.1)
  where
    behind : (j m : ℕ) → (j + 4 * suc m) + 1 ≡ (((((j + 1) + 1) + 1) + 1) + 4 * m) + 1
    behind j m = omega arith

more_constants : (ws : List Word) {n : Rules} {s s' : Scope} {ts r : List Word} {cs : List Constant} (i : ℕ) → drop i ws ≡ ts → MoreConstants n s ts cs s' r → ConstantsRead ws i (length cs) r
more_constants ws i h no_more_constants = (none_named ws (i + 1) 4, ap (λ j. drop j ws) (at_first i) ∙ next ws i h)
  where
    at_first : (j : ℕ) → (j + 4 * 0) + 1 ≡ j + 1
    at_first j = omega arith
more_constants ws i h (next_constant {more = cs} k m) =
    constants_read ws i (length cs) (named ws (i + 1) (next ws i h)) (more_constants ws ((((i + 1) + 1) + 1) + 1) (next ws (((i + 1) + 1) + 1) (next ws ((i + 1) + 1) (next ws (i + 1) (next ws i h)))) m)

constants : (ws : List Word) {n : Rules} {s s' : Scope} {ts r : List Word} {cs : List Constant} (i : ℕ) → drop i ws ≡ ts → Constants n s ts cs s' r → AllNamed ws (i + 1) 4 (length cs) × (drop (constants_end i cs) ws ≡ r)
constants ws i h no_constant = (none_named ws (i + 1) 4, h)
constants ws i h (first_constant {more = cs} k m) =
    constants_read ws i (length cs) (named ws (i + 1) (next ws i h)) (more_constants ws ((((i + 1) + 1) + 1) + 1) (next ws (((i + 1) + 1) + 1) (next ws ((i + 1) + 1) (next ws (i + 1) (next ws i h)))) m)

-- the names of variables that are declared behind `i`, and what comes behind the `;`
abbrev VariablesRead : List Word → ℕ → ℕ → List Word → Type 0
VariablesRead ws i n r = AllNamed ws (i + 1) 2 n × (drop ((i + 2 * n) + 1) ws ≡ r)

variables_read : (ws : List Word) {r : List Word} (i n : ℕ) → NameNext (drop (i + 1) ws) → VariablesRead ws ((i + 1) + 1) n r → VariablesRead ws i (suc n) r
variables_read ws i n h d = (two_named ws (i + 1) n h d.0, ap (λ j. drop j ws) (behind i n) ∙ d.1)
  where
    behind : (j m : ℕ) → (j + 2 * suc m) + 1 ≡ (((j + 1) + 1) + 2 * m) + 1
    behind j m = omega arith

more_variables : (ws : List Word) {n : Rules} {s s' : Scope} {ts r : List Word} {xs : List (List ℕ)} (i : ℕ) → drop i ws ≡ ts → MoreVariables n s ts xs s' r → VariablesRead ws i (length xs) r
more_variables ws i h no_more_variables = (none_named ws (i + 1) 2, ap (λ j. drop j ws) (at_first i) ∙ next ws i h)
  where
    at_first : (j : ℕ) → (j + 2 * 0) + 1 ≡ j + 1
    at_first j = omega arith
more_variables ws i h (next_variable {more = xs} k m) =
    variables_read ws i (length xs) (named ws (i + 1) (next ws i h)) (more_variables ws ((i + 1) + 1) (next ws (i + 1) (next ws i h)) m)

variables : (ws : List Word) {n : Rules} {s s' : Scope} {ts r : List Word} {xs : List (List ℕ)} (i : ℕ) → drop i ws ≡ ts → Variables n s ts xs s' r → AllNamed ws (i + 1) 2 (length xs) × (drop (variables_end i xs) ws ≡ r)
variables ws i h no_variable = (none_named ws (i + 1) 2, h)
variables ws i h (first_variable {more = xs} k m) =
    variables_read ws i (length xs) (named ws (i + 1) (next ws i h)) (more_variables ws ((i + 1) + 1) (next ws (i + 1) (next ws i h)) m)

first_is : (i : ℕ) (cs : List Constant) → constants_end i cs + 1 ≡ places.first_variable i (length cs)
first_is i [] = refl
first_is i (c ∷ cs) = two_on (i + 4 * suc (length cs))
  where
    two_on : (j : ℕ) → (j + 1) + 1 ≡ j + 2
    two_on j = omega arith

-- ---- blocks

abbrev body_at : Scope → ℕ → Tree → Rose Part
body_at s i a = rose (part shapes.Body i (end_of i a)) (one (tree s i a))

-- a block at `i` has its words there, whatever is in scope, and these come behind it
record BlockParts (ws : List Word) (i : ℕ) (cs : List Constant) (vs : List (List ℕ)) (ps : Trees) (a : Tree) (r : List Word) : Type 0 where
  names : BlockNamed ws i (length cs) (length vs)
  inside : (s o : Scope) → RosesWorded ws (procedure_trees s (declarations_end i cs vs) ps (body_at o (procedures_end (declarations_end i cs vs) ps) a))
  behind : drop (end_of (procedures_end (declarations_end i cs vs) ps) a) ws ≡ r

abbrev BlockRead : List Word → ℕ → Tree → List Word → Type 0
BlockRead ws i (block cs vs ps a) r = BlockParts ws i cs vs ps a r
BlockRead ws i _ r = ⊥

procedure_read : (ws : List Word) {r : List Word} (i : ℕ) (x : List ℕ) (b : Tree) → NameNext (drop (i + 1) ws) → BlockRead ws (((i + 1) + 1) + 1) b r → Read ws i (procedure x b) r
procedure_read ws i x (block cs vs ps a) h d = (
  (λ s.
      let inside = variables_declared vs (constants_declared cs (entered (declare x AProcedure s))) in
      ((h, subst (λ j. BlockNamed ws j (length cs) (length vs)) (third i) d.names), d.inside inside (procedures_declared ps inside))),
  d.behind,
)
  where
    third : (j : ℕ) → ((j + 1) + 1) + 1 ≡ j + 3
    third j = omega arith
procedure_read ws i x _ h d = absurd d

mutual
  in_block : (ws : List Word) {n : Rules} {s : Scope} {ts r : List Word} {b : Tree} (i : ℕ) → drop i ws ≡ ts → Block n s ts b r → BlockRead ws i b r
  in_block ws i h (a_block {cs = cs} {vs = vs} {ps = ps} {a = t} c v p a) =
      let cd = constants ws i h c in
      let vd = variables ws (constants_end i cs) cd.1 v in
      let first = declarations_end i cs vs in
      let pd = procedures ws first vd.1 p in
      let ad = statement ws (procedures_end first ps) pd.1 a in
      record {
        names = record { constants = cd.0; variables = subst (λ j. AllNamed ws j 2 (length vs)) (first_is i cs) vd.0 };
        inside = λ s o. pd.0 s (body_at o (procedures_end first ps) t) (tt, (ad.0 o, tt));
        behind = ad.1;
      }

  procedures : (ws : List Word) {n : Rules} {s s' : Scope} {ts r : List Word} {ps : Trees} (i : ℕ) → drop i ws ≡ ts → Procedures n s ts ps s' r
      → ((s : Scope) (last : Rose Part) → RoseWorded ws last → RosesWorded ws (procedure_trees s i ps last)) × (drop (procedures_end i ps) ws ≡ r)
  procedures ws i h no_more_procedures = ((λ s last w. (w, tt)), h)
  procedures ws i h (next_procedure {x = x} {b = t} k b m) =
      let inside = in_block ws (((i + 1) + 1) + 1) (next ws ((i + 1) + 1) (next ws (i + 1) (next ws i h))) b in
      let d = procedure_read ws i x t (named ws (i + 1) (next ws i h)) inside in
      let end = end_of i (procedure x t) in
      let more = procedures ws (end + 1) (next ws end d.1) m in
      ((λ s last w. (d.0 s, more.0 (declared_by (procedure x t) s) last w)), more.1)

main_worded : (ws r : List Word) (b : Tree) → BlockRead ws 0 b r → RosesWorded ws (program_trees b)
main_worded ws r (block cs vs ps a) d =
    let inside = variables_declared vs (constants_declared cs no_declarations) in
    ((d.names, d.inside inside (procedures_declared ps inside)), tt)
main_worded ws r _ d = absurd d

program : (ws : List Word) {n : Rules} {ts : List Word} {T : Tree} → drop 0 ws ≡ ts → Program n ts T → RosesWorded ws (program_trees T)
program ws h (a_program {b = t} b) = main_worded ws _ t (in_block ws 0 h b)

-- each node of a program has its words
pub program_worded : (ws : List Word) (n : Rules) (T : Tree) → Program n ws T → AllWorded ws (pres (program_trees T))
program_worded ws n T h = roses_worded ws (program_trees T) (program ws refl h)
