-- Where the nodes of a program have their names and texts: at words that are names and texts.
use Rattle.std.proofs.Common.{◌≡◌, ℕ, zero, suc, ◌+◌, ◌*◌, ◌<◌, Bool, List, [], ◌∷◌, ◌++◌, drop, refl, sym, ap, ◌∙◌, subst, arith}
use Rattle.std.proofs.lemmas.List.{drop-drop}
use Rattle.pd_turn.specs.declared.Node.{Node}
use Rattle.pd_turn.specs.Turned
use Rattle.pd_turn.specs.Turned.{Rose, rose, Roses, pre, pres}
use Rattle.pd_sl_spell.specs.Words.{Word, Name, Text, Tree, Trees}
use Rattle.pd_sl_spell.specs.Grammar.{Expression, of_logic_terms, MoreLogicTerms, no_or, or, LogicTerm, of_logic_factors, MoreLogicFactors, no_and, and, LogicFactor, of_arithmetic, MayCompare, no_comparison, comparison, Arithmetic, of_terms, MoreTerms, no_sum, adding, Term, of_factors, MoreFactors, no_product, multiplying, Factor, a_name, an_assignment, a_text, a_number, in_parens, Calls, no_call, calling, Arguments, no_argument, first_argument, MoreArguments, no_more_arguments, next_argument, Block, braces, Statements, no_more_statements, next_statement, Statement, a_while, an_if, a_bare_return, a_return, a_break, a_continue, a_debugger, an_expression, MayElse, no_else, an_else, MoreParameters, no_more_parameters, next_parameter, Parameters, no_parameter, first_parameter, AFunction, a_function, MoreFunctions, no_more_functions, next_function, Program, first_function}
use Rattle.pd_sl_read.specs.declared.parts.Part.{Part}
use Rattle.pd_sl_read.specs.declared.parts.Shape.{Shape}
use Rattle.pd_sl_read.specs.declared.parts.Shape.TheVariants as shapes
use Rattle.pd_sl_read.specs.Places.{end_of, arguments_end, more_arguments_end, trees_end, more_parameters_end, parameters_end, body_place, length_of, rose_as, argument_roses, more_argument_roses, roses}

abbrev pub IsNamed : Word → Type 0
IsNamed (Name x) = Unit {0}
IsNamed _ = ⊥

abbrev pub IsQuoted : Word → Type 0
IsQuoted (Text s) = Unit {0}
IsQuoted _ = ⊥

-- what comes first
abbrev pub Next : (Word → Type 0) → List Word → Type 0
Next P [] = ⊥
Next P (w ∷ ws) = P w

-- the words of a node of this shape whose first one has this number
abbrev pub IsWorded : List Word → Shape → ℕ → Type 0
IsWorded ws (shapes.Function n) i = Next IsNamed (drop (i + 1) ws) × ((k : ℕ) → k < n → Next IsNamed (drop ((i + 3) + 2 * k) ws))
IsWorded ws shapes.Assign i = Next IsNamed (drop i ws)
IsWorded ws shapes.Name i = Next IsNamed (drop i ws)
IsWorded ws shapes.Text i = Next IsQuoted (drop i ws)
IsWorded ws _ i = Unit {0}

abbrev pub AllWorded : List Word → List (Node Part) → Type 0
AllWorded ws [] = Unit {0}
AllWorded ws (x ∷ xs) = IsWorded ws x.what.shape x.what.first × AllWorded ws xs

abbrev mutual
  RoseWorded : List Word → Rose Part → Type 0
  RoseWorded ws (rose x ts) = IsWorded ws x.shape x.first × RosesWorded ws ts

  RosesWorded : List Word → Roses Part → Type 0
  RosesWorded ws Turned.none = Unit {0}
  RosesWorded ws (Turned.also t ts) = RoseWorded ws t × RosesWorded ws ts

all_worded : (ws : List Word) (xs ys : List (Node Part)) → AllWorded ws xs → AllWorded ws ys → AllWorded ws (xs ++ ys)
all_worded ws [] ys h g = g
all_worded ws (x ∷ xs) ys h g = (h.0, all_worded ws xs ys h.1 g)

mutual
  rose_worded : (ws : List Word) (t : Rose Part) → RoseWorded ws t → AllWorded ws (pre t)
  rose_worded ws (rose x ts) h = (h.0, roses_worded ws ts h.1)

  roses_worded : (ws : List Word) (ts : Roses Part) → RosesWorded ws ts → AllWorded ws (pres ts)
  roses_worded ws Turned.none h = tt
  roses_worded ws (Turned.also t ts) h = all_worded ws (pre t) (pres ts) (rose_worded ws t h.0) (roses_worded ws ts h.1)

-- the tree at `i` has its words there, and these come behind it
abbrev Read : List Word → Shape → ℕ → Tree → List Word → Type 0
Read ws s i t r = RoseWorded ws (rose_as s i t) × (drop (end_of i t) ws ≡ r)

next : (ws : List Word) (i : ℕ) {w : Word} {r : List Word} → drop i ws ≡ w ∷ r → drop (i + 1) ws ≡ r
next ws i h = sym (drop-drop 1 i ws) ∙ ap (drop 1) h

named : (ws : List Word) (i : ℕ) {x : List ℕ} {r : List Word} → drop i ws ≡ Name x ∷ r → Next IsNamed (drop i ws)
named ws i h = subst (Next IsNamed) (sym h) tt

quoted : (ws : List Word) (i : ℕ) {x : List ℕ} {r : List Word} → drop i ws ≡ Text x ∷ r → Next IsQuoted (drop i ws)
quoted ws i h = subst (Next IsQuoted) (sym h) tt

mutual
  expression : (ws : List Word) {ts r : List Word} {e : Tree} (i : ℕ) → drop i ws ≡ ts → Expression ts e r → Read ws shapes.Block i e r
  expression ws i h (of_logic_terms t m) = more_logic_terms ws i m (logic_term ws i h t)

  more_logic_terms : (ws : List Word) {a e : Tree} {r r' : List Word} (i : ℕ) → MoreLogicTerms a r e r' → Read ws shapes.Block i a r → Read ws shapes.Block i e r'
  more_logic_terms ws i no_or d = d
  more_logic_terms ws i (or {a = a} t m) d =
      let b = logic_term ws (end_of i a + 1) (next ws (end_of i a) d.1) t in
      more_logic_terms ws i m ((tt, (d.0, (b.0, tt))), b.1)

  logic_term : (ws : List Word) {ts r : List Word} {e : Tree} (i : ℕ) → drop i ws ≡ ts → LogicTerm ts e r → Read ws shapes.Block i e r
  logic_term ws i h (of_logic_factors t m) = more_logic_factors ws i m (logic_factor ws i h t)

  more_logic_factors : (ws : List Word) {a e : Tree} {r r' : List Word} (i : ℕ) → MoreLogicFactors a r e r' → Read ws shapes.Block i a r → Read ws shapes.Block i e r'
  more_logic_factors ws i no_and d = d
  more_logic_factors ws i (and {a = a} t m) d =
      let b = logic_factor ws (end_of i a + 1) (next ws (end_of i a) d.1) t in
      more_logic_factors ws i m ((tt, (d.0, (b.0, tt))), b.1)

  logic_factor : (ws : List Word) {ts r : List Word} {e : Tree} (i : ℕ) → drop i ws ≡ ts → LogicFactor ts e r → Read ws shapes.Block i e r
  logic_factor ws i h (of_arithmetic t m) = may_compare ws i m (arithmetic ws i h t)

  may_compare : (ws : List Word) {a e : Tree} {r r' : List Word} (i : ℕ) → MayCompare a r e r' → Read ws shapes.Block i a r → Read ws shapes.Block i e r'
  may_compare ws i no_comparison d = d
  may_compare ws i (comparison {a = a} t) d =
      let b = arithmetic ws (end_of i a + 1) (next ws (end_of i a) d.1) t in
      ((tt, (d.0, (b.0, tt))), b.1)

  arithmetic : (ws : List Word) {ts r : List Word} {e : Tree} (i : ℕ) → drop i ws ≡ ts → Arithmetic ts e r → Read ws shapes.Block i e r
  arithmetic ws i h (of_terms t m) = more_terms ws i m (term ws i h t)

  more_terms : (ws : List Word) {a e : Tree} {r r' : List Word} (i : ℕ) → MoreTerms a r e r' → Read ws shapes.Block i a r → Read ws shapes.Block i e r'
  more_terms ws i no_sum d = d
  more_terms ws i (adding {a = a} t m) d =
      let b = term ws (end_of i a + 1) (next ws (end_of i a) d.1) t in
      more_terms ws i m ((tt, (d.0, (b.0, tt))), b.1)

  term : (ws : List Word) {ts r : List Word} {e : Tree} (i : ℕ) → drop i ws ≡ ts → Term ts e r → Read ws shapes.Block i e r
  term ws i h (of_factors t m) = more_factors ws i m (factor ws i h t)

  more_factors : (ws : List Word) {a e : Tree} {r r' : List Word} (i : ℕ) → MoreFactors a r e r' → Read ws shapes.Block i a r → Read ws shapes.Block i e r'
  more_factors ws i no_product d = d
  more_factors ws i (multiplying {a = a} t m) d =
      let b = factor ws (end_of i a + 1) (next ws (end_of i a) d.1) t in
      more_factors ws i m ((tt, (d.0, (b.0, tt))), b.1)

  factor : (ws : List Word) {ts r : List Word} {e : Tree} (i : ℕ) → drop i ws ≡ ts → Factor ts e r → Read ws shapes.Block i e r
  factor ws i h (a_name c) = calls ws i c ((named ws i h, tt), next ws i h)
  factor ws i h (an_assignment e n) =
      let d = expression ws ((i + 1) + 1) (next ws (i + 1) (next ws i h)) e in
      ((named ws i h, (d.0, tt)), d.1)
  factor ws i h a_text = ((quoted ws i h, tt), next ws i h)
  factor ws i h a_number = ((tt, tt), next ws i h)
  factor ws i h (in_parens {e = t} e) =
      let d = expression ws (i + 1) (next ws i h) e in
      (d.0, next ws (end_of (i + 1) t) d.1)

  calls : (ws : List Word) {c e : Tree} {r r' : List Word} (i : ℕ) → Calls c r e r' → Read ws shapes.Block i c r → Read ws shapes.Block i e r'
  calls ws i no_call d = d
  calls ws i (calling {c = c} es m) d =
      let all = arguments ws (end_of i c + 1) (next ws (end_of i c) d.1) es in
      calls ws i m ((tt, (d.0, all.0)), all.1)

  arguments : (ws : List Word) {ts r : List Word} {es : Trees} (i : ℕ) → drop i ws ≡ ts → Arguments ts es r → RosesWorded ws (argument_roses i es) × (drop (arguments_end i es) ws ≡ r)
  arguments ws i h no_argument = (tt, next ws i h)
  arguments ws i h (first_argument {e = t} e m) =
      let d = expression ws i h e in
      let more = more_arguments ws (end_of i t) d.1 m in
      ((d.0, more.0), more.1)

  more_arguments : (ws : List Word) {ts r : List Word} {es : Trees} (i : ℕ) → drop i ws ≡ ts → MoreArguments ts es r → RosesWorded ws (more_argument_roses i es) × (drop (more_arguments_end i es) ws ≡ r)
  more_arguments ws i h no_more_arguments = (tt, next ws i h)
  more_arguments ws i h (next_argument {e = t} e m) =
      let d = expression ws (i + 1) (next ws i h) e in
      let more = more_arguments ws (end_of (i + 1) t) d.1 m in
      ((d.0, more.0), more.1)

mutual
  braced : (ws : List Word) {l : Bool} {ts r : List Word} {b : Tree} (s : Shape) (i : ℕ) → IsWorded ws s i → drop i ws ≡ ts → Block l ts b r → Read ws s i b r
  braced ws s i g h (braces ss) =
      let d = statements ws (i + 1) (next ws i h) ss in
      ((g, d.0), d.1)

  statements : (ws : List Word) {l : Bool} {ts r : List Word} {ss : Trees} (i : ℕ) → drop i ws ≡ ts → Statements l ts ss r → RosesWorded ws (roses i ss) × (drop (trees_end i ss + 1) ws ≡ r)
  statements ws i h no_more_statements = (tt, next ws i h)
  statements ws i h (next_statement {s = t} s ss) =
      let d = statement ws i h s in
      let more = statements ws (end_of i t) d.1 ss in
      ((d.0, more.0), more.1)

  statement : (ws : List Word) {l : Bool} {ts r : List Word} {s : Tree} (i : ℕ) → drop i ws ≡ ts → Statement l ts s r → Read ws shapes.Block i s r
  statement ws i h (a_while {c = c} e b) =
      let d = expression ws ((i + 1) + 1) (next ws (i + 1) (next ws i h)) e in
      let body = braced ws shapes.Block (end_of ((i + 1) + 1) c + 1) tt (next ws (end_of ((i + 1) + 1) c) d.1) b in
      ((tt, (d.0, (body.0, tt))), body.1)
  statement ws i h (an_if {c = c} e b m) =
      let d = expression ws ((i + 1) + 1) (next ws (i + 1) (next ws i h)) e in
      may_else ws i m d.0 (braced ws shapes.Block (end_of ((i + 1) + 1) c + 1) tt (next ws (end_of ((i + 1) + 1) c) d.1) b)
  statement ws i h a_bare_return = ((tt, tt), next ws (i + 1) (next ws i h))
  statement ws i h (a_return {e = t} e) =
      let d = expression ws (i + 1) (next ws i h) e in
      ((tt, (d.0, tt)), next ws (end_of (i + 1) t) d.1)
  statement ws i h (a_break g) = ((tt, tt), next ws (i + 1) (next ws i h))
  statement ws i h (a_continue g) = ((tt, tt), next ws (i + 1) (next ws i h))
  statement ws i h a_debugger = ((tt, tt), next ws (i + 1) (next ws i h))
  statement ws i h (an_expression {e = t} e) =
      let d = expression ws i h e in
      (d.0, next ws (end_of i t) d.1)

  may_else : (ws : List Word) {l : Bool} {c b s : Tree} {r r' : List Word} (i : ℕ) → MayElse l c b r s r' → RoseWorded ws (rose_as shapes.Block ((i + 1) + 1) c)
      → Read ws shapes.Block (end_of ((i + 1) + 1) c + 1) b r → Read ws shapes.Block i s r'
  may_else ws i no_else d body = ((tt, (d, (body.0, tt))), body.1)
  may_else ws i (an_else {c = c} {b = b} o) d body =
      let end = end_of (end_of ((i + 1) + 1) c + 1) b in
      let other = braced ws shapes.Block (end + 1) tt (next ws end body.1) o in
      ((tt, (d, (body.0, (other.0, tt)))), other.1)

names_more : (ws : List Word) (i n : ℕ) → Next IsNamed (drop i ws) → ((k : ℕ) → k < n → Next IsNamed (drop (((i + 1) + 1) + 2 * k) ws))
    → (k : ℕ) → k < n + 1 → Next IsNamed (drop (i + 2 * k) ws)
names_more ws i n h more zero lt = subst (λ j. Next IsNamed (drop j ws)) (at_first i) h
  where
    at_first : (j : ℕ) → j ≡ j + 2 * 0
    at_first j = omega arith
names_more ws i n h more (suc k) lt = subst (λ j. Next IsNamed (drop j ws)) (behind i k) (more k (omega arith))
  where
    behind : (j m : ℕ) → ((j + 1) + 1) + 2 * m ≡ j + 2 * suc m
    behind j m = omega arith

no_names : (ws : List Word) (i k : ℕ) → k < 0 → Next IsNamed (drop (i + 2 * k) ws)
no_names ws i k lt = absurd (omega arith)

more_parameters : (ws : List Word) {ts r : List Word} {xs : List (List ℕ)} (i : ℕ) → drop i ws ≡ ts → MoreParameters ts xs r
    → ((k : ℕ) → k < length_of xs → Next IsNamed (drop ((i + 1) + 2 * k) ws)) × (drop (more_parameters_end i xs + 1) ws ≡ r)
more_parameters ws i h no_more_parameters = (no_names ws (i + 1), next ws i h)
more_parameters ws i h (next_parameter {xs = xs} m) =
    let more = more_parameters ws ((i + 1) + 1) (next ws (i + 1) (next ws i h)) m in
    (names_more ws (i + 1) (length_of xs) (named ws (i + 1) (next ws i h)) more.0, more.1)

parameters : (ws : List Word) {ts r : List Word} {xs : List (List ℕ)} (i : ℕ) → drop i ws ≡ ts → Parameters ts xs r
    → ((k : ℕ) → k < length_of xs → Next IsNamed (drop (i + 2 * k) ws)) × (drop (parameters_end i xs + 1) ws ≡ r)
parameters ws i h no_parameter = (no_names ws i, next ws i h)
parameters ws i h (first_parameter {xs = xs} m) =
    let more = more_parameters ws (i + 1) (next ws i h) m in
    (names_more ws i (length_of xs) (named ws i h) more.0, more.1)

function : (ws : List Word) {ts r : List Word} {f : Tree} (i : ℕ) → drop i ws ≡ ts → AFunction ts f r → Read ws shapes.Block i f r
function ws i h (a_function {xs = xs} p b) =
    let all = parameters ws (((i + 1) + 1) + 1) (next ws ((i + 1) + 1) (next ws (i + 1) (next ws i h))) p in
    let body = braced ws shapes.Body (body_place i xs) tt all.1 b in
    (((named ws (i + 1) (next ws i h), λ k lt. subst (λ j. Next IsNamed (drop (j + 2 * k) ws)) (third i) (all.0 k lt)), (body.0, tt)), body.1)
  where
    third : (j : ℕ) → ((j + 1) + 1) + 1 ≡ j + 3
    third j = omega arith

more_functions : (ws : List Word) {ts : List Word} {fs : Trees} (i : ℕ) → drop i ws ≡ ts → MoreFunctions ts fs → RosesWorded ws (roses i fs)
more_functions ws i h no_more_functions = tt
more_functions ws i h (next_function {f = t} f m) =
    let d = function ws i h f in
    (d.0, more_functions ws (end_of i t) d.1 m)

program : (ws : List Word) {ts : List Word} {T : Trees} → drop 0 ws ≡ ts → Program ts T → RosesWorded ws (roses 0 T)
program ws h (first_function {f = t} f m) =
    let d = function ws 0 h f in
    (d.0, more_functions ws (end_of 0 t) d.1 m)

-- each node of a program has its words
pub program_worded : (ws : List Word) (T : Trees) → Program ws T → AllWorded ws (pres (roses 0 T))
program_worded ws T h = roses_worded ws (roses 0 T) (program ws refl h)
