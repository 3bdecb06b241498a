-- How the nodes of a program stand behind the earlier ones: one begins in another only to end in it, an assignment stands in a block,
-- and no block stands in an assignment.
use Rattle.std.proofs.Common.{◌≡◌, ℕ, ◌+◌, ◌<◌, ◌≤◌, Bool, true, false, List, [], ◌∷◌, ◌++◌, refl, sym, ap, ◌∙◌, ◌⊎◌, inl, inr, arith}
use Rattle.std.specs.Prelude.{if◌then◌else◌, nat_lt, ◌&&◌}
use Rattle.std.proofs.lemmas.Bool.{lt-ltb, le-ltb, and_right}
use Rattle.pd_turn.specs.declared.Node.{Node}
use Rattle.pd_turn.specs.Turned.{pre, pres}
use Rattle.pd_sl_spell.specs.Words.{Word, Tree, name, number, text, parens, call, assign, either, both, compared, sum, product, while, conditional, conditional_else, return_nothing, return, break, continue, debugger, expression_statement, block, function, Trees, none, also}
use Rattle.pd_sl_spell.specs.Grammar.{Expression, of_logic_terms, MoreLogicTerms, no_or, or, LogicTerm, of_logic_factors, MoreLogicFactors, no_and, and, LogicFactor, of_arithmetic, MayCompare, no_comparison, comparison, Arithmetic, of_terms, MoreTerms, no_sum, adding, Term, of_factors, MoreFactors, no_product, multiplying, Factor, a_name, an_assignment, a_text, a_number, in_parens, Calls, no_call, calling, Arguments, no_argument, first_argument, MoreArguments, no_more_arguments, next_argument, Block, braces, Statements, no_more_statements, next_statement, Statement, a_while, an_if, a_bare_return, a_return, a_break, a_continue, a_debugger, an_expression, MayElse, no_else, an_else, a_function, MoreFunctions, no_more_functions, next_function, Program, first_function}
use Rattle.pd_sl_read.specs.declared.parts.Part.{Part}
use Rattle.pd_sl_read.specs.declared.parts.Shape.{Shape}
use Rattle.pd_sl_read.specs.declared.parts.Shape.TheVariants as shapes
use Rattle.pd_sl_read.specs.Places.{part, end_of, arguments_end, more_arguments_end, trees_end, body_place, length_of, rose_as, argument_roses, more_argument_roses, roses}
use Rattle.pd_sl_parse.specs.Locals.{is_function, is_block, is_assignment, block_end}
use Rattle.pd_sl_parse.proofs.Within.{tree_grows, arguments_grow, more_arguments_grow, trees_grow, body_grows}
use Rattle.pd_sl_parse.proofs.Following.{start, AllNested, AssignsEnded, Stands}

-- Expressions, blocks and statements, as trees.
abbrev mutual
  IsExpression : Tree → Type 0
  IsExpression (name x) = Unit {0}
  IsExpression (number n) = Unit {0}
  IsExpression (text t) = Unit {0}
  IsExpression (parens e) = IsExpression e
  IsExpression (call c es) = IsExpression c × AllExpressions es
  IsExpression (assign x e) = IsExpression e
  IsExpression (either a b) = IsExpression a × IsExpression b
  IsExpression (both a b) = IsExpression a × IsExpression b
  IsExpression (compared o a b) = IsExpression a × IsExpression b
  IsExpression (sum o a b) = IsExpression a × IsExpression b
  IsExpression (product o a b) = IsExpression a × IsExpression b
  IsExpression _ = ⊥

  AllExpressions : Trees → Type 0
  AllExpressions none = Unit {0}
  AllExpressions (also e es) = IsExpression e × AllExpressions es

abbrev mutual
  IsStatement : Tree → Type 0
  IsStatement (while c b) = IsExpression c × IsBraced b
  IsStatement (conditional c b) = IsExpression c × IsBraced b
  IsStatement (conditional_else c b d) = IsExpression c × IsBraced b × IsBraced d
  IsStatement return_nothing = Unit {0}
  IsStatement (return e) = IsExpression e
  IsStatement break = Unit {0}
  IsStatement continue = Unit {0}
  IsStatement debugger = Unit {0}
  IsStatement (expression_statement e) = IsExpression e
  IsStatement _ = ⊥

  IsBraced : Tree → Type 0
  IsBraced (block ss) = AllStatements ss
  IsBraced _ = ⊥

  AllStatements : Trees → Type 0
  AllStatements none = Unit {0}
  AllStatements (also s ss) = IsStatement s × AllStatements ss

mutual
  expression : {ts r : List Word} {e : Tree} → Expression ts e r → IsExpression e
  expression (of_logic_terms t m) = more_logic_terms m (logic_term t)

  more_logic_terms : {a e : Tree} {r r' : List Word} → MoreLogicTerms a r e r' → IsExpression a → IsExpression e
  more_logic_terms no_or h = h
  more_logic_terms (or t m) h = more_logic_terms m (h, logic_term t)

  logic_term : {ts r : List Word} {e : Tree} → LogicTerm ts e r → IsExpression e
  logic_term (of_logic_factors t m) = more_logic_factors m (logic_factor t)

  more_logic_factors : {a e : Tree} {r r' : List Word} → MoreLogicFactors a r e r' → IsExpression a → IsExpression e
  more_logic_factors no_and h = h
  more_logic_factors (and t m) h = more_logic_factors m (h, logic_factor t)

  logic_factor : {ts r : List Word} {e : Tree} → LogicFactor ts e r → IsExpression e
  logic_factor (of_arithmetic t m) = may_compare m (arithmetic t)

  may_compare : {a e : Tree} {r r' : List Word} → MayCompare a r e r' → IsExpression a → IsExpression e
  may_compare no_comparison h = h
  may_compare (comparison t) h = (h, arithmetic t)

  arithmetic : {ts r : List Word} {e : Tree} → Arithmetic ts e r → IsExpression e
  arithmetic (of_terms t m) = more_terms m (term t)

  more_terms : {a e : Tree} {r r' : List Word} → MoreTerms a r e r' → IsExpression a → IsExpression e
  more_terms no_sum h = h
  more_terms (adding t m) h = more_terms m (h, term t)

  term : {ts r : List Word} {e : Tree} → Term ts e r → IsExpression e
  term (of_factors t m) = more_factors m (factor t)

  more_factors : {a e : Tree} {r r' : List Word} → MoreFactors a r e r' → IsExpression a → IsExpression e
  more_factors no_product h = h
  more_factors (multiplying t m) h = more_factors m (h, factor t)

  factor : {ts r : List Word} {e : Tree} → Factor ts e r → IsExpression e
  factor (a_name c) = calls c tt
  factor (an_assignment e n) = expression e
  factor a_text = tt
  factor a_number = tt
  factor (in_parens e) = expression e

  calls : {c e : Tree} {r r' : List Word} → Calls c r e r' → IsExpression c → IsExpression e
  calls no_call h = h
  calls (calling es m) h = calls m (h, arguments es)

  arguments : {ts r : List Word} {es : Trees} → Arguments ts es r → AllExpressions es
  arguments no_argument = tt
  arguments (first_argument e m) = (expression e, more_arguments m)

  more_arguments : {ts r : List Word} {es : Trees} → MoreArguments ts es r → AllExpressions es
  more_arguments no_more_arguments = tt
  more_arguments (next_argument e m) = (expression e, more_arguments m)

mutual
  braced : {l : Bool} {ts r : List Word} {b : Tree} → Block l ts b r → IsBraced b
  braced (braces ss) = statements ss

  statements : {l : Bool} {ts r : List Word} {ss : Trees} → Statements l ts ss r → AllStatements ss
  statements no_more_statements = tt
  statements (next_statement s ss) = (statement s, statements ss)

  statement : {l : Bool} {ts r : List Word} {s : Tree} → Statement l ts s r → IsStatement s
  statement (a_while c b) = (expression c, braced b)
  statement (an_if c b m) = may_else m (expression c) (braced b)
  statement a_bare_return = tt
  statement (a_return e) = expression e
  statement (a_break h) = tt
  statement (a_continue h) = tt
  statement a_debugger = tt
  statement (an_expression e) = expression e

  may_else : {l : Bool} {c b s : Tree} {r r' : List Word} → MayElse l c b r s r' → IsExpression c → IsBraced b → IsStatement s
  may_else no_else h g = (h, g)
  may_else (an_else d) h g = (h, g, braced d)

-- the earlier nodes behind some more
abbrev pub past : List (Node Part) → List Part → List Part
past [] qs = qs
past (x ∷ xs) qs = past xs (x.what ∷ qs)

abbrev pub AllStand : List Part → List (Node Part) → Type 0
AllStand qs [] = Unit {0}
AllStand qs (x ∷ xs) = Stands qs x.what × AllStand (x.what ∷ qs) xs

all_stand : (qs : List Part) (xs ys : List (Node Part)) → AllStand qs xs → AllStand (past xs qs) ys → AllStand qs (xs ++ ys)
all_stand qs [] ys h g = g
all_stand qs (x ∷ xs) ys h g = (h.0, all_stand (x.what ∷ qs) xs ys h.1 g)

-- each node has begun and ended by `m`, and none is a function
abbrev AllEnd : ℕ → List (Node Part) → Type 0
AllEnd m [] = Unit {0}
AllEnd m (x ∷ xs) = ((is_function x.what.shape ≡ false) × (x.what.first ≤ m) × (x.what.end ≤ m)) × AllEnd m xs

all_end : (m : ℕ) (xs ys : List (Node Part)) → AllEnd m xs → AllEnd m ys → AllEnd m (xs ++ ys)
all_end m [] ys h g = g
all_end m (x ∷ xs) ys h g = (h.0, all_end m xs ys h.1 g)

end_later : (m n : ℕ) (xs : List (Node Part)) → m ≤ n → AllEnd m xs → AllEnd n xs
end_later m n [] le h = tt
end_later m n (x ∷ xs) le h = ((h.0.0, omega (arith, h.0.1), omega (arith, h.0.2)), end_later m n xs le h.1)

-- each earlier node has ended at `i`, or goes on up to `e`
abbrev AllAround : List Part → ℕ → ℕ → Type 0
AllAround [] i e = Unit {0}
AllAround (q ∷ qs) i e = ((q.end ≤ i) ⊎ (e ≤ q.end)) × AllAround qs i e

around_less : (qs : List Part) (i j d e : ℕ) → i ≤ j → d ≤ e → AllAround qs i e → AllAround qs j d
around_less [] i j d e le ge h = tt
around_less (q ∷ qs) i j d e le ge h = (go h.0, around_less qs i j d e le ge h.1)
  where
    go : (q.end ≤ i) ⊎ (e ≤ q.end) → (q.end ≤ j) ⊎ (d ≤ q.end)
    go (inl g) = inl (omega arith)
    go (inr g) = inr (omega arith)

around_nested : (qs : List Part) (i e : ℕ) → AllAround qs i e → AllNested qs i e
around_nested [] i e h = tt
around_nested (q ∷ qs) i e h = (go h.0, around_nested qs i e h.1)
  where
    go : (q.end ≤ i) ⊎ (e ≤ q.end) → i < q.end → e ≤ q.end
    go (inl g) lt = absurd (omega arith)
    go (inr g) lt = g

ended_later : (qs : List Part) (i j : ℕ) → i ≤ j → AssignsEnded qs i → AssignsEnded qs j
ended_later [] i j le h = tt
ended_later (q ∷ qs) i j le h = (λ e. omega (arith, h.0 e), ended_later qs i j le h.1)

ended_past : (xs : List (Node Part)) (qs : List Part) (m : ℕ) → AllEnd m xs → AssignsEnded qs m → AssignsEnded (past xs qs) m
ended_past [] qs m h g = g
ended_past (x ∷ xs) qs m h g = ended_past xs (x.what ∷ qs) m h.1 (λ e. h.0.2, g)

around_past : (xs : List (Node Part)) (qs : List Part) (m e : ℕ) → AllEnd m xs → AllAround qs m e → AllAround (past xs qs) m e
around_past [] qs m e h g = g
around_past (x ∷ xs) qs m e h g = around_past xs (x.what ∷ qs) m e h.1 (inl h.0.2, g)

start_past : (xs : List (Node Part)) (qs : List Part) (m : ℕ) → AllEnd m xs → start qs ≤ m → start (past xs qs) ≤ m
start_past [] qs m h g = g
start_past (x ∷ xs) qs m h g = start_past xs (x.what ∷ qs) m h.1 h.0.1

-- from `i` to `e` the text stands in a block, and whatever goes on at `i` goes on up to `e`
record Room (qs : List Part) (i e : ℕ) : Type 0 where
  order : start qs ≤ i
  around : AllAround qs i e
  in_block : (j : ℕ) → i ≤ j → j < e → e ≤ block_end qs j

less : (qs : List Part) (i j d e : ℕ) → i ≤ j → d ≤ e → Room qs i e → Room qs j d
less qs i j d e le ge r = record {
  order = omega (arith, r.order);
  around = around_less qs i j d e le ge r.around;
  in_block = λ k g lt. omega (arith, r.in_block k (omega arith) (omega arith));
}

-- behind the first token of a node that is no block
within : (sh : Shape) (a b : ℕ) (qs : List Part) (i e : ℕ) → is_function sh ≡ false → is_block sh ≡ false → a ≤ i → e ≤ b → Room qs i e → Room (part sh a b ∷ qs) i e
within sh a b qs i e f bl le ge r = record {
  order = le;
  around = (inr ge, r.around);
  in_block = λ j g lt. omega (arith, r.in_block j g lt, ap (λ t. if t then 0 else if is_block sh && nat_lt j b then b else block_end qs j) f ∙ ap (λ t. if t && nat_lt j b then b else block_end qs j) bl);
}

-- behind some nodes
behind : (xs : List (Node Part)) (qs : List Part) (m e : ℕ) → AllEnd m xs → Room qs m e → Room (past xs qs) m e
behind [] qs m e h r = r
behind (x ∷ xs) qs m e h r = behind xs (x.what ∷ qs) m e h.1 (record {
  order = h.0.1;
  around = (inl h.0.2, r.around);
  in_block = λ j g lt.
      let over : x.what.end ≤ j = omega (arith, h.0.2) in
      omega (
        arith,
        r.in_block j g lt,
        ap (λ t. if t then 0 else if is_block x.what.shape && nat_lt j x.what.end then x.what.end else block_end qs j) h.0.0
            ∙ ap (λ t. if t then x.what.end else block_end qs j) (and_right (is_block x.what.shape) (nat_lt j x.what.end) (le-ltb j x.what.end over)),
      );
})

-- the nodes stand, and have ended by `e`
abbrev Done : List Part → ℕ → List (Node Part) → Type 0
Done qs e xs = AllStand qs xs × AllEnd e xs

later : (qs : List Part) (m n : ℕ) (xs : List (Node Part)) → m ≤ n → Done qs m xs → Done qs n xs
later qs m n xs le d = (d.0, end_later m n xs le d.1)

-- some nodes, and those behind them
both_done : (qs : List Part) (i m n e : ℕ) (xs ys : List (Node Part)) → i ≤ n → m ≤ n → n ≤ e → Room qs i e → Done qs m xs
    → ((rs : List Part) → Room rs n e → (AssignsEnded qs n → AssignsEnded rs n) → Done rs e ys) → Done qs e (xs ++ ys)
both_done qs i m n e xs ys le ge le2 r d f =
    let ends = end_later m n xs ge d.1 in
    let more = f (past xs qs) (behind xs qs n e ends (less qs i n e e le (omega arith) r)) (ended_past xs qs n ends) in
    (all_stand qs xs ys d.0 more.0, all_end e xs ys (end_later m e xs (omega arith) d.1) more.1)

last_done : (qs : List Part) (i e : ℕ) (xs : List (Node Part)) → i ≤ e → Room qs i e → Done qs e xs → Done qs e (xs ++ [])
last_done qs i e xs le r d = both_done qs i e e e xs [] le (omega arith) (omega arith) r d (λ rs _ _. (tt, tt))

head_done : (sh : Shape) (n i e : ℕ) (xs : List (Node Part)) (qs : List Part) → is_function sh ≡ false → i ≤ e → Stands qs (part sh i e) → Done (part sh i e ∷ qs) e xs → Done qs e (record { what = part sh i e; parts = n } ∷ xs)
head_done sh n i e xs qs f le st d = ((st, d.0), ((f, le, omega arith), d.1))

not_true : (t : Bool) → t ≡ false → t ≡ true → ⊥
not_true t f e = cc

plain : (sh : Shape) (i e : ℕ) (qs : List Part) → is_block sh ≡ false → is_assignment sh ≡ false → i < e → Room qs i e → Stands qs (part sh i e)
plain sh i e qs bl as' lt r = record {
  some = lt;
  order = r.order;
  nested = around_nested qs i e r.around;
  in_block = λ h. absurd (not_true _ as' h);
  clear = λ h. absurd (not_true _ bl h);
}

single : (sh : Shape) (n i e : ℕ) (qs : List Part) → is_function sh ≡ false → is_block sh ≡ false → is_assignment sh ≡ false → i < e → Room qs i e → Done qs e (record { what = part sh i e; parts = n } ∷ [])
single sh n i e qs f bl as' lt r = head_done sh n i e [] qs f (omega arith) (plain sh i e qs bl as' lt r) (tt, tt)

one : (sh : Shape) (n i j e : ℕ) (xs : List (Node Part)) (qs : List Part) → is_function sh ≡ false → is_block sh ≡ false → i ≤ j → j ≤ e → Stands qs (part sh i e) → Room qs i e
    → ((rs : List Part) → Room rs j e → Done rs e xs) → Done qs e (record { what = part sh i e; parts = n } ∷ (xs ++ []))
one sh n i j e xs qs f bl le ge st r g =
    let inner = within sh i e qs j e f bl le (omega arith) (less qs i j e e le (omega arith) r) in
    head_done sh n i e (xs ++ []) qs f (omega arith) st (last_done (part sh i e ∷ qs) j e xs ge inner (g (part sh i e ∷ qs) inner))

two : (sh : Shape) (n i j m k e : ℕ) (xs ys : List (Node Part)) (qs : List Part) → is_function sh ≡ false → is_block sh ≡ false → is_assignment sh ≡ false → i ≤ j → j ≤ m → m ≤ k → k < e → Room qs i e
    → ((rs : List Part) → Room rs j m → Done rs m xs) → ((rs : List Part) → Room rs k e → (AssignsEnded qs k → AssignsEnded rs k) → Done rs e ys) → Done qs e (record { what = part sh i e; parts = n } ∷ (xs ++ (ys ++ [])))
two sh n i j m k e xs ys qs f bl as' le le2 le3 lt r g h =
    let inner = within sh i e qs j e f bl le (omega arith) (less qs i j e e le (omega arith) r) in
    head_done sh n i e (xs ++ (ys ++ [])) qs f (omega arith) (plain sh i e qs bl as' (omega arith) r)
    (both_done (part sh i e ∷ qs) j m k e xs (ys ++ []) (omega arith) le3 (omega arith) inner (g (part sh i e ∷ qs) (less (part sh i e ∷ qs) j j m e (omega arith) (omega arith) inner))
    (λ rs room ended. last_done rs k e ys (omega arith) room (h rs room (λ a. ended (λ t. absurd (not_true _ as' t), a)))))

-- an operator and its operands
operands : (sh : Shape) (n i : ℕ) (a b : Tree) (qs : List Part) → is_function sh ≡ false → is_block sh ≡ false → is_assignment sh ≡ false → Room qs i (end_of (end_of i a + 1) b)
    → ((rs : List Part) → Room rs i (end_of i a) → Done rs (end_of i a) (pre (rose_as shapes.Block i a)))
    → ((rs : List Part) → Room rs (end_of i a + 1) (end_of (end_of i a + 1) b) → Done rs (end_of (end_of i a + 1) b) (pre (rose_as shapes.Block (end_of i a + 1) b)))
    → Done qs (end_of (end_of i a + 1) b) (record { what = part sh i (end_of (end_of i a + 1) b); parts = n } ∷ (pre (rose_as shapes.Block i a) ++ (pre (rose_as shapes.Block (end_of i a + 1) b) ++ [])))
operands sh n i a b qs f bl as' r g h =
    two sh n i i (end_of i a) (end_of i a + 1) (end_of (end_of i a + 1) b) _ _ qs f bl as' (omega arith) (omega (arith, tree_grows i a)) (omega arith) (omega (arith, tree_grows (end_of i a + 1) b)) r g (λ rs room _. h rs room)

mutual
  expression_done : (s : Shape) (i : ℕ) (t : Tree) (qs : List Part) → IsExpression t → Room qs i (end_of i t) → Done qs (end_of i t) (pre (rose_as s i t))
  expression_done s i (name x) qs h r = single shapes.Name 0 i (i + 1) qs refl refl refl (omega arith) r
  expression_done s i (number n) qs h r = single (shapes.Number _) 0 i (i + 1) qs refl refl refl (omega arith) r
  expression_done s i (text t) qs h r = single shapes.Text 0 i (i + 1) qs refl refl refl (omega arith) r
  expression_done s i (parens e) qs h r =
      later qs (end_of (i + 1) e) _ _ (omega arith) (expression_done shapes.Block (i + 1) e qs h (less qs i (i + 1) (end_of (i + 1) e) _ (omega arith) (omega arith) r))
  expression_done s i (call c es) qs h r =
      let m = end_of i c in
      let e = arguments_end (m + 1) es in
      let le : m + 1 ≤ e = omega (arith, arguments_grow (m + 1) es) in
      let from : i + 1 ≤ m = tree_grows i c in
      let p = part shapes.Call i e in
      let inner = within shapes.Call i e qs i e refl refl (omega arith) (omega arith) r in
      head_done shapes.Call 0 i e _ qs refl (omega arith) (plain shapes.Call i e qs refl refl (omega arith) r)
      (both_done (p ∷ qs) i m (m + 1) e (pre (rose_as shapes.Block i c)) (pres (argument_roses (m + 1) es)) (omega arith) (omega arith) le inner
      (expression_done shapes.Block i c (p ∷ qs) h.0 (less (p ∷ qs) i i m e (omega arith) (omega arith) inner))
      (λ rs room _. arguments_done (m + 1) es rs h.1 room))
  expression_done s i (assign x v) qs h r =
      let e = end_of ((i + 1) + 1) v in
      let lt : (i + 1) + 1 < e = omega (arith, tree_grows ((i + 1) + 1) v) in
      one shapes.Assign 0 i ((i + 1) + 1) e (pre (rose_as shapes.Block ((i + 1) + 1) v)) qs refl refl (omega arith) (omega arith)
      (record { some = omega arith; order = r.order; nested = around_nested qs i e r.around; in_block = λ _. r.in_block i (omega arith) (omega arith); clear = λ t. absurd (not_true _ refl t) }) r
      (λ rs room. expression_done shapes.Block ((i + 1) + 1) v rs h room)
  expression_done s i (either a b) qs h r = operands shapes.Or 0 i a b qs refl refl refl r (λ rs room. expression_done shapes.Block i a rs h.0 room) (λ rs room. expression_done shapes.Block (end_of i a + 1) b rs h.1 room)
  expression_done s i (both a b) qs h r = operands shapes.And 0 i a b qs refl refl refl r (λ rs room. expression_done shapes.Block i a rs h.0 room) (λ rs room. expression_done shapes.Block (end_of i a + 1) b rs h.1 room)
  expression_done s i (compared o a b) qs h r = operands (shapes.Binary _) 0 i a b qs refl refl refl r (λ rs room. expression_done shapes.Block i a rs h.0 room) (λ rs room. expression_done shapes.Block (end_of i a + 1) b rs h.1 room)
  expression_done s i (sum o a b) qs h r = operands (shapes.Binary _) 0 i a b qs refl refl refl r (λ rs room. expression_done shapes.Block i a rs h.0 room) (λ rs room. expression_done shapes.Block (end_of i a + 1) b rs h.1 room)
  expression_done s i (product o a b) qs h r = operands (shapes.Binary _) 0 i a b qs refl refl refl r (λ rs room. expression_done shapes.Block i a rs h.0 room) (λ rs room. expression_done shapes.Block (end_of i a + 1) b rs h.1 room)
  expression_done s i (while c b) qs h r = absurd h
  expression_done s i (conditional c b) qs h r = absurd h
  expression_done s i (conditional_else c b d) qs h r = absurd h
  expression_done s i return_nothing qs h r = absurd h
  expression_done s i (return e) qs h r = absurd h
  expression_done s i break qs h r = absurd h
  expression_done s i continue qs h r = absurd h
  expression_done s i debugger qs h r = absurd h
  expression_done s i (expression_statement e) qs h r = absurd h
  expression_done s i (block ss) qs h r = absurd h
  expression_done s i (function x xs b) qs h r = absurd h

  arguments_done : (i : ℕ) (es : Trees) (qs : List Part) → AllExpressions es → Room qs i (arguments_end i es) → Done qs (arguments_end i es) (pres (argument_roses i es))
  arguments_done i none qs h r = (tt, tt)
  arguments_done i (also e es) qs h r =
      let m = end_of i e in
      let le : m ≤ more_arguments_end m es = omega (arith, more_arguments_grow m es) in
      let from : i + 1 ≤ m = tree_grows i e in
      both_done qs i m m (more_arguments_end m es) _ _ (omega arith) (omega arith) le r (expression_done shapes.Block i e qs h.0 (less qs i i m _ (omega arith) le r)) (λ rs room _. more_arguments_done m es rs h.1 room)

  more_arguments_done : (i : ℕ) (es : Trees) (qs : List Part) → AllExpressions es → Room qs i (more_arguments_end i es) → Done qs (more_arguments_end i es) (pres (more_argument_roses i es))
  more_arguments_done i none qs h r = (tt, tt)
  more_arguments_done i (also e es) qs h r =
      let m = end_of (i + 1) e in
      let le : m ≤ more_arguments_end m es = omega (arith, more_arguments_grow m es) in
      let from : (i + 1) + 1 ≤ m = tree_grows (i + 1) e in
      both_done qs i m m (more_arguments_end m es) _ _ (omega arith) (omega arith) le r (expression_done shapes.Block (i + 1) e qs h.0 (less qs i (i + 1) m _ (omega arith) le r)) (λ rs room _. more_arguments_done m es rs h.1 room)

-- a condition and a block
guarded : (sh : Shape) (n i : ℕ) (c b : Tree) (qs : List Part) → is_function sh ≡ false → is_block sh ≡ false → is_assignment sh ≡ false → IsExpression c → Room qs i (end_of (end_of ((i + 1) + 1) c + 1) b) → AssignsEnded qs i
    → ((rs : List Part) → start rs ≤ end_of ((i + 1) + 1) c + 1 → AllAround rs (end_of ((i + 1) + 1) c + 1) (end_of (end_of ((i + 1) + 1) c + 1) b) → AssignsEnded rs (end_of ((i + 1) + 1) c + 1) → Done rs (end_of (end_of ((i + 1) + 1) c + 1) b) (pre (rose_as shapes.Block (end_of ((i + 1) + 1) c + 1) b)))
    → Done qs (end_of (end_of ((i + 1) + 1) c + 1) b) (record { what = part sh i (end_of (end_of ((i + 1) + 1) c + 1) b); parts = n } ∷ (pre (rose_as shapes.Block ((i + 1) + 1) c) ++ (pre (rose_as shapes.Block (end_of ((i + 1) + 1) c + 1) b) ++ [])))
guarded sh n i c b qs f bl as' hc r ended g =
    let j = (i + 1) + 1 in
    let m = end_of j c in
    let from : j + 1 ≤ m = tree_grows j c in
    two sh n i j m (m + 1) (end_of (m + 1) b) _ _ qs f bl as' (omega arith) (omega arith) (omega arith) (omega (arith, tree_grows (m + 1) b)) r
    (λ rs room. expression_done shapes.Block j c rs hc room)
    (λ rs room more. g rs room.order room.around (more (ended_later qs i (m + 1) (omega arith) ended)))

mutual
  braced_done : (s : Shape) → is_function s ≡ false → is_block s ≡ true → is_assignment s ≡ false → (i : ℕ) (t : Tree) (qs : List Part) → IsBraced t → start qs ≤ i → AllAround qs i (end_of i t) → AssignsEnded qs i → Done qs (end_of i t) (pre (rose_as s i t))
  braced_done s f bl as' i (block ss) qs h order around ended =
      let m = trees_end (i + 1) ss in
      let le : i + 1 ≤ m = omega (arith, trees_grow (i + 1) ss) in
      let p = part s i (m + 1) in
      let opened : (j : ℕ) → j < m + 1 → m + 1 ≡ block_end (p ∷ qs) j =
      λ j lt. sym (ap (λ t. if t then 0 else if is_block s && nat_lt j (m + 1) then m + 1 else block_end qs j) f ∙ ap (λ t. if t && nat_lt j (m + 1) then m + 1 else block_end qs j) bl ∙ ap (λ t. if t then m + 1 else block_end qs j) (lt-ltb j (m + 1) lt)) in
      head_done s 0 i (m + 1) (pres (roses (i + 1) ss)) qs f (omega arith)
      (record { some = omega arith; order = order; nested = around_nested qs i (m + 1) around; in_block = λ t. absurd (not_true _ as' t); clear = λ _. ended })
      (later (p ∷ qs) m (m + 1) _ (omega arith)
      (statements_done (i + 1) ss (p ∷ qs) h
      (record { order = omega arith; around = (inr (omega arith), around_less qs i (i + 1) m (m + 1) (omega arith) (omega arith) around); in_block = λ j g lt. omega (arith, opened j (omega arith)) })
      (λ t. absurd (not_true _ as' t), ended_later qs i (i + 1) (omega arith) ended)))
  braced_done s f bl as' i _ qs h order around ended = absurd h

  statements_done : (i : ℕ) (ss : Trees) (qs : List Part) → AllStatements ss → Room qs i (trees_end i ss) → AssignsEnded qs i → Done qs (trees_end i ss) (pres (roses i ss))
  statements_done i none qs h r ended = (tt, tt)
  statements_done i (also t ts) qs h r ended =
      let m = end_of i t in
      let le : m ≤ trees_end m ts = omega (arith, trees_grow m ts) in
      let from : i + 1 ≤ m = tree_grows i t in
      both_done qs i m m (trees_end m ts) _ _ (omega arith) (omega arith) le r (statement_done i t qs h.0 (less qs i i m _ (omega arith) le r) ended) (λ rs room more. statements_done m ts rs h.1 room (more (ended_later qs i m (omega arith) ended)))

  statement_done : (i : ℕ) (t : Tree) (qs : List Part) → IsStatement t → Room qs i (end_of i t) → AssignsEnded qs i → Done qs (end_of i t) (pre (rose_as shapes.Block i t))
  statement_done i (while c b) qs h r ended = guarded shapes.While 0 i c b qs refl refl refl h.0 r ended (λ rs order around over. braced_done shapes.Block refl refl refl (end_of ((i + 1) + 1) c + 1) b rs h.1 order around over)
  statement_done i (conditional c b) qs h r ended = guarded shapes.If 0 i c b qs refl refl refl h.0 r ended (λ rs order around over. braced_done shapes.Block refl refl refl (end_of ((i + 1) + 1) c + 1) b rs h.1 order around over)
  statement_done i (conditional_else c b d) qs h r ended =
      let j = (i + 1) + 1 in
      let m = end_of j c in
      let n = end_of (m + 1) b in
      let e = end_of (n + 1) d in
      let from : j + 1 ≤ m = tree_grows j c in
      let le : (m + 1) + 1 ≤ n = tree_grows (m + 1) b in
      let le2 : (n + 1) + 1 ≤ e = tree_grows (n + 1) d in
      let p = part shapes.If i e in
      let inner = within shapes.If i e qs j e refl refl (omega arith) (omega arith) (less qs i j e e (omega arith) (omega arith) r) in
      let clear : (k : ℕ) → i ≤ k → AssignsEnded (p ∷ qs) k = λ k g. (λ t. absurd (not_true _ refl t), ended_later qs i k g ended) in
      head_done shapes.If 0 i e _ qs refl (omega arith) (plain shapes.If i e qs refl refl (omega arith) r)
      (both_done (p ∷ qs) j m (m + 1) e (pre (rose_as shapes.Block j c)) _ (omega arith) (omega arith) (omega arith) inner
      (expression_done shapes.Block j c (p ∷ qs) h.0 (less (p ∷ qs) j j m e (omega arith) (omega arith) inner))
      (λ rs room more.
      let here = more (clear (m + 1) (omega arith)) in
      both_done rs (m + 1) n (n + 1) e (pre (rose_as shapes.Block (m + 1) b)) _ (omega arith) (omega arith) (omega arith) room
      (braced_done shapes.Block refl refl refl (m + 1) b rs h.1 room.order (around_less rs (m + 1) (m + 1) n e (omega arith) (omega arith) room.around) here)
      (λ ss room2 more2. last_done ss (n + 1) e _ (omega arith) room2 (braced_done shapes.Block refl refl refl (n + 1) d ss h.2 room2.order room2.around (more2 (ended_later rs (m + 1) (n + 1) (omega arith) here))))))
  statement_done i return_nothing qs h r ended = later qs (i + 1) ((i + 1) + 1) (pre (rose_as shapes.Block i return_nothing)) (omega arith) (single shapes.Return 0 i (i + 1) qs refl refl refl (omega arith) (less qs i i (i + 1) _ (omega arith) (omega arith) r))
  statement_done i (return v) qs h r ended =
      let e = end_of (i + 1) v in
      let lt : (i + 1) + 1 ≤ e = tree_grows (i + 1) v in
      let room = less qs i i e (e + 1) (omega arith) (omega arith) r in
      later qs e (e + 1) (pre (rose_as shapes.Block i (return v))) (omega arith) (one shapes.Return 0 i (i + 1) e (pre (rose_as shapes.Block (i + 1) v)) qs refl refl (omega arith) (omega arith) (plain shapes.Return i e qs refl refl (omega arith) room) room (λ rs inner. expression_done shapes.Block (i + 1) v rs h inner))
  statement_done i break qs h r ended = later qs (i + 1) ((i + 1) + 1) (pre (rose_as shapes.Block i break)) (omega arith) (single shapes.Break 0 i (i + 1) qs refl refl refl (omega arith) (less qs i i (i + 1) _ (omega arith) (omega arith) r))
  statement_done i continue qs h r ended = later qs (i + 1) ((i + 1) + 1) (pre (rose_as shapes.Block i continue)) (omega arith) (single shapes.Continue 0 i (i + 1) qs refl refl refl (omega arith) (less qs i i (i + 1) _ (omega arith) (omega arith) r))
  statement_done i debugger qs h r ended = later qs (i + 1) ((i + 1) + 1) (pre (rose_as shapes.Block i debugger)) (omega arith) (single shapes.Debugger 0 i (i + 1) qs refl refl refl (omega arith) (less qs i i (i + 1) _ (omega arith) (omega arith) r))
  statement_done i (expression_statement v) qs h r ended =
      later qs (end_of i v) (end_of i v + 1) _ (omega arith) (expression_done shapes.Block i v qs h (less qs i i (end_of i v) _ (omega arith) (omega arith) r))
  statement_done i (name x) qs h r ended = absurd h
  statement_done i (number n) qs h r ended = absurd h
  statement_done i (text t) qs h r ended = absurd h
  statement_done i (parens e) qs h r ended = absurd h
  statement_done i (call c es) qs h r ended = absurd h
  statement_done i (assign x e) qs h r ended = absurd h
  statement_done i (either a b) qs h r ended = absurd h
  statement_done i (both a b) qs h r ended = absurd h
  statement_done i (compared o a b) qs h r ended = absurd h
  statement_done i (sum o a b) qs h r ended = absurd h
  statement_done i (product o a b) qs h r ended = absurd h
  statement_done i (block ss) qs h r ended = absurd h
  statement_done i (function x xs b) qs h r ended = absurd h

-- nothing goes on at `i`
record Over (qs : List Part) (i : ℕ) : Type 0 where
  order : start qs ≤ i
  around : (e : ℕ) → AllAround qs i e
  ended : AssignsEnded qs i

function_stands : (i : ℕ) (x : List ℕ) (xs : List (List ℕ)) (b : Tree) (qs : List Part) → IsBraced b → Over qs i
    → (ys : List (Node Part)) → ((rs : List Part) → Over rs (end_of (body_place i xs) b) → AllStand rs ys) → AllStand qs (pre (rose_as shapes.Block i (function x xs b)) ++ ys)
function_stands i x xs b qs h o ys f =
    let j = body_place i xs in
    let e = end_of j b in
    let from : i ≤ j = omega (arith, body_grows i xs) in
    let lt : j + 1 ≤ e = tree_grows j b in
    let p = part (shapes.Function (length_of xs)) i e in
    let body = pre (rose_as shapes.Body j b) in
    let done = braced_done shapes.Body refl refl refl j b (p ∷ qs) h from (inr (omega arith), around_less qs i j e e from (omega arith) (o.around e)) (λ t. absurd (not_true _ refl t), ended_later qs i j from o.ended) in
    let ends : AllEnd e (body ++ []) = all_end e body [] done.1 tt in
    let over : Over (past (body ++ []) (p ∷ qs)) e = record {
      order = start_past (body ++ []) (p ∷ qs) e ends (omega arith);
      around = λ d. around_past (body ++ []) (p ∷ qs) e d ends (inl (omega arith), around_less qs i e d d (omega arith) (omega arith) (o.around d));
      ended = ended_past (body ++ []) (p ∷ qs) e ends (λ t. absurd (not_true _ refl t), ended_later qs i e (omega arith) o.ended);
    } in
    (record { some = omega arith; order = o.order; nested = around_nested qs i e (o.around e); in_block = λ t. absurd (not_true _ refl t); clear = λ t. absurd (not_true _ refl t) }, all_stand (p ∷ qs) (body ++ []) ys (all_stand (p ∷ qs) body [] done.0 tt) (f (past (body ++ []) (p ∷ qs)) over))

functions_stand : {ws : List Word} {T : Trees} → MoreFunctions ws T → (i : ℕ) (qs : List Part) → Over qs i → AllStand qs (pres (roses i T))
functions_stand no_more_functions i qs o = tt
functions_stand (next_function (a_function {x = x} {xs = xs} {b = b} p g) m) i qs o =
    function_stands i x xs b qs (braced g) o _ (λ rs over. functions_stand m (end_of (body_place i xs) b) rs over)

pub program_stands : {ws : List Word} {T : Trees} → Program ws T → AllStand [] (pres (roses 0 T))
program_stands (first_function f m) = functions_stand (next_function f m) 0 [] (record { order = omega arith; around = λ e. tt; ended = tt })
