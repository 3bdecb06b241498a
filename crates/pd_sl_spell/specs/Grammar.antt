-- Definition: the grammar, a case for each alternative.
-- Each relation is between the words from some place on, the tree that they spell, and the words after it.
use Rattle.std.specs.Prelude.{ℕ, Bool, true, false, IsTrue, List, [], ◌∷◌}
use Rattle.pd_sl_spell.specs.Words.{Comparing, Adding, Multiplying, Word, Name, Number, Text, Or, And, Compares, Adds, Multiplies, Becomes, Open, Close, OpenBlock, CloseBlock, Comma, Semicolon, FunctionKey, WhileKey, IfKey, ElseKey, ReturnKey, BreakKey, ContinueKey, DebuggerKey, Tree, name, number, text, parens, call, assign, either, both, compared, sum, product, while, conditional, conditional_else, return_nothing, return, break, continue, debugger, expression_statement, block, function, Trees, none, also}

-- the word that comes next isn't an operator
abbrev pub NoOperator : List Word → Type 0
NoOperator (Or ∷ r) = ⊥
NoOperator (And ∷ r) = ⊥
NoOperator (Compares o ∷ r) = ⊥
NoOperator (Adds o ∷ r) = ⊥
NoOperator (Multiplies o ∷ r) = ⊥
NoOperator _ = Unit {0}

-- A relation `More..` goes on from what has been read so far, so that operators group to the left.
mutual
  -- expression = logic_term { "||" logic_term }
  pub data Expression : List Word → Tree → List Word → Type 0 where
    of_logic_terms : {ts r r' : List Word} {a e : Tree} → LogicTerm ts a r → MoreLogicTerms a r e r' → Expression ts e r'

  pub data MoreLogicTerms : Tree → List Word → Tree → List Word → Type 0 where
    no_or : {a : Tree} {r : List Word} → MoreLogicTerms a r a r
    or : {a b e : Tree} {ts r r' : List Word} → LogicTerm ts b r → MoreLogicTerms (either a b) r e r' → MoreLogicTerms a (Or ∷ ts) e r'

  -- logic_term = logic_factor { "&&" logic_factor }
  pub data LogicTerm : List Word → Tree → List Word → Type 0 where
    of_logic_factors : {ts r r' : List Word} {a e : Tree} → LogicFactor ts a r → MoreLogicFactors a r e r' → LogicTerm ts e r'

  pub data MoreLogicFactors : Tree → List Word → Tree → List Word → Type 0 where
    no_and : {a : Tree} {r : List Word} → MoreLogicFactors a r a r
    and : {a b e : Tree} {ts r r' : List Word} → LogicFactor ts b r → MoreLogicFactors (both a b) r e r' → MoreLogicFactors a (And ∷ ts) e r'

  -- logic_factor = arithmetic [ comparison arithmetic ]
  pub data LogicFactor : List Word → Tree → List Word → Type 0 where
    of_arithmetic : {ts r r' : List Word} {a e : Tree} → Arithmetic ts a r → MayCompare a r e r' → LogicFactor ts e r'

  pub data MayCompare : Tree → List Word → Tree → List Word → Type 0 where
    no_comparison : {a : Tree} {r : List Word} → MayCompare a r a r
    comparison : {o : Comparing} {a b : Tree} {ts r : List Word} → Arithmetic ts b r → MayCompare a (Compares o ∷ ts) (compared o a b) r

  -- arithmetic = term { ( "+" | "-" ) term }
  pub data Arithmetic : List Word → Tree → List Word → Type 0 where
    of_terms : {ts r r' : List Word} {a e : Tree} → Term ts a r → MoreTerms a r e r' → Arithmetic ts e r'

  pub data MoreTerms : Tree → List Word → Tree → List Word → Type 0 where
    no_sum : {a : Tree} {r : List Word} → MoreTerms a r a r
    adding : {o : Adding} {a b e : Tree} {ts r r' : List Word} → Term ts b r → MoreTerms (sum o a b) r e r' → MoreTerms a (Adds o ∷ ts) e r'

  -- term = factor { ( "*" | "/" ) factor }
  pub data Term : List Word → Tree → List Word → Type 0 where
    of_factors : {ts r r' : List Word} {a e : Tree} → Factor ts a r → MoreFactors a r e r' → Term ts e r'

  pub data MoreFactors : Tree → List Word → Tree → List Word → Type 0 where
    no_product : {a : Tree} {r : List Word} → MoreFactors a r a r
    multiplying : {o : Multiplying} {a b e : Tree} {ts r r' : List Word} → Factor ts b r → MoreFactors (product o a b) r e r' → MoreFactors a (Multiplies o ∷ ts) e r'

  -- factor = NAME { arguments } | NAME "=" expression | TEXT | NUMBER | "(" expression ")"
  -- The word after an assignment's right side is never an operator.
  pub data Factor : List Word → Tree → List Word → Type 0 where
    a_name : {x : List ℕ} {ts r : List Word} {e : Tree} → Calls (name x) ts e r → Factor (Name x ∷ ts) e r
    an_assignment : {x : List ℕ} {ts r : List Word} {e : Tree} → Expression ts e r → NoOperator r → Factor (Name x ∷ Becomes ∷ ts) (assign x e) r
    a_text : {s : List ℕ} {r : List Word} → Factor (Text s ∷ r) (text s) r
    a_number : {n : ℕ} {r : List Word} → Factor (Number n ∷ r) (number n) r
    in_parens : {ts r : List Word} {e : Tree} → Expression ts e (Close ∷ r) → Factor (Open ∷ ts) (parens e) r

  pub data Calls : Tree → List Word → Tree → List Word → Type 0 where
    no_call : {c : Tree} {r : List Word} → Calls c r c r
    calling : {c e : Tree} {es : Trees} {ts r r' : List Word} → Arguments ts es r → Calls (call c es) r e r' → Calls c (Open ∷ ts) e r'

  -- arguments = "(" [ expression { "," expression } ] ")", here after its "("
  pub data Arguments : List Word → Trees → List Word → Type 0 where
    no_argument : {r : List Word} → Arguments (Close ∷ r) none r
    first_argument : {e : Tree} {es : Trees} {ts r r' : List Word} → Expression ts e r → MoreArguments r es r' → Arguments ts (also e es) r'

  pub data MoreArguments : List Word → Trees → List Word → Type 0 where
    no_more_arguments : {r : List Word} → MoreArguments (Close ∷ r) none r
    next_argument : {e : Tree} {es : Trees} {ts r r' : List Word} → Expression ts e r → MoreArguments r es r' → MoreArguments (Comma ∷ ts) (also e es) r'

-- The first argument says whether the statement stands inside the block of a `while` of its function.
mutual
  -- block = "{" { statement } "}"
  pub data Block : Bool → List Word → Tree → List Word → Type 0 where
    braces : {l : Bool} {ts r : List Word} {ss : Trees} → Statements l ts ss r → Block l (OpenBlock ∷ ts) (block ss) r

  -- { statement } "}"
  pub data Statements : Bool → List Word → Trees → List Word → Type 0 where
    no_more_statements : {l : Bool} {r : List Word} → Statements l (CloseBlock ∷ r) none r
    next_statement : {l : Bool} {ts r r' : List Word} {s : Tree} {ss : Trees} → Statement l ts s r → Statements l r ss r' → Statements l ts (also s ss) r'

  -- statement = "while" "(" expression ")" block
  --           | "if" "(" expression ")" block [ "else" block ]
  --           | "return" [ expression ] ";" | "break" ";" | "continue" ";"
  --           | "debugger" ";" | expression ";"
  pub data Statement : Bool → List Word → Tree → List Word → Type 0 where
    a_while : {l : Bool} {ts r r' : List Word} {c b : Tree} → Expression ts c (Close ∷ r) → Block true r b r' → Statement l (WhileKey ∷ Open ∷ ts) (while c b) r'
    an_if : {l : Bool} {ts r r' r'' : List Word} {c b s : Tree} → Expression ts c (Close ∷ r) → Block l r b r' → MayElse l c b r' s r'' → Statement l (IfKey ∷ Open ∷ ts) s r''
    a_bare_return : {l : Bool} {r : List Word} → Statement l (ReturnKey ∷ Semicolon ∷ r) return_nothing r
    a_return : {l : Bool} {ts r : List Word} {e : Tree} → Expression ts e (Semicolon ∷ r) → Statement l (ReturnKey ∷ ts) (return e) r
    a_break : {l : Bool} {r : List Word} → IsTrue l → Statement l (BreakKey ∷ Semicolon ∷ r) break r
    a_continue : {l : Bool} {r : List Word} → IsTrue l → Statement l (ContinueKey ∷ Semicolon ∷ r) continue r
    a_debugger : {l : Bool} {r : List Word} → Statement l (DebuggerKey ∷ Semicolon ∷ r) debugger r
    an_expression : {l : Bool} {ts r : List Word} {e : Tree} → Expression ts e (Semicolon ∷ r) → Statement l ts (expression_statement e) r

  -- [ "else" block ], after the condition and the block of an `if`
  pub data MayElse : Bool → Tree → Tree → List Word → Tree → List Word → Type 0 where
    no_else : {l : Bool} {c b : Tree} {r : List Word} → MayElse l c b r (conditional c b) r
    an_else : {l : Bool} {c b b' : Tree} {ts r : List Word} → Block l ts b' r → MayElse l c b (ElseKey ∷ ts) (conditional_else c b b') r

-- [ NAME { "," NAME } ] ")"
pub data MoreParameters : List Word → List (List ℕ) → List Word → Type 0 where
  no_more_parameters : {r : List Word} → MoreParameters (Close ∷ r) [] r
  next_parameter : {x : List ℕ} {xs : List (List ℕ)} {ts r : List Word} → MoreParameters ts xs r → MoreParameters (Comma ∷ Name x ∷ ts) (x ∷ xs) r

-- the parameters of a function, after its `(`
pub data Parameters : List Word → List (List ℕ) → List Word → Type 0 where
  no_parameter : {r : List Word} → Parameters (Close ∷ r) [] r
  first_parameter : {x : List ℕ} {xs : List (List ℕ)} {ts r : List Word} → MoreParameters ts xs r → Parameters (Name x ∷ ts) (x ∷ xs) r

-- function = "function" NAME "(" [ NAME { "," NAME } ] ")" block
pub data AFunction : List Word → Tree → List Word → Type 0 where
  a_function : {x : List ℕ} {xs : List (List ℕ)} {b : Tree} {ts r r' : List Word} → Parameters ts xs r → Block false r b r' → AFunction (FunctionKey ∷ Name x ∷ Open ∷ ts) (function x xs b) r'

-- program = function { function }
pub data MoreFunctions : List Word → Trees → Type 0 where
  no_more_functions : MoreFunctions [] none
  next_function : {ts r : List Word} {f : Tree} {fs : Trees} → AFunction ts f r → MoreFunctions r fs → MoreFunctions ts (also f fs)

-- the words are a program of these functions
pub data Program : List Word → Trees → Type 0 where
  first_function : {ts r : List Word} {f : Tree} {fs : Trees} → AFunction ts f r → MoreFunctions r fs → Program ts (also f fs)
