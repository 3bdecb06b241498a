-- Definition: the grammar, a case for each alternative.
-- Each relation is between the words from some place on, the tree that they spell, and the words after it.
-- Its first arguments are the rules on names that are kept, and the declarations in scope.
use Rattle.std.specs.Prelude.{ℕ, List, [], ◌∷◌}
use Rattle.pd_pl0_spell.specs.Words.{Equal, Comparing, Adding, Multiplying, Word, Name, Number, Compares, Adds, Multiplies, Becomes, Writes, Open, Close, Comma, Semicolon, Period, ConstKey, VarKey, ProcedureKey, CallKey, BeginKey, EndKey, IfKey, ThenKey, WhileKey, DoKey, OddKey, Constant, Tree, name, number, parens, signed, sum, product, odd, compared, empty, assign, call, write, sequence, conditional, while, block, procedure, Trees, none, also}
use Rattle.pd_pl0_spell.specs.Names.{AConstant, AVariable, AProcedure, Scope, no_declarations, declare, entered, Declaring, Assigning, Calling, Reading, broken_by, Rules, Keeps}

-- A relation `More..` goes on from what has been read so far, so that operators group to the left.
mutual
  -- expression = [ "+" | "-" ] term { ( "+" | "-" ) term }
  pub data Expression (n : Rules) (s : Scope) : List Word → Tree → List Word → Type 0 where
    without_sign : {ts r r' : List Word} {a e : Tree} → Term n s ts a r → MoreTerms n s a r e r' → Expression n s ts e r'
    with_sign : {o : Adding} {ts r r' : List Word} {a e : Tree} → Term n s ts a r → MoreTerms n s (signed o a) r e r' → Expression n s (Adds o ∷ ts) e r'

  pub data MoreTerms (n : Rules) (s : Scope) : Tree → List Word → Tree → List Word → Type 0 where
    no_sum : {a : Tree} {r : List Word} → MoreTerms n s a r a r
    adding : {o : Adding} {a b e : Tree} {ts r r' : List Word} → Term n s ts b r → MoreTerms n s (sum o a b) r e r' → MoreTerms n s a (Adds o ∷ ts) e r'

  -- term = factor { ( "*" | "/" ) factor }
  pub data Term (n : Rules) (s : Scope) : List Word → Tree → List Word → Type 0 where
    of_factors : {ts r r' : List Word} {a e : Tree} → Factor n s ts a r → MoreFactors n s a r e r' → Term n s ts e r'

  pub data MoreFactors (n : Rules) (s : Scope) : Tree → List Word → Tree → List Word → Type 0 where
    no_product : {a : Tree} {r : List Word} → MoreFactors n s a r a r
    multiplying : {o : Multiplying} {a b e : Tree} {ts r r' : List Word} → Factor n s ts b r → MoreFactors n s (product o a b) r e r' → MoreFactors n s a (Multiplies o ∷ ts) e r'

  -- factor = NAME | NUMBER | "(" expression ")"
  pub data Factor (n : Rules) (s : Scope) : List Word → Tree → List Word → Type 0 where
    a_name : {x : List ℕ} {r : List Word} → Keeps n (broken_by Reading s x) → Factor n s (Name x ∷ r) (name x) r
    a_number : {v : ℕ} {r : List Word} → Factor n s (Number v ∷ r) (number v) r
    in_parens : {ts r : List Word} {e : Tree} → Expression n s ts e (Close ∷ r) → Factor n s (Open ∷ ts) (parens e) r

-- condition = "odd" expression | expression ( "=" | "#" | "<" | "<=" | ">" | ">=" ) expression
pub data Condition (n : Rules) (s : Scope) : List Word → Tree → List Word → Type 0 where
  is_odd : {ts r : List Word} {e : Tree} → Expression n s ts e r → Condition n s (OddKey ∷ ts) (odd e) r
  comparison : {o : Comparing} {ts r r' : List Word} {a b : Tree} → Expression n s ts a (Compares o ∷ r) → Expression n s r b r' → Condition n s ts (compared o a b) r'

mutual
  -- statement = [ NAME ":=" expression | "call" NAME | "!" expression
  --             | "begin" statement { ";" statement } "end"
  --             | "if" condition "then" statement | "while" condition "do" statement ]
  pub data Statement (n : Rules) (s : Scope) : List Word → Tree → List Word → Type 0 where
    an_empty : {r : List Word} → Statement n s r empty r
    an_assignment : {x : List ℕ} {ts r : List Word} {e : Tree} → Keeps n (broken_by Assigning s x) → Expression n s ts e r → Statement n s (Name x ∷ Becomes ∷ ts) (assign x e) r
    a_call : {x : List ℕ} {r : List Word} → Keeps n (broken_by Calling s x) → Statement n s (CallKey ∷ Name x ∷ r) (call x) r
    a_write : {ts r : List Word} {e : Tree} → Expression n s ts e r → Statement n s (Writes ∷ ts) (write e) r
    a_sequence : {ts r r' : List Word} {a : Tree} {more : Trees} → Statement n s ts a r → MoreStatements n s r more r' → Statement n s (BeginKey ∷ ts) (sequence (also a more)) r'
    an_if : {ts r r' : List Word} {c a : Tree} → Condition n s ts c (ThenKey ∷ r) → Statement n s r a r' → Statement n s (IfKey ∷ ts) (conditional c a) r'
    a_while : {ts r r' : List Word} {c a : Tree} → Condition n s ts c (DoKey ∷ r) → Statement n s r a r' → Statement n s (WhileKey ∷ ts) (while c a) r'

  -- { ";" statement } "end"
  pub data MoreStatements (n : Rules) (s : Scope) : List Word → Trees → List Word → Type 0 where
    no_more_statements : {r : List Word} → MoreStatements n s (EndKey ∷ r) none r
    next_statement : {ts r r' : List Word} {a : Tree} {more : Trees} → Statement n s ts a r → MoreStatements n s r more r' → MoreStatements n s (Semicolon ∷ ts) (also a more) r'

-- The relations of declarations have the scope before them and the scope after them.
-- { "," NAME "=" NUMBER } ";"
pub data MoreConstants (n : Rules) : Scope → List Word → List Constant → Scope → List Word → Type 0 where
  no_more_constants : {s : Scope} {r : List Word} → MoreConstants n s (Semicolon ∷ r) [] s r
  next_constant : {s s' : Scope} {x : List ℕ} {v : ℕ} {ts r : List Word} {more : List Constant} → Keeps n (broken_by Declaring s x) → MoreConstants n (declare x (AConstant v) s) ts more s' r → MoreConstants n s (Comma ∷ Name x ∷ Compares Equal ∷ Number v ∷ ts) (record { name = x; value = v } ∷ more) s' r

-- [ "const" NAME "=" NUMBER { "," NAME "=" NUMBER } ";" ]
pub data Constants (n : Rules) : Scope → List Word → List Constant → Scope → List Word → Type 0 where
  no_constant : {s : Scope} {r : List Word} → Constants n s r [] s r
  first_constant : {s s' : Scope} {x : List ℕ} {v : ℕ} {ts r : List Word} {more : List Constant} → Keeps n (broken_by Declaring s x) → MoreConstants n (declare x (AConstant v) s) ts more s' r → Constants n s (ConstKey ∷ Name x ∷ Compares Equal ∷ Number v ∷ ts) (record { name = x; value = v } ∷ more) s' r

-- { "," NAME } ";"
pub data MoreVariables (n : Rules) : Scope → List Word → List (List ℕ) → Scope → List Word → Type 0 where
  no_more_variables : {s : Scope} {r : List Word} → MoreVariables n s (Semicolon ∷ r) [] s r
  next_variable : {s s' : Scope} {x : List ℕ} {ts r : List Word} {more : List (List ℕ)} → Keeps n (broken_by Declaring s x) → MoreVariables n (declare x AVariable s) ts more s' r → MoreVariables n s (Comma ∷ Name x ∷ ts) (x ∷ more) s' r

-- [ "var" NAME { "," NAME } ";" ]
pub data Variables (n : Rules) : Scope → List Word → List (List ℕ) → Scope → List Word → Type 0 where
  no_variable : {s : Scope} {r : List Word} → Variables n s r [] s r
  first_variable : {s s' : Scope} {x : List ℕ} {ts r : List Word} {more : List (List ℕ)} → Keeps n (broken_by Declaring s x) → MoreVariables n (declare x AVariable s) ts more s' r → Variables n s (VarKey ∷ Name x ∷ ts) (x ∷ more) s' r

mutual
  -- block = [ constants ] [ variables ] { procedure } statement
  pub data Block (n : Rules) : Scope → List Word → Tree → List Word → Type 0 where
    a_block : {s s' s'' s''' : Scope} {ts r r' r'' r''' : List Word} {cs : List Constant} {vs : List (List ℕ)} {ps : Trees} {a : Tree} → Constants n s ts cs s' r → Variables n s' r vs s'' r' → Procedures n s'' r' ps s''' r'' → Statement n s''' r'' a r''' → Block n s ts (block cs vs ps a) r'''

  -- { "procedure" NAME ";" block ";" }, a name visible in its own block
  pub data Procedures (n : Rules) : Scope → List Word → Trees → Scope → List Word → Type 0 where
    no_more_procedures : {s : Scope} {r : List Word} → Procedures n s r none s r
    next_procedure : {s s' : Scope} {x : List ℕ} {ts r r' : List Word} {b : Tree} {more : Trees} → Keeps n (broken_by Declaring s x) → Block n (entered (declare x AProcedure s)) ts b (Semicolon ∷ r) → Procedures n (declare x AProcedure s) r more s' r' → Procedures n s (ProcedureKey ∷ Name x ∷ Semicolon ∷ ts) (also (procedure x b) more) s' r'

-- program = block "."
pub data Program (n : Rules) : List Word → Tree → Type 0 where
  a_program : {ts : List Word} {b : Tree} → Block n no_declarations ts b (Period ∷ []) → Program n ts b
