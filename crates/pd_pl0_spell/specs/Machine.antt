-- A second form of the grammar, for proofs: `reading_law` ties it to Grammar and Refusals, which decide.
-- A machine that reads a word at a time. It holds what is open.
use Rattle.std.specs.Prelude.{ℕ, List, [], ◌∷◌, ◌++◌, Option, Some, None}
use Rattle.pd_pl0_spell.specs.Words.{Equal, Comparing, Adding, Multiplying, Word, Name, Number, Compares, Adds, Multiplies, Becomes, Writes, Open, Close, Comma, Semicolon, Period, ConstKey, VarKey, ProcedureKey, CallKey, BeginKey, EndKey, IfKey, ThenKey, WhileKey, DoKey, OddKey, Constant, Tree, name, number, parens, signed, sum, product, odd, compared, empty, assign, call, write, sequence, conditional, while, block, procedure, Trees, none, with_last}
use Rattle.pd_pl0_spell.specs.Names.{Rule, AConstant, AVariable, AProcedure, Scope, no_declarations, declare, entered, Role, Declaring, Assigning, Calling, Reading, broken_by}

-- what stands before a term: nothing, a sign, or a left operand with its operator
pub data Before : Type 0 where
  Nothing : Before
  Sign : Adding → Before
  Left : Adding → Tree → Before

-- what of an expression waits for its term, and for its factor
pub record Waiting : Type 0 where
  pub sum : Before
  pub product : Option (Multiplying × Tree)

-- nothing waits
abbrev pub nothing : Waiting
nothing = record { sum = Nothing; product = None }

-- what waits at the level of sums, with its last operand
abbrev pub sum_of : Before → Tree → Tree
sum_of Nothing b = b
sum_of (Sign o) b = signed o b
sum_of (Left o a) b = sum o a b

-- what waits at the level of products, with its last operand
abbrev pub product_of : Option (Multiplying × Tree) → Tree → Tree
product_of None b = b
product_of (Some a) b = product a.0 a.1 b

-- the term and the expression that end with a factor
abbrev pub term_of : Waiting → Tree → Tree
term_of p f = product_of p.product f

-- the whole expression, with its last operand
abbrev pub whole : Waiting → Tree → Tree
whole p f = sum_of p.sum (term_of p f)

-- a block after its constants and variables: what it has so far, and its scope
pub record Parts : Type 0 where
  pub constants : List Constant
  pub variables : List (List ℕ)
  pub procedures : Trees
  pub scope : Scope

-- the block of these parts and this statement
abbrev pub block_of : Parts → Tree → Tree
block_of p a = block p.constants p.variables p.procedures a

-- the parts of a block with one more procedure
abbrev pub with_procedure : Parts → List ℕ → Tree → Parts
with_procedure p x b = record { constants = p.constants; variables = p.variables; procedures = with_last p.procedures (procedure x b); scope = p.scope }

-- the parts of a block that declares one more procedure, whose block comes next
abbrev pub with_name : Parts → List ℕ → Parts
with_name p x = record { constants = p.constants; variables = p.variables; procedures = p.procedures; scope = declare x AProcedure p.scope }

-- the blocks around a block: it is the main block, or that of a procedure of this name
pub data Around : Type 0 where
  Main : Around
  Within : List ℕ → Parts → Around → Around

-- what a condition belongs to
pub data Keyword : Type 0 where
  ForIf : Keyword
  ForWhile : Keyword

-- the `if` or `while` of a condition and a statement
abbrev pub headed : Keyword → Tree → Tree → Tree
headed ForIf c a = conditional c a
headed ForWhile c a = while c a

-- the open places of a statement, from the inside, down to its block
pub data Holder : Type 0 where
  InBlock : Parts → Around → Holder
  InSequence : Trees → Holder → Holder
  InBody : Keyword → Tree → Holder → Holder

-- the declarations that are visible where the statement stands
abbrev pub holder_scope : Holder → Scope
holder_scope (InBlock p o) = p.scope
holder_scope (InSequence ss h) = holder_scope h
holder_scope (InBody w c h) = holder_scope h

-- the open places of an expression, from the inside, and the statement that it stands in
pub data Stack : Type 0 where
  AsAssigned : List ℕ → Holder → Stack
  AsWritten : Holder → Stack
  AsOdd : Keyword → Holder → Stack
  AsLeft : Keyword → Holder → Stack
  AsRight : Keyword → Comparing → Tree → Holder → Stack
  InParens : Waiting → Stack → Stack

-- the declarations that are visible where the expression stands
abbrev pub stack_scope : Stack → Scope
stack_scope (AsAssigned x h) = holder_scope h
stack_scope (AsWritten h) = holder_scope h
stack_scope (AsOdd w h) = holder_scope h
stack_scope (AsLeft w h) = holder_scope h
stack_scope (AsRight w o a h) = holder_scope h
stack_scope (InParens p k) = stack_scope k

-- what has been read so far, and what may come next
pub data State : Type 0 where
  -- at the beginning of a block
  BlockStart : Scope → Around → State
  -- after `const` or a `,`; after the name; after `=`; after the number
  BeforeConstant : List Constant → Scope → Around → State
  BeforeEqual : List Constant → List ℕ → Scope → Around → State
  BeforeNumber : List Constant → List ℕ → Scope → Around → State
  AfterConstant : List Constant → Scope → Around → State
  -- after the constants
  AfterConstants : List Constant → Scope → Around → State
  -- after `var` or a `,`; after the name
  BeforeVariable : List Constant → List (List ℕ) → Scope → Around → State
  AfterVariable : List Constant → List (List ℕ) → Scope → Around → State
  -- after the variables, and after a procedure
  AfterVariables : Parts → Around → State
  -- after `procedure`, and after its name
  BeforeProcedure : Parts → Around → State
  AfterProcedure : List ℕ → Parts → Around → State
  -- a statement comes next
  BeforeStatement : Holder → State
  -- after the name of an assignment, after `call`
  BeforeBecomes : List ℕ → Holder → State
  BeforeCallee : Holder → State
  -- after a statement that ends with `end` or a name
  AfterStatement : Tree → Holder → State
  BeforeCondition : Keyword → Holder → State
  -- an expression comes next, an operand comes next, an operand has been read
  BeforeExpression : Stack → State
  Wants : Waiting → Stack → State
  Has : Waiting → Tree → Stack → State
  -- after the `.`
  Finished : Tree → State

-- before the first word
abbrev pub start : State
start = BlockStart no_declarations Main

-- a word that ends a block
abbrev pub block_ends : Around → Tree → Word → Option State
block_ends Main b Period = Some (Finished b)
block_ends (Within x q o) b Semicolon = Some (AfterVariables (with_procedure q x b) o)
block_ends _ b w = None

-- a word that ends a statement
abbrev pub statement_ends : Holder → Tree → Word → Option State
statement_ends (InBlock p o) a w = block_ends o (block_of p a) w
statement_ends (InSequence ss h) a Semicolon = Some (BeforeStatement (InSequence (with_last ss a) h))
statement_ends (InSequence ss h) a EndKey = Some (AfterStatement (sequence (with_last ss a)) h)
statement_ends (InSequence ss h) a w = None
statement_ends (InBody k c h) a w = statement_ends h (headed k c a) w

-- a word that ends a condition
abbrev pub condition_ends : Keyword → Holder → Tree → Word → Option State
condition_ends ForIf h c ThenKey = Some (BeforeStatement (InBody ForIf c h))
condition_ends ForWhile h c DoKey = Some (BeforeStatement (InBody ForWhile c h))
condition_ends _ h c w = None

-- a word that ends an expression
abbrev pub ends : Stack → Tree → Word → Option State
ends (AsAssigned x h) e w = statement_ends h (assign x e) w
ends (AsWritten h) e w = statement_ends h (write e) w
ends (AsOdd k h) e w = condition_ends k h (odd e) w
ends (AsLeft k h) e (Compares o) = Some (BeforeExpression (AsRight k o e h))
ends (AsLeft k h) e w = None
ends (AsRight k o a h) e w = condition_ends k h (compared o a e) w
ends (InParens p k) e Close = Some (Has p (parens e) k)
ends (InParens p k) e w = None

-- a word after an operand
abbrev pub after_operand : Waiting → Tree → Stack → Word → Option State
after_operand p f k (Adds o) = Some (Wants (record { sum = Left o (whole p f); product = None }) k)
after_operand p f k (Multiplies o) = Some (Wants (record { sum = p.sum; product = Some (o, term_of p f) }) k)
after_operand p f k w = ends k (whole p f) w

-- the first word of an operand
abbrev pub operand : Waiting → Stack → Word → Option State
operand p k (Name x) = Some (Has p (name x) k)
operand p k (Number v) = Some (Has p (number v) k)
operand p k Open = Some (BeforeExpression (InParens p k))
operand p k w = None

-- the first word of an expression
abbrev pub expression : Stack → Word → Option State
expression k (Adds o) = Some (Wants (record { sum = Sign o; product = None }) k)
expression k w = operand nothing k w

-- the first word of a statement, or the word after an empty one
abbrev pub statement : Holder → Word → Option State
statement h (Name x) = Some (BeforeBecomes x h)
statement h CallKey = Some (BeforeCallee h)
statement h Writes = Some (BeforeExpression (AsWritten h))
statement h BeginKey = Some (BeforeStatement (InSequence none h))
statement h IfKey = Some (BeforeCondition ForIf h)
statement h WhileKey = Some (BeforeCondition ForWhile h)
statement h w = statement_ends h empty w

-- the parts of a block after its constants and variables
abbrev pub parts_behind : List Constant → List (List ℕ) → Scope → Parts
parts_behind cs vs s = record { constants = cs; variables = vs; procedures = none; scope = s }

-- a word where a procedure or the block's statement may come
abbrev pub procedures : Parts → Around → Word → Option State
procedures p o ProcedureKey = Some (BeforeProcedure p o)
procedures p o w = statement (InBlock p o) w

-- a word where `var`, a procedure or the block's statement may come
abbrev pub variables : List Constant → Scope → Around → Word → Option State
variables cs s o VarKey = Some (BeforeVariable cs [] s o)
variables cs s o w = procedures (parts_behind cs [] s) o w

-- the first word of a block
abbrev pub constants : Scope → Around → Word → Option State
constants s o ConstKey = Some (BeforeConstant [] s o)
constants s o w = variables [] s o w

-- where a word leads, whatever names mean
abbrev pub step : State → Word → Option State
step (BlockStart s o) w = constants s o w
step (BeforeConstant cs s o) (Name x) = Some (BeforeEqual cs x s o)
step (BeforeEqual cs x s o) (Compares Equal) = Some (BeforeNumber cs x s o)
step (BeforeNumber cs x s o) (Number v) = Some (AfterConstant (cs ++ record { name = x; value = v } ∷ []) (declare x (AConstant v) s) o)
step (AfterConstant cs s o) Comma = Some (BeforeConstant cs s o)
step (AfterConstant cs s o) Semicolon = Some (AfterConstants cs s o)
step (AfterConstants cs s o) w = variables cs s o w
step (BeforeVariable cs vs s o) (Name x) = Some (AfterVariable cs (vs ++ x ∷ []) (declare x AVariable s) o)
step (AfterVariable cs vs s o) Comma = Some (BeforeVariable cs vs s o)
step (AfterVariable cs vs s o) Semicolon = Some (AfterVariables (parts_behind cs vs s) o)
step (AfterVariables p o) w = procedures p o w
step (BeforeProcedure p o) (Name x) = Some (AfterProcedure x (with_name p x) o)
step (AfterProcedure x p o) Semicolon = Some (BlockStart (entered p.scope) (Within x p o))
step (BeforeStatement h) w = statement h w
step (BeforeBecomes x h) Becomes = Some (BeforeExpression (AsAssigned x h))
step (BeforeCallee h) (Name x) = Some (AfterStatement (call x) h)
step (AfterStatement a h) w = statement_ends h a w
step (BeforeCondition k h) OddKey = Some (BeforeExpression (AsOdd k h))
step (BeforeCondition k h) w = expression (AsLeft k h) w
step (BeforeExpression k) w = expression k w
step (Wants p k) w = operand p k w
step (Has p f k) w = after_operand p f k w
step _ w = None

-- the role of a name that comes next, and the scope in which it stands
abbrev pub role_next : State → Option (Role × Scope)
role_next (BlockStart s o) = Some (Assigning, s)
role_next (BeforeConstant cs s o) = Some (Declaring, s)
role_next (AfterConstants cs s o) = Some (Assigning, s)
role_next (BeforeVariable cs vs s o) = Some (Declaring, s)
role_next (AfterVariables p o) = Some (Assigning, p.scope)
role_next (BeforeProcedure p o) = Some (Declaring, p.scope)
role_next (BeforeStatement h) = Some (Assigning, holder_scope h)
role_next (BeforeCallee h) = Some (Calling, holder_scope h)
role_next (BeforeCondition k h) = Some (Reading, holder_scope h)
role_next (BeforeExpression k) = Some (Reading, stack_scope k)
role_next (Wants p k) = Some (Reading, stack_scope k)
role_next _ = None

-- the rule on names that the word breaks in this role and scope
abbrev pub broken_in : Option (Role × Scope) → Word → Option Rule
broken_in (Some u) (Name x) = broken_by u.0 u.1 x
broken_in _ w = None

-- the rule on names that the next word breaks
abbrev pub broken : State → Word → Option Rule
broken s w = broken_in (role_next s) w

-- what the machine answers at the end of the words
abbrev pub final : State → Option Tree
final (Finished b) = Some b
final _ = None

-- the second step, where the first one is there
abbrev pub followed : {A B : Type 0} → Option A → (A → Option B) → Option B
followed None f = None
followed (Some a) f = f a

-- where all words lead, whatever names mean
abbrev pub run : State → List Word → Option Tree
run s [] = final s
run s (w ∷ ws) = followed (step s w) (λ s'. run s' ws)
