-- A second form of the grammar, for proofs: `reading_law` ties it to Grammar and Refusals, which decide.
-- A machine that reads a word at a time. It holds what is open.
use Rattle.std.specs.Prelude.{ℕ, Bool, true, false, List, [], ◌∷◌, ◌++◌, Option, Some, None}
use Rattle.pd_sl_spell.specs.Words.{Comparing, Adding, Multiplying, Word, Name, Number, Text, Or, And, Compares, Adds, Multiplies, Becomes, Open, Close, OpenBlock, CloseBlock, Comma, Semicolon, FunctionKey, WhileKey, IfKey, ElseKey, ReturnKey, BreakKey, ContinueKey, DebuggerKey, Tree, name, number, text, parens, call, assign, either, both, compared, sum, product, while, conditional, conditional_else, return_nothing, return, break, continue, debugger, expression_statement, block, function, Trees, none, with_last}

-- what of an expression waits for its right operand, at each level
pub record Waiting : Type 0 where
  pub or : Option Tree
  pub and : Option Tree
  pub compare : Option (Comparing × Tree)
  pub sum : Option (Adding × Tree)
  pub product : Option (Multiplying × Tree)

-- nothing waits
abbrev pub nothing : Waiting
nothing = record { or = None; and = None; compare = None; sum = None; product = None }

-- what waits at the level of `||`, with its last operand
abbrev pub either_of : Option Tree → Tree → Tree
either_of None b = b
either_of (Some a) b = either a b

-- what waits at the level of `&&`, with its last operand
abbrev pub both_of : Option Tree → Tree → Tree
both_of None b = b
both_of (Some a) b = both a b

-- what waits at the level of comparisons, with its last operand
abbrev pub compared_of : Option (Comparing × Tree) → Tree → Tree
compared_of None b = b
compared_of (Some a) b = compared a.0 a.1 b

-- what waits at the level of sums, with its last operand
abbrev pub sum_of : Option (Adding × Tree) → Tree → Tree
sum_of None b = b
sum_of (Some a) b = sum a.0 a.1 b

-- what waits at the level of products, with its last operand
abbrev pub product_of : Option (Multiplying × Tree) → Tree → Tree
product_of None b = b
product_of (Some a) b = product a.0 a.1 b

-- the term, arithmetic, logic_factor, logic_term and expression that end with a factor
abbrev pub term_of : Waiting → Tree → Tree
term_of p f = product_of p.product f

-- the whole sum, with its last operand
abbrev pub arithmetic_of : Waiting → Tree → Tree
arithmetic_of p f = sum_of p.sum (term_of p f)

-- the whole comparison, with its last operand
abbrev pub logic_factor_of : Waiting → Tree → Tree
logic_factor_of p f = compared_of p.compare (arithmetic_of p f)

-- the whole `&&`, with its last operand
abbrev pub logic_term_of : Waiting → Tree → Tree
logic_term_of p f = both_of p.and (logic_factor_of p f)

-- the whole expression, with its last operand
abbrev pub whole : Waiting → Tree → Tree
whole p f = either_of p.or (logic_term_of p f)

-- the statement whose block or condition is read
pub data Head : Type 0 where
  OfWhile : Tree → Head
  OfThen : Tree → Head
  OfElse : Tree → Tree → Head

-- what a condition belongs to
pub data Keyword : Type 0 where
  ForWhile : Keyword
  ForIf : Keyword

-- a `while` or an `if` of which the condition has been read
abbrev pub head_of : Keyword → Tree → Head
head_of ForWhile c = OfWhile c
head_of ForIf c = OfThen c

-- the open blocks: that of a function after the functions before it,
-- or that of a statement after the statements before it in the block around
pub data Around : Type 0 where
  Body : Trees → List ℕ → List (List ℕ) → Around
  Within : Head → Trees → Around → Around

-- whether a `while` of the same function is around
abbrev pub in_loop : Around → Bool
in_loop (Body fs x xs) = false
in_loop (Within (OfWhile c) ss o) = true
in_loop (Within (OfThen c) ss o) = in_loop o
in_loop (Within (OfElse c b) ss o) = in_loop o

-- the open places of an expression, from the inside, and the statement that it stands in,
-- after the statements before it
pub data Stack : Type 0 where
  AsStatement : Trees → Around → Stack
  AsValue : Trees → Around → Stack
  AsCondition : Keyword → Trees → Around → Stack
  InParens : Waiting → Stack → Stack
  InArguments : Waiting → Tree → Trees → Stack → Stack
  InAssignment : Waiting → List ℕ → Stack → Stack

-- what has been read so far, and what may come next
pub data State : Type 0 where
  -- before the first function, and after a function
  Start : State
  Between : Trees → State
  AfterFunctionKey : Trees → State
  AfterFunctionName : Trees → List ℕ → State
  FirstParameter : Trees → List ℕ → State
  AfterParameter : Trees → List ℕ → List (List ℕ) → State
  AfterComma : Trees → List ℕ → List (List ℕ) → State
  BeforeBody : Trees → List ℕ → List (List ℕ) → State
  -- after these statements of a block
  Inside : Trees → Around → State
  -- after the block of an `if`
  AfterThen : Tree → Tree → Trees → Around → State
  AfterKey : Keyword → Trees → Around → State
  AfterReturn : Trees → Around → State
  BeforeBlock : Head → Trees → Around → State
  BeforeSemicolon : Tree → Trees → Around → State
  -- an operand comes next
  Wants : Waiting → Stack → State
  -- the first argument comes next, or none
  MayWant : Waiting → Tree → Stack → State
  -- an operand has been read: a name, one that may be called, any other
  Named : Waiting → List ℕ → Stack → State
  Callable : Waiting → Tree → Stack → State
  Has : Waiting → Tree → Stack → State

-- a word that ends an expression
abbrev pub ends : Stack → Tree → Word → Option State
ends (AsStatement ss o) e Semicolon = Some (Inside (with_last ss (expression_statement e)) o)
ends (AsValue ss o) e Semicolon = Some (Inside (with_last ss (return e)) o)
ends (AsCondition w ss o) e Close = Some (BeforeBlock (head_of w e) ss o)
ends (InParens p k) e Close = Some (Has p (parens e) k)
ends (InArguments p c es k) e Close = Some (Callable p (call c (with_last es e)) k)
ends (InArguments p c es k) e Comma = Some (Wants nothing (InArguments p c (with_last es e) k))
ends (InAssignment p x k) e w = ends k (whole p (assign x e)) w
ends _ e w = None

-- there is one comparison at most
abbrev pub comparing : Waiting → Option (Comparing × Tree) → Comparing → Tree → Stack → Option State
comparing p None o a k = Some (Wants (record { or = p.or; and = p.and; compare = Some (o, a); sum = None; product = None }) k)
comparing p (Some c) o a k = None

-- a word after an operand
abbrev pub after_operand : Waiting → Tree → Stack → Word → Option State
after_operand p f k Or = Some (Wants (record { or = Some (whole p f); and = None; compare = None; sum = None; product = None }) k)
after_operand p f k And = Some (Wants (record { or = p.or; and = Some (logic_term_of p f); compare = None; sum = None; product = None }) k)
after_operand p f k (Compares o) = comparing p p.compare o (arithmetic_of p f) k
after_operand p f k (Adds o) = Some (Wants (record { or = p.or; and = p.and; compare = p.compare; sum = Some (o, arithmetic_of p f); product = None }) k)
after_operand p f k (Multiplies o) = Some (Wants (record { or = p.or; and = p.and; compare = p.compare; sum = p.sum; product = Some (o, term_of p f) }) k)
after_operand p f k w = ends k (whole p f) w

-- a word after an operand that may be called
abbrev pub after_callable : Waiting → Tree → Stack → Word → Option State
after_callable p c k Open = Some (MayWant p c k)
after_callable p c k w = after_operand p c k w

-- the first word of an operand
abbrev pub operand : Waiting → Stack → Word → Option State
operand p k (Name x) = Some (Named p x k)
operand p k (Number n) = Some (Has p (number n) k)
operand p k (Text s) = Some (Has p (text s) k)
operand p k Open = Some (Wants nothing (InParens p k))
operand p k _ = None

-- after the `}` of a block
abbrev pub closed_block : Around → Trees → State
closed_block (Body fs x xs) ss = Between (with_last fs (function x xs (block ss)))
closed_block (Within (OfWhile c) before o) ss = Inside (with_last before (while c (block ss))) o
closed_block (Within (OfThen c) before o) ss = AfterThen c (block ss) before o
closed_block (Within (OfElse c b) before o) ss = Inside (with_last before (conditional_else c b (block ss))) o

-- the next state, where a `while` is around
abbrev pub in_a_loop : Bool → State → Option State
in_a_loop false s = None
in_a_loop true s = Some s

-- a word where a statement or a `}` may come
abbrev pub inside : Trees → Around → Word → Option State
inside ss o CloseBlock = Some (closed_block o ss)
inside ss o WhileKey = Some (AfterKey ForWhile ss o)
inside ss o IfKey = Some (AfterKey ForIf ss o)
inside ss o ReturnKey = Some (AfterReturn ss o)
inside ss o BreakKey = in_a_loop (in_loop o) (BeforeSemicolon break ss o)
inside ss o ContinueKey = in_a_loop (in_loop o) (BeforeSemicolon continue ss o)
inside ss o DebuggerKey = Some (BeforeSemicolon debugger ss o)
inside ss o w = operand nothing (AsStatement ss o) w

-- the next state, if the word may come
abbrev pub step : State → Word → Option State
step Start FunctionKey = Some (AfterFunctionKey none)
step (Between fs) FunctionKey = Some (AfterFunctionKey fs)
step (AfterFunctionKey fs) (Name x) = Some (AfterFunctionName fs x)
step (AfterFunctionName fs x) Open = Some (FirstParameter fs x)
step (FirstParameter fs x) Close = Some (BeforeBody fs x [])
step (FirstParameter fs x) (Name y) = Some (AfterParameter fs x (y ∷ []))
step (AfterParameter fs x xs) Close = Some (BeforeBody fs x xs)
step (AfterParameter fs x xs) Comma = Some (AfterComma fs x xs)
step (AfterComma fs x xs) (Name y) = Some (AfterParameter fs x (xs ++ y ∷ []))
step (BeforeBody fs x xs) OpenBlock = Some (Inside none (Body fs x xs))
step (Inside ss o) w = inside ss o w
step (AfterThen c b ss o) ElseKey = Some (BeforeBlock (OfElse c b) ss o)
step (AfterThen c b ss o) w = inside (with_last ss (conditional c b)) o w
step (AfterKey w ss o) Open = Some (Wants nothing (AsCondition w ss o))
step (AfterReturn ss o) Semicolon = Some (Inside (with_last ss return_nothing) o)
step (AfterReturn ss o) w = operand nothing (AsValue ss o) w
step (BeforeBlock h ss o) OpenBlock = Some (Inside none (Within h ss o))
step (BeforeSemicolon s ss o) Semicolon = Some (Inside (with_last ss s) o)
step (Wants p k) w = operand p k w
step (MayWant p c k) Close = Some (Callable p (call c none) k)
step (MayWant p c k) w = operand nothing (InArguments p c none k) w
step (Named p x k) Becomes = Some (Wants nothing (InAssignment p x k))
step (Named p x k) w = after_callable p (name x) k w
step (Callable p c k) w = after_callable p c k w
step (Has p f k) w = after_operand p f k w
step _ w = None

-- what the machine answers at the end of the words
abbrev pub final : State → Option Trees
final (Between fs) = Some fs
final _ = None

-- the second step, where the first one is there
abbrev pub followed : {A B : Type 0} → Option A → (A → Option B) → Option B
followed None f = None
followed (Some a) f = f a

-- the trees of all words, if they are a program
abbrev pub run : State → List Word → Option Trees
run s [] = final s
run s (w ∷ ws) = followed (step s w) (λ s'. run s' ws)

-- where the words lead
abbrev pub walk : State → List Word → Option State
walk s [] = Some s
walk s (w ∷ ws) = followed (step s w) (λ s'. walk s' ws)
