-- Twin of the code, for its proofs. Of public contracts only that of `word_of` cites it, which no other crate uses.
-- What the reader holds where the machine with trees is: the frames that are open, and the nodes of all its trees, each
-- after its parts.
use Rattle.std.specs.Prelude.{ℕ, ◌+◌, List, [], ◌∷◌, ◌++◌, Option, Some, None}
use Rattle.pd_tree.specs.declared.kind.Operator.{Operator}
use Rattle.pd_turn.specs.declared.Node.{Node}
use Rattle.pd_sl_spell.specs.Words.{Comparing, Adding, Multiplying, Word, Name, Number, Text, Or, And, Compares, Adds, Multiplies, Becomes, Open, Close, OpenBlock, CloseBlock, Comma, Semicolon, FunctionKey, WhileKey, IfKey, ElseKey, ReturnKey, BreakKey, ContinueKey, DebuggerKey, Tree, Trees, none, also}
use Rattle.pd_sl_spell.specs.Machine
use Rattle.pd_sl_spell.specs.Machine.{Waiting, Head, OfWhile, OfThen, OfElse, Keyword, ForWhile, ForIf, Around, Body, Within, Stack, AsStatement, AsValue, AsCondition, InParens, InArguments, InAssignment, State, Start, Between, AfterFunctionKey, AfterFunctionName, FirstParameter, AfterParameter, AfterComma, BeforeBody, Inside, AfterThen, AfterKey, AfterReturn, BeforeBlock, BeforeSemicolon, Wants, MayWant, Named, Callable, Has}
use Rattle.pd_sl_read.specs.declared.parts.Word.TheVariants as words
use Rattle.pd_sl_read.specs.declared.parts.Word as declared
use Rattle.pd_sl_read.specs.declared.parts.Shape.{Shape}
use Rattle.pd_sl_read.specs.declared.parts.Shape.TheVariants as shapes
use Rattle.pd_sl_read.specs.declared.parts.Part.{Part}
use Rattle.pd_sl_read.specs.declared.parts.Level.{Level}
use Rattle.pd_sl_read.specs.declared.parts.Levels.{Levels}
use Rattle.pd_sl_read.specs.declared.parts.Keyword.TheVariants as keywords
use Rattle.pd_sl_read.specs.declared.parts.Keyword as declared_keyword
use Rattle.pd_sl_read.specs.declared.parts.Head.TheVariants as heads
use Rattle.pd_sl_read.specs.declared.parts.Head as declared_head
use Rattle.pd_sl_read.specs.declared.parts.Block.{Block}
use Rattle.pd_sl_read.specs.declared.parts.Frame.{Frame}
use Rattle.pd_sl_read.specs.declared.parts.Frame.TheVariants as frames
use Rattle.pd_sl_read.specs.declared.parts.Mode.TheVariants as modes
use Rattle.pd_sl_read.specs.Held.{Held, holding}
use Rattle.pd_sl_read.specs.Places.{comparison, addition, multiplication, value_of, parameters_end, more_parameters_end, body_place, end_of, arguments_end, more_arguments_end, trees_end, count, length_of, post, argument_posts, posts}

-- a word without its text
abbrev pub shape : Word → declared.Word
shape (Name x) = words.Name
shape (Number n) = words.Number (value_of n)
shape (Text s) = words.Text
shape Or = words.Or
shape And = words.And
shape (Compares o) = words.Compares (comparison o)
shape (Adds o) = words.Adds (addition o)
shape (Multiplies o) = words.Multiplies (multiplication o)
shape Becomes = words.Becomes
shape Open = words.Open
shape Close = words.Close
shape OpenBlock = words.OpenBlock
shape CloseBlock = words.CloseBlock
shape Comma = words.Comma
shape Semicolon = words.Semicolon
shape FunctionKey = words.FunctionKey
shape WhileKey = words.WhileKey
shape IfKey = words.IfKey
shape ElseKey = words.ElseKey
shape ReturnKey = words.ReturnKey
shape BreakKey = words.BreakKey
shape ContinueKey = words.ContinueKey
shape DebuggerKey = words.DebuggerKey

-- The levels of an expression whose first word is at `i`.
abbrev pub left_tree : {A : Type 0} → Option (A × Tree) → Option Tree
left_tree None = None
left_tree (Some a) = Some a.1

-- after what waits at a level and its operator
abbrev pub behind : ℕ → Option Tree → ℕ
behind i None = i
behind i (Some a) = end_of i a + 1

-- the nodes, and those of what waits at a level
abbrev pub with_waiting : List (Node Part) → ℕ → Option Tree → List (Node Part)
with_waiting ns i None = ns
with_waiting ns i (Some a) = ns ++ post i a

-- where the operand of `&&` begins
abbrev pub and_place : ℕ → Waiting → ℕ
and_place i p = behind i p.or

-- where the operand of a comparison begins
abbrev pub compare_place : ℕ → Waiting → ℕ
compare_place i p = behind (and_place i p) p.and

-- where the operand of `+` or `-` begins
abbrev pub sum_place : ℕ → Waiting → ℕ
sum_place i p = behind (compare_place i p) (left_tree p.compare)

-- where the operand of `*` or `/` begins
abbrev pub product_place : ℕ → Waiting → ℕ
product_place i p = behind (sum_place i p) (left_tree p.sum)

-- where the operand that comes next begins
abbrev pub operand_place : ℕ → Waiting → ℕ
operand_place i p = behind (product_place i p) (left_tree p.product)

-- the nodes, and those of what waits down to a level
abbrev pub to_and : List (Node Part) → ℕ → Waiting → List (Node Part)
to_and ns i p = with_waiting ns i p.or

-- the nodes before what waits at the level of comparisons
abbrev pub to_compare : List (Node Part) → ℕ → Waiting → List (Node Part)
to_compare ns i p = with_waiting (to_and ns i p) (and_place i p) p.and

-- the nodes before what waits at the level of sums
abbrev pub to_sum : List (Node Part) → ℕ → Waiting → List (Node Part)
to_sum ns i p = with_waiting (to_compare ns i p) (compare_place i p) (left_tree p.compare)

-- the nodes before what waits at the level of products
abbrev pub to_product : List (Node Part) → ℕ → Waiting → List (Node Part)
to_product ns i p = with_waiting (to_sum ns i p) (sum_place i p) (left_tree p.sum)

-- the nodes, and those of all that waits
abbrev pub waits : List (Node Part) → ℕ → Waiting → List (Node Part)
waits ns i p = with_waiting (to_product ns i p) (product_place i p) (left_tree p.product)

-- the shape, where something waits
abbrev pub where_waiting : {A : Type 0} → Shape → Option A → Option Shape
where_waiting s None = None
where_waiting s (Some a) = Some s

-- the shape of the operator that waits
abbrev pub operator_of : {A : Type 0} → (A → Operator) → Option (A × Tree) → Option Shape
operator_of f None = None
operator_of f (Some a) = Some (shapes.Binary (f a.0))

-- a level that begins there, and what waits at it
abbrev pub level : ℕ → Option Shape → Level
level i s = record { first = i; waits = s }

-- what waits at each level, as the reader holds it
abbrev pub levels : ℕ → Waiting → Levels
levels i p = record {
  or = level i (where_waiting shapes.Or p.or);
  and = level (and_place i p) (where_waiting shapes.And p.and);
  compare = level (compare_place i p) (operator_of comparison p.compare);
  sum = level (sum_place i p) (operator_of addition p.sum);
  product = level (product_place i p) (operator_of multiplication p.product);
  operand = operand_place i p;
}

-- Blocks.
abbrev pub condition_end : ℕ → Tree → ℕ
condition_end i c = end_of ((i + 1) + 1) c + 1

-- the place of the block of a statement that begins at `i`
abbrev pub block_place : ℕ → Head → ℕ
block_place i (OfWhile c) = condition_end i c
block_place i (OfThen c) = condition_end i c
block_place i (OfElse c b) = end_of (condition_end i c) b + 1

-- the nodes of a `while`'s or an `if`'s condition, and of its first block
abbrev pub head_posts : ℕ → Head → List (Node Part)
head_posts i (OfWhile c) = post ((i + 1) + 1) c
head_posts i (OfThen c) = post ((i + 1) + 1) c
head_posts i (OfElse c b) = post ((i + 1) + 1) c ++ post (condition_end i c) b

-- what a block belongs to, as the reader holds it
abbrev pub head : Head → declared_head.Head
head (OfWhile c) = heads.While
head (OfThen c) = heads.Then
head (OfElse c b) = heads.Else

-- what a condition belongs to, as the reader holds it
abbrev pub keyword : Keyword → declared_keyword.Keyword
keyword ForWhile = keywords.While
keyword ForIf = keywords.If

-- the place after the `{` of the innermost block
abbrev pub inside_place : Around → ℕ
inside_place (Body fs x xs) = body_place (trees_end 0 fs) xs + 1
inside_place (Within h ss o) = block_place (trees_end (inside_place o) ss) h + 1

-- the nodes before the innermost open block
abbrev pub around_posts : Around → List (Node Part)
around_posts (Body fs x xs) = posts 0 fs
around_posts (Within h ss o) = (around_posts o ++ posts (inside_place o) ss) ++ head_posts (trees_end (inside_place o) ss) h

-- what the innermost open block belongs to
abbrev pub around_head : Around → declared_head.Head
around_head (Body fs x xs) = heads.Function (length_of xs)
around_head (Within h ss o) = head h

-- where that begins
abbrev pub around_first : Around → ℕ
around_first (Body fs x xs) = trees_end 0 fs
around_first (Within h ss o) = trees_end (inside_place o) ss

-- where the `{` of the innermost open block stands
abbrev pub around_brace : Around → ℕ
around_brace (Body fs x xs) = body_place (trees_end 0 fs) xs
around_brace (Within h ss o) = block_place (trees_end (inside_place o) ss) h

-- the innermost open block, with so many statements
abbrev pub block_of : Around → ℕ → Option ℕ → Block
block_of o n value_of = record { head = around_head o; first = around_first o; brace = around_brace o; statements = n; value_of = value_of; in_loop = Machine.in_loop o }

-- a frame for each open block around it
abbrev pub outer_frames : Around → List Frame
outer_frames (Body fs x xs) = []
outer_frames (Within h ss o) = frames.Block (block_of o (count ss) None) ∷ outer_frames o

-- a frame for each open block
abbrev pub block_frames : Around → Trees → Option ℕ → List Frame
block_frames o ss value_of = frames.Block (block_of o (count ss) value_of) ∷ outer_frames o

-- after the statements so far of the innermost block
abbrev pub statement_place : Trees → Around → ℕ
statement_place ss o = trees_end (inside_place o) ss

-- the nodes before the next statement
abbrev pub statement_posts : Trees → Around → List (Node Part)
statement_posts ss o = around_posts o ++ posts (inside_place o) ss

-- Expressions.
abbrev pub argument_place : ℕ → Trees → ℕ
argument_place i none = i
argument_place i (also e es) = more_arguments_end (end_of i e) es

-- where the expression begins
abbrev pub expression_place : Stack → ℕ
expression_place (AsStatement ss o) = statement_place ss o
expression_place (AsValue ss o) = statement_place ss o + 1
expression_place (AsCondition w ss o) = (statement_place ss o + 1) + 1
expression_place (InParens p k) = operand_place (expression_place k) p + 1
expression_place (InArguments p c es k) = argument_place (end_of (operand_place (expression_place k) p) c + 1) es
expression_place (InAssignment p x k) = (operand_place (expression_place k) p + 1) + 1

-- the nodes before the expression
abbrev pub stack_posts : Stack → List (Node Part)
stack_posts (AsStatement ss o) = statement_posts ss o
stack_posts (AsValue ss o) = statement_posts ss o
stack_posts (AsCondition w ss o) = statement_posts ss o
stack_posts (InParens p k) = waits (stack_posts k) (expression_place k) p
stack_posts (InArguments p c es k) = ((waits (stack_posts k) (expression_place k) p) ++ post (operand_place (expression_place k) p) c) ++ argument_posts (end_of (operand_place (expression_place k) p) c + 1) es
stack_posts (InAssignment p x k) = waits (stack_posts k) (expression_place k) p

-- the open frames where the expression stands
abbrev pub stack_frames : Stack → List Frame
stack_frames (AsStatement ss o) = block_frames o ss None
stack_frames (AsValue ss o) = block_frames o ss (Some (statement_place ss o))
stack_frames (AsCondition w ss o) = frames.Condition (keyword w) (statement_place ss o) ∷ block_frames o ss None
stack_frames (InParens p k) = frames.Parens (levels (expression_place k) p) ∷ stack_frames k
stack_frames (InArguments p c es k) = frames.Arguments (levels (expression_place k) p) (count es) ∷ stack_frames k
stack_frames (InAssignment p x k) = frames.Assignment (levels (expression_place k) p) ∷ stack_frames k

-- how many words have been taken
abbrev pub size : State → ℕ
size Start = 0
size (Between fs) = trees_end 0 fs
size (AfterFunctionKey fs) = trees_end 0 fs + 1
size (AfterFunctionName fs x) = (trees_end 0 fs + 1) + 1
size (FirstParameter fs x) = ((trees_end 0 fs + 1) + 1) + 1
size (AfterParameter fs x xs) = parameters_end (((trees_end 0 fs + 1) + 1) + 1) xs
size (AfterComma fs x xs) = parameters_end (((trees_end 0 fs + 1) + 1) + 1) xs + 1
size (BeforeBody fs x xs) = body_place (trees_end 0 fs) xs
size (Inside ss o) = statement_place ss o
size (AfterThen c b ss o) = end_of (condition_end (statement_place ss o) c) b
size (AfterKey w ss o) = statement_place ss o + 1
size (AfterReturn ss o) = statement_place ss o + 1
size (BeforeBlock h ss o) = block_place (statement_place ss o) h
size (BeforeSemicolon s ss o) = statement_place ss o + 1
size (Wants p k) = operand_place (expression_place k) p
size (MayWant p c k) = end_of (operand_place (expression_place k) p) c + 1
size (Named p x k) = operand_place (expression_place k) p + 1
size (Callable p f k) = end_of (operand_place (expression_place k) p) f
size (Has p f k) = end_of (operand_place (expression_place k) p) f

-- the nodes before the operand that comes next
abbrev pub operand_posts : Waiting → Stack → List (Node Part)
operand_posts p k = waits (stack_posts k) (expression_place k) p

-- what waits before it
abbrev pub operand_levels : Waiting → Stack → Levels
operand_levels p k = levels (expression_place k) p

-- what the reader holds in this state of the machine
abbrev pub held : State → Held
held Start = holding modes.Start [] []
held (Between fs) = holding modes.Between [] (posts 0 fs)
held (AfterFunctionKey fs) = holding (modes.AfterFunctionKey (trees_end 0 fs)) [] (posts 0 fs)
held (AfterFunctionName fs x) = holding (modes.AfterFunctionName (trees_end 0 fs)) [] (posts 0 fs)
held (FirstParameter fs x) = holding (modes.FirstParameter (trees_end 0 fs)) [] (posts 0 fs)
held (AfterParameter fs x xs) = holding (modes.AfterParameter (trees_end 0 fs) (length_of xs)) [] (posts 0 fs)
held (AfterComma fs x xs) = holding (modes.AfterComma (trees_end 0 fs) (length_of xs)) [] (posts 0 fs)
held (BeforeBody fs x xs) = holding (modes.BeforeBlock (heads.Function (length_of xs)) (trees_end 0 fs)) [] (posts 0 fs)
held (Inside ss o) = holding modes.Inside (block_frames o ss None) (statement_posts ss o)
held (AfterThen c b ss o) = holding (modes.AfterThen (statement_place ss o)) (block_frames o ss None) (statement_posts ss o ++ head_posts (statement_place ss o) (OfElse c b))
held (AfterKey w ss o) = holding (modes.AfterKey (keyword w) (statement_place ss o)) (block_frames o ss None) (statement_posts ss o)
held (AfterReturn ss o) = holding (modes.AfterReturn (statement_place ss o)) (block_frames o ss None) (statement_posts ss o)
held (BeforeBlock h ss o) = holding (modes.BeforeBlock (head h) (statement_place ss o)) (block_frames o ss None) (statement_posts ss o ++ head_posts (statement_place ss o) h)
held (BeforeSemicolon s ss o) = holding modes.BeforeSemicolon (block_frames o ss None) (statement_posts ss o ++ post (statement_place ss o) s)
held (Wants p k) = holding (modes.Wants (operand_levels p k)) (stack_frames k) (operand_posts p k)
held (MayWant p c k) = holding modes.MayWant (frames.Arguments (operand_levels p k) 0 ∷ stack_frames k) (operand_posts p k ++ post (operand_place (expression_place k) p) c)
held (Named p x k) = holding (modes.Named (operand_levels p k)) (stack_frames k) (operand_posts p k)
held (Callable p f k) = holding (modes.Callable (operand_levels p k)) (stack_frames k) (operand_posts p k ++ post (operand_place (expression_place k) p) f)
held (Has p f k) = holding (modes.Has (operand_levels p k)) (stack_frames k) (operand_posts p k ++ post (operand_place (expression_place k) p) f)

-- the same, where there is a state
abbrev pub held_option : Option State → Option Held
held_option None = None
held_option (Some s) = Some (held s)
