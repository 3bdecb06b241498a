-- Twin of the code, for its proofs. Of public contracts only those of `Reader` cite it, which no other crate uses.
-- What the reader holds, and what it does with a word.
-- After `at` words it has a mode, the frames that are open, the innermost first, and the nodes so far, each after its
-- parts.
use Rattle.std.specs.Prelude.{ℕ, ◌+◌, ◌<◌, ◌^◌, ℤ, pos, Bool, true, false, nat_lt, List, [], ◌∷◌, ◌++◌, length, Option, Some, None, Result, Ok, Err, All}
use Rattle.pd_tree.specs.declared.kind.Operator.{Operator}
use Rattle.pd_sections.specs.declared.Rule.{Rule}
use Rattle.pd_sections.specs.declared.Rule.TheVariants as rules
use Rattle.pd_turn.specs.declared.Node.{Node}
use Rattle.pd_sl_read.specs.declared.parts.Word.{Word}
use Rattle.pd_sl_read.specs.declared.parts.Word.TheVariants as words
use Rattle.pd_sl_read.specs.declared.parts.Shape.{Shape}
use Rattle.pd_sl_read.specs.declared.parts.Shape.TheVariants as shapes
use Rattle.pd_sl_read.specs.declared.parts.Part.{Part}
use Rattle.pd_sl_read.specs.declared.parts.Level.{Level}
use Rattle.pd_sl_read.specs.declared.parts.Levels.{Levels}
use Rattle.pd_sl_read.specs.declared.parts.Keyword.{Keyword}
use Rattle.pd_sl_read.specs.declared.parts.Keyword.TheVariants as keywords
use Rattle.pd_sl_read.specs.declared.parts.Head.{Head}
use Rattle.pd_sl_read.specs.declared.parts.Head.TheVariants as heads
use Rattle.pd_sl_read.specs.declared.parts.Block.{Block}
use Rattle.pd_sl_read.specs.declared.parts.Frame.{Frame}
use Rattle.pd_sl_read.specs.declared.parts.Frame.TheVariants as frames
use Rattle.pd_sl_read.specs.declared.parts.Mode.{Mode}
use Rattle.pd_sl_read.specs.declared.parts.Mode.TheVariants as modes

-- what the reader holds between two words
pub record Held : Type 0 where
  pub mode : Mode
  pub stack : List Frame
  pub nodes : List (Node Part)

-- what is held, from its parts
abbrev pub holding : Mode → List Frame → List (Node Part) → Held
holding m k ns = record { mode = m; stack = k; nodes = ns }

-- a node of this shape from its first word up to `end`, with so many parts
abbrev pub node : Shape → ℕ → ℕ → ℕ → Node Part
node shape first end parts = record { what = record { shape = shape; first = first; end = end }; parts = parts }

-- Levels.
abbrev pub quiet : ℕ → Level
quiet first = record { first = first; waits = None }

-- a level that began there and at which a node of this shape waits
abbrev pub waiting : ℕ → Shape → Level
waiting first shape = record { first = first; waits = Some shape }

-- nothing waits, and the operand comes at this token
abbrev pub fresh : ℕ → Levels
fresh at = record { or = quiet at; and = quiet at; compare = quiet at; sum = quiet at; product = quiet at; operand = at }

-- an `||` waits for its right side
abbrev pub or_waits : Levels → ℕ → Levels
or_waits l at = record { or = waiting l.or.first shapes.Or; and = quiet at; compare = quiet at; sum = quiet at; product = quiet at; operand = at }

-- an `&&` waits for its right side
abbrev pub and_waits : Levels → ℕ → Levels
and_waits l at = record { or = l.or; and = waiting l.and.first shapes.And; compare = quiet at; sum = quiet at; product = quiet at; operand = at }

-- a comparison waits for its right side
abbrev pub compare_waits : Operator → Levels → ℕ → Levels
compare_waits o l at = record { or = l.or; and = l.and; compare = waiting l.compare.first (shapes.Binary o); sum = quiet at; product = quiet at; operand = at }

-- a sum waits for its right side
abbrev pub sum_waits : Operator → Levels → ℕ → Levels
sum_waits o l at = record { or = l.or; and = l.and; compare = l.compare; sum = waiting l.sum.first (shapes.Binary o); product = quiet at; operand = at }

-- a product waits for its right side
abbrev pub product_waits : Operator → Levels → ℕ → Levels
product_waits o l at = record { or = l.or; and = l.and; compare = l.compare; sum = l.sum; product = waiting l.product.first (shapes.Binary o); operand = at }

-- an operator that waits gets its node, which ends before this token
abbrev pub operator_node : Option Shape → ℕ → ℕ → List (Node Part) → List (Node Part)
operator_node None first end ns = ns
operator_node (Some shape) first end ns = ns ++ node shape first end 2 ∷ []

-- what waited at a level is whole, and its node is added
abbrev pub folded : Level → ℕ → List (Node Part) → List (Node Part)
folded l end ns = operator_node l.waits l.first end ns

-- the product is whole
abbrev pub term_folded : Levels → ℕ → List (Node Part) → List (Node Part)
term_folded l end ns = folded l.product end ns

-- and the sum
abbrev pub arithmetic_folded : Levels → ℕ → List (Node Part) → List (Node Part)
arithmetic_folded l end ns = folded l.sum end (term_folded l end ns)

-- and the comparison and the `&&`
abbrev pub logic_term_folded : Levels → ℕ → List (Node Part) → List (Node Part)
logic_term_folded l end ns = folded l.and end (folded l.compare end (arithmetic_folded l end ns))

-- and the `||`, so that the expression is whole
abbrev pub expression_folded : Levels → ℕ → List (Node Part) → List (Node Part)
expression_folded l end ns = folded l.or end (logic_term_folded l end ns)

-- Blocks.
abbrev pub head_of : Keyword → Head
head_of keywords.While = heads.While
head_of keywords.If = heads.Then

-- a block with one statement more
abbrev pub counted : Frame → Frame
counted (frames.Block b) = frames.Block (record { head = b.head; first = b.first; brace = b.brace; statements = b.statements + 1; value_of = None; in_loop = b.in_loop })
counted f = f

-- the innermost block has one statement more
abbrev pub counted_top : List Frame → List Frame
counted_top [] = []
counted_top (f ∷ k) = counted f ∷ k

-- a block whose statement is a `return` that began there and has a value
abbrev pub returning : ℕ → Frame → Frame
returning first (frames.Block b) = frames.Block (record { head = b.head; first = b.first; brace = b.brace; statements = b.statements; value_of = Some first; in_loop = b.in_loop })
returning first f = f

-- the same, of the innermost frame
abbrev pub returning_top : ℕ → List Frame → List Frame
returning_top first [] = []
returning_top first (f ∷ k) = returning first f ∷ k

-- whether a `while` of the same function is around the inside of a block, by what it belongs to
abbrev pub loops : Head → Bool → Bool
loops (heads.Function n) around = false
loops heads.While around = true
loops heads.Then around = around
loops heads.Else around = around

-- whether a `while` of the same function is around the inside of a frame
abbrev pub in_loop : Frame → Bool
in_loop (frames.Block b) = b.in_loop
in_loop f = false

-- the same, of the innermost frame
abbrev pub in_loop_top : List Frame → Bool
in_loop_top [] = false
in_loop_top (f ∷ k) = in_loop f

-- After an expression: the assignments that end with it, and then what it stands in.
unfoldable pub assignments_ended : ℕ → List Frame → List (Node Part) → List Frame × List (Node Part)
assignments_ended at [] ns = ([], ns)
assignments_ended at (frames.Assignment l ∷ k) ns = assignments_ended at k (expression_folded l at (ns ++ node shapes.Assign l.operand at 1 ∷ []))
assignments_ended at (f ∷ k) ns = (f ∷ k, ns)

-- the node of the `return` that ends with its value, if one does
abbrev pub value_returned : ℕ → Option ℕ → List (Node Part) → List (Node Part)
value_returned at None ns = ns
value_returned at (Some first) ns = ns ++ node shapes.Return first at 1 ∷ []

-- a `;` after an expression
abbrev pub statement_ended : ℕ → List Frame → List (Node Part) → Option Held
statement_ended at (frames.Block b ∷ k) ns = Some (holding modes.Inside (counted (frames.Block b) ∷ k) (value_returned at b.value_of ns))
statement_ended at _ ns = None

-- a `)` after an expression
abbrev pub closed : ℕ → List Frame → List (Node Part) → Option Held
closed at (frames.Condition w first ∷ k) ns = Some (holding (modes.BeforeBlock (head_of w) first) k ns)
closed at (frames.Parens l ∷ k) ns = Some (holding (modes.Has l) k ns)
closed at (frames.Arguments l n ∷ k) ns = Some (holding (modes.Callable l) k (ns ++ node shapes.Call l.operand (at + 1) (n + 2) ∷ []))
closed at _ ns = None

-- a `,` after an expression
abbrev pub separated : ℕ → List Frame → List (Node Part) → Option Held
separated at (frames.Arguments l n ∷ k) ns = Some (holding (modes.Wants (fresh (at + 1))) (frames.Arguments l (n + 1) ∷ k) ns)
separated at _ ns = None

-- a word after a whole expression
abbrev pub ended_in : ℕ → Word → List Frame → List (Node Part) → Option Held
ended_in at words.Semicolon k ns = statement_ended at k ns
ended_in at words.Close k ns = closed at k ns
ended_in at words.Comma k ns = separated at k ns
ended_in at _ k ns = None

-- the same, after the assignments that end with it
abbrev pub ended : ℕ → Word → List Frame → List (Node Part) → Option Held
ended at w k ns = let r = assignments_ended at k ns in ended_in at w r.0 r.1

-- After an operand.
abbrev pub compared : Option Shape → ℕ → Operator → Levels → List Frame → List (Node Part) → Option Held
compared None at o l k ns = Some (holding (modes.Wants (compare_waits o l (at + 1))) k (arithmetic_folded l at ns))
compared (Some shape) at o l k ns = None

-- an operator after an operand
abbrev pub operated : ℕ → Word → Levels → List Frame → List (Node Part) → Option Held
operated at words.Or l k ns = Some (holding (modes.Wants (or_waits l (at + 1))) k (expression_folded l at ns))
operated at words.And l k ns = Some (holding (modes.Wants (and_waits l (at + 1))) k (logic_term_folded l at ns))
operated at (words.Compares o) l k ns = compared l.compare.waits at o l k ns
operated at (words.Adds o) l k ns = Some (holding (modes.Wants (sum_waits o l (at + 1))) k (arithmetic_folded l at ns))
operated at (words.Multiplies o) l k ns = Some (holding (modes.Wants (product_waits o l (at + 1))) k (term_folded l at ns))
operated at w l k ns = ended at w k (expression_folded l at ns)

-- a `(` or an operator after an operand that may be called
abbrev pub called : ℕ → Word → Levels → List Frame → List (Node Part) → Option Held
called at words.Open l k ns = Some (holding modes.MayWant (frames.Arguments l 0 ∷ k) ns)
called at w l k ns = operated at w l k ns

-- a word after a name
abbrev pub named : ℕ → Word → Levels → List Frame → List (Node Part) → Option Held
named at words.Becomes l k ns = Some (holding (modes.Wants (fresh (at + 1))) (frames.Assignment l ∷ k) ns)
named at w l k ns = called at w l k (ns ++ node shapes.Name l.operand at 0 ∷ [])

-- Where an operand comes.
abbrev pub literal : Option ℤ → ℤ
literal None = pos 9223372036854775807
literal (Some n) = n

-- the first word of an operand
abbrev pub operand : ℕ → Word → Levels → List Frame → List (Node Part) → Option Held
operand at words.Name l k ns = Some (holding (modes.Named l) k ns)
operand at (words.Number v) l k ns = Some (holding (modes.Has l) k (ns ++ node (shapes.Number (literal v)) at (at + 1) 0 ∷ []))
operand at words.Text l k ns = Some (holding (modes.Has l) k (ns ++ node shapes.Text at (at + 1) 0 ∷ []))
operand at words.Open l k ns = Some (holding (modes.Wants (fresh (at + 1))) (frames.Parens l ∷ k) ns)
operand at _ l k ns = None

-- a `)` right after the `(` of a call
abbrev pub called_empty : ℕ → List Frame → List (Node Part) → Option Held
called_empty at (frames.Arguments l n ∷ k) ns = Some (holding (modes.Callable l) k (ns ++ node shapes.Call l.operand (at + 1) 1 ∷ []))
called_empty at _ ns = None

-- a word after the `(` of a call
abbrev pub first_argument : ℕ → Word → List Frame → List (Node Part) → Option Held
first_argument at words.Close k ns = called_empty at k ns
first_argument at w k ns = operand at w (fresh at) k ns

-- Statements and blocks.
abbrev pub where_allowed : Bool → Held → Option Held
where_allowed false h = None
where_allowed true h = Some h

-- a block is whole, and so may be what it belongs to
abbrev pub block_done : ℕ → Head → Block → List Frame → List (Node Part) → Held
block_done at (heads.Function n) b k ns = holding modes.Between k ((ns ++ node shapes.Body b.brace (at + 1) b.statements ∷ []) ++ node (shapes.Function n) b.first (at + 1) 1 ∷ [])
block_done at heads.While b k ns = holding modes.Inside (counted_top k) ((ns ++ node shapes.Block b.brace (at + 1) b.statements ∷ []) ++ node shapes.While b.first (at + 1) 2 ∷ [])
block_done at heads.Then b k ns = holding (modes.AfterThen b.first) k (ns ++ node shapes.Block b.brace (at + 1) b.statements ∷ [])
block_done at heads.Else b k ns = holding modes.Inside (counted_top k) ((ns ++ node shapes.Block b.brace (at + 1) b.statements ∷ []) ++ node shapes.If b.first (at + 1) 3 ∷ [])

-- a `}` after the statements of a block
abbrev pub block_closed : ℕ → List Frame → List (Node Part) → Option Held
block_closed at (frames.Block b ∷ k) ns = Some (block_done at b.head b k ns)
block_closed at _ ns = None

-- a word where a statement or a `}` may come
abbrev pub inside : ℕ → Word → List Frame → List (Node Part) → Option Held
inside at words.CloseBlock k ns = block_closed at k ns
inside at words.WhileKey k ns = Some (holding (modes.AfterKey keywords.While at) k ns)
inside at words.IfKey k ns = Some (holding (modes.AfterKey keywords.If at) k ns)
inside at words.ReturnKey k ns = Some (holding (modes.AfterReturn at) k ns)
inside at words.BreakKey k ns = where_allowed (in_loop_top k) (holding modes.BeforeSemicolon k (ns ++ node shapes.Break at (at + 1) 0 ∷ []))
inside at words.ContinueKey k ns = where_allowed (in_loop_top k) (holding modes.BeforeSemicolon k (ns ++ node shapes.Continue at (at + 1) 0 ∷ []))
inside at words.DebuggerKey k ns = Some (holding modes.BeforeSemicolon k (ns ++ node shapes.Debugger at (at + 1) 0 ∷ []))
inside at w k ns = operand at w (fresh at) k ns

-- a word after the block of an `if`
abbrev pub after_then : ℕ → Word → ℕ → List Frame → List (Node Part) → Option Held
after_then at words.ElseKey first k ns = Some (holding (modes.BeforeBlock heads.Else first) k ns)
after_then at w first k ns = inside at w (counted_top k) (ns ++ node shapes.If first at 2 ∷ [])

-- a word after `return`
abbrev pub after_return : ℕ → Word → ℕ → List Frame → List (Node Part) → Option Held
after_return at words.Semicolon first k ns = Some (holding modes.Inside (counted_top k) (ns ++ node shapes.Return first at 0 ∷ []))
after_return at w first k ns = operand at w (fresh at) (returning_top first k) ns

-- the frame of a block that opens
abbrev pub block_opened : ℕ → Head → ℕ → List Frame → Frame
block_opened at head first k = frames.Block (record { head = head; first = first; brace = at; statements = 0; value_of = None; in_loop = loops head (in_loop_top k) })

-- between functions and in the head of one
abbrev pub head_taken : Mode → ℕ → Word → List Frame → List (Node Part) → Option Held
head_taken modes.Start at words.FunctionKey k ns = Some (holding (modes.AfterFunctionKey at) k ns)
head_taken modes.Between at words.FunctionKey k ns = Some (holding (modes.AfterFunctionKey at) k ns)
head_taken (modes.AfterFunctionKey first) at words.Name k ns = Some (holding (modes.AfterFunctionName first) k ns)
head_taken (modes.AfterFunctionName first) at words.Open k ns = Some (holding (modes.FirstParameter first) k ns)
head_taken (modes.FirstParameter first) at words.Close k ns = Some (holding (modes.BeforeBlock (heads.Function 0) first) k ns)
head_taken (modes.FirstParameter first) at words.Name k ns = Some (holding (modes.AfterParameter first 1) k ns)
head_taken (modes.AfterParameter first n) at words.Close k ns = Some (holding (modes.BeforeBlock (heads.Function n) first) k ns)
head_taken (modes.AfterParameter first n) at words.Comma k ns = Some (holding (modes.AfterComma first n) k ns)
head_taken (modes.AfterComma first n) at words.Name k ns = Some (holding (modes.AfterParameter first (n + 1)) k ns)
head_taken _ at w k ns = None

-- where just one word may come
abbrev pub fixed_taken : Mode → ℕ → Word → List Frame → List (Node Part) → Option Held
fixed_taken (modes.AfterKey keyword first) at words.Open k ns = Some (holding (modes.Wants (fresh (at + 1))) (frames.Condition keyword first ∷ k) ns)
fixed_taken (modes.BeforeBlock head first) at words.OpenBlock k ns = Some (holding modes.Inside (block_opened at head first k ∷ k) ns)
fixed_taken modes.BeforeSemicolon at words.Semicolon k ns = Some (holding modes.Inside (counted_top k) ns)
fixed_taken _ at w k ns = None

-- what is held after the word, by the mode; none where the word may not come
abbrev pub taken_in : Mode → ℕ → Word → List Frame → List (Node Part) → Option Held
taken_in modes.Inside at w k ns = inside at w k ns
taken_in (modes.AfterThen first) at w k ns = after_then at w first k ns
taken_in (modes.AfterReturn first) at w k ns = after_return at w first k ns
taken_in (modes.Wants l) at w k ns = operand at w l k ns
taken_in modes.MayWant at w k ns = first_argument at w k ns
taken_in (modes.Named l) at w k ns = named at w l k ns
taken_in (modes.Callable l) at w k ns = called at w l k ns
taken_in (modes.Has l) at w k ns = operated at w l k ns
taken_in (modes.AfterKey keyword first) at w k ns = fixed_taken (modes.AfterKey keyword first) at w k ns
taken_in (modes.BeforeBlock head first) at w k ns = fixed_taken (modes.BeforeBlock head first) at w k ns
taken_in modes.BeforeSemicolon at w k ns = fixed_taken modes.BeforeSemicolon at w k ns
taken_in m at w k ns = head_taken m at w k ns

-- what is held after the word, if it may come
abbrev pub taken : ℕ → Held → Word → Option Held
taken at h w = taken_in h.mode at w h.stack h.nodes

-- what is held before the first word
abbrev pub begun : Held
begun = holding modes.Start [] []

-- Counts that can grow.
abbrev pub count_of : Frame → ℕ
count_of (frames.Block b) = b.statements
count_of (frames.Arguments l n) = n
count_of f = 0

-- how many parameters have been read
abbrev pub parameters_in : Mode → ℕ
parameters_in (modes.AfterParameter first n) = n
parameters_in (modes.AfterComma first n) = n
parameters_in m = 0

-- each count can grow by less than `n`
abbrev pub HasRoom : ℕ → List Frame → Type 0
HasRoom n k = All (λ f. count_of f + n < 2 ^ 32) k

-- the nodes of whole functions, where nothing is open after the first
abbrev pub finished_in : Mode → List (Node Part) → Option (List (Node Part))
finished_in modes.Between ns = Some ns
finished_in _ ns = None

-- the nodes of all functions, where the last one is whole
abbrev pub finished : Held → Option (List (Node Part))
finished h = finished_in h.mode h.nodes

-- a word with the rules at it: it may come, a number has 64 bits, and at most 200 frames are open
abbrev pub within_depth : Bool → Held → Result Held Rule
within_depth true h = Err rules.TooDeep
within_depth false h = Ok h

-- what is held, or the first broken rule: on numbers, then on the nesting
abbrev pub within_limits : Word → Held → Result Held Rule
within_limits (words.Number None) h = Err rules.LiteralTooLarge
within_limits w h = within_depth (nat_lt 200 (length h.stack)) h

-- what is held, or the first broken rule, where none is `Unexpected`
abbrev pub expected : Word → Option Held → Result Held Rule
expected w None = Err rules.Unexpected
expected w (Some h) = within_limits w h

-- what is held after one more word, or the first rule that it breaks
abbrev pub taken_within : ℕ → Held → Word → Result Held Rule
taken_within at h w = expected w (taken at h w)
