-- Twin of the code, for its proofs. Of public contracts only those of `Reader` cite it, which no other crate uses.
-- What the reader holds, and what it does with a word.
-- After `at` words it has a mode, the frames that are open, the innermost first, the blocks that are open, the
-- innermost first, the name of the constant that is being declared, and the nodes so far, each after its parts.
use Rattle.std.specs.Prelude.{ℕ, ◌+◌, ◌-◌, ◌^◌, min, ℤ, Bool, true, false, nat_lt, ◌==◌, if◌then◌else◌, List, [], ◌∷◌, ◌++◌, length, Option, Some, None, Result, Ok, Err}
use Rattle.pd_tree.specs.declared.kind.Operator.{Operator}
use Rattle.pd_tree.specs.declared.kind.Operator.TheVariants as operators
use Rattle.pd_sections.specs.declared.Rule.{Rule}
use Rattle.pd_sections.specs.declared.Rule.TheVariants as rules
use Rattle.pd_turn.specs.declared.Node.{Node}
use Rattle.pd_pl0_read.specs.declared.names.Declared.{Declared}
use Rattle.pd_pl0_read.specs.declared.names.Declared.TheVariants as declared
use Rattle.pd_pl0_read.specs.declared.names.Found.{Found}
use Rattle.pd_pl0_read.specs.declared.parts.Word.{Word}
use Rattle.pd_pl0_read.specs.declared.parts.Word.TheVariants as words
use Rattle.pd_pl0_read.specs.declared.parts.Shape.{Shape}
use Rattle.pd_pl0_read.specs.declared.parts.Shape.TheVariants as shapes
use Rattle.pd_pl0_read.specs.declared.parts.Part.{Part}
use Rattle.pd_pl0_read.specs.declared.parts.Before.{Before}
use Rattle.pd_pl0_read.specs.declared.parts.Before.TheVariants as before
use Rattle.pd_pl0_read.specs.declared.parts.Levels.{Levels}
use Rattle.pd_pl0_read.specs.declared.parts.Keyword.{Keyword}
use Rattle.pd_pl0_read.specs.declared.parts.Keyword.TheVariants as keywords
use Rattle.pd_pl0_read.specs.declared.parts.Purpose.{Purpose}
use Rattle.pd_pl0_read.specs.declared.parts.Purpose.TheVariants as purposes
use Rattle.pd_pl0_read.specs.declared.parts.Frame.{Frame}
use Rattle.pd_pl0_read.specs.declared.parts.Frame.TheVariants as frames
use Rattle.pd_pl0_read.specs.declared.parts.Block.{Block}
use Rattle.pd_pl0_read.specs.declared.parts.Mode.{Mode}
use Rattle.pd_pl0_read.specs.declared.parts.Mode.TheVariants as modes
use Rattle.pd_pl0_read.specs.Entries.{Entries, inserted, entry_at}
use Rattle.pd_pl0_read.specs.Resolving.{literal, or_outer, meaning_of, factor_of}
use Rattle.pd_pl0_read.specs.Places.{node}

-- nodes, each after its parts
abbrev pub Nodes : Type 0
Nodes = List (Node Part)

-- what the reader holds between two words
pub record Held : Type 0 where
  pub mode : Mode
  pub stack : List Frame
  pub blocks : List Block
  pub constant : List ℕ
  pub nodes : Nodes

-- what is held, from its parts
abbrev pub holding : Mode → List Frame → List Block → List ℕ → Nodes → Held
holding m k bs c ns = record { mode = m; stack = k; blocks = bs; constant = c; nodes = ns }

-- one more, which stays in 32 bits
abbrev pub more : ℕ → ℕ
more n = min (n + 1) (2 ^ 32 - 1)

-- Blocks.
abbrev pub block_of : Entries → ℕ → ℕ → ℕ → ℕ → Block
block_of es m n p i = record { names = es; constants = m; variables = n; procedures = p; behind = i }

-- a block that has declared nothing, and begins at this place
abbrev pub fresh_block : ℕ → Block
fresh_block i = block_of [] 0 0 0 i

-- the visible declaration of a name
abbrev pub found_from : ℕ → List ℕ → List Block → Option Found
found_from up x [] = None
found_from up x (b ∷ bs) = or_outer up (entry_at x b.names) (found_from (up + 1) x bs)

-- the innermost visible declaration of the name
abbrev pub found : List ℕ → List Block → Option Found
found x bs = found_from 0 x bs

-- that of the next word, where it is a name
abbrev pub found_at : Word → List ℕ → List Block → Option Found
found_at words.Name x bs = found x bs
found_at _ x bs = None

-- the innermost block declares one more constant, with this value
abbrev pub with_constant : List ℕ → ℤ → List Block → List Block
with_constant x v [] = []
with_constant x v (b ∷ bs) = block_of (inserted x (declared.Constant v) b.names) (more b.constants) b.variables b.procedures b.behind ∷ bs

-- the innermost block declares one more variable
abbrev pub with_variable : List ℕ → List Block → List Block
with_variable x [] = []
with_variable x (b ∷ bs) = block_of (inserted x (declared.Variable b.variables) b.names) b.constants (more b.variables) b.procedures b.behind ∷ bs

-- the innermost block declares one more procedure
abbrev pub with_procedure : List ℕ → List Block → List Block
with_procedure x [] = []
with_procedure x (b ∷ bs) = block_of (inserted x declared.Procedure b.names) b.constants b.variables b.procedures b.behind ∷ bs

-- the declarations so far end before this token
abbrev pub declared_to : ℕ → List Block → List Block
declared_to i [] = []
declared_to i (b ∷ bs) = block_of b.names b.constants b.variables b.procedures i ∷ bs

-- an inner procedure is whole
abbrev pub procedure_done : ℕ → List Block → List Block
procedure_done i [] = []
procedure_done i (b ∷ bs) = block_of b.names b.constants b.variables (more b.procedures) i ∷ bs

-- the first token after the declarations so far of the innermost block
abbrev pub behind_of : List Block → ℕ
behind_of [] = 0
behind_of (b ∷ bs) = b.behind

-- Expressions.
abbrev pub fresh : ℕ → Levels
fresh at = record { first = at; sum = before.Nothing; term = at; product = None }

-- a sign waits for its term
abbrev pub signed_levels : Operator → ℕ → Levels
signed_levels o at = record { first = at; sum = before.Sign o; term = at + 1; product = None }

-- a sum waits for its next term
abbrev pub sum_waits : Operator → Levels → ℕ → Levels
sum_waits o l at = record { first = l.first; sum = before.Left o; term = at; product = None }

-- a product waits for its next factor
abbrev pub product_waits : Operator → Levels → Levels
product_waits o l = record { first = l.first; sum = l.sum; term = l.term; product = Some o }

-- the node of a sign
abbrev pub sign_of : Operator → Shape
sign_of operators.Add = shapes.Plus
sign_of _ = shapes.Minus

-- the product that waited is whole, and its node is added
abbrev pub product_node : Option Operator → ℕ → ℕ → Nodes → Nodes
product_node None first end ns = ns
product_node (Some o) first end ns = ns ++ node (shapes.Binary o) first end 2 ∷ []

-- the sum or the signed term that waited is whole, and its node is added
abbrev pub sum_node : Before → ℕ → ℕ → Nodes → Nodes
sum_node before.Nothing first end ns = ns
sum_node (before.Sign o) first end ns = ns ++ node (sign_of o) first end 1 ∷ []
sum_node (before.Left o) first end ns = ns ++ node (shapes.Binary o) first end 2 ∷ []

-- the term is whole
abbrev pub term_folded : Levels → ℕ → Nodes → Nodes
term_folded l end ns = product_node l.product l.term end ns

-- the expression is whole
abbrev pub expression_folded : Levels → ℕ → Nodes → Nodes
expression_folded l end ns = sum_node l.sum l.first end (term_folded l end ns)

-- Statements that end.
abbrev pub heading_shape : Keyword → Shape
heading_shape keywords.If = shapes.If
heading_shape keywords.While = shapes.While

-- the `if`s and `while`s that end with a statement, and their nodes
unfoldable pub headings_ended : ℕ → List Frame → Nodes → List Frame × Nodes
headings_ended at [] ns = ([], ns)
headings_ended at (frames.Heading w first ∷ k) ns = headings_ended at k (ns ++ node (heading_shape w) first at 2 ∷ [])
headings_ended at (f ∷ k) ns = (f ∷ k, ns)

-- the node of the innermost block's statement
abbrev pub body_node : ℕ → List Block → Node Part
body_node at bs = node shapes.Body (behind_of bs) at 1

-- the node of a main block or a procedure
abbrev pub root_node : Shape → ℕ → ℕ → Block → Node Part
root_node s first end b = node s first end (more b.procedures)

-- `.` after the main block's statement, and `;` after a procedure's
abbrev pub main_ended : ℕ → List Block → List ℕ → Nodes → Option Held
main_ended at [] c ns = None
main_ended at (b ∷ bs) c ns =
    Some (holding modes.Finished [] bs c ((ns ++ body_node at (b ∷ bs) ∷ []) ++ root_node (shapes.Main b.constants b.variables) 0 (at + 1) b ∷ []))

-- a procedure's block is whole
abbrev pub procedure_ended : ℕ → List Frame → List Block → List ℕ → Nodes → Option Held
procedure_ended at k [] c ns = None
procedure_ended at k (b ∷ bs) c ns =
    Some (holding modes.AfterVariables k (procedure_done (at + 1) bs) c ((ns ++ body_node at (b ∷ bs) ∷ []) ++ root_node (shapes.Procedure b.constants b.variables) (behind_of bs) at b ∷ []))

-- a word that ends a statement, by what the statement stands in
abbrev pub ended_in : ℕ → Word → List Frame → List Block → List ℕ → Nodes → Option Held
ended_in at words.Period [] bs c ns = main_ended at bs c ns
ended_in at words.Semicolon (frames.Procedure ∷ k) bs c ns = procedure_ended at k bs c ns
ended_in at words.Semicolon (frames.Sequence first n ∷ k) bs c ns = Some (holding modes.BeforeStatement (frames.Sequence first (more n) ∷ k) bs c ns)
ended_in at words.EndKey (frames.Sequence first n ∷ k) bs c ns = Some (holding modes.AfterStatement k bs c (ns ++ node shapes.Begin first (at + 1) (more n) ∷ []))
ended_in at _ k bs c ns = None

-- the same, after the `if`s and `while`s that end with it
abbrev pub statement_ended : ℕ → Word → List Frame → List Block → List ℕ → Nodes → Option Held
statement_ended at w k bs c ns = let r = headings_ended at k ns in ended_in at w r.0 bs c r.1

-- Conditions that end.
abbrev pub condition_ended : Word → List Frame → List Block → List ℕ → Nodes → Option Held
condition_ended words.ThenKey (frames.Heading keywords.If first ∷ k) bs c ns = Some (holding modes.BeforeStatement (frames.Heading keywords.If first ∷ k) bs c ns)
condition_ended words.DoKey (frames.Heading keywords.While first ∷ k) bs c ns = Some (holding modes.BeforeStatement (frames.Heading keywords.While first ∷ k) bs c ns)
condition_ended _ k bs c ns = None

-- the left side of a comparison is whole, and the comparison's word comes
abbrev pub left_ended : ℕ → ℕ → Word → List Frame → List Block → List ℕ → Nodes → Option Held
left_ended first at (words.Compares o) k bs c ns = Some (holding (modes.BeforeExpression (purposes.Right first o)) k bs c ns)
left_ended first at _ k bs c ns = None

-- After an expression that stands in no parentheses.
abbrev pub purpose_ended : Purpose → ℕ → Word → List Frame → List Block → List ℕ → Nodes → Option Held
purpose_ended (purposes.Assigned first m) at w k bs c ns = statement_ended at w k bs c (ns ++ node (shapes.Assign m) first at 1 ∷ [])
purpose_ended (purposes.Written first) at w k bs c ns = statement_ended at w k bs c (ns ++ node shapes.Write first at 1 ∷ [])
purpose_ended (purposes.Odd first) at w k bs c ns = condition_ended w k bs c (ns ++ node shapes.Odd first at 1 ∷ [])
purpose_ended (purposes.Left first) at w k bs c ns = left_ended first at w k bs c ns
purpose_ended (purposes.Right first o) at w k bs c ns = condition_ended w k bs c (ns ++ node (shapes.Binary o) first at 2 ∷ [])

-- a `)` after an expression in parentheses
abbrev pub closed : Purpose → Levels → Word → List Frame → List Block → List ℕ → Nodes → Option Held
closed p l words.Close k bs c ns = Some (holding (modes.Has p l) k bs c ns)
closed p l _ k bs c ns = None

-- a word after a whole expression
abbrev pub ended : Purpose → ℕ → Word → List Frame → List Block → List ℕ → Nodes → Option Held
ended p at w (frames.Parens l ∷ k) bs c ns = closed p l w k bs c ns
ended p at w k bs c ns = purpose_ended p at w k bs c ns

-- after an operand
abbrev pub operated : Purpose → Levels → ℕ → Word → List Frame → List Block → List ℕ → Nodes → Option Held
operated p l at (words.Adds o) k bs c ns = Some (holding (modes.Wants p (sum_waits o l (at + 1))) k bs c (expression_folded l at ns))
operated p l at (words.Multiplies o) k bs c ns = Some (holding (modes.Wants p (product_waits o l)) k bs c (term_folded l at ns))
operated p l at w k bs c ns = ended p at w k bs c (expression_folded l at ns)

-- where an operand comes, and where an expression comes; `f` is the visible declaration of a name
abbrev pub operand : Option Found → Purpose → Levels → ℕ → Word → List Frame → List Block → List ℕ → Nodes → Option Held
operand f p l at words.Name k bs c ns = Some (holding (modes.Has p l) k bs c (ns ++ node (factor_of f) at (at + 1) 0 ∷ []))
operand f p l at (words.Number v) k bs c ns = Some (holding (modes.Has p l) k bs c (ns ++ node (shapes.Number (literal v)) at (at + 1) 0 ∷ []))
operand f p l at words.Open k bs c ns = Some (holding (modes.BeforeExpression p) (frames.Parens l ∷ k) bs c ns)
operand f p l at _ k bs c ns = None

-- the first word of an expression
abbrev pub expression : Option Found → Purpose → ℕ → Word → List Frame → List Block → List ℕ → Nodes → Option Held
expression f p at (words.Adds o) k bs c ns = Some (holding (modes.Wants p (signed_levels o at)) k bs c ns)
expression f p at w k bs c ns = operand f p (fresh at) at w k bs c ns

-- the first word of a condition
abbrev pub condition : Option Found → ℕ → Word → List Frame → List Block → List ℕ → Nodes → Option Held
condition f at words.OddKey k bs c ns = Some (holding (modes.BeforeExpression (purposes.Odd at)) k bs c ns)
condition f at w k bs c ns = expression f (purposes.Left at) at w k bs c ns

-- the first word of a statement, or the word after an empty one
abbrev pub statement : Option Found → ℕ → Word → List Frame → List Block → List ℕ → Nodes → Option Held
statement f at words.Name k bs c ns = Some (holding (modes.BeforeBecomes at (meaning_of f)) k bs c ns)
statement f at words.CallKey k bs c ns = Some (holding (modes.BeforeCallee at) k bs c ns)
statement f at words.Writes k bs c ns = Some (holding (modes.BeforeExpression (purposes.Written at)) k bs c ns)
statement f at words.BeginKey k bs c ns = Some (holding modes.BeforeStatement (frames.Sequence at 0 ∷ k) bs c ns)
statement f at words.IfKey k bs c ns = Some (holding modes.BeforeCondition (frames.Heading keywords.If at ∷ k) bs c ns)
statement f at words.WhileKey k bs c ns = Some (holding modes.BeforeCondition (frames.Heading keywords.While at ∷ k) bs c ns)
statement f at w k bs c ns = statement_ended at w k bs c (ns ++ node shapes.Empty at at 0 ∷ [])

-- Declarations.
abbrev pub procedures : Option Found → ℕ → Word → List Frame → List Block → List ℕ → Nodes → Option Held
procedures f at words.ProcedureKey k bs c ns = Some (holding modes.BeforeProcedure (frames.Procedure ∷ k) bs c ns)
procedures f at w k bs c ns = statement f at w k bs c ns

-- a word where `var`, a procedure or the block's statement may come
abbrev pub variables : Option Found → ℕ → Word → List Frame → List Block → List ℕ → Nodes → Option Held
variables f at words.VarKey k bs c ns = Some (holding modes.BeforeVariable k bs c ns)
variables f at w k bs c ns = procedures f at w k bs c ns

-- the first word of a block
abbrev pub constants : Option Found → ℕ → Word → List Frame → List Block → List ℕ → Nodes → Option Held
constants f at words.ConstKey k bs c ns = Some (holding modes.BeforeConstant k bs c ns)
constants f at w k bs c ns = variables f at w k bs c ns

-- in the declaration of a constant, whose name is `c`; the next word's name is `x`
abbrev pub constant_taken : Mode → ℕ → Word → List ℕ → List Frame → List Block → List ℕ → Nodes → Option Held
constant_taken modes.BeforeConstant at words.Name x k bs c ns = Some (holding modes.BeforeEqual k bs x ns)
constant_taken modes.BeforeEqual at (words.Compares operators.Equal) x k bs c ns = Some (holding modes.BeforeNumber k bs c ns)
constant_taken modes.BeforeNumber at (words.Number v) x k bs c ns = Some (holding modes.AfterConstant k (with_constant c (literal v) bs) [] ns)
constant_taken modes.AfterConstant at words.Comma x k bs c ns = Some (holding modes.BeforeConstant k bs c ns)
constant_taken modes.AfterConstant at words.Semicolon x k bs c ns = Some (holding modes.AfterConstants k (declared_to (at + 1) bs) c ns)
constant_taken _ at w x k bs c ns = None

-- in the declaration of a variable or a procedure
abbrev pub declaration_taken : Mode → ℕ → Word → List ℕ → List Frame → List Block → List ℕ → Nodes → Option Held
declaration_taken modes.BeforeVariable at words.Name x k bs c ns = Some (holding modes.AfterVariable k (with_variable x bs) c ns)
declaration_taken modes.AfterVariable at words.Comma x k bs c ns = Some (holding modes.BeforeVariable k bs c ns)
declaration_taken modes.AfterVariable at words.Semicolon x k bs c ns = Some (holding modes.AfterVariables k (declared_to (at + 1) bs) c ns)
declaration_taken modes.BeforeProcedure at words.Name x k bs c ns = Some (holding modes.AfterProcedure k (with_procedure x bs) c ns)
declaration_taken modes.AfterProcedure at words.Semicolon x k bs c ns = Some (holding modes.BlockStart k (fresh_block (at + 1) ∷ bs) c ns)
declaration_taken _ at w x k bs c ns = None

-- where just one word may come
abbrev pub fixed_taken : Mode → ℕ → Word → List Frame → List Block → List ℕ → Nodes → Option Held
fixed_taken (modes.BeforeBecomes first m) at words.Becomes k bs c ns = Some (holding (modes.BeforeExpression (purposes.Assigned first m)) k bs c ns)
fixed_taken (modes.BeforeCallee first) at words.Name k bs c ns = Some (holding modes.AfterStatement k bs c (ns ++ node shapes.Call first (at + 1) 0 ∷ []))
fixed_taken _ at w k bs c ns = None

-- what is held after the word, by the mode; none where the word may not come
abbrev pub taken_in : Mode → Option Found → ℕ → Word → List ℕ → List Frame → List Block → List ℕ → Nodes → Option Held
taken_in modes.BlockStart f at w x k bs c ns = constants f at w k bs c ns
taken_in modes.AfterConstants f at w x k bs c ns = variables f at w k bs c ns
taken_in modes.AfterVariables f at w x k bs c ns = procedures f at w k bs c ns
taken_in modes.BeforeStatement f at w x k bs c ns = statement f at w k bs c ns
taken_in modes.AfterStatement f at w x k bs c ns = statement_ended at w k bs c ns
taken_in modes.BeforeCondition f at w x k bs c ns = condition f at w k bs c ns
taken_in (modes.BeforeExpression p) f at w x k bs c ns = expression f p at w k bs c ns
taken_in (modes.Wants p l) f at w x k bs c ns = operand f p l at w k bs c ns
taken_in (modes.Has p l) f at w x k bs c ns = operated p l at w k bs c ns
taken_in (modes.BeforeBecomes first m) f at w x k bs c ns = fixed_taken (modes.BeforeBecomes first m) at w k bs c ns
taken_in (modes.BeforeCallee first) f at w x k bs c ns = fixed_taken (modes.BeforeCallee first) at w k bs c ns
taken_in modes.BeforeConstant f at w x k bs c ns = constant_taken modes.BeforeConstant at w x k bs c ns
taken_in modes.BeforeEqual f at w x k bs c ns = constant_taken modes.BeforeEqual at w x k bs c ns
taken_in modes.BeforeNumber f at w x k bs c ns = constant_taken modes.BeforeNumber at w x k bs c ns
taken_in modes.AfterConstant f at w x k bs c ns = constant_taken modes.AfterConstant at w x k bs c ns
taken_in m f at w x k bs c ns = declaration_taken m at w x k bs c ns

-- `x` is the word's name, if it has one
abbrev pub taken : ℕ → Held → Word → List ℕ → Option Held
taken at h w x = taken_in h.mode (found_at w x h.blocks) at w x h.stack h.blocks h.constant h.nodes

-- what is held before the first word
abbrev pub begun : Held
begun = holding modes.BlockStart [] (fresh_block 0 ∷ []) [] []

-- The rules on names.
abbrev pub broken_declaring : Option Found → Option Rule
broken_declaring None = None
broken_declaring (Some f) = if f.up == 0 then Some rules.Doubled else None

-- the rule that a name at the start of a statement breaks, by its declaration
abbrev pub assigning : Declared → Option Rule
assigning (declared.Variable slot) = None
assigning _ = Some rules.NotAssignable

-- the same, also where it has none
abbrev pub broken_assigning : Option Found → Option Rule
broken_assigning None = Some rules.Undeclared
broken_assigning (Some f) = assigning f.what

-- the rule that a name after `call` breaks, by its declaration
abbrev pub calling : Declared → Option Rule
calling declared.Procedure = None
calling _ = Some rules.NotAProcedure

-- the same; a name without declaration is no breach
abbrev pub broken_calling : Option Found → Option Rule
broken_calling None = None
broken_calling (Some f) = calling f.what

-- the rule that a name in a factor breaks, by its declaration
abbrev pub reading : Declared → Option Rule
reading declared.Procedure = Some rules.NotAValue
reading _ = None

-- the same, also where it has none
abbrev pub broken_reading : Option Found → Option Rule
broken_reading None = Some rules.Undeclared
broken_reading (Some f) = reading f.what

-- the rule that a name breaks here, where `f` is its visible declaration
abbrev pub broken_in : Mode → Option Found → Option Rule
broken_in modes.BeforeConstant f = broken_declaring f
broken_in modes.BeforeVariable f = broken_declaring f
broken_in modes.BeforeProcedure f = broken_declaring f
broken_in modes.BlockStart f = broken_assigning f
broken_in modes.AfterConstants f = broken_assigning f
broken_in modes.AfterVariables f = broken_assigning f
broken_in modes.BeforeStatement f = broken_assigning f
broken_in (modes.BeforeCallee first) f = broken_calling f
broken_in modes.BeforeCondition f = broken_reading f
broken_in (modes.BeforeExpression p) f = broken_reading f
broken_in (modes.Wants p l) f = broken_reading f
broken_in _ f = None

-- the rule on names that the word breaks in this mode
abbrev pub broken_at : Mode → Word → Option Found → Option Rule
broken_at m words.Name f = broken_in m f
broken_at m _ f = None

-- the rule on names that the word breaks
abbrev pub broken : Held → Word → List ℕ → Option Rule
broken h w x = broken_at h.mode w (found_at w x h.blocks)

-- A word with the rules at it: it may come, a number has 64 bits, a name may stand here, and at most 200 frames are open.
abbrev pub within_depth : Bool → Held → Result Held Rule
within_depth true h = Err rules.TooDeep
within_depth false h = Ok h

-- what is held, or the first broken rule: on names, then on the nesting
abbrev pub within_names : Option Rule → Held → Result Held Rule
within_names (Some rule) h = Err rule
within_names None h = within_depth (nat_lt 200 (length h.stack)) h

-- what is held, or the first broken rule: on numbers, then on names, then on the nesting
abbrev pub within_limits : Word → Option Rule → Held → Result Held Rule
within_limits (words.Number None) b h = Err rules.LiteralTooLarge
within_limits w b h = within_names b h

-- what is held, or the first broken rule, where none is `Unexpected`
abbrev pub expected : Word → Option Rule → Option Held → Result Held Rule
expected w b None = Err rules.Unexpected
expected w b (Some h) = within_limits w b h

-- what is held after one more word, or the first rule that it breaks
abbrev pub taken_within : ℕ → Held → Word → List ℕ → Result Held Rule
taken_within at h w x = expected w (broken h w x) (taken at h w x)

-- the nodes of the whole program
abbrev pub finished_in : Mode → Nodes → Option Nodes
finished_in modes.Finished ns = Some ns
finished_in _ ns = None

-- the nodes of the whole program, where it is whole
abbrev pub finished : Held → Option Nodes
finished h = finished_in h.mode h.nodes
