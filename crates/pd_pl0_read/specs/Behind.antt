-- Twin of the code, for its proofs. Of public contracts only those of `word_of` and `name_of` cite it, which no other
-- crate uses.
-- What the reader holds where the machine with trees is: the frames and the blocks that are open, and the nodes of all
-- its trees, each after its parts.
use Rattle.std.specs.Prelude.{ℕ, ◌+◌, ◌*◌, List, [], ◌∷◌, ◌++◌, length, Option, Some, None}
use Rattle.pd_tree.specs.declared.kind.Operator.{Operator}
use Rattle.pd_pl0_spell.specs.Words.{Multiplying, Word, Name, Number, Compares, Adds, Multiplies, Becomes, Writes, Open, Close, Comma, Semicolon, Period, ConstKey, VarKey, ProcedureKey, CallKey, BeginKey, EndKey, IfKey, ThenKey, WhileKey, DoKey, OddKey, Constant, Tree}
use Rattle.pd_pl0_spell.specs.Names.{AProcedure, Declaration, Scope, no_declarations, declare, entered}
use Rattle.pd_pl0_spell.specs.Machine
use Rattle.pd_pl0_spell.specs.Machine.{Waiting, Parts, Around, Main, Within, Keyword, ForIf, ForWhile, Holder, InBlock, InSequence, InBody, Stack, AsAssigned, AsWritten, AsOdd, AsLeft, AsRight, InParens, State, BlockStart, BeforeConstant, BeforeEqual, BeforeNumber, AfterConstant, AfterConstants, BeforeVariable, AfterVariable, AfterVariables, BeforeProcedure, AfterProcedure, BeforeStatement, BeforeBecomes, BeforeCallee, AfterStatement, BeforeCondition, BeforeExpression, Wants, Has, Finished}
use Rattle.pd_pl0_read.specs.declared.parts.Word.TheVariants as words
use Rattle.pd_pl0_read.specs.declared.parts.Word as declared
use Rattle.pd_pl0_read.specs.declared.parts.Before as declared_before
use Rattle.pd_pl0_read.specs.declared.parts.Before.TheVariants as before
use Rattle.pd_pl0_read.specs.declared.parts.Levels.{Levels}
use Rattle.pd_pl0_read.specs.declared.parts.Keyword as declared_keyword
use Rattle.pd_pl0_read.specs.declared.parts.Keyword.TheVariants as keywords
use Rattle.pd_pl0_read.specs.declared.parts.Purpose.{Purpose}
use Rattle.pd_pl0_read.specs.declared.parts.Purpose.TheVariants as purposes
use Rattle.pd_pl0_read.specs.declared.parts.Frame.{Frame}
use Rattle.pd_pl0_read.specs.declared.parts.Frame.TheVariants as frames
use Rattle.pd_pl0_read.specs.declared.parts.Block.{Block}
use Rattle.pd_pl0_read.specs.declared.parts.Mode.TheVariants as modes
use Rattle.pd_pl0_read.specs.Entries.{Entries, inserted}
use Rattle.pd_pl0_read.specs.Resolving.{value_of, constants_declared, variables_declared, procedures_declared, slots, declared_as, resolved, meaning_of}
use Rattle.pd_pl0_read.specs.Places.{comparison, addition, multiplication, constants_end, declarations_end, end_of, statements_end, procedures_end, count, post, statement_posts, procedure_posts, program_posts}
use Rattle.pd_pl0_read.specs.Held.{Held, holding, block_of, Nodes}

-- a word without its name
abbrev pub shape : Word → declared.Word
shape (Name x) = words.Name
shape (Number n) = words.Number (value_of n)
shape (Compares o) = words.Compares (comparison o)
shape (Adds o) = words.Adds (addition o)
shape (Multiplies o) = words.Multiplies (multiplication o)
shape Becomes = words.Becomes
shape Writes = words.Writes
shape Open = words.Open
shape Close = words.Close
shape Comma = words.Comma
shape Semicolon = words.Semicolon
shape Period = words.Period
shape ConstKey = words.ConstKey
shape VarKey = words.VarKey
shape ProcedureKey = words.ProcedureKey
shape CallKey = words.CallKey
shape BeginKey = words.BeginKey
shape EndKey = words.EndKey
shape IfKey = words.IfKey
shape ThenKey = words.ThenKey
shape WhileKey = words.WhileKey
shape DoKey = words.DoKey
shape OddKey = words.OddKey

-- a word's name, if it has one
abbrev pub name_in : Word → List ℕ
name_in (Name x) = x
name_in _ = []

-- Blocks.
abbrev pub entries_of : List Declaration → Entries
entries_of [] = []
entries_of (d ∷ ds) = inserted d.name (declared_as d.kind (slots ds)) (entries_of ds)

-- the scopes at the beginning of a block, after its constants and variables, and after its procedures so far
abbrev pub around_scope : Around → Scope
around_scope Main = no_declarations
around_scope (Within x p o) = entered (declare x AProcedure (procedures_declared p.procedures (variables_declared p.variables (constants_declared p.constants (around_scope o)))))

-- the declarations in scope after the block's constants and variables
abbrev pub inner_scope : Parts → Around → Scope
inner_scope p o = variables_declared p.variables (constants_declared p.constants (around_scope o))

-- and after its procedures so far
abbrev pub parts_scope : Parts → Around → Scope
parts_scope p o = procedures_declared p.procedures (inner_scope p o)

-- the places where a block begins, and after its declarations so far
abbrev pub around_place : Around → ℕ
around_place Main = 0
around_place (Within x p o) = ((procedures_end (declarations_end (around_place o) p.constants p.variables) p.procedures + 1) + 1) + 1

-- the place after the block's declarations so far
abbrev pub parts_place : Parts → Around → ℕ
parts_place p o = procedures_end (declarations_end (around_place o) p.constants p.variables) p.procedures

-- the nodes of the procedures before those that are open
abbrev pub around_posts : Around → Nodes
around_posts Main = []
around_posts (Within x p o) = around_posts o ++ procedure_posts (inner_scope p o) (declarations_end (around_place o) p.constants p.variables) p.procedures

-- and of the whole procedures of the innermost block
abbrev pub parts_posts : Parts → Around → Nodes
parts_posts p o = around_posts o ++ procedure_posts (inner_scope p o) (declarations_end (around_place o) p.constants p.variables) p.procedures

-- the innermost block, which has this scope and so many constants, variables and procedures
abbrev pub own_block : Scope → ℕ → ℕ → ℕ → ℕ → Block
own_block s m n p i = block_of (entries_of s.own) m n p i

-- the innermost block, with these names
abbrev pub parts_block : Scope → Parts → Around → Block
parts_block s p o = own_block s (length p.constants) (length p.variables) (count p.procedures) (parts_place p o)

-- the open blocks around it
abbrev pub around_blocks : Around → List Block
around_blocks Main = []
around_blocks (Within x p o) = parts_block (declare x AProcedure (parts_scope p o)) p o ∷ around_blocks o

-- a frame for each open procedure
abbrev pub around_frames : Around → List Frame
around_frames Main = []
around_frames (Within x p o) = frames.Procedure ∷ around_frames o

-- after some constants, after some variables, and after some procedures
abbrev pub constant_blocks : List Constant → Around → ℕ → List Block
constant_blocks cs o i = own_block (constants_declared cs (around_scope o)) (length cs) 0 0 i ∷ around_blocks o

-- the open blocks, where the innermost has these constants and variables
abbrev pub variable_blocks : List Constant → List (List ℕ) → Around → List Block
variable_blocks cs vs o = own_block (variables_declared vs (constants_declared cs (around_scope o))) (length cs) (length vs) 0 (constants_end (around_place o) cs) ∷ around_blocks o

-- the open blocks, where the innermost has these parts
abbrev pub parts_blocks : Parts → Around → List Block
parts_blocks p o = parts_block (parts_scope p o) p o ∷ around_blocks o

-- Statements.
abbrev pub keyword : Keyword → declared_keyword.Keyword
keyword ForIf = keywords.If
keyword ForWhile = keywords.While

-- where the next statement begins
abbrev pub holder_place : Holder → ℕ
holder_place (InBlock p o) = parts_place p o
holder_place (InSequence ss h) = statements_end (holder_place h) ss + 1
holder_place (InBody w c h) = end_of (holder_place h + 1) c + 1

-- the declarations in scope where the statement stands
abbrev pub holder_scope : Holder → Scope
holder_scope (InBlock p o) = parts_scope p o
holder_scope (InSequence ss h) = holder_scope h
holder_scope (InBody w c h) = holder_scope h

-- the open blocks where the statement stands
abbrev pub holder_blocks : Holder → List Block
holder_blocks (InBlock p o) = parts_blocks p o
holder_blocks (InSequence ss h) = holder_blocks h
holder_blocks (InBody w c h) = holder_blocks h

-- the open frames where the statement stands
abbrev pub holder_frames : Holder → List Frame
holder_frames (InBlock p o) = around_frames o
holder_frames (InSequence ss h) = frames.Sequence (holder_place h) (count ss) ∷ holder_frames h
holder_frames (InBody w c h) = frames.Heading (keyword w) (holder_place h) ∷ holder_frames h

-- the nodes before the statement
abbrev pub holder_posts : Holder → Nodes
holder_posts (InBlock p o) = parts_posts p o
holder_posts (InSequence ss h) = holder_posts h ++ statement_posts (holder_scope h) (holder_place h) ss
holder_posts (InBody w c h) = holder_posts h ++ post (holder_scope h) (holder_place h + 1) c

-- Expressions.
abbrev pub before_of : Machine.Before → declared_before.Before
before_of Machine.Nothing = before.Nothing
before_of (Machine.Sign o) = before.Sign (addition o)
before_of (Machine.Left o a) = before.Left (addition o)

-- the operator that waits at the level of products
abbrev pub product_of : Option (Multiplying × Tree) → Option Operator
product_of None = None
product_of (Some a) = Some (multiplication a.0)

-- the places of the term and of the factor of an expression that begins at `i`
abbrev pub behind_sum : ℕ → Machine.Before → ℕ
behind_sum i Machine.Nothing = i
behind_sum i (Machine.Sign o) = i + 1
behind_sum i (Machine.Left o a) = end_of i a + 1

-- the place after what waits at the level of products
abbrev pub behind_product : ℕ → Option (Multiplying × Tree) → ℕ
behind_product i None = i
behind_product i (Some a) = end_of i a.1 + 1

-- where the term begins
abbrev pub term_place : ℕ → Waiting → ℕ
term_place i p = behind_sum i p.sum

-- where the factor begins
abbrev pub factor_place : ℕ → Waiting → ℕ
factor_place i p = behind_product (term_place i p) p.product

-- what waits, as the reader holds it
abbrev pub levels : ℕ → Waiting → Levels
levels i p = record { first = i; sum = before_of p.sum; term = term_place i p; product = product_of p.product }

-- the nodes, and those of what waits
abbrev pub with_sum : Scope → Nodes → ℕ → Machine.Before → Nodes
with_sum s ns i Machine.Nothing = ns
with_sum s ns i (Machine.Sign o) = ns
with_sum s ns i (Machine.Left o a) = ns ++ post s i a

-- the nodes, and those of what waits at the level of products
abbrev pub with_product : Scope → Nodes → ℕ → Option (Multiplying × Tree) → Nodes
with_product s ns i None = ns
with_product s ns i (Some a) = ns ++ post s i a.1

-- the nodes, and those of all that waits
abbrev pub waits : Scope → Nodes → ℕ → Waiting → Nodes
waits s ns i p = with_product s (with_sum s ns i p.sum) (term_place i p) p.product

-- the declarations in scope where the expression stands
abbrev pub stack_scope : Stack → Scope
stack_scope (AsAssigned x h) = holder_scope h
stack_scope (AsWritten h) = holder_scope h
stack_scope (AsOdd w h) = holder_scope h
stack_scope (AsLeft w h) = holder_scope h
stack_scope (AsRight w o a h) = holder_scope h
stack_scope (InParens p k) = stack_scope k

-- the open blocks where the expression stands
abbrev pub stack_blocks : Stack → List Block
stack_blocks (AsAssigned x h) = holder_blocks h
stack_blocks (AsWritten h) = holder_blocks h
stack_blocks (AsOdd w h) = holder_blocks h
stack_blocks (AsLeft w h) = holder_blocks h
stack_blocks (AsRight w o a h) = holder_blocks h
stack_blocks (InParens p k) = stack_blocks k

-- where the expression begins
abbrev pub expression_place : Stack → ℕ
expression_place (AsAssigned x h) = (holder_place h + 1) + 1
expression_place (AsWritten h) = holder_place h + 1
expression_place (AsOdd w h) = (holder_place h + 1) + 1
expression_place (AsLeft w h) = holder_place h + 1
expression_place (AsRight w o a h) = end_of (holder_place h + 1) a + 1
expression_place (InParens p k) = factor_place (expression_place k) p + 1

-- what the expression is for
abbrev pub purpose : Stack → Purpose
purpose (AsAssigned x h) = purposes.Assigned (holder_place h) (meaning_of (resolved x (holder_scope h)))
purpose (AsWritten h) = purposes.Written (holder_place h)
purpose (AsOdd w h) = purposes.Odd (holder_place h + 1)
purpose (AsLeft w h) = purposes.Left (holder_place h + 1)
purpose (AsRight w o a h) = purposes.Right (holder_place h + 1) (comparison o)
purpose (InParens p k) = purpose k

-- the nodes before the expression
abbrev pub stack_posts : Stack → Nodes
stack_posts (AsAssigned x h) = holder_posts h
stack_posts (AsWritten h) = holder_posts h
stack_posts (AsOdd w h) = holder_posts h
stack_posts (AsLeft w h) = holder_posts h
stack_posts (AsRight w o a h) = holder_posts h ++ post (holder_scope h) (holder_place h + 1) a
stack_posts (InParens p k) = waits (stack_scope k) (stack_posts k) (expression_place k) p

-- the open frames where the expression stands
abbrev pub stack_frames : Stack → List Frame
stack_frames (AsAssigned x h) = holder_frames h
stack_frames (AsWritten h) = holder_frames h
stack_frames (AsOdd w h) = frames.Heading (keyword w) (holder_place h) ∷ holder_frames h
stack_frames (AsLeft w h) = frames.Heading (keyword w) (holder_place h) ∷ holder_frames h
stack_frames (AsRight w o a h) = frames.Heading (keyword w) (holder_place h) ∷ holder_frames h
stack_frames (InParens p k) = frames.Parens (levels (expression_place k) p) ∷ stack_frames k

-- after `const` or a `,` between constants
abbrev pub constant_place : List Constant → Around → ℕ
constant_place cs o = (around_place o + 4 * length cs) + 1

-- where the next variable's name stands
abbrev pub variable_place : List Constant → List (List ℕ) → Around → ℕ
variable_place cs vs o = (constants_end (around_place o) cs + 2 * length vs) + 1

-- the nodes before the operand that comes next
abbrev pub wants_posts : Waiting → Stack → Nodes
wants_posts p k = waits (stack_scope k) (stack_posts k) (expression_place k) p

-- how many words have been taken
abbrev pub size : State → ℕ
size (BlockStart s o) = around_place o
size (BeforeConstant cs s o) = constant_place cs o
size (BeforeEqual cs x s o) = constant_place cs o + 1
size (BeforeNumber cs x s o) = (constant_place cs o + 1) + 1
size (AfterConstant cs s o) = around_place o + 4 * length cs
size (AfterConstants cs s o) = constants_end (around_place o) cs
size (BeforeVariable cs vs s o) = variable_place cs vs o
size (AfterVariable cs vs s o) = constants_end (around_place o) cs + 2 * length vs
size (AfterVariables p o) = parts_place p o
size (BeforeProcedure p o) = parts_place p o + 1
size (AfterProcedure x p o) = (parts_place p o + 1) + 1
size (BeforeStatement h) = holder_place h
size (BeforeBecomes x h) = holder_place h + 1
size (BeforeCallee h) = holder_place h + 1
size (AfterStatement a h) = end_of (holder_place h) a
size (BeforeCondition w h) = holder_place h + 1
size (BeforeExpression k) = expression_place k
size (Wants p k) = factor_place (expression_place k) p
size (Has p f k) = end_of (factor_place (expression_place k) p) f
size (Finished b) = end_of 0 b + 1

-- what the reader holds in this state of the machine
abbrev pub held : State → Held
held (BlockStart s o) = holding modes.BlockStart (around_frames o) (own_block (around_scope o) 0 0 0 (around_place o) ∷ around_blocks o) [] (around_posts o)
held (BeforeConstant cs s o) = holding modes.BeforeConstant (around_frames o) (constant_blocks cs o (around_place o)) [] (around_posts o)
held (BeforeEqual cs x s o) = holding modes.BeforeEqual (around_frames o) (constant_blocks cs o (around_place o)) x (around_posts o)
held (BeforeNumber cs x s o) = holding modes.BeforeNumber (around_frames o) (constant_blocks cs o (around_place o)) x (around_posts o)
held (AfterConstant cs s o) = holding modes.AfterConstant (around_frames o) (constant_blocks cs o (around_place o)) [] (around_posts o)
held (AfterConstants cs s o) = holding modes.AfterConstants (around_frames o) (constant_blocks cs o (constants_end (around_place o) cs)) [] (around_posts o)
held (BeforeVariable cs vs s o) = holding modes.BeforeVariable (around_frames o) (variable_blocks cs vs o) [] (around_posts o)
held (AfterVariable cs vs s o) = holding modes.AfterVariable (around_frames o) (variable_blocks cs vs o) [] (around_posts o)
held (AfterVariables p o) = holding modes.AfterVariables (around_frames o) (parts_blocks p o) [] (parts_posts p o)
held (BeforeProcedure p o) = holding modes.BeforeProcedure (frames.Procedure ∷ around_frames o) (parts_blocks p o) [] (parts_posts p o)
held (AfterProcedure x p o) = holding modes.AfterProcedure (frames.Procedure ∷ around_frames o) (around_blocks (Within x p o)) [] (parts_posts p o)
held (BeforeStatement h) = holding modes.BeforeStatement (holder_frames h) (holder_blocks h) [] (holder_posts h)
held (BeforeBecomes x h) = holding (modes.BeforeBecomes (holder_place h) (meaning_of (resolved x (holder_scope h)))) (holder_frames h) (holder_blocks h) [] (holder_posts h)
held (BeforeCallee h) = holding (modes.BeforeCallee (holder_place h)) (holder_frames h) (holder_blocks h) [] (holder_posts h)
held (AfterStatement a h) = holding modes.AfterStatement (holder_frames h) (holder_blocks h) [] (holder_posts h ++ post (holder_scope h) (holder_place h) a)
held (BeforeCondition w h) = holding modes.BeforeCondition (frames.Heading (keyword w) (holder_place h) ∷ holder_frames h) (holder_blocks h) [] (holder_posts h)
held (BeforeExpression k) = holding (modes.BeforeExpression (purpose k)) (stack_frames k) (stack_blocks k) [] (stack_posts k)
held (Wants p k) = holding (modes.Wants (purpose k) (levels (expression_place k) p)) (stack_frames k) (stack_blocks k) [] (wants_posts p k)
held (Has p f k) = holding (modes.Has (purpose k) (levels (expression_place k) p)) (stack_frames k) (stack_blocks k) [] (wants_posts p k ++ post (stack_scope k) (factor_place (expression_place k) p) f)
held (Finished b) = holding modes.Finished [] [] [] (program_posts b)

-- the same, where there is a state
abbrev pub held_option : Option State → Option Held
held_option None = None
held_option (Some s) = Some (held s)
