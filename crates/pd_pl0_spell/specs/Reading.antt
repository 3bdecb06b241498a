-- A second form of the grammar and its rules, for proofs: `reading_law` ties it to Grammar and Refusals, which decide.
-- Reading with all rules: the machine, and the rules on names and the limits at each word.
use Rattle.std.specs.Prelude.{ℕ, ◌+◌, nat_lt, Bool, true, false, List, [], ◌∷◌, length, Option, Some, None, Result, Ok, Err}
use Rattle.pd_pl0_spell.specs.Words.{Word, Number, Tree}
use Rattle.pd_pl0_spell.specs.Names.{Rule, Unexpected, LiteralTooLarge, TooDeep, TooManyNodes}
use Rattle.pd_pl0_spell.specs.Machine.{Around, Main, Within, Holder, InBlock, InSequence, InBody, Stack, AsAssigned, AsWritten, AsOdd, AsLeft, AsRight, InParens, State, BlockStart, BeforeConstant, BeforeEqual, BeforeNumber, AfterConstant, AfterConstants, BeforeVariable, AfterVariable, AfterVariables, BeforeProcedure, AfterProcedure, BeforeStatement, BeforeBecomes, BeforeCallee, AfterStatement, BeforeCondition, BeforeExpression, Wants, Has, Finished, start, step, broken, final}
use Rattle.pd_pl0_spell.specs.Refusals.{Opener, Bracket, Heading, Procedure, Opened, largest, nodes}

-- what is open around a block, from the inside
abbrev pub around_openers : Around → List Opener
around_openers Main = []
around_openers (Within x p o) = Procedure ∷ around_openers o

-- what is open around a statement
abbrev pub holder_openers : Holder → List Opener
holder_openers (InBlock p o) = around_openers o
holder_openers (InSequence ss h) = Bracket ∷ holder_openers h
holder_openers (InBody k c h) = Heading ∷ holder_openers h

-- what is open around an expression
abbrev pub stack_openers : Stack → List Opener
stack_openers (AsAssigned x h) = holder_openers h
stack_openers (AsWritten h) = holder_openers h
stack_openers (AsOdd k h) = Heading ∷ holder_openers h
stack_openers (AsLeft k h) = Heading ∷ holder_openers h
stack_openers (AsRight k o a h) = Heading ∷ holder_openers h
stack_openers (InParens p k) = Bracket ∷ stack_openers k

-- the same, in a declaration
abbrev pub declares : List Opener → Opened
declares os = record { openers = os; declaring = true }

-- the same, elsewhere
abbrev pub reads : List Opener → Opened
reads os = record { openers = os; declaring = false }

-- what a state has open
abbrev pub open_at : State → Opened
open_at (BlockStart s o) = reads (around_openers o)
open_at (BeforeConstant cs s o) = declares (around_openers o)
open_at (BeforeEqual cs x s o) = declares (around_openers o)
open_at (BeforeNumber cs x s o) = declares (around_openers o)
open_at (AfterConstant cs s o) = declares (around_openers o)
open_at (AfterConstants cs s o) = reads (around_openers o)
open_at (BeforeVariable cs vs s o) = declares (around_openers o)
open_at (AfterVariable cs vs s o) = declares (around_openers o)
open_at (AfterVariables p o) = reads (around_openers o)
open_at (BeforeProcedure p o) = declares (Procedure ∷ around_openers o)
open_at (AfterProcedure x p o) = declares (Procedure ∷ around_openers o)
open_at (BeforeStatement h) = reads (holder_openers h)
open_at (BeforeBecomes x h) = reads (holder_openers h)
open_at (BeforeCallee h) = reads (holder_openers h)
open_at (AfterStatement a h) = reads (holder_openers h)
open_at (BeforeCondition k h) = reads (Heading ∷ holder_openers h)
open_at (BeforeExpression k) = reads (stack_openers k)
open_at (Wants p k) = reads (stack_openers k)
open_at (Has p f k) = reads (stack_openers k)
open_at (Finished b) = reads []

-- the nesting
abbrev pub depth : State → ℕ
depth s = length (open_at s).openers

-- whether the word is a number of more than 64 bits
abbrev pub is_too_large : Word → Bool
is_too_large (Number v) = nat_lt largest v
is_too_large _ = false

-- the next state, or `TooDeep`
abbrev pub within_depth : Bool → State → Result State Rule
within_depth true s = Err TooDeep
within_depth false s = Ok s

-- the next state, or the first broken rule: on names, then on the nesting
abbrev pub within_names : Option Rule → State → Result State Rule
within_names (Some rule) s = Err rule
within_names None s = within_depth (nat_lt 200 (depth s)) s

-- the next state, or the first broken rule: on numbers, then on names, then on the nesting
abbrev pub within_limits : Bool → Option Rule → State → Result State Rule
within_limits true b s = Err LiteralTooLarge
within_limits false b s = within_names b s

-- the next state, or the first broken rule, where none is `Unexpected`
abbrev pub expected : Word → Option Rule → Option State → Result State Rule
expected w b None = Err Unexpected
expected w b (Some s) = within_limits (is_too_large w) b s

-- the tree, or `TooManyNodes`
abbrev pub within_room : Bool → ℕ → Tree → Result Tree (Rule × ℕ)
within_room true at T = Err (TooManyNodes, at)
within_room false at T = Ok T

-- the answer after the last word
abbrev pub at_last : ℕ → ℕ → Option Tree → Result Tree (Rule × ℕ)
at_last room at None = Err (Unexpected, at)
at_last room at (Some T) = within_room (nat_lt room (nodes T)) at T

-- the first refusal with its place, or what comes after
abbrev pub going_on : ℕ → Result State Rule → (State → Result Tree (Rule × ℕ)) → Result Tree (Rule × ℕ)
going_on at (Err rule) go = Err (rule, at)
going_on at (Ok s) go = go s

-- the answer from this state on, where so many words were read before
abbrev pub read_from : ℕ → ℕ → State → List Word → Result Tree (Rule × ℕ)
read_from room at s [] = at_last room at (final s)
read_from room at s (w ∷ ws) = going_on at (expected w (broken s w) (step s w)) (λ s'. read_from room (at + 1) s' ws)

-- the one tree that the words spell, or the first breach of a rule with its place
abbrev pub read : ℕ → List Word → Result Tree (Rule × ℕ)
read room ws = read_from room 0 start ws
