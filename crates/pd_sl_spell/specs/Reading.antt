-- A second form of the grammar and its rules, for proofs: `reading_law` ties it to Grammar and Refusals, which decide.
-- Reading with all rules: the machine, and the limits at each word.
use Rattle.std.specs.Prelude.{ℕ, ◌+◌, nat_lt, Bool, true, false, List, [], ◌∷◌, length, Option, Some, None, Result, Ok, Err}
use Rattle.pd_sl_spell.specs.Words.{Word, Number, Trees}
use Rattle.pd_sl_spell.specs.Machine.{Around, Body, Within, Stack, AsStatement, AsValue, AsCondition, InParens, InArguments, InAssignment, State, Start, FirstParameter, AfterParameter, AfterComma, Inside, AfterThen, AfterKey, AfterReturn, BeforeBlock, BeforeSemicolon, Wants, MayWant, Named, Callable, Has, step, final}
use Rattle.pd_sl_spell.specs.Refusals.{Rule, Unexpected, LiteralTooLarge, TooDeep, TooManyNodes, Opener, Bracket, Assignment, largest, all_nodes}

-- what is open around a block, from the inside
abbrev pub around_openers : Around → List Opener
around_openers (Body fs x xs) = Bracket ∷ []
around_openers (Within h ss o) = Bracket ∷ around_openers o

-- what is open around an expression
abbrev pub stack_openers : Stack → List Opener
stack_openers (AsStatement ss o) = around_openers o
stack_openers (AsValue ss o) = around_openers o
stack_openers (AsCondition w ss o) = Bracket ∷ around_openers o
stack_openers (InParens p k) = Bracket ∷ stack_openers k
stack_openers (InArguments p c es k) = Bracket ∷ stack_openers k
stack_openers (InAssignment p x k) = Assignment ∷ stack_openers k

-- what a state has open
abbrev pub openers : State → List Opener
openers (FirstParameter fs x) = Bracket ∷ []
openers (AfterParameter fs x xs) = Bracket ∷ []
openers (AfterComma fs x xs) = Bracket ∷ []
openers (Inside ss o) = around_openers o
openers (AfterThen c b ss o) = around_openers o
openers (AfterKey w ss o) = around_openers o
openers (AfterReturn ss o) = around_openers o
openers (BeforeBlock h ss o) = around_openers o
openers (BeforeSemicolon s ss o) = around_openers o
openers (Wants p k) = stack_openers k
openers (MayWant p c k) = Bracket ∷ stack_openers k
openers (Named p x k) = stack_openers k
openers (Callable p c k) = stack_openers k
openers (Has p f k) = stack_openers k
openers _ = []

-- whether the word is a number of more than 64 bits
abbrev pub is_too_large : Word → Bool
is_too_large (Number n) = nat_lt largest n
is_too_large _ = false

-- the next state, or `TooDeep`
abbrev pub within_depth : Bool → State → Result State Rule
within_depth true s = Err TooDeep
within_depth false s = Ok s

-- the next state, or the first broken rule: on numbers, then on the nesting
abbrev pub within_limits : Bool → State → Result State Rule
within_limits true s = Err LiteralTooLarge
within_limits false s = within_depth (nat_lt 200 (length (openers s))) s

-- the next state, or the first broken rule, where none is `Unexpected`
abbrev pub expected : Word → Option State → Result State Rule
expected w None = Err Unexpected
expected w (Some s) = within_limits (is_too_large w) s

-- the trees, or `TooManyNodes`
abbrev pub within_room : Bool → ℕ → Trees → Result Trees (Rule × ℕ)
within_room true at T = Err (TooManyNodes, at)
within_room false at T = Ok T

-- the answer after the last word
abbrev pub at_last : ℕ → ℕ → Option Trees → Result Trees (Rule × ℕ)
at_last room at None = Err (Unexpected, at)
at_last room at (Some T) = within_room (nat_lt room (all_nodes T)) at T

-- the first refusal with its place, or what comes after
abbrev pub going_on : ℕ → Result State Rule → (State → Result Trees (Rule × ℕ)) → Result Trees (Rule × ℕ)
going_on at (Err rule) go = Err (rule, at)
going_on at (Ok s) go = go s

-- the answer from this state on, where so many words were read before
abbrev pub read_from : ℕ → ℕ → State → List Word → Result Trees (Rule × ℕ)
read_from room at s [] = at_last room at (final s)
read_from room at s (w ∷ ws) = going_on at (expected w (step s w)) (λ s'. read_from room (at + 1) s' ws)

-- the one tree that the words spell, or the first breach of a rule with its place
abbrev pub read : ℕ → List Word → Result Trees (Rule × ℕ)
read room ws = read_from room 0 Start ws
