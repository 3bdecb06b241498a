-- Wherever the machine is, some words complete a program.
use Rattle.std.proofs.Common.{◌≡◌, ℕ, Bool, true, false, List, [], ◌∷◌, Some, refl, ap, ◌∙◌}
use Rattle.pd_sl_spell.specs.Words.{Word, Name, Number, Open, Close, OpenBlock, CloseBlock, Semicolon, FunctionKey, Tree, name, number, parens, call, assign, while, conditional, conditional_else, return_nothing, return, block, Trees, none, with_last, expression_statement}
use Rattle.pd_sl_spell.specs.Machine.{Waiting, whole, OfWhile, OfThen, OfElse, Keyword, ForWhile, ForIf, Around, Body, Within, Stack, AsStatement, AsValue, AsCondition, InParens, InArguments, InAssignment, State, Start, Between, AfterFunctionKey, AfterFunctionName, FirstParameter, AfterParameter, AfterComma, BeforeBody, Inside, AfterThen, AfterKey, AfterReturn, BeforeBlock, BeforeSemicolon, Wants, MayWant, Named, Callable, Has, ends, closed_block, followed, run}

-- a word that ends an expression: `;` or `)`
abbrev pub closer : Bool → Word
closer true = Semicolon
closer false = Close

-- behind the brace that closes the innermost block
abbrev pub outer : Around → List Word
outer (Body fs x xs) = []
outer (Within h ss o) = CloseBlock ∷ outer o

abbrev pub ends_by : Stack → Bool
ends_by (AsStatement ss o) = true
ends_by (AsValue ss o) = true
ends_by (AsCondition w ss o) = false
ends_by (InParens p k) = false
ends_by (InArguments p c es k) = false
ends_by (InAssignment p x k) = ends_by k

-- behind that word
abbrev pub beyond : Stack → List Word
beyond (AsStatement ss o) = CloseBlock ∷ outer o
beyond (AsValue ss o) = CloseBlock ∷ outer o
beyond (AsCondition w ss o) = OpenBlock ∷ CloseBlock ∷ CloseBlock ∷ outer o
beyond (InParens p k) = closer (ends_by k) ∷ beyond k
beyond (InArguments p c es k) = closer (ends_by k) ∷ beyond k
beyond (InAssignment p x k) = beyond k

abbrev pub closers : Stack → List Word
closers k = closer (ends_by k) ∷ beyond k

abbrev pub empty_body : List Word
empty_body = OpenBlock ∷ CloseBlock ∷ []

abbrev pub a_operand : Word
a_operand = Number 0

abbrev pub some_name : Word
some_name = Name (97 ∷ [])

abbrev pub completion : State → List Word
completion Start = FunctionKey ∷ some_name ∷ Open ∷ Close ∷ empty_body
completion (Between fs) = []
completion (AfterFunctionKey fs) = some_name ∷ Open ∷ Close ∷ empty_body
completion (AfterFunctionName fs x) = Open ∷ Close ∷ empty_body
completion (FirstParameter fs x) = Close ∷ empty_body
completion (AfterParameter fs x xs) = Close ∷ empty_body
completion (AfterComma fs x xs) = some_name ∷ Close ∷ empty_body
completion (BeforeBody fs x xs) = empty_body
completion (Inside ss o) = CloseBlock ∷ outer o
completion (AfterThen c b ss o) = CloseBlock ∷ outer o
completion (AfterKey w ss o) = Open ∷ a_operand ∷ Close ∷ OpenBlock ∷ CloseBlock ∷ CloseBlock ∷ outer o
completion (AfterReturn ss o) = Semicolon ∷ CloseBlock ∷ outer o
completion (BeforeBlock h ss o) = OpenBlock ∷ CloseBlock ∷ CloseBlock ∷ outer o
completion (BeforeSemicolon s ss o) = Semicolon ∷ CloseBlock ∷ outer o
completion (Wants p k) = a_operand ∷ closers k
completion (MayWant p c k) = Close ∷ closers k
completion (Named p x k) = closers k
completion (Callable p c k) = closers k
completion (Has p f k) = closers k

abbrev pub Accepts : State → List Word → Type 0
Accepts s ts = (T : Trees) × (run s ts ≡ Some T)

block_completed : (o : Around) (ss : Trees) → Accepts (closed_block o ss) (outer o)
block_completed (Body fs x xs) ss = (_, refl)
block_completed (Within (OfWhile c) before o) ss = block_completed o (with_last before (while c (block ss)))
block_completed (Within (OfThen c) before o) ss = block_completed o (with_last before (conditional c (block ss)))
block_completed (Within (OfElse c b) before o) ss = block_completed o (with_last before (conditional_else c b (block ss)))

-- a word that ends an expression leads on, and from there the rest completes a program
abbrev pub Ended : Stack → Tree → Type 0
Ended k e = (s : State) × (ends k e (closer (ends_by k)) ≡ Some s) × Accepts s (beyond k)

ended_run : (b : Bool) (k : Stack) (p : Waiting) (f : Tree) (ts : List Word) → (s : State) → ends k (whole p f) (closer b) ≡ Some s → Accepts s ts → Accepts (Has p f k) (closer b ∷ ts) × Accepts (Callable p f k) (closer b ∷ ts)
ended_run true k p f ts s e (T, h) = ((T, ap (λ o. followed o (λ s'. run s' ts)) e ∙ h), (T, ap (λ o. followed o (λ s'. run s' ts)) e ∙ h))
ended_run false k p f ts s e (T, h) = ((T, ap (λ o. followed o (λ s'. run s' ts)) e ∙ h), (T, ap (λ o. followed o (λ s'. run s' ts)) e ∙ h))

named_run : (b : Bool) (k : Stack) (p : Waiting) (x : List ℕ) (ts : List Word) → Accepts (Callable p (name x) k) (closer b ∷ ts) → Accepts (Named p x k) (closer b ∷ ts)
named_run true k p x ts h = h
named_run false k p x ts h = h

ended_completed : (k : Stack) (p : Waiting) (f : Tree) → Ended k (whole p f) → Accepts (Has p f k) (closers k) × Accepts (Callable p f k) (closers k)
ended_completed k p f (s, e, h) = ended_run (ends_by k) k p f (beyond k) s e h

stack_completed : (k : Stack) (e : Tree) → Ended k e
stack_completed (AsStatement ss o) e = (_, refl, block_completed o (with_last ss (expression_statement e)))
stack_completed (AsValue ss o) e = (_, refl, block_completed o (with_last ss (return e)))
stack_completed (AsCondition ForWhile ss o) e = (_, refl, block_completed (Within (OfWhile e) ss o) none)
stack_completed (AsCondition ForIf ss o) e = (_, refl, block_completed (Within (OfThen e) ss o) none)
stack_completed (InParens p k) e = (_, refl, (ended_completed k p (parens e) (stack_completed k (whole p (parens e)))).0)
stack_completed (InArguments p c es k) e = (_, refl, (ended_completed k p (call c (with_last es e)) (stack_completed k (whole p (call c (with_last es e))))).1)
stack_completed (InAssignment p x k) e = stack_completed k (whole p (assign x e))

operand_completed : (k : Stack) (p : Waiting) (f : Tree) → Accepts (Has p f k) (closers k) × Accepts (Callable p f k) (closers k)
operand_completed k p f = ended_completed k p f (stack_completed k (whole p f))

condition_completed : (w : Keyword) (ss : Trees) (o : Around) → Accepts (AfterKey w ss o) (completion (AfterKey w ss o))
condition_completed ForWhile ss o = block_completed (Within (OfWhile (number 0)) ss o) none
condition_completed ForIf ss o = block_completed (Within (OfThen (number 0)) ss o) none

pub completed : (s : State) → Accepts s (completion s)
completed Start = (_, refl)
completed (Between fs) = (_, refl)
completed (AfterFunctionKey fs) = (_, refl)
completed (AfterFunctionName fs x) = (_, refl)
completed (FirstParameter fs x) = (_, refl)
completed (AfterParameter fs x xs) = (_, refl)
completed (AfterComma fs x xs) = (_, refl)
completed (BeforeBody fs x xs) = (_, refl)
completed (Inside ss o) = block_completed o ss
completed (AfterThen c b ss o) = block_completed o (with_last ss (conditional c b))
completed (AfterKey w ss o) = condition_completed w ss o
completed (AfterReturn ss o) = block_completed o (with_last ss return_nothing)
completed (BeforeBlock h ss o) = block_completed (Within h ss o) none
completed (BeforeSemicolon s ss o) = block_completed o (with_last ss s)
completed (Wants p k) = (operand_completed k p (number 0)).0
completed (MayWant p c k) = (operand_completed k p (call c none)).1
completed (Named p x k) = named_run (ends_by k) k p x (beyond k) (operand_completed k p (name x)).1
completed (Callable p c k) = (operand_completed k p c).1
completed (Has p f k) = (operand_completed k p f).0
