-- What the words that are left must be, at each state, for a program to be spelled.
use Rattle.std.proofs.Common.{◌≡◌, ℕ, List, ◌∷◌, ◌++◌, Option, Some, None}
use Rattle.pd_sl_spell.specs.Words.{Comparing, Word, Name, Close, OpenBlock, Comma, Semicolon, FunctionKey, WhileKey, IfKey, ReturnKey, Tree, parens, call, assign, compared, while, conditional_else, return, block, function, Trees, none, also, joined, expression_statement}
use Rattle.pd_sl_spell.specs.Grammar.{NoOperator, MoreLogicTerms, MoreLogicFactors, MayCompare, MoreTerms, MoreFactors, Factor, Calls, Arguments, MoreArguments, Statements, Statement, MayElse, MoreParameters, Parameters, AFunction, MoreFunctions, Program}
use Rattle.pd_sl_spell.specs.Machine.{Waiting, OfWhile, OfThen, OfElse, Keyword, ForWhile, ForIf, head_of, Around, Body, Within, in_loop, Stack, AsStatement, AsValue, AsCondition, InParens, InArguments, InAssignment, State, Start, Between, AfterFunctionKey, AfterFunctionName, FirstParameter, AfterParameter, AfterComma, BeforeBody, Inside, AfterThen, AfterKey, AfterReturn, BeforeBlock, BeforeSemicolon, Wants, MayWant, Named, Callable, Has, either_of, both_of, sum_of, product_of}

-- what has to follow a tree
abbrev pub Cont : Type 1
Cont = Tree → List Word → Type 0

-- this word comes, and then what is said of the rest
pub data Comes (w : Word) (P : List Word → Type 0) : List Word → Type 0 where
  comes : {r : List Word} → P r → Comes w P (w ∷ r)

-- the same for a word with a value
pub data ComesWith {A : Type 0} (w : A → Word) (P : A → List Word → Type 0) : List Word → Type 0 where
  comes_with : {a : A} {r : List Word} → P a r → ComesWith w P (w a ∷ r)

-- Inside an expression.
abbrev pub AfterLogicTerm : Waiting → Cont → Cont
AfterLogicTerm p K a ts = (e : Tree) × (r : List Word) × MoreLogicTerms (either_of p.or a) ts e r × K e r

abbrev pub AfterLogicFactor : Waiting → Cont → Cont
AfterLogicFactor p K a ts = (e : Tree) × (r : List Word) × MoreLogicFactors (both_of p.and a) ts e r × AfterLogicTerm p K e r

abbrev pub AfterSide : Option (Comparing × Tree) → Cont → Cont
AfterSide None K a ts = (e : Tree) × (r : List Word) × MayCompare a ts e r × K e r
AfterSide (Some c) K a ts = K (compared c.0 c.1 a) ts

abbrev pub AfterArithmetic : Waiting → Cont → Cont
AfterArithmetic p K a ts = AfterSide p.compare (AfterLogicFactor p K) a ts

abbrev pub AfterTerm : Waiting → Cont → Cont
AfterTerm p K a ts = (e : Tree) × (r : List Word) × MoreTerms (sum_of p.sum a) ts e r × AfterArithmetic p K e r

abbrev pub AfterFactor : Waiting → Cont → Cont
AfterFactor p K a ts = (e : Tree) × (r : List Word) × MoreFactors (product_of p.product a) ts e r × AfterTerm p K e r

abbrev pub AfterCallee : Waiting → Cont → Cont
AfterCallee p K c ts = (f : Tree) × (r : List Word) × Calls c ts f r × AfterFactor p K f r

abbrev pub BeforeOperand : Waiting → Cont → List Word → Type 0
BeforeOperand p K ts = (f : Tree) × (r : List Word) × Factor ts f r × AfterFactor p K f r

-- Inside a block.
abbrev pub AfterFunction : Trees → Tree → Trees → List Word → Type 0
AfterFunction fs f T r = (more : Trees) × MoreFunctions r more × (joined fs (also f more) ≡ T)

-- the innermost block was closed, and has these statements
abbrev pub Closed : Around → Trees → Trees → List Word → Type 0
Closed (Body fs x xs) ss T r = AfterFunction fs (function x xs (block ss)) T r
Closed (Within (OfWhile c) before o) ss T r = (more : Trees) × (r' : List Word) × Statements (in_loop o) r more r' × Closed o (joined before (also (while c (block ss)) more)) T r'
Closed (Within (OfThen c) before o) ss T r = (s : Tree) × (r' : List Word) × MayElse (in_loop o) c (block ss) r s r' × ((more : Trees) × (r'' : List Word) × Statements (in_loop o) r' more r'' × Closed o (joined before (also s more)) T r'')
Closed (Within (OfElse c b) before o) ss T r = (more : Trees) × (r' : List Word) × Statements (in_loop o) r more r' × Closed o (joined before (also (conditional_else c b (block ss)) more)) T r'

-- behind this statement, which stands behind the statements before it
abbrev pub AfterStatement : Trees → Around → Trees → Cont
AfterStatement before o T s r = (more : Trees) × (r' : List Word) × Statements (in_loop o) r more r' × Closed o (joined before (also s more)) T r'

abbrev pub InBlock : Trees → Around → Trees → List Word → Type 0
InBlock ss o T ts = (more : Trees) × (r : List Word) × Statements (in_loop o) ts more r × Closed o (joined ss more) T r

-- what follows an expression at these open places
abbrev pub Follows : Stack → Trees → Cont
Follows (AsStatement ss o) T e r = Comes Semicolon (AfterStatement ss o T (expression_statement e)) r
Follows (AsValue ss o) T e r = Comes Semicolon (AfterStatement ss o T (return e)) r
Follows (AsCondition w ss o) T e r = Comes Close (Comes OpenBlock (InBlock none (Within (head_of w e) ss o) T)) r
Follows (InParens p k) T e r = Comes Close (AfterFactor p (Follows k T) (parens e)) r
Follows (InArguments p c es k) T e r = (more : Trees) × (r' : List Word) × MoreArguments r more r' × AfterCallee p (Follows k T) (call c (joined es (also e more))) r'
Follows (InAssignment p x k) T e r = NoOperator r × AfterFactor p (Follows k T) (assign x e) r

abbrev pub BodyComes : Trees → List ℕ → Trees → List (List ℕ) → List Word → Type 0
BodyComes fs x T xs r = Comes OpenBlock (InBlock none (Body fs x xs) T) r

abbrev pub word_of : Keyword → Word
word_of ForWhile = WhileKey
word_of ForIf = IfKey

-- the words that are left complete the state to this program
abbrev pub Completes : State → Trees → List Word → Type 0
Completes Start T ts = Program ts T
Completes (Between fs) T ts = (more : Trees) × MoreFunctions ts more × (joined fs more ≡ T)
Completes (AfterFunctionKey fs) T ts = (f : Tree) × (r : List Word) × AFunction (FunctionKey ∷ ts) f r × AfterFunction fs f T r
Completes (AfterFunctionName fs x) T ts = (f : Tree) × (r : List Word) × AFunction (FunctionKey ∷ Name x ∷ ts) f r × AfterFunction fs f T r
Completes (FirstParameter fs x) T ts = (xs : List (List ℕ)) × (r : List Word) × Parameters ts xs r × BodyComes fs x T xs r
Completes (AfterParameter fs x xs) T ts = (ys : List (List ℕ)) × (r : List Word) × MoreParameters ts ys r × BodyComes fs x T (xs ++ ys) r
Completes (AfterComma fs x xs) T ts = (ys : List (List ℕ)) × (r : List Word) × MoreParameters (Comma ∷ ts) ys r × BodyComes fs x T (xs ++ ys) r
Completes (BeforeBody fs x xs) T ts = BodyComes fs x T xs ts
Completes (Inside ss o) T ts = InBlock ss o T ts
Completes (AfterThen c b ss o) T ts = (s : Tree) × (r : List Word) × MayElse (in_loop o) c b ts s r × AfterStatement ss o T s r
Completes (AfterKey w ss o) T ts = (s : Tree) × (r : List Word) × Statement (in_loop o) (word_of w ∷ ts) s r × AfterStatement ss o T s r
Completes (AfterReturn ss o) T ts = (s : Tree) × (r : List Word) × Statement (in_loop o) (ReturnKey ∷ ts) s r × AfterStatement ss o T s r
Completes (BeforeBlock h ss o) T ts = Comes OpenBlock (InBlock none (Within h ss o) T) ts
Completes (BeforeSemicolon s ss o) T ts = Comes Semicolon (AfterStatement ss o T s) ts
Completes (Wants p k) T ts = BeforeOperand p (Follows k T) ts
Completes (MayWant p c k) T ts = (es : Trees) × (r : List Word) × Arguments ts es r × AfterCallee p (Follows k T) (call c es) r
Completes (Named p x k) T ts = (f : Tree) × (r : List Word) × Factor (Name x ∷ ts) f r × AfterFactor p (Follows k T) f r
Completes (Callable p c k) T ts = AfterCallee p (Follows k T) c ts
Completes (Has p f k) T ts = AfterFactor p (Follows k T) f ts
