-- What the words that are left must be, at each state, for a program to be spelled.
use Rattle.std.proofs.Common.{◌≡◌, ℕ, List, [], ◌∷◌, ◌++◌}
use Rattle.pd_pl0_spell.specs.Words.{Equal, Word, Name, Number, Compares, Becomes, Close, Comma, Semicolon, Period, ThenKey, DoKey, Constant, Tree, parens, odd, compared, assign, call, write, sequence, block, Trees, also, joined}
use Rattle.pd_pl0_spell.specs.Names.{AConstant, Scope, declare, entered, Declaring, Calling, broken_by, Rules, Keeps}
use Rattle.pd_pl0_spell.specs.Grammar.{Expression, MoreTerms, Factor, MoreFactors, Condition, Statement, MoreStatements, MoreConstants, Constants, MoreVariables, Variables, Procedures}
use Rattle.pd_pl0_spell.specs.Machine.{Waiting, sum_of, product_of, Parts, block_of, with_procedure, with_name, parts_behind, Around, Main, Within, Keyword, ForIf, ForWhile, headed, Holder, InBlock, InSequence, InBody, holder_scope, Stack, AsAssigned, AsWritten, AsOdd, AsLeft, AsRight, InParens, stack_scope, State, BlockStart, BeforeConstant, BeforeEqual, BeforeNumber, AfterConstant, AfterConstants, BeforeVariable, AfterVariable, AfterVariables, BeforeProcedure, AfterProcedure, BeforeStatement, BeforeBecomes, BeforeCallee, AfterStatement, BeforeCondition, BeforeExpression, Wants, Has, Finished}

-- what has to follow a tree
abbrev pub Cont : Type 1
Cont = Tree → List Word → Type 0

-- this word comes, and then what is said of the rest
pub data Comes (w : Word) (P : List Word → Type 0) : List Word → Type 0 where
  comes : {r : List Word} → P r → Comes w P (w ∷ r)

-- the same for a word with a value
pub data ComesWith {A : Type 0} (w : A → Word) (P : A → List Word → Type 0) : List Word → Type 0 where
  comes_with : {a : A} {r : List Word} → P a r → ComesWith w P (w a ∷ r)

-- no word is left
pub data AtEnd (A : Type 0) : List Word → Type 0 where
  at_the_end : A → AtEnd A []

module _ (n : Rules) where
  -- Inside an expression.
  abbrev pub AfterTerm : Scope → Waiting → Cont → Cont
  AfterTerm s p K a ts = (e : Tree) × (r : List Word) × MoreTerms n s (sum_of p.sum a) ts e r × K e r

  abbrev pub AfterFactor : Scope → Waiting → Cont → Cont
  AfterFactor s p K a ts = (e : Tree) × (r : List Word) × MoreFactors n s (product_of p.product a) ts e r × AfterTerm s p K e r

  abbrev pub BeforeOperand : Scope → Waiting → Cont → List Word → Type 0
  BeforeOperand s p K ts = (f : Tree) × (r : List Word) × Factor n s ts f r × AfterFactor s p K f r

  abbrev pub ExpressionThen : Scope → Cont → List Word → Type 0
  ExpressionThen s K ts = (e : Tree) × (r : List Word) × Expression n s ts e r × K e r

  -- behind this tree of the innermost block
  abbrev pub FollowsBlock : Around → Tree → Cont
  FollowsBlock Main T b ts = Comes Period (AtEnd (b ≡ T)) ts
  FollowsBlock (Within x q o) T b ts = Comes Semicolon (λ r. (ps : Trees) × (s : Scope) × (r' : List Word) × Procedures n q.scope r ps s r' × ((a : Tree) × (r'' : List Word) × Statement n s r' a r'' × FollowsBlock o T (block q.constants q.variables (joined (with_procedure q x b).procedures ps) a) r'')) ts

  -- the statement of a block, behind its procedures
  abbrev pub StatementOf : Parts → Trees → Scope → Around → Tree → List Word → Type 0
  StatementOf p ps s o T ts = (a : Tree) × (r : List Word) × Statement n s ts a r × FollowsBlock o T (block p.constants p.variables (joined p.procedures ps) a) r

  -- what a block may go on with
  abbrev pub InProcedures : Parts → Around → Tree → List Word → Type 0
  InProcedures p o T ts = (ps : Trees) × (s : Scope) × (r : List Word) × Procedures n p.scope ts ps s r × StatementOf p ps s o T r

  abbrev pub InVariables : List Constant → Scope → Around → Tree → List Word → Type 0
  InVariables cs s o T ts = (vs : List (List ℕ)) × (s' : Scope) × (r : List Word) × Variables n s ts vs s' r × InProcedures (parts_behind cs vs s') o T r

  abbrev pub InConstants : Scope → Around → Tree → List Word → Type 0
  InConstants s o T ts = (cs : List Constant) × (s' : Scope) × (r : List Word) × Constants n s ts cs s' r × InVariables cs s' o T r

  abbrev pub MoreConstantsThen : List Constant → Scope → Around → Tree → List Word → Type 0
  MoreConstantsThen cs s o T ts = (more : List Constant) × (s' : Scope) × (r : List Word) × MoreConstants n s ts more s' r × InVariables (cs ++ more) s' o T r

  abbrev pub MoreVariablesThen : List Constant → List (List ℕ) → Scope → Around → Tree → List Word → Type 0
  MoreVariablesThen cs vs s o T ts = (more : List (List ℕ)) × (s' : Scope) × (r : List Word) × MoreVariables n s ts more s' r × InProcedures (parts_behind cs (vs ++ more) s') o T r

  -- behind this statement
  abbrev pub FollowsStatement : Holder → Tree → Cont
  FollowsStatement (InBlock p o) T a ts = FollowsBlock o T (block_of p a) ts
  FollowsStatement (InSequence ss h) T a ts = (more : Trees) × (r : List Word) × MoreStatements n (holder_scope h) ts more r × FollowsStatement h T (sequence (joined ss (also a more))) r
  FollowsStatement (InBody k c h) T a ts = FollowsStatement h T (headed k c a) ts

  abbrev pub StatementThen : Holder → Tree → List Word → Type 0
  StatementThen h T ts = (a : Tree) × (r : List Word) × Statement n (holder_scope h) ts a r × FollowsStatement h T a r

  abbrev pub word_behind : Keyword → Word
  word_behind ForIf = ThenKey
  word_behind ForWhile = DoKey

  abbrev pub FollowsCondition : Keyword → Holder → Tree → Cont
  FollowsCondition k h T c ts = Comes (word_behind k) (StatementThen (InBody k c h) T) ts

  -- what follows an expression at these open places
  abbrev pub Follows : Stack → Tree → Cont
  Follows (AsAssigned x h) T e ts = FollowsStatement h T (assign x e) ts
  Follows (AsWritten h) T e ts = FollowsStatement h T (write e) ts
  Follows (AsOdd k h) T e ts = FollowsCondition k h T (odd e) ts
  Follows (AsLeft k h) T e ts = ComesWith Compares (λ o. ExpressionThen (holder_scope h) (λ b. FollowsCondition k h T (compared o e b))) ts
  Follows (AsRight k o a h) T e ts = FollowsCondition k h T (compared o a e) ts
  Follows (InParens p k) T e ts = Comes Close (AfterFactor (stack_scope k) p (Follows k T) (parens e)) ts

  -- the words that are left complete the state to this program
  abbrev pub Completes : State → Tree → List Word → Type 0
  Completes (BlockStart s o) T ts = InConstants s o T ts
  Completes (BeforeConstant cs s o) T ts = MoreConstantsThen cs s o T (Comma ∷ ts)
  Completes (BeforeEqual cs x s o) T ts = Comes (Compares Equal) (ComesWith Number (λ v. MoreConstantsThen (cs ++ record { name = x; value = v } ∷ []) (declare x (AConstant v) s) o T)) ts
  Completes (BeforeNumber cs x s o) T ts = ComesWith Number (λ v. MoreConstantsThen (cs ++ record { name = x; value = v } ∷ []) (declare x (AConstant v) s) o T) ts
  Completes (AfterConstant cs s o) T ts = MoreConstantsThen cs s o T ts
  Completes (AfterConstants cs s o) T ts = InVariables cs s o T ts
  Completes (BeforeVariable cs vs s o) T ts = MoreVariablesThen cs vs s o T (Comma ∷ ts)
  Completes (AfterVariable cs vs s o) T ts = MoreVariablesThen cs vs s o T ts
  Completes (AfterVariables p o) T ts = InProcedures p o T ts
  Completes (BeforeProcedure p o) T ts = ComesWith Name (λ x r. Keeps n (broken_by Declaring p.scope x) × Comes Semicolon (InConstants (entered (with_name p x).scope) (Within x (with_name p x) o) T) r) ts
  Completes (AfterProcedure x p o) T ts = Comes Semicolon (InConstants (entered p.scope) (Within x p o) T) ts
  Completes (BeforeStatement h) T ts = StatementThen h T ts
  Completes (BeforeBecomes x h) T ts = Comes Becomes (ExpressionThen (holder_scope h) (λ e. FollowsStatement h T (assign x e))) ts
  Completes (BeforeCallee h) T ts = ComesWith Name (λ x r. Keeps n (broken_by Calling (holder_scope h) x) × FollowsStatement h T (call x) r) ts
  Completes (AfterStatement a h) T ts = FollowsStatement h T a ts
  Completes (BeforeCondition k h) T ts = (c : Tree) × (r : List Word) × Condition n (holder_scope h) ts c r × FollowsCondition k h T c r
  Completes (BeforeExpression k) T ts = ExpressionThen (stack_scope k) (Follows k T) ts
  Completes (Wants p k) T ts = BeforeOperand (stack_scope k) p (Follows k T) ts
  Completes (Has p f k) T ts = AfterFactor (stack_scope k) p (Follows k T) f ts
  Completes (Finished b) T ts = AtEnd (b ≡ T) ts
