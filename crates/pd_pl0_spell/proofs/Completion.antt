-- Wherever the machine is, some words complete a program in which the rules on names are kept.
use Rattle.std.proofs.Common.{◌≡◌, ℕ, ◌+◌, ◌<◌, Bool, true, false, if◌then◌else◌, List, [], ◌∷◌, ◌++◌, length, replicate, Decides, Option, Some, None, refl, ap, ◌∙◌, arith, bytes_eq}
use Rattle.std.proofs.lemmas.Slice.Eq.{bytes_eq-Decides}
use Rattle.std.proofs.lemmas.List.{length-replicate}
use Rattle.pd_pl0_spell.specs.Words.{Equal, Word, Name, Number, Compares, Becomes, Close, Semicolon, Period, EndKey, ThenKey, DoKey, OddKey, Constant, Tree, number, parens, odd, compared, empty, assign, call, write, sequence, block, none, with_last}
use Rattle.pd_pl0_spell.specs.Names.{Declaration, Scope, AConstant, AVariable, declare, entered, found, or_outer, found_around, Declaring, Calling, broken_declaring, broken_calling, broken_by, Rules}
use Rattle.pd_pl0_spell.specs.Machine.{Waiting, nothing, whole, Parts, block_of, with_procedure, with_name, parts_behind, Around, Main, Within, Keyword, ForIf, ForWhile, headed, Holder, InBlock, InSequence, InBody, holder_scope, Stack, AsAssigned, AsWritten, AsOdd, AsLeft, AsRight, InParens, State, BlockStart, BeforeConstant, BeforeEqual, BeforeNumber, AfterConstant, AfterConstants, BeforeVariable, AfterVariable, AfterVariables, BeforeProcedure, AfterProcedure, BeforeStatement, BeforeBecomes, BeforeCallee, AfterStatement, BeforeCondition, BeforeExpression, Wants, Has, Finished, block_ends, statement_ends, condition_ends, ends, followed}
use Rattle.pd_pl0_spell.proofs.Keeping.{kept_by, step_within, run_within}

-- A name that is longer than all that are declared is declared nowhere.
total : List Declaration → ℕ
total [] = 0
total (d ∷ ds) = length d.name + total ds

total_around : List (List Declaration) → ℕ
total_around [] = 0
total_around (ds ∷ blocks) = total ds + total_around blocks

differs_by : {P : Type 0} (r : Bool) → Decides r P → (P → ⊥) → r ≡ false
differs_by true d refutes = absurd (refutes (d.0 refl))
differs_by false d refutes = refl

absent : (x : List ℕ) (ds : List Declaration) → total ds < length x → found x ds ≡ None
unfolding total
absent x [] h = refl
absent x (d ∷ ds) h =
    let differs : bytes_eq x d.name ≡ false = differs_by (bytes_eq x d.name) (bytes_eq-Decides x d.name) (λ e. omega (arith, ap length e, h)) in
    ap (λ b. if b then Some d.kind else found x ds) differs ∙ absent x ds (omega (arith, h))

absent_around : (x : List ℕ) (blocks : List (List Declaration)) → total_around blocks < length x → found_around x blocks ≡ None
unfolding total_around
absent_around x [] h = refl
absent_around x (ds ∷ blocks) h =
    ap (λ o. or_outer o (found_around x blocks)) (absent x ds (omega (arith, h))) ∙ absent_around x blocks (omega (arith, h))

pub fresh : Scope → List ℕ
fresh s = replicate (total s.own + total_around s.around + 1) 97

fresh_length : (s : Scope) → length (fresh s) ≡ total s.own + total_around s.around + 1
unfolding fresh
fresh_length s = length-replicate (total s.own + total_around s.around + 1) 97

pub fresh_declared : (s : Scope) → broken_by Declaring s (fresh s) ≡ None
fresh_declared s = ap broken_declaring (absent (fresh s) s.own (omega (arith, fresh_length s)))

pub fresh_called : (s : Scope) → broken_by Calling s (fresh s) ≡ None
fresh_called s = ap broken_calling (ap (λ o. or_outer o (found_around (fresh s) s.around)) (absent (fresh s) s.own (omega (arith, fresh_length s))) ∙ absent_around (fresh s) s.around (omega (arith, fresh_length s)))

-- a word that ends a statement or an expression
pub data Closer : Type 0 where
  BySemicolon : Closer
  ByPeriod : Closer
  ByEnd : Closer
  ByThen : Closer
  ByDo : Closer
  ByEqual : Closer
  ByParenthesis : Closer

abbrev pub word_of : Closer → Word
word_of BySemicolon = Semicolon
word_of ByPeriod = Period
word_of ByEnd = EndKey
word_of ByThen = ThenKey
word_of ByDo = DoKey
word_of ByEqual = Compares Equal
word_of ByParenthesis = Close

-- What ends a block, and what comes behind that.
abbrev pub block_closer : Around → Closer
block_closer Main = ByPeriod
block_closer (Within x p o) = BySemicolon

abbrev pub beyond_block : Around → List Word
beyond_block Main = []
beyond_block (Within x p o) = word_of (block_closer o) ∷ beyond_block o

abbrev pub outer : Around → List Word
outer o = word_of (block_closer o) ∷ beyond_block o

-- the same for a statement
abbrev pub statement_closer : Holder → Closer
statement_closer (InBlock p o) = block_closer o
statement_closer (InSequence ss h) = ByEnd
statement_closer (InBody k c h) = statement_closer h

abbrev pub beyond_statement : Holder → List Word
beyond_statement (InBlock p o) = beyond_block o
beyond_statement (InSequence ss h) = word_of (statement_closer h) ∷ beyond_statement h
beyond_statement (InBody k c h) = beyond_statement h

abbrev pub rest : Holder → List Word
rest h = word_of (statement_closer h) ∷ beyond_statement h

abbrev pub condition_closer : Keyword → Closer
condition_closer ForIf = ByThen
condition_closer ForWhile = ByDo

-- the same for an expression
abbrev pub closer : Stack → Closer
closer (AsAssigned x h) = statement_closer h
closer (AsWritten h) = statement_closer h
closer (AsOdd k h) = condition_closer k
closer (AsLeft k h) = ByEqual
closer (AsRight k o a h) = condition_closer k
closer (InParens p k) = ByParenthesis

abbrev pub beyond : Stack → List Word
beyond (AsAssigned x h) = beyond_statement h
beyond (AsWritten h) = beyond_statement h
beyond (AsOdd k h) = rest h
beyond (AsLeft k h) = Number 0 ∷ word_of (condition_closer k) ∷ rest h
beyond (AsRight k o a h) = rest h
beyond (InParens p k) = word_of (closer k) ∷ beyond k

abbrev pub closers : Stack → List Word
closers k = word_of (closer k) ∷ beyond k

abbrev pub completion : State → List Word
completion (BlockStart s o) = outer o
completion (BeforeConstant cs s o) = Name (fresh s) ∷ Compares Equal ∷ Number 0 ∷ Semicolon ∷ outer o
completion (BeforeEqual cs x s o) = Compares Equal ∷ Number 0 ∷ Semicolon ∷ outer o
completion (BeforeNumber cs x s o) = Number 0 ∷ Semicolon ∷ outer o
completion (AfterConstant cs s o) = Semicolon ∷ outer o
completion (AfterConstants cs s o) = outer o
completion (BeforeVariable cs vs s o) = Name (fresh s) ∷ Semicolon ∷ outer o
completion (AfterVariable cs vs s o) = Semicolon ∷ outer o
completion (AfterVariables p o) = outer o
completion (BeforeProcedure p o) = Name (fresh p.scope) ∷ Semicolon ∷ Semicolon ∷ outer o
completion (AfterProcedure x p o) = Semicolon ∷ Semicolon ∷ outer o
completion (BeforeStatement h) = rest h
completion (BeforeBecomes x h) = Becomes ∷ Number 0 ∷ rest h
completion (BeforeCallee h) = Name (fresh (holder_scope h)) ∷ rest h
completion (AfterStatement a h) = rest h
completion (BeforeCondition k h) = OddKey ∷ Number 0 ∷ word_of (condition_closer k) ∷ rest h
completion (BeforeExpression k) = Number 0 ∷ closers k
completion (Wants p k) = Number 0 ∷ closers k
completion (Has p f k) = closers k
completion (Finished b) = []

module _ (n : Rules) where
  abbrev pub Accepts : State → List Word → Type 0
  Accepts s ts = (T : Tree) × (run_within n s ts ≡ Some T)

  -- a word that leads to a state from which the rest completes a program
  abbrev pub Ended : Option State → List Word → Type 0
  Ended o ts = (s : State) × (o ≡ Some s) × Accepts s ts

  ended_by : (s : State) (w : Word) (ts : List Word) → Ended (step_within n s w) ts → Accepts s (w ∷ ts)
  ended_by s w ts (s', e, (T, h)) = (T, ap (λ o. followed o (λ u. run_within n u ts)) e ∙ h)

  passed : (o o' : Option State) (ts : List Word) → o ≡ o' → Ended o' ts → Ended o ts
  passed o o' ts e (s, g, h) = (s, e ∙ g, h)

  -- A word that ends a statement ends an empty one too, wherever a statement may stand.
  at_block_start : (s : Scope) (o : Around) (c : Around) → step_within n (BlockStart s o) (word_of (block_closer c)) ≡ block_ends o (block [] [] none empty) (word_of (block_closer c))
  at_block_start s o Main = refl
  at_block_start s o (Within x p c) = refl

  after_constants : (cs : List Constant) (s : Scope) (o : Around) (c : Around) → step_within n (AfterConstants cs s o) (word_of (block_closer c)) ≡ block_ends o (block cs [] none empty) (word_of (block_closer c))
  after_constants cs s o Main = refl
  after_constants cs s o (Within x p c) = refl

  after_variables : (p : Parts) (o : Around) (c : Around) → step_within n (AfterVariables p o) (word_of (block_closer c)) ≡ block_ends o (block_of p empty) (word_of (block_closer c))
  after_variables p o Main = refl
  after_variables p o (Within x q c) = refl

  -- Blocks.
  block_ended : (o : Around) (b : Tree) → Ended (block_ends o b (word_of (block_closer o))) (beyond_block o)
  block_ended Main b = (_, refl, (b, refl))
  block_ended (Within x q o) b = (_, refl, ended_by (AfterVariables (with_procedure q x b) o) (word_of (block_closer o)) (beyond_block o) (passed _ _ (beyond_block o) (after_variables (with_procedure q x b) o o) (block_ended o (block_of (with_procedure q x b) empty))))

  block_completed : (s : Scope) (o : Around) → Accepts (BlockStart s o) (outer o)
  block_completed s o = ended_by (BlockStart s o) (word_of (block_closer o)) (beyond_block o) (passed _ _ (beyond_block o) (at_block_start s o o) (block_ended o (block [] [] none empty)))

  constants_completed : (cs : List Constant) (s : Scope) (o : Around) → Accepts (AfterConstants cs s o) (outer o)
  constants_completed cs s o = ended_by (AfterConstants cs s o) (word_of (block_closer o)) (beyond_block o) (passed _ _ (beyond_block o) (after_constants cs s o o) (block_ended o (block cs [] none empty)))

  variables_completed : (p : Parts) (o : Around) → Accepts (AfterVariables p o) (outer o)
  variables_completed p o = ended_by (AfterVariables p o) (word_of (block_closer o)) (beyond_block o) (passed _ _ (beyond_block o) (after_variables p o o) (block_ended o (block_of p empty)))

  -- Statements.
  statement_ended : (h : Holder) (a : Tree) → Ended (statement_ends h a (word_of (statement_closer h))) (beyond_statement h)
  statement_ended (InBlock p o) a = block_ended o (block_of p a)
  statement_ended (InSequence ss h) a = (_, refl, ended_by (AfterStatement (sequence (with_last ss a)) h) (word_of (statement_closer h)) (beyond_statement h) (passed _ _ (beyond_statement h) (behind (statement_closer h)) (statement_ended h (sequence (with_last ss a)))))
    where
      behind : (c : Closer) → step_within n (AfterStatement (sequence (with_last ss a)) h) (word_of c) ≡ statement_ends h (sequence (with_last ss a)) (word_of c)
      behind c = refl
  statement_ended (InBody k c h) a = statement_ended h (headed k c a)

  after_completed : (a : Tree) (h : Holder) → Accepts (AfterStatement a h) (rest h)
  after_completed a h = ended_by (AfterStatement a h) (word_of (statement_closer h)) (beyond_statement h) (statement_ended h a)

  empty_ends : (h : Holder) (c : Closer) → step_within n (BeforeStatement h) (word_of c) ≡ statement_ends h empty (word_of c)
  empty_ends h BySemicolon = refl
  empty_ends h _ = refl

  statement_completed : (h : Holder) → Accepts (BeforeStatement h) (rest h)
  statement_completed h = ended_by (BeforeStatement h) (word_of (statement_closer h)) (beyond_statement h) (passed _ _ (beyond_statement h) (empty_ends h (statement_closer h)) (statement_ended h empty))

  -- Expressions.
  has_ends : (p : Waiting) (f : Tree) (k : Stack) (c : Closer) → step_within n (Has p f k) (word_of c) ≡ ends k (whole p f) (word_of c)
  has_ends p f k BySemicolon = refl
  has_ends p f k _ = refl

  has_completed : (p : Waiting) (f : Tree) (k : Stack) → Ended (ends k (whole p f) (word_of (closer k))) (beyond k) → Accepts (Has p f k) (closers k)
  has_completed p f k h = ended_by (Has p f k) (word_of (closer k)) (beyond k) (passed _ _ (beyond k) (has_ends p f k (closer k)) h)

  condition_ended : (k : Keyword) (h : Holder) (c : Tree) → Ended (condition_ends k h c (word_of (condition_closer k))) (rest h)
  condition_ended ForIf h c = (_, refl, statement_completed (InBody ForIf c h))
  condition_ended ForWhile h c = (_, refl, statement_completed (InBody ForWhile c h))

  expression_ended : (k : Stack) (e : Tree) → Ended (ends k e (word_of (closer k))) (beyond k)
  expression_ended (AsAssigned x h) e = statement_ended h (assign x e)
  expression_ended (AsWritten h) e = statement_ended h (write e)
  expression_ended (AsOdd k h) e = condition_ended k h (odd e)
  expression_ended (AsLeft k h) e = (_, refl, has_completed nothing (number 0) (AsRight k Equal e h) (condition_ended k h (compared Equal e (number 0))))
  expression_ended (AsRight k o a h) e = condition_ended k h (compared o a e)
  expression_ended (InParens p k) e = (_, refl, has_completed p (parens e) k (expression_ended k (whole p (parens e))))

  operand_completed : (p : Waiting) (f : Tree) (k : Stack) → Accepts (Has p f k) (closers k)
  operand_completed p f k = has_completed p f k (expression_ended k (whole p f))

  number_completed : (k : Stack) → Accepts (BeforeExpression k) (Number 0 ∷ closers k)
  number_completed k = operand_completed nothing (number 0) k

  pub completed : (s : State) → Accepts s (completion s)
  completed (BlockStart s o) = block_completed s o
  completed (BeforeConstant cs s o) =
      ended_by (BeforeConstant cs s o) (Name (fresh s)) (Compares Equal ∷ Number 0 ∷ Semicolon ∷ outer o) (_, ap (λ b. kept_by n b (Some (BeforeEqual cs (fresh s) s o))) (fresh_declared s), constants_completed (cs ++ record { name = fresh s; value = 0 } ∷ []) (declare (fresh s) (AConstant 0) s) o)
  completed (BeforeEqual cs x s o) = constants_completed (cs ++ record { name = x; value = 0 } ∷ []) (declare x (AConstant 0) s) o
  completed (BeforeNumber cs x s o) = constants_completed (cs ++ record { name = x; value = 0 } ∷ []) (declare x (AConstant 0) s) o
  completed (AfterConstant cs s o) = constants_completed cs s o
  completed (AfterConstants cs s o) = constants_completed cs s o
  completed (BeforeVariable cs vs s o) =
      ended_by (BeforeVariable cs vs s o) (Name (fresh s)) (Semicolon ∷ outer o) (_, ap (λ b. kept_by n b (Some (AfterVariable cs (vs ++ fresh s ∷ []) (declare (fresh s) AVariable s) o))) (fresh_declared s), variables_completed (parts_behind cs (vs ++ fresh s ∷ []) (declare (fresh s) AVariable s)) o)
  completed (AfterVariable cs vs s o) = variables_completed (parts_behind cs vs s) o
  completed (AfterVariables p o) = variables_completed p o
  completed (BeforeProcedure p o) =
      ended_by (BeforeProcedure p o) (Name (fresh p.scope)) (Semicolon ∷ Semicolon ∷ outer o) (_, ap (λ b. kept_by n b (Some (AfterProcedure (fresh p.scope) (with_name p (fresh p.scope)) o))) (fresh_declared p.scope), block_completed (entered (with_name p (fresh p.scope)).scope) (Within (fresh p.scope) (with_name p (fresh p.scope)) o))
  completed (AfterProcedure x p o) = block_completed (entered p.scope) (Within x p o)
  completed (BeforeStatement h) = statement_completed h
  completed (BeforeBecomes x h) = number_completed (AsAssigned x h)
  completed (BeforeCallee h) =
      ended_by (BeforeCallee h) (Name (fresh (holder_scope h))) (rest h) (_, ap (λ b. kept_by n b (Some (AfterStatement (call (fresh (holder_scope h))) h))) (fresh_called (holder_scope h)), after_completed (call (fresh (holder_scope h))) h)
  completed (AfterStatement a h) = after_completed a h
  completed (BeforeCondition k h) = number_completed (AsOdd k h)
  completed (BeforeExpression k) = number_completed k
  completed (Wants p k) = operand_completed p (number 0) k
  completed (Has p f k) = operand_completed p f k
  completed (Finished b) = (b, refl)
