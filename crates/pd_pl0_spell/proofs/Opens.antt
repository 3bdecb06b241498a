-- What is open behind a word is what the state has open.
use Rattle.std.proofs.Common.{◌≡◌, Bool, true, false, List, [], ◌∷◌, Option, Some, None, refl, sym, ap, ◌∙◌, subst}
use Rattle.pd_pl0_spell.specs.Words.{Equal, Word, Name, Number, Compares, Adds, Multiplies, Becomes, Writes, Open, Close, Comma, Semicolon, Period, ConstKey, VarKey, ProcedureKey, CallKey, BeginKey, EndKey, IfKey, ThenKey, WhileKey, DoKey, OddKey, Constant, Tree, odd, compared, empty, assign, write}
use Rattle.pd_pl0_spell.specs.Names.{Rule, Scope, Rules}
use Rattle.pd_pl0_spell.specs.Machine.{Waiting, nothing, whole, Parts, block_of, parts_behind, Around, Main, Within, Keyword, ForIf, ForWhile, headed, Holder, InBlock, InSequence, InBody, Stack, AsAssigned, AsWritten, AsOdd, AsLeft, AsRight, InParens, State, BlockStart, BeforeConstant, BeforeEqual, BeforeNumber, AfterConstant, AfterConstants, BeforeVariable, AfterVariable, AfterVariables, BeforeProcedure, AfterProcedure, BeforeStatement, BeforeBecomes, BeforeCallee, AfterStatement, BeforeCondition, BeforeExpression, Wants, Has, block_ends, statement_ends, condition_ends, ends, after_operand, operand, expression, statement, procedures, variables, constants, step, broken, followed}
use Rattle.pd_pl0_spell.specs.Refusals.{Opener, Heading, Opened, opened, opened_behind}
use Rattle.pd_pl0_spell.specs.Reading.{around_openers, holder_openers, stack_openers, reads, open_at}
use Rattle.pd_pl0_spell.proofs.Keeping.{kept, kept_by, step_within, walk_within, none_is_not_some, some_same}
use Rattle.pd_pl0_spell.proofs.Forward.{is_ender, statement_goes_on}

abbrev pub Opens : Opened → Word → Option State → Type 0
Opens os w None = Unit {0}
Opens os w (Some s) = opened os w ≡ open_at s

opens_none : (os : Opened) (w : Word) (o : Option State) → o ≡ None → Opens os w o
opens_none os w o e = subst (λ x. Opens os w x) (sym e) tt

block_ends_opens : (o : Around) (b : Tree) (w : Word) → Opens (reads (around_openers o)) w (block_ends o b w)
block_ends_opens Main b Period = refl
block_ends_opens Main b _ = tt
block_ends_opens (Within x q o) b Semicolon = refl
block_ends_opens (Within x q o) b _ = tt

-- the word that ends the statement inside an `if` or `while` ends this too
heading_ends : (os : List Opener) (w : Word) (r : Option State) → opened (reads (Heading ∷ os)) w ≡ opened (reads os) w → Opens (reads os) w r → Opens (reads (Heading ∷ os)) w r
heading_ends os w None e h = h
heading_ends os w (Some s) e h = e ∙ h

statement_ends_opens : (h : Holder) (a : Tree) (w : Word) → Opens (reads (holder_openers h)) w (statement_ends h a w)
unfolding is_ender
statement_ends_opens (InBlock p o) a w = block_ends_opens o (block_of p a) w
statement_ends_opens (InSequence ss h) a Semicolon = refl
statement_ends_opens (InSequence ss h) a EndKey = refl
statement_ends_opens (InSequence ss h) a _ = tt
statement_ends_opens (InBody k c h) a Semicolon = heading_ends (holder_openers h) Semicolon (statement_ends h (headed k c a) Semicolon) refl (statement_ends_opens h (headed k c a) Semicolon)
statement_ends_opens (InBody k c h) a EndKey = heading_ends (holder_openers h) EndKey (statement_ends h (headed k c a) EndKey) refl (statement_ends_opens h (headed k c a) EndKey)
statement_ends_opens (InBody k c h) a Period = heading_ends (holder_openers h) Period (statement_ends h (headed k c a) Period) refl (statement_ends_opens h (headed k c a) Period)
statement_ends_opens (InBody k c h) a w = opens_none (reads (Heading ∷ holder_openers h)) w (statement_ends h (headed k c a) w) (statement_goes_on h (headed k c a) w refl)

condition_ends_opens : (k : Keyword) (h : Holder) (c : Tree) (w : Word) → Opens (reads (Heading ∷ holder_openers h)) w (condition_ends k h c w)
condition_ends_opens ForIf h c ThenKey = refl
condition_ends_opens ForIf h c _ = tt
condition_ends_opens ForWhile h c DoKey = refl
condition_ends_opens ForWhile h c _ = tt

ends_opens : (k : Stack) (e : Tree) (w : Word) → Opens (reads (stack_openers k)) w (ends k e w)
ends_opens (AsAssigned x h) e w = statement_ends_opens h (assign x e) w
ends_opens (AsWritten h) e w = statement_ends_opens h (write e) w
ends_opens (AsOdd k h) e w = condition_ends_opens k h (odd e) w
ends_opens (AsLeft k h) e (Compares o) = refl
ends_opens (AsLeft k h) e _ = tt
ends_opens (AsRight k o a h) e w = condition_ends_opens k h (compared o a e) w
ends_opens (InParens p k) e Close = refl
ends_opens (InParens p k) e _ = tt

after_opens : (p : Waiting) (f : Tree) (k : Stack) (w : Word) → Opens (reads (stack_openers k)) w (after_operand p f k w)
after_opens p f k (Adds o) = refl
after_opens p f k (Multiplies o) = refl
after_opens p f k w = ends_opens k (whole p f) w

operand_opens : (p : Waiting) (k : Stack) (w : Word) → Opens (reads (stack_openers k)) w (operand p k w)
operand_opens p k (Name x) = refl
operand_opens p k (Number v) = refl
operand_opens p k Open = refl
operand_opens p k _ = tt

expression_opens : (k : Stack) (w : Word) → Opens (reads (stack_openers k)) w (expression k w)
expression_opens k (Adds o) = refl
expression_opens k w = operand_opens nothing k w

statement_opens : (h : Holder) (w : Word) → Opens (reads (holder_openers h)) w (statement h w)
statement_opens h (Name x) = refl
statement_opens h CallKey = refl
statement_opens h Writes = refl
statement_opens h BeginKey = refl
statement_opens h IfKey = refl
statement_opens h WhileKey = refl
statement_opens h w = statement_ends_opens h empty w

procedures_opens : (p : Parts) (o : Around) (w : Word) → Opens (reads (around_openers o)) w (procedures p o w)
procedures_opens p o ProcedureKey = refl
procedures_opens p o w = statement_opens (InBlock p o) w

variables_opens : (cs : List Constant) (s : Scope) (o : Around) (w : Word) → Opens (reads (around_openers o)) w (variables cs s o w)
variables_opens cs s o VarKey = refl
variables_opens cs s o w = procedures_opens (parts_behind cs [] s) o w

constants_opens : (s : Scope) (o : Around) (w : Word) → Opens (reads (around_openers o)) w (constants s o w)
constants_opens s o ConstKey = refl
constants_opens s o w = variables_opens [] s o w

step_opens : (s : State) (w : Word) → Opens (open_at s) w (step s w)
step_opens (BlockStart s o) w = constants_opens s o w
step_opens (BeforeConstant cs s o) (Name x) = refl
step_opens (BeforeEqual cs x s o) (Compares Equal) = refl
step_opens (BeforeNumber cs x s o) (Number v) = refl
step_opens (AfterConstant cs s o) Comma = refl
step_opens (AfterConstant cs s o) Semicolon = refl
step_opens (AfterConstants cs s o) w = variables_opens cs s o w
step_opens (BeforeVariable cs vs s o) (Name x) = refl
step_opens (AfterVariable cs vs s o) Comma = refl
step_opens (AfterVariable cs vs s o) Semicolon = refl
step_opens (AfterVariables p o) w = procedures_opens p o w
step_opens (BeforeProcedure p o) (Name x) = refl
step_opens (AfterProcedure x p o) Semicolon = refl
step_opens (BeforeStatement h) w = statement_opens h w
step_opens (BeforeBecomes x h) Becomes = refl
step_opens (BeforeCallee h) (Name x) = refl
step_opens (AfterStatement a h) w = statement_ends_opens h a w
step_opens (BeforeCondition k h) OddKey = refl
step_opens (BeforeCondition k h) w = expression_opens (AsLeft k h) w
step_opens (BeforeExpression k) w = expression_opens k w
step_opens (Wants p k) w = operand_opens p k w
step_opens (Has p f k) w = after_opens p f k w
step_opens _ w = tt

kept_opens : (n : Rules) (b : Option Rule) (os : Opened) (w : Word) (o : Option State) → Opens os w o → Opens os w (kept_by n b o)
kept_opens n None os w o h = h
kept_opens n (Some rule) os w o h = go (n rule)
  where
    go : (l : Bool) → Opens os w (kept l o)
    go true = tt
    go false = h

pub walk_opens : (n : Rules) (ts : List Word) (s s' : State) → walk_within n s ts ≡ Some s' → opened_behind (open_at s) ts ≡ open_at s'
walk_opens n [] s s' h = ap open_at (some_same h)
walk_opens n (w ∷ ts) s s' h = go (step_within n s w) (kept_opens n (broken s w) (open_at s) w (step s w) (step_opens s w)) (λ u. walk_opens n ts u s') h
  where
    go : (o : Option State) → Opens (open_at s) w o → ((u : State) → walk_within n u ts ≡ Some s' → opened_behind (open_at u) ts ≡ open_at s') → followed o (λ u. walk_within n u ts) ≡ Some s' → opened_behind (opened (open_at s) w) ts ≡ open_at s'
    go None a ih h = absurd (none_is_not_some h)
    go (Some u) a ih h = ap (λ os. opened_behind os ts) a ∙ ih u h
