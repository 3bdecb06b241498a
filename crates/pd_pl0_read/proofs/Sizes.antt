-- Each word takes the machine one place on, and keeps the scopes those of the declarations so far.
use Rattle.std.proofs.Common.{◌≡◌, ℕ, ◌+◌, List, [], ◌∷◌, ◌++◌, Option, Some, None, refl, sym, ap, ◌∙◌, arith}
use Rattle.pd_pl0_spell.specs.Words.{Equal, Word, Name, Number, Compares, Adds, Multiplies, Becomes, Writes, Open, Close, Comma, Semicolon, Period, ConstKey, VarKey, ProcedureKey, CallKey, BeginKey, EndKey, IfKey, ThenKey, WhileKey, DoKey, OddKey, Constant, Tree, odd, compared, empty, assign, write, procedure}
use Rattle.pd_pl0_spell.specs.Names.{AConstant, AVariable, AProcedure, Scope, declare, entered}
use Rattle.pd_pl0_spell.specs.Machine
use Rattle.pd_pl0_spell.specs.Machine.{Waiting, nothing, whole, Parts, block_of, with_procedure, Around, Main, Within, Keyword, ForIf, ForWhile, headed, Holder, InBlock, InSequence, InBody, Stack, AsAssigned, AsWritten, AsOdd, AsLeft, AsRight, InParens, State, BlockStart, BeforeConstant, BeforeEqual, BeforeNumber, AfterConstant, AfterConstants, BeforeVariable, AfterVariable, AfterVariables, BeforeProcedure, AfterProcedure, BeforeStatement, BeforeBecomes, BeforeCallee, AfterStatement, BeforeCondition, BeforeExpression, Wants, Has, Finished, statement_ends, condition_ends, ends, after_operand, parts_behind, step}
use Rattle.pd_pl0_read.specs.Resolving.{constants_declared}
use Rattle.pd_pl0_read.specs.Places.{declarations_end, end_of}
use Rattle.pd_pl0_read.specs.Behind.{around_scope, inner_scope, around_place, parts_place, holder_place, expression_place, size}
use Rattle.pd_pl0_read.proofs.Grows.{statements_end_last, procedures_end_last, length_last}
use Rattle.pd_pl0_read.proofs.Follows.{procedures_declared_last, constants_declared_last, variables_declared_last, headed_end, term_end, whole_end, IsRegularHolder, IsRegularStack, IsSome, AreConstants, AreVariables, IsRegular}

abbrev pub Grows : ℕ → Option State → Type 0
Grows n None = Unit {0}
Grows n (Some s) = (size s ≡ n + 1) × IsRegular s

one_on : {m n : ℕ} → m ≡ n → n + 1 ≡ m + 1
one_on h = sym (ap (λ n. n + 1) h)

statement_grows : (h : Holder) (a : Tree) (w : Word) (at : ℕ) → at ≡ end_of (holder_place h) a → IsRegularHolder h → Grows at (statement_ends h a w)
statement_grows (InBlock p Main) a Period at e g = (one_on e, tt)
statement_grows (InBlock p Main) a w at e g = tt
statement_grows (InBlock p (Within x q o)) a Semicolon at e g =
    let t = procedure x (block_of p a) in (
      procedures_end_last (declarations_end (around_place o) q.constants q.variables) q.procedures t ∙ one_on e,
      (g.1.0 ∙ sym (procedures_declared_last q.procedures t (inner_scope q o)), g.1.1),
    )
statement_grows (InBlock p (Within x q o)) a w at e g = tt
statement_grows (InSequence ss h) a Semicolon at e g = (ap (λ n. n + 1) (statements_end_last (holder_place h) ss a) ∙ one_on e, g)
statement_grows (InSequence ss h) a EndKey at e g = (ap (λ n. n + 1) (statements_end_last (holder_place h) ss a) ∙ one_on e, g)
statement_grows (InSequence ss h) a w at e g = tt
statement_grows (InBody v c h) a w at e g = statement_grows h (headed v c a) w at (e ∙ headed_end v (holder_place h) c a) g

condition_grows : (v : Keyword) (h : Holder) (c : Tree) (w : Word) (at : ℕ) → at ≡ end_of (holder_place h + 1) c → IsRegularHolder h → Grows at (condition_ends v h c w)
condition_grows ForIf h c ThenKey at e g = (one_on e, g)
condition_grows ForIf h c w at e g = tt
condition_grows ForWhile h c DoKey at e g = (one_on e, g)
condition_grows ForWhile h c w at e g = tt

ends_grow : (k : Stack) (e : Tree) (w : Word) (at : ℕ) → at ≡ end_of (expression_place k) e → IsRegularStack k → Grows at (ends k e w)
ends_grow (AsAssigned x h) e w at q g = statement_grows h (assign x e) w at q g
ends_grow (AsWritten h) e w at q g = statement_grows h (write e) w at q g
ends_grow (AsOdd v h) e w at q g = condition_grows v h (odd e) w at q g
ends_grow (AsLeft v h) e (Compares o) at q g = (one_on q, g)
ends_grow (AsLeft v h) e w at q g = tt
ends_grow (AsRight v o a h) e w at q g = condition_grows v h (compared o a e) w at q g
ends_grow (InParens p k) e Close at q g = (one_on q, g)
ends_grow (InParens p k) e w at q g = tt

operand_after_grows : (p : Waiting) (f : Tree) (k : Stack) (w : Word) → IsRegularStack k → Grows (size (Has p f k)) (after_operand p f k w)
operand_after_grows p f k (Adds o) g = (one_on (whole_end (expression_place k) p f), g)
operand_after_grows p f k (Multiplies o) g = (one_on (term_end (expression_place k) p f), g)
operand_after_grows p f k w g = ends_grow k (whole p f) w (size (Has p f k)) (whole_end (expression_place k) p f) g

operand_grows : (p : Waiting) (k : Stack) (w : Word) → IsRegularStack k → Grows (size (Wants p k)) (Machine.operand p k w)
operand_grows p k (Name x) g = (refl, g)
operand_grows p k (Number n) g = (refl, g)
operand_grows p k Open g = (refl, g)
operand_grows p k w g = tt

expression_grows : (k : Stack) (w : Word) → IsRegularStack k → Grows (size (BeforeExpression k)) (Machine.expression k w)
expression_grows k (Adds o) g = (refl, g)
expression_grows k w g = operand_grows nothing k w g

statement_begins : (h : Holder) (w : Word) → IsRegularHolder h → Grows (holder_place h) (Machine.statement h w)
statement_begins h (Name x) g = (refl, g)
statement_begins h CallKey g = (refl, g)
statement_begins h Writes g = (refl, g)
statement_begins h BeginKey g = (refl, g)
statement_begins h IfKey g = (refl, g)
statement_begins h WhileKey g = (refl, g)
statement_begins h w g = statement_grows h empty w (holder_place h) refl g

procedures_grow : (p : Parts) (o : Around) (w : Word) → IsRegularHolder (InBlock p o) → Grows (parts_place p o) (Machine.procedures p o w)
procedures_grow p o ProcedureKey g = (refl, g)
procedures_grow p o w g = statement_begins (InBlock p o) w g

constant_more : (cs : List Constant) (x : List ℕ) (v : ℕ) (s : Scope) (o : Around) → AreConstants cs s o → Grows (size (BeforeNumber cs x s o)) (Some (AfterConstant (cs ++ record { name = x; value = v } ∷ []) (declare x (AConstant v) s) o))
constant_more cs x v s o g =
    let c : Constant = record { name = x; value = v } in
    (omega (arith, length_last cs c), (some_last cs, (ap (declare x (AConstant v)) g.0 ∙ sym (constants_declared_last cs c (around_scope o)), g.1)))
  where
    some_last : (xs : List Constant) → IsSome (xs ++ record { name = x; value = v } ∷ [])
    some_last [] = tt
    some_last (y ∷ ys) = tt

variable_more : (cs : List Constant) (vs : List (List ℕ)) (x : List ℕ) (s : Scope) (o : Around) → AreVariables cs vs s o → Grows (size (BeforeVariable cs vs s o)) (Some (AfterVariable cs (vs ++ x ∷ []) (declare x AVariable s) o))
variable_more cs vs x s o g =
    (omega (arith, length_last vs x), (some_last vs, (ap (declare x AVariable) g.0 ∙ sym (variables_declared_last vs x (constants_declared cs (around_scope o))), g.1)))
  where
    some_last : (xs : List (List ℕ)) → IsSome (xs ++ x ∷ [])
    some_last [] = tt
    some_last (y ∷ ys) = tt

constants_whole : (cs : List Constant) (s : Scope) (o : Around) → IsSome cs → AreConstants cs s o → Grows (size (AfterConstant cs s o)) (Some (AfterConstants cs s o))
constants_whole [] s o h g = absurd h
constants_whole (c ∷ cs) s o h g = (refl, g)

variables_whole : (cs : List Constant) (vs : List (List ℕ)) (s : Scope) (o : Around) → IsSome vs → AreVariables cs vs s o → Grows (size (AfterVariable cs vs s o)) (Some (AfterVariables (parts_behind cs vs s) o))
variables_whole cs [] s o h g = absurd h
variables_whole cs (x ∷ xs) s o h g = (refl, g)

pub grows : (s : State) (w : Word) → IsRegular s → Grows (size s) (step s w)
grows (BlockStart s o) ConstKey g = (omega arith, g)
grows (BlockStart s o) VarKey g = (omega arith, g)
grows (BlockStart s o) w g = procedures_grow (parts_behind [] [] s) o w g
grows (BeforeConstant cs s o) (Name x) g = (refl, g)
grows (BeforeConstant cs s o) w g = tt
grows (BeforeEqual cs x s o) (Compares Equal) g = (refl, g)
grows (BeforeEqual cs x s o) (Compares c) g = tt
grows (BeforeEqual cs x s o) w g = tt
grows (BeforeNumber cs x s o) (Number v) g = constant_more cs x v s o g
grows (BeforeNumber cs x s o) w g = tt
grows (AfterConstant cs s o) Comma g = (refl, g.1)
grows (AfterConstant cs s o) Semicolon g = constants_whole cs s o g.0 g.1
grows (AfterConstant cs s o) w g = tt
grows (AfterConstants cs s o) VarKey g = (omega arith, g)
grows (AfterConstants cs s o) w g = procedures_grow (parts_behind cs [] s) o w g
grows (BeforeVariable cs vs s o) (Name x) g = variable_more cs vs x s o g
grows (BeforeVariable cs vs s o) w g = tt
grows (AfterVariable cs vs s o) Comma g = (refl, g.1)
grows (AfterVariable cs vs s o) Semicolon g = variables_whole cs vs s o g.0 g.1
grows (AfterVariable cs vs s o) w g = tt
grows (AfterVariables p o) w g = procedures_grow p o w g
grows (BeforeProcedure p o) (Name x) g = (refl, (ap (declare x AProcedure) g.0, g.1))
grows (BeforeProcedure p o) w g = tt
grows (AfterProcedure x p o) Semicolon g = (refl, (ap entered g.0, g))
grows (AfterProcedure x p o) w g = tt
grows (BeforeStatement h) w g = statement_begins h w g
grows (BeforeBecomes x h) Becomes g = (refl, g)
grows (BeforeBecomes x h) w g = tt
grows (BeforeCallee h) (Name x) g = (refl, g)
grows (BeforeCallee h) w g = tt
grows (AfterStatement a h) w g = statement_grows h a w _ refl g
grows (BeforeCondition v h) OddKey g = (refl, g)
grows (BeforeCondition v h) w g = expression_grows (AsLeft v h) w g
grows (BeforeExpression k) w g = expression_grows k w g
grows (Wants p k) w g = operand_grows p k w g
grows (Has p f k) w g = operand_after_grows p f k w g
grows (Finished b) w g = tt
