-- The rules on names, by what the reader finds.
use Rattle.std.proofs.Common.{◌≡◌, ℕ, ◌+◌, ◌≤◌, Bool, true, false, List, [], ◌∷◌, Option, Some, None, refl, sym, ap, ◌∙◌, arith}
use Rattle.std.specs.Prelude.{bytes_eq, cond, option_map, ◌==◌}
use Rattle.std.proofs.lemmas.Bool.{ne_eqb}
use Rattle.pd_sections.specs.declared.Rule.{Rule}
use Rattle.pd_sections.specs.declared.Rule.TheVariants as rules
use Rattle.pd_pl0_spell.specs.Words.{Word, Name}
use Rattle.pd_pl0_spell.specs.Names as spelling
use Rattle.pd_pl0_spell.specs.Names.{Kind, AConstant, AVariable, AProcedure, Declaration, Scope, visible, found, found_around, broken_by, Declaring, Assigning, Calling, Reading}
use Rattle.pd_pl0_spell.specs.Machine
use Rattle.pd_pl0_spell.specs.Machine.{Parts, Around, Holder, InBlock, InSequence, InBody, Stack, AsAssigned, AsWritten, AsOdd, AsLeft, AsRight, InParens, State, BlockStart, BeforeConstant, BeforeEqual, BeforeNumber, AfterConstant, AfterConstants, BeforeVariable, AfterVariable, AfterVariables, BeforeProcedure, AfterProcedure, BeforeStatement, BeforeBecomes, BeforeCallee, AfterStatement, BeforeCondition, BeforeExpression, Wants, Has, Finished}
use Rattle.pd_pl0_read.specs.declared.names.Declared.{Declared}
use Rattle.pd_pl0_read.specs.declared.names.Found.{Found}
use Rattle.pd_pl0_read.specs.Answers.{rule_of}
use Rattle.pd_pl0_read.specs.Resolving as resolving
use Rattle.pd_pl0_read.specs.Resolving.{constants_declared, variables_declared, declared_as, slots, found_in, or_outer, resolved}
use Rattle.pd_pl0_read.specs.Held as twin
use Rattle.pd_pl0_read.specs.Behind as behind
use Rattle.pd_pl0_read.specs.Behind.{shape, name_in, around_scope, around_place, parts_scope, held}
use Rattle.pd_pl0_read.specs.Places.{constants_end}
use Rattle.pd_pl0_read.proofs.Follows.{IsRegular, IsRegularHolder, IsRegularStack, block_find, parts_find, holder_find, stack_find, constants_find, variables_find}

-- the same declaration, by what it is
abbrev IsSame : Option Kind → Option Declared → Type 0
IsSame None None = Unit {0}
IsSame (Some k) (Some d) = (n : ℕ) × (d ≡ declared_as k n)
IsSame _ _ = ⊥

abbrev Agree : Option Kind → Option Found → Type 0
Agree None None = Unit {0}
Agree (Some k) (Some f) = (n : ℕ) × (f.what ≡ declared_as k n)
Agree _ _ = ⊥

in_block : (x : List ℕ) (ds : List Declaration) → IsSame (found x ds) (found_in x ds)
in_block x [] = tt
in_block x (d ∷ ds) = go (in_block x ds) (bytes_eq x d.name)
  where
    go : IsSame (found x ds) (found_in x ds) → (b : Bool) → IsSame (cond b (Some d.kind) (found x ds)) (cond b (Some (declared_as d.kind (slots ds))) (found_in x ds))
    go ih true = (slots ds, refl)
    go ih false = ih

outward : (up : ℕ) (a : Option Kind) (b : Option Declared) (c : Option Kind) (f : Option Found) → IsSame a b → Agree c f → Agree (spelling.or_outer a c) (or_outer up b f)
outward up None None c f h g = g
outward up (Some k) (Some d) c f h g = h
outward up None (Some d) c f h g = absurd h
outward up (Some k) None c f h g = absurd h

around_agrees : (up : ℕ) (x : List ℕ) (blocks : List (List Declaration)) → Agree (found_around x blocks) (resolving.found_from up x blocks)
around_agrees up x [] = tt
around_agrees up x (ds ∷ blocks) = outward up (found x ds) (found_in x ds) (found_around x blocks) (resolving.found_from (up + 1) x blocks) (in_block x ds) (around_agrees (up + 1) x blocks)

agree : (x : List ℕ) (s : Scope) → Agree (visible x s) (resolved x s)
agree x s = outward 0 (found x s.own) (found_in x s.own) (found_around x s.around) (resolving.found_from (0 + 1) x s.around) (in_block x s.own) (around_agrees (0 + 1) x s.around)

abbrev ruled : Option spelling.Rule → Option Rule
ruled r = option_map rule_of r

assigned : (k : Option Kind) (f : Option Found) → Agree k f → twin.broken_assigning f ≡ ruled (spelling.broken_assigning k)
assigned None None h = refl
assigned (Some (AConstant v)) (Some f) (n, e) = ap twin.assigning e
assigned (Some AVariable) (Some f) (n, e) = ap twin.assigning e
assigned (Some AProcedure) (Some f) (n, e) = ap twin.assigning e
assigned None (Some f) h = absurd h
assigned (Some k) None h = absurd h

called : (k : Option Kind) (f : Option Found) → Agree k f → twin.broken_calling f ≡ ruled (spelling.broken_calling k)
called None None h = refl
called (Some (AConstant v)) (Some f) (n, e) = ap twin.calling e
called (Some AVariable) (Some f) (n, e) = ap twin.calling e
called (Some AProcedure) (Some f) (n, e) = ap twin.calling e
called None (Some f) h = absurd h
called (Some k) None h = absurd h

read : (k : Option Kind) (f : Option Found) → Agree k f → twin.broken_reading f ≡ ruled (spelling.broken_reading k)
read None None h = refl
read (Some (AConstant v)) (Some f) (n, e) = ap twin.reading e
read (Some AVariable) (Some f) (n, e) = ap twin.reading e
read (Some AProcedure) (Some f) (n, e) = ap twin.reading e
read None (Some f) h = absurd h
read (Some k) None h = absurd h

-- what isn't declared in the block itself is found further outward
abbrev IsOutward : ℕ → Option Found → Type 0
IsOutward up None = Unit {0}
IsOutward up (Some f) = up ≤ f.up

found_outward : (up : ℕ) (x : List ℕ) (blocks : List (List Declaration)) → IsOutward up (resolving.found_from up x blocks)
found_outward up x [] = tt
found_outward up x (ds ∷ blocks) = go (found_in x ds) (resolving.found_from (up + 1) x blocks) (found_outward (up + 1) x blocks)
  where
    go : (d : Option Declared) (f : Option Found) → IsOutward (up + 1) f → IsOutward up (or_outer up d f)
    go (Some d) f h = omega arith
    go None None h = tt
    go None (Some f) h = omega (arith, h)

declared : (x : List ℕ) (s : Scope) → twin.broken_declaring (resolved x s) ≡ ruled (broken_by Declaring s x)
declared x s = go (found x s.own) (found_in x s.own) (resolving.found_from (0 + 1) x s.around) (in_block x s.own) (found_outward (0 + 1) x s.around)
  where
    never : (n : ℕ) → 1 ≤ n → (n == 0) ≡ false
    never n h = ne_eqb n 0 (λ e. absurd (omega (arith, e, h)))

    go : (k : Option Kind) (d : Option Declared) (f : Option Found) → IsSame k d → IsOutward (0 + 1) f → twin.broken_declaring (or_outer 0 d f) ≡ ruled (spelling.broken_declaring k)
    go (Some k) (Some d) f h g = refl
    go None None None h g = refl
    go None None (Some f) h g = ap (λ b. cond b (Some rules.Doubled) None) (never f.up g)
    go None (Some d) f h g = absurd h
    go (Some k) None f h g = absurd h

assigning : (x : List ℕ) (s r : Scope) (f : Option Found) → f ≡ resolved x r → s ≡ r → twin.broken_assigning f ≡ ruled (broken_by Assigning s x)
assigning x s r f e h = ap twin.broken_assigning (e ∙ ap (resolved x) (sym h)) ∙ assigned (visible x s) (resolved x s) (agree x s)

calling : (x : List ℕ) (s r : Scope) (f : Option Found) → f ≡ resolved x r → s ≡ r → twin.broken_calling f ≡ ruled (broken_by Calling s x)
calling x s r f e h = ap twin.broken_calling (e ∙ ap (resolved x) (sym h)) ∙ called (visible x s) (resolved x s) (agree x s)

reading : (x : List ℕ) (s r : Scope) (f : Option Found) → f ≡ resolved x r → s ≡ r → twin.broken_reading f ≡ ruled (broken_by Reading s x)
reading x s r f e h = ap twin.broken_reading (e ∙ ap (resolved x) (sym h)) ∙ read (visible x s) (resolved x s) (agree x s)

declaring : (x : List ℕ) (s r : Scope) (f : Option Found) → f ≡ resolved x r → s ≡ r → twin.broken_declaring f ≡ ruled (broken_by Declaring s x)
declaring x s r f e h = ap twin.broken_declaring (e ∙ ap (resolved x) (sym h)) ∙ declared x s

-- the scope of a statement and of an expression
holder_scopes : (h : Holder) → IsRegularHolder h → Machine.holder_scope h ≡ behind.holder_scope h
holder_scopes (InBlock p o) g = g.0
holder_scopes (InSequence ss h) g = holder_scopes h g
holder_scopes (InBody v c h) g = holder_scopes h g

stack_scopes : (k : Stack) → IsRegularStack k → Machine.stack_scope k ≡ behind.stack_scope k
stack_scopes (AsAssigned x h) g = holder_scopes h g
stack_scopes (AsWritten h) g = holder_scopes h g
stack_scopes (AsOdd v h) g = holder_scopes h g
stack_scopes (AsLeft v h) g = holder_scopes h g
stack_scopes (AsRight v o a h) g = holder_scopes h g
stack_scopes (InParens p k) g = stack_scopes k g

pub broken_follows : (s : State) (w : Word) → IsRegular s → twin.broken (held s) (shape w) (name_in w) ≡ ruled (Machine.broken s w)
broken_follows (BlockStart s o) (Name x) g = assigning x s (around_scope o) _ (block_find x (around_scope o) o 0 0 0 (around_place o) refl) g.0
broken_follows (BlockStart s o) w g = refl
broken_follows (BeforeConstant cs s o) (Name x) g = declaring x s (constants_declared cs (around_scope o)) _ (constants_find x cs o (around_place o)) g.0
broken_follows (BeforeConstant cs s o) w g = refl
broken_follows (BeforeEqual cs y s o) (Name x) g = refl
broken_follows (BeforeEqual cs y s o) w g = refl
broken_follows (BeforeNumber cs y s o) (Name x) g = refl
broken_follows (BeforeNumber cs y s o) w g = refl
broken_follows (AfterConstant cs s o) (Name x) g = refl
broken_follows (AfterConstant cs s o) w g = refl
broken_follows (AfterConstants cs s o) (Name x) g = assigning x s (constants_declared cs (around_scope o)) _ (constants_find x cs o (constants_end (around_place o) cs)) g.0
broken_follows (AfterConstants cs s o) w g = refl
broken_follows (BeforeVariable cs vs s o) (Name x) g = declaring x s (variables_declared vs (constants_declared cs (around_scope o))) _ (variables_find x cs vs o) g.0
broken_follows (BeforeVariable cs vs s o) w g = refl
broken_follows (AfterVariable cs vs s o) (Name x) g = refl
broken_follows (AfterVariable cs vs s o) w g = refl
broken_follows (AfterVariables p o) (Name x) g = assigning x p.scope (parts_scope p o) _ (parts_find x p o) g.0
broken_follows (AfterVariables p o) w g = refl
broken_follows (BeforeProcedure p o) (Name x) g = declaring x p.scope (parts_scope p o) _ (parts_find x p o) g.0
broken_follows (BeforeProcedure p o) w g = refl
broken_follows (AfterProcedure y p o) (Name x) g = refl
broken_follows (AfterProcedure y p o) w g = refl
broken_follows (BeforeStatement h) (Name x) g = assigning x (Machine.holder_scope h) (behind.holder_scope h) _ (holder_find x h) (holder_scopes h g)
broken_follows (BeforeStatement h) w g = refl
broken_follows (BeforeBecomes y h) (Name x) g = refl
broken_follows (BeforeBecomes y h) w g = refl
broken_follows (BeforeCallee h) (Name x) g = calling x (Machine.holder_scope h) (behind.holder_scope h) _ (holder_find x h) (holder_scopes h g)
broken_follows (BeforeCallee h) w g = refl
broken_follows (AfterStatement a h) (Name x) g = refl
broken_follows (AfterStatement a h) w g = refl
broken_follows (BeforeCondition v h) (Name x) g = reading x (Machine.holder_scope h) (behind.holder_scope h) _ (holder_find x h) (holder_scopes h g)
broken_follows (BeforeCondition v h) w g = refl
broken_follows (BeforeExpression k) (Name x) g = reading x (Machine.stack_scope k) (behind.stack_scope k) _ (stack_find x k) (stack_scopes k g)
broken_follows (BeforeExpression k) w g = refl
broken_follows (Wants p k) (Name x) g = reading x (Machine.stack_scope k) (behind.stack_scope k) _ (stack_find x k) (stack_scopes k g)
broken_follows (Wants p k) w g = refl
broken_follows (Has p f k) (Name x) g = refl
broken_follows (Has p f k) w g = refl
broken_follows (Finished b) (Name x) g = refl
broken_follows (Finished b) w g = refl
