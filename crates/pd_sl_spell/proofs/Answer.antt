-- The answer is the tree that is spelled, or the first breach.
use Rattle.std.proofs.Common.{◌≡◌, ℕ, Bool, true, false, List, [], ◌∷◌, ◌++◌, length, Result, Err, ◌+◌, ◌<◌, arith, length-append, Option, Some, None, ◌⊎◌, inl, inr, refl, sym, ap, ◌∙◌, subst, append_assoc}
use Rattle.std.specs.Prelude.{nat_lt}
use Rattle.std.proofs.lemmas.Bool.{ltb-true, ltb-false}
use Rattle.pd_sl_spell.specs.Words.{Comparing, Word, Name, Number, Text, Or, And, Compares, Adds, Multiplies, Becomes, Open, Close, OpenBlock, CloseBlock, Comma, Semicolon, FunctionKey, WhileKey, IfKey, ElseKey, ReturnKey, BreakKey, ContinueKey, DebuggerKey, Tree, name, assign, conditional, break, continue, Trees, none, with_last}
use Rattle.pd_sl_spell.specs.Machine.{Waiting, nothing, arithmetic_of, whole, OfWhile, OfThen, OfElse, Around, Body, Within, in_loop, Stack, AsStatement, AsValue, AsCondition, InParens, InArguments, InAssignment, State, Start, Between, AfterFunctionKey, AfterFunctionName, FirstParameter, AfterParameter, AfterComma, BeforeBody, Inside, AfterThen, AfterKey, AfterReturn, BeforeBlock, BeforeSemicolon, Wants, MayWant, Named, Callable, Has, ends, comparing, after_operand, after_callable, operand, closed_block, in_a_loop, inside, step, final, followed, run, walk}
use Rattle.pd_sl_spell.specs.Refusals.{Rule, Unexpected, LiteralTooLarge, TooDeep, TooManyNodes, Opener, Assignment, without_assignments, opened, open_behind, nesting, Begins, largest, IsTooLarge, Breaches, IsClean, Precedes, all_nodes, at_word, at_end, too_many, Answers}
use Rattle.pd_sl_spell.specs.Reading.{around_openers, stack_openers, openers, is_too_large, within_depth, within_limits, expected, within_room, at_last, going_on, read_from, read}
use Rattle.pd_sl_spell.proofs.Forward.{complete}
use Rattle.pd_sl_spell.proofs.Backward.{sound}
use Rattle.pd_sl_spell.proofs.Completion.{completion, completed}

none_is_not_some : {A : Type 0} {a : A} → None ≡ Some a → ⊥
none_is_not_some h = cc

some_same : {A : Type 0} {a b : A} → Some a ≡ Some b → a ≡ b
some_same h = cc

-- Where the words lead.
run_append : (ts us : List Word) (s : State) → run s (ts ++ us) ≡ followed (walk s ts) (λ s'. run s' us)
run_append [] us s = refl
run_append (w ∷ ts) us s = go (step s w) (λ s'. run_append ts us s')
  where
    go : (o : Option State) → ((s' : State) → run s' (ts ++ us) ≡ followed (walk s' ts) (λ s''. run s'' us)) → followed o (λ s'. run s' (ts ++ us)) ≡ followed (followed o (λ s'. walk s' ts)) (λ s'. run s' us)
    go None ih = refl
    go (Some s') ih = ih s'

walk_append : (ts us : List Word) (s : State) → walk s (ts ++ us) ≡ followed (walk s ts) (λ s'. walk s' us)
walk_append [] us s = refl
walk_append (w ∷ ts) us s = go (step s w) (λ s'. walk_append ts us s')
  where
    go : (o : Option State) → ((s' : State) → walk s' (ts ++ us) ≡ followed (walk s' ts) (λ s''. walk s'' us)) → followed o (λ s'. walk s' (ts ++ us)) ≡ followed (followed o (λ s'. walk s' ts)) (λ s'. walk s' us)
    go None ih = refl
    go (Some s') ih = ih s'

pub walked_begins : (ts : List Word) (s : State) → walk Start ts ≡ Some s → Begins ts
walked_begins ts s h =
    let c = completed s in
    (completion s, c.0, sound (ts ++ completion s) Start c.0 (run_append ts (completion s) Start ∙ ap (λ o. followed o (λ s'. run s' (completion s))) h ∙ c.1))

pub lost_begins_nothing : (ts : List Word) → walk Start ts ≡ None → Begins ts → ⊥
lost_begins_nothing ts h (more, T, e) =
    none_is_not_some (sym (ap (λ o. followed o (λ s'. run s' more)) h) ∙ sym (run_append ts more Start) ∙ complete (ts ++ more) Start T e)

-- What is open behind a word is what the state has open.
abbrev pub Opens : List Opener → Word → Option State → Type 0
Opens os w None = Unit {0}
Opens os w (Some s) = opened os w ≡ openers s

is_ender : Word → Bool
is_ender Close = true
is_ender Comma = true
is_ender Semicolon = true
is_ender _ = false

no_ender : (k : Stack) (e : Tree) (w : Word) → is_ender w ≡ false → ends k e w ≡ None
unfolding is_ender
no_ender (AsStatement ss o) e Semicolon h = cc
no_ender (AsStatement ss o) e _ h = refl
no_ender (AsValue ss o) e Semicolon h = cc
no_ender (AsValue ss o) e _ h = refl
no_ender (AsCondition w ss o) e Close h = cc
no_ender (AsCondition w ss o) e _ h = refl
no_ender (InParens p k) e Close h = cc
no_ender (InParens p k) e _ h = refl
no_ender (InArguments p c es k) e Close h = cc
no_ender (InArguments p c es k) e Comma h = cc
no_ender (InArguments p c es k) e _ h = refl
no_ender (InAssignment p x k) e w h = no_ender k (whole p (assign x e)) w h

opens_none : (os : List Opener) (w : Word) (o : Option State) → o ≡ None → Opens os w o
opens_none os w o e = subst (λ x. Opens os w x) (sym e) tt

-- the brackets of the open blocks are no assignments
around_kept : (o : Around) → without_assignments (around_openers o) ≡ around_openers o
around_kept (Body fs x xs) = refl
around_kept (Within h ss o) = refl

ends_opens : (k : Stack) (e : Tree) (w : Word) → Opens (stack_openers k) w (ends k e w)
unfolding is_ender
ends_opens (AsStatement ss o) e Semicolon = around_kept o
ends_opens (AsStatement ss o) e _ = tt
ends_opens (AsValue ss o) e Semicolon = around_kept o
ends_opens (AsValue ss o) e _ = tt
ends_opens (AsCondition w ss o) e Close = refl
ends_opens (AsCondition w ss o) e _ = tt
ends_opens (InParens p k) e Close = refl
ends_opens (InParens p k) e _ = tt
ends_opens (InArguments p c es k) e Close = refl
ends_opens (InArguments p c es k) e Comma = refl
ends_opens (InArguments p c es k) e _ = tt
ends_opens (InAssignment p x k) e Close = past (ends k (whole p (assign x e)) Close) Close (ends_opens k (whole p (assign x e)) Close)
  where
    past : (r : Option State) (w : Word) → Opens (stack_openers k) Close r → Opens (Assignment ∷ stack_openers k) Close r
    past None w h = h
    past (Some s) w h = h
ends_opens (InAssignment p x k) e Comma = past (ends k (whole p (assign x e)) Comma) (ends_opens k (whole p (assign x e)) Comma)
  where
    past : (r : Option State) → Opens (stack_openers k) Comma r → Opens (Assignment ∷ stack_openers k) Comma r
    past None h = h
    past (Some s) h = h
ends_opens (InAssignment p x k) e Semicolon = past (ends k (whole p (assign x e)) Semicolon) (ends_opens k (whole p (assign x e)) Semicolon)
  where
    past : (r : Option State) → Opens (stack_openers k) Semicolon r → Opens (Assignment ∷ stack_openers k) Semicolon r
    past None h = h
    past (Some s) h = h
ends_opens (InAssignment p x k) e w = opens_none (Assignment ∷ stack_openers k) w (ends k (whole p (assign x e)) w) (no_ender k (whole p (assign x e)) w refl)

comparing_opens : (p : Waiting) (c : Option (Comparing × Tree)) (o : Comparing) (a : Tree) (k : Stack) → Opens (stack_openers k) (Compares o) (comparing p c o a k)
comparing_opens p None o a k = refl
comparing_opens p (Some c) o a k = tt

after_opens : (p : Waiting) (f : Tree) (k : Stack) (w : Word) → Opens (stack_openers k) w (after_operand p f k w)
after_opens p f k Or = refl
after_opens p f k And = refl
after_opens p f k (Compares o) = comparing_opens p p.compare o (arithmetic_of p f) k
after_opens p f k (Adds o) = refl
after_opens p f k (Multiplies o) = refl
after_opens p f k w = ends_opens k (whole p f) w

callable_opens : (p : Waiting) (c : Tree) (k : Stack) (w : Word) → Opens (stack_openers k) w (after_callable p c k w)
callable_opens p c k Open = refl
callable_opens p c k w = after_opens p c k w

operand_opens : (p : Waiting) (k : Stack) (w : Word) → Opens (stack_openers k) w (operand p k w)
operand_opens p k (Name x) = refl
operand_opens p k (Number n) = refl
operand_opens p k (Text s) = refl
operand_opens p k Open = refl
operand_opens p k _ = tt

loop_opens : (o : Around) (l : Bool) (w : Word) (s : State) → opened (around_openers o) w ≡ openers s → Opens (around_openers o) w (in_a_loop l s)
loop_opens o true w s h = h
loop_opens o false w s h = tt

block_opens : (o : Around) (ss : Trees) → opened (around_openers o) CloseBlock ≡ openers (closed_block o ss)
block_opens (Body fs x xs) ss = refl
block_opens (Within (OfWhile c) before o) ss = refl
block_opens (Within (OfThen c) before o) ss = refl
block_opens (Within (OfElse c b) before o) ss = refl

inside_opens : (ss : Trees) (o : Around) (w : Word) → Opens (around_openers o) w (inside ss o w)
inside_opens ss o CloseBlock = block_opens o ss
inside_opens ss o WhileKey = refl
inside_opens ss o IfKey = refl
inside_opens ss o ReturnKey = refl
inside_opens ss o BreakKey = loop_opens o (in_loop o) BreakKey (BeforeSemicolon break ss o) refl
inside_opens ss o ContinueKey = loop_opens o (in_loop o) ContinueKey (BeforeSemicolon continue ss o) refl
inside_opens ss o DebuggerKey = refl
inside_opens ss o w = operand_opens nothing (AsStatement ss o) w

-- the bracket of the arguments
first_opens : (p : Waiting) (c : Tree) (k : Stack) (w : Word) → Opens (stack_openers (InArguments p c none k)) w (operand nothing (InArguments p c none k) w)
first_opens p c k w = operand_opens nothing (InArguments p c none k) w

step_opens : (s : State) (w : Word) → Opens (openers s) w (step s w)
step_opens Start FunctionKey = refl
step_opens (Between fs) FunctionKey = refl
step_opens (AfterFunctionKey fs) (Name x) = refl
step_opens (AfterFunctionName fs x) Open = refl
step_opens (FirstParameter fs x) Close = refl
step_opens (FirstParameter fs x) (Name y) = refl
step_opens (AfterParameter fs x xs) Close = refl
step_opens (AfterParameter fs x xs) Comma = refl
step_opens (AfterComma fs x xs) (Name y) = refl
step_opens (BeforeBody fs x xs) OpenBlock = refl
step_opens (Inside ss o) w = inside_opens ss o w
step_opens (AfterThen c b ss o) ElseKey = refl
step_opens (AfterThen c b ss o) w = inside_opens (with_last ss (conditional c b)) o w
step_opens (AfterKey w ss o) Open = refl
step_opens (AfterReturn ss o) Semicolon = around_kept o
step_opens (AfterReturn ss o) w = operand_opens nothing (AsValue ss o) w
step_opens (BeforeBlock h ss o) OpenBlock = refl
step_opens (BeforeSemicolon s ss o) Semicolon = around_kept o
step_opens (Wants p k) w = operand_opens p k w
step_opens (MayWant p c k) Close = refl
step_opens (MayWant p c k) w = first_opens p c k w
step_opens (Named p x k) Becomes = refl
step_opens (Named p x k) w = callable_opens p (name x) k w
step_opens (Callable p c k) w = callable_opens p c k w
step_opens (Has p f k) w = after_opens p f k w
step_opens _ w = tt

pub walk_opens : (ts : List Word) (s s' : State) → walk s ts ≡ Some s' → open_behind (openers s) ts ≡ openers s'
walk_opens [] s s' h = ap openers (some_same h)
walk_opens (w ∷ ts) s s' h = go (step s w) (step_opens s w) (λ u. walk_opens ts u s') h
  where
    go : (o : Option State) → Opens (openers s) w o → ((u : State) → walk u ts ≡ Some s' → open_behind (openers u) ts ≡ openers s') → followed o (λ u. walk u ts) ≡ Some s' → open_behind (opened (openers s) w) ts ≡ openers s'
    go None a ih h = absurd (none_is_not_some h)
    go (Some u) a ih h = ap (λ os. open_behind os ts) a ∙ ih u h

-- The last word of a list, in any way to split the list.
last_split : (xs us vs : List Word) (x v : Word) → xs ++ x ∷ [] ≡ us ++ v ∷ vs → ((xs ≡ us) × (x ≡ v)) ⊎ ((ws : List Word) × (xs ≡ us ++ v ∷ ws))
last_split [] [] vs x v h = inl (refl, cc)
last_split [] (u ∷ []) vs x v h = absurd (cc)
last_split [] (u ∷ u' ∷ us) vs x v h = absurd (cc)
last_split (y ∷ xs) [] vs x v h = let e : y ≡ v = cc in inr (xs, ap (λ z. z ∷ xs) e)
last_split (y ∷ xs) (u ∷ us) vs x v h =
    let e : y ≡ u = cc in
    let t : xs ++ x ∷ [] ≡ us ++ v ∷ vs = cc in
    elim (last_split xs us vs x v t) [ inl g ↦ inl (cons_same e g.0, g.1) | inr g ↦ inr (g.0, cons_same e g.1) ]
  where
    cons_same : {a b : Word} {as' bs : List Word} → a ≡ b → as' ≡ bs → a ∷ as' ≡ b ∷ bs
    cons_same p q = cc

clean_none : IsClean []
clean_none [] after w h rule b = absurd (cc)
clean_none (u ∷ us) after w h rule b = absurd (cc)

clean_more : (before : List Word) (w : Word) → IsClean before → ((rule : Rule) → Breaches before w rule → ⊥) → IsClean (before ++ w ∷ [])
clean_more before w clean here us vs v h rule b =
    elim (last_split before us vs w v h) [
      | inl g ↦ here rule (subst (λ x. Breaches x w rule) (sym g.0) (subst (λ x. Breaches us x rule) (sym g.1) b))
      | inr g ↦ clean us g.0 v g.1 rule b
    ]

append_nothing : (ws : List Word) → ws ++ [] ≡ ws
append_nothing [] = refl
append_nothing (w ∷ ws) = ap (λ x. w ∷ x) (append_nothing ws)

regroup : (before : List Word) (w : Word) (ws : List Word) → (before ++ w ∷ []) ++ ws ≡ before ++ w ∷ ws
regroup before w ws = append_assoc before (w ∷ []) ws

one_more : (before : List Word) (w : Word) → length before + 1 ≡ length (before ++ w ∷ [])
one_more before w = sym (length-append before (w ∷ []))

-- A word behind words that lead to a state.
module _ (before : List Word) (s : State) (leads : walk Start before ≡ Some s) where
  steps : (w : Word) (o : Option State) → step s w ≡ o → walk Start (before ++ w ∷ []) ≡ o
  steps w o e = walk_append before (w ∷ []) Start ∙ ap (λ x. followed x (λ s'. walk s' (w ∷ []))) leads ∙ last (step s w) ∙ e
    where
      last : (x : Option State) → followed x (λ s'. walk s' []) ≡ x
      last None = refl
      last (Some u) = refl

  depth : (w : Word) (s' : State) → step s w ≡ Some s' → nesting (before ++ w ∷ []) ≡ length (openers s')
  depth w s' e = ap length (walk_opens (before ++ w ∷ []) Start s' (steps w (Some s') e))

too_large_true : (w : Word) → is_too_large w ≡ true → IsTooLarge w
too_large_true (Number n) h = ltb-true largest n h
too_large_true (Name x) h = absurd (cc)
too_large_true _ h = absurd (cc)

too_large_false : (w : Word) → is_too_large w ≡ false → IsTooLarge w → ⊥
too_large_false (Number n) h g = omega (arith, ltb-false largest n h)
too_large_false (Name x) h g = g
too_large_false _ h g = g

-- What the answer is at a word, where all words before it are clean.
module _ (room : ℕ) (before : List Word) (s : State) (leads : walk Start before ≡ Some s) (clean : IsClean before) (w : Word) (ws : List Word) where
  breaks : (rule : Rule) → Breaches before w rule → ((other : Rule) → Precedes other rule → Breaches before w other → ⊥) → Answers room (before ++ w ∷ ws) (Err (rule, length before))
  breaks rule b first = at_word (record { before = before; word = w; after = ws; whole = refl; place = refl; clean = clean; breach = b; first = first })

  unexpected : step s w ≡ None → Answers room (before ++ w ∷ ws) (Err (Unexpected, length before))
  unexpected e = breaks Unexpected (lost_begins_nothing (before ++ w ∷ []) (steps before s leads w None e)) none_first
    where
      none_first : (other : Rule) → Precedes other Unexpected → Breaches before w other → ⊥
      none_first Unexpected p b = p
      none_first _ p b = p

  module _ (s' : State) (e : step s w ≡ Some s') where
    begins : Begins (before ++ w ∷ [])
    begins = walked_begins (before ++ w ∷ []) s' (steps before s leads w (Some s') e)

    too_large : is_too_large w ≡ true → Answers room (before ++ w ∷ ws) (Err (LiteralTooLarge, length before))
    too_large t = breaks LiteralTooLarge (too_large_true w t) only_unexpected
      where
        only_unexpected : (other : Rule) → Precedes other LiteralTooLarge → Breaches before w other → ⊥
        only_unexpected Unexpected p b = b begins
        only_unexpected LiteralTooLarge p b = p
        only_unexpected _ p b = p

    too_deep : is_too_large w ≡ false → nat_lt 200 (length (openers s')) ≡ true → Answers room (before ++ w ∷ ws) (Err (TooDeep, length before))
    too_deep t d = breaks TooDeep deep earlier
      where
        deep : 200 < nesting (before ++ w ∷ [])
        deep = omega (arith, ltb-true 200 (length (openers s')) d, depth before s leads w s' e)

        earlier : (other : Rule) → Precedes other TooDeep → Breaches before w other → ⊥
        earlier Unexpected p b = b begins
        earlier LiteralTooLarge p b = too_large_false w t b
        earlier _ p b = p

    still_clean : is_too_large w ≡ false → nat_lt 200 (length (openers s')) ≡ false → IsClean (before ++ w ∷ [])
    still_clean t d = clean_more before w clean here
      where
        here : (rule : Rule) → Breaches before w rule → ⊥
        here Unexpected b = b begins
        here LiteralTooLarge b = too_large_false w t b
        here TooDeep b = omega (arith, ltb-false 200 (length (openers s')) d, depth before s leads w s' e, b)
        here TooManyNodes b = b

-- At the end of the words.
last_answer : (room : ℕ) (ws : List Word) (s : State) → walk Start ws ≡ Some s → IsClean ws → Answers room ws (at_last room (length ws) (final s))
last_answer room ws s leads clean = go (final s) refl
  where
    ran : run Start ws ≡ final s
    ran = ap (run Start) (sym (append_nothing ws)) ∙ run_append ws [] Start ∙ ap (λ o. followed o (λ u. run u [])) leads

    fitting : (T : Trees) (b : Bool) → nat_lt room (all_nodes T) ≡ b → final s ≡ Some T → Answers room ws (within_room b (length ws) T)
    fitting T true b e = too_many T clean (sound ws Start T (ran ∙ e)) (ltb-true room (all_nodes T) b) refl refl
    fitting T false b e = record { spelled = sound ws Start T (ran ∙ e); only = λ other h. some_same (sym (complete ws Start other h) ∙ ran ∙ e); clean = clean; fits = omega (arith, ltb-false room (all_nodes T) b) }

    go : (o : Option Trees) → final s ≡ o → Answers room ws (at_last room (length ws) o)
    go None e = at_end clean (λ T h. none_is_not_some (sym e ∙ sym ran ∙ complete ws Start T h)) refl refl
    go (Some T) e = fitting T (nat_lt room (all_nodes T)) refl e

pub read_answers : (room : ℕ) (ws before : List Word) (s : State) → walk Start before ≡ Some s → IsClean before → Answers room (before ++ ws) (read_from room (length before) s ws)
read_answers room [] before s leads clean = subst (λ x. Answers room x (at_last room (length before) (final s))) (sym (append_nothing before)) (last_answer room before s leads clean)
read_answers room (w ∷ ws) before s leads clean = go (step s w) refl (λ s'. read_answers room ws (before ++ w ∷ []) s')
  where
    Goal : Result State Rule → Type 0
    Goal r = Answers room (before ++ w ∷ ws) (going_on (length before) r (λ s'. read_from room (length before + 1) s' ws))

    Rest : Type 0
    Rest = (s' : State) → walk Start (before ++ w ∷ []) ≡ Some s' → IsClean (before ++ w ∷ []) → Answers room ((before ++ w ∷ []) ++ ws) (read_from room (length (before ++ w ∷ [])) s' ws)

    further : (s' : State) → step s w ≡ Some s' → is_too_large w ≡ false → (b : Bool) → nat_lt 200 (length (openers s')) ≡ b → Rest → Goal (within_depth b s')
    further s' e t true d rest = too_deep room before s leads clean w ws s' e t d
    further s' e t false d rest =
        subst (λ x. Answers room x (read_from room (length before + 1) s' ws)) (regroup before w ws)
        (subst (λ n. Answers room ((before ++ w ∷ []) ++ ws) (read_from room n s' ws)) (sym (one_more before w))
        (rest s' (steps before s leads w (Some s') e) (still_clean room before s leads clean w ws s' e t d)))

    limited : (s' : State) → step s w ≡ Some s' → (b : Bool) → is_too_large w ≡ b → Rest → Goal (within_limits b s')
    limited s' e true t rest = too_large room before s leads clean w ws s' e t
    limited s' e false t rest = further s' e t (nat_lt 200 (length (openers s'))) refl rest

    go : (o : Option State) → step s w ≡ o → Rest → Goal (expected w o)
    go None e rest = unexpected room before s leads clean w ws e
    go (Some s') e rest = limited s' e (is_too_large w) refl rest

-- The answer for the words of a source.
pub read_answers_all : (room : ℕ) (ws : List Word) → Answers room ws (read room ws)
read_answers_all room ws = read_answers room ws [] Start refl clean_none
