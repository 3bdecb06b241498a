-- The answer is the tree that is spelled, or the first breach.
use Rattle.std.proofs.Common.{◌≡◌, ℕ, Bool, true, false, List, [], ◌∷◌, ◌++◌, length, Result, Err, ◌+◌, ◌<◌, arith, length-append, Option, Some, None, ◌⊎◌, inl, inr, refl, sym, ap, ◌∙◌, subst, append_assoc}
use Rattle.std.specs.Prelude.{nat_lt}
use Rattle.std.proofs.lemmas.Bool.{ltb-true, ltb-false}
use Rattle.pd_pl0_spell.specs.Words.{Word, Name, Number, Tree}
use Rattle.pd_pl0_spell.specs.Names.{Rule, Unexpected, LiteralTooLarge, Doubled, Undeclared, NotAssignable, NotAProcedure, NotAValue, TooDeep, TooManyNodes, Rules, no_rule, every_rule, same, only, Keeps}
use Rattle.pd_pl0_spell.specs.Grammar.{Program}
use Rattle.pd_pl0_spell.specs.Machine.{State, start, step, role_next, broken, final, followed}
use Rattle.pd_pl0_spell.specs.Refusals.{nesting, Begins, largest, IsTooLarge, Breaches, IsClean, rank, Precedes, nodes, at_word, at_end, too_many, Answers}
use Rattle.pd_pl0_spell.specs.Reading.{depth, is_too_large, within_depth, within_names, within_limits, expected, within_room, at_last, going_on, read_from, read}
use Rattle.pd_pl0_spell.proofs.Keeping.{kept, kept_by, step_within, run_within, walk_within, keeps_kept, none_is_not_some, some_same}
use Rattle.pd_pl0_spell.proofs.Forward.{complete, append_none}
use Rattle.pd_pl0_spell.proofs.Backward.{sound}
use Rattle.pd_pl0_spell.proofs.Opens.{walk_opens}
use Rattle.pd_pl0_spell.proofs.Walks.{program_of, completes_of, walk_append, walked_begins, lost_begins_nothing, loosened, run_all, no_rule_step, broken_on_names, name_rank, precedes_apart}

-- The last word of a list, in any way to split the list.
last_split : (xs us vs : List Word) (x v : Word) → xs ++ x ∷ [] ≡ us ++ v ∷ vs → ((xs ≡ us) × (x ≡ v)) ⊎ ((ws : List Word) × (xs ≡ us ++ v ∷ ws))
last_split [] [] vs x v h = inl (refl, cc)
last_split [] (u ∷ []) vs x v h = absurd (cc)
last_split [] (u ∷ u' ∷ us) vs x v h = absurd (cc)
last_split (y ∷ xs) [] vs x v h = let e : y ≡ v = cc in inr (xs, ap (λ z. z ∷ xs) e)
last_split (y ∷ xs) (u ∷ us) vs x v h =
    let e : y ≡ u = cc in
    let t : xs ++ x ∷ [] ≡ us ++ v ∷ vs = cc in
    elim (last_split xs us vs x v t) [ inl g ↦ inl (cons_same e g.0, g.1) | inr g ↦ inr (g.0, cons_same e g.1) ]
  where
    cons_same : {a b : Word} {as' bs : List Word} → a ≡ b → as' ≡ bs → a ∷ as' ≡ b ∷ bs
    cons_same p q = cc

clean_none : IsClean []
clean_none [] after w h rule b = absurd (cc)
clean_none (u ∷ us) after w h rule b = absurd (cc)

clean_more : (before : List Word) (w : Word) → IsClean before → ((rule : Rule) → Breaches before w rule → ⊥) → IsClean (before ++ w ∷ [])
clean_more before w clean here us vs v h rule b =
    elim (last_split before us vs w v h) [
      | inl g ↦ here rule (subst (λ x. Breaches x w rule) (sym g.0) (subst (λ x. Breaches us x rule) (sym g.1) b))
      | inr g ↦ clean us g.0 v g.1 rule b
    ]

regroup : (before : List Word) (w : Word) (ws : List Word) → (before ++ w ∷ []) ++ ws ≡ before ++ w ∷ ws
regroup before w ws = append_assoc before (w ∷ []) ws

one_more : (before : List Word) (w : Word) → length before + 1 ≡ length (before ++ w ∷ [])
one_more before w = sym (length-append before (w ∷ []))

too_large_true : (w : Word) → is_too_large w ≡ true → IsTooLarge w
too_large_true (Number v) h = ltb-true largest v h
too_large_true (Name x) h = absurd (cc)
too_large_true _ h = absurd (cc)

too_large_false : (w : Word) → is_too_large w ≡ false → IsTooLarge w → ⊥
too_large_false (Number v) h g = omega (arith, ltb-false largest v h)
too_large_false (Name x) h g = g
too_large_false _ h g = g

-- A rule on names is breached where the words begin no program that keeps it.
named_breach : (before : List Word) (w : Word) (rule : Rule) → same rule rule ≡ true → (Begins (only rule) (before ++ w ∷ []) → ⊥) → Breaches before w rule
named_breach before w Doubled s lost = lost
named_breach before w Undeclared s lost = lost
named_breach before w NotAssignable s lost = lost
named_breach before w NotAProcedure s lost = lost
named_breach before w NotAValue s lost = lost
named_breach before w _ s lost = absurd (cc)

-- What the answer is at a word, where the words before it are clean and lead to a state.
module _ (room : ℕ) (before : List Word) (s : State) (leads : walk_within every_rule start before ≡ Some s) (clean : IsClean before) (w : Word) (ws : List Word) where
  steps : (n : Rules) (o : Option State) → step_within n s w ≡ o → walk_within n start (before ++ w ∷ []) ≡ o
  steps n o e = walk_append n before (w ∷ []) start ∙ ap (λ x. followed x (λ s'. walk_within n s' (w ∷ []))) (loosened n before start s leads) ∙ last (step_within n s w) ∙ e
    where
      last : (x : Option State) → followed x (λ s'. walk_within n s' []) ≡ x
      last None = refl
      last (Some u) = refl

  lost : (n : Rules) → step_within n s w ≡ None → Begins n (before ++ w ∷ []) → ⊥
  lost n e = lost_begins_nothing n (before ++ w ∷ []) (steps n None e)

  breaks : (rule : Rule) → Breaches before w rule → ((other : Rule) → Precedes other rule → Breaches before w other → ⊥) → Answers room (before ++ w ∷ ws) (Err (rule, length before))
  breaks rule b first = at_word (record { before = before; word = w; after = ws; whole = refl; place = refl; clean = clean; breach = b; first = first })

  unexpected : step s w ≡ None → Answers room (before ++ w ∷ ws) (Err (Unexpected, length before))
  unexpected e = breaks Unexpected (lost no_rule (no_rule_step (broken s w) (step s w) ∙ e)) (λ other p b. omega (arith, p))

  module _ (s' : State) (e : step s w ≡ Some s') where
    begins : (n : Rules) → Keeps n (broken s w) → Begins n (before ++ w ∷ [])
    begins n h = walked_begins n (before ++ w ∷ []) s' (steps n (Some s') (keeps_kept n (broken s w) (step s w) h ∙ e))

    begins_grammar : Begins no_rule (before ++ w ∷ [])
    begins_grammar = walked_begins no_rule (before ++ w ∷ []) s' (steps no_rule (Some s') (no_rule_step (broken s w) (step s w) ∙ e))

    deep : nesting (before ++ w ∷ []) ≡ depth s'
    deep = ap (λ o. length o.openers) (walk_opens no_rule (before ++ w ∷ []) start s' (steps no_rule (Some s') (no_rule_step (broken s w) (step s w) ∙ e)))

    too_large : is_too_large w ≡ true → Answers room (before ++ w ∷ ws) (Err (LiteralTooLarge, length before))
    too_large t = breaks LiteralTooLarge (too_large_true w t) only_unexpected
      where
        only_unexpected : (other : Rule) → Precedes other LiteralTooLarge → Breaches before w other → ⊥
        only_unexpected Unexpected p b = b begins_grammar
        only_unexpected _ p b = omega (arith, p)

    -- a rule on names
    badly_named : is_too_large w ≡ false → (rule : Rule) → broken s w ≡ Some rule → Answers room (before ++ w ∷ ws) (Err (rule, length before))
    badly_named t rule f = breaks rule (named_breach before w rule named (lost (only rule) refused)) earlier
      where
        named : same rule rule ≡ true
        named = broken_on_names (role_next s) w rule f

        refused : step_within (only rule) s w ≡ None
        refused = ap (λ b. kept_by (only rule) b (step s w)) f ∙ ap (λ b. kept b (step s w)) named

        keeps : (other : Rule) → Precedes other rule → Keeps (only other) (broken s w)
        keeps other p = subst (λ b. Keeps (only other) b) (sym f) (precedes_apart other rule p)

        earlier : (other : Rule) → Precedes other rule → Breaches before w other → ⊥
        earlier Unexpected p b = b begins_grammar
        earlier LiteralTooLarge p b = too_large_false w t b
        earlier Doubled p b = b (begins (only Doubled) (keeps Doubled p))
        earlier Undeclared p b = b (begins (only Undeclared) (keeps Undeclared p))
        earlier NotAssignable p b = b (begins (only NotAssignable) (keeps NotAssignable p))
        earlier NotAProcedure p b = b (begins (only NotAProcedure) (keeps NotAProcedure p))
        earlier NotAValue p b = b (begins (only NotAValue) (keeps NotAValue p))
        earlier TooDeep p b = omega (arith, p, name_rank rule named)
        earlier TooManyNodes p b = b

    module _ (t : is_too_large w ≡ false) (f : broken s w ≡ None) where
      keeps_all : (n : Rules) → Keeps n (broken s w)
      keeps_all n = subst (λ b. Keeps n b) (sym f) tt

      -- a word that leads on breaks no other rule than that of depth
      only_deep : (rule : Rule) → (rule ≡ TooDeep → ⊥) → Breaches before w rule → ⊥
      only_deep Unexpected h b = b begins_grammar
      only_deep LiteralTooLarge h b = too_large_false w t b
      only_deep Doubled h b = b (begins (only Doubled) (keeps_all (only Doubled)))
      only_deep Undeclared h b = b (begins (only Undeclared) (keeps_all (only Undeclared)))
      only_deep NotAssignable h b = b (begins (only NotAssignable) (keeps_all (only NotAssignable)))
      only_deep NotAProcedure h b = b (begins (only NotAProcedure) (keeps_all (only NotAProcedure)))
      only_deep NotAValue h b = b (begins (only NotAValue) (keeps_all (only NotAValue)))
      only_deep TooDeep h b = h refl
      only_deep TooManyNodes h b = b

      too_deep : nat_lt 200 (depth s') ≡ true → Answers room (before ++ w ∷ ws) (Err (TooDeep, length before))
      too_deep d = breaks TooDeep (omega (arith, ltb-true 200 (depth s') d, deep)) (λ other p b. only_deep other (λ q. omega (arith, p, ap rank q)) b)

      still_clean : nat_lt 200 (depth s') ≡ false → IsClean (before ++ w ∷ [])
      still_clean d = clean_more before w clean here
        where
          shallow : 200 < nesting (before ++ w ∷ []) → ⊥
          shallow b = omega (arith, ltb-false 200 (depth s') d, deep, b)

          here : (rule : Rule) → Breaches before w rule → ⊥
          here TooDeep b = shallow b
          here Unexpected b = b begins_grammar
          here LiteralTooLarge b = too_large_false w t b
          here Doubled b = b (begins (only Doubled) (keeps_all (only Doubled)))
          here Undeclared b = b (begins (only Undeclared) (keeps_all (only Undeclared)))
          here NotAssignable b = b (begins (only NotAssignable) (keeps_all (only NotAssignable)))
          here NotAProcedure b = b (begins (only NotAProcedure) (keeps_all (only NotAProcedure)))
          here NotAValue b = b (begins (only NotAValue) (keeps_all (only NotAValue)))
          here TooManyNodes b = b

      goes_on : walk_within every_rule start (before ++ w ∷ []) ≡ Some s'
      goes_on = steps every_rule (Some s') (keeps_kept every_rule (broken s w) (step s w) (keeps_all every_rule) ∙ e)

-- At the end of the words.
last_answer : (room : ℕ) (ws : List Word) (s : State) → walk_within every_rule start ws ≡ Some s → IsClean ws → Answers room ws (at_last room (length ws) (final s))
last_answer room ws s leads clean = go (final s) refl
  where
    ran : (n : Rules) → run_within n start ws ≡ final s
    ran n = run_all n ws s leads

    spelled : (T : Tree) → final s ≡ Some T → Program every_rule ws T
    spelled T e = program_of every_rule ws T (sound every_rule ws start T (ran every_rule ∙ e))

    read_as : (T : Tree) → Program no_rule ws T → final s ≡ Some T
    read_as T h = sym (ran no_rule) ∙ complete no_rule ws start T (completes_of no_rule h)

    fitting : (T : Tree) (b : Bool) → nat_lt room (nodes T) ≡ b → final s ≡ Some T → Answers room ws (within_room b (length ws) T)
    fitting T true b e = too_many T clean (spelled T e) (ltb-true room (nodes T) b) refl refl
    fitting T false b e = record { spelled = spelled T e; only_one = λ other h. some_same (sym (read_as other h) ∙ e); clean = clean; fits = omega (arith, ltb-false room (nodes T) b) }

    go : (o : Option Tree) → final s ≡ o → Answers room ws (at_last room (length ws) o)
    go None e = at_end clean (λ T h. none_is_not_some (sym e ∙ read_as T h)) refl refl
    go (Some T) e = fitting T (nat_lt room (nodes T)) refl e

pub read_answers : (room : ℕ) (ws before : List Word) (s : State) → walk_within every_rule start before ≡ Some s → IsClean before → Answers room (before ++ ws) (read_from room (length before) s ws)
read_answers room [] before s leads clean = subst (λ x. Answers room x (at_last room (length before) (final s))) (sym (append_none before)) (last_answer room before s leads clean)
read_answers room (w ∷ ws) before s leads clean = go (step s w) refl (λ s'. read_answers room ws (before ++ w ∷ []) s')
  where
    Goal : Result State Rule → Type 0
    Goal r = Answers room (before ++ w ∷ ws) (going_on (length before) r (λ s'. read_from room (length before + 1) s' ws))

    Rest : Type 0
    Rest = (s' : State) → walk_within every_rule start (before ++ w ∷ []) ≡ Some s' → IsClean (before ++ w ∷ []) → Answers room ((before ++ w ∷ []) ++ ws) (read_from room (length (before ++ w ∷ [])) s' ws)

    further : (s' : State) → step s w ≡ Some s' → is_too_large w ≡ false → broken s w ≡ None → (b : Bool) → nat_lt 200 (depth s') ≡ b → Rest → Goal (within_depth b s')
    further s' e t f true d rest = too_deep room before s leads clean w ws s' e t f d
    further s' e t f false d rest =
        subst (λ x. Answers room x (read_from room (length before + 1) s' ws)) (regroup before w ws)
        (subst (λ n. Answers room ((before ++ w ∷ []) ++ ws) (read_from room n s' ws)) (sym (one_more before w))
        (rest s' (goes_on room before s leads clean w ws s' e t f) (still_clean room before s leads clean w ws s' e t f d)))

    named : (s' : State) → step s w ≡ Some s' → is_too_large w ≡ false → (b : Option Rule) → broken s w ≡ b → Rest → Goal (within_names b s')
    named s' e t (Some rule) f rest = badly_named room before s leads clean w ws s' e t rule f
    named s' e t None f rest = further s' e t f (nat_lt 200 (depth s')) refl rest

    limited : (s' : State) → step s w ≡ Some s' → (b : Bool) → is_too_large w ≡ b → Rest → Goal (within_limits b (broken s w) s')
    limited s' e true t rest = too_large room before s leads clean w ws s' e t
    limited s' e false t rest = named s' e t (broken s w) refl rest

    go : (o : Option State) → step s w ≡ o → Rest → Goal (expected w (broken s w) o)
    go None e rest = unexpected room before s leads clean w ws e
    go (Some s') e rest = limited s' e (is_too_large w) refl rest

-- The answer for the words of a source.
pub read_answers_all : (room : ℕ) (ws : List Word) → Answers room ws (read room ws)
read_answers_all room ws = read_answers room ws [] start refl clean_none
