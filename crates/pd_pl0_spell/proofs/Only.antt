-- The answer is the only one: what is spelled within the rules is accepted, and a first breach is refused as that.
use Rattle.std.proofs.Common.{◌≡◌, ℕ, zero, suc, ◌<◌, ◌≤◌, Bool, true, false, List, [], ◌∷◌, ◌++◌, length, Result, Ok, Err, ◌⊎◌, inl, inr, refl, sym, ap, ◌∙◌, subst, arith, append_assoc}
use Rattle.std.specs.Prelude.{nat_lt}
use Rattle.std.proofs.lemmas.Bool.{ltb-true, ltb-false}
use Rattle.pd_pl0_spell.specs.Words.{Word, Tree}
use Rattle.pd_pl0_spell.specs.Names.{Rule, Unexpected, LiteralTooLarge, Doubled, Undeclared, NotAssignable, NotAProcedure, NotAValue, TooDeep, TooManyNodes, Rules, no_rule, every_rule, only}
use Rattle.pd_pl0_spell.specs.Grammar.{Program}
use Rattle.pd_pl0_spell.specs.Refusals.{nesting, Begins, IsWithinLimits, Breaches, IsClean, rank, Precedes, FirstBreach, nodes, Refuses, at_word, at_end, too_many, Answers}
use Rattle.pd_pl0_spell.specs.Reading.{read}
use Rattle.pd_pl0_spell.proofs.Walks.{loosened_program, only_one_tree}
use Rattle.pd_pl0_spell.proofs.Answer.{read_answers_all}

pub accepted : (room : ℕ) (ws : List Word) (T : Tree) → Program no_rule ws T → IsClean ws → nodes T ≤ room → read room ws ≡ Ok T
accepted room ws T p c fits = go (read room ws) refl (read_answers_all room ws)
  where
    refusal : (rule : Rule) (at : ℕ) → Refuses room ws rule at → ⊥
    refusal rule at (at_word f) = c f.before f.after f.word f.whole rule f.breach
    refusal rule at (at_end clean none r a) = none T p
    refusal rule at (too_many U clean q big r a) = omega (arith, ap nodes (only_one_tree ws T U p q))

    go : (r : Result Tree (Rule × ℕ)) → read room ws ≡ r → Answers room ws r → read room ws ≡ Ok T
    go (Ok U) e h = e ∙ ap (λ x. Ok x) (sym (h.only_one T p))
    go (Err x) e h = absurd (refusal x.0 x.1 h)

-- What is spelled with all names as the declarations in scope allow breaks no rule but one of the limits.
keeping_clean : (ws : List Word) (T : Tree) → Program every_rule ws T → IsWithinLimits ws → IsClean ws
keeping_clean ws T p limits before after w e = here
  where
    begins : (n : Rules) → Begins n (before ++ w ∷ [])
    begins n = (after, T, subst (λ x. Program n x T) (e ∙ sym (append_assoc before (w ∷ []) after)) (loosened_program n ws T p))

    shallow : 200 < nesting (before ++ w ∷ []) → ⊥
    shallow b = omega (arith, (limits before after w e).1, b)

    here : (rule : Rule) → Breaches before w rule → ⊥
    here Unexpected b = b (begins no_rule)
    here LiteralTooLarge b = (limits before after w e).0 b
    here Doubled b = b (begins (only Doubled))
    here Undeclared b = b (begins (only Undeclared))
    here NotAssignable b = b (begins (only NotAssignable))
    here NotAProcedure b = b (begins (only NotAProcedure))
    here NotAValue b = b (begins (only NotAValue))
    here TooDeep b = shallow b
    here TooManyNodes b = b

pub spelled : (room : ℕ) (ws : List Word) (T : Tree) → Program every_rule ws T → IsWithinLimits ws → nodes T ≤ room → read room ws ≡ Ok T
spelled room ws T p limits fits = accepted room ws T (loosened_program no_rule ws T p) (keeping_clean ws T p limits) fits

cons_same : {a b : Word} {xs ys : List Word} → a ≡ b → xs ≡ ys → a ∷ xs ≡ b ∷ ys
cons_same p q = cc

-- two ways to split a list: at one place, or one behind the other
splits : (xs us vs ws : List Word) (x u : Word) → xs ++ x ∷ vs ≡ us ++ u ∷ ws → ((xs ≡ us) × (x ≡ u)) ⊎ (((ys : List Word) × (us ≡ xs ++ x ∷ ys)) ⊎ ((ys : List Word) × (xs ≡ us ++ u ∷ ys)))
splits [] [] vs ws x u h = inl (refl, cc)
splits [] (y ∷ us) vs ws x u h = let e : x ≡ y = cc in inr (inl (us, ap (λ z. z ∷ us) (sym e)))
splits (y ∷ xs) [] vs ws x u h = let e : y ≡ u = cc in inr (inr (xs, ap (λ z. z ∷ xs) e))
splits (y ∷ xs) (z ∷ us) vs ws x u h =
    let e : y ≡ z = cc in
    let t : xs ++ x ∷ vs ≡ us ++ u ∷ ws = cc in
    elim (splits xs us vs ws x u t) [ inl g ↦ inl (cons_same e g.0, g.1) | inr g ↦ inr (elim g [ inl k ↦ inl (k.0, cons_same (sym e) k.1) | inr k ↦ inr (k.0, cons_same e k.1) ]) ]

-- Each rule has its own place in the order.
ranked : ℕ → Rule
ranked zero = Unexpected
ranked (suc zero) = LiteralTooLarge
ranked (suc (suc zero)) = Doubled
ranked (suc (suc (suc zero))) = Undeclared
ranked (suc (suc (suc (suc zero)))) = NotAssignable
ranked (suc (suc (suc (suc (suc zero))))) = NotAProcedure
ranked (suc (suc (suc (suc (suc (suc zero)))))) = NotAValue
ranked (suc (suc (suc (suc (suc (suc (suc zero))))))) = TooDeep
ranked _ = TooManyNodes

ranked_back : (r : Rule) → ranked (rank r) ≡ r
unfolding ranked
ranked_back Unexpected = refl
ranked_back LiteralTooLarge = refl
ranked_back Doubled = refl
ranked_back Undeclared = refl
ranked_back NotAssignable = refl
ranked_back NotAProcedure = refl
ranked_back NotAValue = refl
ranked_back TooDeep = refl
ranked_back TooManyNodes = refl

ordered : (r s : Rule) → (r ≡ s) ⊎ (Precedes r s ⊎ Precedes s r)
ordered r s = before (nat_lt (rank r) (rank s)) refl
  where
    behind : (b : Bool) → nat_lt (rank s) (rank r) ≡ b → nat_lt (rank r) (rank s) ≡ false → (r ≡ s) ⊎ (Precedes r s ⊎ Precedes s r)
    behind true e h = inr (inr (ltb-true (rank s) (rank r) e))
    behind false e h =
        let equal : rank r ≡ rank s = omega (arith, ltb-false (rank s) (rank r) e, ltb-false (rank r) (rank s) h) in
        inl (sym (ranked_back r) ∙ ap ranked equal ∙ ranked_back s)

    before : (b : Bool) → nat_lt (rank r) (rank s) ≡ b → (r ≡ s) ⊎ (Precedes r s ⊎ Precedes s r)
    before true e = inr (inl (ltb-true (rank r) (rank s) e))
    before false e = behind (nat_lt (rank s) (rank r)) refl e

pub same_breach : (ws : List Word) (r s : Rule) (m n : ℕ) → FirstBreach ws r m → FirstBreach ws s n → (r ≡ s) × (m ≡ n)
same_breach ws r s m n f g = go (splits f.before g.before f.after g.after f.word g.word (sym f.whole ∙ g.whole))
  where
    there : f.before ≡ g.before → f.word ≡ g.word → Breaches f.before f.word s
    there p q = subst (λ x. Breaches x f.word s) (sym p) (subst (λ x. Breaches g.before x s) (sym q) g.breach)

    here : f.before ≡ g.before → f.word ≡ g.word → Breaches g.before g.word r
    here p q = subst (λ x. Breaches x g.word r) p (subst (λ x. Breaches f.before x r) q f.breach)

    go : ((f.before ≡ g.before) × (f.word ≡ g.word)) ⊎ (((ys : List Word) × (g.before ≡ f.before ++ f.word ∷ ys)) ⊎ ((ys : List Word) × (f.before ≡ g.before ++ g.word ∷ ys))) → (r ≡ s) × (m ≡ n)
    go (inl (p, q)) = elim (ordered r s) [
      | inl e ↦ (e, sym f.place ∙ ap length p ∙ g.place)
      | inr o ↦ elim o [ inl a ↦ absurd (g.first r a (here p q)) | inr a ↦ absurd (f.first s a (there p q)) ]
    ]
    go (inr (inl (ys, e))) = absurd (g.clean f.before ys f.word e r f.breach)
    go (inr (inr (ys, e))) = absurd (f.clean g.before ys g.word e s g.breach)

pub refused : (room : ℕ) (ws : List Word) (rule : Rule) (at : ℕ) → FirstBreach ws rule at → read room ws ≡ Err (rule, at)
refused room ws rule at f = go (read room ws) refl (read_answers_all room ws)
  where
    refusal : (r : Rule) (n : ℕ) → read room ws ≡ Err (r, n) → Refuses room ws r n → read room ws ≡ Err (rule, at)
    refusal r n e (at_word g) = let s = same_breach ws r rule n at g f in e ∙ ap (λ x. Err (x, n)) s.0 ∙ ap (λ x. Err (rule, x)) s.1
    refusal r n e (at_end clean none p q) = absurd (clean f.before f.after f.word f.whole rule f.breach)
    refusal r n e (too_many U clean q big p a) = absurd (clean f.before f.after f.word f.whole rule f.breach)

    go : (r : Result Tree (Rule × ℕ)) → read room ws ≡ r → Answers room ws r → read room ws ≡ Err (rule, at)
    go (Ok U) e h = absurd (h.clean f.before f.after f.word f.whole rule f.breach)
    go (Err x) e h = refusal x.0 x.1 e h
