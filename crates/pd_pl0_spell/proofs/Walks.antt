-- Where words lead, and what they begin, at each choice of the rules on names.
use Rattle.std.proofs.Common.{◌≡◌, ℕ, ◌<◌, ◌≤◌, Bool, true, false, List, [], ◌∷◌, ◌++◌, Option, Some, None, refl, sym, ap, ◌∙◌, subst, arith}
use Rattle.pd_pl0_spell.specs.Words.{Word, Name, Tree}
use Rattle.pd_pl0_spell.specs.Names.{Rule, Doubled, Undeclared, NotAssignable, NotAProcedure, NotAValue, Kind, AConstant, AVariable, AProcedure, Scope, found, visible, Role, Declaring, Assigning, Calling, Reading, broken_declaring, broken_assigning, broken_calling, broken_reading, broken_by, Rules, no_rule, every_rule, same, IsLetBe}
use Rattle.pd_pl0_spell.specs.Grammar.{a_block, Program, a_program}
use Rattle.pd_pl0_spell.specs.Machine.{Main, State, start, step, broken_in, broken, final, run, followed}
use Rattle.pd_pl0_spell.specs.Refusals.{Begins, rank}
use Rattle.pd_pl0_spell.proofs.Completes.{comes, at_the_end, Completes}
use Rattle.pd_pl0_spell.proofs.Keeping.{kept_by, step_within, run_within, walk_within, none_is_not_some, some_same}
use Rattle.pd_pl0_spell.proofs.Forward.{block_begun, complete, append_none}
use Rattle.pd_pl0_spell.proofs.Backward.{sound}
use Rattle.pd_pl0_spell.proofs.Completion.{completion, completed}

module _ (n : Rules) where
  -- A program is what completes the first state.
  pub program_of : (ts : List Word) (T : Tree) → Completes n start T ts → Program n ts T
  program_of ts T (cs, s, r, c, (vs, s', r', v, (ps, s'', r'', p, (a, r''', g, comes (at_the_end e))))) = subst (λ x. Program n ts x) e (a_program (a_block c v p g))

  pub completes_of : {ts : List Word} {T : Tree} → Program n ts T → Completes n start T ts
  completes_of (a_program d) = block_begun n Main _ d (comes (at_the_end refl))

  pub run_append : (ts us : List Word) (s : State) → run_within n s (ts ++ us) ≡ followed (walk_within n s ts) (λ s'. run_within n s' us)
  run_append [] us s = refl
  run_append (w ∷ ts) us s = go (step_within n s w) (λ s'. run_append ts us s')
    where
      go : (o : Option State) → ((s' : State) → run_within n s' (ts ++ us) ≡ followed (walk_within n s' ts) (λ s''. run_within n s'' us)) → followed o (λ s'. run_within n s' (ts ++ us)) ≡ followed (followed o (λ s'. walk_within n s' ts)) (λ s'. run_within n s' us)
      go None ih = refl
      go (Some s') ih = ih s'

  pub walk_append : (ts us : List Word) (s : State) → walk_within n s (ts ++ us) ≡ followed (walk_within n s ts) (λ s'. walk_within n s' us)
  walk_append [] us s = refl
  walk_append (w ∷ ts) us s = go (step_within n s w) (λ s'. walk_append ts us s')
    where
      go : (o : Option State) → ((s' : State) → walk_within n s' (ts ++ us) ≡ followed (walk_within n s' ts) (λ s''. walk_within n s'' us)) → followed o (λ s'. walk_within n s' (ts ++ us)) ≡ followed (followed o (λ s'. walk_within n s' ts)) (λ s'. walk_within n s' us)
      go None ih = refl
      go (Some s') ih = ih s'

  pub walked_begins : (ts : List Word) (s : State) → walk_within n start ts ≡ Some s → Begins n ts
  walked_begins ts s h =
      let c = completed n s in
      (completion s, c.0, program_of (ts ++ completion s) c.0 (sound n (ts ++ completion s) start c.0 (run_append ts (completion s) start ∙ ap (λ o. followed o (λ s'. run_within n s' (completion s))) h ∙ c.1)))

  pub lost_begins_nothing : (ts : List Word) → walk_within n start ts ≡ None → Begins n ts → ⊥
  lost_begins_nothing ts h (more, T, e) =
      none_is_not_some (sym (ap (λ o. followed o (λ s'. run_within n s' more)) h) ∙ sym (run_append ts more start) ∙ complete n (ts ++ more) start T (completes_of e))

-- Where all rules on names are kept, each choice of them is.
loosened_step : (n : Rules) (b : Option Rule) (o : Option State) (s : State) → kept_by every_rule b o ≡ Some s → kept_by n b o ≡ Some s
loosened_step n None o s h = h
loosened_step n (Some rule) o s h = absurd (none_is_not_some h)

pub loosened : (n : Rules) (ts : List Word) (s s' : State) → walk_within every_rule s ts ≡ Some s' → walk_within n s ts ≡ Some s'
loosened n [] s s' h = h
loosened n (w ∷ ts) s s' h = go (step_within every_rule s w) refl (λ u. loosened n ts u s') h
  where
    go : (o : Option State) → step_within every_rule s w ≡ o → ((u : State) → walk_within every_rule u ts ≡ Some s' → walk_within n u ts ≡ Some s') → followed o (λ u. walk_within every_rule u ts) ≡ Some s' → walk_within n s (w ∷ ts) ≡ Some s'
    go None e ih h = absurd (none_is_not_some h)
    go (Some u) e ih h = ap (λ o. followed o (λ v. walk_within n v ts)) (loosened_step n (broken s w) (step s w) u e) ∙ ih u h

pub run_all : (n : Rules) (ws : List Word) (s : State) → walk_within every_rule start ws ≡ Some s → run_within n start ws ≡ final s
run_all n ws s leads = ap (run_within n start) (sym (append_none ws)) ∙ run_append n ws [] start ∙ ap (λ o. followed o (λ u. run_within n u [])) (loosened n ws start s leads)

-- No two trees are spelled, whatever names mean, and one that keeps all rules keeps each choice of them.
loosened_run : (n : Rules) (ws : List Word) (s : State) (T : Tree) → run_within every_rule s ws ≡ Some T → run_within n s ws ≡ Some T
loosened_run n [] s T h = h
loosened_run n (w ∷ ws) s T h = go (step_within every_rule s w) refl (λ u. loosened_run n ws u T) h
  where
    go : (o : Option State) → step_within every_rule s w ≡ o → ((u : State) → run_within every_rule u ws ≡ Some T → run_within n u ws ≡ Some T) → followed o (λ u. run_within every_rule u ws) ≡ Some T → run_within n s (w ∷ ws) ≡ Some T
    go None e ih h = absurd (none_is_not_some h)
    go (Some u) e ih h = ap (λ o. followed o (λ v. run_within n v ws)) (loosened_step n (broken s w) (step s w) u e) ∙ ih u h

pub only_one_tree : (ws : List Word) (T U : Tree) → Program no_rule ws T → Program every_rule ws U → T ≡ U
only_one_tree ws T U p q = some_same (sym (complete no_rule ws start T (completes_of no_rule p)) ∙ loosened_run no_rule ws start U (complete every_rule ws start U (completes_of every_rule q)))

pub loosened_program : (n : Rules) (ws : List Word) (T : Tree) → Program every_rule ws T → Program n ws T
loosened_program n ws T p = program_of n ws T (sound n ws start T (loosened_run n ws start T (complete every_rule ws start T (completes_of every_rule p))))

-- The machine without the rules on names.
pub no_rule_step : (b : Option Rule) (o : Option State) → kept_by no_rule b o ≡ o
no_rule_step None o = refl
no_rule_step (Some rule) o = refl

run_freely : (ws : List Word) (s : State) → run_within no_rule s ws ≡ run s ws
run_freely [] s = refl
run_freely (w ∷ ws) s = ap (λ o. followed o (λ u. run_within no_rule u ws)) (no_rule_step (broken s w) (step s w)) ∙ go (step s w) (λ u. run_freely ws u)
  where
    go : (o : Option State) → ((u : State) → run_within no_rule u ws ≡ run u ws) → followed o (λ u. run_within no_rule u ws) ≡ followed o (λ u. run u ws)
    go None ih = refl
    go (Some u) ih = ih u

-- the machine reads what is spelled
pub spelled_run : (ws : List Word) (T : Tree) → Program no_rule ws T → run start ws ≡ Some T
spelled_run ws T p = sym (run_freely ws start) ∙ complete no_rule ws start T (completes_of no_rule p)

-- The rules on names.
abbrev IsOnNames : Rule → Type 0
IsOnNames r = same r r ≡ true

on_names : (r s : Rule) → IsOnNames r → Some r ≡ Some s → IsOnNames s
on_names r s h e = subst IsOnNames (some_same e) h

declaring_on_names : (k : Option Kind) (r : Rule) → broken_declaring k ≡ Some r → IsOnNames r
declaring_on_names None r e = absurd (none_is_not_some e)
declaring_on_names (Some k) r e = on_names Doubled r refl e

assigning_on_names : (k : Option Kind) (r : Rule) → broken_assigning k ≡ Some r → IsOnNames r
assigning_on_names None r e = on_names Undeclared r refl e
assigning_on_names (Some (AConstant v)) r e = on_names NotAssignable r refl e
assigning_on_names (Some AVariable) r e = absurd (none_is_not_some e)
assigning_on_names (Some AProcedure) r e = on_names NotAssignable r refl e

calling_on_names : (k : Option Kind) (r : Rule) → broken_calling k ≡ Some r → IsOnNames r
calling_on_names None r e = absurd (none_is_not_some e)
calling_on_names (Some (AConstant v)) r e = on_names NotAProcedure r refl e
calling_on_names (Some AVariable) r e = on_names NotAProcedure r refl e
calling_on_names (Some AProcedure) r e = absurd (none_is_not_some e)

reading_on_names : (k : Option Kind) (r : Rule) → broken_reading k ≡ Some r → IsOnNames r
reading_on_names None r e = on_names Undeclared r refl e
reading_on_names (Some (AConstant v)) r e = absurd (none_is_not_some e)
reading_on_names (Some AVariable) r e = absurd (none_is_not_some e)
reading_on_names (Some AProcedure) r e = on_names NotAValue r refl e

role_on_names : (role : Role) (s : Scope) (x : List ℕ) (r : Rule) → broken_by role s x ≡ Some r → IsOnNames r
role_on_names Declaring s x r e = declaring_on_names (found x s.own) r e
role_on_names Assigning s x r e = assigning_on_names (visible x s) r e
role_on_names Calling s x r e = calling_on_names (visible x s) r e
role_on_names Reading s x r e = reading_on_names (visible x s) r e

pub broken_on_names : (u : Option (Role × Scope)) (w : Word) (r : Rule) → broken_in u w ≡ Some r → same r r ≡ true
broken_on_names None w r e = absurd (none_is_not_some e)
broken_on_names (Some u) (Name x) r e = role_on_names u.0 u.1 x r e
broken_on_names (Some u) _ r e = absurd (none_is_not_some e)

pub name_rank : (r : Rule) → same r r ≡ true → rank r ≤ 6
name_rank Doubled h = omega arith
name_rank Undeclared h = omega arith
name_rank NotAssignable h = omega arith
name_rank NotAProcedure h = omega arith
name_rank NotAValue h = omega arith
name_rank _ h = absurd (cc)

pub same_rank : (r s : Rule) → same r s ≡ true → rank r ≡ rank s
same_rank Doubled Doubled h = refl
same_rank Undeclared Undeclared h = refl
same_rank NotAssignable NotAssignable h = refl
same_rank NotAProcedure NotAProcedure h = refl
same_rank NotAValue NotAValue h = refl
same_rank _ _ h = absurd (cc)

-- a rule that precedes another isn't this
pub precedes_apart : (r s : Rule) → rank r < rank s → IsLetBe (same r s)
precedes_apart r s h = go (same r s) refl
  where
    go : (b : Bool) → same r s ≡ b → IsLetBe b
    go true e = omega (arith, same_rank r s e, h)
    go false e = tt
