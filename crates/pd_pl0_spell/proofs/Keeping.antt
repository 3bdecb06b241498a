-- The machine that keeps some of the rules on names.
use Rattle.std.proofs.Common.{◌≡◌, Bool, true, false, List, [], ◌∷◌, Option, Some, None, refl}
use Rattle.pd_pl0_spell.specs.Words.{Word, Tree}
use Rattle.pd_pl0_spell.specs.Names.{Rule, Rules, IsLetBe, Keeps}
use Rattle.pd_pl0_spell.specs.Machine.{State, step, broken, final, followed}

pub none_is_not_some : {A : Type 0} {a : A} → None ≡ Some a → ⊥
none_is_not_some h = cc

pub some_same : {A : Type 0} {a b : A} → Some a ≡ Some b → a ≡ b
some_same h = cc

abbrev pub kept : Bool → Option State → Option State
kept true o = None
kept false o = o

abbrev pub kept_by : Rules → Option Rule → Option State → Option State
kept_by n None o = o
kept_by n (Some rule) o = kept (n rule) o

abbrev pub step_within : Rules → State → Word → Option State
step_within n s w = kept_by n (broken s w) (step s w)

abbrev pub run_within : Rules → State → List Word → Option Tree
run_within n s [] = final s
run_within n s (w ∷ ws) = followed (step_within n s w) (λ s'. run_within n s' ws)

-- where the words lead
abbrev pub walk_within : Rules → State → List Word → Option State
walk_within n s [] = Some s
walk_within n s (w ∷ ws) = followed (step_within n s w) (λ s'. walk_within n s' ws)

pub keeps_kept : (n : Rules) (b : Option Rule) (o : Option State) → Keeps n b → kept_by n b o ≡ o
keeps_kept n None o h = refl
keeps_kept n (Some rule) o h = go (n rule) h
  where
    go : (b : Bool) → IsLetBe b → kept b o ≡ o
    go true h = absurd h
    go false h = refl
