-- Some function or procedure runs at each event, by the definition.
use Rattle.std.proofs.Common.{◌≡◌, sym, ap, ◌∙◌, Bool, true, ◌&&◌, List, [], ◌∷◌, map, refl, ℕ}
use Rattle.std.specs.List.{list_all}
use Rattle.pd_tree.specs.Program.{Program, item_at}
use Rattle.pd_meaning.specs.Meaning.{Verdicts, meaning_of}
use Rattle.pd_running.specs.Running.{moments, IsCovered}
use Rattle.pd_running.specs.Laws.{running_with}
use Rattle.pd_running.proofs.Stack.{stack_runs, none_stacked}
use Rattle.pd_nesting.specs.Nesting.{is_rooted}
use Rattle.pd_nesting.proofs.Covering.{meaning_in, is_in}

all_map : {A B : Type 0} (f : B → Bool) (g : A → B) (xs : List A) → list_all f (map g xs) ≡ list_all (λ x. f (g x)) xs
all_map f g [] = refl
all_map f g (x ∷ xs) = ap (λ b. f (g x) && b) (all_map f g xs)

pub covered_run : (p : Program) (v : Verdicts) (fuel entry : ℕ) → is_rooted p (item_at p entry).root ≡ true → IsCovered p (meaning_of p entry fuel v).events
covered_run p v fuel entry rooted =
    let h = meaning_in p v entry fuel rooted in
    sym (all_map (is_in p) running_with (moments (meaning_of p entry fuel v).events))
    ∙ ap (list_all (is_in p)) (stack_runs (meaning_of p entry fuel v).events [] [] 0 none_stacked h.0)
    ∙ h.1
