-- One outcome more is taken apart.
use Rattle.std.proofs.Common.{◌≡◌, true, List, [], ◌∷◌, ◌++◌, Option, refl, sym, ap, ◌∙◌}
use Rattle.std.specs.List.{filter_map, list_all, cons_option}
use Rattle.std.proofs.lemmas.Bool.{and_parts, and_from}
use Rattle.std.proofs.lemmas.List.Elements.{filter_map-append}
use Rattle.pd_seats.specs.declared.gathering.Done.{Done}
use Rattle.pd_threads.specs.declared.work.Outcome.{Outcome}
use Rattle.pd_threads.specs.declared.work.Task.{Task}
use Rattle.pd_threads.specs.Returned.{has_come}

module _ {A : Type 0} (f : Outcome → Option A) (ds : List (Done Task)) (d : Done Task) (o : Outcome) (at : d.own.outcome ≡ o) where
  next : filter_map (λ (x : Done Task). f x.own.outcome) (ds ++ d ∷ []) ≡ filter_map (λ (x : Done Task). f x.own.outcome) ds ++ cons_option (f o) []
  next = filter_map-append (λ (x : Done Task). f x.own.outcome) ds (d ∷ []) ∙ ap (λ y. filter_map (λ (x : Done Task). f x.own.outcome) ds ++ cons_option (f y) []) at

  pub one_more : (rs now : List A) → now ≡ rs ++ cons_option (f o) [] → rs ≡ filter_map (λ (x : Done Task). f x.own.outcome) ds → now ≡ filter_map (λ (x : Done Task). f x.own.outcome) (ds ++ d ∷ [])
  one_more rs now is was = is ∙ ap (λ ys. ys ++ cons_option (f o) []) was ∙ sym next

come_after : (ds : List (Done Task)) (d : Done Task) → list_all (λ (x : Done Task). has_come x.own.outcome) ds ≡ true → has_come d.own.outcome ≡ true → list_all (λ (x : Done Task). has_come x.own.outcome) (ds ++ d ∷ []) ≡ true
come_after [] d was one = and_from (has_come d.own.outcome) true one refl
come_after (x ∷ xs) d was one =
    let p = and_parts (has_come x.own.outcome) (list_all (λ (y : Done Task). has_come y.own.outcome) xs) was in
    and_from (has_come x.own.outcome) (list_all (λ (y : Done Task). has_come y.own.outcome) (xs ++ d ∷ [])) p.0 (come_after xs d p.1 one)

pub come_more : (ds : List (Done Task)) (d : Done Task) (o : Outcome) → d.own.outcome ≡ o → list_all (λ (x : Done Task). has_come x.own.outcome) ds ≡ true → has_come o ≡ true → list_all (λ (x : Done Task). has_come x.own.outcome) (ds ++ d ∷ []) ≡ true
come_more ds d o at was one = come_after ds d was (ap has_come at ∙ one)
