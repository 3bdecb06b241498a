-- The answer numbers of a session over all contexts.
use Rattle.std.proofs.Common.{◌≡◌, ℕ, List, [], ◌∷◌, ◌++◌, map, ◌==◌, true, sym, refl, ap, ◌∙◌, arith}
use Rattle.std.specs.Prelude.{flat_map, count_by}
use Rattle.std.specs.List.{AllByRecursion}
use Rattle.std.proofs.lemmas.List.Elements.{recursion_from_All, All-weaker, All-map}
use Rattle.std.proofs.lemmas.List.Folds.{flat_map-map}
use Rattle.std.proofs.lemmas.List.Concat.{flat_map-append}
use Rattle.pd_core.specs.Layout.{bindings}
use Rattle.pd_board.specs.OnContext.{rises}
use Rattle.pd_run.specs.Hands.{ContextHand, ScriptHand, IsContext, IsScript}
use Rattle.pd_seats.specs.Back.{numbers_for}
use Rattle.pd_run.specs.Laws.{tokens_of, AnswersAreTold}
use Rattle.pd_run.proofs.Flat.{append_none}

no_numbers : (m k s : ℕ) (hs : List ScriptHand) → AllByRecursion (IsScript m k) hs → flat_map (λ h. numbers_for s h.token) hs ≡ []
no_numbers m k s [] g = refl
no_numbers m k s (h ∷ hs) g = ap (λ xs. xs ++ flat_map (λ x. numbers_for s x.token) hs) (g.0.numbers s) ∙ no_numbers m k s hs g.1

numbers_flat : (m k s : ℕ) (contexts : List ContextHand) (scripts : List ScriptHand) → AllByRecursion (IsScript m k) scripts → flat_map (numbers_for s) (tokens_of contexts scripts) ≡ flat_map (λ ns. ns) (map (λ h. numbers_for s h.token) contexts)
numbers_flat m k s contexts scripts g =
    flat_map-append (numbers_for s) (map (λ h. h.token) contexts) (map (λ h. h.token) scripts)
    ∙ ap (λ xs. flat_map (numbers_for s) (map (λ h. h.token) contexts) ++ xs) (flat_map-map (numbers_for s) (λ h. h.token) scripts ∙ no_numbers m k s scripts g)
    ∙ append_none (flat_map (numbers_for s) (map (λ h. h.token) contexts))
    ∙ flat_map-map (numbers_for s) (λ h. h.token) contexts
    ∙ sym (flat_map-map (λ ns. ns) (λ h. numbers_for s h.token) contexts)

pub answers_are_told : AnswersAreTold
answers_are_told p plan start first now contexts scripts tallies counts o s lt = record {
  once = λ x.
      let here = o.closed.numbers o.whole s lt x in
      let sum = o.gathered.numbers s x in
      let none = o.before.numbers s x in
      let flat = ap (count_by (λ y. y == x)) (numbers_flat p.sessions p.contexts s contexts scripts (recursion_from_All (IsScript p.sessions p.contexts) scripts o.scripts_are)) in
      omega (arith, none, flat, sum, here);
  rising = All-map (λ ns. rises ns ≡ true) (λ h. numbers_for s h.token) contexts (All-weaker (IsContext (bindings p) plan start) (λ h. rises (numbers_for s h.token) ≡ true) (λ h g. g.numbers s) contexts o.contexts_are);
}
