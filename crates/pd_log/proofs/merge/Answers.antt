-- The entries are those of all logs, and sorted.
use Rattle.std.proofs.Common.{rules, ◌≡◌, ℕ, List, [], ◌∷◌, ◌++◌, length, refl, sym, ap, ◌∙◌, subst, arith}
use Rattle.std.specs.Global.{Vec}
use Rattle.std.specs.List.Sorted.{IsPermutation}
use Rattle.std.proofs.lemmas.List.{append-nil}
use Rattle.std.proofs.lemmas.List.Sorted.{answers_always, IsNonDecreasingBy-from_sort}
use Rattle.pd_log.specs.declared.Entry.{Entry}
use Rattle.pd_log.specs.Merging.{entries_in}
use Rattle.pd_log.proofs.Merges.{merged}
use Rattle.pd_log.proofs.merge.Goals as goal

none_left : (xs : List (Vec Entry)) (n : ℕ) → n ≡ 0 → n ≡ length xs → xs ≡ []
none_left [] n z e = refl
none_left (x ∷ xs) n z e = absurd (omega (arith, z, e))

abbrev place : Entry → ℕ
place e = e.place

pub returns : goal.returns
returns c =
    let i = c.loop-log.invariant in
    let none = none_left c.loop-log.log-iterator.rest.items c.loop-log.log-iterator.rest.len c.in-None.ensures.steps.0 i.len in
    let all : c.loop-log.entries.items ≡ entries_in c.args.logs.items = sym (append-nil c.loop-log.entries.items) ∙ ap (λ xs. c.loop-log.entries.items ++ entries_in xs) (sym none) ∙ i.whole in
    merged (entries_in c.args.logs.items) c.sort_unstable_by_key.new.self.items c.requires.differ
    (subst (λ xs. IsPermutation xs c.sort_unstable_by_key.new.self.items) all c.sort_unstable_by_key.ensures.permutation)
    (IsNonDecreasingBy-from_sort place _ (c.sort_unstable_by_key.ensures.sorted place (answers_always _ _ _ (λ f a r g called. search rules))))
