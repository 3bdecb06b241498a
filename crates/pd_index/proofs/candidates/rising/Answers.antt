-- A sort keeps the numbers, and what it leaves without doubles rises.
use Rattle.std.proofs.Common.{subst, sym}
use Rattle.std.specs.Prelude.{nat_eq}
use Rattle.std.specs.List.{Contains, dedup}
use Rattle.std.proofs.lemmas.List.Filters.{dedup_is}
use Rattle.std.proofs.lemmas.List.Kept.{Contains-dedup_nat, Contains-from_dedup}
use Rattle.std.proofs.lemmas.List.Sorted.{Contains-permutation, IsPermutation-sym}
use Rattle.std.proofs.lemmas.Map.Keys.{IsStrictlyIncreasing-dedup}
use Rattle.pd_index.specs.Among.{RisesFrom}
use Rattle.pd_index.proofs.FilterLaws.{rises_from}
use Rattle.pd_index.proofs.candidates.rising.Goals as goal

pub returns-clause-rises : goal.returns-clause-rises
returns-clause-rises c =
    let sorted = c.sort_unstable.new.self.items in
    subst (RisesFrom 0) (sym (dedup_is nat_eq sorted c.dedup.new.self.items c.dedup.ensures.filtered))
    (rises_from (dedup nat_eq sorted) (IsStrictlyIncreasing-dedup sorted c.sort_unstable.ensures.sorted))

pub returns-clause-whole : goal.returns-clause-whole
returns-clause-whole c n contains =
    let sorted = c.sort_unstable.new.self.items in
    subst (λ xs. Contains xs n) (sym (dedup_is nat_eq sorted c.dedup.new.self.items c.dedup.ensures.filtered))
    (Contains-dedup_nat sorted n (Contains-permutation c.args.numbers.items sorted n c.sort_unstable.ensures.permutation contains))

pub returns-clause-only : goal.returns-clause-only
returns-clause-only c n contains =
    let sorted = c.sort_unstable.new.self.items in
    Contains-permutation sorted c.args.numbers.items n (IsPermutation-sym c.args.numbers.items sorted c.sort_unstable.ensures.permutation)
    (Contains-from_dedup nat_eq sorted n (subst (λ xs. Contains xs n) (dedup_is nat_eq sorted c.dedup.new.self.items c.dedup.ensures.filtered) contains))
