use Rattle.std.proofs.Common.{◌≡◌, ◌+◌, ◌/◌, ℕ, List, false, subst, sym}
use Rattle.pd_board.specs.NodeBits.{stands_in}
use Rattle.pd_board.proofs.StandLemmas.{stands_none}
use Rattle.pd_shared.specs.Matching.{stands}
use Rattle.pd_shared.proofs.matching.Matching.new.Goals as goal

pub returns-clause-clear : goal.returns-clause-clear
unfolding stands
returns-clause-clear c n b = subst (λ (words : List ℕ). stands_in ((c.args.bindings + 63) / 64) words n b ≡ false)
    (sym (c.in_ok-vec.ensures.items_if_clones_equal (λ y e. e)))
    (stands_none _ ((c.args.bindings + 63) / 64) n b)
