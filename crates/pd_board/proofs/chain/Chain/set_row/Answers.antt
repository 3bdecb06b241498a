use Rattle.std.proofs.Common.{rules, arith, length, ◌≡◌}
use Rattle.pd_board.specs.Chain.{has}
use Rattle.pd_board.proofs.ChainLemmas.{summed_clear, summed_set, held-set}
use Rattle.pd_board.proofs.chain.Chain.set_row.Goals as goal
use Rattle.pd_board.proofs.chain.Chain.set_row.Goals.{then-word-eq0, else-word-eq0}

pub invariant_of-self : goal.invariant_of-self
invariant_of-self c =
    let l : length c.args.self.now.words ≡ 64 = search rules in
    elim c.if-word-eq0.branch [
      | then-word-eq0 w ↦ rw w.self-is (record { summed = summed_clear _ _ c.args.row c.args.word l c.requires (omega arith) c.args.self.now.summed })
      | else-word-eq0 w ↦ rw w.self-is (record { summed = summed_set _ _ c.args.row c.args.word l c.requires (omega arith) c.args.self.now.summed })
    ]

pub returns : goal.returns
unfolding has
returns c b = held-set c.args.self.now.words c.args.row c.args.word b (search rules) c.requires
