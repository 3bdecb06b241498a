use Rattle.std.proofs.Common.{◌≡◌, take, map}
use Rattle.pd_board.specs.Life as life
use Rattle.pd_board.proofs.plain.PlainBoard.tally.Given as goal

abbrev pub invariant-loop-life : goal.invariant-loop-life
invariant-loop-life l = l.bindings.items ≡ map life.tally_of (take l.life-index l.self.lives.items)

abbrev pub invariant-loop-word : goal.invariant-loop-word
invariant-loop-word l = l.answers.items ≡ map (λ w. w.taken) (take l.word-index l.self.sessions.items)
