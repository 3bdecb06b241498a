use Rattle.std.proofs.Common.{arith, ap, refl, ◌≡◌}
use Rattle.std.proofs.lemmas.Grind.{common_steps, get_or-set_at}
use Rattle.pd_board.specs.Sessions.{word_at, unread}
use Rattle.pd_board.proofs.PlainLemmas.{upto_below, upto_step}
use Rattle.pd_board.proofs.plain.PlainBoardBoard.take_answer.Goals as goal

pub returns-clause-above : goal.returns-clause-above
returns-clause-above c =
    let read : word_at c.args.self.now.sessions.items c.args.session ≡ c.index_mut-word.result.now = grind (arith, common_steps, c.index_mut-word.ensures.value) in
    rw (← ap (λ w. w.taken) read) (upto_below (word_at c.args.self.now.sessions.items c.args.session).taken)

pub returns-clause-number : goal.returns-clause-number
returns-clause-number c =
    let read : word_at c.args.self.now.sessions.items c.args.session ≡ c.index_mut-word.result.now = grind (arith, common_steps, c.index_mut-word.ensures.value) in
    upto_step _ _ c.index_mut-word.result.now.taken
    (ap (λ w. w.taken) (get_or-set_at c.args.self.now.sessions.items c.args.session c.args.session _ unread refl c.requires.session))
    (ap (λ w. w.taken) read)
