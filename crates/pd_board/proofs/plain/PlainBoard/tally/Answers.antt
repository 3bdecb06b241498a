use Rattle.std.proofs.Common.{arith, rules, ◌≡◌, ◌∙◌, ap, sym, map}
use Rattle.pd_board.specs.Kept.{upto}
use Rattle.pd_board.specs.Life as life
use Rattle.pd_board.proofs.TallyLemmas.{map_all, outcomes, known_at, taken_at, map_length}
use Rattle.pd_board.proofs.plain.PlainBoard.tally.Goals as goal

pub returns : goal.returns
returns c =
    let tallies : c.of.result ≡ map life.tally_of c.args.self.now.lives.items = c.of.ensures ∙ map_all life.tally_of c.args.self.now.lives.items _ c.loop-life.life-index c.loop-life.invariant (search rules) in
    let answers : c.of-2.result ≡ map (λ w. w.taken) c.args.self.now.sessions.items = c.of-2.ensures ∙ map_all (λ w. w.taken) c.args.self.now.sessions.items _ c.loop-word.word-index c.loop-word.invariant (search rules) in
    record {
      bindings_are = map_length life.tally_of c.args.self.now.lives.items _ tallies ∙ search rules;
      outcomes = λ b within. outcomes c.args.self.now.lives.items c.args.self.now.journal.sights c.args.self.now.journal.replies _ tallies c.args.self.now.tells b (search rules);
      known = λ b within. known_at c.args.self.now.lives.items _ tallies b (search rules);
      sessions_are = map_length (λ w. w.taken) c.args.self.now.sessions.items _ answers;
      numbers = λ t within. ap upto (sym (taken_at c.args.self.now.sessions.items _ t within answers));
      read = λ t within. let e = taken_at c.args.self.now.sessions.items _ t within answers in let h = c.args.self.now.read t in omega arith;
    }
