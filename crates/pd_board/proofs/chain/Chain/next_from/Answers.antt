use Rattle.std.proofs.Common.{rules, arith, length, ◌≡◌, ◌^◌, ◌<◌, slice_index}
use Rattle.std.proofs.lemmas.Nat.Bits.{bit_at-trailing_zeros}
use Rattle.std.specs.Int.{w64}
use Rattle.pd_board.specs.Chain.{has}
use Rattle.pd_board.proofs.ChainLemmas.{held_past, found_here, found_none, found_behind, word_some}
use Rattle.pd_board.proofs.chain.Chain.next_from.Goals as goal

pub returns-then-row-ge64 : goal.returns-then-row-ge64
unfolding has
returns-then-row-ge64 c d above =
    let l : length c.args.self.now.words ≡ 64 = search rules in
    held_past c.args.self.now.words d (omega arith)

pub returns-in-Some : goal.returns-in-Some
unfolding has
returns-in-Some c = found_here c.args.self.now.words c.args.b c.in-Some.place c.in-Some.ensures

pub returns-in_err-next : goal.returns-in_err-next
unfolding has
returns-in_err-next c = rw c.from_residual.ensures
    (found_none c.args.self.now.summary c.args.self.now.words c.args.b (search rules) c.args.self.now.summed c.in_default.ensures c.in_err-next.ensures)

pub returns : goal.returns
unfolding has
returns c =
    let l = c.in_ok-next.ensures in
    let some = word_some c.args.self.now.summary c.args.self.now.words c.in_ok-next.next c.args.self.now.summed l.within l.set in
    let fits : slice_index c.args.self.now.words c.in_ok-next.next < 2 ^ 64 = search rules in
    found_behind c.args.self.now.summary c.args.self.now.words c.args.b c.in_ok-next.next _ (search rules) c.args.self.now.summed c.in_default.ensures l
    (bit_at-trailing_zeros w64 (slice_index c.args.self.now.words c.in_ok-next.next) some fits)
