use Rattle.std.proofs.Common.{◌≡◌, ◌<◌, ◌+◌, ◌*◌, ◌∙◌, ℕ, true, false, refl, ap, subst, arith, length, vec_len}
use Rattle.pd_board.specs.Answers.{known_after_load}
use Rattle.pd_shared.proofs.ActLemmas.{known_read}
use Rattle.pd_shared.proofs.GoneLemmas.{IsDone, Tells, done_start, found_within, gone_step, gone_end}
use Rattle.pd_shared.proofs.steps.find_gone.Goals as goal

pub bits-init : goal.bits-init
bits-init c = record {
  few = omega arith;
  len = refl;
  done = subst (λ (h : ℕ). IsDone c.args.board.now.table c.args.n c.args.word (64 * c.args.r) h c.args.known.now.items c.args.known.now.items) (let e : 64 * c.args.r ≡ 64 * c.args.r + 0 = omega arith in e) (done_start c.args.board.now.table c.args.n c.args.word (64 * c.args.r) c.args.known.now.items);
}

pub index-requires : goal.index-requires
index-requires c =
    let tells : Tells c.args.board.now.table c.args.n c.args.r c.word.result = (λ b here. c.word.ensures b here ∙ c.args.board.now.matches c.args.n b) in
    let within : 64 * c.args.r + c.in-Some.place < vec_len c.bits.known = found_within c.args.board.now.table c.args.board.now.core.layout.rows c.args.n c.args.r c.word.result c.args.word c.bits.low c.in-Some.place (vec_len c.bits.known) c.ranges.word.fits tells c.in-Some.ensures c.args.board.now.rows (c.bits.invariant.len ∙ c.requires.len) in
    omega arith

pub index_mut-requires : goal.index_mut-requires
index_mut-requires c =
    let tells : Tells c.args.board.now.table c.args.n c.args.r c.word.result = (λ b here. c.word.ensures b here ∙ c.args.board.now.matches c.args.n b) in
    let within : 64 * c.args.r + c.in-Some.place < vec_len c.bits.known = found_within c.args.board.now.table c.args.board.now.core.layout.rows c.args.n c.args.r c.word.result c.args.word c.bits.low c.in-Some.place (vec_len c.bits.known) c.ranges.word.fits tells c.in-Some.ensures c.args.board.now.rows (c.bits.invariant.len ∙ c.requires.len) in
    omega arith

pub bits-preserved : goal.bits-preserved
bits-preserved c =
    let tells : Tells c.args.board.now.table c.args.n c.args.r c.word.result = (λ b here. c.word.ensures b here ∙ c.args.board.now.matches c.args.n b) in
    let within : 64 * c.args.r + c.in-Some.place < vec_len c.bits.known = found_within c.args.board.now.table c.args.board.now.core.layout.rows c.args.n c.args.r c.word.result c.args.word c.bits.low c.in-Some.place (vec_len c.bits.known) c.ranges.word.fits tells c.in-Some.ensures c.args.board.now.rows (c.bits.invariant.len ∙ c.requires.len) in
    let inside : 64 * c.args.r + c.in-Some.place < length c.bits.known.items = omega arith in
    let read = known_read c.bits.known.items (64 * c.args.r + c.in-Some.place) c.index.result.now inside c.index.ensures in
    record {
      few = omega (arith, c.in-Some.ensures.within);
      len = c.bits.invariant.len;
      done = gone_step c.args.board.now.table c.args.n c.args.r c.word.result c.args.word c.bits.low c.in-Some.place (64 * c.args.r + (c.in-Some.place + 1)) c.args.known.now.items c.bits.known.items c.known_missing.result c.ranges.word.fits tells c.in-Some.ensures inside (omega arith)
          c.bits.invariant.done (c.known_missing.ensures ∙ ap (known_after_load true false) read);
    }

pub returns-clause-known : goal.returns-clause-known
returns-clause-known c =
    let tells : Tells c.args.board.now.table c.args.n c.args.r c.word.result = (λ b here. c.word.ensures b here ∙ c.args.board.now.matches c.args.n b) in
    gone_end c.args.board.now.table c.args.n c.args.r c.word.result c.args.word c.bits.low c.args.known.now.items c.bits.known.items c.ranges.word.fits tells c.bits.invariant.few c.in_default.ensures c.bits.invariant.done
