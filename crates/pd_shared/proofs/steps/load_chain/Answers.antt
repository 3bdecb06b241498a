use Rattle.std.proofs.Common.{◌≡◌, ℕ, ◌/◌, ◌==◌, ◌+◌, ◌<◌, ◌≤◌, true, false, refl, sym, ap, ◌∙◌, subst, arith, []}
use Rattle.pd_core.specs.declared.view.View.{View}
use Rattle.pd_core.specs.Layout.{Layout, width}
use Rattle.pd_core.specs.Kinds.{after, load_node}
use Rattle.pd_core.specs.Tokens.{Holder}
use Rattle.pd_shared.specs.Steps.{LoadedTo, rows_below}
use Rattle.pd_core.specs.Words.{bit_of}
use Rattle.pd_core.proofs.Attaches.{eqb_is}
use Rattle.pd_core.proofs.Places.{width_is}
use Rattle.pd_board.specs.Chain.{has}
use Rattle.pd_board.specs.declared.chain.Chain.{Chain}
use Rattle.pd_board.proofs.ChainLemmas.{by_lt}
use Rattle.pd_shared.specs.declared.token.Token.{Token}
use Rattle.pd_shared.specs.Book.{book_of}
use Rattle.pd_shared.specs.Loading.{bit_loaded, IsLoading}
use Rattle.pd_shared.proofs.GoneLemmas.{tied_node, no_row, past_row}
use Rattle.pd_shared.proofs.LoadLemmas.{none_loaded, has_row, loading_with, loading_without}
use Rattle.pd_shared.proofs.steps.load_chain.Goals.{then-has_bit, else-has_bit}
use Rattle.pd_shared.proofs.steps.load_chain.Goals as goal

pub loop-r-init : goal.loop-r-init
loop-r-init c = record {
  id = ap (λ (h : Holder). h.id) c.load_node-summary.ensures.view;
  tied = rw (c.load_node-summary.ensures.view) (tied_node c.args.board.now.core.layout c.args.n c.load_node-summary.result c.args.token.now.pass.view (book_of c.args.token.now) c.requires.tied);
  last = (record { node = c.args.n; summary = c.load_node-summary.result; rows = [] }, ap (λ (h : Holder). h.view.loaded) c.load_node-summary.ensures.view, refl, refl);
  matching = λ b h. absurd (let none : true ≡ false = sym h ∙ c.new-chain.ensures b in cc);
  bits = λ b. c.new-chain.ensures b ∙ sym (ap (λ (h : Holder). bit_loaded h.view.loaded b) c.load_node-summary.ensures.view ∙ none_loaded c.args.n c.load_node-summary.result b);
  ahead = λ b h. c.new-chain.ensures b;
  known = λ b h. absurd (omega arith);
  known_ahead = λ b h. refl;
  low = omega arith;
  loads = ap (λ (h : Holder). h.view) c.load_node-summary.ensures.view;
  view = rw (c.load_node-summary.ensures.view) refl;
  all_loads = refl;
  rest = refl;
}

pub has_bit-requires : goal.has_bit-requires
has_bit-requires c = omega (arith, width_is c.args.board.now.core.layout, c.args.board.now.wide, c.args.board.now.sound.0, c.loop-r-test.true)

pub set_row-requires : goal.set_row-requires
set_row-requires c = omega (arith, width_is c.args.board.now.core.layout, c.args.board.now.wide, c.args.board.now.sound.0, c.loop-r-test.true)

pub load_part-word-requires-clause-loaded : goal.load_part-word-requires-clause-loaded
load_part-word-requires-clause-loaded c = has_row c.args.n c.load_node-summary.result c.loop-r.r c.loop-r.token.pass.view c.loop-r.invariant.last (eqb_is (bit_of c.load_node-summary.result c.loop-r.r) 1 (sym c.has_bit.ensures ∙ c.if-has_bit.true))

pub loop-r-preserved : goal.loop-r-preserved
loop-r-preserved c = elim c.if-has_bit.branch [
  | then-has_bit w ↦ subst (λ (x : Token × Chain). IsLoading c.args.board.now.core.layout c.args.board.now.table c.args.n c.load_node-summary.result (c.loop-r.r + 1) c.args.token.now x.0 x.1) (λ i. (sym w.token-is i, sym w.chain-is i))
      (loading_with c.args.board.now.core.layout c.args.board.now.table c.args.n c.load_node-summary.result c.loop-r.r w.load_part-word.result c.args.token.now c.loop-r.token w.load_part-word.new.token c.loop-r.chain w.set_row.new.self c.loop-r.invariant
      w.load_part-word.ensures.id w.load_part-word.ensures.tied w.load_part-word.ensures.known w.load_part-word.ensures.matching w.load_part-word.ensures.loaded w.load_part-word.ensures.view w.load_part-word.ensures.rest w.set_row.ensures
      (subst (λ (i : ℕ). c.loop-r.r < i) c.args.board.now.wide c.loop-r-test.true) (sym c.has_bit.ensures ∙ w.if-has_bit.true) w.load_part-word.ensures.step)
  | else-has_bit w ↦ subst (λ (x : Token × Chain). IsLoading c.args.board.now.core.layout c.args.board.now.table c.args.n c.load_node-summary.result (c.loop-r.r + 1) c.args.token.now x.0 x.1) (λ i. (sym w.token-is i, sym w.chain-is i))
      (loading_without c.args.board.now.core.layout c.args.board.now.table c.args.n c.load_node-summary.result c.loop-r.r c.args.token.now c.loop-r.token c.loop-r.chain c.loop-r.invariant
      (λ b e. no_row c.args.board.now.core.layout c.args.board.now.table c.args.n c.load_node-summary.result b c.args.token.now.pass.view c.args.token.now.known.items c.args.board.now.rows c.load_node-summary.ensures.found c.requires.tied.known_is
      (ap (λ (i : ℕ). bit_of c.load_node-summary.result i == 1) e ∙ (sym c.has_bit.ensures ∙ w.if-has_bit.false)))
      (subst (λ (i : ℕ). c.loop-r.r < i) c.args.board.now.wide c.loop-r-test.true) (sym c.has_bit.ensures ∙ w.if-has_bit.false))
]

pub returns-clause-known : goal.returns-clause-known
returns-clause-known c b = by_lt (b / 64) c.loop-r.r
    (λ (h : b / 64 < c.loop-r.r). c.loop-r.invariant.known b h)
    (λ (h : c.loop-r.r ≤ b / 64). c.loop-r.invariant.known_ahead b h ∙ sym (past_row c.args.board.now.core.layout c.args.board.now.table c.args.n b c.args.token.now.pass.view c.args.token.now.known.items (has c.loop-r.chain b) c.requires.tied.known_is (omega (arith, c.args.board.now.wide, c.loop-r-test.false))))

pub returns-clause-steps : goal.returns-clause-steps
returns-clause-steps c =
    let p : Layout = c.args.board.now.core.layout in
    let all : c.loop-r.r ≡ width p = omega (arith, c.loop-r.invariant.low, c.args.board.now.wide, c.loop-r-test.false) in
    let first : View = after p (load_node c.args.n) c.load_node-summary.result c.args.token.now.pass.view in
    (rows_below c.load_node-summary.result (width p), (c.load_node-summary.result, first, (c.load_node-summary.ensures.found, refl), subst (λ (r : ℕ). LoadedTo p c.args.n c.load_node-summary.result r first c.loop-r.token.pass.view) all c.loop-r.invariant.loads, refl))
