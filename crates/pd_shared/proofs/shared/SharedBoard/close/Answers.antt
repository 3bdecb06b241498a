use Rattle.std.proofs.Common.{◌≡◌, ℕ, ◌+◌, ◌*◌, ◌<◌, ◌^◌, ap, sym, ◌∙◌, subst, arith, length, List}
use Rattle.std.specs.Prelude.{slice_index}
use Rattle.pd_core.specs.Layout.{Layout, bindings, front, words_in}
use Rattle.pd_core.specs.Runs.{IsLast}
use Rattle.pd_core.proofs.Facts.{session_fits}
use Rattle.pd_core.proofs.Places.{front_is}
use Rattle.pd_core.specs.Tokens.{Hub}
use Rattle.pd_shared.specs.declared.token.Token.{Token}
use Rattle.pd_shared.specs.Closed.{IsClosed}
use Rattle.pd_shared.proofs.CloseLemmas.{closed_by}
use Rattle.pd_shared.proofs.shared.SharedBoard.close.Goals as goal

pub tallies_in-requires : goal.tallies_in-requires
tallies_in-requires c =
    let p : Layout = c.args.self.core.layout in
    let end : IsLast p c.args.last.pass.view c.in_ok-words.words.items = c.in_ok-words.ensures in
    let nodes : c.len.result ≡ p.nodes = omega (arith, c.len.ensures, c.requires.1.loads.0) in
    let nodes_2 : c.len-2.result ≡ p.nodes = omega (arith, c.len-2.ensures, c.requires.1.loads.0) in
    let first : c.len.result + c.len-2.result * c.args.self.row_words ≡ front p = (λ i. nodes i + nodes_2 i * c.args.self.wide i) ∙ sym (front_is p) in
    let count : length c.as_slice-2.result.now ≡ bindings p = ap length c.as_slice-2.ensures.value ∙ c.requires.2.counts_are in
    let long : length c.as_slice.result.now ≡ words_in p = ap length c.as_slice.ensures.value ∙ end.1.sized in
    omega arith

pub numbers_in-requires-clause-within : goal.numbers_in-requires-clause-within
numbers_in-requires-clause-within c =
    let p : Layout = c.args.self.core.layout in
    let end : IsLast p c.args.last.pass.view c.in_ok-words.words.items = c.in_ok-words.ensures in
    let nodes : c.len.result ≡ p.nodes = omega (arith, c.len.ensures, c.requires.1.loads.0) in
    let nodes_2 : c.len-2.result ≡ p.nodes = omega (arith, c.len-2.ensures, c.requires.1.loads.0) in
    let first : c.len.result + c.len-2.result * c.args.self.row_words ≡ front p = (λ i. nodes i + nodes_2 i * c.args.self.wide i) ∙ sym (front_is p) in
    let count : c.len-3.result ≡ bindings p = omega (arith, c.len-3.ensures, c.requires.2.counts_are) in
    let sessions : c.len-4.result ≡ p.sessions = omega (arith, c.len-4.ensures, c.requires.1.reads.sessions_are) in
    let long : length c.as_slice-3.result.now ≡ words_in p = ap length c.as_slice-3.ensures.value ∙ end.1.sized in
    omega arith

pub numbers_in-requires-clause-fit : goal.numbers_in-requires-clause-fit
numbers_in-requires-clause-fit c s lt =
    let p : Layout = c.args.self.core.layout in
    let end : IsLast p c.args.last.pass.view c.in_ok-words.words.items = c.in_ok-words.ensures in
    let nodes : c.len.result ≡ p.nodes = omega (arith, c.len.ensures, c.requires.1.loads.0) in
    let nodes_2 : c.len-2.result ≡ p.nodes = omega (arith, c.len-2.ensures, c.requires.1.loads.0) in
    let first : c.len.result + c.len-2.result * c.args.self.row_words ≡ front p = (λ i. nodes i + nodes_2 i * c.args.self.wide i) ∙ sym (front_is p) in
    let count : c.len-3.result ≡ bindings p = omega (arith, c.len-3.ensures, c.requires.2.counts_are) in
    let within : s < p.sessions = omega (arith, c.len-4.ensures, c.requires.1.reads.sessions_are) in
    subst (λ (x : List ℕ × ℕ × ℕ). slice_index x.0 (x.1 + x.2 + s) < 2 ^ 32) (λ i. (sym c.as_slice-3.ensures.value i, sym first i, sym count i)) (session_fits p c.in_ok-words.words.items end.0 s end.1 within)

pub returns-clause-closed : goal.returns-clause-closed
returns-clause-closed c =
    closed_by c.args.self.core.layout c.args.last c.in_ok-words.words.items c.as_slice.result.now c.as_slice-3.result.now c.as_slice-2.result.now c.len.result c.len-2.result c.args.self.row_words c.len-3.result c.len-4.result
    c.in_ok-bindings.bindings.items c.of.result c.in_ok-answers.answers.items c.of-2.result c.in_ok-words.ensures c.requires.1 c.requires.2 c.as_slice.ensures.value c.as_slice-3.ensures.value c.as_slice-2.ensures.value
    (omega (arith, c.len.ensures, c.requires.1.loads.0)) (omega (arith, c.len-2.ensures, c.requires.1.loads.0)) c.args.self.wide (omega (arith, c.len-3.ensures, c.requires.2.counts_are)) (omega (arith, c.len-4.ensures, c.requires.1.reads.sessions_are))
    c.of.ensures c.of-2.ensures c.in_ok-bindings.ensures c.in_ok-answers.ensures

pub invariant_of-result : goal.invariant_of-result
invariant_of-result c = record {
  closed = ∣ subst (λ (x : Hub × Token). IsClosed x.0.layout x.1 c.of.result c.of-2.result) (λ i. (sym c.of-core_was.ensures i, sym c.of-last_was.ensures i))
      (closed_by c.args.self.core.layout c.args.last c.in_ok-words.words.items c.as_slice.result.now c.as_slice-3.result.now c.as_slice-2.result.now c.len.result c.len-2.result c.args.self.row_words c.len-3.result c.len-4.result
      c.in_ok-bindings.bindings.items c.of.result c.in_ok-answers.answers.items c.of-2.result c.in_ok-words.ensures c.requires.1 c.requires.2 c.as_slice.ensures.value c.as_slice-3.ensures.value c.as_slice-2.ensures.value
      (omega (arith, c.len.ensures, c.requires.1.loads.0)) (omega (arith, c.len-2.ensures, c.requires.1.loads.0)) c.args.self.wide (omega (arith, c.len-3.ensures, c.requires.2.counts_are)) (omega (arith, c.len-4.ensures, c.requires.1.reads.sessions_are))
      c.of.ensures c.of-2.ensures c.in_ok-bindings.ensures c.in_ok-answers.ensures) ∣₁;
}
