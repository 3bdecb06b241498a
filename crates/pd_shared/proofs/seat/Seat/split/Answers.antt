use Rattle.std.proofs.Common.{◌≡◌, ℕ, refl, ap, sym, ◌∙◌, subst, arith, List, replicate, false}
use Rattle.std.specs.declared.vec.Vec.{Vec}
use Rattle.std.specs.declared.alloc.Global.{Global}
use Rattle.pd_board.specs.declared.answers.Known.{Known}
use Rattle.pd_core.specs.declared.view.View.{View}
use Rattle.pd_core.specs.Layout.{Layout, bindings}
use Rattle.pd_core.specs.Tokens.{Holder}
use Rattle.pd_core.specs.Views.{halved}
use Rattle.pd_core.specs.Runs.{MaySplit}
use Rattle.pd_shared.specs.declared.token.Reads.{Reads}
use Rattle.pd_shared.specs.Book.{book_of, unread}
use Rattle.pd_shared.specs.First.{IsFirst}
use Rattle.pd_shared.specs.Sitting.{Sitting}
use Rattle.pd_shared.specs.Tied.{is_alone, IsKnown}
use Rattle.pd_shared.specs.Left.{HasHanded, IsNewcomer}
use Rattle.pd_shared.proofs.FirstLemmas.{tied_newcomer}
use Rattle.pd_shared.proofs.HeldLemmas.{held_halved}
use Rattle.pd_shared.proofs.LeftLemmas.{halved_alone, tied_halved, has_handed, newcomer_is}
use Rattle.pd_shared.proofs.seat.Seat.split.Goals as goal

pub split-pass-requires : goal.split-pass-requires
split-pass-requires c = (c.self.invariant.0, subst (λ (s : Sitting). MaySplit s.hub.layout s.token.pass.view) (sym c.self.view_is) c.requires)

pub invariant_of-self : goal.invariant_of-self
invariant_of-self c =
    let may = subst (λ (s : Sitting). MaySplit s.hub.layout s.token.pass.view) (sym c.self.view_is) c.requires in
    let p : Layout = c.self.inside.board.now.core.layout in
    let v : View = c.self.inside.token.pass.view in
    let not_alone : is_alone (halved v) ≡ false = halved_alone p v c.self.inside.token.seats c.self.inside.token.counts.items may.0 c.self.invariant.2 in
    rw (c.split-pass.ensures.old, c.saturating_sub-self-inside.ensures) (
      c.self.invariant.0,
      tied_halved p v (book_of c.self.inside.token) may.2 not_alone c.self.invariant.1,
      held_halved p v c.self.inside.token.seats c.self.inside.token.counts.items may.0 c.self.invariant.2,
    )

pub invariant_of-result : goal.invariant_of-result
invariant_of-result c =
    let p : Layout = c.self.inside.board.now.core.layout in
    let n_known : c.len.result ≡ bindings p = omega (arith, c.len.ensures, c.in_ok-known.ensures.len, c.as_slice.ensures.len, c.self.invariant.1.known_is.0) in
    let n_nodes : c.len-nodes.result ≡ p.nodes = omega (arith, c.len-nodes.ensures, c.self.invariant.1.loads.0) in
    let n_sessions : c.len-2.result ≡ p.sessions = omega (arith, c.len-2.ensures, c.self.invariant.1.reads.sessions_are) in
    let first : IsFirst (replicate (bindings p) 0) (replicate p.nodes 0) (replicate p.sessions unread) c.token.result =
    subst (λ (x : List ℕ × List ℕ × List Reads). IsFirst x.0 x.1 x.2 c.token.result)
    (λ i. ((c.in_ok-blank.ensures.counts ∙ ap (λ (n : ℕ). replicate n 0) n_known) i, (c.in_ok-blank.ensures.loads ∙ ap (λ (n : ℕ). replicate n 0) n_nodes) i, (c.in_ok-blank.ensures.sessions ∙ ap (λ (n : ℕ). replicate n unread) n_sessions) i)) c.token.ensures.first in
    let items : c.token.result.known.items ≡ c.self.inside.token.known.items = ap (λ (v : Vec Known Global). v.items) c.token.ensures.known ∙ (c.in_ok-known.ensures.items ∙ c.as_slice.ensures.value) in
    let both = tied_newcomer p c.token.result c.self.inside.token.pass.view first (subst (λ (ks : List Known). IsKnown p c.self.inside.token.pass.view ks) (sym items) c.self.invariant.1.known_is) c.token.ensures.seats (ap (λ (h : Holder). h.view) (c.token.ensures.pass ∙ c.split-pass.ensures.new)) in (
      ap (λ (h : Holder). h.id) (c.token.ensures.pass ∙ c.split-pass.ensures.new) ∙ c.self.invariant.0,
      both.0,
      both.1,
    )

pub returns-clause-old : goal.returns-clause-old
returns-clause-old c =
    let may = subst (λ (s : Sitting). MaySplit s.hub.layout s.token.pass.view) (sym c.self.view_is) c.requires in
    let p : Layout = c.self.inside.board.now.core.layout in
    let not_alone : is_alone (halved c.self.inside.token.pass.view) ≡ false = halved_alone p c.self.inside.token.pass.view c.self.inside.token.seats c.self.inside.token.counts.items may.0 c.self.invariant.2 in
    let here : Sitting = record { hub = c.self.inside.board.now.core; table = c.self.inside.board.now.table; token = c.self.inside.token } in
    subst (λ (s : Sitting). HasHanded s (record here { token = record here.token { pass = c.split-pass.new.p; seats = c.saturating_sub-self-inside.result } })) c.self.view_is
    (has_handed here c.split-pass.new.p.id c.split-pass.new.p.view c.saturating_sub-self-inside.result (ap (λ (h : Holder). h.view) c.split-pass.ensures.old) c.saturating_sub-self-inside.ensures not_alone)

pub returns-clause-new : goal.returns-clause-new
returns-clause-new c =
    let p : Layout = c.self.inside.board.now.core.layout in
    let here : Sitting = record { hub = c.self.inside.board.now.core; table = c.self.inside.board.now.table; token = c.self.inside.token } in
    let next : Sitting = record { hub = c.self.inside.board.now.core; table = c.self.inside.board.now.table; token = c.token.result } in
    let first : IsFirst (replicate c.len.result 0) (replicate c.len-nodes.result 0) (replicate c.len-2.result unread) c.token.result =
    subst (λ (x : List ℕ × List ℕ × List Reads). IsFirst x.0 x.1 x.2 c.token.result) (λ i. (c.in_ok-blank.ensures.counts i, c.in_ok-blank.ensures.loads i, c.in_ok-blank.ensures.sessions i)) c.token.ensures.first in
    let items : c.token.result.known.items ≡ c.self.inside.token.known.items = ap (λ (v : Vec Known Global). v.items) c.token.ensures.known ∙ (c.in_ok-known.ensures.items ∙ c.as_slice.ensures.value) in
    subst (λ (s : Sitting). IsNewcomer s next) c.self.view_is
    (newcomer_is here next c.len.result c.len-nodes.result c.len-2.result refl refl (ap (λ (h : Holder). h.view) (c.token.ensures.pass ∙ c.split-pass.ensures.new)) c.token.ensures.seats items first)
