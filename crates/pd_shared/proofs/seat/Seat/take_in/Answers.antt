use Rattle.std.proofs.Common.{◌≡◌, ℕ, ◌+◌, ◌-◌, ◌^◌, ◌≤◌, max, ap, sym, ◌∙◌, subst, arith, length, List, vec_len}
use Rattle.std.proofs.Math.Nat.{min-le_left}
use Rattle.pd_board.specs.declared.answers.Known.{Known}
use Rattle.pd_board.specs.declared.answers.Known.TheVariants as knowns
use Rattle.pd_core.specs.declared.view.View.{View}
use Rattle.pd_core.specs.Layout.{Layout}
use Rattle.pd_core.specs.Tokens.{Holder}
use Rattle.pd_core.specs.Views.{joined}
use Rattle.pd_shared.specs.declared.token.Reads.{Reads}
use Rattle.pd_shared.specs.declared.token.Token.{Token}
use Rattle.pd_shared.specs.Book.{book_of, unread}
use Rattle.pd_shared.specs.Tied.{IsTied}
use Rattle.pd_shared.specs.Held.{IsHeld}
use Rattle.pd_shared.specs.Merged.{later, with_last, IsMerged}
use Rattle.pd_shared.specs.Left.{TakesIn}
use Rattle.pd_shared.specs.Sitting.{Sitting, IsOf}
use Rattle.pd_shared.proofs.HeldLemmas.{held_joined}
use Rattle.pd_shared.proofs.MergeLemmas.{tied_joined}
use Rattle.pd_shared.proofs.LeftLemmas.{takes_in}
use Rattle.pd_shared.proofs.seat.Seat.take_in.Goals as goal

pub invariant_of-self : goal.invariant_of-self
invariant_of-self c =
    let p : Layout = c.self.inside.board.now.core.layout in
    let mine : Token = c.self.inside.token in
    let theirs : Token = c.args.other in
    let is_of : IsOf c.self.inside.board.now.core theirs = subst (λ (s : Sitting). IsOf s.hub theirs) (sym c.self.view_is) c.requires in
    let view : c.join.new.p.view ≡ joined mine.pass.view theirs.pass.view = ap (λ (h : Holder). h.view) c.join.ensures in
    let known_len : vec_len c.self.inside.token.known ≡ length c.self.inside.token.known.items = omega arith in
    let known : IsMerged later knowns.Fresh (length mine.known.items) mine.known.items theirs.known.items c.merge_known.new.own.items = subst (λ (x : ℕ × List Known). IsMerged later knowns.Fresh x.0 mine.known.items x.1 c.merge_known.new.own.items) (λ i. (known_len i, c.as_slice.ensures.value i)) c.merge_known.ensures in
    let counts_len : vec_len c.self.inside.token.counts ≡ length c.self.inside.token.counts.items = omega arith in
    let counts : IsMerged max 0 (length mine.counts.items) mine.counts.items theirs.counts.items c.merge_counts.new.own.items = subst (λ (x : ℕ × List ℕ). IsMerged max 0 x.0 mine.counts.items x.1 c.merge_counts.new.own.items) (λ i. (counts_len i, c.as_slice-2.ensures.value i)) c.merge_counts.ensures in
    let reads_len : vec_len c.self.inside.token.sessions ≡ length c.self.inside.token.sessions.items = omega arith in
    let reads : IsMerged with_last unread (length mine.sessions.items) mine.sessions.items theirs.sessions.items c.merge_reads.new.own.items = subst (λ (x : ℕ × List Reads). IsMerged with_last unread x.0 mine.sessions.items x.1 c.merge_reads.new.own.items) (λ i. (reads_len i, c.as_slice-3.ensures.value i)) c.merge_reads.ensures in
    let few : c.saturating_add-self-inside.result ≤ mine.seats + theirs.seats = subst (λ (n : ℕ). n ≤ mine.seats + theirs.seats) (sym c.saturating_add-self-inside.ensures) (min-le_left (mine.seats + theirs.seats) (2 ^ 64 - 1)) in (
      ap (λ (h : Holder). h.id) c.join.ensures ∙ c.self.invariant.0,
      subst (λ (x : View × Reads). IsTied p x.0 (record (book_of mine) { known = c.merge_known.new.own.items; sessions = c.merge_reads.new.own.items; ends = x.1 })) (λ i. (sym view i, sym c.merge_last-self-inside.ensures i))
          (tied_joined p mine.pass.view theirs.pass.view (book_of mine) (book_of theirs) c.merge_known.new.own.items c.merge_reads.new.own.items c.self.invariant.1 is_of.1 known reads),
      subst (λ (v : View). IsHeld p v c.saturating_add-self-inside.result c.merge_counts.new.own.items) (sym view)
          (held_joined p mine.pass.view theirs.pass.view mine.seats theirs.seats c.saturating_add-self-inside.result mine.counts.items theirs.counts.items c.merge_counts.new.own.items few counts c.self.invariant.2 is_of.2),
    )

pub returns-clause-takes : goal.returns-clause-takes
returns-clause-takes c =
    let mine : Token = c.self.inside.token in
    let theirs : Token = c.args.other in
    let is_of : IsOf c.self.inside.board.now.core theirs = subst (λ (s : Sitting). IsOf s.hub theirs) (sym c.self.view_is) c.requires in
    let view : c.join.new.p.view ≡ joined mine.pass.view theirs.pass.view = ap (λ (h : Holder). h.view) c.join.ensures in
    let known_len : vec_len c.self.inside.token.known ≡ length c.self.inside.token.known.items = omega arith in
    let known : IsMerged later knowns.Fresh (length mine.known.items) mine.known.items theirs.known.items c.merge_known.new.own.items = subst (λ (x : ℕ × List Known). IsMerged later knowns.Fresh x.0 mine.known.items x.1 c.merge_known.new.own.items) (λ i. (known_len i, c.as_slice.ensures.value i)) c.merge_known.ensures in
    let reads_len : vec_len c.self.inside.token.sessions ≡ length c.self.inside.token.sessions.items = omega arith in
    let reads : IsMerged with_last unread (length mine.sessions.items) mine.sessions.items theirs.sessions.items c.merge_reads.new.own.items = subst (λ (x : ℕ × List Reads). IsMerged with_last unread x.0 mine.sessions.items x.1 c.merge_reads.new.own.items) (λ i. (reads_len i, c.as_slice-3.ensures.value i)) c.merge_reads.ensures in
    let here : Sitting = record { hub = c.self.inside.board.now.core; table = c.self.inside.board.now.table; token = mine } in
    subst (λ (s : Sitting). TakesIn s theirs (record here { token = record mine { pass = c.join.new.p; seats = c.saturating_add-self-inside.result; known = c.merge_known.new.own; counts = c.merge_counts.new.own; sessions = c.merge_reads.new.own; ends = c.merge_last-self-inside.result } })) c.self.view_is
    (takes_in here theirs c.join.new.p.id c.join.new.p.view c.saturating_add-self-inside.result c.merge_known.new.own c.merge_counts.new.own c.merge_reads.new.own c.merge_last-self-inside.result view c.saturating_add-self-inside.ensures
    known (is_of.1.known_is.0 ∙ sym c.self.invariant.1.known_is.0) reads (is_of.1.reads.sessions_are ∙ sym c.self.invariant.1.reads.sessions_are) c.merge_last-self-inside.ensures c.self.invariant.1.reads.within is_of.1.reads.within)

pub returns-clause-over : goal.returns-clause-over
returns-clause-over c = (omega (arith, c.requires.1.loads.0), omega (arith, c.requires.1.reads.sessions_are))
