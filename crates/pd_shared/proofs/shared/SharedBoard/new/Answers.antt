use Rattle.std.proofs.Common.{rules, ◌≡◌, ◌<◌, ◌==◌, ℕ, [], sym, ap, ◌∙◌, subst, arith, length, List, replicate}
use Rattle.std.specs.Prelude.{slice_index, slice_index_or}
use Rattle.std.specs.List.{list_any}
use Rattle.pd_plan.specs.declared.table.MatchTable.{MatchTable}
use Rattle.pd_core.specs.Layout.{Layout, IsSound, bindings}
use Rattle.pd_core.specs.Tokens.{Holder}
use Rattle.pd_core.proofs.Places.{width_is}
use Rattle.std.specs.declared.vec.Vec.{Vec}
use Rattle.std.specs.declared.alloc.Global.{Global}
use Rattle.pd_board.specs.declared.answers.Known.{Known}
use Rattle.pd_board.specs.declared.answers.Known.TheVariants as knowns
use Rattle.pd_shared.specs.declared.token.Reads.{Reads}
use Rattle.pd_shared.specs.Book.{unread}
use Rattle.pd_board.specs.Standing.{IsNew}
use Rattle.pd_shared.specs.First.{IsFirst}
use Rattle.pd_shared.specs.Sitting.{Sitting, standing_of}
use Rattle.pd_shared.proofs.FirstLemmas.{tied_first}
use Rattle.pd_shared.proofs.LeftLemmas.{new_stands}
use Rattle.pd_shared.proofs.shared.SharedBoard.new.Goals as goal

pub returns-clause-of : goal.returns-clause-of
returns-clause-of c =
    let lay : c.in_ok-core.core.layout ≡ record { nodes = c.args.nodes; rows = c.args.matches.now.rows; sessions = c.args.sessions; contexts = c.args.contexts } = search rules in
    let count : length c.as_slice-given.result.now ≡ bindings c.in_ok-core.core.layout = ap length c.as_slice-given.ensures ∙ ap (λ (p : Layout). bindings p) (sym lay) in
    let made = c.token-token.ensures in
    let first : IsFirst (replicate (bindings c.in_ok-core.core.layout) 0) (replicate c.in_ok-core.core.layout.nodes 0) (replicate c.in_ok-core.core.layout.sessions unread) c.token-token.result =
    subst (λ (x : List ℕ × List ℕ × List Reads). IsFirst x.0 x.1 x.2 c.token-token.result)
    (λ i. ((c.in_ok-blank.ensures.counts ∙ ap (λ (n : ℕ). replicate n 0) count) i, (c.in_ok-blank.ensures.loads ∙ ap (λ (p : Layout). replicate p.nodes 0) (sym lay)) i, (c.in_ok-blank.ensures.sessions ∙ ap (λ (p : Layout). replicate p.sessions unread) (sym lay)) i)) made.first in
    let known_new : c.token-token.result.known.items ≡ replicate (bindings c.in_ok-core.core.layout) knowns.Fresh = ap (λ (v : Vec Known Global). v.items) made.known ∙ (c.in_ok-known.ensures ∙ ap (λ (n : ℕ). replicate n knowns.Fresh) count) in
    let both = tied_first c.in_ok-core.core.layout c.token-token.result first known_new made.seats (ap (λ (h : Holder). h.view) made.pass ∙ c.in_ok-core.ensures.2) in (
      ap (λ (h : Holder). h.id) made.pass ∙ c.in_ok-core.ensures.1,
      both.0,
      both.1,
    )

pub returns-clause-new : goal.returns-clause-new
returns-clause-new c =
    let lay : c.in_ok-core.core.layout ≡ record { nodes = c.args.nodes; rows = c.args.matches.now.rows; sessions = c.args.sessions; contexts = c.args.contexts } = search rules in
    let count : length c.as_slice-given.result.now ≡ bindings c.in_ok-core.core.layout = ap length c.as_slice-given.ensures ∙ ap (λ (p : Layout). bindings p) (sym lay) in
    let made = c.token-token.ensures in
    let first : IsFirst (replicate (bindings c.in_ok-core.core.layout) 0) (replicate c.in_ok-core.core.layout.nodes 0) (replicate c.in_ok-core.core.layout.sessions unread) c.token-token.result =
    subst (λ (x : List ℕ × List ℕ × List Reads). IsFirst x.0 x.1 x.2 c.token-token.result)
    (λ i. ((c.in_ok-blank.ensures.counts ∙ ap (λ (n : ℕ). replicate n 0) count) i, (c.in_ok-blank.ensures.loads ∙ ap (λ (p : Layout). replicate p.nodes 0) (sym lay)) i, (c.in_ok-blank.ensures.sessions ∙ ap (λ (p : Layout). replicate p.sessions unread) (sym lay)) i)) made.first in
    let known_new : c.token-token.result.known.items ≡ replicate (bindings c.in_ok-core.core.layout) knowns.Fresh = ap (λ (v : Vec Known Global). v.items) made.known ∙ (c.in_ok-known.ensures ∙ ap (λ (n : ℕ). replicate n knowns.Fresh) count) in
    let next : Sitting = record { hub = c.in_ok-core.core; table = c.in_ok-table.table; token = c.token-token.result } in
    subst (λ (x : MatchTable × Layout). IsNew x.0 x.1.nodes x.1.sessions x.1.contexts (standing_of next)) (λ i. (c.in_ok-table.ensures i, lay i))
    (new_stands next (bindings c.in_ok-core.core.layout) c.in_ok-core.core.layout.nodes c.in_ok-core.core.layout.sessions (ap (λ (h : Holder). h.view) made.pass ∙ c.in_ok-core.ensures.2) known_new first)

pub invariant_of-result : goal.invariant_of-result
invariant_of-result c =
    let lay : c.in_ok-core.core.layout ≡ record { nodes = c.args.nodes; rows = c.args.matches.now.rows; sessions = c.args.sessions; contexts = c.args.contexts } = search rules in
    let count : length c.as_slice-given.result.now ≡ bindings c.in_ok-core.core.layout = ap length c.as_slice-given.ensures ∙ ap (λ (p : Layout). bindings p) (sym lay) in
    record {
      rows = ap (λ (t : MatchTable). t.rows) c.in_ok-table.ensures ∙ sym (ap (λ (p : Layout). p.rows) lay);
      sound = subst IsSound (sym lay) c.requires;
      wide = omega (arith, width_is c.in_ok-core.core.layout, count);
      nodes = c.in_ok-matching.ensures.nodes ∙ sym (ap (λ (p : Layout). p.nodes) lay);
      broad = omega (arith, c.in_ok-matching.ensures.width, width_is c.in_ok-core.core.layout, ap length c.as_slice-given.ensures, ap (λ (p : Layout). bindings p) (sym lay));
      matches = λ n b. c.in_ok-matching.ensures.stand n b ∙ ap (λ (rows : List (List ℕ)). list_any (λ m. m == n) (slice_index_or rows b [])) (c.as_slice-given.ensures ∙ ap (λ (t : MatchTable). t.rows) (sym c.in_ok-table.ensures));
    }

pub of-requires-clause-few : goal.of-requires-clause-few
of-requires-clause-few c = omega (arith, c.requires.0, ap length c.as_slice-given.ensures)

pub of-requires-clause-within : goal.of-requires-clause-within
of-requires-clause-within c = subst (λ (rows : List (List ℕ)). (b k : ℕ) → k < length (slice_index_or rows b []) → slice_index (slice_index_or rows b []) k < c.args.nodes) (sym c.as_slice-given.ensures) c.requires.1
