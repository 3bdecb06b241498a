-- What each call leaves of what a player may take.
use Rattle.std.proofs.Common.{◌≡◌, ℕ, ◌-◌, ◌<◌, true, Some, sym, subst, ◌∙◌, arith}
use Rattle.pd_board.specs.declared.chain.Chain.{Chain}
use Rattle.pd_board.specs.Chain.{has}
use Rattle.pd_board.specs.Standing.{Standing}
use Rattle.pd_shared.specs.Sitting.{Sitting, standing_of}
use Rattle.pd_shared.specs.Left.{HasHanded}
use Rattle.seat_threads.specs.Fit.{IsFit, KeepsShares}

pub acted : (left splits node : ℕ) (due : Chain) (old new : Standing) → IsFit left splits node due old → KeepsShares old new → IsFit left splits node due new
acted left splits node due old new fit keeps = subst (λ (s : Standing). IsFit left splits node due s) (sym keeps) (record { bindings_are = fit.bindings_are; nodes_are = fit.nodes_are; sessions_are = fit.sessions_are; draws = fit.draws; answers = fit.answers; ends = fit.ends; node_is = fit.node_is; is_held = fit.is_held; is_due = fit.is_due; is_last = fit.is_last })

pub loaded : (left splits node n : ℕ) (due chain : Chain) (old new : Standing) → IsFit left splits node due old → n < 16
    → ((b : ℕ) → new.held b ≡ has chain b) → ((b : ℕ) → new.due b ≡ has chain b) → new.last_node ≡ Some n
    → new ≡ record old { held = new.held; due = new.due; last_node = new.last_node; known = new.known; loads = new.loads; all_loads = new.all_loads }
    → IsFit left splits n chain new
loaded left splits node n due chain old new fit below held dues last rest = subst (λ (s : Standing). IsFit left splits n chain s) (sym rest) (record { bindings_are = fit.bindings_are; nodes_are = fit.nodes_are; sessions_are = fit.sessions_are; draws = fit.draws; answers = fit.answers; ends = fit.ends; node_is = below; is_held = λ b h. held b ∙ h; is_due = λ b h. dues b ∙ h; is_last = λ b h. last })

pub ended : (left splits node : ℕ) (due : Chain) (old new : Standing) → IsFit left splits node due old → new.ended ≡ true
    → new ≡ record old { ended = new.ended; end_share = new.end_share } → IsFit left splits node due new
ended left splits node due old new fit over rest = subst (λ (s : Standing). IsFit left splits node due s) (sym rest) (record { bindings_are = fit.bindings_are; nodes_are = fit.nodes_are; sessions_are = fit.sessions_are; draws = fit.draws; answers = fit.answers; ends = λ going. cc; node_is = fit.node_is; is_held = fit.is_held; is_due = fit.is_due; is_last = fit.is_last })

pub handed : (left splits node : ℕ) (due : Chain) (old new : Sitting) → IsFit left splits node due (standing_of old) → 0 < splits → HasHanded old new → IsFit left (splits - 1) node due (standing_of new)
handed left splits node due old new fit some gave = subst (λ (s : Standing). IsFit left (splits - 1) node due s) (sym gave.stands) (record {
  bindings_are = fit.bindings_are;
  nodes_are = fit.nodes_are;
  sessions_are = fit.sessions_are;
  draws = omega (arith, fit.draws);
  answers = λ t below. omega (arith, fit.answers t below, gave.answers t (omega (arith, fit.sessions_are)));
  ends = λ going. omega (arith, fit.ends going);
  node_is = fit.node_is;
  is_held = fit.is_held;
  is_due = fit.is_due;
  is_last = fit.is_last;
})
