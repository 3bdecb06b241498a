-- Every list of steps keeps the rule.
use Rattle.std.proofs.Common.{List, [], ◌∷◌, sym, subst}
use Rattle.pd_core.specs.Layout.{Layout}
use Rattle.pd_core.specs.Good.{Good}
use Rattle.pd_core.specs.Kinds.{State}
use Rattle.pd_core.specs.Runs.{Turn, moves, splits, joins, Leads, Runs, opening, EveryRunIsGood}
use Rattle.pd_core.proofs.Steps.{each_kind}
use Rattle.pd_core.proofs.Seats.{split_keeps, join_keeps}
use Rattle.pd_core.proofs.Opens.{opens}

abbrev pub IsGood : Layout → State → Type 0
IsGood p s = Good p s.words s.views

pub each_turn : (p : Layout) (s : State) (t : Turn) (next : State) → IsGood p s → Leads p s t next → IsGood p next
each_turn p s (moves k id) next g h = subst (IsGood p) (sym h.4) (each_kind p k s id h.0 g h.1 h.2 h.3)
each_turn p s (splits id) next g h = subst (IsGood p) (sym h.3) (split_keeps p s.words s.views id h.0 g h.1 h.2)
each_turn p s (joins id other) next g h = subst (IsGood p) (sym h.6) (join_keeps p s.words s.views id other h.0 h.1 g h.2 h.4 h.3 h.5)

each_run : (p : Layout) (s : State) (ts : List Turn) (next : State) → IsGood p s → Runs p s ts next → IsGood p next
each_run p s [] next g r = subst (IsGood p) (sym r) g
each_run p s (t ∷ ts) next g r = each_run p r.0 ts next (each_turn p s t r.0 g r.1) r.2

pub every_run : EveryRunIsGood
every_run p ts next shape r = each_run p (opening p) ts next (opens p shape) r
