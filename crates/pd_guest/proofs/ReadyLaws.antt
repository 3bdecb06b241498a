-- Boards on which a context may begin: for those who call `run_context`.
use Rattle.std.proofs.Common.{◌≡◌, ℕ, List, length, sym, subst, arith}
use Rattle.pd_tree.specs.Program.{Program}
use Rattle.pd_plan.specs.declared.plan.Plan.{Plan}
use Rattle.pd_plan.specs.Sound.{IsSound}
use Rattle.pd_filter.specs.Matching.{table_of}
use Rattle.pd_board.specs.declared.answers.ActResult.{ActResult}
use Rattle.pd_board.specs.declared.answers.Known.{Known}
use Rattle.pd_board.specs.Standing.{Standing, IsNew}
use Rattle.pd_guest.specs.Beginning.{IsReadyFor}

-- a new board
pub ready-new : (plan : Plan) (p : Program) (s : Standing) → IsSound plan
    → IsNew (table_of plan p) (length p.nodes) (length plan.sessions) (length plan.contexts) s → IsReadyFor plan p s
ready-new plan p s sound new = record {
  table = new.table_is;
  nodes = new.nodes_is;
  sessions = new.sessions_is;
  contexts = new.contexts_is;
  few_bindings = sound.fits.bindings.len.1;
  few_sessions = sound.fits.sessions.len.1;
  sights = new.sights;
  sight_loads = new.sight_loads;
  passes = new.passes;
  numbers = new.numbers;
  loads = new.loads;
  all_loads = new.all_loads;
  cleared = new.cleared;
  nothing_due = new.due;
  is_open = new.ended;
  draws = omega (arith, new.draw_share);
  answers = λ x h. omega (arith, new.answer_share x);
  end_is = omega (arith, new.end_share);
}

ready_else : (plan : Plan) (p : Program) (s : Standing) (replies : List ActResult) (known : ℕ → Known) (spare : ℕ)
    → IsReadyFor plan p s → IsReadyFor plan p (record s { replies = replies; known = known; spare = spare })
ready_else plan p s replies known spare r = record {
  table = r.table;
  nodes = r.nodes;
  sessions = r.sessions;
  contexts = r.contexts;
  few_bindings = r.few_bindings;
  few_sessions = r.few_sessions;
  sights = r.sights;
  sight_loads = r.sight_loads;
  passes = r.passes;
  numbers = r.numbers;
  loads = r.loads;
  all_loads = r.all_loads;
  cleared = r.cleared;
  nothing_due = r.nothing_due;
  is_open = r.is_open;
  draws = r.draws;
  answers = r.answers;
  end_is = r.end_is;
}

-- after room was made
pub ready-room : (plan : Plan) (p : Program) (old new : Standing) → new ≡ record old { spare = new.spare } → IsReadyFor plan p old → IsReadyFor plan p new
ready-room plan p old new same r = subst (λ s. IsReadyFor plan p s) (sym same) (ready_else plan p old old.replies old.known new.spare r)

-- after an act
pub ready-act : (plan : Plan) (p : Program) (old new : Standing) → new ≡ record old { replies = new.replies; known = new.known; spare = new.spare } → IsReadyFor plan p old → IsReadyFor plan p new
ready-act plan p old new same r = subst (λ s. IsReadyFor plan p s) (sym same) (ready_else plan p old new.replies new.known new.spare r)
