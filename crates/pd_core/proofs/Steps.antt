-- Each kind of step keeps the rule.
use Rattle.pd_core.specs.Layout.{Layout}
use Rattle.pd_core.specs.Kinds.{Kind, load_node, load_binding, draw, clear_bit, set_bit, set_attached, set_disposed, count_answer, load_answers, count_end, load_ends, load_row, set_summary, set_off, clear_off}
use Rattle.pd_core.proofs.Frame.{Keeps}
use Rattle.pd_core.proofs.Draws.{draws}
use Rattle.pd_core.proofs.Disposes.{disposes}
use Rattle.pd_core.proofs.Attaches.{attaches}
use Rattle.pd_core.proofs.Marks.{marks, sweeps, summaries}
use Rattle.pd_core.proofs.Loads.{loads, row_loads}
use Rattle.pd_core.proofs.Looks.{looks}
use Rattle.pd_core.proofs.Toggles.{disables, enables}
use Rattle.pd_core.proofs.Answers.{answers, asks, finishes, tallies}
use Rattle.pd_core.proofs.Notes.{KeepsAll, keeps_all}

each_effect : (p : Layout) (k : Kind) → Keeps p k
each_effect p (load_node n) = loads p n
each_effect p (load_binding event b) = looks p event b
each_effect p (draw event b) = draws p event b
each_effect p (clear_bit n b) = sweeps p n b
each_effect p (set_bit n b) = marks p n b
each_effect p (set_attached b) = attaches p b
each_effect p (set_disposed b) = disposes p b
each_effect p (count_answer s) = answers p s
each_effect p (load_answers s) = asks p s
each_effect p count_end = finishes p
each_effect p load_ends = tallies p
each_effect p (load_row n r) = row_loads p n r
each_effect p (set_summary n r) = summaries p n r
each_effect p (set_off b) = disables p b
each_effect p (clear_off b) = enables p b

pub each_kind : (p : Layout) (k : Kind) → KeepsAll p k
each_kind p k = keeps_all p k (each_effect p k)
