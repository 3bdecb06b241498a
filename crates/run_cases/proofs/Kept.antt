-- One more event, and its verdict is kept.
use Rattle.std.proofs.Common.{◌≡◌, refl, List, [], ◌∷◌, ◌++◌}
use Rattle.pd_machine.specs.Events.{Told}
use Rattle.pd_meaning.specs.Meaning.{Verdicts}
use Rattle.pd_eval.specs.Watching.{keep}
use Rattle.run_cases.specs.declared.case.Asked.{Asked}
use Rattle.run_cases.specs.Answering.{verdict_at, kept_from}

pub kept_one_more : (asked : List Asked) (kept : Verdicts) (ts : List Told) (t : Told)
    → kept_from asked kept (ts ++ t ∷ []) ≡ keep (kept_from asked kept ts) t.event.number (verdict_at asked t.event.number)
kept_one_more asked kept [] t = refl
kept_one_more asked kept (x ∷ xs) t = kept_one_more asked (keep kept x.event.number (verdict_at asked x.event.number)) xs t
