-- For the program that runs the cases: no library's contract cites it.
-- What is answered at each event, and the verdicts that a watcher keeps who answers so.
use Rattle.std.specs.Prelude.{ℕ, if◌then◌else◌, ◌==◌, List, [], ◌∷◌}
use Rattle.pd_values.specs.declared.value.Value.TheVariants.{Number}
use Rattle.pd_machine.specs.declared.event.Verdict.{Verdict}
use Rattle.pd_machine.specs.declared.event.Verdict.TheVariants as verdicts
use Rattle.pd_machine.specs.Events.{Told}
use Rattle.pd_meaning.specs.Meaning.{Verdicts}
use Rattle.pd_eval.specs.Watching.{keep}
use Rattle.run_cases.specs.declared.case.Answer.{Answer}
use Rattle.run_cases.specs.declared.case.Answer.TheVariants.{Reenter, Return, Kill}
use Rattle.run_cases.specs.declared.case.Asked.{Asked}

-- the verdict that a case asks for
abbrev pub verdict_of : Answer → Verdict
verdict_of (Reenter frame) = verdicts.Reenter frame
verdict_of (Return frame value) = verdicts.Return frame (Number value)
verdict_of Kill = verdicts.Kill

-- the first answer for the event of this number
abbrev pub verdict_at : List Asked → ℕ → Verdict
verdict_at [] event = verdicts.Go
verdict_at (a ∷ rest) event = if a.event == event then verdict_of a.answer else verdict_at rest event

-- the verdicts on these events, after those that were kept before
abbrev pub kept_from : List Asked → Verdicts → List Told → Verdicts
kept_from asked kept [] = kept
kept_from asked kept (t ∷ ts) = kept_from asked (keep kept t.event.number (verdict_at asked t.event.number)) ts
