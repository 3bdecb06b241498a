use Rattle.pd_run.proofs.Told.{lives_are_told}
use Rattle.pd_run.proofs.Numbers.{answers_are_told}
use Rattle.pd_run.proofs.Scripts.{scripts_are_told}
use Rattle.pd_run.proofs.Records.{records_are_hands}
use Rattle.pd_run.proofs.ByEvent.{stops_are_by_event}
use Rattle.pd_run.proofs.history_law.Goals as goal

pub returns-clause-lives : goal.returns-clause-lives
returns-clause-lives c = lives_are_told

pub returns-clause-answers : goal.returns-clause-answers
returns-clause-answers c = answers_are_told

pub returns-clause-scripts : goal.returns-clause-scripts
returns-clause-scripts c = scripts_are_told

pub returns-clause-records : goal.returns-clause-records
returns-clause-records c = records_are_hands

pub returns-clause-by_event : goal.returns-clause-by_event
returns-clause-by_event c = stops_are_by_event
