-- The laws are proved of the meaning, and of linking.
use Rattle.std.proofs.Common.{[]}
use Rattle.pd_meaning.specs.Meaning.{meaning_of}
use Rattle.pd_order.proofs.Runs.{meaning_ordered}
use Rattle.pd_nesting.proofs.Nested.{nested_from}
use Rattle.pd_nesting.proofs.Covered.{covered_run}
use Rattle.pd_nesting.proofs.Rooted.{linked_rooted}
use Rattle.pd_nesting.proofs.nesting_law.Goals as goal

pub returns-clause-nested : goal.returns-clause-nested
returns-clause-nested c p v fuel entry = nested_from (meaning_of p entry fuel v).events 0 [] (meaning_ordered p v fuel entry)

pub returns-clause-covered : goal.returns-clause-covered
returns-clause-covered c p v fuel entry rooted = covered_run p v fuel entry rooted

pub returns-clause-rooted : goal.returns-clause-rooted
returns-clause-rooted c trees found entries = linked_rooted trees found entries
