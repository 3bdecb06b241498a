-- The laws are proved of the definitions.
use Rattle.pd_order.proofs.Runs.{meaning_bound, meaning_ordered, meaning_placed}
use Rattle.pd_order.proofs.order_law.Goals as goal

pub returns-clause-in_order : goal.returns-clause-in_order
returns-clause-in_order c p v fuel entry = meaning_ordered p v fuel entry

pub returns-clause-few : goal.returns-clause-few
returns-clause-few c p v fuel entry = meaning_bound p v fuel entry

pub returns-clause-placed : goal.returns-clause-placed
returns-clause-placed c p v fuel entry linked = meaning_placed p v fuel entry linked
