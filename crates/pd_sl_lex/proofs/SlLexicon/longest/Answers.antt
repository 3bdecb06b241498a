use Rattle.pd_sl_lex.proofs.Finding.{found_right_of, some_part, fault_part, none_part}
use Rattle.pd_sl_lex.proofs.SlLexicon.longest.Goals as goal

pub returns-clause-some : goal.returns-clause-some
returns-clause-some c = some_part c.args.bytes.now _ (found_right_of c.args.bytes.now _ c.found_in.ensures)

pub returns-clause-fault : goal.returns-clause-fault
returns-clause-fault c = fault_part c.args.bytes.now _ (found_right_of c.args.bytes.now _ c.found_in.ensures)

pub returns-clause-none : goal.returns-clause-none
returns-clause-none c = none_part c.args.bytes.now _ (found_right_of c.args.bytes.now _ c.found_in.ensures)
