use Rattle.pd_sections.specs.Pl0Pieces.{pl0_piece}
use Rattle.pd_pl0_lex.proofs.FoundPieces.{some_part, fault_part, none_part}
use Rattle.pd_pl0_lex.proofs.Finding.{found_right_of}
use Rattle.pd_pl0_lex.proofs.Pl0Lexicon.longest.Goals as goal

pub returns-clause-some : goal.returns-clause-some
returns-clause-some c = some_part pl0_piece c.args.bytes.now _ (found_right_of c.args.bytes.now _ c.found_in.ensures)

pub returns-clause-fault : goal.returns-clause-fault
returns-clause-fault c = fault_part pl0_piece c.args.bytes.now _ (found_right_of c.args.bytes.now _ c.found_in.ensures)

pub returns-clause-none : goal.returns-clause-none
returns-clause-none c = none_part pl0_piece c.args.bytes.now _ (found_right_of c.args.bytes.now _ c.found_in.ensures)
