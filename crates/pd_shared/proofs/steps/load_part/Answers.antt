use Rattle.std.proofs.Common.{rules, arith, ap}
use Rattle.pd_core.specs.Tokens.{Holder}
use Rattle.pd_core.proofs.Places.{width_is}
use Rattle.pd_shared.specs.Book.{book_of}
use Rattle.pd_shared.proofs.GoneLemmas.{tied_row, row_matching}
use Rattle.pd_shared.proofs.steps.load_part.Goals as goal

pub find_gone-requires-clause-row : goal.find_gone-requires-clause-row
find_gone-requires-clause-row c = omega (arith, width_is c.args.board.now.core.layout, c.args.board.now.sound.0, c.requires.row)

pub returns-clause-tied : goal.returns-clause-tied
returns-clause-tied c = rw (c.load_row-word.ensures.view) (tied_row c.args.board.now.core.layout c.args.board.now.table c.args.n c.args.r c.load_row-word.result c.args.token.now.pass.view (book_of c.args.token.now) c.find_gone.new.known.items c.args.board.now.rows c.requires.tied c.load_row-word.ensures.found c.find_gone.ensures.known (search rules))

pub returns-clause-matching : goal.returns-clause-matching
returns-clause-matching c b here set = row_matching c.args.board.now.core.layout c.args.board.now.table c.args.n c.args.r c.load_row-word.result b c.args.token.now.pass.view c.args.board.now.rows c.requires.node c.requires.row c.load_row-word.ensures.found here set

pub returns-clause-step : goal.returns-clause-step
returns-clause-step c = (c.load_row-word.ensures.found, ap (λ (h : Holder). h.view) c.load_row-word.ensures.view)
