-- Definition, which public contracts cite.
-- Where a board of one thread stands, and what it keeps.
use Rattle.std.specs.Prelude.{◌-◌, true, if◌then◌else◌, length, slice_index}
use Rattle.pd_board.specs.declared.plain.PlainBoard.{PlainBoard}
use Rattle.pd_board.specs.Chain.{has}
use Rattle.pd_board.specs.Life.{known}
use Rattle.pd_board.specs.Kept.{life_at, upto}
use Rattle.pd_board.specs.Standing.{Standing, most_counted}
use Rattle.pd_board.specs.Sessions.{word_at}

-- where the board stands, by its fields
abbrev pub standing_of : PlainBoard → Standing
standing_of p = record {
  table = p.table;
  nodes = p.bits.nodes;
  sessions = length p.sessions.items;
  contexts = p.contexts;
  alone = true;
  replies = p.journal.replies;
  sights = p.journal.sights;
  sight_loads = p.journal.sight_loads;
  passes = p.journal.passes;
  known = λ b. known (life_at p.lives.items b);
  numbers = λ s. upto (word_at p.sessions.items s).taken;
  draw_share = p.draws_left;
  answer_share = λ s. most_counted - (word_at p.sessions.items s).taken;
  end_share = if p.ended then most_counted - 1 else most_counted;
  ended = p.ended;
  loads = λ n. slice_index p.loads.items n;
  all_loads = p.all_loads;
  answer_loads = λ s. (word_at p.sessions.items s).loads;
  last_answers = λ s. (word_at p.sessions.items s).last;
  end_loads = p.end_loads;
  last_ends = p.last_ends;
  cleared = p.cleared;
  spare = p.journal.spare;
  last_node = p.last_node;
  held = has p.held;
  due = has p.due;
}
