use Rattle.std.proofs.Common.{length}
use Rattle.pd_pl0_read.proofs.Reading.{token_within}
use Rattle.pd_pl0_parse.proofs.texts.token_at.Goals as goal

pub returns-then-i-len-clause-within : goal.returns-then-i-len-clause-within
returns-then-i-len-clause-within c = (token_within 0 (length c.args.source.now.bytes) c.args.tokens.now c.args.i c.get.result c.requires c.get.ensures).0
