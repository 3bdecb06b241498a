use Rattle.std.proofs.Common.{◌==◌, sym, ap}
use Rattle.pd_core.proofs.Bits.{off_by}
use Rattle.pd_core.proofs.word.is_off.Goals as goal

pub returns : goal.returns
returns c = ap (λ n. n == 1) (sym (off_by c.args.word))
