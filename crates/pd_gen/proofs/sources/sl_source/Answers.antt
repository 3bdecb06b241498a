use Rattle.std.proofs.Common.{ℕ, List, length, ◌≤◌, subst, sym}
use Rattle.pd_gen.proofs.LineLemmas.{text_short}
use Rattle.pd_gen.proofs.sources.sl_source.Goals as goal

pub source_of-requires : goal.source_of-requires
source_of-requires c = let P : List ℕ → Type 0 = λ bytes. length bytes ≤ 1048576 in subst P (sym c.in_ok-text.ensures) (text_short c.args.number)
