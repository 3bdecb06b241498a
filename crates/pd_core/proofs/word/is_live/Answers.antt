use Rattle.std.proofs.Common.{rules, ◌≡◌, ◌&&◌, ◌==◌, ◌/◌, ◌%◌, sym, ap, ◌∙◌, true, false}
use Rattle.pd_core.proofs.Bits.{live_by}
use Rattle.pd_core.proofs.word.is_live.Goals as goal

pub returns-then-word-eq1 : goal.returns-then-word-eq1
returns-then-word-eq1 c = let e : (c.args.word % 2 == 1) ≡ true = search rules in sym (live_by c.args.word ∙ ap (λ t. t && (c.args.word / 2 % 2 == 0)) e)

pub returns-else-word-eq1 : goal.returns-else-word-eq1
returns-else-word-eq1 c = let e : (c.args.word % 2 == 1) ≡ false = search rules in e ∙ sym (live_by c.args.word ∙ ap (λ t. t && (c.args.word / 2 % 2 == 0)) e)
