use Rattle.std.proofs.Common.{rules, string_bytes}
use Rattle.pd_gen.specs.Workload.{function_lines}
use Rattle.pd_gen.proofs.LineLemmas.{more_written}
use Rattle.pd_gen.proofs.lines.push_functions.Goals as goal

pub loop-i-init : goal.loop-i-init
unfolding function_lines
loop-i-init c = search rules

pub loop-i-preserved : goal.loop-i-preserved
loop-i-preserved c =
    more_written c.args.number c.loop-i.i c.shift-in-loop-i.result (string_bytes c.args.text.now) (string_bytes c.loop-i.text) (string_bytes c.push_chain.new.text)
    c.loop-i.invariant c.in_ok-push_chain.ensures c.shift-in-loop-i.ensures
