use Rattle.std.proofs.Common.{◌≡◌, take, map}
use Rattle.pd_words.specs.Fuel.{context_with}
use Rattle.pd_words.proofs.fuel.contexts_with.Given as goal

-- the contexts so far are there, with the fuel
abbrev pub invariant-loop-context : goal.invariant-loop-context
invariant-loop-context l = l.all.items ≡ map (context_with l.fuel) (take l.context-index l.contexts)
