-- The nodes and the sources of the places so far.
use Rattle.std.proofs.Common.{◌≡◌, map, take}
use Rattle.pd_index.specs.Places.{node_of, source_of}
use Rattle.pd_index.proofs.lines.Lines.of.Given as goal

abbrev pub invariant-loop-place : goal.invariant-loop-place
invariant-loop-place l =
    (l.nodes.items ≡ map node_of (take l.place-index l.place-items))
    × (l.sources.items ≡ map source_of (take l.place-index l.place-items))
