-- The nodes of the tags so far.
use Rattle.std.proofs.Common.{◌≡◌, flat_map, take}
use Rattle.pd_index.specs.Kept.{list_of}
use Rattle.pd_index.proofs.candidates.with_tags.Given as goal

abbrev pub invariant-loop-tag : goal.invariant-loop-tag
invariant-loop-tag l = l.some.items ≡ flat_map (list_of l.index) (take l.tag-index l.filter.tags)
