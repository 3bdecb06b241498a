-- The hits among what was seen before the index.
use Rattle.std.proofs.Common.{◌≡◌, take}
use Rattle.std.specs.List.{filter_map}
use Rattle.pd_guest.specs.Hitting.{hit_in}
use Rattle.pd_guest.proofs.hits.hits_of.Given as goal

abbrev pub invariant-sights : goal.invariant-sights
invariant-sights l = l.hits ≡ filter_map (hit_in l.m l.session) (take l.sight-index l.sights)
