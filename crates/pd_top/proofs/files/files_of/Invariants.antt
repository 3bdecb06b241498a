use Rattle.std.proofs.Common.{◌≡◌, ◌≤◌, take}
use Rattle.pd_top.specs.Files.{read_between, IsGrown, AreSources}
use Rattle.pd_top.proofs.files.files_of.Given as goal

-- the files before this one are read
abbrev pub invariant-loop-source : goal.invariant-loop-source
invariant-loop-source g l =
    AreSources (read_between g.L.Library.held g.L.Library.given l.initial.files l.files) (take l.source-index l.sources) l.read.items
    × (g.L.Library.held l.files ≡ g.L.Library.held l.initial.files)
    × (g.L.Library.faults l.initial.files ≤ g.L.Library.faults l.files)
    × IsGrown (g.L.Library.given l.initial.files) (g.L.Library.given l.files)
