use Rattle.std.proofs.Common.{◌∙◌, length, ap, arith}
use Rattle.pd_top.specs.Files.{read_between}
use Rattle.pd_top.proofs.FileLemmas.{sources_counted}
use Rattle.pd_top.proofs.loading.read_sources.Goals as goal

pub sources_of-requires : goal.sources_of-requires
sources_of-requires g c =
    let counted =
    sources_counted (read_between g.L.Library.held g.L.Library.given c.args.files.now c.files_of.new.files) c.as_slice.result.now c.in_ok-read.read.items
    c.in_ok-read.ensures.sources
    ∙ ap length c.as_slice.ensures in
    record { few = omega (arith, counted, c.requires.few) }

pub returns-in-Ok-clause-each : goal.returns-in-Ok-clause-each
returns-in-Ok-clause-each g c =
    ap length (c.of.ensures ∙ c.in-Ok.ensures.sources)
    ∙ sources_counted (read_between g.L.Library.held g.L.Library.given c.args.files.now c.files_of.new.files) c.as_slice.result.now c.in_ok-read.read.items
    c.in_ok-read.ensures.sources
    ∙ ap length c.as_slice.ensures
