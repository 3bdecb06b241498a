use Rattle.std.proofs.Common.{arith}
use Rattle.pd_top.proofs.FileLemmas.{short_of, long_of}
use Rattle.pd_top.proofs.files.fetched.Goals as goal

pub returns-clause-content : goal.returns-clause-content
returns-clause-content g c =
    short_of (g.L.Library.held c.args.files.now) (g.L.Library.given c.args.files.now) (g.L.Library.given c.fetch.new.self) c.args.name.now c.in-Ok.bytes.items
    c.in-Ok.ensures.content c.in-Ok.ensures.given (omega (arith, c.in-Ok.bytes.ok.0, c.len.ensures))

pub returns-then-len-gt-MOST_BYTES-clause-stopped : goal.returns-then-len-gt-MOST_BYTES-clause-stopped
returns-then-len-gt-MOST_BYTES-clause-stopped g c = (
  c.in_ok-named.ensures,
  long_of (g.L.Library.held c.args.files.now) (g.L.Library.given c.args.files.now) (g.L.Library.given c.fetch.new.self) c.args.name.now c.in-Ok.bytes.items
      c.in-Ok.ensures.content c.in-Ok.ensures.given (omega (arith, c.in-Ok.bytes.ok.0, c.in-Ok.ensures.limit)) (omega (arith, c.in-Ok.bytes.ok.0, c.len.ensures)),
)
