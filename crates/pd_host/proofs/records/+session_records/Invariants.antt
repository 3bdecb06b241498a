-- Each call has one session less.
use Rattle.std.specs.Prelude.{vec_len}
use Rattle.pd_host.proofs.records.+session_records.Given as goal

abbrev pub decreases-session_records : goal.decreases-session_records
decreases-session_records l = vec_len l.befores
