use Rattle.std.proofs.Common.{◌≡◌, drop}
use Rattle.cqlp_capture_summary.specs.Fingerprints.{read_from}
use Rattle.cqlp_capture_summary.specs.declared.mode.Mode.TheVariants as mode
use Rattle.cqlp_capture_summary.proofs.fingerprint.read.Given as goal

abbrev pub invariant-loop-byte : goal.invariant-loop-byte
invariant-loop-byte l = read_from l.mode (drop l.byte-index l.statement) l.written ≡ read_from mode.Between l.statement l.fn.written
