use Rattle.std.proofs.Common.{drop}
use Rattle.std.specs.List.{flat_map}
use Rattle.cqlp_text.proofs.Writing.{Progress}
use Rattle.cqlp_capture_summary.specs.Shown.{escape}
use Rattle.cqlp_capture_summary.proofs.shown.put_escapes.Given as goal

abbrev pub invariant-loop-byte : goal.invariant-loop-byte
invariant-loop-byte g l = Progress l.fn.writer (flat_map escape l.bytes) (flat_map escape (drop l.byte-index l.bytes)) l.writer
