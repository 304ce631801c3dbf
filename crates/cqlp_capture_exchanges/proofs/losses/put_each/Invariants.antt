use Rattle.std.proofs.Common.{drop}
use Rattle.std.specs.List.{flat_map}
use Rattle.cqlp_text.proofs.Writing.{Progress}
use Rattle.cqlp_capture_exchanges.specs.Losses.{reason_text}
use Rattle.cqlp_capture_exchanges.proofs.losses.put_each.Given as goal

abbrev pub invariant-loop-reason : goal.invariant-loop-reason
invariant-loop-reason g l = Progress l.fn.writer (flat_map reason_text l.reasons) (flat_map reason_text (drop l.reason-index l.reasons)) l.writer
