use Rattle.std.proofs.Common.{◌-◌, length}
use Rattle.std.specs.List.{flat_map}
use Rattle.cqlp_text.proofs.Writing.{Progress}
use Rattle.cqlp_capture_summary.specs.Order.{upto}
use Rattle.cqlp_capture_exchanges.specs.SummaryObjects.{known_objects, object_at}
use Rattle.cqlp_capture_exchanges.proofs.summary_objects.put_known.Given as goal

abbrev pub invariant-loop-place : goal.invariant-loop-place
invariant-loop-place g l =
    Progress l.fn.writer (known_objects l.by l.summary)
    (flat_map (object_at l.by l.summary) (upto l.place (length l.summary.names - l.place))) l.writer
