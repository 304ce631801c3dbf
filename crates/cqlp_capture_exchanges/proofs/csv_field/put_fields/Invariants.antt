use Rattle.std.proofs.Common.{drop}
use Rattle.std.specs.List.{flat_map}
use Rattle.cqlp_text.proofs.Writing.{Progress}
use Rattle.cqlp_capture_exchanges.specs.CsvFields.{value_field}
use Rattle.cqlp_capture_exchanges.proofs.csv_field.put_fields.Given as goal

abbrev pub invariant-loop-value : goal.invariant-loop-value
invariant-loop-value g l = Progress l.fn.writer (flat_map value_field l.values) (flat_map value_field (drop l.value-index l.values)) l.writer
