use Rattle.cqlp_capture_rows.proofs.WrittenOnce.{rows_once}
use Rattle.cqlp_capture_rows.proofs.laws.one_answer_of_write_rows.Goals as goal

pub returns : goal.returns
returns c = rows_once
