-- Two runs are one.
use Rattle.std.proofs.Common.{◌∙◌, codes, sym, ap}
use Rattle.cqlp_capture_streams.proofs.OneAnswer.{runs_once}
use Rattle.cqlp_capture_rows.specs.Listening.{Listening, StopsAt, new_listening, with_connection_event}
use Rattle.cqlp_capture_rows.specs.Capturing.{OneAnswerOfWriteRows}

pub rows_once : OneAnswerOfWriteRows
rows_once l given asked ports xs out err made made' left left' status status' out' out'' err' err'' (r, (w, reads, is), ends) well (r', (w', reads', is'), ends') well' =
    let one = runs_once with_connection_event StopsAt (λ (z : Listening). codes "rows") l ports xs (new_listening given asked out) w w' made made' left left' r r' err err' err'' status status' reads ends well reads' ends' well' in
    (one.0, is' ∙ ap (λ (z : Listening). z.output) one.1 ∙ sym is, one.2)
