use Rattle.std.proofs.Common.{ap, refl}
use Rattle.cqlp_capture_exchanges.specs.DetailsLines.{numbers_text}
use Rattle.cqlp_capture_exchanges.specs.Lines.{statement_text}
use Rattle.cqlp_text.proofs.Writing.{progress_starts}
use Rattle.cqlp_capture_exchanges.proofs.Texts.{said_last, said_next, said_stops}
use Rattle.cqlp_capture_exchanges.proofs.lines.put_error_message.Goals as goal

pub returns-in_err-put_statement : goal.returns-in_err-put_statement
returns-in_err-put_statement g c =
    said_stops _ c.from_residual.result c.from_residual.ensures.0 (progress_starts _ _) refl (ap statement_text c.message_of-message.ensures) c.in_err-put_statement.ensures

pub returns : goal.returns
returns g c =
    let s1 = said_next _ (progress_starts _ _) refl (ap statement_text c.message_of-message.ensures) c.in_ok-put_statement.ensures in
    said_last _ _ c.put_numbers.result s1 refl (ap numbers_text c.error_details-details.ensures) c.put_numbers.ensures
