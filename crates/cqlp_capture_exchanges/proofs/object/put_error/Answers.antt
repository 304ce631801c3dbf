use Rattle.std.proofs.Common.{ap, refl}
use Rattle.cqlp_json.specs.Lines.{texts}
use Rattle.cqlp_capture_exchanges.specs.DetailsObjects.{details_member}
use Rattle.cqlp_capture_exchanges.specs.Objects.{message_members}
use Rattle.cqlp_text.proofs.Writing.{progress_starts}
use Rattle.cqlp_capture_exchanges.proofs.Texts.{said_last, said_next, said_stops}
use Rattle.cqlp_capture_exchanges.proofs.object.put_error.Goals as goal

pub returns-in_err-put_message : goal.returns-in_err-put_message
returns-in_err-put_message g c =
    said_stops _ c.from_residual.result c.from_residual.ensures.0 (progress_starts _ _) refl (ap (λ m. texts (message_members c.args.is_given_up m)) c.message_of-message.ensures) c.in_err-put_message.ensures

pub returns : goal.returns
returns g c =
    let s1 = said_next _ (progress_starts _ _) refl (ap (λ m. texts (message_members c.args.is_given_up m)) c.message_of-message.ensures) c.in_ok-put_message.ensures in
    said_last _ _ c.put_details.result s1 refl (ap details_member c.error_details-details.ensures) c.put_details.ensures
