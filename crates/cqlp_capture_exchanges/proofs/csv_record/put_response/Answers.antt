use Rattle.std.proofs.Common.{ap, refl, ◌∙◌}
use Rattle.cqlp_json.specs.Lines.{texts}
use Rattle.cqlp_capture_exchanges.specs.CsvRecords.{message_fields, reply_fields}
use Rattle.cqlp_capture_exchanges.specs.Replies.{message, reply}
use Rattle.cqlp_text.proofs.Writing.{progress_starts}
use Rattle.cqlp_capture_exchanges.proofs.Texts.{said_last, said_next, said_stops}
use Rattle.cqlp_capture_exchanges.proofs.csv_record.put_response.Goals as goal

pub returns-in_err-put_frame : goal.returns-in_err-put_frame
returns-in_err-put_frame g c =
    said_stops _ c.from_residual.result c.from_residual.ensures.0 (progress_starts _ _) refl refl c.in_err-put_frame.ensures

pub returns-in_err-put_reply : goal.returns-in_err-put_reply
returns-in_err-put_reply g c =
    let s1 = said_next _ (progress_starts _ _) refl refl c.in_ok-put_frame.ensures in
    said_stops _ c.from_residual-in_err-put_reply.result c.from_residual-in_err-put_reply.ensures.0 s1 refl (ap (λ z. texts (reply_fields z)) (c.reply_of-reply.ensures ∙ ap (reply c.args.response.now.frame.header) c.front-front.ensures)) c.in_err-put_reply.ensures

pub returns-in_err-put_message : goal.returns-in_err-put_message
returns-in_err-put_message g c =
    let s1 = said_next _ (progress_starts _ _) refl refl c.in_ok-put_frame.ensures in
    let s2 = said_next _ s1 refl (ap (λ z. texts (reply_fields z)) (c.reply_of-reply.ensures ∙ ap (reply c.args.response.now.frame.header) c.front-front.ensures)) c.in_ok-put_reply.ensures in
    said_stops _ c.from_residual-in_err-put_message.result c.from_residual-in_err-put_message.ensures.0 s2 refl (λ i. texts (message_fields (c.is_text_dropped.ensures i) ((c.message_of-message.ensures ∙ (λ j. message ((c.reply_of-reply.ensures ∙ ap (reply c.args.response.now.frame.header) c.front-front.ensures) j) (c.front-front.ensures j))) i))) c.in_err-put_message.ensures

pub returns : goal.returns
returns g c =
    let s1 = said_next _ (progress_starts _ _) refl refl c.in_ok-put_frame.ensures in
    let s2 = said_next _ s1 refl (ap (λ z. texts (reply_fields z)) (c.reply_of-reply.ensures ∙ ap (reply c.args.response.now.frame.header) c.front-front.ensures)) c.in_ok-put_reply.ensures in
    let s3 = said_next _ s2 refl (λ i. texts (message_fields (c.is_text_dropped.ensures i) ((c.message_of-message.ensures ∙ (λ j. message ((c.reply_of-reply.ensures ∙ ap (reply c.args.response.now.frame.header) c.front-front.ensures) j) (c.front-front.ensures j))) i))) c.in_ok-put_message.ensures in
    said_last _ _ c.put_known.result s3 refl refl c.put_known.ensures
