use Rattle.std.proofs.Common.{ap, refl, ◌∙◌}
use Rattle.cqlp_json.specs.Lines.{texts}
use Rattle.cqlp_capture_exchanges.specs.Objects.{error_members, reply_members}
use Rattle.cqlp_capture_exchanges.specs.Replies.{reply}
use Rattle.cqlp_text.proofs.Writing.{progress_starts}
use Rattle.cqlp_capture_exchanges.proofs.Texts.{said_last, said_next, said_stops}
use Rattle.cqlp_capture_exchanges.proofs.object.put_response.Goals as goal

pub returns-in_err-put_response_frame : goal.returns-in_err-put_response_frame
returns-in_err-put_response_frame g c =
    said_stops _ c.from_residual.result c.from_residual.ensures.0 (progress_starts _ _) refl refl c.in_err-put_response_frame.ensures

pub returns-in_err-put_reply : goal.returns-in_err-put_reply
returns-in_err-put_reply g c =
    let s1 = said_next _ (progress_starts _ _) refl refl c.in_ok-put_response_frame.ensures in
    said_stops _ c.from_residual-in_err-put_reply.result c.from_residual-in_err-put_reply.ensures.0 s1 refl (ap (λ z. texts (reply_members z)) (c.reply_of-reply.ensures ∙ ap (reply c.args.response.now.frame.header) c.front.ensures)) c.in_err-put_reply.ensures

pub returns-in_err-put_error : goal.returns-in_err-put_error
returns-in_err-put_error g c =
    let s1 = said_next _ (progress_starts _ _) refl refl c.in_ok-put_response_frame.ensures in
    let s2 = said_next _ s1 refl (ap (λ z. texts (reply_members z)) (c.reply_of-reply.ensures ∙ ap (reply c.args.response.now.frame.header) c.front.ensures)) c.in_ok-put_reply.ensures in
    said_stops _ c.from_residual-in_err-put_error.result c.from_residual-in_err-put_error.ensures.0 s2 refl (λ i. error_members (c.is_text_dropped.ensures i) ((c.reply_of-reply.ensures ∙ ap (reply c.args.response.now.frame.header) c.front.ensures) i) (c.front-2.ensures i)) c.in_err-put_error.ensures

pub returns : goal.returns
returns g c =
    let s1 = said_next _ (progress_starts _ _) refl refl c.in_ok-put_response_frame.ensures in
    let s2 = said_next _ s1 refl (ap (λ z. texts (reply_members z)) (c.reply_of-reply.ensures ∙ ap (reply c.args.response.now.frame.header) c.front.ensures)) c.in_ok-put_reply.ensures in
    let s3 = said_next _ s2 refl (λ i. error_members (c.is_text_dropped.ensures i) ((c.reply_of-reply.ensures ∙ ap (reply c.args.response.now.frame.header) c.front.ensures) i) (c.front-2.ensures i)) c.in_ok-put_error.ensures in
    said_last _ _ c.put_known.result s3 refl refl c.put_known.ensures
