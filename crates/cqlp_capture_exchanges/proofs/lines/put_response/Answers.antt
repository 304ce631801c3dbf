use Rattle.std.proofs.Common.{ap, refl, ◌∙◌}
use Rattle.cqlp_observer_facts.specs.declared.facts.Facts.{Facts}
use Rattle.cqlp_capture_exchanges.specs.Lines.{error_text, given_up_mark, page_counts_text, reply_text, tracing_text, warnings_text}
use Rattle.cqlp_capture_exchanges.specs.Replies.{reply}
use Rattle.cqlp_capture_exchanges.specs.Warnings.{warnings_in}
use Rattle.cqlp_text.proofs.Writing.{progress_starts}
use Rattle.cqlp_capture_exchanges.proofs.Texts.{said_last, said_next, said_stops}
use Rattle.cqlp_capture_exchanges.proofs.lines.put_response.Goals as goal

pub returns-in_err-put_reply : goal.returns-in_err-put_reply
returns-in_err-put_reply g c =
    said_stops _ c.from_residual.result c.from_residual.ensures.0 (progress_starts _ _) refl (ap reply_text (c.reply_of-reply.ensures ∙ ap (reply c.args.response.now.frame.header) c.front.ensures)) c.in_err-put_reply.ensures

pub returns-in_err-put_page_counts : goal.returns-in_err-put_page_counts
returns-in_err-put_page_counts g c =
    let s1 = said_next _ (progress_starts _ _) refl (ap reply_text (c.reply_of-reply.ensures ∙ ap (reply c.args.response.now.frame.header) c.front.ensures)) c.in_ok-put_reply.ensures in
    said_stops _ c.from_residual-in_err-put_page_counts.result c.from_residual-in_err-put_page_counts.ensures.0 s1 refl (ap page_counts_text c.facts-facts.ensures) c.in_err-put_page_counts.ensures

pub returns-in_err-put_message : goal.returns-in_err-put_message
returns-in_err-put_message g c =
    let s1 = said_next _ (progress_starts _ _) refl (ap reply_text (c.reply_of-reply.ensures ∙ ap (reply c.args.response.now.frame.header) c.front.ensures)) c.in_ok-put_reply.ensures in
    let s2 = said_next _ s1 refl (ap page_counts_text c.facts-facts.ensures) c.in_ok-put_page_counts.ensures in
    said_stops _ c.from_residual-in_err-put_message.result c.from_residual-in_err-put_message.ensures.0 s2 refl (λ i. error_text ((c.reply_of-reply.ensures ∙ ap (reply c.args.response.now.frame.header) c.front.ensures) i) (c.front-2.ensures i)) c.in_err-put_message.ensures

pub returns-in_err-put_str : goal.returns-in_err-put_str
returns-in_err-put_str g c =
    let s1 = said_next _ (progress_starts _ _) refl (ap reply_text (c.reply_of-reply.ensures ∙ ap (reply c.args.response.now.frame.header) c.front.ensures)) c.in_ok-put_reply.ensures in
    let s2 = said_next _ s1 refl (ap page_counts_text c.facts-facts.ensures) c.in_ok-put_page_counts.ensures in
    let s3 = said_next _ s2 refl (λ i. error_text ((c.reply_of-reply.ensures ∙ ap (reply c.args.response.now.frame.header) c.front.ensures) i) (c.front-2.ensures i)) c.in_ok-put_message.ensures in
    said_stops _ c.from_residual-in_err-put_str.result c.from_residual-in_err-put_str.ensures.0 s3 refl (c.given_up_mark.ensures ∙ ap given_up_mark c.is_text_dropped.ensures) c.in_err-put_str.ensures

pub returns-in_err-put_warnings : goal.returns-in_err-put_warnings
returns-in_err-put_warnings g c =
    let s1 = said_next _ (progress_starts _ _) refl (ap reply_text (c.reply_of-reply.ensures ∙ ap (reply c.args.response.now.frame.header) c.front.ensures)) c.in_ok-put_reply.ensures in
    let s2 = said_next _ s1 refl (ap page_counts_text c.facts-facts.ensures) c.in_ok-put_page_counts.ensures in
    let s3 = said_next _ s2 refl (λ i. error_text ((c.reply_of-reply.ensures ∙ ap (reply c.args.response.now.frame.header) c.front.ensures) i) (c.front-2.ensures i)) c.in_ok-put_message.ensures in
    let s4 = said_next _ s3 refl (c.given_up_mark.ensures ∙ ap given_up_mark c.is_text_dropped.ensures) c.in_ok-put_str.ensures in
    said_stops _ c.from_residual-in_err-put_warnings.result c.from_residual-in_err-put_warnings.ensures.0 s4 refl (λ i. warnings_text ((c.facts-facts.ensures i).warnings) (warnings_in c.args.response.now.frame.header (c.announced.ensures i))) c.in_err-put_warnings.ensures

pub returns-in_err-put_tracing : goal.returns-in_err-put_tracing
returns-in_err-put_tracing g c =
    let s1 = said_next _ (progress_starts _ _) refl (ap reply_text (c.reply_of-reply.ensures ∙ ap (reply c.args.response.now.frame.header) c.front.ensures)) c.in_ok-put_reply.ensures in
    let s2 = said_next _ s1 refl (ap page_counts_text c.facts-facts.ensures) c.in_ok-put_page_counts.ensures in
    let s3 = said_next _ s2 refl (λ i. error_text ((c.reply_of-reply.ensures ∙ ap (reply c.args.response.now.frame.header) c.front.ensures) i) (c.front-2.ensures i)) c.in_ok-put_message.ensures in
    let s4 = said_next _ s3 refl (c.given_up_mark.ensures ∙ ap given_up_mark c.is_text_dropped.ensures) c.in_ok-put_str.ensures in
    let s5 = said_next _ s4 refl (λ i. warnings_text ((c.facts-facts.ensures i).warnings) (warnings_in c.args.response.now.frame.header (c.announced.ensures i))) c.in_ok-put_warnings.ensures in
    said_stops _ c.from_residual-in_err-put_tracing.result c.from_residual-in_err-put_tracing.ensures.0 s5 refl (ap (λ (f : Facts). tracing_text f.trace_id) c.facts-facts.ensures) c.in_err-put_tracing.ensures

pub returns : goal.returns
returns g c =
    let s1 = said_next _ (progress_starts _ _) refl (ap reply_text (c.reply_of-reply.ensures ∙ ap (reply c.args.response.now.frame.header) c.front.ensures)) c.in_ok-put_reply.ensures in
    let s2 = said_next _ s1 refl (ap page_counts_text c.facts-facts.ensures) c.in_ok-put_page_counts.ensures in
    let s3 = said_next _ s2 refl (λ i. error_text ((c.reply_of-reply.ensures ∙ ap (reply c.args.response.now.frame.header) c.front.ensures) i) (c.front-2.ensures i)) c.in_ok-put_message.ensures in
    let s4 = said_next _ s3 refl (c.given_up_mark.ensures ∙ ap given_up_mark c.is_text_dropped.ensures) c.in_ok-put_str.ensures in
    let s5 = said_next _ s4 refl (λ i. warnings_text ((c.facts-facts.ensures i).warnings) (warnings_in c.args.response.now.frame.header (c.announced.ensures i))) c.in_ok-put_warnings.ensures in
    let s6 = said_next _ s5 refl (ap (λ (f : Facts). tracing_text f.trace_id) c.facts-facts.ensures) c.in_ok-put_tracing.ensures in
    said_last _ _ c.put_frame.result s6 refl refl c.put_frame.ensures
