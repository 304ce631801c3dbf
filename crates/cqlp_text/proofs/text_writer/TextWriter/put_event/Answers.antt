use Rattle.std.proofs.Common.{refl}
use Rattle.cqlp_text.proofs.Writing.{progress_starts, progress_goes_on, progress_stops, progress_last}
use Rattle.cqlp_text.proofs.text_writer.TextWriter.put_event.Goals as goal

pub returns-in_err-put_number : goal.returns-in_err-put_number
returns-in_err-put_number g c = progress_stops _ c.from_residual.result c.from_residual.ensures.0 (progress_starts _ _) refl c.in_err-put_number.ensures

pub returns-in_err-put_event_words : goal.returns-in_err-put_event_words
returns-in_err-put_event_words g c =
    let number = progress_goes_on _ (progress_starts _ _) refl c.in_ok-put_number.ensures in
    progress_stops _ c.from_residual-in_err-put_event_words.result c.from_residual-in_err-put_event_words.ensures.0 number refl c.in_err-put_event_words.ensures

pub returns : goal.returns
returns g c =
    let number = progress_goes_on _ (progress_starts _ _) refl c.in_ok-put_number.ensures in
    let words = progress_goes_on _ number refl c.in_ok-put_event_words.ensures in
    progress_last _ _ c.put.result words refl c.put.ensures
