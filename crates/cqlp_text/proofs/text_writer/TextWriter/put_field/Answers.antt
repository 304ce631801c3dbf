use Rattle.std.proofs.Common.{refl}
use Rattle.cqlp_text.proofs.Writing.{progress_starts, progress_goes_on, progress_stops, progress_last}
use Rattle.cqlp_text.proofs.text_writer.TextWriter.put_field.Goals as goal

pub returns-in_err-put_str : goal.returns-in_err-put_str
returns-in_err-put_str g c =
    progress_stops _ c.from_residual.result c.from_residual.ensures.0 (progress_starts _ _) refl c.in_err-put_str.ensures

pub returns-in_err-put_field_name : goal.returns-in_err-put_field_name
returns-in_err-put_field_name g c =
    let s1 = progress_goes_on _ (progress_starts _ _) refl c.in_ok-put_str.ensures in
    progress_stops _ c.from_residual-in_err-put_field_name.result c.from_residual-in_err-put_field_name.ensures.0 s1 refl c.in_err-put_field_name.ensures

pub returns-in_err-put : goal.returns-in_err-put
returns-in_err-put g c =
    let s1 = progress_goes_on _ (progress_starts _ _) refl c.in_ok-put_str.ensures in
    let s2 = progress_goes_on _ s1 refl c.in_ok-put_field_name.ensures in
    progress_stops _ c.from_residual-in_err-put.result c.from_residual-in_err-put.ensures.0 s2 refl c.in_err-put.ensures

pub returns : goal.returns
returns g c =
    let s1 = progress_goes_on _ (progress_starts _ _) refl c.in_ok-put_str.ensures in
    let s2 = progress_goes_on _ s1 refl c.in_ok-put_field_name.ensures in
    let s3 = progress_goes_on _ s2 refl c.in_ok-put.ensures in
    progress_last _ _ c.put_word.result s3 refl c.put_word.ensures
