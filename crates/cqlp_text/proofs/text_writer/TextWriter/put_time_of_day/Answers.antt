use Rattle.std.proofs.Common.{refl}
use Rattle.cqlp_text.proofs.Writing.{progress_starts, progress_goes_on, progress_stops, progress_writes}
use Rattle.cqlp_text.proofs.text_writer.TextWriter.put_time_of_day.Goals as goal

pub returns-in_err-put_digits : goal.returns-in_err-put_digits
returns-in_err-put_digits g c =
    progress_stops _ c.from_residual.result c.from_residual.ensures.0 (progress_starts _ _) refl c.in_err-put_digits.ensures

pub returns-in_err-put : goal.returns-in_err-put
returns-in_err-put g c =
    let hours = progress_goes_on _ (progress_starts _ _) refl c.in_ok-put_digits.ensures in
    progress_stops _ c.from_residual-in_err-put.result c.from_residual-in_err-put.ensures.0 hours refl c.in_err-put.ensures

pub returns-in_err-put_digits-2 : goal.returns-in_err-put_digits-2
returns-in_err-put_digits-2 g c =
    let hours = progress_goes_on _ (progress_starts _ _) refl c.in_ok-put_digits.ensures in
    let first_colon = progress_goes_on _ hours refl c.in_ok-put.ensures in
    progress_stops _ c.from_residual-in_err-put_digits-2.result c.from_residual-in_err-put_digits-2.ensures.0 first_colon refl c.in_err-put_digits-2.ensures

pub returns-in_err-put-2 : goal.returns-in_err-put-2
returns-in_err-put-2 g c =
    let hours = progress_goes_on _ (progress_starts _ _) refl c.in_ok-put_digits.ensures in
    let first_colon = progress_goes_on _ hours refl c.in_ok-put.ensures in
    let minutes = progress_goes_on _ first_colon refl c.in_ok-put_digits-2.ensures in
    progress_stops _ c.from_residual-in_err-put-2.result c.from_residual-in_err-put-2.ensures.0 minutes refl c.in_err-put-2.ensures

pub returns-in_err-put_digits-3 : goal.returns-in_err-put_digits-3
returns-in_err-put_digits-3 g c =
    let hours = progress_goes_on _ (progress_starts _ _) refl c.in_ok-put_digits.ensures in
    let first_colon = progress_goes_on _ hours refl c.in_ok-put.ensures in
    let minutes = progress_goes_on _ first_colon refl c.in_ok-put_digits-2.ensures in
    let second_colon = progress_goes_on _ minutes refl c.in_ok-put-2.ensures in
    progress_stops _ c.from_residual-in_err-put_digits-3.result c.from_residual-in_err-put_digits-3.ensures.0 second_colon refl c.in_err-put_digits-3.ensures

pub returns-in_err-put-3 : goal.returns-in_err-put-3
returns-in_err-put-3 g c =
    let hours = progress_goes_on _ (progress_starts _ _) refl c.in_ok-put_digits.ensures in
    let first_colon = progress_goes_on _ hours refl c.in_ok-put.ensures in
    let minutes = progress_goes_on _ first_colon refl c.in_ok-put_digits-2.ensures in
    let second_colon = progress_goes_on _ minutes refl c.in_ok-put-2.ensures in
    let seconds = progress_goes_on _ second_colon refl c.in_ok-put_digits-3.ensures in
    progress_stops _ c.from_residual-in_err-put-3.result c.from_residual-in_err-put-3.ensures.0 seconds refl c.in_err-put-3.ensures

pub returns : goal.returns
returns g c =
    let hours = progress_goes_on _ (progress_starts _ _) refl c.in_ok-put_digits.ensures in
    let first_colon = progress_goes_on _ hours refl c.in_ok-put.ensures in
    let minutes = progress_goes_on _ first_colon refl c.in_ok-put_digits-2.ensures in
    let second_colon = progress_goes_on _ minutes refl c.in_ok-put-2.ensures in
    let seconds = progress_goes_on _ second_colon refl c.in_ok-put_digits-3.ensures in
    let dot = progress_goes_on _ seconds refl c.in_ok-put-3.ensures in
    progress_writes _ c.put_digits-4.result dot c.put_digits-4.ensures
