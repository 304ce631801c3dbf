use Rattle.std.proofs.Common.{refl}
use Rattle.cqlp_text.proofs.Writing.{progress_starts, progress_goes_on, progress_stops, progress_writes}
use Rattle.cqlp_row_text.proofs.shown.put_shown.Goals as goal

pub returns-in_err-put_str : goal.returns-in_err-put_str
returns-in_err-put_str g c = progress_stops _ c.from_residual.result c.from_residual.ensures.0 (progress_starts _ _) refl c.in_err-put_str.ensures

pub returns-in_err-put_str-2 : goal.returns-in_err-put_str-2
returns-in_err-put_str-2 g c =
    let s1 = progress_goes_on _ (progress_starts _ _) refl c.in_ok-put_str.ensures in
    progress_stops _ c.from_residual-in_err-put_str-2.result c.from_residual-in_err-put_str-2.ensures.0 s1 refl c.in_err-put_str-2.ensures

pub returns-in_err-put_content : goal.returns-in_err-put_content
returns-in_err-put_content g c =
    let s1 = progress_goes_on _ (progress_starts _ _) refl c.in_ok-put_str.ensures in
    let s2 = progress_goes_on _ s1 refl c.in_ok-put_str-2.ensures in
    progress_stops _ c.from_residual-in_err-put_content.result c.from_residual-in_err-put_content.ensures.0 s2 refl c.in_err-put_content.ensures

pub returns-in_err-put_str-3 : goal.returns-in_err-put_str-3
returns-in_err-put_str-3 g c =
    let s1 = progress_goes_on _ (progress_starts _ _) refl c.in_ok-put_str.ensures in
    let s2 = progress_goes_on _ s1 refl c.in_ok-put_str-2.ensures in
    let s3 = progress_goes_on _ s2 refl c.in_ok-put_content.ensures in
    progress_stops _ c.from_residual-in_err-put_str-3.result c.from_residual-in_err-put_str-3.ensures.0 s3 refl c.in_err-put_str-3.ensures

pub returns : goal.returns
returns g c =
    let s1 = progress_goes_on _ (progress_starts _ _) refl c.in_ok-put_str.ensures in
    let s2 = progress_goes_on _ s1 refl c.in_ok-put_str-2.ensures in
    let s3 = progress_goes_on _ s2 refl c.in_ok-put_content.ensures in
    let s4 = progress_goes_on _ s3 refl c.in_ok-put_str-3.ensures in
    progress_writes _ c.put_str-4.result s4 c.put_str-4.ensures
