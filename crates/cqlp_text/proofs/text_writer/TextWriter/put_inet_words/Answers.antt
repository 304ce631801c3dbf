use Rattle.std.proofs.Common.{FitsSigned, w32, refl}
use Rattle.std.proofs.lemmas.Int.{to_z-of_z}
use Rattle.cqlp_text.proofs.Writing.{progress_starts, progress_goes_on, progress_stops, progress_last}
use Rattle.cqlp_text.proofs.text_writer.TextWriter.put_inet_words.Goals as goal

pub returns-in_err-put : goal.returns-in_err-put
returns-in_err-put g c =
    progress_stops _ c.from_residual.result c.from_residual.ensures.0 (progress_starts _ _) refl c.in_err-put.ensures

pub returns-in_err-put_field_name : goal.returns-in_err-put_field_name
returns-in_err-put_field_name g c =
    let s1 = progress_goes_on _ (progress_starts _ _) refl c.in_ok-put.ensures in
    progress_stops _ c.from_residual-in_err-put_field_name.result c.from_residual-in_err-put_field_name.ensures.0 s1 refl c.in_err-put_field_name.ensures

pub returns-in_err-put-2 : goal.returns-in_err-put-2
returns-in_err-put-2 g c =
    let s1 = progress_goes_on _ (progress_starts _ _) refl c.in_ok-put.ensures in
    let s2 = progress_goes_on _ s1 refl c.in_ok-put_field_name.ensures in
    progress_stops _ c.from_residual-in_err-put-2.result c.from_residual-in_err-put-2.ensures.0 s2 refl c.in_err-put-2.ensures

pub returns-in_err-put_address : goal.returns-in_err-put_address
returns-in_err-put_address g c =
    let s1 = progress_goes_on _ (progress_starts _ _) refl c.in_ok-put.ensures in
    let s2 = progress_goes_on _ s1 refl c.in_ok-put_field_name.ensures in
    let s3 = progress_goes_on _ s2 refl c.in_ok-put-2.ensures in
    progress_stops _ c.from_residual-in_err-put_address.result c.from_residual-in_err-put_address.ensures.0 s3 refl c.in_err-put_address.ensures

pub returns-in_err-put-3 : goal.returns-in_err-put-3
returns-in_err-put-3 g c =
    let s1 = progress_goes_on _ (progress_starts _ _) refl c.in_ok-put.ensures in
    let s2 = progress_goes_on _ s1 refl c.in_ok-put_field_name.ensures in
    let s3 = progress_goes_on _ s2 refl c.in_ok-put-2.ensures in
    let s4 = progress_goes_on _ s3 refl c.in_ok-put_address.ensures in
    progress_stops _ c.from_residual-in_err-put-3.result c.from_residual-in_err-put-3.ensures.0 s4 refl c.in_err-put-3.ensures

pub returns : goal.returns
returns g c =
    let fits : FitsSigned w32 c.args.port = c.ranges.port in
    let port = simp to_z-of_z at c.put_int.ensures in
    let s1 = progress_goes_on _ (progress_starts _ _) refl c.in_ok-put.ensures in
    let s2 = progress_goes_on _ s1 refl c.in_ok-put_field_name.ensures in
    let s3 = progress_goes_on _ s2 refl c.in_ok-put-2.ensures in
    let s4 = progress_goes_on _ s3 refl c.in_ok-put_address.ensures in
    let s5 = progress_goes_on _ s4 refl c.in_ok-put-3.ensures in
    progress_last _ _ c.put_int.result s5 refl port
