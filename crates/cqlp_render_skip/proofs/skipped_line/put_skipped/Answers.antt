use Rattle.std.proofs.Common.{refl}
use Rattle.cqlp_text.proofs.Writing.{progress_starts, progress_goes_on, progress_stops, progress_writes}
use Rattle.cqlp_render_skip.proofs.SkippedLines.{line_parts, name_parts}
use Rattle.cqlp_render_skip.proofs.skipped_line.put_skipped.Goals as goal

pub returns-in_err-put : goal.returns-in_err-put
returns-in_err-put g c =
    let skipped = c.args.skipped.now in
    progress_stops _ c.from_residual.result c.from_residual.ensures.0 (progress_starts _ _) (line_parts skipped.at skipped.refusal) c.in_err-put.ensures

pub returns-in_err-put_number : goal.returns-in_err-put_number
returns-in_err-put_number g c =
    let skipped = c.args.skipped.now in
    let s1 = progress_goes_on _ (progress_starts _ _) (line_parts skipped.at skipped.refusal) c.in_ok-put.ensures in
    progress_stops _ c.from_residual-in_err-put_number.result c.from_residual-in_err-put_number.ensures.0 s1 refl c.in_err-put_number.ensures

pub returns-in_err-put-2 : goal.returns-in_err-put-2
returns-in_err-put-2 g c =
    let skipped = c.args.skipped.now in
    let s1 = progress_goes_on _ (progress_starts _ _) (line_parts skipped.at skipped.refusal) c.in_ok-put.ensures in
    let s2 = progress_goes_on _ s1 refl c.in_ok-put_number.ensures in
    progress_stops _ c.from_residual-in_err-put-2.result c.from_residual-in_err-put-2.ensures.0 s2 refl c.in_err-put-2.ensures

pub returns-in_err-put-3 : goal.returns-in_err-put-3
returns-in_err-put-3 g c =
    let skipped = c.args.skipped.now in
    let s1 = progress_goes_on _ (progress_starts _ _) (line_parts skipped.at skipped.refusal) c.in_ok-put.ensures in
    let s2 = progress_goes_on _ s1 refl c.in_ok-put_number.ensures in
    let s3 = progress_goes_on _ s2 refl c.in_ok-put-2.ensures in
    let name = name_parts c.as_bytes.result.now c.reason_name.result.now skipped.refusal.why skipped.refusal.at c.as_bytes.ensures.value c.reason_name.ensures in
    progress_stops _ c.from_residual-in_err-put-3.result c.from_residual-in_err-put-3.ensures.0 s3 name c.in_err-put-3.ensures

pub returns-in_err-put-4 : goal.returns-in_err-put-4
returns-in_err-put-4 g c =
    let skipped = c.args.skipped.now in
    let s1 = progress_goes_on _ (progress_starts _ _) (line_parts skipped.at skipped.refusal) c.in_ok-put.ensures in
    let s2 = progress_goes_on _ s1 refl c.in_ok-put_number.ensures in
    let s3 = progress_goes_on _ s2 refl c.in_ok-put-2.ensures in
    let name = name_parts c.as_bytes.result.now c.reason_name.result.now skipped.refusal.why skipped.refusal.at c.as_bytes.ensures.value c.reason_name.ensures in
    let s4 = progress_goes_on _ s3 name c.in_ok-put-3.ensures in
    progress_stops _ c.from_residual-in_err-put-4.result c.from_residual-in_err-put-4.ensures.0 s4 refl c.in_err-put-4.ensures

pub returns-in_err-put_number-2 : goal.returns-in_err-put_number-2
returns-in_err-put_number-2 g c =
    let skipped = c.args.skipped.now in
    let s1 = progress_goes_on _ (progress_starts _ _) (line_parts skipped.at skipped.refusal) c.in_ok-put.ensures in
    let s2 = progress_goes_on _ s1 refl c.in_ok-put_number.ensures in
    let s3 = progress_goes_on _ s2 refl c.in_ok-put-2.ensures in
    let name = name_parts c.as_bytes.result.now c.reason_name.result.now skipped.refusal.why skipped.refusal.at c.as_bytes.ensures.value c.reason_name.ensures in
    let s4 = progress_goes_on _ s3 name c.in_ok-put-3.ensures in
    let s5 = progress_goes_on _ s4 refl c.in_ok-put-4.ensures in
    progress_stops _ c.from_residual-in_err-put_number-2.result c.from_residual-in_err-put_number-2.ensures.0 s5 refl c.in_err-put_number-2.ensures

pub returns : goal.returns
returns g c =
    let skipped = c.args.skipped.now in
    let s1 = progress_goes_on _ (progress_starts _ _) (line_parts skipped.at skipped.refusal) c.in_ok-put.ensures in
    let s2 = progress_goes_on _ s1 refl c.in_ok-put_number.ensures in
    let s3 = progress_goes_on _ s2 refl c.in_ok-put-2.ensures in
    let name = name_parts c.as_bytes.result.now c.reason_name.result.now skipped.refusal.why skipped.refusal.at c.as_bytes.ensures.value c.reason_name.ensures in
    let s4 = progress_goes_on _ s3 name c.in_ok-put-3.ensures in
    let s5 = progress_goes_on _ s4 refl c.in_ok-put-4.ensures in
    let s6 = progress_goes_on _ s5 refl c.in_ok-put_number-2.ensures in
    progress_writes _ c.put-5.result s6 c.put-5.ensures
