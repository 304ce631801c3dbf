use Rattle.std.proofs.Common.{refl}
use Rattle.cqlp_text.proofs.Writing.{progress_starts}
use Rattle.cqlp_capture_streams.proofs.Parts.{part_last, part_stops, part_taken}
use Rattle.cqlp_capture_streams.proofs.ending.put_read.Goals as goal

pub returns-in_err-put_verdict : goal.returns-in_err-put_verdict
returns-in_err-put_verdict g c =
    part_stops _ c.from_residual.result c.from_residual.ensures.0 (progress_starts _ _) refl refl c.in_err-put_verdict.ensures

pub returns-in_err-put_head : goal.returns-in_err-put_head
returns-in_err-put_head g c =
    let s1 = part_taken _ (progress_starts _ _) refl refl c.in_ok-put_verdict.ensures in
    part_stops _ c.from_residual-in_err-put_head.result c.from_residual-in_err-put_head.ensures.0 s1 refl refl c.in_err-put_head.ensures

pub returns-in_err-put : goal.returns-in_err-put
returns-in_err-put g c =
    let s1 = part_taken _ (progress_starts _ _) refl refl c.in_ok-put_verdict.ensures in
    let s2 = part_taken _ s1 refl refl c.in_ok-put_head.ensures in
    part_stops _ c.from_residual-in_err-put.result c.from_residual-in_err-put.ensures.0 s2 refl refl c.in_err-put.ensures

pub returns-in_err-put_words : goal.returns-in_err-put_words
returns-in_err-put_words g c =
    let s1 = part_taken _ (progress_starts _ _) refl refl c.in_ok-put_verdict.ensures in
    let s2 = part_taken _ s1 refl refl c.in_ok-put_head.ensures in
    let s3 = part_taken _ s2 refl refl c.in_ok-put.ensures in
    part_stops _ c.from_residual-in_err-put_words.result c.from_residual-in_err-put_words.ensures.0 s3 refl refl c.in_err-put_words.ensures

pub returns-in_err-put_order : goal.returns-in_err-put_order
returns-in_err-put_order g c =
    let s1 = part_taken _ (progress_starts _ _) refl refl c.in_ok-put_verdict.ensures in
    let s2 = part_taken _ s1 refl refl c.in_ok-put_head.ensures in
    let s3 = part_taken _ s2 refl refl c.in_ok-put.ensures in
    let s4 = part_taken _ s3 refl refl c.in_ok-put_words.ensures in
    part_stops _ c.from_residual-in_err-put_order.result c.from_residual-in_err-put_order.ensures.0 s4 refl refl c.in_err-put_order.ensures

pub returns-in_err-put_count : goal.returns-in_err-put_count
returns-in_err-put_count g c =
    let s1 = part_taken _ (progress_starts _ _) refl refl c.in_ok-put_verdict.ensures in
    let s2 = part_taken _ s1 refl refl c.in_ok-put_head.ensures in
    let s3 = part_taken _ s2 refl refl c.in_ok-put.ensures in
    let s4 = part_taken _ s3 refl refl c.in_ok-put_words.ensures in
    let s5 = part_taken _ s4 refl refl c.in_ok-put_order.ensures in
    part_stops _ c.from_residual-in_err-put_count.result c.from_residual-in_err-put_count.ensures.0 s5 refl refl c.in_err-put_count.ensures

pub returns-in_err-put_table : goal.returns-in_err-put_table
returns-in_err-put_table g c =
    let s1 = part_taken _ (progress_starts _ _) refl refl c.in_ok-put_verdict.ensures in
    let s2 = part_taken _ s1 refl refl c.in_ok-put_head.ensures in
    let s3 = part_taken _ s2 refl refl c.in_ok-put.ensures in
    let s4 = part_taken _ s3 refl refl c.in_ok-put_words.ensures in
    let s5 = part_taken _ s4 refl refl c.in_ok-put_order.ensures in
    let s6 = part_taken _ s5 refl refl c.in_ok-put_count.ensures in
    part_stops _ c.from_residual-in_err-put_table.result c.from_residual-in_err-put_table.ensures.0 s6 refl refl c.in_err-put_table.ensures

pub returns-in_err-put_reasons : goal.returns-in_err-put_reasons
returns-in_err-put_reasons g c =
    let s1 = part_taken _ (progress_starts _ _) refl refl c.in_ok-put_verdict.ensures in
    let s2 = part_taken _ s1 refl refl c.in_ok-put_head.ensures in
    let s3 = part_taken _ s2 refl refl c.in_ok-put.ensures in
    let s4 = part_taken _ s3 refl refl c.in_ok-put_words.ensures in
    let s5 = part_taken _ s4 refl refl c.in_ok-put_order.ensures in
    let s6 = part_taken _ s5 refl refl c.in_ok-put_count.ensures in
    let s7 = part_taken _ s6 refl refl c.in_ok-put_table.ensures in
    part_stops _ c.from_residual-in_err-put_reasons.result c.from_residual-in_err-put_reasons.ensures.0 s7 refl refl c.in_err-put_reasons.ensures

pub returns-in_err-put_skipped : goal.returns-in_err-put_skipped
returns-in_err-put_skipped g c =
    let s1 = part_taken _ (progress_starts _ _) refl refl c.in_ok-put_verdict.ensures in
    let s2 = part_taken _ s1 refl refl c.in_ok-put_head.ensures in
    let s3 = part_taken _ s2 refl refl c.in_ok-put.ensures in
    let s4 = part_taken _ s3 refl refl c.in_ok-put_words.ensures in
    let s5 = part_taken _ s4 refl refl c.in_ok-put_order.ensures in
    let s6 = part_taken _ s5 refl refl c.in_ok-put_count.ensures in
    let s7 = part_taken _ s6 refl refl c.in_ok-put_table.ensures in
    let s8 = part_taken _ s7 refl refl c.in_ok-put_reasons.ensures in
    part_stops _ c.from_residual-in_err-put_skipped.result c.from_residual-in_err-put_skipped.ensures.0 s8 refl refl c.in_err-put_skipped.ensures

pub returns-in_err-put_files : goal.returns-in_err-put_files
returns-in_err-put_files g c =
    let s1 = part_taken _ (progress_starts _ _) refl refl c.in_ok-put_verdict.ensures in
    let s2 = part_taken _ s1 refl refl c.in_ok-put_head.ensures in
    let s3 = part_taken _ s2 refl refl c.in_ok-put.ensures in
    let s4 = part_taken _ s3 refl refl c.in_ok-put_words.ensures in
    let s5 = part_taken _ s4 refl refl c.in_ok-put_order.ensures in
    let s6 = part_taken _ s5 refl refl c.in_ok-put_count.ensures in
    let s7 = part_taken _ s6 refl refl c.in_ok-put_table.ensures in
    let s8 = part_taken _ s7 refl refl c.in_ok-put_reasons.ensures in
    let s9 = part_taken _ s8 refl refl c.in_ok-put_skipped.ensures in
    part_stops _ c.from_residual-in_err-put_files.result c.from_residual-in_err-put_files.ensures.0 s9 refl refl c.in_err-put_files.ensures

pub returns : goal.returns
returns g c =
    let s1 = part_taken _ (progress_starts _ _) refl refl c.in_ok-put_verdict.ensures in
    let s2 = part_taken _ s1 refl refl c.in_ok-put_head.ensures in
    let s3 = part_taken _ s2 refl refl c.in_ok-put.ensures in
    let s4 = part_taken _ s3 refl refl c.in_ok-put_words.ensures in
    let s5 = part_taken _ s4 refl refl c.in_ok-put_order.ensures in
    let s6 = part_taken _ s5 refl refl c.in_ok-put_count.ensures in
    let s7 = part_taken _ s6 refl refl c.in_ok-put_table.ensures in
    let s8 = part_taken _ s7 refl refl c.in_ok-put_reasons.ensures in
    let s9 = part_taken _ s8 refl refl c.in_ok-put_skipped.ensures in
    let s10 = part_taken _ s9 refl refl c.in_ok-put_files.ensures in
    part_last _ _ c.put-2.result s10 refl refl c.put-2.ensures
