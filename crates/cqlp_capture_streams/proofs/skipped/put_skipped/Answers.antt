use Rattle.std.proofs.Common.{refl}
use Rattle.cqlp_capture_streams.specs.Endings.{skip_words}
use Rattle.cqlp_text.proofs.Writing.{progress_starts}
use Rattle.cqlp_capture_streams.proofs.Parts.{part_last, part_stops, part_taken}
use Rattle.cqlp_capture_streams.proofs.skipped.put_skipped.Goals as goal

pub returns-in_err-put_count : goal.returns-in_err-put_count
unfolding skip_words
returns-in_err-put_count g c =
    part_stops _ c.from_residual.result c.from_residual.ensures.0 (progress_starts _ _) refl refl c.in_err-put_count.ensures

pub returns-in_err-put_count-2 : goal.returns-in_err-put_count-2
unfolding skip_words
returns-in_err-put_count-2 g c =
    let s1 = part_taken _ (progress_starts _ _) refl refl c.in_ok-put_count.ensures in
    part_stops _ c.from_residual-in_err-put_count-2.result c.from_residual-in_err-put_count-2.ensures.0 s1 refl refl c.in_err-put_count-2.ensures

pub returns-in_err-put_count-3 : goal.returns-in_err-put_count-3
unfolding skip_words
returns-in_err-put_count-3 g c =
    let s1 = part_taken _ (progress_starts _ _) refl refl c.in_ok-put_count.ensures in
    let s2 = part_taken _ s1 refl refl c.in_ok-put_count-2.ensures in
    part_stops _ c.from_residual-in_err-put_count-3.result c.from_residual-in_err-put_count-3.ensures.0 s2 refl refl c.in_err-put_count-3.ensures

pub returns-in_err-put_count-4 : goal.returns-in_err-put_count-4
unfolding skip_words
returns-in_err-put_count-4 g c =
    let s1 = part_taken _ (progress_starts _ _) refl refl c.in_ok-put_count.ensures in
    let s2 = part_taken _ s1 refl refl c.in_ok-put_count-2.ensures in
    let s3 = part_taken _ s2 refl refl c.in_ok-put_count-3.ensures in
    part_stops _ c.from_residual-in_err-put_count-4.result c.from_residual-in_err-put_count-4.ensures.0 s3 refl refl c.in_err-put_count-4.ensures

pub returns-in_err-put_count-5 : goal.returns-in_err-put_count-5
unfolding skip_words
returns-in_err-put_count-5 g c =
    let s1 = part_taken _ (progress_starts _ _) refl refl c.in_ok-put_count.ensures in
    let s2 = part_taken _ s1 refl refl c.in_ok-put_count-2.ensures in
    let s3 = part_taken _ s2 refl refl c.in_ok-put_count-3.ensures in
    let s4 = part_taken _ s3 refl refl c.in_ok-put_count-4.ensures in
    part_stops _ c.from_residual-in_err-put_count-5.result c.from_residual-in_err-put_count-5.ensures.0 s4 refl refl c.in_err-put_count-5.ensures

pub returns-in_err-put_count-6 : goal.returns-in_err-put_count-6
unfolding skip_words
returns-in_err-put_count-6 g c =
    let s1 = part_taken _ (progress_starts _ _) refl refl c.in_ok-put_count.ensures in
    let s2 = part_taken _ s1 refl refl c.in_ok-put_count-2.ensures in
    let s3 = part_taken _ s2 refl refl c.in_ok-put_count-3.ensures in
    let s4 = part_taken _ s3 refl refl c.in_ok-put_count-4.ensures in
    let s5 = part_taken _ s4 refl refl c.in_ok-put_count-5.ensures in
    part_stops _ c.from_residual-in_err-put_count-6.result c.from_residual-in_err-put_count-6.ensures.0 s5 refl refl c.in_err-put_count-6.ensures

pub returns-in_err-put_count-7 : goal.returns-in_err-put_count-7
unfolding skip_words
returns-in_err-put_count-7 g c =
    let s1 = part_taken _ (progress_starts _ _) refl refl c.in_ok-put_count.ensures in
    let s2 = part_taken _ s1 refl refl c.in_ok-put_count-2.ensures in
    let s3 = part_taken _ s2 refl refl c.in_ok-put_count-3.ensures in
    let s4 = part_taken _ s3 refl refl c.in_ok-put_count-4.ensures in
    let s5 = part_taken _ s4 refl refl c.in_ok-put_count-5.ensures in
    let s6 = part_taken _ s5 refl refl c.in_ok-put_count-6.ensures in
    part_stops _ c.from_residual-in_err-put_count-7.result c.from_residual-in_err-put_count-7.ensures.0 s6 refl refl c.in_err-put_count-7.ensures

pub returns-in_err-put_count-8 : goal.returns-in_err-put_count-8
unfolding skip_words
returns-in_err-put_count-8 g c =
    let s1 = part_taken _ (progress_starts _ _) refl refl c.in_ok-put_count.ensures in
    let s2 = part_taken _ s1 refl refl c.in_ok-put_count-2.ensures in
    let s3 = part_taken _ s2 refl refl c.in_ok-put_count-3.ensures in
    let s4 = part_taken _ s3 refl refl c.in_ok-put_count-4.ensures in
    let s5 = part_taken _ s4 refl refl c.in_ok-put_count-5.ensures in
    let s6 = part_taken _ s5 refl refl c.in_ok-put_count-6.ensures in
    let s7 = part_taken _ s6 refl refl c.in_ok-put_count-7.ensures in
    part_stops _ c.from_residual-in_err-put_count-8.result c.from_residual-in_err-put_count-8.ensures.0 s7 refl refl c.in_err-put_count-8.ensures

pub returns-in_err-put_count-9 : goal.returns-in_err-put_count-9
unfolding skip_words
returns-in_err-put_count-9 g c =
    let s1 = part_taken _ (progress_starts _ _) refl refl c.in_ok-put_count.ensures in
    let s2 = part_taken _ s1 refl refl c.in_ok-put_count-2.ensures in
    let s3 = part_taken _ s2 refl refl c.in_ok-put_count-3.ensures in
    let s4 = part_taken _ s3 refl refl c.in_ok-put_count-4.ensures in
    let s5 = part_taken _ s4 refl refl c.in_ok-put_count-5.ensures in
    let s6 = part_taken _ s5 refl refl c.in_ok-put_count-6.ensures in
    let s7 = part_taken _ s6 refl refl c.in_ok-put_count-7.ensures in
    let s8 = part_taken _ s7 refl refl c.in_ok-put_count-8.ensures in
    part_stops _ c.from_residual-in_err-put_count-9.result c.from_residual-in_err-put_count-9.ensures.0 s8 refl refl c.in_err-put_count-9.ensures

pub returns : goal.returns
unfolding skip_words
returns g c =
    let s1 = part_taken _ (progress_starts _ _) refl refl c.in_ok-put_count.ensures in
    let s2 = part_taken _ s1 refl refl c.in_ok-put_count-2.ensures in
    let s3 = part_taken _ s2 refl refl c.in_ok-put_count-3.ensures in
    let s4 = part_taken _ s3 refl refl c.in_ok-put_count-4.ensures in
    let s5 = part_taken _ s4 refl refl c.in_ok-put_count-5.ensures in
    let s6 = part_taken _ s5 refl refl c.in_ok-put_count-6.ensures in
    let s7 = part_taken _ s6 refl refl c.in_ok-put_count-7.ensures in
    let s8 = part_taken _ s7 refl refl c.in_ok-put_count-8.ensures in
    let s9 = part_taken _ s8 refl refl c.in_ok-put_count-9.ensures in
    part_last _ _ c.put_count-10.result s9 refl refl c.put_count-10.ensures
