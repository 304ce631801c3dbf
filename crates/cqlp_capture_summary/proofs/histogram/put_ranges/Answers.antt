use Rattle.std.proofs.Common.{◌≡◌, ◌∙◌, ◌/◌, Some, ap, subst, sym}
use Rattle.cqlp_text.specs.Written.{Writes}
use Rattle.cqlp_capture_summary.specs.Histograms.{end_of, ranges_from, rows}
use Rattle.cqlp_capture_summary.specs.Tallies.{bucket_at}
use Rattle.cqlp_capture_summary.proofs.histogram.put_ranges.Goals as goal

pub returns-in-Some : goal.returns-in-Some
returns-in-Some g c =
    let found : bucket_at 1 0 c.args.tally.now.buckets ≡ Some c.in-Some.bucket =
    sym (ap (bucket_at 1 0) c.buckets.ensures.is) ∙ sym c.bucket_at.ensures.bucket ∙ c.in-Some.is in
    subst (λ text. Writes c.args.writer.now text c.put_rows.result c.put_rows.new.writer)
    ((λ i. rows (c.buckets-in-Some.ensures.is i) (c.timed.ensures i) (c.in-Some.bucket / 32) ((c.end_of.ensures.end ∙ ap end_of c.greatest.ensures) i))
    ∙ sym (ap (λ o. ranges_from o c.args.tally.now) found))
    c.put_rows.ensures
