-- The objects of a summary.
use Rattle.std.proofs.Common.{◌≡◌, ◌==◌, ◌&&◌, ℕ, Bool, ◌+◌, ◌<◌, ◌≤◌, true, List, [], ◌++◌, Some, length, drop, get_or, slice_index_or, add-one, refl, ap, ◌∙◌}
use Rattle.std.proofs.Math.Seq.{drop-cons}
use Rattle.std.proofs.lemmas.List.{drop_all}
use Rattle.cqlp_capture_summary.specs.declared.row.Row.{Row}
use Rattle.cqlp_capture_summary.specs.Lines.{text_front}
use Rattle.cqlp_capture_summary.specs.Names.{name}
use Rattle.cqlp_capture_summary.specs.Rows.{IsRowAt}
use Rattle.cqlp_capture_summary.specs.Summaries.{Summary, missing_at}
use Rattle.cqlp_capture_summary.specs.Tallies.{figures_of, none_counted}
use Rattle.cqlp_capture_exchanges.specs.SummaryObjects.{bucket_text, buckets_text, object, object_at}

-- the next bucket, and those after it
pub buckets_at : (is_first next : Bool) (b : ℕ) (counts : List ℕ) → next ≡ (is_first && get_or counts b 0 == 0) → b < length counts → buckets_text is_first b (drop b counts) ≡ bucket_text is_first b (get_or counts b 0) ++ buckets_text next (b + 1) (drop (b + 1) counts)
buckets_at is_first next b counts same within = rw (same, drop-cons counts b 0 within, add-one) refl

pub no_buckets : (is_first : Bool) (b : ℕ) (counts : List ℕ) → length counts ≤ b → buckets_text is_first b (drop b counts) ≡ []
no_buckets is_first b counts all = rw (drop_all b counts all) refl

-- what is shown of a row is what is shown of its place
pub row_object : (by : List ℕ) (s : Summary) (place : ℕ) (row : Row) → IsRowAt s place row → object by (Some (text_front row.name.now)) row.is_whole_name row.missing row.figures row.buckets.now ≡ object_at by s place
row_object by s place row r =
    let n = slice_index_or s.names place (name [] true) in
    let t = slice_index_or s.tallies place none_counted in
    ap (λ k. object by (Some (text_front k.bytes)) k.is_whole row.missing row.figures row.buckets.now) r.name_is
    ∙ ap (λ m. object by (Some (text_front n.bytes)) n.is_whole m row.figures row.buckets.now) r.missing
    ∙ ap (λ f. object by (Some (text_front n.bytes)) n.is_whole (missing_at place s) f row.buckets.now) r.figures
    ∙ ap (λ b. object by (Some (text_front n.bytes)) n.is_whole (missing_at place s) (figures_of t) b) r.buckets
