-- What is shown of a statement.
use Rattle.std.specs.Prelude.{◌≡◌, ℕ, true, [], slice_index_or}
use Rattle.cqlp_capture_summary.specs.declared.row.Row.{Row}
use Rattle.cqlp_capture_summary.specs.Names.{name}
use Rattle.cqlp_capture_summary.specs.Summaries.{Summary, missing_at}
use Rattle.cqlp_capture_summary.specs.Tallies.{figures_of, none_counted}

pub record IsRowAt (s : Summary) (place : ℕ) (row : Row) : Type 0 where
  pub name_is : name row.name.now row.is_whole_name ≡ slice_index_or s.names place (name [] true)
  pub missing : row.missing ≡ missing_at place s
  pub figures : row.figures ≡ figures_of (slice_index_or s.tallies place none_counted)
  pub buckets : row.buckets.now ≡ (slice_index_or s.tallies place none_counted).buckets
