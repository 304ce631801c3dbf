-- Requests, counted by how long they took.
use Rattle.std.specs.Prelude.{true, [], Option, Some, None}
use Rattle.cqlp_capture_summary.specs.Counts.{Request}
use Rattle.cqlp_capture_summary.specs.Summaries.{Summary, noted_request}
use Rattle.cqlp_capture_exchanges.specs.declared.outcome.Outcome.{Outcome}
use Rattle.cqlp_capture_exchanges.specs.Intervals.{outcome_in}
use Rattle.cqlp_capture_exchanges.specs.Notings.{request_as}
use Rattle.cqlp_capture_exchanges.specs.Reports.{Report}

-- without a name, where the summary has no places: among the others
abbrev pub nameless : Outcome → Request
nameless o = request_as [] true o

abbrev pub noted_nameless : Option Outcome → Summary → Summary
noted_nameless None s = s
noted_nameless (Some o) s = noted_request (nameless o) s

abbrev pub with_report_by_time : Report → Summary → Summary
with_report_by_time r s = noted_nameless (outcome_in r) s
