-- Requests, counted by the interval of time in which they were over.
use Rattle.std.specs.Prelude.{ℕ, true, List, [], Option, Some, None, if◌then◌else◌}
use Rattle.cqlp_capture_summary.specs.Counts.{Request, Tally}
use Rattle.cqlp_capture_summary.specs.Intervals.{interval_text, is_over, noted_in_interval}
use Rattle.cqlp_capture_summary.specs.Summaries.{Summary}
use Rattle.cqlp_capture_summary.specs.Tallies.{counted, figures_of}
use Rattle.cqlp_observer.specs.Keeping.{Kept}
use Rattle.cqlp_observer.specs.declared.paired.Paired.{Paired}
use Rattle.cqlp_observer.specs.declared.paired.Paired.TheVariants.{Exchange, Unanswered}
use Rattle.cqlp_capture_exchanges.specs.declared.form.IntervalsAs.{IntervalsAs}
use Rattle.cqlp_capture_exchanges.specs.declared.form.IntervalsAs.TheVariants as intervals_as
use Rattle.cqlp_capture_exchanges.specs.declared.outcome.Outcome.{Outcome}
use Rattle.cqlp_capture_exchanges.specs.IntervalObjects.{interval_object}
use Rattle.cqlp_capture_exchanges.specs.Notings.{answered_by, request_as, unanswered}
use Rattle.cqlp_capture_exchanges.specs.Reports.{Report, Messages, Unread}

-- ---- what came of the request of a report, if it has one

abbrev pub outcome_of : Paired Kept → Option Outcome
outcome_of (Exchange q r) = Some (answered_by q r)
outcome_of (Unanswered q) = Some (unanswered q)
outcome_of p = None

abbrev pub outcome_in : Report → Option Outcome
outcome_in (Messages p end) = outcome_of p
outcome_in (Unread time o) = None

-- ---- A request is over when the last byte of its response came, where it is known how long that took.

abbrev pub over_after : (at took : Option ℕ) → Option ℕ
over_after (Some at) (Some took) = Some (counted at took)
over_after at took = None

abbrev pub over_at : Outcome → Option ℕ
over_at o = over_after o.at o.took

abbrev pub over_request : Outcome → Request
over_request o = request_as [] true (record o { at = over_at o })

-- ---- it is counted

abbrev pub noted_over : (seconds : ℕ) → Option Outcome → Summary → Summary
noted_over seconds None s = s
noted_over seconds (Some o) s = noted_in_interval seconds (over_request o) s

abbrev pub with_report_in_interval : (seconds : ℕ) → Report → Summary → Summary
with_report_in_interval seconds r s = noted_over seconds (outcome_in r) s

-- ---- before it, the interval that is over is written, or the line above all of them

-- as a line or as an object
abbrev pub interval_as : IntervalsAs → (seconds : ℕ) → Tally → List ℕ
interval_as intervals_as.Lines seconds t = interval_text seconds t
interval_as intervals_as.Json seconds t = interval_object seconds (figures_of t)

abbrev pub text_if_over : IntervalsAs → (seconds : ℕ) → Option Outcome → Summary → List ℕ
text_if_over shown seconds None s = []
text_if_over shown seconds (Some o) s = if is_over seconds (over_at o) s.others then interval_as shown seconds s.others else []

abbrev pub text_before : IntervalsAs → (seconds : ℕ) → Report → Summary → List ℕ
text_before shown seconds r s = text_if_over shown seconds (outcome_in r) s
