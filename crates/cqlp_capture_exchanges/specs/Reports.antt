-- What is reported of a connection.
use Rattle.std.specs.Prelude.{ℕ, Bool, true, false, ◌||◌, List, [], ◌∷◌, ◌++◌, Option, Some, None, if◌then◌else◌}
use Rattle.cqlp_observer.specs.Keeping.{Kept}
use Rattle.cqlp_observer.specs.declared.opening.Opening.{Opening}
use Rattle.cqlp_observer.specs.declared.opening.Opening.TheVariants as opening
use Rattle.cqlp_observer.specs.declared.paired.Paired.{Paired}
use Rattle.cqlp_observer.specs.Watches.{Steps}
use Rattle.cqlp_tcp_connections.specs.declared.totals.ConnectionTotals.{ConnectionTotals}
use Rattle.cqlp_tcp_connections.specs.declared.totals.End.{End}
use Rattle.cqlp_tcp_connections.specs.declared.totals.End.TheVariants.{Fin, Reset}
use Rattle.cqlp_capture_exchanges.specs.declared.report.ConnectionEnd.{ConnectionEnd}
use Rattle.cqlp_capture_exchanges.specs.declared.report.ConnectionEnd.TheVariants as ending
use Rattle.cqlp_capture_exchanges.specs.declared.report as declared
use Rattle.cqlp_capture_exchanges.specs.declared.report.Report.TheVariants as report

-- a request, a response, or both, and how their connection ended where that is why they are reported; or a connection of which some bytes,
-- that came at this time, are no frames of version 4
pub data Report : Type 0 where
  Messages : Paired Kept → (end : Option ConnectionEnd) → Report
  Unread : (time : Option ℕ) → Opening → Report

abbrev pub report_of : {A : Type 0} → declared.Report.Report A → Report
report_of (report.Messages t end) = Messages t.now end
report_of (report.Unread time o) = Unread time o

-- ---- how a connection ended, by its two directions: RST goes before FIN

abbrev pub is_reset : End → Bool
is_reset Reset = true
is_reset e = false

abbrev pub is_fin : End → Bool
is_fin Fin = true
is_fin e = false

abbrev pub end_of : ConnectionTotals → ConnectionEnd
end_of t =
    if is_reset t.requests.end || is_reset t.responses.end then ending.Reset
    else if is_fin t.requests.end || is_fin t.responses.end then ending.Closed
    else ending.Open

-- ---- messages, if there are some

abbrev pub messages : (end : Option ConnectionEnd) → Option (Paired Kept) → List Report
messages end None = []
messages end (Some t) = Messages t end ∷ []

-- ---- A connection that does not begin with frames of version 4 is reported once.

abbrev pub is_unread : Opening → Bool
is_unread opening.Frames = false
is_unread (opening.OtherVersion v) = true
is_unread opening.Tls = true
is_unread opening.Http = true

abbrev pub unread : (time : Option ℕ) → (was_reported : Bool) → Opening → List Report
unread time true o = []
unread time false o = if is_unread o then Unread time o ∷ [] else []

-- ---- a step of bytes that came at this time

abbrev pub of_step : (time : Option ℕ) → (was_reported : Bool) → Steps → List Report
of_step time was_reported x = unread time was_reported x.opening ++ messages None x.reported
