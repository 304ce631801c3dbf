-- A fault has its cause.
use Rattle.std.proofs.Common.{ℕ, List, codes, Option, Result, Ok, Err, refl, sym, subst}
use Rattle.cqlp_text.specs.Outputs.{Output}
use Rattle.cqlp_capture_streams.specs.declared.capturing.CaptureRead.{CaptureRead}
use Rattle.cqlp_capture_streams.specs.declared.fault.StreamsFault.{StreamsFault}
use Rattle.cqlp_capture_streams.specs.declared.fault.StreamsFault.TheVariants as fault
use Rattle.cqlp_capture_streams.specs.declared.limits.StreamsLimits.{StreamsLimits}
use Rattle.cqlp_capture_streams.specs.Captures.{ReadsMade}
use Rattle.cqlp_capture_streams.specs.ConnectionEvents.{ConnectionEvent}
use Rattle.cqlp_capture_streams.specs.Streams.{ReadsCapture}
use Rattle.cqlp_capture_streams.proofs.Causes.{EndedIfFault, FailsSo, ended_by, fault_cause}
use Rattle.cqlp_statement_types.specs.Types.{Given}
use Rattle.cqlp_capture_rows.specs.Listening.{Listening, StopsAt, new_listening, with_connection_event}
use Rattle.cqlp_capture_rows.specs.Capturing.{FaultsHaveCauses}

abbrev failures_of : Listening → ℕ
failures_of w = w.output.failures

stops : (v w : Listening) (s : ConnectionEvent) (e : StreamsFault) → StopsAt v s e w → FailsSo e (failures_of v) (failures_of w)
stops v w s fault.Write a = a.failures
stops v w s fault.Read a = absurd a
stops v w s fault.NoMemory a = tt
stops v w s fault.TooManyTurns a = absurd a
stops v w s (fault.File f) a = absurd a

ended : (l : StreamsLimits) (given : Given) (asked : ℕ) (ports xs : List ℕ) (m : ReadsMade) (left : Option (List ℕ)) (out : Output) (w : Listening) (r : Result CaptureRead StreamsFault) → ReadsCapture with_connection_event StopsAt l ports xs m r left (new_listening given asked out) w → EndedIfFault m r out.failures w.output.failures
ended l given asked ports xs m left out w (Ok x) a = tt
ended l given asked ports xs m left out w (Err e) a = fault_cause with_connection_event StopsAt failures_of (λ v s. refl) stops l ports xs m e left (new_listening given asked out) w a

pub rows_causes : FaultsHaveCauses
rows_causes l given asked ports xs m left out err out' err' (r, (w, reads, is), ends) =
    ended_by ports (codes "rows") m r out err out' err' (subst (λ (o : Output). EndedIfFault m r out.failures o.failures) (sym is) (ended l given asked ports xs m left out w r reads)) ends
