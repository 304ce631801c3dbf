-- A fault has its cause.
use Rattle.std.proofs.Common.{◌≡◌, ◌∙◌, ℕ, Bool, true, false, List, [], ◌∷◌, Option, Result, Ok, Err, if◌then◌else◌, refl, sym, ap, subst}
use Rattle.cqlp_note.specs.Streams.{counted}
use Rattle.cqlp_text.specs.Outputs.{Output}
use Rattle.cqlp_capture_streams.specs.declared.limits.StreamsLimits.{StreamsLimits}
use Rattle.cqlp_capture_streams.specs.declared.capturing.CaptureRead.{CaptureRead}
use Rattle.cqlp_capture_streams.specs.declared.fault.StreamsFault.{StreamsFault}
use Rattle.cqlp_capture_streams.specs.declared.fault.StreamsFault.TheVariants as fault
use Rattle.cqlp_capture_streams.specs.Captures.{ReadsMade}
use Rattle.cqlp_capture_streams.specs.ConnectionEvents.{ConnectionEvent, Packet, New, Of, Left}
use Rattle.cqlp_capture_streams.specs.Streams.{ReadsCapture}
use Rattle.cqlp_capture_streams.proofs.Finished.{buffered_cause}
use Rattle.cqlp_capture_streams.proofs.Causes.{EndedBy, EndedIfFault, FailsSo, ended_noted, fault_cause, none_failed}
use Rattle.cqlp_statement_file.specs.Texts.{Texts}
use Rattle.cqlp_capture_exchanges.specs.declared.connection.Connection.{Connection}
use Rattle.cqlp_capture_exchanges.specs.declared.filter.ExchangeFilter.{ExchangeFilter}
use Rattle.cqlp_capture_exchanges.specs.declared.form.ExchangeForm.{ExchangeForm}
use Rattle.cqlp_capture_exchanges.specs.declared.pool.ExchangeLimits.{ExchangeLimits}
use Rattle.cqlp_capture_exchanges.specs.Reports.{Report}
use Rattle.cqlp_capture_exchanges.specs.Accounts.{Account, StopsAmong, with_all, with_count, with_reported}
use Rattle.cqlp_capture_exchanges.specs.Filters.{shows}
use Rattle.cqlp_capture_exchanges.specs.Listening.{Listening, StopsAt, account_at, change_of, new_listening, connection_of, with_connection_event}
use Rattle.cqlp_capture_exchanges.specs.Losses.{losses_of, note_text}
use Rattle.cqlp_capture_exchanges.specs.Capturing.{Closes, FaultsHaveCauses, last_words}

-- ---- what is reported does not make the output fail

either : (b : Bool) (x y : Account) (n : ℕ) → x.output.failures ≡ n → y.output.failures ≡ n → (if b then x else y).output.failures ≡ n
either true x y n p q = p
either false x y n p q = q

reported_keeps : (n : Connection) (t : Report) (a : Account) → (with_reported n t a).output.failures ≡ a.output.failures
reported_keeps n t a = either (shows a.filter a.known a.first n t) _ (with_count t a) a.output.failures refl refl

all_keeps : (n : Connection) (ts : List Report) (a : Account) → (with_all n ts a).output.failures ≡ a.output.failures
all_keeps n [] a = refl
all_keeps n (t ∷ ts) a = all_keeps n ts (with_reported n t a) ∙ reported_keeps n t a

at_keeps : (s : ConnectionEvent) (a : Account) → (account_at s a).output.failures ≡ a.output.failures
at_keeps (Packet time) a = refl
at_keeps (New n) a = refl
at_keeps (Of delivered bytes) a = refl
at_keeps (Left totals) a = refl

abbrev failures_of : Listening → ℕ
failures_of w = w.account.output.failures

keeps : (v : Listening) (s : ConnectionEvent) → failures_of (with_connection_event v s) ≡ failures_of v
keeps v s = all_keeps (connection_of s) (change_of s v).reports (account_at s v.account) ∙ at_keeps s v.account

among : (n : Connection) (ts : List Report) (a b : Account) → StopsAmong n ts a b → b.output.failures ≡ counted true a.output.failures
among n ts a b x = x.stops.within.failures ∙ ap (λ k. counted true k) (all_keeps n x.front a)

stops : (v w : Listening) (s : ConnectionEvent) (e : StreamsFault) → StopsAt v s e w → FailsSo e (failures_of v) (failures_of w)
stops v w s fault.Write a = among (connection_of s) (change_of s v).reports v.account w.account a
stops v w s fault.Read a = absurd a
stops v w s fault.NoMemory a = tt
stops v w s fault.TooManyTurns a = absurd a
stops v w s (fault.File f) a = absurd a

-- ---- the end

module _ (limits : StreamsLimits) (most : ExchangeLimits) (given : Texts) (filter : ExchangeFilter) (form : ExchangeForm) (ports xs : List ℕ) (m : ReadsMade) (left : Option (List ℕ)) (out : Output) (w : Listening) where
  abbrev first : Listening
  first = new_listening most given filter form out

  closed : (read r : Result CaptureRead StreamsFault) (out' : Output) → ReadsCapture with_connection_event StopsAt limits ports xs m read left first w → Closes w.account read r out' → EndedIfFault m r out.failures out'.failures
  closed (Err f) r out' a (is, same) =
      let there : EndedIfFault m (Err f) out.failures w.account.output.failures = fault_cause with_connection_event StopsAt failures_of keeps stops limits ports xs m f left first w a in
      subst (λ (z : Result CaptureRead StreamsFault). EndedIfFault m z out.failures out'.failures) (sym is) (subst (λ (o : Output). EndedIfFault m (Err f) out.failures o.failures) (sym same) there)
  closed (Ok x) (Ok y) out' a c = tt
  closed (Ok x) (Err f) out' a (is, within) =
      let none = none_failed with_connection_event StopsAt failures_of keeps stops limits ports xs m x left first w a in
      let one : EndedBy m fault.Write out.failures out'.failures = within.failures ∙ ap (λ k. counted true k) none in
      subst (λ (z : StreamsFault). EndedBy m z out.failures out'.failures) (sym is) one

  -- where the reading has no fault the output has not failed
  well_closed : (read r : Result CaptureRead StreamsFault) (out' : Output) (x : CaptureRead) → r ≡ Ok x → ReadsCapture with_connection_event StopsAt limits ports xs m read left first w → Closes w.account read r out' → out'.failures ≡ out.failures
  well_closed (Err f) r out' x well a (is, same) = absurd (let no = sym well ∙ is in cc)
  well_closed (Ok y) (Ok z) out' x well a (is, same) = ap (λ (o : Output). o.failures) same ∙ none_failed with_connection_event StopsAt failures_of keeps stops limits ports xs m y left first w a
  well_closed (Ok y) (Err f) out' x well a c = absurd (let no = well in cc)

pub exchanges_causes : FaultsHaveCauses
exchanges_causes b limits most given filter form ports xs m left out err out' err' (r, sums, missed, (mid, whole, (w, read, reads, are, miss, closes), buffers), ends) =
    let well = λ (x : CaptureRead) (is : mid ≡ Ok x). well_closed limits most given filter form ports xs m left out w read mid whole x is reads closes in
    let cause = closed limits most given filter form ports xs m left out w read mid whole reads closes in
    ended_noted ports (note_text (losses_of limits most r sums missed)) (last_words limits most sums missed r) m r out err out' err' (buffered_cause b m mid r out.failures whole out' well cause buffers) ends
