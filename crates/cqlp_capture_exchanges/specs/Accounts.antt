-- What is reported is counted, and is written or not.
use Rattle.std.specs.Prelude.{◌≡◌, ℕ, true, List, [], ◌∷◌, ◌++◌, Option, Some, None, if◌then◌else◌, Result, Ok, Err, IsSome}
use Rattle.cqlp_grammar.specs.declared.sink.SinkFault.{SinkFault}
use Rattle.cqlp_text.specs.Outputs.{Output, StopsWithin, with_text}
use Rattle.cqlp_capture_summary.specs.Summaries.{Summary}
use Rattle.cqlp_capture_streams.specs.declared.fault.StreamsFault.{StreamsFault}
use Rattle.cqlp_capture_streams.specs.declared.fault.StreamsFault.TheVariants as fault
use Rattle.cqlp_observer.specs.Keeping.{Kept}
use Rattle.cqlp_observer.specs.declared.message.Message.{Message}
use Rattle.cqlp_observer.specs.declared.paired.Paired.{Paired}
use Rattle.cqlp_observer.specs.declared.paired.Paired.TheVariants.{Exchange, Unanswered, Unasked, Event}
use Rattle.cqlp_tcp_connections.specs.Totals.{counted}
use Rattle.cqlp_capture_exchanges.specs.declared.connection.Connection.{Connection}
use Rattle.cqlp_capture_exchanges.specs.declared.filter.ExchangeFilter.{ExchangeFilter}
use Rattle.cqlp_capture_exchanges.specs.declared.form.ExchangeForm.{ExchangeForm}
use Rattle.cqlp_capture_exchanges.specs.Prepared.{Known, known_after}
use Rattle.cqlp_capture_exchanges.specs.Reports.{Report, Messages, Unread}
use Rattle.cqlp_capture_exchanges.specs.declared.sums.ExchangeSums.{ExchangeSums}
use Rattle.cqlp_capture_exchanges.specs.Filters.{shows}
use Rattle.cqlp_capture_exchanges.specs.Forms.{ending_of, noted_in, text_of}
use Rattle.cqlp_capture_exchanges.specs.Spans.{is_whole}

-- ---- numbers, each up to 2^64 - 1

abbrev pub no_sums : ExchangeSums
no_sums = record { exchanges = 0; unanswered = 0; unasked = 0; events = 0; cut = 0 }

-- a message that is not whole
abbrev pub with_message : Message Kept → ExchangeSums → ExchangeSums
with_message m s = if is_whole m.frame.extent then s else record s { cut = counted s.cut 1 }

abbrev pub with_one : Paired Kept → ExchangeSums → ExchangeSums
with_one (Exchange q r) s = with_message r (with_message q (record s { exchanges = counted s.exchanges 1 }))
with_one (Unanswered q) s = with_message q (record s { unanswered = counted s.unanswered 1 })
with_one (Unasked r) s = with_message r (record s { unasked = counted s.unasked 1 })
with_one (Event e) s = with_message e (record s { events = counted s.events 1 })

abbrev pub with_report : Report → ExchangeSums → ExchangeSums
with_report (Messages t end) s = with_one t s
with_report (Unread time o) s = s

-- ---- what is shown and in which form, when the first packet came, the statements that are known, the
-- summary of those that were asked for, what was reported so far, and the output

pub record Account : Type 0 where
  pub filter : ExchangeFilter
  pub form : ExchangeForm
  pub first : Option ℕ
  pub known : Known
  pub summary : Summary
  pub sums : ExchangeSums
  pub output : Output

abbrev pub account : ExchangeFilter → ExchangeForm → Option ℕ → Known → Summary → ExchangeSums → Output → Account
account filter form first known summary sums output =
    record { filter = filter; form = form; first = first; known = known; summary = summary; sums = sums; output = output }

-- the first time that is known
abbrev pub first_of : (first time : Option ℕ) → Option ℕ
first_of None time = time
first_of (Some t) time = Some t

abbrev pub since : (time : Option ℕ) → Account → Account
since time a = account a.filter a.form (first_of a.first time) a.known a.summary a.sums a.output

-- It is counted, whether it is shown or not.
abbrev pub with_count : Report → Account → Account
with_count t a = account a.filter a.form a.first a.known a.summary (with_report t a.sums) a.output

abbrev pub with_output : Output → Account → Account
with_output o a = account a.filter a.form a.first a.known a.summary a.sums o

-- It is counted in the summary, where that is the form.
abbrev pub with_note : Connection → Report → Account → Account
with_note n t a = account a.filter a.form a.first a.known (noted_in a.form a.known n t a.summary) a.sums a.output

abbrev pub with_line : Connection → Report → Account → Account
with_line n t a = if shows a.filter a.known a.first n t then with_output (with_text a.output (text_of a.form a.known a.first a.summary n t)) (with_note n t a) else a

abbrev pub with_shown : Connection → Report → Account → Account
with_shown n t a = with_line n t (with_count t a)

-- A statement that is prepared is known from then on.
abbrev pub learned : Report → Account → Account
learned t a = account a.filter a.form a.first (known_after t a.known) a.summary a.sums a.output

abbrev pub with_reported : Connection → Report → Account → Account
with_reported n t a = learned t (with_shown n t a)

-- all of it, in order
abbrev pub with_all : Connection → List Report → Account → Account
with_all n [] a = a
with_all n (t ∷ ts) a = with_all n ts (with_reported n t a)

-- ---- a fault

-- It is shown, and the output failed within its text.
pub record Stops (n : Connection) (t : Report) (old new : Account) : Type 0 where
  pub is_shown : shows old.filter old.known old.first n t ≡ true
  pub rest : new ≡ with_output new.output (with_note n t (with_count t old))
  pub within : StopsWithin old.output (text_of old.form old.known old.first old.summary n t) new.output

abbrev pub ReportsOne : Connection → Report → Account → Result (Unit {0}) SinkFault → Account → Type 0
ReportsOne n t old (Ok u) new = new ≡ with_shown n t old
ReportsOne n t old (Err e) new = Stops n t old new

-- The output failed within the text of one of these, after all before it.
pub record StopsAmong (n : Connection) (ts : List Report) (old new : Account) : Type 0 where
  pub front : List Report
  pub one : Report
  pub rest : List Report
  pub parts : ts ≡ front ++ one ∷ rest
  pub stops : Stops n one (with_all n front old) new

-- The first of these were reported, and memory for more was refused.
pub record EndsAmong (n : Connection) (ts : List Report) (old new : Account) : Type 0 where
  pub front : List Report
  pub rest : List Report
  pub parts : ts ≡ front ++ rest
  pub accounted : new ≡ with_all n front old

abbrev pub FailsAmong : StreamsFault → Connection → List Report → Account → Account → Type 0
FailsAmong fault.Write n ts old new = StopsAmong n ts old new
FailsAmong fault.NoMemory n ts old new = EndsAmong n ts old new
FailsAmong e n ts old new = ⊥

-- All were reported, or not for one of these reasons.
abbrev pub ReportsAll : Connection → List Report → Account → Result (Unit {0}) StreamsFault → Account → Type 0
ReportsAll n ts old (Ok u) new = new ≡ with_all n ts old
ReportsAll n ts old (Err e) new = FailsAmong e n ts old new

-- Where it is known what the output was given.
abbrev pub ReportedAll : Connection → List Report → Account → Result (Unit {0}) StreamsFault → Account → Type 0
ReportedAll n ts old r new = IsSome old.output.given → ReportsAll n ts old r new

-- ---- the end: what is written then, or the output failed within it

abbrev pub ending : Account → List ℕ
ending a = ending_of a.form a.summary

abbrev pub Finishes : Account → Result (Unit {0}) SinkFault → Account → Type 0
Finishes old (Ok u) new = new ≡ with_output (with_text old.output (ending old)) old
Finishes old (Err e) new = (new ≡ with_output new.output old) × StopsWithin old.output (ending old) new.output
