-- What listens to the events of the connections of a capture, and writes their exchanges.
use Rattle.std.specs.Prelude.{◌≡◌, ℕ, [], Option, None, Result, Ok, Err}
use Rattle.cqlp_text.specs.Outputs.{Output}
use Rattle.cqlp_capture_summary.specs.Summaries.{new_summary}
use Rattle.cqlp_capture_streams.specs.declared.fault.StreamsFault.{StreamsFault}
use Rattle.cqlp_capture_streams.specs.ConnectionEvents.{ConnectionEvent, Packet, New, Of, Left}
use Rattle.cqlp_statement_file.specs.Texts.{Texts}
use Rattle.cqlp_capture_exchanges.specs.declared.connection.Connection.{Connection}
use Rattle.cqlp_capture_exchanges.specs.declared.filter.ExchangeFilter.{ExchangeFilter}
use Rattle.cqlp_capture_exchanges.specs.declared.form.ExchangeForm.{ExchangeForm}
use Rattle.cqlp_capture_exchanges.specs.declared.pool.ExchangeLimits.{ExchangeLimits}
use Rattle.cqlp_capture_exchanges.specs.Accounts.{Account, FailsAmong, account, no_sums, since, with_all}
use Rattle.cqlp_capture_exchanges.specs.Connections.{of_delivery, of_totals, unreported}
use Rattle.cqlp_capture_exchanges.specs.Forms.{statements_in}
use Rattle.cqlp_capture_exchanges.specs.Prepared.{known_of}
use Rattle.cqlp_capture_exchanges.specs.Tables.{Change, Table, begins, change, leaves, new_table, takes_delivery}

-- the connections that are watched, when the present packet came, and what was reported
pub record Listening : Type 0 where
  pub table : Table
  pub present : Option ℕ
  pub account : Account

abbrev pub listening : Table → (present : Option ℕ) → Account → Listening
listening table present a = record { table = table; present = present; account = a }

abbrev pub new_listening : ExchangeLimits → Texts → ExchangeFilter → ExchangeForm → Output → Listening
new_listening limits given filter form out =
    listening (new_table limits) None (account filter form None (known_of [] given) (new_summary (statements_in form)) no_sums out)

-- ---- what an event of a connection does: which connection it is of, what is reported of that, and the time

abbrev pub change_of : ConnectionEvent → Listening → Change
change_of (Packet time) w = change [] w.table
change_of (New n) w = begins n w.table
change_of (Of delivered bytes) w = takes_delivery w.present delivered bytes w.table
change_of (Left totals) w = leaves totals w.table

abbrev pub connection_of : ConnectionEvent → Connection
connection_of (Packet time) = unreported 0
connection_of (New n) = unreported n
connection_of (Of delivered bytes) = of_delivery delivered
connection_of (Left totals) = of_totals totals

abbrev pub present_after : ConnectionEvent → (before : Option ℕ) → Option ℕ
present_after (Packet time) before = time
present_after s before = before

abbrev pub account_at : ConnectionEvent → Account → Account
account_at (Packet time) a = since time a
account_at s a = a

abbrev pub after_change : Change → ConnectionEvent → Listening → Listening
after_change x s w = listening x.table (present_after s w.present) (with_all (connection_of s) x.reports (account_at s w.account))

abbrev pub with_connection_event : Listening → ConnectionEvent → Listening
with_connection_event w s = after_change (change_of s w) s w

-- ---- a fault: the output failed within the text of a report, or memory was refused, after all reports before

abbrev pub StopsAt : Listening → ConnectionEvent → StreamsFault → Listening → Type 0
StopsAt old s e new = FailsAmong e (connection_of s) (change_of s old).reports old.account new.account

abbrev pub Hears : Listening → ConnectionEvent → Result (Unit {0}) StreamsFault → Listening → Type 0
Hears old s (Ok u) new = new ≡ with_connection_event old s
Hears old s (Err e) new = StopsAt old s e new
