-- What is known after an event of a connection.
use Rattle.std.proofs.Common.{◌≡◌, IsSome, OnOk, Result, Ok, Err, sym, subst}
use Rattle.cqlp_capture_streams.specs.declared.fault.StreamsFault.{StreamsFault}
use Rattle.cqlp_capture_streams.specs.ConnectionEvents.{ConnectionEvent, Packet, New, Of, Left}
use Rattle.cqlp_capture_exchanges.specs.Accounts.{Account}
use Rattle.cqlp_capture_exchanges.specs.Listening.{Hears, Listening, account_at, change_of, connection_of, with_connection_event}
use Rattle.cqlp_capture_exchanges.proofs.Accounts.{still_known}

-- it is still known what the output was given
account_known : (s : ConnectionEvent) (a : Account) → IsSome a.output.given → IsSome (account_at s a).output.given
account_known (Packet time) a k = k
account_known (New n) a k = k
account_known (Of delivered bytes) a k = k
account_known (Left totals) a k = k

pub heard_known : (old new : Listening) (s : ConnectionEvent) → new ≡ with_connection_event old s → IsSome old.account.output.given → IsSome new.account.output.given
heard_known old new s e k =
    subst (λ (w : Listening). IsSome w.account.output.given) (sym e)
    (still_known (connection_of s) (change_of s old).reports (account_at s old.account) (account_known s old.account k))

pub reports_what_it_heard : (old new : Listening) (s : ConnectionEvent) (r : Result (Unit {0}) StreamsFault) → (IsSome old.account.output.given → Hears old s r new) → OnOk r (IsSome old.account.output.given → IsSome new.account.output.given × (new ≡ with_connection_event old s))
reports_what_it_heard old new s (Ok u) h = λ k. (heard_known old new s (h k) k, h k)
reports_what_it_heard old new s (Err e) h = tt
