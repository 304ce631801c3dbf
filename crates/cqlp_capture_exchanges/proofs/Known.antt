-- It stays known what the output was given, at the end and after a fault too.
use Rattle.std.proofs.Common.{◌≡◌, ◌∙◌, ℕ, List, [], ◌++◌, Option, Some, None, Result, Ok, Err, IsSome, refl, sym, ap, subst, append-nil}
use Rattle.std.specs.Io.KnownBytes.{append_known}
use Rattle.cqlp_text.specs.Outputs.{Output, output}
use Rattle.cqlp_capture_streams.specs.declared.capturing.CaptureRead.{CaptureRead}
use Rattle.cqlp_capture_streams.specs.declared.fault.StreamsFault.{StreamsFault}
use Rattle.cqlp_capture_streams.specs.declared.fault.StreamsFault.TheVariants as fault
use Rattle.cqlp_capture_streams.specs.declared.limits.StreamsLimits.{StreamsLimits}
use Rattle.cqlp_capture_streams.specs.Captures.{ReadsMade}
use Rattle.cqlp_capture_streams.proofs.Keeping.{kept}
use Rattle.cqlp_observer.specs.declared.missed.Missed.{Missed}
use Rattle.cqlp_statement_file.specs.Texts.{Texts}
use Rattle.cqlp_capture_exchanges.specs.declared.connection.Connection.{Connection}
use Rattle.cqlp_capture_exchanges.specs.declared.filter.ExchangeFilter.{ExchangeFilter}
use Rattle.cqlp_capture_exchanges.specs.declared.form.ExchangeForm.{ExchangeForm}
use Rattle.cqlp_capture_exchanges.specs.declared.pool.ExchangeLimits.{ExchangeLimits}
use Rattle.cqlp_capture_exchanges.specs.declared.sums.ExchangeSums.{ExchangeSums}
use Rattle.cqlp_capture_exchanges.specs.Reports.{Report}
use Rattle.cqlp_capture_exchanges.specs.Accounts.{Account, FailsAmong, ending, with_all}
use Rattle.cqlp_capture_exchanges.specs.Capturing.{Closes, Listens}
use Rattle.cqlp_capture_exchanges.specs.Listening.{Listening, StopsAt, change_of, new_listening, connection_of, with_connection_event}
use Rattle.cqlp_capture_exchanges.proofs.Accounts.{known_after, still_known}
use Rattle.cqlp_capture_exchanges.proofs.Heard.{heard_known}

known_more : (given new : Option (List ℕ)) (text : List ℕ) → new ≡ append_known given text → IsSome given → IsSome new
known_more None new text is k = cc
known_more (Some t) new text is k = subst (λ (z : Option (List ℕ)). IsSome z) (sym is) refl

among : (e : StreamsFault) (n : Connection) (ts : List Report) (a b : Account) → FailsAmong e n ts a b → IsSome a.output.given → IsSome b.output.given
among fault.Write n ts a b x k = known_more (with_all n x.front a).output.given b.output.given x.stops.within.sent x.stops.within.given (still_known n x.front a k)
among fault.NoMemory n ts a b x k = known_after n x.front a b x.accounted k
among fault.Read n ts a b x k = absurd x
among fault.TooManyTurns n ts a b x k = absurd x
among (fault.File f) n ts a b x k = absurd x

abbrev IsKnown : Listening → Type 0
IsKnown w = IsSome w.account.output.given

closes_known : (a : Account) (read r : Result CaptureRead StreamsFault) (out : Output) → Closes a read r out → IsSome a.output.given → IsSome out.given
closes_known a (Err f) r out (is, same) k = subst (λ (o : Output). IsSome o.given) (sym same) k
closes_known a (Ok x) (Ok y) out (is, same) k = known_more a.output.given out.given (ending a) (ap (λ (o : Output). o.given) same) k
closes_known a (Ok x) (Err f) out (is, within) k = known_more a.output.given out.given within.sent within.given k

pub listens_known : (c : StreamsLimits) (l : ExchangeLimits) (given : Texts) (filter : ExchangeFilter) (form : ExchangeForm) (ports xs : List ℕ) (m : ReadsMade) (r : Result CaptureRead StreamsFault) (left : Option (List ℕ)) (out : Output) (sums : ExchangeSums) (missed : Missed) (out' : Output) → Listens c l given filter form ports xs m r left out sums missed out' → IsSome out.given → IsSome out'.given
listens_known c l given filter form ports xs m r left out sums missed out' (w, read, reads, are, miss, closes) k =
    closes_known w.account read r out' closes
    (kept with_connection_event StopsAt IsKnown (λ v s p. heard_known v (with_connection_event v s) s refl p) (λ v x s e a p. among e (connection_of s) (change_of s v).reports v.account x.account a p) c ports xs m read left (new_listening l given filter form out) w reads k)

-- nothing waits yet
pub nothing_waits : (given : Option (List ℕ)) (failures : ℕ) (waiting : List ℕ) → waiting ≡ [] → output (append_known given waiting) failures ≡ output given failures
nothing_waits None failures waiting none = refl
nothing_waits (Some t) failures waiting none = ap (λ (z : List ℕ). output (Some z) failures) (ap (λ z. t ++ z) none ∙ append-nil t)

pub known_with : (given : Option (List ℕ)) (text : List ℕ) → IsSome given → IsSome (append_known given text)
known_with given text k = known_more given (append_known given text) text refl k
