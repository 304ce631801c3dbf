-- What becomes of a capture whose exchanges are written.
use Rattle.std.specs.Prelude.{◌≡◌, ◌≢◌, ℕ, List, [], ◌∷◌, codes, decimal, Option, Result, Ok, Err}
use Rattle.cqlp_text.specs.Outputs.{Output, StopsWithin, with_text}
use Rattle.cqlp_capture_streams.specs.declared.buffering.Buffering.{Buffering}
use Rattle.cqlp_capture_streams.specs.declared.limits.StreamsLimits.{StreamsLimits}
use Rattle.cqlp_capture_streams.specs.declared.capturing.CaptureRead.{CaptureRead}
use Rattle.cqlp_capture_streams.specs.declared.fault.StreamsFault.{StreamsFault}
use Rattle.cqlp_capture_streams.specs.declared.fault.StreamsFault.TheVariants as fault
use Rattle.cqlp_capture_streams.specs.Captures.{ReadsMade}
use Rattle.cqlp_capture_streams.specs.Streams.{ReadsCapture}
use Rattle.cqlp_capture_streams.specs.Buffers.{Buffers}
use Rattle.cqlp_capture_streams.specs.Endings.{ConcludesNoted}
use Rattle.cqlp_observer.specs.declared.missed.Missed.{Missed}
use Rattle.cqlp_capture_streams.specs.Causes.{HasCause}
use Rattle.cqlp_statement_file.specs.Texts.{Texts}
use Rattle.cqlp_capture_exchanges.specs.declared.pool.ExchangeLimits.{ExchangeLimits}
use Rattle.cqlp_capture_exchanges.specs.declared.filter.ExchangeFilter.{ExchangeFilter}
use Rattle.cqlp_capture_exchanges.specs.declared.form.ExchangeForm.{ExchangeForm}
use Rattle.cqlp_capture_exchanges.specs.declared.sums.ExchangeSums.{ExchangeSums}
use Rattle.cqlp_capture_exchanges.specs.Accounts.{Account, ending}
use Rattle.cqlp_capture_exchanges.specs.declared.losses.Losses.{Losses}
use Rattle.cqlp_capture_exchanges.specs.Times.{joined}
use Rattle.cqlp_capture_exchanges.specs.Losses.{loss_words, losses_of, note_text}
use Rattle.cqlp_capture_exchanges.specs.Listening.{Listening, StopsAt, new_listening, with_connection_event}

-- what was reported of requests and responses, in the last line
abbrev pub sums_words : ExchangeSums → List ℕ
sums_words s =
    joined (codes "exchanges " ∷ decimal s.exchanges ∷ codes " unanswered " ∷ decimal s.unanswered ∷ codes " unasked " ∷ decimal s.unasked
    ∷ codes " events " ∷ decimal s.events ∷ codes " cut " ∷ decimal s.cut ∷ [])

-- with what was missed
abbrev pub words_of : ExchangeSums → Losses → List ℕ
words_of s l = joined (sums_words s ∷ loss_words l ∷ [])

abbrev pub last_words : StreamsLimits → ExchangeLimits → ExchangeSums → Missed → Result CaptureRead StreamsFault → List ℕ
last_words c l s m r = words_of s (losses_of c l r s m)

-- So ends what was reported: before the last line is the reason not to trust its numbers, where something was missed.
abbrev pub ConcludesSums : StreamsLimits → ExchangeLimits → (ports : List ℕ) → ExchangeSums → Missed → Result CaptureRead StreamsFault
    → (before : Output) → (status : ℕ) → (after : Output) → Type 0
ConcludesSums c l ports s m r before status after =
    ConcludesNoted ports (note_text (losses_of c l r s m)) (last_words c l s m r) r before status after

-- Where the capture was read, what is written at the end was, or the output failed within it.
abbrev pub Closes : Account → (read : Result CaptureRead StreamsFault) → Result CaptureRead StreamsFault → Output → Type 0
Closes a (Err f) r out = (r ≡ Err f) × (out ≡ a.output)
Closes a (Ok x) (Ok y) out = (y ≡ x) × (out ≡ with_text a.output (ending a))
Closes a (Ok x) (Err f) out = (f ≡ fault.Write) × StopsWithin a.output (ending a) out

-- What was heard of an input with the bytes xs by so many reads, what that was, and what was written.
abbrev pub Listens : StreamsLimits → ExchangeLimits → Texts → ExchangeFilter → ExchangeForm → (ports : List ℕ) → (xs : List ℕ) → ReadsMade
    → Result CaptureRead StreamsFault → (left : Option (List ℕ)) → (out : Output) → ExchangeSums → Missed → (out' : Output) → Type 0
Listens c l given filter form ports xs m r left out sums missed out' =
    (w : Listening) × (read : Result CaptureRead StreamsFault)
    × ReadsCapture with_connection_event StopsAt c ports xs m read left (new_listening l given filter form out) w
    × (sums ≡ w.account.sums) × (missed ≡ w.table.missed) × Closes w.account read r out'

-- The lines went to the output at once, or in blocks.
abbrev pub ListensBy : Buffering → StreamsLimits → ExchangeLimits → Texts → ExchangeFilter → ExchangeForm → (ports : List ℕ) → (xs : List ℕ) → ReadsMade
    → Result CaptureRead StreamsFault → (left : Option (List ℕ)) → (out : Output) → ExchangeSums → Missed → (out' : Output) → Type 0
ListensBy b c l given filter form ports xs m r left out sums missed out' =
    (read : Result CaptureRead StreamsFault) × (whole : Output)
    × Listens c l given filter form ports xs m read left out sums missed whole × Buffers b read whole r out'

-- Its exchanges were written, and then the lines of how it ended, with its status.
abbrev pub WritesExchanges : Buffering → StreamsLimits → ExchangeLimits → Texts → ExchangeFilter → ExchangeForm → (ports : List ℕ) → (xs : List ℕ) → ReadsMade
    → (left : Option (List ℕ)) → (out err : Output) → (status : ℕ) → (out' err' : Output) → Type 0
WritesExchanges b c l given filter form ports xs m left out err status out' err' =
    (r : Result CaptureRead StreamsFault) × (sums : ExchangeSums) × (missed : Missed) × ListensBy b c l given filter form ports xs m r left out sums missed out'
    × ConcludesSums c l ports sums missed r err status err'

-- Where nothing outside fails, so that the status is not that of a fault, the same bytes, limits, ports, filter, form and outputs lead to the
-- same status, the same text and the same last line, at once or in blocks.
abbrev pub OneAnswerOfWriteExchanges : Type 0
OneAnswerOfWriteExchanges =
    (b b' : Buffering) (c : StreamsLimits) (l : ExchangeLimits) (given : Texts) (filter : ExchangeFilter) (form : ExchangeForm) (ports xs : List ℕ) (out err : Output) (m n : ReadsMade) (left left' : Option (List ℕ))
    (status status' : ℕ) (out' out'' err' err'' : Output)
    → WritesExchanges b c l given filter form ports xs m left out err status out' err' → status ≢ 3
    → WritesExchanges b' c l given filter form ports xs n left' out err status' out'' err'' → status' ≢ 3
    → (status' ≡ status) × (out'' ≡ out') × (err'' ≡ err')

-- The status is that of a fault only where something outside failed, or the line says that there was no memory or no end.
abbrev pub FaultsHaveCauses : Type 0
FaultsHaveCauses =
    (b : Buffering) (c : StreamsLimits) (l : ExchangeLimits) (given : Texts) (filter : ExchangeFilter) (form : ExchangeForm) (ports xs : List ℕ) (m : ReadsMade) (left : Option (List ℕ)) (out err out' err' : Output)
    → WritesExchanges b c l given filter form ports xs m left out err 3 out' err' → HasCause m out err out' err'
