-- Two runs are one.
use Rattle.std.proofs.Common.{◌≡◌, ◌≢◌, ◌∙◌, ℕ, List, Result, Ok, Err, sym, ap, subst}
use Rattle.cqlp_text.specs.Outputs.{Output, with_text}
use Rattle.cqlp_capture_streams.specs.declared.capturing.CaptureRead.{CaptureRead}
use Rattle.cqlp_capture_streams.specs.declared.fault.StreamsFault.{StreamsFault}
use Rattle.cqlp_capture_streams.specs.Endings.{ConcludesNoted}
use Rattle.cqlp_capture_streams.specs.declared.buffering.Buffering.{Buffering}
use Rattle.cqlp_capture_streams.specs.Buffers.{Buffers}
use Rattle.cqlp_capture_streams.proofs.Finished.{buffered_well}
use Rattle.cqlp_observer.specs.declared.missed.Missed.{Missed}
use Rattle.cqlp_capture_streams.specs.declared.limits.StreamsLimits.{StreamsLimits}
use Rattle.cqlp_capture_exchanges.specs.declared.pool.ExchangeLimits.{ExchangeLimits}
use Rattle.cqlp_capture_streams.proofs.OneAnswer.{concluded, runs_noted, well_read}
use Rattle.cqlp_capture_exchanges.specs.declared.sums.ExchangeSums.{ExchangeSums}
use Rattle.cqlp_capture_exchanges.specs.Accounts.{Account, ending}
use Rattle.cqlp_capture_exchanges.specs.Listening.{Listening, StopsAt, new_listening, with_connection_event}
use Rattle.cqlp_capture_exchanges.specs.Losses.{losses_of, note_text}
use Rattle.cqlp_capture_exchanges.specs.Capturing.{Closes, ConcludesSums, OneAnswerOfWriteExchanges, last_words}

-- Where there is no fault, the capture was read, and all that is written at the end was.
closed : (a : Account) (read r : Result CaptureRead StreamsFault) (x : CaptureRead) (out : Output) → r ≡ Ok x → Closes a read r out → (r ≡ read) × (out ≡ with_text a.output (ending a))
closed a (Err f) r x out is (e, o) = absurd (let z : Err f ≡ Ok x = sym e ∙ is in cc)
closed a (Ok y) (Ok z) x out is (e, o) = (ap (λ k. Ok k) e, o)
closed a (Ok y) (Err f) x out is c = absurd (let z = is in cc)

ended : (b : Buffering) (ports : List ℕ) (a : Account) (read mid r : Result CaptureRead StreamsFault) (whole out err err' : Output) (status : ℕ) (note words : List ℕ) → ConcludesNoted ports note words r err status err' → status ≢ 3 → Buffers b mid whole r out → Closes a read mid whole → (r ≡ read) × (out ≡ with_text a.output (ending a))
ended b ports a read mid r whole out err err' status note words ends well buffers closes =
    let c = concluded ports note words r err err' status ends well in
    let x = well_read note r (λ is. well (c.0 ∙ is)) in
    let handed = buffered_well b mid r x.0 whole out x.1 buffers in
    let here = closed a read mid x.0 whole (sym handed.0 ∙ x.1) closes in
    (handed.0 ∙ here.0, handed.1 ∙ here.1)

abbrev sums_of : Listening → ExchangeSums
sums_of w = w.account.sums

abbrev missed_of : Listening → Missed
missed_of w = w.table.missed

-- what was reported and missed is what was heard
reported_of : (c : StreamsLimits) (l : ExchangeLimits) (ports : List ℕ) (w : Listening) (sums : ExchangeSums) (missed : Missed) (read r : Result CaptureRead StreamsFault) (err err' : Output) (status : ℕ) → sums ≡ sums_of w → missed ≡ missed_of w → r ≡ read → ConcludesSums c l ports sums missed r err status err' → ConcludesSums c l ports (sums_of w) (missed_of w) read err status err'
reported_of c l ports w sums missed read r err err' status s m is ends =
    subst (λ (z : ExchangeSums). ConcludesSums c l ports z (missed_of w) read err status err') s
    (subst (λ (z : Missed). ConcludesSums c l ports sums z read err status err') m
    (subst (λ (z : Result CaptureRead StreamsFault). ConcludesSums c l ports sums missed z err status err') is ends))

abbrev note_of : StreamsLimits → ExchangeLimits → Listening → Result CaptureRead StreamsFault → List ℕ
note_of c l w r = note_text (losses_of c l r (sums_of w) (missed_of w))

abbrev words_of : StreamsLimits → ExchangeLimits → Listening → Result CaptureRead StreamsFault → List ℕ
words_of c l w r = last_words c l (sums_of w) (missed_of w) r

pub exchanges_once : OneAnswerOfWriteExchanges
exchanges_once b b' limits most given filter form ports xs out err made made' left left' status status' out' out'' err' err'' (r, sums, missed, (mid, whole, (w, read, reads, are, miss, closes), buffers), ends) well (r', sums', missed', (mid', whole', (w', read', reads', are', miss', closes'), buffers'), ends') well' =
    let c = ended b ports w.account read mid r whole out' err err' status (note_text (losses_of limits most r sums missed)) (last_words limits most sums missed r) ends well buffers closes in
    let c' = ended b' ports w'.account read' mid' r' whole' out'' err err'' status' (note_text (losses_of limits most r' sums' missed')) (last_words limits most sums' missed' r') ends' well' buffers' closes' in
    let e = reported_of limits most ports w sums missed read r err err' status are miss c.0 ends in
    let e' = reported_of limits most ports w' sums' missed' read' r' err err'' status' are' miss' c'.0 ends' in
    let one = runs_noted with_connection_event StopsAt (note_of limits most) (words_of limits most) limits ports xs (new_listening most given filter form out) w w' made made' left left' read read' err err' err'' status status' reads e well reads' e' well' in
    (one.0, c'.1 ∙ ap (λ (z : Listening). with_text z.account.output (ending z.account)) one.1 ∙ sym c.1, one.2)
