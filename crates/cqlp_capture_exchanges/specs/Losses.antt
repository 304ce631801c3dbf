-- What a capture did not have, or was given up, in words.
use Rattle.std.specs.Prelude.{ℕ, ◌/◌, ◌==◌, Bool, ◌||◌, nat_lt, List, [], ◌∷◌, codes, decimal, Result, Ok, Err, if◌then◌else◌}
use Rattle.cqlp_observer.specs.declared.missed.Missed.{Missed}
use Rattle.cqlp_capture_streams.specs.declared.capturing.CaptureRead.{CaptureRead}
use Rattle.cqlp_capture_streams.specs.declared.fault.StreamsFault.{StreamsFault}
use Rattle.cqlp_capture_streams.specs.declared.limits.StreamsLimits.{StreamsLimits}
use Rattle.cqlp_capture_streams.specs.Endings.{count_words}
use Rattle.cqlp_capture_exchanges.specs.declared.losses.Losses.{Losses}
use Rattle.cqlp_capture_exchanges.specs.declared.losses.Reason.{Reason}
use Rattle.cqlp_capture_exchanges.specs.declared.losses.Reason.TheVariants as reason
use Rattle.cqlp_capture_exchanges.specs.declared.pool.ExchangeLimits.{ExchangeLimits}
use Rattle.cqlp_capture_exchanges.specs.declared.sums.ExchangeSums.{ExchangeSums}
use Rattle.cqlp_capture_exchanges.specs.Times.{joined}

abbrev pub losses : StreamsLimits → ExchangeLimits → Missed → (snapped early late out_of_order crowded : ℕ) → Losses
losses c l m snapped early late out_of_order crowded = record {
  streams = c;
  exchanges = l;
  missed = m;
  snapped = snapped;
  early = early;
  late = late;
  out_of_order = out_of_order;
  crowded = crowded;
}

-- Packets that no window put in order are a loss if a message was reported alone, whose partner they may have split from it.
abbrev pub unordered : ExchangeSums → (packets : ℕ) → ℕ
unordered s n = if nat_lt 0 s.unanswered || nat_lt 0 s.unasked then n else 0

-- what was reported and missed of the connections, and what the reading of the capture did not have
abbrev pub losses_of : StreamsLimits → ExchangeLimits → Result CaptureRead StreamsFault → ExchangeSums → Missed → Losses
losses_of c l (Ok r) s m =
    losses c l m r.packets.snapped r.connections.given_up r.order.late (unordered s r.order.out_of_order) r.connections.crowded
losses_of c l (Err f) s m = losses c l m 0 0 0 0 0

-- ---- the reasons not to trust numbers, each unless its number is 0

abbrev pub mebibytes : ℕ → ℕ
mebibytes n = n / 1_048_576

abbrev pub if_some : (count : ℕ) → (text : List ℕ) → List ℕ
if_some n text = if n == 0 then [] else text

abbrev pub plain_words : (words : List ℕ) → List ℕ
plain_words words = joined (codes "; " ∷ words ∷ [])

abbrev pub limit_words : (limit : ℕ) → (words : List ℕ) → List ℕ
limit_words limit words = joined (codes "; more than " ∷ decimal limit ∷ words ∷ [])

abbrev pub reason_text : Reason → List ℕ
reason_text (reason.Plain n words) = if_some n (plain_words words.now)
reason_text (reason.Limit n limit words) = if_some n (limit_words limit words.now)

-- whether there is one
abbrev pub has_losses : Losses → Bool
has_losses l =
    nat_lt 0 l.missed.overtaken || nat_lt 0 l.missed.texts || nat_lt 0 l.snapped || nat_lt 0 l.missed.gaps || nat_lt 0 l.early || nat_lt 0 l.late
    || nat_lt 0 l.out_of_order || nat_lt 0 l.crowded || nat_lt 0 l.missed.other_versions || nat_lt 0 l.missed.tls || nat_lt 0 l.missed.http

abbrev pub plain : (count : ℕ) → (words : List ℕ) → List ℕ
plain n words = if_some n (plain_words words)

abbrev pub limit : (count limit : ℕ) → (words : List ℕ) → List ℕ
limit n most words = if_some n (limit_words most words)

abbrev pub reasons_text : Losses → List ℕ
reasons_text l =
    joined (limit l.missed.overtaken l.exchanges.open (codes " open requests (--open)")
    ∷ limit l.missed.texts (mebibytes l.exchanges.text) (codes " MiB of their texts (--text)")
    ∷ plain l.snapped (codes "packets were cut by the snap length")
    ∷ plain l.missed.gaps (codes "bytes were not captured")
    ∷ limit l.early (mebibytes l.streams.connections.early) (codes " MiB that came early (--early)")
    ∷ limit l.late l.streams.order.packets (codes " packets out of order (--order)")
    ∷ plain l.out_of_order (codes "packets out of order may split exchanges (give the file instead of -, or --order)")
    ∷ limit l.crowded l.streams.connections.connections (codes " connections at one time (--connections)")
    ∷ plain l.missed.other_versions (codes "a version of the protocol other than 4")
    ∷ plain l.missed.tls (codes "TLS") ∷ plain l.missed.http (codes "HTTP") ∷ [])

abbrev pub reasons_line : Losses → List ℕ
reasons_line l = joined (codes "cqlp: these numbers are not to be trusted" ∷ reasons_text l ∷ codes "\n" ∷ [])

abbrev pub note_text : Losses → List ℕ
note_text l = if has_losses l then reasons_line l else []

-- ---- the numbers in the last line that are of connections

abbrev pub loss_words : Losses → List ℕ
loss_words l =
    joined (count_words (codes "Overtaken") l.missed.overtaken ∷ count_words (codes "Texts") l.missed.texts
    ∷ count_words (codes "Gaps") l.missed.gaps ∷ count_words (codes "OtherVersions") l.missed.other_versions ∷ count_words (codes "Tls") l.missed.tls
    ∷ count_words (codes "Http") l.missed.http ∷ [])
