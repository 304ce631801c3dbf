use Rattle.std.proofs.Common.{◌≡◌, ◌+◌, ◌-◌, ◌*◌, ◌≤◌, List, ℕ, length, Some, None}
use Rattle.cqlp_note.specs.declared.refusal.Refusal.{Refusal}
use Rattle.cqlp_decode.specs.Reading.{Event, Gifts}
use Rattle.cqlp_decode.specs.Progress.{ends_due}
use Rattle.cqlp_decode.specs.Streams.{AfterGifts, state}
use Rattle.cqlp_decode.specs.Draining.{Passes}
use Rattle.cqlp_decode.proofs.Pieces.{Drained}
use Rattle.cqlp_decode.proofs.decoder.Decoder.feed.Given as goal

-- what is used is read, and the sink has got its events
abbrev pub invariant-events : goal.invariant-events
invariant-events g l = record {
  within : l.used ≤ length l.input;
  rules : (state l.self).rules ≡ (state l.fn.self).rules;
  given : (state l.self).given ≡ (state l.fn.self).given;
  refused : (r : Refusal) → (state l.fn.self).refusal ≡ Some r → (state l.self ≡ state l.fn.self) × (l.sink ≡ l.fn.sink) × (l.used ≡ 0);
  clear : (state l.fn.self).refusal ≡ None → (state l.self).refusal ≡ None;
  reports : g.S.Sink.reports l.fn.sink → g.S.Sink.reports l.sink;
  also : Passes g.S.Sink.also l.fn.sink l.sink;
  drained : g.S.Sink.reports l.fn.sink → (gifts : Gifts) (s : List ℕ) (es : List (ℕ × Event)) → AfterGifts gifts (state l.fn.self) s es → Drained g.S.Sink gifts s l.input es (g.S.Sink.view l.fn.sink) (state l.self) l.used l.sink;
}

-- an event takes some byte, or is the end of the frame or of a value that is open
abbrev pub decreases-events : goal.decreases-events
decreases-events g l = ends_due (state l.self).place.symbols + (state l.self).open_values + 2 * (length l.input - l.used)
