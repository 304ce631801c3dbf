use Rattle.std.proofs.Common.{◌≡◌, ◌≤◌, ◌*◌, List, ℕ, length, None, Some}
use Rattle.cqlp_note.specs.declared.refusal.Refusal.{Refusal}
use Rattle.cqlp_note.specs.Streams.{CountsUp}
use Rattle.cqlp_decode.specs.declared.running.Outcome.TheVariants as outcome
use Rattle.cqlp_decode.specs.Streams.{state}
use Rattle.cqlp_decode.specs.Draining.{Feeds, InReads, HasAll, Passes, ReadsInTime}
use Rattle.cqlp_decode.proofs.running.run.Given as goal

-- what was read was used, and the sink has got its events
abbrev pub invariant-loop-turn : goal.invariant-loop-turn
invariant-loop-turn g l = record {
  long : length l.buffer ≡ 4096;
  rules : (state l.decoder).rules ≡ (state l.fn.decoder).rules;
  given : (state l.decoder).given ≡ (state l.fn.decoder).given;
  failures : g.R.Source.failures l.reader ≡ g.R.Source.failures l.fn.reader;
  counted : CountsUp l.turn (g.R.Source.reads l.fn.reader) (g.R.Source.reads l.reader);
  asked : CountsUp (4096 * l.turn) (g.R.Source.asked l.fn.reader) (g.R.Source.asked l.reader);
  gives : (xs : List ℕ) → g.R.Source.left l.fn.reader ≡ Some xs → InReads l.turn xs (g.R.Source.left l.reader);
  reports : g.S.Sink.reports l.fn.sink → g.S.Sink.reports l.sink;
  also : Passes g.S.Sink.also l.fn.sink l.sink;
  in_time : (xs : List ℕ) → g.R.Source.left l.fn.reader ≡ Some xs → g.S.Sink.reports l.fn.sink
      → ReadsInTime g.S.Sink.after g.S.Sink.faulted l.fn.turns outcome.Turns (state l.fn.decoder) (state l.decoder) xs (g.R.Source.reads l.fn.reader) (g.R.Source.reads l.reader) (g.R.Source.left l.reader) (g.S.Sink.view l.fn.sink) (g.S.Sink.view l.sink);
  waits : (state l.decoder).refusal ≡ None;
  unrefused : (r : Refusal) → (state l.fn.decoder).refusal ≡ Some r → ⊥;
  fed : (xs : List ℕ) → g.R.Source.left l.fn.reader ≡ Some xs → g.S.Sink.reports l.fn.sink
      → (d : Feeds g.S.Sink.after (state l.fn.decoder) (state l.decoder) xs (g.S.Sink.view l.fn.sink) (g.S.Sink.view l.sink)) × (g.R.Source.left l.reader ≡ Some d.rest) × (l.turn ≤ length d.bytes) × HasAll g.S.Sink.after (state l.fn.decoder) (state l.decoder) xs (g.R.Source.left l.reader) (g.S.Sink.view l.fn.sink) (g.S.Sink.view l.sink) d;
}
