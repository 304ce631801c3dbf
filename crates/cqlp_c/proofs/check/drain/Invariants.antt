use Rattle.std.proofs.Common.{◌≡◌, ◌+◌, ◌-◌, ◌*◌, ◌≤◌, List, ℕ, [], length, take}
use Rattle.cqlp_decode.specs.Reading.{Event}
use Rattle.cqlp_decode.specs.Streams.{After, state}
use Rattle.cqlp_c.specs.Batches.{due}
use Rattle.cqlp_c.proofs.check.drain.Given as goal

-- the decoder has used this many bytes of the stream, and refused none of them
abbrev pub invariant-batches : goal.invariant-batches
invariant-batches l = record {
  within : l.used ≤ length l.stream;
  long : length l.events ≡ 64;
  rules : (state l.decoder).rules ≡ (state l.fn.decoder).rules;
  same : (state l.decoder).refusal ≡ (state l.fn.decoder).refusal;
  conforms : After (state l.fn.decoder) [] [] → (es : List (ℕ × Event)) × After (state l.decoder) (take l.used l.stream) es;
}

abbrev pub decreases-batches : goal.decreases-batches
decreases-batches l = due (state l.decoder) + 2 * (length l.stream - l.used)
