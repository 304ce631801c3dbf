use Rattle.std.proofs.Common.{◌≡◌, ◌-◌, length}
use Rattle.std.specs.Prelude.{Ok, Some}
use Rattle.cqlp_note.specs.declared.refusal.Refusal.{Refusal}
use Rattle.cqlp_decode.specs.Sinks.{Gets}
use Rattle.cqlp_decode.specs.Streams.{state}
use Rattle.cqlp_decode.specs.Cells.{HandsOut, StaysWithin}
use Rattle.cqlp_decode.proofs.decoder.Decoder.take_cells.Given as goal

-- the sink has got the events of what is used; after a refusal there are none
abbrev pub invariant-turns : goal.invariant-turns
invariant-turns g l = record {
  stays : StaysWithin (state l.fn.self) l.input (Ok l.used) (state l.self);
  refused : (r : Refusal) → (state l.fn.self).refusal ≡ Some r → (state l.self ≡ state l.fn.self) × (l.sink ≡ l.fn.sink) × (l.used ≡ 0);
  drained : HandsOut (Gets g.S.Sink) (state l.fn.self) (state l.self) l.input l.used l.fn.sink l.sink;
}

-- a turn takes some byte, or is the last
abbrev pub decreases-turns : goal.decreases-turns
decreases-turns g l = length l.input - l.used
