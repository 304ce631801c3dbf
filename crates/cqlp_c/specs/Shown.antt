-- What calls take from C and give to it, beside events.
use Rattle.std.specs.Prelude.{not, ◌==◌}
use Rattle.cqlp_note.specs.declared.limits.Limits.{Limits}
use Rattle.cqlp_grammar.specs.declared.event.Finish.{Finish}
use Rattle.cqlp_grammar.specs.declared.event.Finish.TheVariants as finish
use Rattle.cqlp_decode.specs.declared.step.Held.{Held}
use Rattle.cqlp_c.specs.declared.batch.Batch.{Batch}
use Rattle.cqlp_c.specs.declared.batch.Stop.{Stop}
use Rattle.cqlp_c.specs.declared.batch.Stop.TheVariants as stop
use Rattle.cqlp_c.specs.declared.shown.CqlpLimits.{CqlpLimits}
use Rattle.cqlp_c.specs.declared.shown.CqlpBatch.{CqlpBatch}
use Rattle.cqlp_c.specs.declared.shown.CqlpEnd.{CqlpEnd}
use Rattle.cqlp_c.specs.declared.shown.CqlpHeld.{CqlpHeld}
use Rattle.cqlp_c.specs.declared.numbers.TheConstants as numbers
use Rattle.cqlp_c.specs.Numbers.{number_of_reason}

-- a flag is set by anything but 0
abbrev pub limits_of : CqlpLimits → Limits
limits_of l = record {
  text = l.text;
  cell = l.cell;
  entries = l.entries;
  depth = l.depth;
  types = not (l.types == 0);
  parts = not (l.parts == 0);
}

abbrev pub batch_with : Batch → Stop → CqlpBatch
batch_with b stop.More =
    record { used = b.used; events = b.events; at = 0; stop = numbers.STOP_MORE; reason = 0 }
batch_with b stop.Full =
    record { used = b.used; events = b.events; at = 0; stop = numbers.STOP_FULL; reason = 0 }
batch_with b (stop.Refused r) = record {
  used = b.used;
  events = b.events;
  at = r.at;
  stop = numbers.STOP_REFUSED;
  reason = number_of_reason r.why;
}

abbrev pub batch_of : Batch → CqlpBatch
batch_of b = batch_with b b.stop

abbrev pub end_of : Finish → CqlpEnd
end_of (finish.Whole bytes) = record { at = 0; bytes = bytes; verdict = numbers.END_WHOLE; reason = 0 }
end_of (finish.Cut frame_at bytes) =
    record { at = frame_at; bytes = bytes; verdict = numbers.END_CUT; reason = 0 }
end_of (finish.Refused r) =
    record { at = r.at; bytes = 0; verdict = numbers.END_REFUSED; reason = number_of_reason r.why }

abbrev pub held_of : Held → CqlpHeld
held_of h = record { bytes = h.bytes; entries = h.entries; levels = h.levels }
