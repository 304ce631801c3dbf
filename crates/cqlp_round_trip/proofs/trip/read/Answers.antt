use Rattle.std.proofs.Common.{ap, Some, arith}
use Rattle.cqlp_decode.specs.Streams.{state}
use Rattle.cqlp_round_trip.proofs.Back.{reads_all, fails_reading, no_turns}
use Rattle.cqlp_round_trip.proofs.trip.read.Goals as goal

pub returns-in-Finished : goal.returns-in-Finished
returns-in-Finished g c = λ limits fresh reports.
    reads_all g.S.Sink.after g.S.Sink.faulted limits c.args.decoder.now (state c.run.new.decoder) 18446744073709551615 c.args.bytes.now _ _ _ fresh c.in-Finished.ensures.rules c.in-Finished.ensures.given c.in-Finished.finish _ _
    (rw c.new-source.ensures at c.in-Finished.ensures.reads) (c.in-Finished.ensures.runs c.args.bytes.now (ap Some c.new-source.ensures) reports)

pub returns-in-SinkFault : goal.returns-in-SinkFault
returns-in-SinkFault g c = λ limits fresh reports.
    fails_reading g.S.Sink.after g.S.Sink.faulted limits c.args.decoder.now (state c.run.new.decoder) 0 c.args.bytes.now _ _ _ fresh c.in-SinkFault.ensures.rules c.in-SinkFault.ensures.given
    (c.in-SinkFault.ensures.runs c.args.bytes.now (ap Some c.new-source.ensures) reports)

pub returns-in-Turns : goal.returns-in-Turns
returns-in-Turns g c = λ limits fresh reports.
    absurd (no_turns g.S.Sink.after g.S.Sink.faulted limits c.args.decoder.now (state c.run.new.decoder) _ c.args.bytes.now _ _ _ fresh c.in-Turns.ensures.rules c.in-Turns.ensures.given
    (c.in-Turns.ensures.runs c.args.bytes.now (ap Some c.new-source.ensures) reports) (omega (arith, c.requires)))
