use Rattle.cqlp_decode.specs.Streams.{state}
use Rattle.cqlp_decode.specs.Sinks.{Gets, Fails}
use Rattle.cqlp_decode.proofs.Gets.{rest_is}
use Rattle.cqlp_decode.proofs.Taken.{hands_then, fails_then}
use Rattle.cqlp_decode.proofs.decoder.Decoder.hand_whole.Goals as goal

pub returns-in-Err-take_cells-clause-drains : goal.returns-in-Err-take_cells-clause-drains
returns-in-Err-take_cells-clause-drains g c =
    let mid = state c.take_fields.new.self in
    let more = rw rest_is at c.in-Err-take_cells.ensures.drains in
    fails_then (Gets g.S.Sink) (Fails g.S.Sink) (state c.args.self.now) mid (state c.take_cells.new.self) c.args.input.now c.in-Ok.used c.in-Err-take_cells.fault.used _ _ _ c.in-Ok.ensures.drains more

pub returns-clause-drains : goal.returns-clause-drains
returns-clause-drains g c =
    let mid = state c.take_fields.new.self in
    let more = rw rest_is at c.in-Ok-take_cells.ensures.drains in
    hands_then (Gets g.S.Sink) (state c.args.self.now) mid (state c.take_cells.new.self) c.args.input.now c.in-Ok.used c.in-Ok-take_cells.more _ _ _ c.in-Ok.ensures.drains more
