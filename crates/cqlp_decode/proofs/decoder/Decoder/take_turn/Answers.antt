use Rattle.cqlp_decode.specs.Streams.{state}
use Rattle.cqlp_decode.specs.Sinks.{Gets, Fails}
use Rattle.cqlp_decode.proofs.Gets.{rest_is}
use Rattle.cqlp_decode.proofs.Taken.{hands_then, fails_then}
use Rattle.cqlp_decode.proofs.decoder.Decoder.take_turn.Goals as goal

pub returns-in-Err-take_scalars-clause-drains : goal.returns-in-Err-take_scalars-clause-drains
returns-in-Err-take_scalars-clause-drains g c =
    let mid = state c.take_nested.new.self in
    let more = rw rest_is at c.in-Err-take_scalars.ensures.drains in
    fails_then (Gets g.S.Sink) (Fails g.S.Sink) (state c.args.self.now) mid (state c.take_scalars.new.self) c.args.input.now c.in-Ok.used c.in-Err-take_scalars.fault.used _ _ _ c.in-Ok.ensures.drains more

pub returns-clause-drains : goal.returns-clause-drains
returns-clause-drains g c =
    let mid = state c.take_nested.new.self in
    let more = rw rest_is at c.in-Ok-take_scalars.ensures.drains in
    hands_then (Gets g.S.Sink) (state c.args.self.now) mid (state c.take_scalars.new.self) c.args.input.now c.in-Ok.used c.in-Ok-take_scalars.more _ _ _ c.in-Ok.ensures.drains more
