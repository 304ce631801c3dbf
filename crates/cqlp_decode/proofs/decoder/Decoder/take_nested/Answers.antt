use Rattle.cqlp_decode.specs.Progress.{state_with}
use Rattle.cqlp_decode.specs.Sinks.{Gets, Fails}
use Rattle.cqlp_decode.proofs.Gets.{rest_is}
use Rattle.cqlp_decode.proofs.Taken.{hands_then, fails_then}
use Rattle.cqlp_decode.proofs.decoder.Decoder.take_nested.Goals as goal

pub returns-in-Err-clause-drains : goal.returns-in-Err-clause-drains
returns-in-Err-clause-drains g c = rw (← c.self.view_is) c.in-Err.ensures.drains

pub returns-in-Err-take_items-clause-drains : goal.returns-in-Err-take_items-clause-drains
returns-in-Err-take_items-clause-drains g c = rw (← c.self.view_is) (
    let old = state_with c.self.inside.progress c.self.inside.parts in
    let mid = state_with c.take_lists.new.progress c.take_lists.new.parts in
    let more = rw rest_is at c.in-Err-take_items.ensures.drains in
    fails_then (Gets g.S.Sink) (Fails g.S.Sink) old mid (state_with c.take_items.new.progress c.take_items.new.parts) c.args.input.now c.in-Ok.used c.in-Err-take_items.fault.used _ _ _ c.in-Ok.ensures.drains more)

pub returns-clause-drains : goal.returns-clause-drains
returns-clause-drains g c = rw (← c.self.view_is) (
    let old = state_with c.self.inside.progress c.self.inside.parts in
    let mid = state_with c.take_lists.new.progress c.take_lists.new.parts in
    let more = rw rest_is at c.in-Ok-take_items.ensures.drains in
    hands_then (Gets g.S.Sink) old mid (state_with c.take_items.new.progress c.take_items.new.parts) c.args.input.now c.in-Ok.used c.in-Ok-take_items.more _ _ _ c.in-Ok.ensures.drains more)
