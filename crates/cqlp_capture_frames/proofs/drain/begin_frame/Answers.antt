use Rattle.std.proofs.Common.{◌∙◌, ap}
use Rattle.cqlp_decode.specs.Streams.{state}
use Rattle.cqlp_capture_frames.proofs.Given.{new_given}
use Rattle.cqlp_capture_frames.proofs.drain.begin_frame.Goals as goal

pub returns-in-Some-clause-new : goal.returns-in-Some-clause-new
returns-in-Some-clause-new g c =
    let r = c.restart.ensures in
    rw c.in-Some.is (new_given (state c.restart.new.self) (state c.give.new.self) c.in-Some.table r.unrefused r.nothing_given r.fresh (λ e. (c.give.ensures.taken e).1) c.give.ensures.after (λ w e. ap state (c.give.ensures.refused w e).1)).0

pub returns-in-Some-clause-rules : goal.returns-in-Some-clause-rules
returns-in-Some-clause-rules g c =
    let r = c.restart.ensures in
    (new_given (state c.restart.new.self) (state c.give.new.self) c.in-Some.table r.unrefused r.nothing_given r.fresh (λ e. (c.give.ensures.taken e).1) c.give.ensures.after (λ w e. ap state (c.give.ensures.refused w e).1)).1 ∙ r.rules
