use Rattle.std.proofs.Common.{sym, ◌∙◌, arith}
use Rattle.cqlp_grammar.specs.Events.{event_of}
use Rattle.cqlp_decode.specs.Sinks.{Gets, Fails}
use Rattle.cqlp_decode.specs.Progress.{parts_state}
use Rattle.cqlp_decode.proofs.CellSteps.{nothing_held}
use Rattle.cqlp_decode.proofs.FieldLoop.{whole_inside, whole_lawful, whole_takes}
use Rattle.cqlp_decode.proofs.progress.StreamProgress.hand_field.Goals as goal

pub overflow_add-self : goal.overflow_add-self
overflow_add-self g c =
    let q = parts_state c.args.parts.now in
    let idle = sym c.is_under_way.ensures ∙ c.if-is_under_way.false in
    let empty = nothing_held q.partial.content (omega (arith, c.if-held-gt0.false, c.held.ensures.is)) in
    let says = rw c.limit_on-limit.ensures at c.in-Some.ensures in
    let inside = whole_inside c.args.self.now q c.args.want c.requires.here c.requires.lawful c.requires.unrefused idle empty c.args.input.now c.in-Some.whole.used _ says in
    let bound = c.requires.lawful.bounded.bound in
    omega arith

pub returns-in-Ok-clause-lawful : goal.returns-in-Ok-clause-lawful
returns-in-Ok-clause-lawful g c =
    let q = parts_state c.args.parts.now in
    let idle = sym c.is_under_way.ensures ∙ c.if-is_under_way.false in
    let empty = nothing_held q.partial.content (omega (arith, c.if-held-gt0.false, c.held.ensures.is)) in
    let says = rw c.limit_on-limit.ensures at c.in-Some.ensures in
    whole_lawful c.args.self.now q c.args.want c.requires.here c.requires.lawful c.requires.unrefused idle empty c.args.input.now c.in-Some.whole.used _ says c.begin_metadata.new.table c.follow.new.self c.begin_metadata.ensures c.follow.ensures.rest c.follow.ensures.goes_on c.follow.ensures.given

pub returns-in-Ok-clause-hands : goal.returns-in-Ok-clause-hands
returns-in-Ok-clause-hands g c =
    let q = parts_state c.args.parts.now in
    let idle = sym c.is_under_way.ensures ∙ c.if-is_under_way.false in
    let empty = nothing_held q.partial.content (omega (arith, c.if-held-gt0.false, c.held.ensures.is)) in
    let says = rw c.limit_on-limit.ensures at c.in-Some.ensures in
    let got : Gets g.S.Sink c.args.sink.now c.args.self.now.offset (event_of c.event_with.result) c.take.new.self = (c.in-Ok.ensures.ok, c.in-Ok.ensures.also) in
    let fine = sym c.fault_in.ensures ∙ c.in_default-fault_in.is in
    whole_takes c.args.self.now q c.args.want c.requires.here c.requires.lawful c.requires.unrefused idle empty c.args.input.now c.in-Some.whole.used _ says c.begin_metadata.new.table c.follow.new.self c.begin_metadata.ensures c.follow.ensures.rest c.follow.ensures.goes_on c.follow.ensures.given fine _ (rw c.event_with.ensures at got)

pub returns-in-Err-clause-lawful : goal.returns-in-Err-clause-lawful
returns-in-Err-clause-lawful g c =
    let q = parts_state c.args.parts.now in
    let idle = sym c.is_under_way.ensures ∙ c.if-is_under_way.false in
    let empty = nothing_held q.partial.content (omega (arith, c.if-held-gt0.false, c.held.ensures.is)) in
    let says = rw c.limit_on-limit.ensures at c.in-Some.ensures in
    whole_lawful c.args.self.now q c.args.want c.requires.here c.requires.lawful c.requires.unrefused idle empty c.args.input.now c.in-Some.whole.used _ says c.begin_metadata.new.table c.follow.new.self c.begin_metadata.ensures c.follow.ensures.rest c.follow.ensures.goes_on c.follow.ensures.given

pub returns-in-Err-clause-hands : goal.returns-in-Err-clause-hands
returns-in-Err-clause-hands g c =
    let q = parts_state c.args.parts.now in
    let idle = sym c.is_under_way.ensures ∙ c.if-is_under_way.false in
    let empty = nothing_held q.partial.content (omega (arith, c.if-held-gt0.false, c.held.ensures.is)) in
    let says = rw c.limit_on-limit.ensures at c.in-Some.ensures in
    let failed : Fails g.S.Sink c.args.sink.now c.args.self.now.offset (event_of c.event_with.result) c.take.new.self = (c.in-Err.ensures.err, c.in-Err.ensures.also) in
    let fine = sym c.fault_in.ensures ∙ c.in_default-fault_in.is in
    whole_takes c.args.self.now q c.args.want c.requires.here c.requires.lawful c.requires.unrefused idle empty c.args.input.now c.in-Some.whole.used _ says c.begin_metadata.new.table c.follow.new.self c.begin_metadata.ensures c.follow.ensures.rest c.follow.ensures.goes_on c.follow.ensures.given fine _ (rw c.event_with.ensures at failed)
