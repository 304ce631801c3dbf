use Rattle.std.proofs.Common.{sym, ◌∙◌, arith}
use Rattle.cqlp_decode.specs.Progress.{parts_state}
use Rattle.cqlp_decode.proofs.CellSteps.{nothing_held}
use Rattle.cqlp_decode.proofs.FieldLoop.{alone_inside, alone_lawful, alone_takes}
use Rattle.cqlp_decode.proofs.progress.StreamProgress.hand_alone.Goals as goal

pub overflow_add-self : goal.overflow_add-self
overflow_add-self g c =
    let q = parts_state c.args.parts.now in
    let idle = sym c.is_under_way.ensures ∙ c.if-is_under_way.false in
    let empty = nothing_held q.partial.content (omega (arith, c.if-held-gt0.false, c.held.ensures.is)) in
    let has = c.in-Taken.ensures.hands in
    let inside = alone_inside c.args.self.now q c.args.want c.requires.here c.requires.alone c.requires.lawful c.requires.unrefused idle empty c.args.input.now c.in-Taken.used has.value has.says in
    let bound = c.requires.lawful.bounded.bound in
    omega arith

pub returns-in-Taken-clause-lawful : goal.returns-in-Taken-clause-lawful
returns-in-Taken-clause-lawful g c =
    let q = parts_state c.args.parts.now in
    let idle = sym c.is_under_way.ensures ∙ c.if-is_under_way.false in
    let empty = nothing_held q.partial.content (omega (arith, c.if-held-gt0.false, c.held.ensures.is)) in
    let has = c.in-Taken.ensures.hands in
    alone_lawful c.args.self.now q c.args.want c.requires.here c.requires.alone c.requires.lawful c.requires.unrefused idle empty c.args.input.now c.in-Taken.used has.value has.says c.expect_next.new.self c.expect_next.ensures.rest (c.expect_next.ensures.symbols q) c.expect_next.ensures.room

pub returns-in-Taken-clause-hands : goal.returns-in-Taken-clause-hands
returns-in-Taken-clause-hands g c =
    let q = parts_state c.args.parts.now in
    let idle = sym c.is_under_way.ensures ∙ c.if-is_under_way.false in
    let empty = nothing_held q.partial.content (omega (arith, c.if-held-gt0.false, c.held.ensures.is)) in
    let has = c.in-Taken.ensures.hands in
    alone_takes c.args.self.now q c.args.want c.requires.here c.requires.alone c.requires.lawful c.requires.unrefused idle empty c.args.input.now c.in-Taken.used has.value has.says c.expect_next.new.self c.expect_next.ensures.rest (c.expect_next.ensures.symbols q) c.expect_next.ensures.room _ has.emitted

pub overflow_add-self-in-Fault : goal.overflow_add-self-in-Fault
overflow_add-self-in-Fault g c =
    let q = parts_state c.args.parts.now in
    let idle = sym c.is_under_way.ensures ∙ c.if-is_under_way.false in
    let empty = nothing_held q.partial.content (omega (arith, c.if-held-gt0.false, c.held.ensures.is)) in
    let has = c.in-Fault.ensures.hands in
    let inside = alone_inside c.args.self.now q c.args.want c.requires.here c.requires.alone c.requires.lawful c.requires.unrefused idle empty c.args.input.now c.in-Fault.used has.value has.says in
    let bound = c.requires.lawful.bounded.bound in
    omega arith

pub returns-in-Fault-clause-lawful : goal.returns-in-Fault-clause-lawful
returns-in-Fault-clause-lawful g c =
    let q = parts_state c.args.parts.now in
    let idle = sym c.is_under_way.ensures ∙ c.if-is_under_way.false in
    let empty = nothing_held q.partial.content (omega (arith, c.if-held-gt0.false, c.held.ensures.is)) in
    let has = c.in-Fault.ensures.hands in
    alone_lawful c.args.self.now q c.args.want c.requires.here c.requires.alone c.requires.lawful c.requires.unrefused idle empty c.args.input.now c.in-Fault.used has.value has.says c.expect_next-in-Fault.new.self c.expect_next-in-Fault.ensures.rest (c.expect_next-in-Fault.ensures.symbols q) c.expect_next-in-Fault.ensures.room

pub returns-in-Fault-clause-hands : goal.returns-in-Fault-clause-hands
returns-in-Fault-clause-hands g c =
    let q = parts_state c.args.parts.now in
    let idle = sym c.is_under_way.ensures ∙ c.if-is_under_way.false in
    let empty = nothing_held q.partial.content (omega (arith, c.if-held-gt0.false, c.held.ensures.is)) in
    let has = c.in-Fault.ensures.hands in
    alone_takes c.args.self.now q c.args.want c.requires.here c.requires.alone c.requires.lawful c.requires.unrefused idle empty c.args.input.now c.in-Fault.used has.value has.says c.expect_next-in-Fault.new.self c.expect_next-in-Fault.ensures.rest (c.expect_next-in-Fault.ensures.symbols q) c.expect_next-in-Fault.ensures.room _ has.emitted
