use Rattle.std.proofs.Common.{refl}
use Rattle.cqlp_capture.specs.declared.event.CaptureStep.TheVariants as answer
use Rattle.cqlp_capture.proofs.Calls.{answers, uses, more_answers, event_answers, refused_answers}
use Rattle.cqlp_capture.proofs.Moving.{rest_of}
use Rattle.cqlp_capture.proofs.reader.CaptureReader.next.Goals as goal

pub returns-in-More : goal.returns-in-More
returns-in-More g c =
    let old = c.args.self.now in
    let new = c.advance.new.self in
    let input = c.args.input.now in
    let x = answer.More c.in-More.used in
    let a = more_answers old new input old.refusal c.in-More.used c.in-More.ensures in
    ((refl, λ _. tt, answers old new input x a), record { next = tt; uses = uses old new input x a })

pub returns-in-Refused : goal.returns-in-Refused
returns-in-Refused g c =
    let old = c.args.self.now in
    let new = c.advance.new.self in
    let input = c.args.input.now in
    let x = answer.Refused c.in-Refused.refusal in
    let a = refused_answers old new input old.refusal c.in-Refused.refusal c.in-Refused.ensures in
    ((refl, λ _. tt, answers old new input x a), record { next = tt; uses = uses old new input x a })

pub returns-in-Event : goal.returns-in-Event
returns-in-Event g c =
    let old = c.args.self.now in
    let new = c.advance.new.self in
    let input = c.args.input.now in
    let e = c.in-Event in
    let x = answer.Event e.at e.used c.lend.result in
    let a = event_answers old new input old.refusal e.at e.from e.used e.what e.lies c.lend.result (rw (rest_of e.from input) at c.lend.ensures) e.ensures in
    ((refl, λ _. tt, answers old new input x a), record { next = tt; uses = uses old new input x a })
