use Rattle.std.proofs.Common.{ap, sym, ◌∙◌, refl, arith}
use Rattle.cqlp_note.specs.Limits.{rules_asked}
use Rattle.cqlp_decode.specs.Reading as reading
use Rattle.cqlp_decode.specs.Progress.{state_of}
use Rattle.cqlp_decode.proofs.FieldLoop.{header_takes, takes_one}
use Rattle.cqlp_decode.proofs.progress.StreamProgress.hand_header.Goals as goal

pub returns-in-Ok-take-clause-hands : goal.returns-in-Ok-take-clause-hands
returns-in-Ok-take-clause-hands g c = λ q idle.
    let s = c.args.self.now in
    let r = rw c.read_array.ensures at c.in-Ok.ensures in
    let e = c.enter.ensures in
    let hands = header_takes s q c.args.input.now c.requires.here c.if-self.false c.requires.bounded.long (omega (arith, c.if-self-gt0.false)) (omega (arith, c.if-input-lt9.false)) c.enter.new.self c.in-Ok.header r.0 e.offset e.stop (e.symbols q) e.room e.frame.0 e.frame.1 e.given_use idle in
    takes_one (state_of s q) (state_of c.enter.new.self q) c.args.input.now s.offset 9 (reading.Frame c.in-Ok.header) (reading.Frame c.in-Ok.header) hands refl (e.rest.0 ∙ sym c.requires.unrefused) (ap rules_asked e.rest.1) refl _ (c.in-Ok-take.ensures.ok, c.in-Ok-take.ensures.also)

pub returns-in-Err-clause-hands : goal.returns-in-Err-clause-hands
returns-in-Err-clause-hands g c = λ q idle.
    let s = c.args.self.now in
    let r = rw c.read_array.ensures at c.in-Ok.ensures in
    let e = c.enter.ensures in
    let hands = header_takes s q c.args.input.now c.requires.here c.if-self.false c.requires.bounded.long (omega (arith, c.if-self-gt0.false)) (omega (arith, c.if-input-lt9.false)) c.enter.new.self c.in-Ok.header r.0 e.offset e.stop (e.symbols q) e.room e.frame.0 e.frame.1 e.given_use idle in
    takes_one (state_of s q) (state_of c.enter.new.self q) c.args.input.now s.offset 9 (reading.Frame c.in-Ok.header) (reading.Frame c.in-Ok.header) hands refl (e.rest.0 ∙ sym c.requires.unrefused) (ap rules_asked e.rest.1) refl _ (c.in-Err.ensures.err, c.in-Err.ensures.also)
