use Rattle.std.proofs.Common.{◌-◌, refl, ap, arith}
use Rattle.cqlp_note.specs.Limits.{rules_asked}
use Rattle.cqlp_decode.specs.declared.progress.StreamProgress.{StreamProgress}
use Rattle.cqlp_decode.specs.Reading as reading
use Rattle.cqlp_decode.specs.Progress.{state_of}
use Rattle.cqlp_decode.proofs.Steps.{extra_hands}
use Rattle.cqlp_decode.proofs.FieldLoop.{takes_one}
use Rattle.cqlp_decode.proofs.progress.StreamProgress.hand_end.Goals as goal

pub returns-in-Ok-clause-hands : goal.returns-in-Ok-clause-hands
returns-in-Ok-clause-hands g c = λ q idle.
    let s = c.args.self.now in
    let new = c.end_frame.new.self in
    let missing = s.stop - s.offset - s.came in
    let moves = extra_hands s new q c.args.input.now missing c.end_frame.ensures c.requires.here c.requires.bounded.inside c.requires.came (omega (arith, c.if-input-missing.false)) (omega (arith, c.requires.came)) in
    takes_one (state_of s q) (state_of new q) c.args.input.now s.stop missing (reading.End (s.stop - s.offset)) (reading.End (s.stop - s.offset)) moves.1 refl (ap (λ (z : StreamProgress). z.refusal) c.end_frame.ensures) (ap (λ (z : StreamProgress). rules_asked z.limits) c.end_frame.ensures) refl _ (c.in-Ok.ensures.ok, c.in-Ok.ensures.also)

pub returns-in-Err-clause-hands : goal.returns-in-Err-clause-hands
returns-in-Err-clause-hands g c = λ q idle.
    let s = c.args.self.now in
    let new = c.end_frame.new.self in
    let missing = s.stop - s.offset - s.came in
    let moves = extra_hands s new q c.args.input.now missing c.end_frame.ensures c.requires.here c.requires.bounded.inside c.requires.came (omega (arith, c.if-input-missing.false)) (omega (arith, c.requires.came)) in
    takes_one (state_of s q) (state_of new q) c.args.input.now s.stop missing (reading.End (s.stop - s.offset)) (reading.End (s.stop - s.offset)) moves.1 refl (ap (λ (z : StreamProgress). z.refusal) c.end_frame.ensures) (ap (λ (z : StreamProgress). rules_asked z.limits) c.end_frame.ensures) refl _ (c.in-Err.ensures.err, c.in-Err.ensures.also)
