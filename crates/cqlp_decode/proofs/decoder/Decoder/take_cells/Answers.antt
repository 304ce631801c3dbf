use Rattle.std.proofs.Common.{◌≡◌, Ok, ap, ◌∙◌, arith}
use Rattle.std.proofs.lemmas.List.{length-drop}
use Rattle.cqlp_decode.specs.Progress.{StreamState}
use Rattle.cqlp_decode.specs.Streams.{state}
use Rattle.cqlp_decode.specs.Sinks.{Gets, Fails}
use Rattle.cqlp_decode.proofs.Gets.{rest_is}
use Rattle.cqlp_decode.proofs.Taken.{hands_then, fails_then}
use Rattle.cqlp_decode.proofs.decoder.Decoder.take_cells.Goals as goal

pub returns-in-Err-take_turn-clause-drains : goal.returns-in-Err-take_turn-clause-drains
returns-in-Err-take_turn-clause-drains g c =
    let i = c.turns.invariant in
    let more = rw rest_is at c.in-Err-take_turn.ensures.drains in
    fails_then (Gets g.S.Sink) (Fails g.S.Sink) (state c.args.self.now) (state c.turns.self) (state c.take_turn.new.self) c.args.input.now c.turns.used c.in-Err-take_turn.fault.used _ _ _ i.drained more

pub returns-then-more-eq0-clause-drains : goal.returns-then-more-eq0-clause-drains
returns-then-more-eq0-clause-drains g c =
    let i = c.turns.invariant in
    let more = rw rest_is at c.in-Ok-take_turn.ensures.drains in
    hands_then (Gets g.S.Sink) (state c.args.self.now) (state c.turns.self) (state c.take_turn.new.self) c.args.input.now c.turns.used c.in-Ok-take_turn.more _ _ _ i.drained more

pub turns-preserved : goal.turns-preserved
turns-preserved g c =
    let i = c.turns.invariant in
    let u = c.turns.used in
    let m = c.in-Ok-take_turn in
    let input = c.args.input.now in
    let w = rw rest_is at m.ensures.stays in
    record {
      stays = ((omega (arith, i.stays.0.0, w.0.0, length-drop u input), omega (arith, i.stays.0.1, w.0.1)), w.1 ∙ i.stays.1, w.2 ∙ i.stays.2, w.3 ∙ i.stays.3);
      refused = λ r e.
          let was = i.refused r e in
          let now = m.ensures.refused r (ap (λ (z : StreamState). z.refusal) was.0 ∙ e) in
          (now.0 ∙ was.0, now.1 ∙ was.1, (let none : Ok m.more ≡ Ok 0 = now.2 in let more : m.more ≡ 0 = cc in omega (arith, was.2, more)));
      drained = hands_then (Gets g.S.Sink) (state c.args.self.now) (state c.turns.self) (state c.take_turn.new.self) input u m.more _ _ _ i.drained (rw rest_is at m.ensures.drains);
    }
