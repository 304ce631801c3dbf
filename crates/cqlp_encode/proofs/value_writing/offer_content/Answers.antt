use Rattle.std.proofs.Common.{◌≤◌, length, refl, arith}
use Rattle.cqlp_note.specs.Outputs.{written}
use Rattle.cqlp_value.specs.Owned.{value_of}
use Rattle.cqlp_value.specs.Values.{values_size}
use Rattle.cqlp_encode.specs.Binding.{content_written}
use Rattle.cqlp_encode.proofs.Bindings.{content_size}
use Rattle.cqlp_encode.proofs.Continuing.{anew}
use Rattle.cqlp_encode.proofs.FramesTaken.{value_sent, value_offered}
use Rattle.cqlp_encode.proofs.value_writing.offer_content.Goals as goal

pub overflow_cast-result : goal.overflow_cast-result
overflow_cast-result g c =
    let value = rw c.new-out.ensures at c.put_inside.ensures in
    let long : length (content_written (value_of c.args.value.now)) ≤ values_size (value_of c.args.value.now) = omega (arith, content_size c.args.value.now) in
    let sent = value_sent (written g.W.Target) g.W.Target.writes c.args.target.now c.into_inner.result.now c.into_inner.result.now _ _ _ _ _ _ c.requires long value c.flush.ensures c.into_inner.ensures.output (λ e. refl) in
    omega (arith, sent.1, c.taken-taken.ensures)

pub returns : goal.returns
returns g c =
    let value = rw c.new-out.ensures at c.put_inside.ensures in
    let long : length (content_written (value_of c.args.value.now)) ≤ values_size (value_of c.args.value.now) = omega (arith, content_size c.args.value.now) in
    rw c.taken-taken.ensures (anew _ _ _ _ (value_offered (written g.W.Target) g.W.Target.writes c.args.target.now c.into_inner.result.now _ _ _ _ _ _ _ c.requires long value c.flush.ensures c.into_inner.ensures.output (λ e. grind arith)))
