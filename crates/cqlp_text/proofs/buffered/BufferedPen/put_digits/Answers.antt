use Rattle.std.proofs.Common.{arith, ◌∙◌}
use Rattle.cqlp_text.proofs.Writing.{front_of}
use Rattle.cqlp_text.proofs.Waiting.{waits, length-digits}
use Rattle.cqlp_text.proofs.buffered.BufferedPen.put_digits.Goals as goal

pub returns : goal.returns
returns g c = rw (← c.self.view_is) (waits _ _ c.self.inside.buffer.items _ _ c.self.inside.len c.args.count (omega (arith, c.len.ensures, c.self.invariant)) (length-digits c.args.count c.args.number) (front_of c.place_digits.new.buffer _ c.self.inside.buffer.len (c.place_digits.auto.buffer ∙ c.deref_mut.ensures.len) ∙ rw c.deref_mut.ensures.value at c.place_digits.ensures))
