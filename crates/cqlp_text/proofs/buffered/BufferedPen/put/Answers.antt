use Rattle.std.proofs.Common.{arith, refl, ◌∙◌}
use Rattle.cqlp_text.proofs.Writing.{front_of}
use Rattle.cqlp_text.proofs.Waiting.{waits}
use Rattle.cqlp_text.proofs.buffered.BufferedPen.put.Goals as goal

pub returns : goal.returns
returns g c = rw (← c.self.view_is) (waits _ _ c.self.inside.buffer.items _ c.args.bytes.now c.self.inside.len _ (omega (arith, c.len.ensures, c.self.invariant)) refl (front_of c.place.new.buffer _ c.self.inside.buffer.len (c.place.auto.buffer ∙ c.deref_mut.ensures.len) ∙ rw c.deref_mut.ensures.value at c.place.ensures))
