use Rattle.std.proofs.Common.{arith, refl, ◌∙◌}
use Rattle.cqlp_text.proofs.Writing.{front_of}
use Rattle.cqlp_text.proofs.Waiting.{waits_alone}
use Rattle.cqlp_text.proofs.buffered.Buffered.restart.Goals as goal

pub returns : goal.returns
returns g c =
    let none = rw (← c.self.view_is) at c.requires in
    rw (← c.self.view_is) (waits_alone _ _ _ c.self.inside.buffer.items _ c.args.bytes.now _ none (omega (arith, c.len.ensures)) refl (front_of c.place.new.buffer _ c.self.inside.buffer.len (c.place.auto.buffer ∙ c.deref_mut.ensures.len) ∙ rw c.deref_mut.ensures.value at c.place.ensures))
