use Rattle.std.proofs.Common.{◌+◌, take, arith, ap, ◌∙◌}
use Rattle.cqlp_text.proofs.Writing.{front_of}
use Rattle.cqlp_text.proofs.ItemText.{waits_as}
use Rattle.cqlp_text.proofs.buffered.BufferedPen.takes_item.Goals as goal

pub place_item-len-requires : goal.place_item-len-requires
place_item-len-requires g c = omega (arith, c.len.ensures, c.deref_mut.ensures.len, c.self.invariant)

pub returns-clause-taken : goal.returns-clause-taken
returns-clause-taken g c = λ _.
    rw (← c.self.view_is) (waits_as _ _ c.self.inside.buffer.items _ _ c.self.inside.len c.place_item-len.result
    (ap (take (c.self.inside.len + c.place_item-len.result)) (front_of c.place_item-len.new.buffer _ c.self.inside.buffer.len (c.place_item-len.auto.buffer ∙ c.deref_mut.ensures.len)) ∙ rw c.deref_mut.ensures.value at c.place_item-len.ensures.placed))
