use Rattle.std.proofs.Common.{◌+◌, ◌≤◌, length, decimal, arith, ◌∙◌}
use Rattle.std.proofs.lemmas.Fmt.{length-decimal-le}
use Rattle.cqlp_text.proofs.Writing.{front_of}
use Rattle.cqlp_text.proofs.Waiting.{waits}
use Rattle.cqlp_text.proofs.buffered.BufferedPen.put_number.Goals as goal

pub place_number-len-requires : goal.place_number-len-requires
place_number-len-requires g c =
    omega (arith, c.len.ensures, c.deref_mut.ensures.len, c.self.invariant, length-decimal-le 20 c.args.number (omega arith) (omega arith) c.ranges.number.fits)

pub returns : goal.returns
returns g c =
    let short : length (decimal c.args.number) ≤ 20 = length-decimal-le 20 c.args.number (omega arith) (omega arith) c.ranges.number.fits in
    let fits : c.self.inside.len + c.place_number-len.result ≤ length c.self.inside.buffer.items = omega (arith, c.len.ensures, c.self.invariant, c.place_number-len.ensures.len, short) in
    rw (← c.self.view_is) (waits _ _ c.self.inside.buffer.items _ _ c.self.inside.len c.place_number-len.result fits c.place_number-len.ensures.len (front_of c.place_number-len.new.buffer _ c.self.inside.buffer.len (c.place_number-len.auto.buffer ∙ c.deref_mut.ensures.len) ∙ rw c.deref_mut.ensures.value at c.place_number-len.ensures.placed))
