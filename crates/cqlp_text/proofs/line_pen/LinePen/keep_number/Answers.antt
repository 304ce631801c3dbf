use Rattle.std.proofs.Common.{◌≤◌, ◌+◌, length, ap, arith}
use Rattle.std.proofs.lemmas.Fmt.{length-decimal-le}
use Rattle.cqlp_text.specs.Written.{buffered}
use Rattle.cqlp_text.proofs.Placed.{kept}
use Rattle.cqlp_text.proofs.Writing.{room_left}
use Rattle.cqlp_text.proofs.line_pen.LinePen.keep_number.Goals as goal

pub place_number-len-requires : goal.place_number-len-requires
place_number-len-requires g c =
    let s = c.self.inside in
    let room = room_left s.buffer s.len 20 128 c.self.invariant.0 c.self.invariant.1 (rw (← c.self.view_is) at c.requires) in
    omega (arith, room, length-decimal-le 20 c.args.number (omega arith) (omega arith) c.ranges.number.fits)

pub returns : goal.returns
returns g c =
    let s = c.self.inside in
    let w = c.place_number-len.ensures in
    let room = room_left s.buffer s.len 20 128 c.self.invariant.0 c.self.invariant.1 (rw (← c.self.view_is) at c.requires) in
    let fits : s.len + c.place_number-len.result ≤ length s.buffer = omega (arith, room, w.len, length-decimal-le 20 c.args.number (omega arith) (omega arith) c.ranges.number.fits) in
    rw (← c.self.view_is) (ap (λ t. buffered g.W.Target s.target.now t s.target.ghost_name) (kept s.buffer c.place_number-len.new.buffer _ s.len c.place_number-len.result w.len fits w.placed))
