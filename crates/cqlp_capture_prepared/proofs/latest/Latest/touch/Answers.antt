use Rattle.std.proofs.Common.{refl, sym}
use Rattle.cqlp_capture_prepared.proofs.Places.{not_placed, placed}
use Rattle.cqlp_capture_prepared.proofs.latest.Latest.touch.Goals as goal

pub returns-in-Some : goal.returns-in-Some
returns-in-Some g c =
    let at = rw (← c.self.view_is) at (sym c.in-Some.ensures) in
    let is = placed (g.K.PartialEq.eq c.args.key.now) c.self.inside.entries.items c.in-Some.at c.remove-entry.result at in
    let entry = rw (← c.remove-entry.ensures.value) at is.entry in
    rw (c.push_front.ensures, ← c.self.view_is, entry, is.others, c.remove-entry.ensures.items) refl

pub returns-in-None : goal.returns-in-None
returns-in-None g c =
    let none = (not_placed (g.K.PartialEq.eq c.args.key.now) c.args.self.now.entries (sym c.in-None.ensures)).entry in
    rw none refl
