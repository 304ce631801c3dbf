use Rattle.std.proofs.Common.{refl}
use Rattle.cqlp_decode.specs.Progress.{IsFresh, parts}
use Rattle.cqlp_decode.proofs.decoder.Decoder.restart.Goals as goal

pub invariant_of-self : goal.invariant_of-self
invariant_of-self g c =
    let q = parts c.stop.new.self c.stop-2.new.self c.stop-3.new.self c.clear.new.self c.take.new.self in
    let before = c.self.invariant.parts in
    let fresh : IsFresh q = record {
      idle = record { field = rw c.stop.ensures refl; types = rw c.stop-2.ensures refl; cells = rw c.stop-3.ensures refl };
      quiet = record { types = λ _. rw c.stop-2.ensures refl; cells = λ _. rw c.stop-3.ensures refl };
      types = rw c.clear.ensures refl;
      given = c.take.ensures.after;
    } in
    c.new-self-inside.ensures.lawful q fresh
    (rw c.new-self-inside.ensures.limits (record { room = rw c.stop.ensures before.room; rules = rw c.stop-2.ensures before.rules; cells = rw c.stop-3.ensures before.cells; table = rw c.clear.ensures before.table; few = before.few }))
