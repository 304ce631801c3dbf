use Rattle.std.proofs.Common.{rules, refl}
use Rattle.cqlp_c.proofs.slots.SlotsSink.take.Goals as goal

pub returns-then-self-events-2-clause-also : goal.returns-then-self-events-2-clause-also
returns-then-self-events-2-clause-also c = λ room.
    let t = c.write_in.ensures in
    record { written = c.write_in.new.slot; writes = t; origin = refl; events = search rules; count = search rules; same = search rules; frame = c.note.ensures c.args.at t.0 t.2 }

pub returns-else-self-events-2-clause-also : goal.returns-else-self-events-2-clause-also
returns-else-self-events-2-clause-also c = λ room.
    let t = c.write_in.ensures in
    record { written = c.write_in.new.slot; writes = t; origin = refl; events = search rules; count = search rules; same = search rules; frame = c.note.ensures c.args.at t.0 t.2 }
