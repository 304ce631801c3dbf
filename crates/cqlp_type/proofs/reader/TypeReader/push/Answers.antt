use Rattle.std.proofs.Common.{refl}
use Rattle.cqlp_type.proofs.Pushes.{waits_pushes, item_pushes, done_pushes, refused_pushes}
use Rattle.cqlp_type.proofs.reader.TypeReader.push.Goals as goal

pub returns-in-More : goal.returns-in-More
returns-in-More g c =
    let r = waits_pushes c.args.reader.now c.args.partial.now c.args.table.now c.args.input.now c.advance.new.self c.advance.new.partial c.advance.new.table c.in-More.used c.requires.under_way c.in-More.ensures.leaves c.in-More.ensures.is in
    ((refl, λ _. tt, r.0), record { uses = r.1; reader = r.2; table = r.3; next = tt })

pub returns-in-Item : goal.returns-in-Item
returns-in-Item g c =
    let r = item_pushes c.args.reader.now c.args.partial.now c.args.table.now c.args.input.now c.advance.new.self c.advance.new.partial c.advance.new.table c.in-Item.at c.in-Item.used c.in-Item.item c.lend.result c.lend.ensures c.in-Item.ensures.leaves c.in-Item.ensures.is in
    ((refl, λ _. tt, r.0), record { uses = r.1; reader = r.2; table = r.3; next = tt })

pub returns-in-Done : goal.returns-in-Done
returns-in-Done g c =
    let r = done_pushes c.args.reader.now c.args.partial.now c.args.table.now c.args.input.now c.advance.new.self c.advance.new.partial c.advance.new.table c.requires.shared c.in-Done.ensures.leaves c.in-Done.ensures.is in
    ((refl, λ _. tt, r.0), record { uses = r.1; reader = r.2; table = r.3; next = tt })

pub returns-in-Refused : goal.returns-in-Refused
returns-in-Refused g c =
    let r = refused_pushes c.args.reader.now c.args.partial.now c.args.table.now c.args.input.now c.advance.new.self c.advance.new.partial c.advance.new.table c.in-Refused.refusal c.in-Refused.ensures.is in
    ((refl, λ _. tt, r.0), record { uses = r.1; reader = r.2; table = r.3; next = tt })
