use Rattle.std.proofs.Common.{refl}
use Rattle.cqlp_cell.proofs.Leading.{is_over_done, is_not_done, more_pushes, item_lends, item_pushes, done_pushes, refused_pushes}
use Rattle.cqlp_cell.proofs.reader.CellReader.push.Goals as goal

pub lend-requires : goal.lend-requires
lend-requires g c =
    let r = c.requires in
    item_lends c.args.table.now.nodes c.args.reader.now c.args.partial.now c.args.input.now c.advance.new.self c.advance.new.partial r.under_way r.conforms r.joined _ _ _ c.in-Item.ensures.moves

pub returns-in-More : goal.returns-in-More
returns-in-More g c =
    let r = c.requires in
    let w = more_pushes c.args.table.now.nodes c.args.reader.now c.args.partial.now c.args.input.now c.advance.new.self c.advance.new.partial r.under_way r.conforms r.joined c.in-More.used c.in-More.ensures.moves in
    let a = c.in-More.ensures.answers in
    ((refl, λ _. tt, w.0), record { uses = (a.0, is_not_done c.args.reader.now a.1); reader = w.1; next = tt })

pub returns-in-Item : goal.returns-in-Item
returns-in-Item g c =
    let r = c.requires in
    let w = item_pushes c.args.table.now.nodes c.args.reader.now c.args.partial.now c.args.input.now c.advance.new.self c.advance.new.partial r.under_way r.conforms r.joined c.in-Item.at c.in-Item.used c.in-Item.item c.lend.result c.lend.ensures c.in-Item.ensures.moves c.in-Item.ensures.empties in
    let a = c.in-Item.ensures.answers in
    ((refl, λ _. tt, w.0), record { uses = (a.0, is_not_done c.args.reader.now a.1); reader = w.1; next = tt })

pub returns-in-Done : goal.returns-in-Done
returns-in-Done g c =
    let r = c.requires in
    let w = done_pushes c.args.table.now.nodes c.args.reader.now c.args.partial.now c.args.input.now c.advance.new.self c.advance.new.partial r.under_way r.conforms r.joined c.in-Done.ensures.moves in
    ((refl, λ _. tt, w.0), record { uses = is_over_done c.args.reader.now r.under_way c.in-Done.ensures.answers; reader = w.1; next = tt })

pub returns-in-Refused : goal.returns-in-Refused
returns-in-Refused g c =
    let r = c.requires in
    let w = refused_pushes c.args.table.now.nodes c.args.reader.now c.args.partial.now c.args.input.now c.advance.new.self c.advance.new.partial r.under_way r.conforms r.joined c.in-Refused.refusal c.in-Refused.ensures.moves c.in-Refused.ensures.empties in
    ((refl, λ _. tt, w.0), record { uses = is_not_done c.args.reader.now c.in-Refused.ensures.answers; reader = w.1; next = tt })
