use Rattle.cqlp_note.specs.Partial.{item_value}
use Rattle.cqlp_cell.proofs.Numbered.{more_wanted, is_number, all_counted, none_refused}
use Rattle.cqlp_cell.proofs.number.resume.Goals as goal

pub unreachable-requires : goal.unreachable-requires
unreachable-requires g c = none_refused c.args.partial.now.field.at c.args.partial.now.field.room c.args.partial.now c.advance.new.self c.args.input.now 0 c.requires.2 c.requires.1 _ c.in-Refused.ensures.1

pub returns-in-More : goal.returns-in-More
returns-in-More g c = more_wanted c.args.partial.now.field.at c.args.partial.now.field.room c.args.partial.now c.advance.new.self c.args.input.now _ c.requires.2 c.requires.1 c.in-More.ensures

pub number_in-requires : goal.number_in-requires
number_in-requires g c = (c.in-Got.ensures.1, is_number c.args.partial.now.field.at c.args.partial.now.field.room c.args.partial.now c.advance.new.self c.args.input.now _ c.requires.2 c.requires.1 _ c.in-Got.ensures.0)

pub returns-in-Got : goal.returns-in-Got
returns-in-Got g c = all_counted c.args.partial.now.field.at c.args.partial.now.field.room c.args.partial.now c.advance.new.self c.args.input.now _ c.requires.2 c.requires.1 (item_value c.in-Got.item c.args.input.now c.advance.new.self.content) _ c.in-Got.ensures.0 c.number_in.ensures
