use Rattle.cqlp_cell.proofs.Gathered.{more_wanted, all_found, none_refused}
use Rattle.cqlp_cell.proofs.gather.resume.Goals as goal

pub unreachable-requires : goal.unreachable-requires
unreachable-requires g c = none_refused c.args.len _ c.args.partial.now c.advance.new.self c.args.input.now 0 c.requires.1 _ c.in-Refused.ensures.1

pub returns-in-More : goal.returns-in-More
returns-in-More g c = more_wanted c.args.len _ c.args.partial.now c.advance.new.self c.args.input.now _ c.requires.1 c.in-More.ensures

pub returns-in-Got : goal.returns-in-Got
returns-in-Got g c = all_found c.args.len _ c.args.partial.now c.advance.new.self c.args.input.now _ c.requires.1 _ c.in-Got.ensures.0 c.in-Got.ensures.1
