use Rattle.std.proofs.Common.{◌-◌, arith}
use Rattle.cqlp_cell.proofs.Numbered.{begun_wanted, begun_whole, begun_refused}
use Rattle.cqlp_cell.proofs.number.begin.Goals as goal

pub unreachable-requires : goal.unreachable-requires
unreachable-requires g c = omega (arith, begun_whole c.args.at (c.args.end - c.args.at) c.args.partial.now c.begin.new.self c.advance.new.self c.args.input.now (omega arith) c.begin.ensures _ _ c.in-Got.ensures.0)

pub unreachable-requires-in-Refused : goal.unreachable-requires-in-Refused
unreachable-requires-in-Refused g c = begun_refused c.args.at (c.args.end - c.args.at) c.args.partial.now c.begin.new.self c.advance.new.self c.args.input.now (omega arith) c.begin.ensures _ c.in-Refused.ensures.1

pub returns : goal.returns
returns g c = begun_wanted c.args.at (c.args.end - c.args.at) c.args.partial.now c.begin.new.self c.advance.new.self c.args.input.now (omega arith) c.begin.ensures _ c.in-More.ensures
