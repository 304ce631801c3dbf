use Rattle.std.proofs.Common.{◌≤◌, length, sym}
use Rattle.cqlp_compose.proofs.Columns.{type_some, type_none}
use Rattle.cqlp_compose.proofs.column.spec_type.Goals as goal

pub returns-in-Some : goal.returns-in-Some
returns-in-Some c = sym (type_some c.args.specs.now c.args.column c.in-Some.spec.now c.in-Some.ensures.lookup.1 c.in-Some.ensures.lookup.3.0)

pub returns-in-None : goal.returns-in-None
returns-in-None c =
    let past : length c.args.specs.now ≤ c.args.column = c.in-None.ensures.lookup.3 in
    sym (type_none c.args.specs.now c.args.column past)
