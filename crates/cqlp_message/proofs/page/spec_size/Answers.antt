use Rattle.std.proofs.Common.{◌≤◌, length, map, sym, ◌∙◌, arith}
use Rattle.cqlp_value.specs.Owned.{value_of}
use Rattle.cqlp_message.specs.Bodies.{column_types}
use Rattle.cqlp_message.specs.Owned.{spec_of}
use Rattle.cqlp_message.proofs.PageColumns.{fits_described, fits_none}
use Rattle.cqlp_message.proofs.PageWalks.{how_many-columns}
use Rattle.cqlp_message.proofs.page.spec_size.Goals as goal

pub returns-in-Some-clause-fits : goal.returns-in-Some-clause-fits
returns-in-Some-clause-fits c =
    c.fitting_size.ensures.fits ∙ sym (fits_described c.args.specs.now c.args.column c.in-Some.spec.now (value_of c.args.value.now) c.in-Some.ensures.lookup.1 c.in-Some.ensures.lookup.3.0)

pub returns-in-None-clause-fits : goal.returns-in-None-clause-fits
returns-in-None-clause-fits c =
    let past : length c.args.specs.now ≤ c.args.column = c.in-None.ensures.lookup.3 in
    sym (fits_none (column_types (map spec_of c.args.specs.now)) c.args.column (value_of c.args.value.now) (omega (arith, how_many-columns c.args.specs.now)))
