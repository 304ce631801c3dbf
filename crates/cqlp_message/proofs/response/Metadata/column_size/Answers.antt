use Rattle.std.proofs.Common.{sym, ◌∙◌, arith}
use Rattle.cqlp_grammar.specs.Productions.{raw_types}
use Rattle.cqlp_value.specs.Owned.{value_of}
use Rattle.cqlp_message.proofs.PageColumns.{fits_raw, fits_none}
use Rattle.cqlp_message.proofs.PageWalks.{how_many-raw}
use Rattle.cqlp_message.proofs.response.Metadata.column_size.Goals as goal

pub returns-then-column-self-clause-fits : goal.returns-then-column-self-clause-fits
returns-then-column-self-clause-fits c =
    rw c.in-None.is (c.fitting_size.ensures.fits ∙ sym (fits_raw c.args.self.now.columns c.args.column (value_of c.args.value.now) c.if-column-self.true))

pub returns-else-column-self-clause-fits : goal.returns-else-column-self-clause-fits
returns-else-column-self-clause-fits c =
    let columns = c.args.self.now.columns in
    rw c.in-None.is (sym (fits_none (raw_types columns) c.args.column (value_of c.args.value.now) (omega (arith, how_many-raw columns, c.if-column-self.false))))
