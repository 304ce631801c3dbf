use Rattle.std.proofs.Common.{◌≡◌, length, arith}
use Rattle.std.proofs.lemmas.Bool.Decides.{nat_tests}
use Rattle.cqlp_observer_facts.proofs.WholeColumn.{column_passes}
use Rattle.cqlp_observer_facts.proofs.reader.FactsReader.plain_column.Goals as goal

pub returns-then-is_empty : goal.returns-then-is_empty
returns-then-is_empty c =
    let nothing : length c.args.self.now.front ≡ 0 = grind (arith, nat_tests, c.is_empty.ensures, c.if-is_empty.true) in
    column_passes c.args.rest.now c.in-Rows.field c.args.self.now c.plain_column_of.result c.requires nothing c.in-Rows.is c.plain_column_of.ensures
