use Rattle.std.proofs.Common.{◌∙◌, ap}
use Rattle.cqlp_statement_types.specs.Types.{Given, table_given}
use Rattle.cqlp_statement_types.proofs.Found.{found}
use Rattle.cqlp_statement_types.proofs.statement_types.StatementTypes.get.Goals as goal

pub returns : goal.returns
returns g c =
    c.get.ensures.value ∙ found c.self.inside.tables.entries c.args.id.now ∙ ap (λ (ts : Given). table_given ts c.args.id.now) c.self.view_is
