use Rattle.std.proofs.Common.{sym, subst, ◌∙◌}
use Rattle.std.specs.Prelude.{IfSome}
use Rattle.cqlp_observer_facts.specs.declared.due.Due.TheVariants as due
use Rattle.cqlp_observer_facts.specs.declared.rows.RowsField.{RowsField}
use Rattle.cqlp_observer_facts.specs.Columns.{IsColumnOf, next_column}
use Rattle.cqlp_observer_facts.proofs.WholeColumn.{plain_column_found}
use Rattle.cqlp_observer_facts.proofs.columns.plain_column_of.Goals as goal

pub returns-then-is_before_column : goal.returns-then-is_before_column
returns-then-is_before_column c =
    subst (λ (f : RowsField). IfSome c.plain_column_in.result (λ used. IsColumnOf f c.args.bytes.now used (next_column (due.Rows f)))) (sym c.in-Name.is) (plain_column_found c.args.bytes.now c.in-Name.more c.in-Name.types c.plain_column_in.result (sym c.is_before_column.ensures ∙ c.if-is_before_column.true) c.plain_column_in.ensures)
