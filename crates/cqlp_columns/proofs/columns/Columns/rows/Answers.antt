use Rattle.std.proofs.Common.{◌∙◌, List, ap}
use Rattle.std.specs.Prelude.{Option}
use Rattle.cqlp_columns.specs.Arrays.{Column}
use Rattle.cqlp_columns.specs.Batches.{Batch, rows_in}
use Rattle.cqlp_columns.proofs.Taking.{cells_in, last_rows}
use Rattle.cqlp_columns.proofs.columns.Columns.rows.Goals as goal

pub returns-in-Some : goal.returns-in-Some
returns-in-Some g c =
    c.len.ensures ∙ ap (λ (x : Option Column). cells_in x) c.in-Some.ensures.value ∙ last_rows c.deref.result.now
    ∙ ap (λ (x : List Column). rows_in x) c.deref.ensures.value ∙ ap (λ (x : Batch). rows_in x.columns) c.self.view_is
