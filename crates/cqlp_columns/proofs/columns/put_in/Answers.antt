use Rattle.std.proofs.Common.{◌∙◌, ap, slice_set}
use Rattle.cqlp_columns.specs.Arrays.{Column}
use Rattle.cqlp_columns.specs.Cells.{cell_in}
use Rattle.cqlp_columns.proofs.Taking.{refusal_there, set_there}
use Rattle.cqlp_columns.proofs.Turns.{light_there}
use Rattle.cqlp_columns.proofs.columns.put_in.Goals as goal

pub push-requires : goal.push-requires
push-requires g c = refusal_there c.args.columns.now c.args.column (cell_in c.args.cell) c.index-columns-column.result c.requires.there ∙ c.requires.takes

pub returns-clause-more : goal.returns-clause-more
returns-clause-more g c =
    ap (λ (x : Column). slice_set c.args.columns.now c.args.column x) c.push.ensures
    ∙ set_there c.args.columns.now c.args.column (cell_in c.args.cell) c.index-columns-column.result c.requires.there

pub returns-clause-light : goal.returns-clause-light
returns-clause-light g c = c.is_light.ensures ∙ light_there c.args.limits c.args.columns.now c.args.column c.push.new.self c.requires.there
