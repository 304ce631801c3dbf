use Rattle.std.proofs.Common.{◌∙◌, sym}
use Rattle.cqlp_cell.proofs.Contents.{as_raw}
use Rattle.cqlp_cell.proofs.content.kind_read.Goals as goal

pub returns-then-lenient : goal.returns-then-lenient
returns-then-lenient c = as_raw c.args.lenient c.args.kind c.args.bytes.now c.if-lenient.true (sym c.is_of.ensures ∙ c.if-is_of.false)
