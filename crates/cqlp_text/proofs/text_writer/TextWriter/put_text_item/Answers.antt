use Rattle.cqlp_text.specs.Text.{quoted}
use Rattle.cqlp_text.proofs.ItemText.{item_of}
use Rattle.cqlp_text.proofs.text_writer.TextWriter.put_text_item.Goals as goal

pub returns-clause-part : goal.returns-clause-part
returns-clause-part g c = item_of c.args.self.now c.put_text.new.self c.put_text.result _ _ (quoted c.args.text.now) _ _ c.gap-gap.ensures c.ends_row-ends_row.ensures c.put_text.ensures
