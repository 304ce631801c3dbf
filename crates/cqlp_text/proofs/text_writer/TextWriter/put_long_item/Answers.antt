use Rattle.std.proofs.Common.{FitsSigned, w64}
use Rattle.std.specs.Fmt.{signed_decimal}
use Rattle.std.proofs.lemmas.Int.{to_z-of_z}
use Rattle.cqlp_text.proofs.ItemText.{item_of}
use Rattle.cqlp_text.proofs.text_writer.TextWriter.put_long_item.Goals as goal

pub returns-clause-part : goal.returns-clause-part
returns-clause-part g c =
    let fits : FitsSigned w64 c.args.number = c.ranges.number in
    let writes = simp to_z-of_z at c.put_item.ensures in
    item_of c.args.self.now c.put_item.new.self c.put_item.result _ _ (signed_decimal c.args.number) _ _ c.gap-gap.ensures c.ends_row-ends_row.ensures writes
