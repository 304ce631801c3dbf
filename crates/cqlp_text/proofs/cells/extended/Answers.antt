use Rattle.std.proofs.Common.{refl}
use Rattle.cqlp_text.proofs.CellTexts.{filled}
use Rattle.cqlp_text.proofs.cells.extended.Goals as goal

pub returns : goal.returns
returns c = filled c.args.bytes.now _ _ c.sign_byte-wide.result _ c.requires refl c.sign_byte-wide.ensures c.copy_from_slice.ensures.after
