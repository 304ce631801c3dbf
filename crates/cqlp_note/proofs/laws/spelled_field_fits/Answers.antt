use Rattle.cqlp_note.proofs.WrittenFields.{field_fits}
use Rattle.cqlp_note.proofs.laws.spelled_field_fits.Goals as goal

pub returns : goal.returns
returns c = field_fits
