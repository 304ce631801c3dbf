use Rattle.cqlp_note.proofs.WrittenFields.{field_written}
use Rattle.cqlp_note.proofs.laws.written_field_is_spelled.Goals as goal

pub returns : goal.returns
returns c = field_written
