use Rattle.std.proofs.Common.{zero-add}
use Rattle.cqlp_note.specs.Field.{field_of}
use Rattle.cqlp_note.proofs.Spelled.{field_yields}
use Rattle.cqlp_note.proofs.Yields.{yields_says}
use Rattle.cqlp_note.proofs.laws.spelled_is_got.Goals as goal

pub returns : goal.returns
returns c = λ n v limit room bytes s fits le t. rw zero-add at (yields_says (field_of n limit room) 0 v bytes t (field_yields n v limit room bytes s fits le))
