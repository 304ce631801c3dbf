use Rattle.std.proofs.Common.{arith}
use Rattle.cqlp_note.specs.Field.{field_of}
use Rattle.cqlp_note.proofs.Readers.{says_stays}
use Rattle.cqlp_note.proofs.Runs.{stays_got, stays_bad}
use Rattle.cqlp_note.proofs.laws.fields_stay.Goals as goal

pub returns : goal.returns
returns c = λ n limit room bytes t. record {
  got = λ v used s. let still = stays_got v used (says_stays (field_of n limit room) 0 bytes t) s in (omega (arith, still.1), still.0);
  bad = λ why s. stays_bad why (says_stays (field_of n limit room) 0 bytes t) s;
}
