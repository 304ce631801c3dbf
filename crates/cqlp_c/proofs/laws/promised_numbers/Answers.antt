use Rattle.std.proofs.Common.{refl}
use Rattle.cqlp_c.proofs.laws.promised_numbers.Goals as goal

pub returns : goal.returns
returns c = record {
  of_codes = refl;
  of_codes_of_columns = refl;
  of_stops = refl;
  of_ends = refl;
  of_tags = refl;
  of_marks = refl;
  of_fields = refl;
  of_reasons = refl;
  of_phases = refl;
  of_replies = refl;
  of_opcodes = refl;
  of_kinds = refl;
}
