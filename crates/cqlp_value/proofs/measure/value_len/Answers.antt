use Rattle.std.specs.Prelude.{option_map}
use Rattle.std.proofs.Common.{arith}
use Rattle.cqlp_value.specs.Owned.{fits_type}
use Rattle.cqlp_value.proofs.ValueSizes.{too_long}
use Rattle.cqlp_value.proofs.measure.value_len.Goals as goal

pub returns-then-size-gt-LONGEST : goal.returns-then-size-gt-LONGEST
returns-then-size-gt-LONGEST c = too_long (fits_type c.args.value.now (option_map (λ t. t.now) c.args.of)) _ (omega arith)
