use Rattle.std.proofs.Common.{refl}
use Rattle.cqlp_round_trip.proofs.trip.new_decoder.Goals as goal

pub returns-in-Err-BadLimits-clause-refused : goal.returns-in-Err-BadLimits-clause-refused
returns-in-Err-BadLimits-clause-refused g c = let h = rw c.in-Err-BadLimits.field-0-is at (c.in-Err-BadLimits.ensures.bad c.in-Err-BadLimits.bad) in h.0 refl
