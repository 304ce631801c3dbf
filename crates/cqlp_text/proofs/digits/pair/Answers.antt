use Rattle.std.proofs.Common.{refl}
use Rattle.cqlp_text.proofs.Pairs.{pair_at}
use Rattle.cqlp_text.proofs.digits.pair.Goals as goal

pub returns : goal.returns
returns c = let digits = pair_at c.args.number c.requires in rw (digits.0, digits.1) refl
