use Rattle.std.proofs.Common.{◌∙◌, ap, take}
use Rattle.std.proofs.lemmas.List.{take_min}
use Rattle.cqlp_capture_exchanges.proofs.part.front_of.Goals as goal

pub returns-clause-front : goal.returns-clause-front
returns-clause-front c = ap (λ n. take n c.args.text.now) c.min.ensures ∙ take_min 256 c.args.text.now
