use Rattle.std.proofs.Common.{◌∙◌, ap, take}
use Rattle.std.proofs.lemmas.List.{take_min}
use Rattle.cqlp_capture_exchanges.proofs.batch_name.front_of.Goals as goal

pub returns : goal.returns
returns c = ap (λ n. take n c.args.text.now) c.min.ensures ∙ take_min 250 c.args.text.now
