use Rattle.std.proofs.Common.{sym, ◌∙◌}
use Rattle.std.proofs.lemmas.List.Folds.{list_all-map}
use Rattle.cqlp_message.specs.Agreement.{spec_agrees}
use Rattle.cqlp_message.specs.Owned.{spec_of}
use Rattle.cqlp_message.proofs.agreement.all_agree.Goals as goal

pub returns : goal.returns
returns c = c.each_agrees.ensures ∙ sym (list_all-map (spec_agrees c.args.own) spec_of c.args.specs.now)
