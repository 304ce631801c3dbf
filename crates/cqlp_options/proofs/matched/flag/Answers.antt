use Rattle.std.proofs.Common.{◌∙◌}
use Rattle.clap.proofs.WalkLemmas.{one_text-rows}
use Rattle.clap.specs.Words.{found_of}
use Rattle.cqlp_options.proofs.matched.flag.Goals as goal

pub returns : goal.returns
returns c =
    let same = one_text-rows (found_of c.args.matches.now) c.args.option.now in
    record {
      given = λ h. c.get_flag.ensures.value (same ∙ h);
      left_out = λ h. c.get_flag.ensures.other (same ∙ h);
      unknown = λ h. c.get_flag.ensures.none (same ∙ h);
    }
