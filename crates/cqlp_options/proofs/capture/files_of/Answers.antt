use Rattle.std.proofs.Common.{Some, arith, codes, sym, ap, ◌∙◌, option_map}
use Rattle.clap.proofs.WalkLemmas.{raw_values-rows}
use Rattle.clap.specs.Words.{found_of}
use Rattle.cqlp_options.proofs.Files.{first_and_others}
use Rattle.cqlp_options.specs.CaptureFiles.{texts_of}
use Rattle.cqlp_options.proofs.capture.files_of.Goals as goal

pub returns-then-is_input_alone-clause-paths : goal.returns-then-is_input_alone-clause-paths
returns-then-is_input_alone-clause-paths c =
    let met = c.in-Some-len1-up in
    sym (c.get_strs.ensures ∙ raw_values-rows (found_of c.args.matches.now) (codes "file"))
    ∙ ap (option_map (λ s. texts_of s.now)) met.is
    ∙ ap (λ (t : _). Some t) (first_and_others met.field-0.now _ (omega (arith, met.len_at_least)))
