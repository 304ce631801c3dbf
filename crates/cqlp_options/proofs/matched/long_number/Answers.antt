use Rattle.std.specs.Str.Parse.{ExplainsUnsignedError, HasUnsignedDigitsIfOk, ParsesUnsigned}
use Rattle.clap.proofs.WalkLemmas.{one_text-rows}
use Rattle.clap.specs.Words.{found_of}
use Rattle.cqlp_options.proofs.Numbers.{number_read}
use Rattle.cqlp_options.proofs.matched.long_number.Goals as goal

pub returns : goal.returns
returns c =
    number_read {G = λ t r. ParsesUnsigned 64 10 t r × ExplainsUnsignedError 10 t r × HasUnsignedDigitsIfOk t r} 64 _ _ c.get_one.result
    (one_text-rows (found_of c.args.matches.now) c.args.option.now) c.get_one.ensures.none c.get_one.ensures.value (λ t r h. h.0)
