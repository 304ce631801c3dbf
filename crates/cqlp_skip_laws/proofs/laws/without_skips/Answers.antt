use Rattle.std.proofs.Common.{ℕ, subst}
use Rattle.std.specs.Prelude.{drop}
use Rattle.cqlp_decode.specs.Streams.{AfterGifts}
use Rattle.cqlp_skip.specs.Skipping.{stream}
use Rattle.cqlp_skip_laws.proofs.laws.without_skips.Goals as goal

pub returns : goal.returns
returns c = λ xs d s gifts events a. subst (λ (n : ℕ). AfterGifts gifts (stream d) (drop n s) events) a.base a.conforms
