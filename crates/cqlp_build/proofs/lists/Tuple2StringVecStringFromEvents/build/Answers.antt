use Rattle.std.proofs.Common.{refl}
use Rattle.cqlp_build.proofs.Optional.{all_true}
use Rattle.cqlp_build.proofs.Steps.{made_of, ◌then◌}
use Rattle.cqlp_build.proofs.lists.Tuple2StringVecStringFromEvents.build.Goals as goal

pub returns : goal.returns
returns c = made_of (c.text-key.ensures.is then c.texts-values.ensures) _ _ (λ a. a) (λ a p. refl) (λ a p. refl) (λ b q. (b, (refl, all_true b.1), refl))
