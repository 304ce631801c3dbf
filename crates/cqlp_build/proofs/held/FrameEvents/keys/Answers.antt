use Rattle.std.proofs.Common.{◌≡◌, ℕ, List, true, refl}
use Rattle.std.proofs.lemmas.List.{map-id}
use Rattle.cqlp_build.proofs.Optional.{all_true}
use Rattle.cqlp_build.proofs.ResponseParts.{asked}
use Rattle.cqlp_build.proofs.held.FrameEvents.keys.Goals as goal

pub returns : goal.returns
returns c = rw map-id at (asked {Q = λ (ks : List ℕ). true ≡ true} (λ x p. refl) (λ x q. all_true x) c.counted.ensures)
