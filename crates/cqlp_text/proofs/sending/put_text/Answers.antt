use Rattle.std.proofs.Common.{refl}
use Rattle.cqlp_text.specs.Written.{bare}
use Rattle.cqlp_text.proofs.Writing.{known_text}
use Rattle.cqlp_text.proofs.sending.put_text.Goals as goal

pub returns : goal.returns
returns g c = λ known. rw (← c.as_bytes.ensures.value) (known_text (bare _ _) (bare _ _) _ _ _ _ 0 _ _ refl refl refl c.send.ensures known)
