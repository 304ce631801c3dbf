-- What is not known to be given takes any text.
use Rattle.std.proofs.Common.{ℕ, List, None, refl}
use Rattle.cqlp_text.specs.Written.{Receives, bare}

pub takes_all : (text : List ℕ) → Receives (bare None 0) text (bare None 0)
takes_all text = record { passed = λ given is. absurd (cc is); failures = refl; lender = refl }
