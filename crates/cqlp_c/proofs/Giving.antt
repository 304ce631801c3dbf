-- A table that is given, and one that is taken back.
use Rattle.std.proofs.Common.{◌≡◌, ℕ, false, Option, None, Some, refl, ap, ◌∙◌}
use Rattle.std.specs.Prelude.{is_some}
use Rattle.cqlp_type.specs.Table.{Table}
use Rattle.cqlp_decode.specs.declared.given.GiveReason.{GiveReason}
use Rattle.cqlp_decode.specs.Streams.{Decoding}
use Rattle.cqlp_c.specs.Given.{GivesBy, code_of_reason}

pub given_back : (d new : Decoding) (t back : Table) (why : GiveReason) (code : ℕ) → code ≡ code_of_reason why → (o : Option GiveReason) → ((w : GiveReason) → o ≡ Some w → (why ≡ w) × (back ≡ t) × (new ≡ d)) → (o ≡ None → ⊥) → GivesBy d t o code new (Some back)
given_back d new t back why code is None some none = absurd (none refl)
given_back d new t back why code is (Some w) some none = let s = some w refl in (is ∙ ap code_of_reason s.0, s.2, ap (λ (z : Table). Some z) s.1)

pub empty : (o : Option Table) → is_some o ≡ false → o ≡ None
empty None is = refl
empty (Some t) is = absurd cc
