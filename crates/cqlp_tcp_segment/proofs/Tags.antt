-- Tags of virtual networks are passed over.
use Rattle.std.proofs.Common.{◌≡◌, ℕ, ◌<◌, ◌≤◌, true, false, List, [], ◌∷◌, length, drop, Ok, Err, refl, arith}
use Rattle.cqlp_tcp_segment.specs.declared.reason.NoSegment.TheVariants.{CutInLink}
use Rattle.cqlp_tcp_segment.specs.Fields.{number_16}
use Rattle.cqlp_tcp_segment.specs.EtherType.{is_tag, untagged}

pub untagged_step : (n : ℕ) (b : List ℕ) → is_tag n ≡ true → 4 ≤ length b → untagged (number_16 2 b) (drop 4 b) ≡ untagged n b
untagged_step n [] tag long = absurd (omega arith)
untagged_step n (x ∷ []) tag long = absurd (omega arith)
untagged_step n (x ∷ y ∷ []) tag long = absurd (omega arith)
untagged_step n (x ∷ y ∷ z ∷ []) tag long = absurd (omega arith)
untagged_step n (x ∷ y ∷ high ∷ low ∷ b) tag long = rw tag refl

pub untagged_cut : (n : ℕ) (b : List ℕ) → is_tag n ≡ true → length b < 4 → untagged n b ≡ Err CutInLink
untagged_cut n [] tag short = rw tag refl
untagged_cut n (x ∷ []) tag short = rw tag refl
untagged_cut n (x ∷ y ∷ []) tag short = rw tag refl
untagged_cut n (x ∷ y ∷ z ∷ []) tag short = rw tag refl
untagged_cut n (x ∷ y ∷ high ∷ low ∷ b) tag short = absurd (omega arith)

pub untagged_ends : (n : ℕ) (b : List ℕ) → is_tag n ≡ false → untagged n b ≡ Ok (n, b)
untagged_ends n [] differs = rw differs refl
untagged_ends n (x ∷ []) differs = rw differs refl
untagged_ends n (x ∷ y ∷ []) differs = rw differs refl
untagged_ends n (x ∷ y ∷ z ∷ []) differs = rw differs refl
untagged_ends n (x ∷ y ∷ high ∷ low ∷ b) differs = rw differs refl
