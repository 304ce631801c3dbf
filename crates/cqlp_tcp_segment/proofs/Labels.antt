-- Labels of MPLS are passed over.
use Rattle.std.proofs.Common.{◌≡◌, ℕ, ◌<◌, ◌≤◌, true, false, List, [], ◌∷◌, length, drop, get_or, Err, refl, arith}
use Rattle.std.specs.Prelude.{◌%◌, ◌==◌}
use Rattle.cqlp_tcp_segment.specs.declared.reason.NoSegment.TheVariants.{CutInLink}
use Rattle.cqlp_tcp_segment.specs.EtherType.{after_labels, with_version}

pub labels_last : (b : List ℕ) → 4 ≤ length b → (get_or b 2 0 % 2 == 1) ≡ true → with_version (drop 4 b) ≡ after_labels b
labels_last [] long last = absurd (omega arith)
labels_last (x ∷ []) long last = absurd (omega arith)
labels_last (x ∷ y ∷ []) long last = absurd (omega arith)
labels_last (x ∷ y ∷ z ∷ []) long last = absurd (omega arith)
labels_last (x ∷ y ∷ z ∷ w ∷ b) long last = rw last refl

pub labels_step : (b : List ℕ) → 4 ≤ length b → (get_or b 2 0 % 2 == 1) ≡ false → after_labels (drop 4 b) ≡ after_labels b
labels_step [] long more = absurd (omega arith)
labels_step (x ∷ []) long more = absurd (omega arith)
labels_step (x ∷ y ∷ []) long more = absurd (omega arith)
labels_step (x ∷ y ∷ z ∷ []) long more = absurd (omega arith)
labels_step (x ∷ y ∷ z ∷ w ∷ b) long more = rw more refl

pub labels_cut : (b : List ℕ) → length b < 4 → after_labels b ≡ Err CutInLink
labels_cut [] short = refl
labels_cut (x ∷ []) short = refl
labels_cut (x ∷ y ∷ []) short = refl
labels_cut (x ∷ y ∷ z ∷ []) short = refl
labels_cut (x ∷ y ∷ z ∷ w ∷ b) short = absurd (omega arith)
