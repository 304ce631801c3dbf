-- Where a segment lies.
use Rattle.std.proofs.Common.{◌≡◌, ℕ, ◌+◌, ◌-◌, ◌%◌, ◌^◌, ◌<◌, ◌≤◌, refl, ◌∙◌, inl, inr, arith}
use Rattle.std.proofs.lemmas.Bool.{cases_lt, lt-ltb, le-ltb}
use Rattle.cqlp_tcp_reassembly.specs.declared.segment.Place.{Place}
use Rattle.cqlp_tcp_reassembly.specs.declared.sequence.Distance.{Distance}
use Rattle.cqlp_tcp_reassembly.specs.declared.sequence.Distance.TheVariants.{Ahead, Behind}
use Rattle.cqlp_tcp_reassembly.specs.Sequence.{up, distance}
use Rattle.cqlp_tcp_reassembly.specs.Segments.{Segment, first_number, full_length, next_number, place, place_at}

-- ---- the shorter way

ahead : (position start n : ℕ) → start ≡ position + n → n < 2 ^ 31 → distance (position % 2 ^ 32) (start % 2 ^ 32) ≡ Ahead n
ahead position start n is near =
    let far : up (position % 2 ^ 32) (start % 2 ^ 32) ≡ n = omega arith in
    rw (far, lt-ltb n (2 ^ 31) near) refl

behind : (position start n : ℕ) → position ≡ start + n → 0 < n → n < 2 ^ 31 → distance (position % 2 ^ 32) (start % 2 ^ 32) ≡ Behind n
behind position start n is some near =
    let far : up (position % 2 ^ 32) (start % 2 ^ 32) ≡ 2 ^ 32 - n = omega arith in
    let back : up (start % 2 ^ 32) (position % 2 ^ 32) ≡ n = omega arith in
    rw (far, le-ltb (2 ^ 32 - n) (2 ^ 31) (omega arith), back) refl

-- ---- the place of a segment that begins at `start`, where position 0 of the stream is `origin`

pub record Lies (origin position start : ℕ) (g : Segment) (l : Place) : Type 0 where
  pub starts : start + l.skip ≡ origin + l.at
  pub from : position ≤ l.at
  pub late : 0 < l.skip → l.at ≡ position
  pub to : l.to ≡ l.at + (full_length g - l.skip)

lies_at : (d : Distance) (origin position start : ℕ) (g : Segment) (n : ℕ) → d ≡ Ahead n → start ≡ origin + position + n
    → Lies origin position start g (place_at d position (full_length g))
lies_at (Ahead k) origin position start g n is starts =
    let same : k ≡ n = cc in
    record { starts = omega arith; from = omega arith; late = λ some. absurd (omega arith); to = omega arith }
lies_at (Behind k) origin position start g n is starts = absurd cc

lies_behind : (d : Distance) (origin position start : ℕ) (g : Segment) (n : ℕ) → d ≡ Behind n → origin + position ≡ start + n
    → Lies origin position start g (place_at d position (full_length g))
lies_behind (Ahead k) origin position start g n is starts = absurd cc
lies_behind (Behind k) origin position start g n is starts =
    let same : k ≡ n = cc in
    record { starts = omega arith; from = omega arith; late = λ some. refl; to = omega arith }

pub lies : (first origin position start : ℕ) (g : Segment) → first ≡ origin % 2 ^ 32 → first_number g.control ≡ start % 2 ^ 32
    → start < origin + position + 2 ^ 31 → origin + position < start + 2 ^ 31
    → Lies origin position start g (place first position g)
lies first origin position start g firsts numbers before after =
    let next : next_number first position ≡ (origin + position) % 2 ^ 32 = omega arith in
    let same : distance (next_number first position) (first_number g.control) ≡ distance ((origin + position) % 2 ^ 32) (start % 2 ^ 32) = cc in
    elim (cases_lt start (origin + position)) [
      | inl earlier ↦
          lies_behind (distance (next_number first position) (first_number g.control)) origin position start g (origin + position - start)
          (same ∙ behind (origin + position) start (origin + position - start) (omega arith) (omega arith) (omega arith)) (omega arith)
      | inr later ↦
          lies_at (distance (next_number first position) (first_number g.control)) origin position start g (start - (origin + position))
          (same ∙ ahead (origin + position) start (start - (origin + position)) (omega arith) (omega arith)) (omega arith)
    ]
