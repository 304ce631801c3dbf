-- What nine bytes are as a header.
use Rattle.std.proofs.Common.{◌≡◌, ℕ, ◌+◌, ◌*◌, ◌<◌, ◌≤◌, Bool, true, false, not, eqb, ◌||◌, List, [], ◌∷◌, length, take, drop, refl, arith}
use Rattle.std.specs.Prelude.{Some, Ok, Err, slice_index}
use Rattle.std.specs.Int.{w16, w32, from_be_bytes, cast_signed}
use Rattle.std.proofs.lemmas.Bool.{lt-ltb, le-ltb}
use mathlib.Core.Bool.{beq}
use Rattle.cqlp_note.specs.declared.opcode.Opcode.{Opcode}
use Rattle.cqlp_note.specs.declared.refusal.Reason.TheVariants.{BadVersion, Compressed, BadDirection, BadLength}
use Rattle.cqlp_note.specs.Heading.{has, heading, heading_of, beside_number, opcodes, answers, same}

pub length_is : (b : List ℕ) → length b ≡ 9 → from_be_bytes w32 (take 4 (drop 5 b)) ≡ slice_index b 5 * 16777216 + slice_index b 6 * 65536 + slice_index b 7 * 256 + slice_index b 8
length_is [] e = absurd (omega (arith, e))
length_is (b0 ∷ []) e = absurd (omega (arith, e))
length_is (b0 ∷ b1 ∷ []) e = absurd (omega (arith, e))
length_is (b0 ∷ b1 ∷ b2 ∷ []) e = absurd (omega (arith, e))
length_is (b0 ∷ b1 ∷ b2 ∷ b3 ∷ []) e = absurd (omega (arith, e))
length_is (b0 ∷ b1 ∷ b2 ∷ b3 ∷ b4 ∷ []) e = absurd (omega (arith, e))
length_is (b0 ∷ b1 ∷ b2 ∷ b3 ∷ b4 ∷ b5 ∷ []) e = absurd (omega (arith, e))
length_is (b0 ∷ b1 ∷ b2 ∷ b3 ∷ b4 ∷ b5 ∷ b6 ∷ []) e = absurd (omega (arith, e))
length_is (b0 ∷ b1 ∷ b2 ∷ b3 ∷ b4 ∷ b5 ∷ b6 ∷ b7 ∷ []) e = absurd (omega (arith, e))
length_is (b0 ∷ b1 ∷ b2 ∷ b3 ∷ b4 ∷ b5 ∷ b6 ∷ b7 ∷ b8 ∷ rest) e = refl

pub stream_is : (b : List ℕ) → length b ≡ 9 → from_be_bytes w16 (take 2 (drop 2 b)) ≡ slice_index b 2 * 256 + slice_index b 3
stream_is [] e = absurd (omega (arith, e))
stream_is (b0 ∷ []) e = absurd (omega (arith, e))
stream_is (b0 ∷ b1 ∷ []) e = absurd (omega (arith, e))
stream_is (b0 ∷ b1 ∷ b2 ∷ []) e = absurd (omega (arith, e))
stream_is (b0 ∷ b1 ∷ b2 ∷ b3 ∷ rest) e = refl

no : true ≡ false → ⊥
no h = cc

yes : false ≡ true → ⊥
yes h = cc

pub not_same : (a b : Bool) → not (beq a b) ≡ true → same a b ≡ false
not_same true true h = absurd (yes h)
not_same true false h = refl
not_same false true h = refl
not_same false false h = absurd (yes h)

pub is_same : (a b : Bool) → not (beq a b) ≡ false → same a b ≡ true
is_same true true h = refl
is_same true false h = absurd (no h)
is_same false true h = absurd (no h)
is_same false false h = refl

module _ (b : List ℕ) where
  pub bad_version : ((eqb (slice_index b 0) 4) || (eqb (slice_index b 0) 132)) ≡ false → heading b ≡ Err (0, BadVersion)
  unfolding heading
  bad_version v = rw v refl

  pub compressed : ((eqb (slice_index b 0) 4) || (eqb (slice_index b 0) 132)) ≡ true → has (slice_index b 1) 1 ≡ true → heading b ≡ Err (1, Compressed)
  unfolding heading
  compressed v f = rw (v, f) refl

  pub by_opcode : ((eqb (slice_index b 0) 4) || (eqb (slice_index b 0) 132)) ≡ true → has (slice_index b 1) 1 ≡ false → heading b ≡ heading_of (eqb (slice_index b 0) 132) b (beside_number (slice_index b 4) opcodes)
  unfolding heading
  by_opcode v f = rw (v, f) refl

module _ (response : Bool) (b : List ℕ) (o : Opcode) where
  pub bad_direction : not (beq (answers o) response) ≡ true → heading_of response b (Some o) ≡ Err (4, BadDirection)
  bad_direction h = rw (not_same (answers o) response h) refl

  pub bad_length : not (beq (answers o) response) ≡ false → 268435456 < from_be_bytes w32 (take 4 (drop 5 b)) → heading_of response b (Some o) ≡ Err (5, BadLength)
  bad_length h lt = rw (is_same (answers o) response h, lt-ltb _ _ lt) refl

  pub good_header : not (beq (answers o) response) ≡ false → (n s : ℕ) → from_be_bytes w32 (take 4 (drop 5 b)) ≡ n → from_be_bytes w16 (take 2 (drop 2 b)) ≡ s → n ≤ 268435456
      → heading_of response b (Some o) ≡ Ok (record { response = response; flags = slice_index b 1; stream = cast_signed w16 s; opcode = o; length = n })
  good_header h n s is at le = rw (is_same (answers o) response h, is, at, le-ltb _ _ le) refl
