-- Bits in bytes.
use Rattle.std.proofs.Common.{◌≡◌, ℕ, zero, suc, ◌+◌, ◌*◌, ◌/◌, ◌%◌, ◌^◌, ◌==◌, ◌<◌, ◌≤◌, Bool, true, false, List, [], ◌∷◌, ◌++◌, length, refl, ap, sym, ◌∙◌, subst, arith, add-one, get_or, take, drop, replicate, inl, inr, ◌⊎◌}
use Rattle.std.proofs.Math.ListN.{set}
use Rattle.std.proofs.Math.Nat.{pow-suc}
use Rattle.std.proofs.lemmas.List.{take_at}
use Rattle.std.proofs.lemmas.Nat.{pow_pos, pow-add}
use Rattle.std.specs.Int.{div_ceil}
use Rattle.cqlp_columns.specs.Bits.{digit, digits, number_of_bits, number_of_bytes, rounded, worth}

-- ---- zeros

pub no_bytes : (n : ℕ) → number_of_bytes (replicate n 0) ≡ 0
no_bytes zero = refl
no_bytes (suc n) = rw (no_bytes n) refl

pub ceil : (n : ℕ) → div_ceil n 8 ≡ rounded n
ceil n = grind arith

pub rounded_holds : (n : ℕ) → n ≤ 8 * rounded n
rounded_holds n = omega arith

-- the slice of a vector, which is written back
pub written : (new items : List ℕ) (n : ℕ) → n ≡ length new → take n (new ++ drop (length new) items) ≡ new
written new items n long = take_at new (drop (length new) items) n (sym long)

-- ---- powers of 2

pub pow_le : (a b : ℕ) → a ≤ b → 2 ^ a ≤ 2 ^ b
pow_le zero b h = pow_pos b
pow_le (suc a) zero h = absurd (omega (arith, h))
pow_le (suc a) (suc b) h =
    let f : a ≤ b = omega (arith, h) in
    omega (arith, pow-suc 2 a, pow-suc 2 b, pow_le a b f)

worth_suc : (b : Bool) (k : ℕ) → worth b (suc k) ≡ 2 * worth b k
worth_suc true k = omega (arith, pow-suc 2 k)
worth_suc false k = refl

pub worth_within : (b : Bool) (k : ℕ) → worth b k ≤ 2 ^ k
worth_within true k = omega arith
worth_within false k = omega arith

pub sum_below : (n k : ℕ) (b : Bool) → n < 2 ^ k → n + worth b k < 2 ^ (k + 1)
sum_below n k b h = rw add-one (omega (arith, pow-suc 2 k, worth_within b k, h))

-- ---- one more bit

pub length-digits : (k n : ℕ) → length (digits k n) ≡ k
length-digits zero n = refl
length-digits (suc k) n = ap (λ (x : ℕ). suc x) (length-digits k (n / 2))

-- by a name that a call can give
pub bits_are : (k n : ℕ) → k ≡ length (digits k n)
bits_are k n = sym (length-digits k n)

half : (k n : ℕ) (b : Bool) → (n + worth b (suc k)) / 2 ≡ n / 2 + worth b k
half k n b = omega (arith, worth_suc b k)

odd : (k n : ℕ) (b : Bool) → (n + worth b (suc k)) % 2 ≡ n % 2
odd k n b = omega (arith, worth_suc b k)

digits_more : (k n : ℕ) (b : Bool) → n < 2 ^ k → digits (suc k) (n + worth b k) ≡ digits k n ++ b ∷ []
digits_more zero n true h = let z : n ≡ 0 = omega (arith, h) in rw z refl
digits_more zero n false h = let z : n ≡ 0 = omega (arith, h) in rw z refl
digits_more (suc k) n b h =
    let less : n / 2 < 2 ^ k = omega (arith, pow-suc 2 k, h) in
    ap (λ (x : ℕ). (x == 1) ∷ digits (suc k) ((n + worth b (suc k)) / 2)) (odd k n b)
    ∙ ap (λ (x : ℕ). (n % 2 == 1) ∷ digits (suc k) x) (half k n b)
    ∙ ap (λ (x : List Bool). (n % 2 == 1) ∷ x) (digits_more k (n / 2) b less)

pub digits_pushed : (k n : ℕ) (b : Bool) → n < 2 ^ k → digits (k + 1) (n + worth b k) ≡ digits k n ++ b ∷ []
digits_pushed k n b h = ap (λ (x : ℕ). digits x (n + worth b k)) (add-one k) ∙ digits_more k n b h

-- ---- one more bit in its byte

next_byte : (i r : ℕ) → 2 ^ (8 * suc i + r) ≡ 256 * 2 ^ (8 * i + r)
next_byte i r =
    let e : 8 * suc i + r ≡ 8 + (8 * i + r) = omega arith in
    ap (λ (x : ℕ). 2 ^ x) e ∙ pow-add 2 8 (8 * i + r)

next_bits : (i : ℕ) → 2 ^ (8 * suc i) ≡ 256 * 2 ^ (8 * i)
next_bits i =
    let e : 8 * suc i ≡ 8 + 8 * i = omega arith in
    ap (λ (x : ℕ). 2 ^ x) e ∙ pow-add 2 8 (8 * i)

byte_below : (bytes : List ℕ) (i r : ℕ) → number_of_bytes bytes < 2 ^ (8 * i + r) → get_or bytes i 0 < 2 ^ r
byte_below [] i r h = pow_pos r
byte_below (b ∷ bs) zero r h =
    let e : 8 * 0 + r ≡ r = omega arith in
    let P : ℕ → Type 0 = λ (x : ℕ). number_of_bytes (b ∷ bs) < 2 ^ x in
    let f : b + 256 * number_of_bytes bs < 2 ^ r = subst P e h in
    omega (arith, f)
byte_below (b ∷ bs) (suc i) r h =
    let f : number_of_bytes bs < 2 ^ (8 * i + r) = omega (arith, next_byte i r, h) in
    byte_below bs i r f

number_set :
    (bytes : List ℕ) (i d : ℕ) → i < length bytes
    → number_of_bytes (set bytes i (get_or bytes i 0 + d)) ≡ number_of_bytes bytes + d * 2 ^ (8 * i)
number_set [] i d h = absurd (omega (arith, h))
number_set (b ∷ bs) zero d h = omega arith
number_set (b ∷ bs) (suc i) d h =
    let f : i < length bs = omega (arith, h) in
    let e : number_of_bytes (set bs i (get_or bs i 0 + d)) ≡ number_of_bytes bs + d * 2 ^ (8 * i) = number_set bs i d f in
    let g : d * 2 ^ (8 * suc i) ≡ 256 * (d * 2 ^ (8 * i)) = rw (next_bits i) (omega arith) in
    omega (arith, e, g)

-- what `1 << r` is in a byte
pub shifted : (r : ℕ) → r < 8 → 1 * 2 ^ r % 2 ^ 8 ≡ 2 ^ r
shifted zero h = refl
shifted (suc zero) h = refl
shifted (suc (suc zero)) h = refl
shifted (suc (suc (suc zero))) h = refl
shifted (suc (suc (suc (suc zero)))) h = refl
shifted (suc (suc (suc (suc (suc zero))))) h = refl
shifted (suc (suc (suc (suc (suc (suc zero)))))) h = refl
shifted (suc (suc (suc (suc (suc (suc (suc zero))))))) h = refl
shifted (suc (suc (suc (suc (suc (suc (suc (suc r)))))))) h = absurd (omega (arith, h))

in_byte : (at : ℕ) → 8 * (at / 8) + at % 8 ≡ at
in_byte at = omega arith

pub bit_fits : (bytes : List ℕ) (at : ℕ) → number_of_bytes bytes < 2 ^ at → get_or bytes (at / 8) 0 + (1 * 2 ^ (at % 8) % 2 ^ 8) < 256
bit_fits bytes at h =
    let P : ℕ → Type 0 = λ (x : ℕ). number_of_bytes bytes < 2 ^ x in
    let below : get_or bytes (at / 8) 0 < 2 ^ (at % 8) = byte_below bytes (at / 8) (at % 8) (subst P (sym (in_byte at)) h) in
    let small : at % 8 ≤ 7 = omega arith in
    let e : (1 * 2 ^ (at % 8) % 2 ^ 8) ≡ 2 ^ (at % 8) = shifted (at % 8) (omega arith) in
    let most : 2 ^ (at % 8) ≤ 128 = pow_le (at % 8) 7 small in
    omega (arith, below, e, most)

pub bit_added :
    (bytes : List ℕ) (at : ℕ) → at < 8 * length bytes
    → number_of_bytes (set bytes (at / 8) (get_or bytes (at / 8) 0 + (1 * 2 ^ (at % 8) % 2 ^ 8))) ≡ number_of_bytes bytes + 2 ^ at
bit_added bytes at h =
    let e : (1 * 2 ^ (at % 8) % 2 ^ 8) ≡ 2 ^ (at % 8) = shifted (at % 8) (omega arith) in
    let within : at / 8 < length bytes = omega (arith, h) in
    let sums : 2 ^ (8 * (at / 8) + at % 8) ≡ 2 ^ (8 * (at / 8)) * 2 ^ (at % 8) = pow-add 2 (8 * (at / 8)) (at % 8) in
    let whole : 2 ^ (8 * (at / 8) + at % 8) ≡ 2 ^ at = ap (λ (x : ℕ). 2 ^ x) (in_byte at) in
    let product : (1 * 2 ^ (at % 8) % 2 ^ 8) * 2 ^ (8 * (at / 8)) ≡ 2 ^ at = rw e (omega (arith, sums, whole)) in
    omega (arith, number_set bytes (at / 8) (1 * 2 ^ (at % 8) % 2 ^ 8) within, product)

-- ---- the bytes that have the bits

half_spells : (n : ℕ) → digit (n % 2 == 1) + 2 * (n / 2) ≡ n
half_spells n =
    elim (cases (n % 2) (omega arith)) [
      | inl e ↦ rw e (omega (arith, e))
      | inr e ↦ rw e (omega (arith, e))
    ]
  where
    cases : (r : ℕ) → r < 2 → (r ≡ 0) ⊎ (r ≡ 1)
    cases zero h = inl refl
    cases (suc zero) h = inr refl
    cases (suc (suc r)) h = absurd (omega (arith, h))

digits_spell : (k n : ℕ) → n < 2 ^ k → number_of_bits (digits k n) ≡ n
digits_spell zero n h = omega (arith, h)
digits_spell (suc k) n h =
    let less : n / 2 < 2 ^ k = omega (arith, pow-suc 2 k, h) in
    ap (λ (x : ℕ). digit (n % 2 == 1) + 2 * x) (digits_spell k (n / 2) less) ∙ half_spells n

number_taken : (bytes : List ℕ) (m : ℕ) → number_of_bytes bytes < 2 ^ (8 * m) → number_of_bytes (take m bytes) ≡ number_of_bytes bytes
number_taken [] zero h = refl
number_taken [] (suc m) h = refl
number_taken (b ∷ bs) zero h = omega (arith, h)
number_taken (b ∷ bs) (suc m) h =
    let f : number_of_bytes bs < 2 ^ (8 * m) = omega (arith, next_bits m, h) in
    ap (λ (x : ℕ). b + 256 * x) (number_taken bs m f)

pub front_spells : (bytes : List ℕ) (k : ℕ) → number_of_bytes bytes < 2 ^ k → number_of_bytes (take (rounded k) bytes) ≡ number_of_bits (digits k (number_of_bytes bytes))
front_spells bytes k h =
    let more : 2 ^ k ≤ 2 ^ (8 * rounded k) = pow_le k (8 * rounded k) (rounded_holds k) in
    let f : number_of_bytes bytes < 2 ^ (8 * rounded k) = omega (arith, more, h) in
    number_taken bytes (rounded k) f ∙ sym (digits_spell k (number_of_bytes bytes) h)
