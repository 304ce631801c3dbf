-- A string is read back.
use Rattle.std.proofs.Common.{◌≡◌, ℕ, ◌+◌, ◌*◌, ◌/◌, ◌%◌, ◌<◌, ◌≤◌, ◌==◌, ◌||◌, Bool, true, false, nat_lt, List, [], ◌∷◌, ◌++◌, Some, slice_index, refl, sym, ap, ◌∙◌, append_assoc, eqb-true, arith}
use Rattle.std.proofs.lemmas.Bool.Decides.{nat_tests}
use Rattle.std.specs.Prelude.{encode_utf8}
use lib.Utf8.{encode}
use Rattle.hex.specs.Hex.{encode_with, hex_digit_value, lower_digits}
use Rattle.hex.proofs.HexLemmas.{IsDigits-lower_digits}
use Rattle.cqlp_json.specs.Strings.{is_plain, is_control, unicode, escaped, escape}
use Rattle.cqlp_json.specs.Reading.{Text, after, read}
use Rattle.cqlp_json.proofs.Escapes.{first_of}

-- a character by its number
unicode_read : (n : ℕ) (more : List ℕ) → n < 256 → read Text (unicode n ++ more) ≡ after (encode_utf8 n) (read Text more)
unfolding encode_with
unicode_read n more small =
    let high : hex_digit_value (slice_index lower_digits (n / 16)) ≡ Some (n / 16) = IsDigits-lower_digits (n / 16) (omega arith) in
    let low : hex_digit_value (slice_index lower_digits (n % 16)) ≡ Some (n % 16) = IsDigits-lower_digits (n % 16) (omega arith) in
    let whole : 16 * (16 * (16 * 0 + 0) + n / 16) + n % 16 ≡ n = omega arith in
    rw (high, low) (ap (λ k. after (encode_utf8 k) (read Text more)) whole)

utf8_of_low : (n : ℕ) → n < 128 → encode_utf8 n ≡ n ∷ []
unfolding encode
utf8_of_low n low = grind (arith, nat_tests)

utf8_of_control : (n : ℕ) → 128 ≤ n → n < 160 → encode_utf8 n ≡ 194 ∷ n ∷ []
unfolding encode
utf8_of_control n from below =
    let lead : 192 + n / 64 ≡ 194 = omega arith in
    let next : 128 + n % 64 ≡ n = omega arith in
    grind (arith, nat_tests)

-- a byte
abbrev IsRead : ℕ → List ℕ → Type 0
IsRead b more = read Text (escaped b ++ more) ≡ after (b ∷ []) (read Text more)

known_read : (b k : ℕ) (more : List ℕ) → (b == k) ≡ true → IsRead k more → IsRead b more
known_read b k more same known = let e : b ≡ k = eqb-true b k same in rw e known

plain_read : (b : ℕ) (more : List ℕ) → (is_plain b || (b == 194)) ≡ true → IsRead b more
plain_read b more conforms =
    let quote : (b == 34) ≡ false = grind (arith, nat_tests) in
    let backslash : (b == 92) ≡ false = grind (arith, nat_tests) in
    let low : nat_lt b 32 ≡ false = grind (arith, nat_tests) in
    rw (conforms, quote, backslash, low) refl

other_read : (b : ℕ) (more : List ℕ) → (is_plain b || (b == 194)) ≡ false → (b == 34) ≡ false → (b == 92) ≡ false → (b == 8) ≡ false → (b == 9) ≡ false → (b == 10) ≡ false → (b == 12) ≡ false → (b == 13) ≡ false → IsRead b more
other_read b more conforms quote backslash e8 e9 e10 e12 e13 =
    let low : b < 128 = grind (arith, nat_tests) in
    rw (conforms, quote, backslash, e8, e9, e10, e12, e13) (unicode_read b more (omega arith) ∙ ap (λ t. after t (read Text more)) (utf8_of_low b low))

module _ (b : ℕ) (more : List ℕ) where
  return_read : (d : Bool) → (b == 13) ≡ d → (is_plain b || (b == 194)) ≡ false → (b == 34) ≡ false → (b == 92) ≡ false → (b == 8) ≡ false → (b == 9) ≡ false → (b == 10) ≡ false → (b == 12) ≡ false → IsRead b more
  return_read true e s e34 e92 e8 e9 e10 e12 = known_read b 13 more e refl
  return_read false e s e34 e92 e8 e9 e10 e12 = other_read b more s e34 e92 e8 e9 e10 e12 e

  feed_read : (d : Bool) → (b == 12) ≡ d → (is_plain b || (b == 194)) ≡ false → (b == 34) ≡ false → (b == 92) ≡ false → (b == 8) ≡ false → (b == 9) ≡ false → (b == 10) ≡ false → IsRead b more
  feed_read true e s e34 e92 e8 e9 e10 = known_read b 12 more e refl
  feed_read false e s e34 e92 e8 e9 e10 = return_read (b == 13) refl s e34 e92 e8 e9 e10 e

  line_read : (d : Bool) → (b == 10) ≡ d → (is_plain b || (b == 194)) ≡ false → (b == 34) ≡ false → (b == 92) ≡ false → (b == 8) ≡ false → (b == 9) ≡ false → IsRead b more
  line_read true e s e34 e92 e8 e9 = known_read b 10 more e refl
  line_read false e s e34 e92 e8 e9 = feed_read (b == 12) refl s e34 e92 e8 e9 e

  tab_read : (d : Bool) → (b == 9) ≡ d → (is_plain b || (b == 194)) ≡ false → (b == 34) ≡ false → (b == 92) ≡ false → (b == 8) ≡ false → IsRead b more
  tab_read true e s e34 e92 e8 = known_read b 9 more e refl
  tab_read false e s e34 e92 e8 = line_read (b == 10) refl s e34 e92 e8 e

  back_read : (d : Bool) → (b == 8) ≡ d → (is_plain b || (b == 194)) ≡ false → (b == 34) ≡ false → (b == 92) ≡ false → IsRead b more
  back_read true e s e34 e92 = known_read b 8 more e refl
  back_read false e s e34 e92 = tab_read (b == 9) refl s e34 e92 e

  slash_read : (d : Bool) → (b == 92) ≡ d → (is_plain b || (b == 194)) ≡ false → (b == 34) ≡ false → IsRead b more
  slash_read true e s e34 = known_read b 92 more e refl
  slash_read false e s e34 = back_read (b == 8) refl s e34 e

  quote_read : (d : Bool) → (b == 34) ≡ d → (is_plain b || (b == 194)) ≡ false → IsRead b more
  quote_read true e s = known_read b 34 more e refl
  quote_read false e s = slash_read (b == 92) refl s e

  byte_by : (d : Bool) → (is_plain b || (b == 194)) ≡ d → IsRead b more
  byte_by true s = plain_read b more s
  byte_by false s = quote_read (b == 34) refl s

byte_read : (b : ℕ) (more : List ℕ) → IsRead b more
byte_read b more = byte_by b more (is_plain b || (b == 194)) refl

-- ---- a text

-- the numbers of a control character
numbers_of : (b c : ℕ) → is_control b c ≡ true → (b ≡ 194) × (128 ≤ c) × (c < 160)
numbers_of b c control = (grind (arith, nat_tests), grind (arith, nat_tests), grind (arith, nat_tests))

next_read : (b c : ℕ) (text rest : List ℕ) (d : Bool) → is_control b c ≡ d → read Text (escape text ++ 34 ∷ rest) ≡ Some (text, rest) → read Text (escape (c ∷ text) ++ 34 ∷ rest) ≡ Some (c ∷ text, rest) → read Text (escape (b ∷ c ∷ text) ++ 34 ∷ rest) ≡ Some (b ∷ c ∷ text, rest)
next_read b c text rest true control later next =
    let n = numbers_of b c control in
    let spelled : encode_utf8 c ≡ b ∷ c ∷ [] = utf8_of_control c n.1 n.2 ∙ ap (λ k. k ∷ c ∷ []) (sym n.0) in
    ap (λ t. read Text (t ++ 34 ∷ rest)) (first_of true b c text control) ∙ ap (read Text) (append_assoc (unicode c) (escape text) (34 ∷ rest)) ∙ unicode_read c (escape text ++ 34 ∷ rest) (omega (arith, n.2)) ∙ ap (after (encode_utf8 c)) later ∙ ap (λ t. Some (t ++ text, rest)) spelled
next_read b c text rest false control later next =
    ap (λ t. read Text (t ++ 34 ∷ rest)) (first_of false b c text control) ∙ ap (read Text) (append_assoc (escaped b) (escape (c ∷ text)) (34 ∷ rest)) ∙ byte_read b (escape (c ∷ text) ++ 34 ∷ rest) ∙ ap (after (b ∷ [])) next

pub reads_back : (text rest : List ℕ) → read Text (escape text ++ 34 ∷ rest) ≡ Some (text, rest)
reads_back [] rest = refl
reads_back (b ∷ []) rest = byte_read b (34 ∷ rest)
reads_back (b ∷ c ∷ text) rest = next_read b c text rest (is_control b c) refl (reads_back text rest) (reads_back (c ∷ text) rest)
