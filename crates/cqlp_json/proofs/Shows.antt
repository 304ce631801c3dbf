-- A string has no control characters.
use Rattle.std.proofs.Common.{inl, inr, ◌≡◌, ℕ, zero, suc, ◌/◌, ◌%◌, ◌<◌, ◌==◌, ◌&&◌, ◌||◌, Bool, true, false, not, List, [], ◌∷◌, ◌++◌, slice_index, refl, sym, ap, ◌∙◌, append-nil, eqb-true, arith}
use Rattle.std.proofs.lemmas.Bool.{cases_lt}
use Rattle.std.proofs.lemmas.Bool.Decides.{nat_tests}
use Rattle.hex.specs.Hex.{encode_with, lower_digits}
use Rattle.cqlp_text.specs.Text.{prints}
use Rattle.cqlp_json.specs.Strings.{is_plain, is_control, unicode, escaped, escape}
use Rattle.cqlp_json.specs.Reading.{shows}
use Rattle.cqlp_json.proofs.Escapes.{first_of, no_control}

-- ---- hexadecimal digits

abbrev digit_shows : ℕ → Bool
digit_shows k = prints (slice_index lower_digits k) && not (slice_index lower_digits k == 194)

abbrev all_below : ℕ → Bool
all_below zero = true
all_below (suc n) = digit_shows n && all_below n

both : (a b : Bool) → (a && b) ≡ true → (a ≡ true) × (b ≡ true)
both true b e = (refl, e)
both false b e = cc

below_at : (n k : ℕ) → all_below n ≡ true → k < n → digit_shows k ≡ true
below_at zero k all lt = absurd (omega arith)
below_at (suc n) k all lt =
    let parts = both (digit_shows n) (all_below n) all in
    elim (cases_lt k n) [
      | inl less ↦ below_at n k parts.1 less
      | inr top ↦
          let e : k ≡ n = omega arith in
          rw e parts.0
    ]

refuted : (d : Bool) → not d ≡ true → d ≡ false
refuted true e = sym e
refuted false e = refl

digit_at : (k : ℕ) → k < 16 → (prints (slice_index lower_digits k) ≡ true) × ((slice_index lower_digits k == 194) ≡ false)
digit_at k lt =
    let parts = both (prints (slice_index lower_digits k)) (not (slice_index lower_digits k == 194)) (below_at 16 k refl lt) in
    (parts.0, refuted (slice_index lower_digits k == 194) parts.1)

-- ---- one escape

-- what comes after the last byte of an escape shows
abbrev AllShow : List ℕ → Type 0
AllShow more = (e : ℕ) → (e == 194) ≡ false → shows e more ≡ true

no_end : (d : Bool) → (d && false) ≡ false
no_end true = refl
no_end false = refl

backslash_after : (before : ℕ) → is_control before 92 ≡ false
backslash_after before = no_end (before == 194)

unicode_shows : (before n : ℕ) (more : List ℕ) → n < 256 → AllShow more → shows before (unicode n ++ more) ≡ true
unfolding encode_with
unicode_shows before n more small later =
    let high = digit_at (n / 16) (omega arith) in
    let low = digit_at (n % 16) (omega arith) in
    rw (backslash_after before, high.0, high.1, low.0) (later (slice_index lower_digits (n % 16)) low.1)

-- a letter after a backslash
letter_shows : (before c : ℕ) (more : List ℕ) → prints c ≡ true → (c == 194) ≡ false → AllShow more → shows before (92 ∷ c ∷ more) ≡ true
letter_shows before c more printed other later = rw (backslash_after before, printed) (later c other)

abbrev ByteShows : (before b : ℕ) → List ℕ → Type 0
ByteShows before b more = shows before (escaped b ++ more) ≡ true

plain_prints : (b : ℕ) → (is_plain b || (b == 194)) ≡ true → prints b ≡ true
plain_prints b conforms = grind (arith, nat_tests)

plain_shows : (before b : ℕ) (more : List ℕ) → (is_plain b || (b == 194)) ≡ true → is_control before b ≡ false → shows b more ≡ true → ByteShows before b more
plain_shows before b more conforms other later =
    let itself : escaped b ≡ b ∷ [] = rw conforms refl in
    ap (λ t. shows before (t ++ more)) itself ∙ rw (plain_prints b conforms, other) later

known_shows : (before b k : ℕ) (more : List ℕ) → (b == k) ≡ true → ByteShows before k more → ByteShows before b more
known_shows before b k more same known = let e : b ≡ k = eqb-true b k same in rw e known

other_shows : (before b : ℕ) (more : List ℕ) → (is_plain b || (b == 194)) ≡ false → (b == 34) ≡ false → (b == 92) ≡ false → (b == 8) ≡ false → (b == 9) ≡ false → (b == 10) ≡ false → (b == 12) ≡ false → (b == 13) ≡ false → AllShow more → ByteShows before b more
other_shows before b more conforms e34 e92 e8 e9 e10 e12 e13 later =
    let low : b < 256 = grind (arith, nat_tests) in
    let itself : escaped b ≡ unicode b = rw (conforms, e34, e92, e8, e9, e10, e12, e13) refl in
    ap (λ t. shows before (t ++ more)) itself ∙ unicode_shows before b more low later

module _ (before b : ℕ) (more : List ℕ) (later : AllShow more) where
  return_shows : (d : Bool) → (b == 13) ≡ d → (is_plain b || (b == 194)) ≡ false → (b == 34) ≡ false → (b == 92) ≡ false → (b == 8) ≡ false → (b == 9) ≡ false → (b == 10) ≡ false → (b == 12) ≡ false → ByteShows before b more
  return_shows true e s e34 e92 e8 e9 e10 e12 = known_shows before b 13 more e (letter_shows before 114 more refl refl later)
  return_shows false e s e34 e92 e8 e9 e10 e12 = other_shows before b more s e34 e92 e8 e9 e10 e12 e later

  feed_shows : (d : Bool) → (b == 12) ≡ d → (is_plain b || (b == 194)) ≡ false → (b == 34) ≡ false → (b == 92) ≡ false → (b == 8) ≡ false → (b == 9) ≡ false → (b == 10) ≡ false → ByteShows before b more
  feed_shows true e s e34 e92 e8 e9 e10 = known_shows before b 12 more e (letter_shows before 102 more refl refl later)
  feed_shows false e s e34 e92 e8 e9 e10 = return_shows (b == 13) refl s e34 e92 e8 e9 e10 e

  line_shows : (d : Bool) → (b == 10) ≡ d → (is_plain b || (b == 194)) ≡ false → (b == 34) ≡ false → (b == 92) ≡ false → (b == 8) ≡ false → (b == 9) ≡ false → ByteShows before b more
  line_shows true e s e34 e92 e8 e9 = known_shows before b 10 more e (letter_shows before 110 more refl refl later)
  line_shows false e s e34 e92 e8 e9 = feed_shows (b == 12) refl s e34 e92 e8 e9 e

  tab_shows : (d : Bool) → (b == 9) ≡ d → (is_plain b || (b == 194)) ≡ false → (b == 34) ≡ false → (b == 92) ≡ false → (b == 8) ≡ false → ByteShows before b more
  tab_shows true e s e34 e92 e8 = known_shows before b 9 more e (letter_shows before 116 more refl refl later)
  tab_shows false e s e34 e92 e8 = line_shows (b == 10) refl s e34 e92 e8 e

  back_shows : (d : Bool) → (b == 8) ≡ d → (is_plain b || (b == 194)) ≡ false → (b == 34) ≡ false → (b == 92) ≡ false → ByteShows before b more
  back_shows true e s e34 e92 = known_shows before b 8 more e (letter_shows before 98 more refl refl later)
  back_shows false e s e34 e92 = tab_shows (b == 9) refl s e34 e92 e

  slash_shows : (d : Bool) → (b == 92) ≡ d → (is_plain b || (b == 194)) ≡ false → (b == 34) ≡ false → ByteShows before b more
  slash_shows true e s e34 = known_shows before b 92 more e (letter_shows before 92 more refl refl later)
  slash_shows false e s e34 = back_shows (b == 8) refl s e34 e

  quote_shows : (d : Bool) → (b == 34) ≡ d → (is_plain b || (b == 194)) ≡ false → ByteShows before b more
  quote_shows true e s = known_shows before b 34 more e (letter_shows before 34 more refl refl later)
  quote_shows false e s = slash_shows (b == 92) refl s e

  byte_by : (d : Bool) → (is_plain b || (b == 194)) ≡ d → is_control before b ≡ false → shows b more ≡ true → ByteShows before b more
  byte_by true s other next = plain_shows before b more s other next
  byte_by false s other next = quote_shows (b == 34) refl s

-- ---- a text

-- its first byte is no second byte of a control character
abbrev begins : (before : ℕ) → List ℕ → Bool
begins before [] = false
begins before (c ∷ rest) = is_control before c

begins_not : (before : ℕ) (text : List ℕ) → (before == 194) ≡ false → begins before text ≡ false
begins_not before [] other = refl
begins_not before (c ∷ rest) other = no_control before c other

abbrev TextShows : List ℕ → Type 0
TextShows text = (before : ℕ) → begins before text ≡ false → shows before (escape text) ≡ true

number_below : (b c : ℕ) → is_control b c ≡ true → c < 256
number_below b c control = grind (arith, nat_tests)

next_shows : (b c : ℕ) (text : List ℕ) (d : Bool) → is_control b c ≡ d → TextShows text → TextShows (c ∷ text) → TextShows (b ∷ c ∷ text)
next_shows b c text true control later next before other =
    ap (shows before) (first_of true b c text control) ∙ unicode_shows before c (escape text) (number_below b c control) (λ e h. later e (begins_not e text h))
next_shows b c text false control later next before other =
    ap (shows before) (first_of false b c text control)
    ∙ byte_by before b (escape (c ∷ text)) (λ e h. next e (no_control e c h)) (is_plain b || (b == 194)) refl other (next b control)

last_shows : (b : ℕ) → TextShows (b ∷ [])
last_shows b before other =
    ap (shows before) (sym (append-nil (escaped b))) ∙ byte_by before b [] (λ e h. refl) (is_plain b || (b == 194)) refl other refl

text_shows : (text : List ℕ) → TextShows text
text_shows [] = λ before other. refl
text_shows (b ∷ []) = last_shows b
text_shows (b ∷ c ∷ text) = next_shows b c text (is_control b c) refl (text_shows text) (text_shows (c ∷ text))

-- after the first quote
pub escape_shows : (text : List ℕ) → shows 34 (escape text) ≡ true
escape_shows text = text_shows text 34 (begins_not 34 text refl)
