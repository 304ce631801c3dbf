-- Texts in which bytes are doubled, in parts.
use Rattle.std.proofs.Common.{◌≡◌, ℕ, zero, suc, ◌+◌, ◌-◌, ◌<◌, ◌≤◌, ◌==◌, ◌&&◌, ◌||◌, Bool, true, false, if◌then◌else◌, List, [], ◌∷◌, ◌++◌, length, take, drop, slice_index, refl, sym, ap, ◌∙◌, append-nil, arith}
use Rattle.std.proofs.lemmas.Grind.{common_steps}
use Rattle.std.proofs.lemmas.Simd.{get_or-chunk}
use lib.Lanes.{chunk}
use Rattle.cqlp_text.proofs.Blocks.{NoneOf}
use Rattle.cqlp_row_text.specs.Quotes.{doubled, is_mark}

-- a byte as it is written
abbrev byte_text : (a b x : ℕ) → List ℕ
byte_text a b x = if is_mark a b x then x ∷ x ∷ [] else x ∷ []

-- one byte, and those after it
pub byte_first : (a b : ℕ) (xs : List ℕ) (x : ℕ) (rest : List ℕ) → xs ≡ x ∷ rest → doubled a b xs ≡ doubled a b (x ∷ []) ++ doubled a b rest
byte_first a b xs x rest e = ap (doubled a b) e ∙ ap (λ t. t ++ doubled a b rest) (sym (append-nil (byte_text a b x)))

plain_byte : (a b x : ℕ) → is_mark a b x ≡ false → byte_text a b x ≡ x ∷ []
plain_byte a b x plain = rw plain refl

-- bytes of which none is doubled are written as they are
pub plain_front : (a b : ℕ) (xs : List ℕ) (n : ℕ) → n ≤ length xs → ((k : ℕ) → k < n → is_mark a b (slice_index xs k) ≡ false) → doubled a b xs ≡ take n xs ++ doubled a b (drop n xs)
plain_front a b [] zero within none = refl
plain_front a b [] (suc n) within none = absurd (omega arith)
plain_front a b (x ∷ xs) zero within none = refl
plain_front a b (x ∷ xs) (suc n) within none =
    ap (λ t. t ++ doubled a b xs) (plain_byte a b x (none 0 (omega arith)))
    ∙ ap (λ t. x ∷ t) (plain_front a b xs n (omega arith) (λ k lt. none (suc k) (omega arith)))

-- the rest as a slice has it
pub front_taken : (a b : ℕ) (xs : List ℕ) (n : ℕ) → n ≤ length xs → ((k : ℕ) → k < n → is_mark a b (slice_index xs k) ≡ false) → doubled a b xs ≡ take n xs ++ doubled a b (take (length xs - n) (drop n xs))
front_taken a b xs n within none =
    let later : take (length xs - n) (drop n xs) ≡ drop n xs = grind (arith, common_steps) in
    plain_front a b xs n within none ∙ ap (λ t. take n xs ++ doubled a b t) (sym later)

both : (c d : Bool) → (c && d) ≡ true → (c ≡ true) × (d ≡ true)
both true d e = (refl, e)
both false d e = cc

neither : (a b x : ℕ) → (x == a) ≡ false → (x == b) ≡ false → is_mark a b x ≡ false
neither a b x first second = rw (first, second) refl

-- none of the bytes from at on that were looked at is doubled
pub plain_block : (a b : ℕ) (xs : List ℕ) (at : ℕ) (c d : Bool) → (c ≡ true → NoneOf (λ x. x == a) (chunk at 16 xs)) → (d ≡ true → NoneOf (λ x. x == b) (chunk at 16 xs)) → (c && d) ≡ true → (k : ℕ) → at ≤ k → k < at + 16 → is_mark a b (slice_index xs k) ≡ false
plain_block a b xs at c d first second all k from below =
    let two = both c d all in
    let j = k - at in
    let near : j < 16 = omega arith in
    let place : at + j ≡ k = omega arith in
    let same : slice_index (chunk at 16 xs) j ≡ slice_index xs k = get_or-chunk at 16 xs j 0 near ∙ ap (λ i. slice_index xs i) place in
    ap (is_mark a b) (sym same) ∙ neither a b (slice_index (chunk at 16 xs) j) (first two.0 j near) (second two.1 j near)
