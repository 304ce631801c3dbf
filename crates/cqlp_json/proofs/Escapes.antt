-- The escapes of a text, one after the other.
use Rattle.std.proofs.Common.{◌≡◌, ℕ, suc, ◌+◌, ◌-◌, ◌<◌, ◌≤◌, ◌==◌, ◌&&◌, Bool, true, false, cond, not, nat_le, if◌then◌else◌, List, [], ◌∷◌, ◌++◌, length, take, drop, refl, sym, ap, ◌∙◌, append-nil, arith}
use Rattle.std.proofs.lemmas.Grind.{common_steps}
use Rattle.std.specs.List.{prefix_len}
use Rattle.cqlp_json.specs.Strings.{is_plain, is_control, unicode, escaped, escape, front, front_len}

-- ---- plain bytes

-- how many bytes come before the first that may need an escape
abbrev plain_count : List ℕ → ℕ
plain_count [] = 0
plain_count (b ∷ xs) = if is_plain b then suc (plain_count xs) else 0

count_by : (d : Bool) (p k : ℕ) → p ≡ k → cond d (1 + p) 0 ≡ (if d then suc k else 0)
count_by true p k same = omega arith
count_by false p k same = refl

prefix_is_count : (xs : List ℕ) → prefix_len is_plain xs ≡ plain_count xs
prefix_is_count [] = refl
prefix_is_count (b ∷ xs) = count_by (is_plain b) _ _ (prefix_is_count xs)

last_of : (a b : Bool) → (a && not b) ≡ true → b ≡ false
last_of true true e = cc
last_of true false e = refl
last_of false b e = cc

-- a plain byte begins no control character
plain_is_not_lead : (b : ℕ) → is_plain b ≡ true → (b == 194) ≡ false
plain_is_not_lead b plain = last_of (nat_le 32 b && not (b == 34) && not (b == 92) && not (b == 127)) (b == 194) plain

-- ---- the first of two bytes or more

pub first_of : (d : Bool) (b c : ℕ) (rest : List ℕ) → is_control b c ≡ d → escape (b ∷ c ∷ rest) ≡ (if d then unicode c else escaped b) ++ escape (drop (if d then 2 else 1) (b ∷ c ∷ rest))
first_of true b c rest control = rw control refl
first_of false b c rest control = rw control refl

itself : (b : ℕ) → is_plain b ≡ true → escaped b ≡ b ∷ []
itself b plain = rw plain refl

pub no_control : (b c : ℕ) → (b == 194) ≡ false → is_control b c ≡ false
no_control b c other = rw other refl

plain_first : (b : ℕ) (xs : List ℕ) → is_plain b ≡ true → escape (b ∷ xs) ≡ b ∷ escape xs
plain_first b [] plain = itself b plain
plain_first b (c ∷ rest) plain = first_of false b c rest (no_control b c (plain_is_not_lead b plain)) ∙ ap (λ t. t ++ escape (c ∷ rest)) (itself b plain)

plain_step : (b : ℕ) (xs : List ℕ) (k : ℕ) (d : Bool) → is_plain b ≡ d → escape xs ≡ take k xs ++ escape (drop k xs) → escape (b ∷ xs) ≡ take (if d then suc k else 0) (b ∷ xs) ++ escape (drop (if d then suc k else 0) (b ∷ xs))
plain_step b xs k true plain later = plain_first b xs plain ∙ ap (λ t. b ∷ t) later
plain_step b xs k false plain later = refl

plain_prefix : (xs : List ℕ) → escape xs ≡ take (plain_count xs) xs ++ escape (drop (plain_count xs) xs)
plain_prefix [] = refl
plain_prefix (b ∷ xs) = plain_step b xs (plain_count xs) (is_plain b) refl (plain_prefix xs)

-- the bytes before the first that may need an escape are written as they are
pub plain_front : (xs : List ℕ) (n : ℕ) → n ≡ prefix_len is_plain xs → escape xs ≡ take n xs ++ escape (take (length xs - n) (drop n xs))
plain_front xs n is_n =
    let count : n ≡ plain_count xs = is_n ∙ prefix_is_count xs in
    let later : take (length xs - n) (drop n xs) ≡ drop n xs = grind (arith, common_steps) in
    plain_prefix xs ∙ ap (λ k. take k xs ++ escape (drop k xs)) (sym count) ∙ ap (λ t. take n xs ++ escape t) (sym later)

-- ---- the first escape

-- the first escape, and those of what is behind it
pub front_first : (xs : List ℕ) → escape xs ≡ front xs ++ escape (drop (front_len xs) xs)
front_first [] = refl
front_first (b ∷ []) = sym (append-nil (escaped b))
front_first (b ∷ c ∷ rest) = first_of (is_control b c) b c rest refl

len_of : (d : Bool) (b c : ℕ) (rest : List ℕ) → (if d then 2 else 1) ≤ length (b ∷ c ∷ rest)
len_of true b c rest = omega arith
len_of false b c rest = omega arith

-- it is for no more bytes than there are
pub front_within : (xs : List ℕ) → front_len xs ≤ length xs
front_within [] = omega arith
front_within (b ∷ []) = omega arith
front_within (b ∷ c ∷ rest) = len_of (is_control b c) b c rest

some_of : (d : Bool) → 0 < (if d then 2 else 1)
some_of true = omega arith
some_of false = omega arith

-- and for some where there are some
pub front_some : (xs : List ℕ) → 0 < length xs → 0 < front_len xs
front_some [] some = absurd (omega arith)
front_some (b ∷ []) some = omega arith
front_some (b ∷ c ∷ rest) some = some_of (is_control b c)

-- the first escape, and those of what is left after its bytes
pub front_next : (xs : List ℕ) (n : ℕ) → n ≡ front_len xs → escape xs ≡ front xs ++ escape (take (length xs - n) (drop n xs))
front_next xs n is_n =
    let later : take (length xs - n) (drop n xs) ≡ drop n xs = grind (arith, common_steps) in
    front_first xs ∙ ap (λ k. front xs ++ escape (drop k xs)) (sym is_n) ∙ ap (λ t. front xs ++ escape t) (sym later)
