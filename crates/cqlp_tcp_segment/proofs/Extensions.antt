-- Extension headers are passed over.
use Rattle.std.proofs.Common.{◌≡◌, ℕ, zero, suc, ◌+◌, ◌-◌, ◌*◌, ◌<◌, ◌≤◌, true, false, List, [], ◌∷◌, length, drop, get_or, Ok, Err, refl, sym, ap, ◌∙◌, arith}
use Rattle.std.proofs.lemmas.Bool.{lt-ltb, le-ltb}
use Rattle.cqlp_tcp_segment.specs.declared.reason.NoSegment.TheVariants.{CutInIp, BadIpLength, Fragment}
use Rattle.cqlp_tcp_segment.specs.Fields.{number_16}
use Rattle.cqlp_tcp_segment.specs.Ip.{above, is_extension, is_part, past_extensions, unit}

-- what is left of a header is passed over, if it was captured
pub extensions_left : (left kind size : ℕ) (b : List ℕ) → left ≤ length b → past_extensions left kind size b ≡ past_extensions 0 kind size (drop left b)
extensions_left zero kind size b le = refl
extensions_left (suc left) kind size [] le = absurd (omega arith)
extensions_left (suc left) kind size (x ∷ b) le = extensions_left left kind size b (omega arith)

pub extensions_ends : (kind size : ℕ) (b : List ℕ) → is_extension kind ≡ false → past_extensions 0 kind size b ≡ Ok (above kind size b)
extensions_ends kind size [] differs = rw differs refl
extensions_ends kind size (x ∷ []) differs = rw differs refl
extensions_ends kind size (x ∷ y ∷ b) differs = rw differs refl

pub extensions_cut : (kind size : ℕ) (b : List ℕ) → is_extension kind ≡ true → length b < 2 → past_extensions 0 kind size b ≡ Err CutInIp
extensions_cut kind size [] is short = rw is refl
extensions_cut kind size (x ∷ []) is short = rw is refl
extensions_cut kind size (x ∷ y ∷ b) is short = absurd (omega arith)

pub extensions_long : (kind size : ℕ) (b : List ℕ) → is_extension kind ≡ true → 2 ≤ length b → size < 8 + unit kind * get_or b 1 0 → past_extensions 0 kind size b ≡ Err BadIpLength
extensions_long kind size [] is two long = absurd (omega arith)
extensions_long kind size (x ∷ []) is two long = absurd (omega arith)
extensions_long kind size (x ∷ y ∷ b) is two long = rw (is, lt-ltb size (8 + unit kind * y) long) refl

-- the header is longer than what was captured
pub extensions_step_cut : (kind size : ℕ) (b : List ℕ) → is_extension kind ≡ true → 2 ≤ length b → 8 + unit kind * get_or b 1 0 ≤ size → length b < 8 + unit kind * get_or b 1 0
    → past_extensions 0 kind size b ≡ Err CutInIp
extensions_step_cut kind size [] is two fits cut = absurd (omega arith)
extensions_step_cut kind size (x ∷ []) is two fits cut = absurd (omega arith)
extensions_step_cut kind size (x ∷ y ∷ b) is two fits cut =
    rw (is, le-ltb size (8 + unit kind * y) fits, lt-ltb (length b) (6 + unit kind * y) (omega arith)) refl

-- it is that of a fragment
pub extensions_part : (kind size : ℕ) (b : List ℕ) → is_extension kind ≡ true → 2 ≤ length b → 8 + unit kind * get_or b 1 0 ≤ size → 8 + unit kind * get_or b 1 0 ≤ length b → is_part kind (number_16 2 b) ≡ true
    → past_extensions 0 kind size b ≡ Err Fragment
extensions_part kind size [] is two fits all part = absurd (omega arith)
extensions_part kind size (x ∷ []) is two fits all part = absurd (omega arith)
extensions_part kind size (x ∷ y ∷ b) is two fits all part =
    rw (is, le-ltb size (8 + unit kind * y) fits, le-ltb (length b) (6 + unit kind * y) (omega arith), part) refl

-- one header, which is among the bytes that IP carries, and no fragment's
within_size : (kind size x y : ℕ) (b : List ℕ) → is_extension kind ≡ true → 8 + unit kind * y ≤ size → 6 + unit kind * y ≤ length b → is_part kind (number_16 0 b) ≡ false → past_extensions 0 kind size (x ∷ y ∷ b) ≡ past_extensions (6 + unit kind * y) x (size - (8 + unit kind * y)) b
within_size kind size x y b is fits all whole = rw (is, le-ltb size (8 + unit kind * y) fits, le-ltb (length b) (6 + unit kind * y) all, whole) refl

pub extensions_step : (kind size : ℕ) (b : List ℕ) → is_extension kind ≡ true → 2 ≤ length b → 8 + unit kind * get_or b 1 0 ≤ size → 8 + unit kind * get_or b 1 0 ≤ length b → is_part kind (number_16 2 b) ≡ false
    → past_extensions 0 (get_or b 0 0) (size - (8 + unit kind * get_or b 1 0)) (drop (8 + unit kind * get_or b 1 0) b) ≡ past_extensions 0 kind size b
extensions_step kind size [] is two fits all whole = absurd (omega arith)
extensions_step kind size (x ∷ []) is two fits all whole = absurd (omega arith)
extensions_step kind size (x ∷ y ∷ b) is two fits all whole =
    let n : 8 + unit kind * y ≡ suc (suc (6 + unit kind * y)) = omega arith in
    ap (λ (k : ℕ). past_extensions 0 x (size - (8 + unit kind * y)) (drop k (x ∷ y ∷ b))) n
    ∙ sym (within_size kind size x y b is fits (omega arith) whole ∙ extensions_left (6 + unit kind * y) x (size - (8 + unit kind * y)) b (omega arith))
