-- Bytes that are a text.
use Rattle.std.proofs.Common.{◌≡◌, ℕ, true, false, List}
use Rattle.std.specs.Str.{IsAscii, IsUtf8, is_utf8}
use Rattle.std.proofs.lemmas.Bool.{false_from_ne_true}
use Rattle.std.proofs.lemmas.Str.{IsUtf8-from_ascii, IsUtf8-from_is_utf8, is_utf8-from_IsUtf8}

pub utf8_true : (c : List ℕ) → IsUtf8 c → is_utf8 c ≡ true
utf8_true c u = is_utf8-from_IsUtf8 c u

pub utf8_false : (c : List ℕ) → ¬ IsUtf8 c → is_utf8 c ≡ false
utf8_false c u = false_from_ne_true (is_utf8 c) (λ t. u (IsUtf8-from_is_utf8 c t))

pub utf8_of_ascii : (c : List ℕ) → IsAscii c → is_utf8 c ≡ true
utf8_of_ascii c a = is_utf8-from_IsUtf8 c (IsUtf8-from_ascii c a)

pub utf8_known : (c : List ℕ) → is_utf8 c ≡ true → IsUtf8 c
utf8_known c t = IsUtf8-from_is_utf8 c t
