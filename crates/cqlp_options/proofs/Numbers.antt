-- What the parser's readers say of an option, by its text.
use Rattle.std.proofs.Common.{◌≡◌, ℕ, ◌^◌, ◌<◌, List, Option, Some, None, Result, Ok, Err, sym, subst}
use Rattle.std.specs.Str.Parse.{ParsesUnsigned}
use Rattle.clap.specs.Words.{ReadsOne, Text}
use Rattle.cqlp_options.specs.Matched.{ReadsNumber}

pub number_read : {E : Type 0} {G : List ℕ → Result ℕ E → Type 0} (bits : ℕ) (found one : Option Text) (n : Option ℕ)
    → one ≡ found → (one ≡ None → n ≡ None) → ((t : List ℕ) → one ≡ Some t → ReadsOne G t n)
    → ((t : List ℕ) (r : Result ℕ E) → G t r → ParsesUnsigned bits 10 t r) → ReadsNumber bits found n
number_read bits None one n is none some parses = subst (λ (m : Option ℕ). ReadsNumber bits None m) (sym (none is)) tt
number_read bits (Some t) one None is none some parses =
    let bad = some t is in
    λ n writes. parses t (Err bad.0) bad.1 (writes.0, subst (λ m. m < 2 ^ bits) writes.1 writes.2)
number_read bits (Some t) one (Some n) is none some parses =
    let good = parses t (Ok n) (some t is) in
    (good.0.0, good.1, subst (λ m. m < 2 ^ bits) (sym good.1) good.0.1)
