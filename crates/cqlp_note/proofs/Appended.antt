-- A target that takes the first bytes, call after call.
use Rattle.std.proofs.Common.{◌≡◌, ◌≢◌, ◌==◌, ◌&&◌, nat_lt, ℕ, ◌-◌, ◌+◌, ◌<◌, ◌≤◌, Bool, drop, false, List, ◌++◌, length, take, Option, Some, None, sym, ◌∙◌, ap, append_assoc, arith}
use Rattle.std.proofs.lemmas.Grind.{common_steps}
use Rattle.std.proofs.Math.Seq.{take-add}
use Rattle.std.proofs.lemmas.Bool.Decides.{nat_tests}
use Rattle.std.specs.Io.KnownBytes.{Appends}
use Rattle.cqlp_note.specs.Streams.{counted}

pub appends_then : (a b c : Option (List ℕ)) (x y : List ℕ) → Appends a b x → Appends b c y → Appends a c (x ++ y)
appends_then None b c x y first second = tt
appends_then (Some t) None c x y first second = absurd first
appends_then (Some t) (Some u) None x y first second = absurd second
appends_then (Some t) (Some u) (Some v) x y first second = second ∙ ap (λ k. k ++ y) first ∙ append_assoc t x y

-- the first i and n more
pub take_more : (i n : ℕ) (bytes : List ℕ) → i ≤ length bytes → take (i + n) bytes ≡ take i bytes ++ take n (take (length bytes - i) (drop i bytes))
take_more i n bytes within =
    let later : take (length bytes - i) (drop i bytes) ≡ drop i bytes = grind (arith, common_steps) in
    take-add i n bytes ∙ ap (λ t. take i bytes ++ take n t) (sym later)

took_some_at : (n len : ℕ) → n ≢ 0 → ((n == 0) && nat_lt 0 len) ≡ false
took_some_at n len some = grind (arith, nat_tests)

-- a call that took some bytes is no failure
pub took_some : (n len f f' : ℕ) → n ≢ 0 → f' ≡ counted ((n == 0) && nat_lt 0 len) f → f' ≡ f
took_some n len f f' some reported = reported ∙ ap (λ (t : Bool). counted t f) (took_some_at n len some)

-- a call behind the first bytes takes all that is left exactly where all of them were taken then
pub takes_rest : (sent n len left : ℕ) → sent < len → left ≡ len - sent → (n == left) ≡ (nat_lt 0 len && ((sent + n) == len))
takes_rest sent n len left before rest = grind (arith, nat_tests)

-- before the last bytes are taken, not all are
pub some_left : (sent len : ℕ) → sent < len → (nat_lt 0 len && (sent == len)) ≡ false
some_left sent len before = grind (arith, nat_tests)

-- a call that takes nothing does not take all that is left
pub takes_none : (sent n len left : ℕ) → sent < len → left ≡ len - sent → n ≡ 0 → (n == left) ≡ false
takes_none sent n len left before rest none = grind (arith, nat_tests)
