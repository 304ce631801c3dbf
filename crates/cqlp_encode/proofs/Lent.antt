-- A content that is offered after its length, by a call of its own.
use Rattle.std.proofs.Common.{◌≡◌, ◌≤◌, ◌<◌, ◌+◌, ◌-◌, ℕ, zero, suc, Bool, List, [], ◌∷◌, ◌++◌, length, take, nat_lt, refl, sym, ◌∙◌, ap, subst, inl, inr, arith}
use Rattle.std.proofs.lemmas.List.{length-append, take-append-le, take_all}
use Rattle.std.proofs.lemmas.Bool.{cases_lt, lt-ltb, le-ltb}
use Rattle.std.specs.Io.KnownBytes.{Appends}
use Rattle.cqlp_note.specs.Streams.{counted}
use Rattle.cqlp_note.specs.Outputs.{Output, Offered}
use Rattle.cqlp_note.proofs.Appended.{appends_then}
use Rattle.cqlp_encode.specs.Encoding.{Continued}
use Rattle.cqlp_encode.proofs.Continuing.{anew}

less_zero : (n : ℕ) → n ≡ n - 0
less_zero n = omega arith

from_first : (old new : Output) (bytes : List ℕ) (n : ℕ) → Offered old bytes n new → Continued 0 old bytes n new
from_first old new bytes n o = record {
  bound = o.bound;
  from = omega arith;
  offered = subst (λ (k : ℕ). Offered old bytes k new) (less_zero n) o;
}

-- a target that failed within the first of them
pub cut_before : (old new : Output) (y b : List ℕ) (n : ℕ) → n < length y → Continued 0 old y n new → Continued 0 old (y ++ b) n new
cut_before old new y b n less c =
    let o = anew old new y n c in
    let long = length-append y b in
    let both : nat_lt n (length y) ≡ nat_lt n (length (y ++ b)) = lt-ltb n (length y) less ∙ sym (lt-ltb n (length (y ++ b)) (omega (arith, long))) in
    let first : take n y ≡ take n (y ++ b) = sym (take-append-le n y b (omega arith)) in
    from_first old new (y ++ b) n (record {
      bound = omega (arith, long);
      given = subst (λ (x : List ℕ). Appends old.given new.given x) first o.given;
      failures = o.failures ∙ ap (λ (t : Bool). counted t old.failures) both;
    })

behind : (y b : List ℕ) (k m : ℕ) → m ≡ length y + k → y ++ take k b ≡ take m (y ++ b)
behind [] b k m e = ap (λ (j : ℕ). take j b) (omega (arith, e))
behind (x ∷ y) b k zero e = absurd (omega (arith, e))
behind (x ∷ y) b k (suc m) e = ap (λ (xs : List ℕ). x ∷ xs) (behind y b k m (omega (arith, e)))

-- one that took the first, and then some of the others
pub then_others : (old mid new : Output) (y b : List ℕ) (n k : ℕ) → length y ≤ n → Continued 0 old y n mid → Continued 0 mid b k new → Continued 0 old (y ++ b) (length y + k) new
then_others old mid new y b n k all c d =
    let o = anew old mid y n c in
    let p = anew mid new b k d in
    let long = length-append y b in
    let whole : take n y ≡ y = take_all n y all in
    let sound : mid.failures ≡ old.failures = o.failures ∙ ap (λ (t : Bool). counted t old.failures) (le-ltb n (length y) all) in
    let same : nat_lt k (length b) ≡ nat_lt (length y + k) (length (y ++ b)) = elim (cases_lt k (length b)) [
      | inl lt ↦ lt-ltb k (length b) lt ∙ sym (lt-ltb (length y + k) (length (y ++ b)) (omega (arith, long)))
      | inr le ↦ le-ltb k (length b) le ∙ sym (le-ltb (length y + k) (length (y ++ b)) (omega (arith, long)))
    ] in
    from_first old new (y ++ b) (length y + k) (record {
      bound = omega (arith, long, p.bound);
      given = subst (λ (x : List ℕ). Appends old.given new.given x) (behind y b k (length y + k) refl) (appends_then old.given mid.given new.given y (take k b) (subst (λ (x : List ℕ). Appends old.given mid.given x) whole o.given) p.given);
      failures = p.failures ∙ ap (λ (f : ℕ). counted (nat_lt k (length b)) f) sound ∙ ap (λ (t : Bool). counted t old.failures) same;
    })
