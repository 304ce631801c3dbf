-- What is kept of a name.
use Rattle.std.proofs.Common.{◌≡◌, ◌∙◌, ◌≤◌, ℕ, Bool, true, false, ◌&&◌, List, ◌++◌, inl, inr, length, take, min, nat_le, refl, sym, ap, arith}
use Rattle.std.proofs.lemmas.Bool.{cases_lt, le-leb}
use Rattle.std.proofs.lemmas.List.{take_all}
use Rattle.cqlp_text.proofs.Writing.{front_of}
use Rattle.cqlp_capture_summary.specs.Names.{name, name_of}

front_kept : (n : List ℕ) (m : ℕ) → m ≡ min (length n) 256 → take m n ≡ take 256 n
front_kept n m is = elim (cases_lt (length n) 256) [
  | inl lt ↦ take_all m n (omega arith) ∙ sym (take_all 256 n (omega arith))
  | inr ge ↦ let e : m ≡ 256 = omega arith in ap (λ k. take k n) e
]

pub name_kept : (copy rest n : List ℕ) (m : ℕ) (w v : Bool) → copy ≡ take m n → m ≡ min (length n) 256 → w ≡ v → name (take (length (take m n)) (copy ++ rest)) w ≡ name (take 256 n) v
name_kept copy rest n m w v same is whole =
    ap (λ b. name b w) (front_of copy rest (length (take m n)) (ap length same) ∙ same ∙ front_kept n m is) ∙ ap (name (take 256 n)) whole

and_all : (w : Bool) → (w && true) ≡ w
and_all true = refl
and_all false = refl

-- a name that is kept whole
pub short_kept : (bytes : List ℕ) (w : Bool) → length bytes ≤ 256 → name_of bytes w ≡ name bytes w
short_kept bytes w few =
    ap (λ b. name b (w && nat_le (length bytes) 256)) (take_all 256 bytes few)
    ∙ ap (λ v. name bytes (w && v)) (le-leb (length bytes) 256 few) ∙ ap (name bytes) (and_all w)
