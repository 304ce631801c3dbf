-- The laws of every reader, by one induction each.
use Rattle.std.proofs.Common.{◌≡◌, ℕ, ◌+◌, ◌-◌, ◌≤◌, List, ◌++◌, length, take, drop, sym, inl, inr, append_assoc, arith}
use Rattle.std.proofs.lemmas.Bool.{cases_lt, lt-ltb, le-ltb}
use Rattle.std.proofs.lemmas.List.{take-append-le, drop-append-le, length-append, length-drop, length-take-le, take-take, drop-take, take-append-drop, append-nil}
use Rattle.cqlp_note.specs.Reader.{Said, More, Got, Bad, Reader, Gives, Refuses, Takes, Idles, says}

-- What was said stays, and no more than n bytes are used.
pub data Stays {A F : Type 0} (n : ℕ) : Said A F → Said A F → Type 0 where
  waits : {d : Said A F} → Stays n More d
  fails : {why : F} → Stays n (Bad why) (Bad why)
  gets : {v : A} {k : ℕ} → k ≤ n → Stays n (Got v k) (Got v k)

pub says_stays : {A F : Type 0} (r : Reader A F) (taken : ℕ) (bytes t : List ℕ) → Stays (taken + length bytes) (says r taken bytes) (says r taken (bytes ++ t))
says_stays (Gives v) taken bytes t = gets (omega arith)
says_stays (Refuses why) taken bytes t = fails
says_stays Idles taken bytes t = waits
says_stays (Takes n next) taken bytes t = elim (cases_lt (length bytes) n) [
  | inl lt ↦ rw (lt-ltb _ _ lt) waits
  | inr le ↦
      let enough : n ≤ length (bytes ++ t) = omega (arith, length-append bytes t) in
      let all : (taken + n) + length (drop n bytes) ≡ taken + length bytes = omega (arith, length-drop n bytes) in
      rw (le-ltb _ _ le, le-ltb _ _ enough, take-append-le n bytes t le, drop-append-le n bytes t le)
      (rw all at (says_stays (next (take n bytes)) (taken + n) (drop n bytes) t))
]

-- What holds of each value and of the bytes by which it is given.
abbrev pub Always : {A F : Type 0} → (A → List ℕ → Type 0) → Reader A F → (before : List ℕ) → Type 0
Always P (Gives v) before = P v before
Always P (Refuses why) before = Unit {0}
Always P Idles before = Unit {0}
Always P (Takes n next) before = (c : List ℕ) → length c ≡ n → Always P (next c) (before ++ c)

take_two : (k n : ℕ) (bytes : List ℕ) → take (k + n) bytes ≡ take k bytes ++ take n (drop k bytes)
take_two k n bytes = sym (rw (take-take k (k + n) bytes (omega arith), drop-take k n bytes) at (take-append-drop k (take (k + n) bytes)))

-- So it holds of what is said, and of the bytes taken.
module _ {A F : Type 0} (P : A → List ℕ → Type 0) where
  pub says_always : (r : Reader A F) (before bytes : List ℕ) (v : A) (k : ℕ) → Always P r before → says r (length before) bytes ≡ Got v k → (length before ≤ k) × P v (before ++ take (k - length before) bytes)
  says_always (Gives w) before bytes v k h s =
      let a : w ≡ v = cc in
      let b : length before ≡ k = cc in
      let none : k - length before ≡ 0 = omega arith in
      (omega arith, rw (none, append-nil before) (rw a at h))
  says_always (Refuses why) before bytes v k h s = absurd cc
  says_always Idles before bytes v k h s = absurd cc
  says_always (Takes n next) before bytes v k h s = elim (cases_lt (length bytes) n) [
    | inl lt ↦ let no : ◌≡◌ {A = Said A F} More (Got v k) = rw (lt-ltb _ _ lt) at s in absurd cc
    | inr le ↦
        let long : length (take n bytes) ≡ n = length-take-le n bytes le in
        let both : length before + n ≡ length (before ++ take n bytes) = omega (arith, length-append before (take n bytes)) in
        let later = says_always (next (take n bytes)) (before ++ take n bytes) (drop n bytes) v k (h (take n bytes) long) (rw (le-ltb _ _ le, both) at s) in
        let split : k - length before ≡ n + (k - length (before ++ take n bytes)) = omega (arith, later.0) in
        (omega (arith, later.0), rw (split, take_two n (k - length (before ++ take n bytes)) bytes, ← (append_assoc before (take n bytes) (take (k - length (before ++ take n bytes)) (drop n bytes)))) later.1)
  ]
