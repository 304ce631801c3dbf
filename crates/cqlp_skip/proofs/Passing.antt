-- Bytes that are passed over, and what is left of a stream after them.
use Rattle.std.proofs.Common.{◌≡◌, ℕ, ◌+◌, ◌-◌, List, [], ◌++◌, length, take, drop, sym, ap, ◌∙◌, inl, inr, arith}
use Rattle.std.specs.Prelude.{min}
use Rattle.std.proofs.lemmas.Bool.{cases_lt}
use Rattle.std.proofs.lemmas.List.{drop-append-le, drop-take, drop_all, length-append, take-append-drop, take_all}
use Rattle.std.proofs.Math.Seq.{drop-append-add}

-- of the bytes used, those of the stretch from `base` on, where the first of a piece are passed over up to there
pub behind_passed : (base : ℕ) (s input : List ℕ) (p k : ℕ) → p ≡ min (base - length s) (length input) → drop base (s ++ take (p + k) input) ≡ drop base s ++ take k (drop p input)
behind_passed base s input p k is = elim (cases_lt (length s) base) [
  | inr le ↦
      let none : p ≡ 0 = omega (arith, is, le) in
      let more : 0 + k ≡ k = omega arith in
      rw (none, more) (drop-append-le base s (take k input) le)
  | inl lt ↦ elim (cases_lt (length input) (base - length s)) [
    | inl few ↦
        let all : p ≡ length input = omega (arith, is, few) in
        let gone : drop p input ≡ [] = drop_all p input (omega (arith, all)) in
        let front : take (p + k) input ≡ input = take_all (p + k) input (omega (arith, all)) in
        let near : drop base s ≡ [] = drop_all base s (omega (arith, lt)) in
        let nothing : take {A = ℕ} k [] ≡ [] = take_all k [] (omega arith) in
        rw (front, gone, near, nothing) (drop_all base (s ++ input) (omega (arith, length-append s input, few, lt)))
    | inr enough ↦
        let there : base ≡ length s + p = omega (arith, is, lt, enough) in
        let near : drop base s ≡ [] = drop_all base s (omega (arith, lt)) in
        rw near (ap (λ (n : ℕ). drop n (s ++ take (p + k) input)) there ∙ drop-append-add s (take (p + k) input) p ∙ drop-take p k input)
  ]
]

-- the same of all bytes of a piece
pub behind_all : (base : ℕ) (s input : List ℕ) (p : ℕ) → p ≡ min (base - length s) (length input) → drop base (s ++ input) ≡ drop base s ++ drop p input
behind_all base s input p is =
    let front : take (p + length input) input ≡ input = take_all (p + length input) input (omega arith) in
    let back : take (length input) (drop p input) ≡ drop p input = take_all (length input) (drop p input) (omega (arith, ap length (take-append-drop p input), length-append (take p input) (drop p input))) in
    let both = behind_passed base s input p (length input) is in
    rw (front, back) at both

-- and what the stream has after them
pub behind_piece : (base : ℕ) (s input later : List ℕ) (p : ℕ) → p ≡ min (base - length s) (length input) → (more : List ℕ) × (drop base ((s ++ input) ++ later) ≡ (drop base s ++ drop p input) ++ more)
behind_piece base s input later p is = elim (cases_lt (length (s ++ input)) base) [
  | inr le ↦ (later, drop-append-le base (s ++ input) later le ∙ ap (λ (z : List ℕ). z ++ later) (behind_all base s input p is))
  | inl lt ↦ (drop base ((s ++ input) ++ later), ap (λ (z : List ℕ). z ++ drop base ((s ++ input) ++ later)) (sym (drop_all base (s ++ input) (omega (arith, lt))) ∙ behind_all base s input p is))
]
