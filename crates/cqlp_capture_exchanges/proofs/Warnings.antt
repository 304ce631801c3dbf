-- The warnings of a response, one after the other.
use Rattle.std.proofs.Common.{◌≡◌, ℕ, zero, suc, ◌-◌, ◌<◌, ◌≤◌, nat_lt, Bool, true, false, List, [], ◌∷◌, length, drop, Option, Some, None, refl, sym, ◌∙◌, ap, arith, if◌then◌else◌}
use Rattle.std.proofs.Math.Dec.{eqb-suc-zero}
use Rattle.cqlp_capture_exchanges.specs.Warnings.{Listed, Warned, first_of, length_at, strings, texts_in, warned_in}

-- the texts, by the first one and the others
abbrev texts_of : Option (Warned × Listed) → List Warned
texts_of None = []
texts_of (Some (w, others)) = w ∷ texts_in others

abbrev left_of : Option (Warned × Listed) → ℕ
left_of None = 0
left_of (Some (w, others)) = others.left

abbrev unless : (is_short : Bool) → Warned → Listed → Option (Warned × Listed)
unless is_short w others = if is_short then None else Some (w, others)

abbrev others_at : (n : ℕ) (b : List ℕ) → Listed
others_at n b = record { left = n - 1; bytes = drop (length_at b) (drop 2 b) }

first_at : (n : ℕ) (b : List ℕ) → first_of (record { left = suc n; bytes = b }) ≡ unless (nat_lt (length b) 2) (warned_in (length_at b) (drop 2 b)) (others_at (suc n) b)
first_at n b =
    ap (λ (t : Bool). if t then None else unless (nat_lt (length b) 2) (warned_in (length_at b) (drop 2 b)) (others_at (suc n) b)) (eqb-suc-zero n)

texts_unless : (is_short : Bool) (w : Warned) (n m : ℕ) (rest : List ℕ) → m ≡ n → (if is_short then [] else w ∷ strings n rest) ≡ texts_of (unless is_short w (record { left = m; bytes = rest }))
texts_unless true w n m rest same = refl
texts_unless false w n m rest same = ap (λ k. w ∷ strings k rest) (sym same)

texts_at : (n : ℕ) (b : List ℕ) → strings n b ≡ texts_of (first_of (record { left = n; bytes = b }))
texts_at zero b = refl
texts_at (suc n) b =
    let one_less : suc n - 1 ≡ n = omega arith in
    texts_unless (nat_lt (length b) 2) (warned_in (length_at b) (drop 2 b)) n (suc n - 1) (drop (length_at b) (drop 2 b)) one_less
    ∙ ap texts_of (sym (first_at n b))

left_unless : (is_short : Bool) (w : Warned) (others : Listed) → left_of (unless is_short w others) ≤ others.left
left_unless true w others = omega arith
left_unless false w others = omega arith

left_at : (n : ℕ) (b : List ℕ) (w : Warned) (others : Listed) → Some (w, others) ≡ first_of (record { left = n; bytes = b }) → others.left < n
left_at zero b w others is = cc
left_at (suc n) b w others is =
    let same : others.left ≡ left_of (unless (nat_lt (length b) 2) (warned_in (length_at b) (drop 2 b)) (others_at (suc n) b)) = ap left_of (is ∙ first_at n b) in
    let most : left_of (unless (nat_lt (length b) 2) (warned_in (length_at b) (drop 2 b)) (others_at (suc n) b)) ≤ suc n - 1 = left_unless (nat_lt (length b) 2) (warned_in (length_at b) (drop 2 b)) (others_at (suc n) b) in
    omega arith

-- one text, and those after it
pub texts_next : (l : Listed) (w : Warned) (others : Listed) → Some (w, others) ≡ first_of l → texts_in l ≡ w ∷ texts_in others
texts_next l w others is = texts_at l.left l.bytes ∙ ap texts_of (sym is)

-- no more texts
pub texts_end : (l : Listed) → None ≡ first_of l → texts_in l ≡ []
texts_end l is = texts_at l.left l.bytes ∙ ap texts_of (sym is)

pub fewer_left : (l : Listed) (w : Warned) (others : Listed) → Some (w, others) ≡ first_of l → others.left < l.left
fewer_left l w others is = left_at l.left l.bytes w others is
