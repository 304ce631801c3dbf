-- Bytes of which the first are there from before.
use Rattle.std.proofs.Common.{◌≡◌, ◌≤◌, ◌-◌, ℕ, zero, suc, List, [], ◌∷◌, ◌++◌, length, take, drop, min, nat_lt, refl, sym, ◌∙◌, ap, subst, inl, inr, arith}
use Rattle.std.proofs.lemmas.List.{length-take-le, take_all, take-append-drop}
use Rattle.std.specs.Io.KnownBytes.{Appends}
use Rattle.cqlp_note.proofs.Appended.{appends_then}
use Rattle.std.proofs.lemmas.Bool.{cases_lt, lt-ltb, le-ltb}
use Rattle.cqlp_note.specs.Outputs.{Output, Offered}
use Rattle.cqlp_encode.specs.Encoding.{Continued}

pub drop_nil : (s : ℕ) → ◌≡◌ {A = List ℕ} (drop s []) []
drop_nil zero = refl
drop_nil (suc s) = refl

take_nil : (k : ℕ) → ◌≡◌ {A = List ℕ} (take k []) []
take_nil zero = refl
take_nil (suc k) = refl

sub_zero : (n : ℕ) → n - 0 ≡ n
sub_zero n = omega arith

pub drop_both : (s : ℕ) (xs ys : List ℕ) → drop s (xs ++ ys) ≡ drop s xs ++ drop (s - length xs) ys
drop_both s [] ys = rw (sub_zero s, drop_nil s) refl
drop_both zero (x ∷ xs) ys = let none : zero - length (x ∷ xs) ≡ 0 = omega arith in rw none refl
drop_both (suc s) (x ∷ xs) ys = let less : suc s - length (x ∷ xs) ≡ s - length xs = omega arith in rw less (drop_both s xs ys)

-- the first n, but for the first s of them
pub rest_taken : (s n : ℕ) (xs : List ℕ) → take (n - s) (drop s xs) ≡ drop s (take n xs)
rest_taken zero n xs = rw (sub_zero n) refl
rest_taken (suc s) zero xs = let none : 0 - suc s ≡ 0 = omega arith in rw none (sym (drop_nil (suc s)))
rest_taken (suc s) (suc n) [] = take_nil (suc n - suc s)
rest_taken (suc s) (suc n) (x ∷ xs) = let less : suc n - suc s ≡ n - s = omega arith in rw less (rest_taken s n xs)

-- a target that has nothing from before
pub anew : (old new : Output) (bytes : List ℕ) (n : ℕ) → Continued 0 old bytes n new → Offered old bytes n new
anew old new bytes n c = rw (sub_zero n) at c.offered

-- it stopped before the end, or did not
pub stops_alike : (s n len : ℕ) → min s len ≤ n → nat_lt (n - s) (len - s) ≡ nat_lt n len
stops_alike s n len le = elim (cases_lt n len) [
  | inl lt ↦ lt-ltb (n - s) (len - s) (omega arith) ∙ sym (lt-ltb n len lt)
  | inr all ↦ le-ltb (n - s) (len - s) (omega arith) ∙ sym (le-ltb n len all)
]

-- ---- one attempt after the other

pub drop_none : (n : ℕ) (xs : List ℕ) → length xs ≤ n → drop n xs ≡ []
drop_none zero [] le = refl
drop_none (suc n) [] le = refl
drop_none zero (x ∷ xs) le = absurd (omega arith)
drop_none (suc n) (x ∷ xs) le = drop_none n xs (omega arith)

-- what came in one attempt
pub came : (before n : ℕ) (old new : Output) (bytes : List ℕ) → Continued before old bytes n new → Appends old.given new.given (drop before (take n bytes))
came before n old new bytes c = subst (λ (x : List ℕ). Appends old.given new.given x) (rest_taken before n bytes) c.offered.given

first_of_more : (n m : ℕ) (xs : List ℕ) → n ≤ m → take n (take m xs) ≡ take n xs
first_of_more zero m xs le = refl
first_of_more (suc n) zero xs le = absurd (omega arith)
first_of_more (suc n) (suc m) [] le = refl
first_of_more (suc n) (suc m) (x ∷ xs) le = ap (λ (ys : List ℕ). x ∷ ys) (first_of_more n m xs (omega arith))

-- those from j on before n, and then those from n on before m
pub pieces : (j n m : ℕ) (xs : List ℕ) → n ≤ length xs → min j (length xs) ≤ n → n ≤ m → drop j (take n xs) ++ drop n (take m xs) ≡ drop j (take m xs)
pieces j n m xs within from more =
    let both : take n (take m xs) ≡ take n xs = first_of_more n m xs more in
    let long : length (take n xs) ≡ n = length-take-le n xs within in
    elim (cases_lt n j) [
      | inl lt ↦
          let end : length xs ≤ n = omega arith in
          let all : take m xs ≡ take n xs = take_all m xs (omega arith) ∙ sym (take_all n xs end) in
          let none : drop j (take n xs) ≡ [] = drop_none j (take n xs) (omega arith) in
          let rest : drop n (take n xs) ≡ [] = drop_none n (take n xs) (omega arith) in
          rw (all, none, rest) refl
      | inr le ↦
          let behind : j - length (take n xs) ≡ 0 = omega arith in
          sym (ap (drop j) (sym (take-append-drop n (take m xs)) ∙ ap (λ (ys : List ℕ). ys ++ drop n (take m xs)) both) ∙ drop_both j (take n xs) (drop n (take m xs)) ∙ ap (λ (k : ℕ). drop j (take n xs) ++ drop k (drop n (take m xs))) behind)
    ]

-- what came in one attempt, and then in others
pub came_then : (before n m : ℕ) (old mid new : Output) (bytes : List ℕ) → Continued before old bytes n mid → min n (length bytes) ≤ m → Appends mid.given new.given (drop n (take m bytes)) → Appends old.given new.given (drop before (take m bytes))
came_then before n m old mid new bytes c more rest =
    subst (λ (x : List ℕ). Appends old.given new.given x) (pieces before n m bytes c.bound c.from (omega (arith, c.bound, more))) (appends_then old.given mid.given new.given _ _ (came before n old mid bytes c) rest)
