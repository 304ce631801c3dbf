-- Bytes that are kept among those that wait.
use Rattle.std.proofs.Common.{◌≡◌, ◌≤◌, ◌+◌, ◌-◌, ℕ, suc, Bool, true, false, List, [], ◌∷◌, ◌++◌, length, take, drop, refl, sym, ◌∙◌, ap, append_assoc, append-nil, arith}
use Rattle.std.proofs.lemmas.List.{length-append, length-drop, length-take-le, take-take, drop-drop}
use Rattle.std.proofs.lemmas.Slice.{between_is}
use borrow.Rule.Slice.PartMut.{put_mid}
use lib.Seq.{take_at, drop_at}
use Rattle.std.specs.Int.{w32, to_be_bytes}
use Rattle.cqlp_encode.specs.Progress.{Progress, Keeps, with_length}

-- ---- one after the other

pub kept_then : (a b c : Progress) (whole : Bool) (x y : List ℕ) → Keeps a true x b → Keeps b whole y c → Keeps a whole (x ++ y) c
kept_then a b c whole x y s t = record {
  more = s.more ++ t.more;
  kept = t.kept ∙ ap (λ (p : Progress). record p { waiting = p.waiting ++ t.more }) s.kept ∙ ap (λ (w : List ℕ). record a { waiting = w }) (append_assoc a.waiting s.more t.more);
  all = λ e. ap (λ (w : List ℕ). w ++ t.more) (s.all refl) ∙ ap (λ (w : List ℕ). x ++ w) (t.all e);
}

-- where there was no room, it does not matter for which bytes
pub kept_short : (a b : Progress) (x y : List ℕ) → Keeps a false x b → Keeps a false y b
kept_short a b x y s = record { more = s.more; kept = s.kept; all = λ e. absurd cc }

pub kept_nothing : (a : Progress) (whole : Bool) (x : List ℕ) → (whole ≡ true → [] ≡ x) → Keeps a whole x a
kept_nothing a whole x none = record { more = []; kept = ap (λ (w : List ℕ). record a { waiting = w }) (sym (append-nil a.waiting)); all = none }

pub kept_all : (a b : Progress) (x : List ℕ) → b ≡ record a { waiting = a.waiting ++ x } → Keeps a true x b
kept_all a b x e = record { more = x; kept = e; all = λ e. refl }

-- ---- with a length before them

with_length_is : (a z c : List ℕ) (start : ℕ) → start ≡ length a → length z ≡ 4 → with_length start (a ++ (z ++ c)) ≡ a ++ (to_be_bytes w32 (length c) ++ c)
with_length_is a z c start from four =
    let before : take start (a ++ (z ++ c)) ≡ a = take_at a (z ++ c) start (sym from) in
    let after : drop (start + 4) (a ++ (z ++ c)) ≡ c =
    ap (drop (start + 4)) (sym (append_assoc a z c)) ∙ drop_at (a ++ z) c (start + 4) (omega (arith, length-append a z, from, four)) in
    ap (λ (w : List ℕ). w ++ (to_be_bytes w32 (length (drop (start + 4) (a ++ (z ++ c)))) ++ drop (start + 4) (a ++ (z ++ c)))) before
    ∙ ap (λ (w : List ℕ). a ++ (to_be_bytes w32 (length w) ++ w)) after

pub kept_with_length : (a b c : Progress) (z x : List ℕ) (start : ℕ) → start ≡ length a.waiting → length z ≡ 4 → Keeps a true (z ++ x) b
    → c ≡ record b { waiting = with_length start b.waiting } → Keeps a true (to_be_bytes w32 (length x) ++ x) c
kept_with_length a b c z x start from four s e =
    let waits : b ≡ record a { waiting = a.waiting ++ (z ++ x) } = s.kept ∙ ap (λ (w : List ℕ). record a { waiting = a.waiting ++ w }) (s.all refl) in
    kept_all a c _ (e ∙ ap (λ (p : Progress). record p { waiting = with_length start p.waiting }) waits
    ∙ ap (λ (w : List ℕ). record a { waiting = w }) (with_length_is a.waiting z x start from four))

-- ---- as it is written

take_over : (n : ℕ) (xs ys : List ℕ) → length xs ≤ n → take n (xs ++ ys) ≡ xs ++ take (n - length xs) ys
take_over n [] ys le = let e : n ≡ n - length {A = ℕ} [] = omega arith in ap (λ (k : ℕ). take k ys) e
take_over n (x ∷ xs) ys le =
    let e : n ≡ suc (n - 1) = omega arith in
    let rest : n - 1 - length xs ≡ suc (n - 1) - length {A = ℕ} (x ∷ xs) = omega arith in
    rw e (ap (λ (t : List ℕ). x ∷ t) (take_over (n - 1) xs ys (omega arith) ∙ ap (λ (k : ℕ). xs ++ take k ys) rest))

pub with_length_view : (start n : ℕ) (xs ys : List ℕ) → start + 4 ≤ n → n ≤ length xs → ys ≡ to_be_bytes w32 (n - start - 4)
    → take n (put_mid start (start + 4 - start) xs ys) ≡ with_length start (take n xs)
with_length_view start n xs ys within room e =
    let four : length ys ≡ 4 = ap length e in
    let front : length (take start xs) ≡ start = length-take-le start xs (omega arith) in
    let both : length (take start xs ++ ys) ≡ start + 4 = omega (arith, length-append (take start xs) ys, front, four) in
    let waits : length (take n xs) ≡ n = length-take-le n xs room in
    let after : take (n - (start + 4)) (drop (start + 4) xs) ≡ drop (start + 4) (take n xs) = between_is xs (start + 4) n in
    let beyond : drop (start + 4 - start) (drop start xs) ≡ drop (start + 4) xs = drop-drop (start + 4 - start) start xs ∙ ap (λ (k : ℕ). drop k xs) (omega arith) in
    let many : n - start - 4 ≡ length (drop (start + 4) (take n xs)) = omega (arith, length-drop (start + 4) (take n xs), waits) in
    ap (take n) (sym (append_assoc (take start xs) ys (drop (start + 4 - start) (drop start xs))))
    ∙ take_over n (take start xs ++ ys) (drop (start + 4 - start) (drop start xs)) (omega (arith, both))
    ∙ ap (λ (t : List ℕ). (take start xs ++ ys) ++ take (n - length (take start xs ++ ys)) t) beyond
    ∙ ap (λ (k : ℕ). (take start xs ++ ys) ++ take (n - k) (drop (start + 4) xs)) both
    ∙ ap (λ (t : List ℕ). (take start xs ++ ys) ++ t) after
    ∙ append_assoc (take start xs) ys (drop (start + 4) (take n xs))
    ∙ ap (λ (t : List ℕ). t ++ (ys ++ drop (start + 4) (take n xs))) (sym (take-take start n xs (omega arith)))
    ∙ ap (λ (t : List ℕ). take start (take n xs) ++ (t ++ drop (start + 4) (take n xs))) (e ∙ ap (to_be_bytes w32) many)

-- ---- as a whole or not at all

pub kept_is : (a b : Progress) (x : List ℕ) → Keeps a true x b → b ≡ record a { waiting = a.waiting ++ x }
kept_is a b x s = s.kept ∙ ap (λ (w : List ℕ). record a { waiting = a.waiting ++ w }) (s.all refl)

pub kept_longer : (a b : Progress) (whole : Bool) (x : List ℕ) → Keeps a whole x b → length a.waiting ≤ length b.waiting
kept_longer a b whole x s =
    let long : length b.waiting ≡ length (a.waiting ++ s.more) = ap (λ (p : Progress). length p.waiting) s.kept in
    omega (arith, long, length-append a.waiting s.more)

pub kept_cut : (a b c : Progress) (whole : Bool) (x : List ℕ) (start : ℕ) → start ≡ length a.waiting → Keeps a whole x b → c ≡ record b { waiting = take start b.waiting } → c ≡ a
kept_cut a b c whole x start from s e =
    e ∙ ap (λ (p : Progress). record p { waiting = take start p.waiting }) s.kept
    ∙ ap (λ (w : List ℕ). record a { waiting = w }) (take_at a.waiting s.more start (sym from))
