-- Bytes that are put into a buffer, one piece after the other.
use Rattle.std.proofs.Common.{◌≡◌, ℕ, ◌+◌, ◌-◌, ◌<◌, ◌≤◌, List, [], ◌∷◌, ◌++◌, length, take, drop, set, slice_index, refl, sym, ap, ◌∙◌, append_assoc, append-nil, arith, drop-drop, length-append}
use Rattle.std.proofs.lemmas.Grind.{common_steps}
use Rattle.std.proofs.lemmas.List.{take-append-drop, drop-append-le}

-- the buffer with these bytes from at on
abbrev pub placed : List ℕ → (at n : ℕ) → List ℕ → List ℕ
placed buffer at n bytes = take at buffer ++ (bytes ++ drop (at + n) buffer)

take_front : (xs rest : List ℕ) (n : ℕ) → length xs ≡ n → take n (xs ++ rest) ≡ xs
take_front xs rest n long = grind (arith, common_steps)

drop_front : (xs rest : List ℕ) (n : ℕ) → length xs ≡ n → drop n (xs ++ rest) ≡ rest
drop_front xs rest n long = grind (arith, common_steps)

taken : (buffer : List ℕ) (at : ℕ) → at ≤ length buffer → length (take at buffer) ≡ at
taken buffer at within = grind (arith, common_steps)

-- the bytes that are in use after some were put behind those that were
pub kept : (old new bytes : List ℕ) (at n : ℕ) → n ≡ length bytes → at + n ≤ length old → new ≡ placed old at n bytes → take (at + n) new ≡ take at old ++ bytes
kept old new bytes at n long room put =
    let front = take at old ++ bytes in
    let size : length front ≡ at + n = omega (arith, length-append (take at old) bytes, taken old at (omega arith)) in
    ap (take (at + n)) (put ∙ sym (append_assoc (take at old) bytes (drop (at + n) old))) ∙ take_front front (drop (at + n) old) (at + n) size

-- a number's digits behind those before them, at the front of a room
pub then_placed : (first second third xs ys : List ℕ) (m n : ℕ) → m ≡ length xs → second ≡ xs ++ drop m first → third ≡ take m second ++ (ys ++ drop (m + n) second) → third ≡ (xs ++ ys) ++ drop (m + n) first
then_placed first second third xs ys m n long put later =
    let before : take m second ≡ xs = ap (take m) put ∙ take_front xs (drop m first) m (sym long) in
    let behind : drop m second ≡ drop m first = ap (drop m) put ∙ drop_front xs (drop m first) m (sym long) in
    let rest : drop (m + n) second ≡ drop (m + n) first = sym (drop-drop n m second) ∙ ap (drop n) behind ∙ drop-drop n m first in
    later ∙ ap (λ t. t ++ (ys ++ drop (m + n) second)) before ∙ ap (λ t. xs ++ (ys ++ t)) rest ∙ sym (append_assoc xs ys (drop (m + n) first))

-- bytes that were copied to a part of a buffer
pub mid_placed : (buffer bytes : List ℕ) (at n : ℕ) → take at buffer ++ (bytes ++ drop (at + n - at) (drop at buffer)) ≡ placed buffer at n bytes
mid_placed buffer bytes at n =
    let e : at + n - at ≡ n = omega arith in
    ap (λ k. take at buffer ++ (bytes ++ drop k (drop at buffer))) e ∙ ap (λ t. take at buffer ++ (bytes ++ t)) (drop-drop n at buffer)

whole_tail : (buffer : List ℕ) (at : ℕ) → take (length buffer - at) (drop at buffer) ≡ drop at buffer
whole_tail buffer at = grind (arith, common_steps)

no_tail : (buffer : List ℕ) (at : ℕ) → drop (length buffer - at) (drop at buffer) ≡ []
no_tail buffer at = grind (arith, common_steps)

-- the buffer whose bytes from at on begin with these now
pub tail_placed : (buffer tail bytes : List ℕ) (at n : ℕ) → tail ≡ bytes ++ drop n (take (length buffer - at) (drop at buffer)) → take at buffer ++ (tail ++ drop (length buffer - at) (drop at buffer)) ≡ placed buffer at n bytes
tail_placed buffer tail bytes at n is =
    ap (λ t. take at buffer ++ (tail ++ t)) (no_tail buffer at) ∙ ap (λ t. take at buffer ++ t) (append-nil tail ∙ is ∙ ap (λ t. bytes ++ drop n t) (whole_tail buffer at) ∙ ap (λ t. bytes ++ t) (drop-drop n at buffer))

pub front_one : (buffer : List ℕ) (x : ℕ) → 1 ≤ length buffer → set buffer 0 x ≡ x ∷ drop 1 buffer
front_one [] x room = absurd (omega arith)
front_one (a ∷ rest) x room = refl

pub front_two : (buffer : List ℕ) (x y : ℕ) → 2 ≤ length buffer → set (set buffer 0 x) 1 y ≡ x ∷ y ∷ drop 2 buffer
front_two [] x y room = absurd (omega arith)
front_two (a ∷ []) x y room = absurd (omega arith)
front_two (a ∷ b ∷ rest) x y room = refl

pub front_three : (buffer : List ℕ) (x y z : ℕ) → 3 ≤ length buffer → set (set (set buffer 0 x) 1 y) 2 z ≡ x ∷ y ∷ z ∷ drop 3 buffer
front_three [] x y z room = absurd (omega arith)
front_three (a ∷ []) x y z room = absurd (omega arith)
front_three (a ∷ b ∷ []) x y z room = absurd (omega arith)
front_three (a ∷ b ∷ c ∷ rest) x y z room = refl

pub two_in_front : (bytes room : List ℕ) → 2 ≤ length bytes → length bytes < 3 → length bytes ≤ length room → set (set room 0 (slice_index bytes 0)) 1 (slice_index bytes 1) ≡ bytes ++ drop (length bytes) room
two_in_front [] room some few fits = absurd (omega arith)
two_in_front (x ∷ []) room some few fits = absurd (omega arith)
two_in_front (x ∷ y ∷ []) room some few fits = front_two room x y fits
two_in_front (x ∷ y ∷ z ∷ rest) room some few fits = absurd (omega arith)

pub three_in_front : (bytes room : List ℕ) → 3 ≤ length bytes → length bytes < 4 → length bytes ≤ length room → set (set (set room 0 (slice_index bytes 0)) 1 (slice_index bytes 1)) 2 (slice_index bytes 2) ≡ bytes ++ drop (length bytes) room
three_in_front [] room some few fits = absurd (omega arith)
three_in_front (x ∷ []) room some few fits = absurd (omega arith)
three_in_front (x ∷ y ∷ []) room some few fits = absurd (omega arith)
three_in_front (x ∷ y ∷ z ∷ []) room some few fits = front_three room x y z fits
three_in_front (x ∷ y ∷ z ∷ w ∷ rest) room some few fits = absurd (omega arith)

-- a text at the front of a room that was copied to the front of bytes
pub copied : (bytes room after text rest : List ℕ) (n : ℕ) → n ≡ length text → room ≡ text ++ rest → after ≡ take n room ++ drop (length (take n room)) bytes → after ≡ text ++ drop n bytes
copied bytes room after text rest n long is put =
    let front : take n room ≡ text = ap (take n) is ∙ take_front text rest n (sym long) in
    put ∙ ap (λ t. t ++ drop (length t) bytes) front ∙ ap (λ k. text ++ drop k bytes) (sym long)

-- what was written to the first n bytes
pub chunk_written : (bytes chunk after text : List ℕ) (m n : ℕ) → m ≤ n → n ≤ length bytes → chunk ≡ take n bytes → after ≡ text ++ drop m chunk → after ++ drop n bytes ≡ text ++ drop m bytes
chunk_written bytes chunk after text m n within fits is put =
    let rest : drop m (take n bytes) ++ drop n bytes ≡ drop m bytes =
    sym (drop-append-le m (take n bytes) (drop n bytes) (omega (arith, taken bytes n fits))) ∙ ap (drop m) (take-append-drop n bytes) in
    ap (λ t. t ++ drop n bytes) (put ∙ ap (λ t. text ++ drop m t) is) ∙ append_assoc text (drop m (take n bytes)) (drop n bytes) ∙ ap (λ t. text ++ t) rest
