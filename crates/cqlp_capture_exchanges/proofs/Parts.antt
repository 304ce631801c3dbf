-- A text and its parts.
use Rattle.std.proofs.Common.{◌≡◌, ◌∙◌, ◌+◌, ◌<◌, ◌||◌, ℕ, Bool, true, false, List, ◌∷◌, get_or, length, drop, refl, sym}
use Rattle.std.proofs.lemmas.List.{at_drop_more}
use Rattle.cqlp_capture_exchanges.specs.Parts.{is_front, is_part}

or_left : (a b : Bool) → a ≡ false → (a || b) ≡ b
or_left true b e = absurd cc
or_left false b e = refl

or_true : (a b : Bool) → a ≡ true → (a || b) ≡ true
or_true true b e = refl
or_true false b e = absurd cc

-- where a text does not begin with a part it has that behind its first byte or not at all
pub one_further : (part text : List ℕ) (at : ℕ) → at < length text → is_front part (drop at text) ≡ false
    → is_part part (drop (at + 1) text) ≡ is_part part (drop at text)
one_further part text at lt other =
    let rest : List ℕ = drop (at + 1) text in
    let front : is_front part (get_or text at 0 ∷ rest) ≡ false = sym (at_drop_more (is_front part) text at 0 lt) ∙ other in
    sym (or_left (is_front part (get_or text at 0 ∷ rest)) (is_part part rest) front) ∙ sym (at_drop_more (is_part part) text at 0 lt)

-- where it begins with it, it has it
pub begins_so : (part text : List ℕ) (at : ℕ) → at < length text → is_front part (drop at text) ≡ true → is_part part (drop at text) ≡ true
begins_so part text at lt so =
    let rest : List ℕ = drop (at + 1) text in
    let front : is_front part (get_or text at 0 ∷ rest) ≡ true = sym (at_drop_more (is_front part) text at 0 lt) ∙ so in
    at_drop_more (is_part part) text at 0 lt ∙ or_true (is_front part (get_or text at 0 ∷ rest)) (is_part part rest) front
