-- Where a match ends.
use Rattle.std.proofs.Common.{◌≡◌, ◌∙◌, ◌+◌, ◌<◌, ◌||◌, ◌++◌, ℕ, Bool, true, false, List, [], ◌∷◌, drop, get_or, length, refl, sym}
use Rattle.std.proofs.lemmas.List.{at_drop_more}
use Rattle.cqlp_pattern.specs.declared.pattern.Pattern.{Pattern}
use Rattle.cqlp_pattern.specs.Matching.{is_done, is_found, step}

or_true : (a b : Bool) → a ≡ true → (a || b) ≡ true
or_true true b e = refl
or_true false b e = absurd cc

or_false : (a b : Bool) → a ≡ false → (a || b) ≡ b
or_false true b e = absurd cc
or_false false b e = refl

-- it ends at once
pub found_here : (p : Pattern) (active : ℕ) (symbols : List ℕ) → is_done p active ≡ true → is_found p active symbols ≡ true
found_here p active [] e = e
found_here p active (s ∷ ss) e = or_true (is_done p active) (is_found p (step p active s) ss) e

-- it does not, and there is one more byte
pub found_further : (p : Pattern) (active at : ℕ) (text rest : List ℕ) → at < length text → is_done p active ≡ false
    → is_found p (step p active (get_or text at 0)) (drop (at + 1) text ++ rest) ≡ is_found p active (drop at text ++ rest)
found_further p active at text rest lt e =
    sym (at_drop_more (λ (ts : List ℕ). is_found p active (ts ++ rest)) text at 0 lt
    ∙ or_false (is_done p active) (is_found p (step p active (get_or text at 0)) (drop (at + 1) text ++ rest)) e)
