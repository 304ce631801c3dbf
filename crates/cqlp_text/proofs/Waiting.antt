-- A text that waits in a buffer.
use Rattle.std.proofs.Common.{◌≡◌, ℕ, zero, suc, ◌+◌, ◌/◌, ◌%◌, ◌≤◌, List, [], ◌∷◌, ◌++◌, length, take, drop, Option, refl, arith, length-append}
use Rattle.cqlp_text.specs.CellText.{digits}
use Rattle.cqlp_text.specs.Written.{Written, Receives}
use Rattle.cqlp_text.proofs.Placed as placed
use Rattle.cqlp_text.proofs.Writing.{kept}

-- a target that is owned, with what waits
abbrev before : Option (List ℕ) → ℕ → List ℕ → Written
before given f waiting = record { given = given; failures = f; waiting = waiting; lender = 0 }

-- a text was put into a buffer, behind what waits there
pub waits : (given : Option (List ℕ)) (f : ℕ) (buffer after text : List ℕ) (len n : ℕ) → len + n ≤ length buffer → n ≡ length text → after ≡ take len buffer ++ (text ++ drop (len + n) buffer) → Receives (before given f (take len buffer)) text (before given f (take (len + n) after))
waits given f buffer after text len n fits long same = rw (placed.kept buffer after text len n long fits same) (kept (before given f (take len buffer)) text)

-- a text was put into a buffer where nothing waited
pub waits_alone : (given : Option (List ℕ)) (f : ℕ) (waiting buffer after text : List ℕ) (n : ℕ) → waiting ≡ [] → n ≤ length buffer → n ≡ length text → after ≡ take 0 buffer ++ (text ++ drop (0 + n) buffer) → Receives (before given f waiting) text (before given f (take n after))
waits_alone given f waiting buffer after text n none fits long same =
    let zero : 0 + n ≡ n = omega arith in
    let alone = waits given f buffer after text 0 n (omega arith) long same in
    rw none (rw zero at alone)

pub length-digits : (k n : ℕ) → k ≡ length (digits k n)
length-digits zero n = refl
length-digits (suc k) n = omega (arith, length-digits k (n / 10), length-append (digits k (n / 10)) ((48 + n % 10) ∷ []))
