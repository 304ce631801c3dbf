-- What becomes of a text where the output fails, or memory is refused.
use Rattle.std.specs.Prelude.{◌≡◌, ℕ, Bool, true, false, List, ◌++◌, Result, Ok, Err}
use Rattle.cqlp_text.specs.Written.{BreaksOff, Receives, Written}

-- The text was taken up to somewhere.
abbrev pub ReceivesFront : (old : Written) → List ℕ → (new : Written) → Type 0
ReceivesFront old text new = (front : List ℕ) × (later : List ℕ) × (front ++ later ≡ text) × Receives old front new

-- Memory was refused, and the text was taken up to there; or the output failed within it.
abbrev pub Stops : (refused : Bool) → (old : Written) → List ℕ → (new : Written) → Type 0
Stops true old text new = ReceivesFront old text new
Stops false old text new = BreaksOff old text new

-- The text was taken; or a fault came, which says whether memory was refused.
module _ {F : Type 0} (refuses : F → Bool) where
  abbrev pub Takes : (old : Written) → List ℕ → Result (Unit {0}) F → (new : Written) → Type 0
  Takes old text (Ok u) new = Receives old text new
  Takes old text (Err e) new = Stops (refuses e) old text new
