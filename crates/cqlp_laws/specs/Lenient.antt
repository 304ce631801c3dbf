-- What a lenient reading of a stream says, beside one that is not.
use Rattle.std.specs.Prelude.{◌≡◌, ℕ, ◌++◌, true, false, List, ◌⊎◌}
use Rattle.cqlp_note.specs.declared.refusal.Reason.{Reason}
use Rattle.cqlp_note.specs.declared.refusal.Reason.TheVariants.{BadType}
use Rattle.cqlp_note.specs.Limits.{Rules, with_lenient}
use Rattle.cqlp_cell.specs.Lenient.{IsOfContent}
use Rattle.cqlp_decode.specs.Reading.{Event, Verdict, Refused, Gifts, Says, start_with}

-- why a lenient reading goes on: as in a cell, or where no kind has the id of a type option
abbrev pub IsPassed : Reason → Type 0
IsPassed BadType = Unit {0}
IsPassed why = IsOfContent why

-- What is said here ends by a refusal that a lenient reading passes, after events with which those of the lenient reading begin.
abbrev pub IsCutByContent : (lenient es : List (ℕ × Event)) → Verdict → Type 0
IsCutByContent lenient es v =
    (more : List (ℕ × Event)) × (k : ℕ) × (why : Reason)
    × (lenient ≡ es ++ more) × (v ≡ Refused k why) × IsPassed why

-- A lenient reading says what one says that is not; or that ends before, where it refuses a content that its type does not
-- have, further bytes in a value than its fields, or the id of a type option.
abbrev pub LenientOnlyGoesOn : Type 0
LenientOnlyGoesOn =
    (l : Rules) (gifts : Gifts) (bytes : List ℕ) (es fs : List (ℕ × Event)) (v w : Verdict)
    → Says (with_lenient false l) (start_with gifts) bytes es v
    → Says (with_lenient true l) (start_with gifts) bytes fs w
    → ((fs ≡ es) × (w ≡ v)) ⊎ IsCutByContent fs es v
