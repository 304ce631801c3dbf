-- What limits refuse, and that they change nothing else.
use Rattle.std.specs.Prelude.{◌≡◌, ℕ, ◌≤◌, ◌++◌, Bool, false, List, ◌⊎◌}
use Rattle.cqlp_note.specs.declared.limits.Limits.{Limits}
use Rattle.cqlp_note.specs.declared.refusal.Reason.{Reason}
use Rattle.cqlp_note.specs.declared.refusal.Reason.TheVariants.{TooLong, TooDeep, TooMany}
use Rattle.cqlp_note.specs.Limits.{Rules, rules_of, with_lenient}
use Rattle.cqlp_decode.specs.Reading.{Event, Verdict, Refused, Gifts, Says, start_with}
use Rattle.cqlp_laws.specs.Excess.{with_limits, free, IsCut}

-- what a limit refuses
abbrev pub IsOfLimit : Reason → Type 0
IsOfLimit TooLong = Unit {0}
IsOfLimit TooDeep = Unit {0}
IsOfLimit TooMany = Unit {0}
IsOfLimit why = ⊥

-- What is said here ends in a limit's refusal, after events with which those of a wider reading begin.
abbrev pub IsCutByLimit : (wide es : List (ℕ × Event)) → Verdict → Type 0
IsCutByLimit wide es v =
    (more : List (ℕ × Event)) × (k : ℕ) × (why : Reason)
    × (wide ≡ es ++ more) × (v ≡ Refused k why) × IsOfLimit why

-- What is said within limits is what is said within wider ones; or it ends before that, where a limit refuses.
abbrev pub IsSameOrCut : (es fs : List (ℕ × Event)) (v w : Verdict) → Type 0
IsSameOrCut es fs v w = ((fs ≡ es) × (w ≡ v)) ⊎ IsCutByLimit fs es v

-- So it is whatever the caller gives, if that is the same.
abbrev pub LimitsOnlyCut : Type 0
LimitsOnlyCut =
    (l : Rules) (text cell entries depth : ℕ)
    → l.text ≤ text → l.cell ≤ cell → l.entries ≤ entries → l.depth ≤ depth
    → (gifts : Gifts) (bytes : List ℕ) (es fs : List (ℕ × Event)) (v w : Verdict)
    → Says l (start_with gifts) bytes es v
    → Says (with_limits l text cell entries depth) (start_with gifts) bytes fs w
    → IsSameOrCut es fs v w

-- One caller's limits are no wider than another's, and both ask for the same.
pub record AreNoWider (a b : Limits) : Type 0 where
  pub text : a.text ≤ b.text
  pub cell : a.cell ≤ b.cell
  pub entries : a.entries ≤ b.entries
  pub depth : a.depth ≤ b.depth
  pub types : b.types ≡ a.types
  pub parts : b.parts ≡ a.parts

-- A part has as many bytes as the limit on a cell. So parts are the same where that limit is, or where no content comes in parts: none does
-- where they are not asked for, unless a lenient reading emits in them the bytes that a value has after its fields.
abbrev pub HaveSameParts : (lenient : Bool) → (a b : Limits) → Type 0
HaveSameParts lenient a b = ((a.parts ≡ false) × (lenient ≡ false)) ⊎ (b.cell ≡ a.cell)

-- So it is of two decoders, of which the one has wider limits.
abbrev pub AskedLimitsOnlyCut : Type 0
AskedLimitsOnlyCut =
    (a b : Limits) (lenient : Bool) → AreNoWider a b → HaveSameParts lenient a b
    → (gifts : Gifts) (bytes : List ℕ) (es fs : List (ℕ × Event)) (v w : Verdict)
    → Says (with_lenient lenient (rules_of a)) (start_with gifts) bytes es v
    → Says (with_lenient lenient (rules_of b)) (start_with gifts) bytes fs w
    → IsSameOrCut es fs v w

-- Within limits a stream says just what the free reading says, cut where something first exceeds its own limit. So the
-- free reading and the limits determine it.
abbrev pub LimitsCutAtFirstExcess : Type 0
LimitsCutAtFirstExcess =
    (l : Rules) (gifts : Gifts) (bytes : List ℕ) (es : List (ℕ × Event)) (v : Verdict)
    → (Says l (start_with gifts) bytes es v → IsCut l gifts bytes es v)
    × (IsCut l gifts bytes es v → Says l (start_with gifts) bytes es v)

-- The free reading refuses nothing by a limit.
abbrev pub FreeHasNoLimit : Type 0
FreeHasNoLimit =
    (l : Rules) (gifts : Gifts) (bytes : List ℕ) (es : List (ℕ × Event)) (k : ℕ) (why : Reason)
    → Says (free l) (start_with gifts) bytes es (Refused k why) → IsOfLimit why → ⊥
