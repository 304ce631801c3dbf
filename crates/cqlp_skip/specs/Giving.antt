-- What it does to a stream that is read in stretches that a table of types is given or taken back.
use Rattle.std.specs.Prelude.{◌≡◌, ℕ, List, length, Option, Some}
use Rattle.cqlp_note.specs.declared.refusal.Refusal.{Refusal}
use Rattle.cqlp_type.specs.Table.{Table}
use Rattle.cqlp_decode.specs.Giving.{with_taking}
use Rattle.cqlp_decode.specs.Reading.{Event, Gift, Gifts, with_gift}
use Rattle.cqlp_skip.specs.Skipping.{Skipping, AfterSkips, stream}
use Rattle.cqlp_skip.specs.Stretches.{Stretch}

-- After any calls that led to the one, one more gift over the present stretch leads to the other.
abbrev pub GivesAlso : Gift → (old new : Skipping) → Type 0
GivesAlso x old new =
    (xs s : List ℕ) (stretches : List Stretch) (gifts : Gifts) (events : List (ℕ × Event)) → AfterSkips xs old s stretches gifts events
    → AfterSkips xs new s stretches (with_gift (length events) x gifts) events

-- the same of what was taken back, if anything was
abbrev pub TakesAlso : Option Table → (old new : Skipping) → Type 0
TakesAlso table old new =
    (xs s : List ℕ) (stretches : List Stretch) (gifts : Gifts) (events : List (ℕ × Event)) → AfterSkips xs old s stretches gifts events
    → AfterSkips xs new s stretches (with_taking table (length events) gifts) events

-- after a refusal all that is held is given back
abbrev pub GivesBack : Option Table → Skipping → Type 0
GivesBack table d =
    (r : Refusal) (xs s : List ℕ) (stretches : List Stretch) (gifts : Gifts) (events : List (ℕ × Event))
    → (stream d).refusal ≡ Some r → AfterSkips xs d s stretches gifts events → table ≡ (stream d).given
