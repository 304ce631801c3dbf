-- Laws of streams that are read in stretches.
use Rattle.std.specs.Prelude.{◌≡◌, ℕ, ◌+◌, ◌-◌, ◌≤◌, ◌^◌, ◌++◌, min, List, [], ◌∷◌, length, Option, Some, None, Result, Ok, Err}
use Rattle.cqlp_note.specs.Limits.{Rules}
use Rattle.cqlp_type.specs.Table.{Table}
use Rattle.cqlp_decode.specs.declared.given.GiveReason.{GiveReason}
use Rattle.cqlp_decode.specs.Giving.{after_taking, free_table, once_given, reason_against}
use Rattle.cqlp_decode.specs.Reading.{Event, Gifts}
use Rattle.cqlp_decode.specs.Streams.{AfterGifts}
use Rattle.cqlp_laws.specs.OneAnswer as one
use Rattle.cqlp_decode.specs.declared.feeding.Fed.{Fed}
use Rattle.cqlp_decode.specs.declared.feeding.Fed.TheVariants as fed
use Rattle.cqlp_decode.specs.Draining.{used_of}
use Rattle.cqlp_skip.specs.Stretches.{Stretch, GivenUp}
use Rattle.cqlp_skip.specs.Skipping.{Skipping, AfterSkips, Feeds, RefusesBy, rules_in, stream}

-- what was given over each of these stretches
abbrev pub gifts_of : List Stretch → List Gifts
gifts_of [] = []
gifts_of (x ∷ xs) = x.gifts ∷ gifts_of xs

-- Of one stream, what was given and how many stretches were given up decide which they are.
abbrev pub IsGivenUpOnce : Type 0
IsGivenUpOnce =
    (l : Rules) (xs : List ℕ) (a b : List Stretch) → GivenUp l xs a → GivenUp l xs b → gifts_of b ≡ gifts_of a → b ≡ a

-- Whatever bytes follow, they stay.
abbrev pub GoesOn : Type 0
GoesOn = (l : Rules) (xs t : List ℕ) (a : List Stretch) → GivenUp l xs a → GivenUp l (xs ++ t) a

-- Where nothing was skipped the decoder of the present stretch has read the whole stream.
abbrev pub IsPlainWithoutSkips : Type 0
IsPlainWithoutSkips =
    (xs : List ℕ) (d : Skipping) (s : List ℕ) (gifts : Gifts) (events : List (ℕ × Event))
    → AfterSkips xs d s [] gifts events → AfterGifts gifts (stream d) s events

-- two answers, where no sink failed
abbrev pub AreAlike : (x x' : Fed) → Type 0
AreAlike fed.More fed.More = Unit {0}
AreAlike (fed.Refused used r) (fed.Refused used' r') = (used' ≡ used) × (r' ≡ r)
AreAlike x x' = ⊥

-- the sink did not fail
abbrev pub IsSound : Fed → Type 0
IsSound (fed.Fault used) = ⊥
IsSound x = Unit {0}

-- what the clauses of `feed` say
pub record Fed_on {V : Type 0} (f : V → ℕ → Event → V) (faulted : V → ℕ → Event → V → Type 0) (old new : Skipping) (input : List ℕ) (x : Fed) (before after : V) : Type 0 where
  pub within : used_of (length input) x ≤ length input
  pub feeds : Feeds f faulted old new input x before after
  pub refusal : RefusesBy x new
  pub used : new.used ≡ min (old.used + used_of (length input) x) (2 ^ 64 - 1)
  pub place : (new.base ≡ old.base) × (new.last ≡ old.last)
  pub rules : rules_in new ≡ rules_in old
  pub given : (stream new).given ≡ (stream old).given

-- Two decoders are alike: later calls see no difference, but in how many bytes and levels `held` says.
pub record BehaveAlike (new new' : Skipping) : Type 0 where
  pub stretch : one.AreAlike (stream new) (stream new')
  pub base : new'.base ≡ new.base
  pub used : new'.used ≡ new.used
  pub frame : new'.frame ≡ new.frame
  pub last : new'.last ≡ new.last

-- From one history, over one piece, there is one answer, one view of a sink, and decoders are left that are alike.
abbrev pub IsOneAnswerOfFeed : {V : Type 0} → (V → ℕ → Event → V) → (V → ℕ → Event → V → Type 0) → Type 0
IsOneAnswerOfFeed f faulted =
    (old new new' : Skipping) (s input : List ℕ) (stretches : List Stretch) (gifts : Gifts) (events : List (ℕ × Event)) (x x' : Fed) (before after after' : _)
    → AfterSkips (s ++ input) old s stretches gifts events
    → Fed_on f faulted old new input x before after → Fed_on f faulted old new' input x' before after'
    → IsSound x → IsSound x' → AreAlike x x' × (after' ≡ after) × BehaveAlike new new'

-- ---- tables that are given and taken back

-- two decoders that differ, if at all, in what their readers keep for themselves
abbrev pub LookAlike : (new new' : Skipping) → Type 0
LookAlike new new' =
    (stream new' ≡ stream new) × (new'.base ≡ new.base) × (new'.used ≡ new.used) × (new'.frame ≡ new.frame) × (new'.last ≡ new.last)

-- what comes back where a table is given: the one that was held before, or that table with the reason against it
abbrev pub Back : Type 0
Back = Result (Option Table) (GiveReason × Table)

-- what the clauses of `give` say
pub record Given_to (old new : Skipping) (table : Table) (back : Back) : Type 0 where
  pub refused : (w : GiveReason) → reason_against (stream old) table.nodes ≡ Some w → (back ≡ Err (w, table)) × (new ≡ old)
  pub taken : reason_against (stream old) table.nodes ≡ None → (back ≡ Ok (stream old).given) × (stream new ≡ once_given (stream old) table)
  pub place : new ≡ record old { decoder = new.decoder }

-- what those of `take_given` say
pub record Taken_from (old new : Skipping) (back : Option Table) : Type 0 where
  pub given : back ≡ free_table (stream old)
  pub left : stream new ≡ after_taking back (stream old)
  pub place : new ≡ record old { decoder = new.decoder }

-- From one state, given one table, there is one answer and one state after it.
abbrev pub IsOneAnswerOfGive : Type 0
IsOneAnswerOfGive =
    (old new new' : Skipping) (table : Table) (back back' : Back) → Given_to old new table back → Given_to old new' table back'
    → (back' ≡ back) × LookAlike new new'

-- The same of taking back.
abbrev pub IsOneAnswerOfTaking : Type 0
IsOneAnswerOfTaking =
    (old new new' : Skipping) (back back' : Option Table) → Taken_from old new back → Taken_from old new' back'
    → (back' ≡ back) × LookAlike new new'
