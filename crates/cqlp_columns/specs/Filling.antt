-- What a call makes of the input, into columns and the sink beside them.
use Rattle.std.specs.Prelude.{◌≡◌, ℕ, Bool, true, false, ◌++◌, List, [], ◌∷◌, length, take, Option, Some, None, ◌⊎◌}
use Rattle.cqlp_note.specs.declared.refusal.Refusal.{Refusal}
use Rattle.cqlp_note.specs.Limits.{Rules}
use Rattle.cqlp_decode.specs.Reading.{Event, Gifts, Place, Reads, Says, Waits, start_with}
use Rattle.cqlp_decode.specs.Progress.{StreamState, IsHeld}
use Rattle.cqlp_decode.specs.Streams.{AfterGifts, Refuses}
use Rattle.cqlp_columns.specs.Batches.{Batch, is_full}
use Rattle.cqlp_columns.specs.Findings.{found_in}
use Rattle.cqlp_columns.specs.Sorting.{TakesCell, takes}
use Rattle.cqlp_columns.specs.declared.page_columns.Went.{Went}
use Rattle.cqlp_columns.specs.declared.page_columns.Went.TheVariants as went
use Rattle.cqlp_columns.specs.declared.filled.Filled.{Filled}
use Rattle.cqlp_columns.specs.declared.filled.Stop.{Stop}
use Rattle.cqlp_columns.specs.declared.filled.Stop.TheVariants as stop

-- why a call stops whose last event went there
abbrev pub stop_of : Went → Stop
stop_of went.Cell = stop.More
stop_of went.Last = stop.Full
stop_of went.Other = stop.Other
stop_of went.Failed = stop.Failed

abbrev pub stopped_at : Went → (used : ℕ) → Filled
stopped_at w used = record { used = used; stop = stop_of w }

-- where the last event went of a call that stops so; the columns took what they have
abbrev pub went_of : Stop → Went
went_of stop.More = went.Cell
went_of stop.Full = went.Last
went_of stop.Other = went.Other
went_of stop.Failed = went.Failed
went_of (stop.Refused r) = went.Cell

-- what the decoder has refused after a call that stops so, given what it had before
abbrev pub refusal_after : Option Refusal → Stop → Option Refusal
refusal_after before stop.More = None
refusal_after before stop.Full = before
refusal_after before stop.Other = None
refusal_after before stop.Failed = None
refusal_after before (stop.Refused r) = Some r

-- what a call makes after this refusal, into columns that are full or not
abbrev pub refused_again : Refusal → (full : Bool) → Filled
refused_again r true = record { used = 0; stop = stop.Full }
refused_again r false = record { used = 0; stop = stop.Refused r }

-- These are cells, which the columns took one after the other.
abbrev pub TakesCells : Batch → List (ℕ × Event) → Batch → Type 0
TakesCells before [] after = after ≡ before
TakesCells before (e ∷ es) after = (mid : Batch) × TakesCell before e.1 mid × TakesCells mid es after

-- the reading of these bytes, while the caller gives this, says these events, and nothing of what comes next
abbrev pub IsRead : Gifts → Rules → (s : List ℕ) → (es : List (ℕ × Event)) → Type 0
IsRead gifts l s es = (q : Place) × Reads l (start_with gifts) s es q []

-- the bytes used end with the last event, or there are none
abbrev pub EndsAtEvent : Gifts → Rules → (s used : List ℕ) → (es : List (ℕ × Event)) → Type 0
EndsAtEvent gifts l s used es = (used ≡ []) ⊎ IsRead gifts l (s ++ used) es

-- an event that the columns do not take, of which this holds
pub record IsOther (gifts : Gifts) (new : StreamState) (s used : List ℕ) (es : List (ℕ × Event)) (columns : Batch)
    (Holds : ℕ → Event → Type 0) : Type 0 where
  pub at : ℕ
  pub event : Event
  pub apart : takes columns (found_in event) ≡ false
  pub after : AfterGifts gifts new (s ++ used) (es ++ (at, event) ∷ [])
  pub ends : IsRead gifts new.rules (s ++ used) (es ++ (at, event) ∷ [])
  -- a content that does not lie whole in the bytes used is held
  pub held : IsHeld event (length used) new.held
  pub holds : Holds at event

-- After a refusal a call says it again, unless the columns are full, and nothing changes.
abbrev pub Repeats : {S : Type 0} → Refusal → (old new : StreamState) → (columns columns' : Batch) → (before after : S) → Filled → Type 0
Repeats r old new columns columns' before after f =
    (f ≡ refused_again r (is_full columns)) × (new ≡ old) × (columns' ≡ columns) × (after ≡ before)

-- `Got` and `Failed` say what the other sink leads to that gets an event, or fails at it.
module _ {S : Type 0} (Got Failed : S → ℕ → Event → S → Type 0) where
  -- Why a call stops, after these gifts, the bytes s, the events es and then those of the cells, with these bytes used: more is wanted; the columns are
  -- full; the other sink got an event that they do not take, or failed at it; or what comes next is refused, or was before.
  abbrev pub StopsBy : Gifts → (old new : StreamState) → (s input used : List ℕ) → (es : List (ℕ × Event)) → (columns : Batch)
      → (before after : S) → Stop → Type 0
  StopsBy gifts old new s input used es columns before after stop.More =
      (used ≡ input) × (is_full columns ≡ false) × (after ≡ before) × (new.refusal ≡ None) × AfterGifts gifts new (s ++ input) es
      × Says new.rules (start_with gifts) (s ++ input) es Waits
  StopsBy gifts old new s input used es columns before after stop.Full =
      (is_full columns ≡ true) × (after ≡ before) × AfterGifts gifts new (s ++ used) es × EndsAtEvent gifts new.rules s used es
  StopsBy gifts old new s input used es columns before after stop.Other =
      (is_full columns ≡ false) × IsOther gifts new s used es columns (λ at e. Got before at e after)
  StopsBy gifts old new s input used es columns before after stop.Failed =
      (is_full columns ≡ false) × IsOther gifts new s used es columns (λ at e. Failed before at e after)
  StopsBy gifts old new s input used es columns before after (stop.Refused r) =
      (is_full columns ≡ false) × (after ≡ before) × (new.refusal ≡ Some r) × AfterGifts gifts new (s ++ used) es
      × Refuses old.refusal gifts old s es input r × EndsAtEvent gifts new.rules s used es

  -- What a call makes of the input, after these gifts, the bytes s and the events es: the reading of the bytes used says the events of these cells,
  -- which the columns took, and then it stops for this reason.
  pub record Fills (gifts : Gifts) (old new : StreamState) (s input : List ℕ) (es : List (ℕ × Event)) (columns columns' : Batch)
      (before after : S) (f : Filled) : Type 0 where
    pub cells : List (ℕ × Event)
    pub taken : TakesCells columns cells columns'
    pub stops : StopsBy gifts old new s input (take f.used input) (es ++ cells) columns' before after f.stop

  -- the same of any gifts and any stream that led here
  abbrev pub FillsOn : (old new : StreamState) → (input : List ℕ) → (columns columns' : Batch) → (before after : S) → Filled → Type 0
  FillsOn old new input columns columns' before after f =
      (gifts : Gifts) (s : List ℕ) (es : List (ℕ × Event)) → AfterGifts gifts old s es
      → Fills gifts old new s input es columns columns' before after f
