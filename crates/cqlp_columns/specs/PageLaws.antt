-- The law of pages that are read into columns.
use Rattle.std.specs.Prelude.{◌≡◌, ◌≤◌, ℕ, ◌++◌, List, [], ◌∷◌, length, take, Some, ⊤}
use Rattle.cqlp_note.specs.declared.refusal.Refusal.{Refusal}
use Rattle.cqlp_grammar.specs.declared.sink.Sink as sink
use Rattle.cqlp_decode.specs.Reading.{Event, Gifts}
use Rattle.cqlp_decode.specs.Progress.{StreamState}
use Rattle.cqlp_decode.specs.Sinks.{Fails, Gets}
use Rattle.cqlp_decode.specs.Streams.{AfterGifts}
use Rattle.cqlp_columns.specs.Arrays.{Site}
use Rattle.cqlp_columns.specs.Batches.{Batch, HasTaken}
use Rattle.cqlp_columns.specs.Filling.{FillsOn, Repeats, TakesCells, refusal_after, went_of}
use Rattle.cqlp_columns.specs.declared.page_columns.Went.{Went}
use Rattle.cqlp_columns.specs.declared.filled.Filled.{Filled}
use Rattle.cqlp_columns.specs.declared.filled.Stop.{Stop}
use Rattle.cqlp_columns.specs.declared.filled.Stop.TheVariants as stop

-- Two calls stop alike: for one reason, but that the other sink may fail at an event in one of them and get it in the other.
abbrev pub StopAlike : Stop → Stop → Type 0
StopAlike stop.Other stop.Failed = ⊤
StopAlike stop.Failed stop.Other = ⊤
StopAlike w w' = w' ≡ w

module _ {S : Type 0} (m : sink.Ghosts S) where
  -- what the clauses of `read` say
  pub record HasRead (old new : StreamState) (input : List ℕ) (columns columns' : Batch) (before after : S) (w : Went) (f : Filled) : Type 0 where
    pub fills : FillsOn (Gets m) (Fails m) old new input columns columns' before after f
    pub within : f.used ≤ length input
    pub went : w ≡ went_of f.stop
    pub refused : (r : Refusal) → old.refusal ≡ Some r → Repeats r old new columns columns' before after f
    pub refusal : new.refusal ≡ refusal_after old.refusal f.stop
    pub rules : new.rules ≡ old.rules
    pub given : new.given ≡ old.given

  -- The other sink got these events, of which there is one at most, or failed at it.
  abbrev pub IsEmitted : Stop → (before after : S) → List (ℕ × Event) → Type 0
  IsEmitted stop.Other before after es = (x : ℕ × Event) × (es ≡ x ∷ []) × Gets m before x.0 x.1 after
  IsEmitted stop.Failed before after es = (x : ℕ × Event) × (es ≡ x ∷ []) × Fails m before x.0 x.1 after
  IsEmitted w before after es = (es ≡ []) × (after ≡ before)

  -- Two calls used the same bytes, and stop alike. The columns took the same cells, and the other sinks were handed the same event, if any; and both
  -- decoders are after the same bytes and the same events, have refused the same, and have the same types that were given.
  pub record AreOneRead (gifts : Gifts) (s input : List ℕ) (es : List (ℕ × Event)) (new new' : StreamState) (columns columns' columns'' : Batch)
      (before after after' : S) (w w' : Went) (f f' : Filled) : Type 0 where
    pub used : f'.used ≡ f.used
    pub stop : StopAlike f.stop f'.stop
    pub went : f'.stop ≡ f.stop → w' ≡ w
    pub same : columns'' ≡ columns'
    pub cells : List (ℕ × Event)
    pub taken : TakesCells columns cells columns'
    pub other : List (ℕ × Event)
    pub emitted : IsEmitted f.stop before after other
    pub emitted' : IsEmitted f'.stop before after' other
    pub conforms : AfterGifts gifts new (s ++ take f.used input) (es ++ (cells ++ other))
    pub conforms' : AfterGifts gifts new' (s ++ take f.used input) (es ++ (cells ++ other))
    pub refusal : new'.refusal ≡ new.refusal
    pub rules : new'.rules ≡ new.rules
    pub given : new'.given ≡ new.given

  -- At one place of a stream, over the same input and with the same columns, which have the cells of these events, a call makes one answer; whether the
  -- other sink fails is its own.
  abbrev pub OneAnswerOfRead : Type 0
  OneAnswerOfRead =
      (gifts : Gifts) (s : List ℕ) (es : List (ℕ × Event)) (sites : List Site) (had : List Event) (old new new' : StreamState) (input : List ℕ)
      (columns columns' columns'' : Batch) (before after after' : S) (w w' : Went) (f f' : Filled)
      → AfterGifts gifts old s es → HasTaken columns.limits sites had columns
      → HasRead old new input columns columns' before after w f → HasRead old new' input columns columns'' before after' w' f'
      → AreOneRead gifts s input es new new' columns columns' columns'' before after after' w w' f f'
