-- Where the events of a page go: into its columns, or to the sink beside them.
use Rattle.std.specs.Prelude.{◌≡◌, ℕ, Bool, true, false, ◌++◌, List, [], ◌∷◌, is_none, ⊤}
use Rattle.cqlp_grammar.specs.declared.sink.Sink as sink
use Rattle.cqlp_grammar.specs.Events.{Event}
use Rattle.cqlp_decode.specs.Sinks.{Gets, Fails}
use Rattle.cqlp_columns.specs.Arrays.{Site}
use Rattle.cqlp_columns.specs.Batches.{Batch, HasTaken, fault_at, is_full}
use Rattle.cqlp_columns.specs.Findings.{Finding, Nothing, Part, Whole, found_in}
use Rattle.cqlp_columns.specs.declared.page_columns.Went.{Went}
use Rattle.cqlp_columns.specs.declared.page_columns.Went.TheVariants as went

-- an event is a whole cell
abbrev pub is_whole : Finding → Bool
is_whole Nothing = false
is_whole Part = false
is_whole (Whole column c) = true

-- Columns take an event: it is a whole cell, and there is no reason against it.
abbrev pub takes : Batch → Finding → Bool
takes b Nothing = false
takes b Part = false
takes b (Whole column c) = is_none (fault_at column c b)

-- Columns took a cell, and have it after those that they had.
pub record TakesCell (before : Batch) (e : Event) (after : Batch) : Type 0 where
  pub free : takes before (found_in e) ≡ true
  pub taken : (sites : List Site) (es : List Event) → HasTaken before.limits sites es before
      → HasTaken before.limits sites (es ++ e ∷ []) after

module _ {S : Type 0} (m : sink.Ghosts S) where
  -- Where an event goes: the columns take it, and are full then or not; or they do not take it and stay as they are, and the other sink gets it, or
  -- fails at it.
  abbrev pub SortsTo : Went → (before : Batch) (other : S) → (at : ℕ) → Event → (after : Batch) (other' : S) → Type 0
  SortsTo went.Cell before other at e after other' = TakesCell before e after × (is_full after ≡ false) × (other' ≡ other)
  SortsTo went.Last before other at e after other' = TakesCell before e after × (is_full after ≡ true) × (other' ≡ other)
  SortsTo went.Other before other at e after other' =
      (takes before (found_in e) ≡ false) × (after ≡ before) × Gets m other at e other'
  SortsTo went.Failed before other at e after other' =
      (takes before (found_in e) ≡ false) × (after ≡ before) × Fails m other at e other'

-- it is not that the columns take another
abbrev pub IsOver : Went → Type 0
IsOver went.Cell = ⊥
IsOver w = ⊤
