-- Laws of one answer: what a call writes is decided by its arguments, but for whether its target failed.
use Rattle.std.specs.Prelude.{◌≡◌, ℕ, ◌-◌, ◌^◌, ◌<◌, List, length, IsSome, Result, Ok, Err, ◌⊎◌}
use Rattle.cqlp_kind.specs.Scalars.{ScalarValue}
use Rattle.cqlp_grammar.specs.declared.sink.SinkFault.{SinkFault}
use Rattle.cqlp_grammar.specs.Events.{Event}
use Rattle.cqlp_json.specs.Lines.{json_line}
use Rattle.cqlp_text.specs.declared.ending.Ending.{Ending}
use Rattle.cqlp_text.specs.CellText.{cell_text}
use Rattle.cqlp_text.specs.Endings.{ending_line, cannot_open_line}
use Rattle.cqlp_text.specs.Lines.{line}
use Rattle.cqlp_text.specs.Outputs.{Offered, Output, with_text, WritesText}
use Rattle.cqlp_text.specs.PageText.{PagePlace, page_part}
use Rattle.cqlp_row_text.specs.CsvRows.{csv_part}
use Rattle.cqlp_row_text.specs.JsonRows.{json_part}
use Rattle.cqlp_row_text.specs.declared.place.TablePlace.{TablePlace}

-- The target failed in both of two calls or in neither: it counts as many failures, and had not counted all
-- that it can.
abbrev pub FailsAlike : (old new new' : Output) → Type 0
FailsAlike old new new' = (old.failures < 2 ^ 64 - 1) × (new'.failures ≡ new.failures)

-- One of two outputs was given what the other was, and then perhaps more.
abbrev pub GoesOnFromOther : (o o' : Output) → Type 0
GoesOnFromOther o o' = ((more : List ℕ) × (o' ≡ with_text o more)) ⊎ ((more : List ℕ) × (o ≡ with_text o' more))

-- Where the text was written, the outputs are the same; at a fault, one goes on from the other.
abbrev pub Agree : Result (Unit {0}) SinkFault → (new new' : Output) → Type 0
Agree (Ok u) new new' = new' ≡ new
Agree (Err e) new new' = GoesOnFromOther new new'

-- Two calls that write this text, from the same output and with a target that fails alike, have one answer.
abbrev pub WritesOnce : (text : List ℕ) → Type 0
WritesOnce text =
    (old new new' : Output) (r r' : Result (Unit {0}) SinkFault) → FailsAlike old new new'
    → WritesText old text r new → WritesText old text r' new' → (r' ≡ r) × Agree r new new'

abbrev pub CellTextIsWrittenOnce : Type 0
CellTextIsWrittenOnce = (scalar : ScalarValue) → WritesOnce (cell_text scalar)

abbrev pub EventLineIsWrittenOnce : Type 0
EventLineIsWrittenOnce = (at : ℕ) (event : Event) → WritesOnce (line at event)

abbrev pub JsonLineIsWrittenOnce : Type 0
JsonLineIsWrittenOnce = (at : ℕ) (event : Event) → WritesOnce (json_line at event)

abbrev pub PagePartIsWrittenOnce : Type 0
PagePartIsWrittenOnce = (place : PagePlace) (event : Event) → WritesOnce (page_part place event)

abbrev pub JsonPartIsWrittenOnce : Type 0
JsonPartIsWrittenOnce = (place : TablePlace) (event : Event) → WritesOnce (json_part place event)

abbrev pub CsvPartIsWrittenOnce : Type 0
CsvPartIsWrittenOnce = (place : TablePlace) (event : Event) → WritesOnce (csv_part place event)

abbrev pub EndingLineIsWrittenOnce : Type 0
EndingLineIsWrittenOnce = (ending : Ending) → WritesOnce (ending_line ending)

abbrev pub CannotOpenLineIsWrittenOnce : Type 0
CannotOpenLineIsWrittenOnce = (file : List ℕ) → WritesOnce (cannot_open_line file)

abbrev pub TextIsWrittenOnce : Type 0
TextIsWrittenOnce = (text : List ℕ) → WritesOnce text

-- Two calls that offer the same bytes, to a target that fails alike: it took all of them, or of both calls
-- only a front.
abbrev pub BytesAreOfferedOnce : Type 0
BytesAreOfferedOnce =
    (old new new' : Output) (bytes : List ℕ) (n n' : ℕ) → IsSome old.given → FailsAlike old new new'
    → Offered old bytes n new → Offered old bytes n' new'
    → ((n ≡ length bytes) × (n' ≡ n) × (new' ≡ new))
    ⊎ ((n < length bytes) × (n' < length bytes) × GoesOnFromOther new new')
