-- Laws of columns.
use Rattle.std.specs.Prelude.{◌≡◌, ◌<◌, ◌%◌, ◌++◌, ◌∷◌, [], ℕ, Bool, true, false, List, Result, Some, length}
use Rattle.std.specs.List.{AllByRecursion}
use Rattle.cqlp_columns.specs.declared.column.ColumnRefusal.{ColumnRefusal}
use Rattle.cqlp_columns.specs.declared.layout.Layout.{Layout}
use Rattle.cqlp_columns.specs.Arrays.{Column, IsAnswer, Site, column_of, refusal_of}
use Rattle.cqlp_grammar.specs.Events.{Event}
use Rattle.cqlp_columns.specs.declared.columns.BatchLimits.{BatchLimits}
use Rattle.cqlp_columns.specs.declared.columns.TakeError.{TakeError}
use Rattle.cqlp_columns.specs.declared.columns.TakeError.TheVariants.{Full}
use Rattle.cqlp_columns.specs.Batches.{Batch, HasTaken, IsAnswerOf, has_room, refusal_to}
use Rattle.cqlp_columns.specs.Bits.{Spells}
use Rattle.cqlp_columns.specs.Cells.{Cell}
use Rattle.cqlp_columns.specs.Findings.{cell_count, found_in}

-- Where a column has these cells, there is one answer to one more; and where it is taken, one column after it.
abbrev pub OneAnswerOfTake : Type 0
OneAnswerOfTake =
    (s : Site) (l : Layout) (rows size : ℕ) (cells : List Cell) (c : Cell) (a a' b b' : Column) (r r' : Result (Unit {0}) ColumnRefusal)
    → a ≡ column_of s l rows size cells → a' ≡ column_of s l rows size cells → IsAnswer (refusal_of c a) r → IsAnswer (refusal_of c a') r'
    → b ≡ column_of s l rows size (cells ++ c ∷ []) → b' ≡ column_of s l rows size (cells ++ c ∷ []) → (r' ≡ r) × (b' ≡ b)

-- Bits are spelled by one array of bytes.
abbrev pub OneAnswerOfBytes : Type 0
OneAnswerOfBytes =
    (bs : List Bool) (bytes bytes' : List ℕ) → AllByRecursion (λ b. b < 256) bytes → AllByRecursion (λ b. b < 256) bytes'
    → Spells bs bytes → Spells bs bytes' → bytes' ≡ bytes

-- Where a batch has taken these events, there is one answer to one more; and where it is taken, one batch after it.
abbrev pub OneAnswerOfBatch : Type 0
OneAnswerOfBatch =
    (l : BatchLimits) (sites : List Site) (es : List Event) (e : Event) (a a' b b' : Batch) (r r' : Result (Unit {0}) TakeError)
    → HasTaken l sites es a → HasTaken l sites es a' → IsAnswerOf (refusal_to (found_in e) a) r → IsAnswerOf (refusal_to (found_in e) a') r'
    → HasTaken l sites (es ++ e ∷ []) b → HasTaken l sites (es ++ e ∷ []) b' → (r' ≡ r) × (b' ≡ b)

-- A batch is full only where a row begins for which there is no room.
abbrev pub FullWhereRowsBegin : Type 0
FullWhereRowsBegin =
    (l : BatchLimits) (sites : List Site) (es : List Event) (e : Event) (a : Batch)
    → HasTaken l sites es a → refusal_to (found_in e) a ≡ Some Full → (cell_count es % length sites ≡ 0) × (has_room l a.columns ≡ false)

-- One without rows has room for a row, if it may have any.
abbrev pub RoomForOne : Type 0
RoomForOne = (l : BatchLimits) (sites : List Site) (a : Batch) → 0 < l.rows → HasTaken l sites [] a → has_room l a.columns ≡ true
