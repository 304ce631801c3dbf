-- Laws of one answer of calls that make what a handle has, give it, take it back, and describe it.
use Rattle.std.specs.Prelude.{◌≡◌, ℕ, Bool, List, Option, Some, None, ◌⊎◌, ⊤}
use Rattle.cqlp_kind.specs.declared.kind.Kind.{Kind}
use Rattle.cqlp_grammar.specs.Events.{Event}
use Rattle.cqlp_type.specs.Table.{Table}
use Rattle.cqlp_note.specs.declared.limits.Limits.{Limits}
use Rattle.cqlp_note.specs.Limits.{Rules, rules_of, with_lenient}
use Rattle.cqlp_columns.specs.declared.columns.BatchLimits.{BatchLimits}
use Rattle.cqlp_columns.specs.Arrays.{Site}
use Rattle.cqlp_columns.specs.Batches.{Batch, HasTaken, IsNew}
use Rattle.cqlp_decode.specs.Progress.{levels_of}
use Rattle.cqlp_decode.specs.Streams.{Decoding, state}
use Rattle.cqlp_laws.specs.OneAnswer.{IsAtStart}
use Rattle.cqlp_c.specs.declared.columns.CqlpBatchLimits.{CqlpBatchLimits}
use Rattle.cqlp_c.specs.declared.columns.CqlpColumn.{CqlpColumn}
use Rattle.cqlp_c.specs.declared.shown.CqlpHeld.{CqlpHeld}
use Rattle.cqlp_c.specs.declared.numbers.TheConstants as numbers
use Rattle.cqlp_c.specs.Columns.{Clears, Gets, kinds_numbered, limits_of}
use Rattle.cqlp_c.specs.Columns as columns
use Rattle.cqlp_c.specs.Given.{Copies, Gives, TakesBack}
use Rattle.cqlp_c.specs.Handle.{Holds, Makes}

-- memory was refused to one of two calls
abbrev pub LacksMemory : (a b : ℕ) → Type 0
LacksMemory a b = (a ≡ numbers.NO_MEMORY) ⊎ (b ≡ numbers.NO_MEMORY)

-- ---- a decoder

-- two handles have decoders at the start of a stream, which hold nothing
abbrev pub AreAtStart : Rules → (x y : Option Decoding) → Type 0
AreAtStart l (Some d) (Some e) = IsAtStart l d × IsAtStart l e
AreAtStart l x y = ⊥

-- A handle that has none gets a decoder at the start of a stream, or the code says why not, and it is as it was; one in use stays as it is.
abbrev pub IsOneAnswerOfNew : Type 0
IsOneAnswerOfNew =
    (lenient : Bool) (l : Limits) (old x y : Option Decoding) (a b : ℕ)
    → Makes lenient l old a x → Makes lenient l old b y
    → ((a ≡ b) × ((x ≡ y) ⊎ AreAtStart (with_lenient lenient (rules_of l)) x y)) ⊎ LacksMemory a b

-- What a decoder holds has the same numbers.
abbrev pub IsOneAnswerOfHeld : Type 0
IsOneAnswerOfHeld =
    (old x y : Option Decoding) (a b : ℕ) (was t u : CqlpHeld) → Holds old a x was t → Holds old b y was u → (a ≡ b) × (x ≡ y) × (t ≡ u)

-- ---- types

abbrev pub IsOneAnswerOfTypesOf : Type 0
IsOneAnswerOfTypesOf =
    (old d e : Option Decoding) (was x y : Option (Option Table)) (a b : ℕ)
    → Copies old a d was x → Copies old b e was y → (d ≡ e) × (((a ≡ b) × (x ≡ y)) ⊎ LacksMemory a b)

-- two decoders are at one place of a stream, and hold the same
abbrev pub AreLeftAlike : (x y : Option Decoding) → Type 0
AreLeftAlike None None = ⊤
AreLeftAlike (Some d) (Some e) = (state d ≡ state e) × (levels_of d.parts ≡ levels_of e.parts)
AreLeftAlike x y = ⊥

abbrev pub IsOneAnswerOfGive : Type 0
IsOneAnswerOfGive =
    (old d e : Option Decoding) (was x y : Option (Option Table)) (a b : ℕ)
    → Gives old a d was x → Gives old b e was y → (a ≡ b) × (x ≡ y) × AreLeftAlike d e

abbrev pub IsOneAnswerOfTakeGiven : Type 0
IsOneAnswerOfTakeGiven =
    (old d e : Option Decoding) (was x y : Option (Option Table)) (a b : ℕ)
    → TakesBack old a d was x → TakesBack old b e was y → ((a ≡ b) × (x ≡ y) × AreLeftAlike d e) ⊎ LacksMemory a b

-- ---- columns

-- two handles have columns of these kinds without rows, wherever they lie
abbrev pub AreNewOf : BatchLimits → List Kind → (x y : Option (Option Batch)) → Type 0
AreNewOf l ks (Some (Some c)) (Some (Some d)) = IsNew l ks c × IsNew l ks d
AreNewOf l ks x y = ⊥

abbrev pub AreMadeAlike : BatchLimits → List ℕ → (x y : Option (Option Batch)) → Type 0
AreMadeAlike l ns x y = (ks : List Kind) × (kinds_numbered ns ≡ Some ks) × AreNewOf l ks x y

abbrev pub IsOneAnswerOfColumnsNew : Type 0
IsOneAnswerOfColumnsNew =
    (l : CqlpBatchLimits) (ns : List ℕ) (old x y : Option (Option Batch)) (a b : ℕ)
    → columns.Makes l ns old a x → columns.Makes l ns old b y
    → ((a ≡ b) × ((x ≡ y) ⊎ AreMadeAlike (limits_of l) ns x y)) ⊎ LacksMemory a b

-- Of one column one place of each array is written, and one length.
abbrev pub IsOneAnswerOfColumnsGet : Type 0
IsOneAnswerOfColumnsGet =
    (old x y : Option (Option Batch)) (k a b : ℕ) (was t u : CqlpColumn) → Gets old x k a was t → Gets old y k b was u → (a ≡ b) × (x ≡ y) × (t ≡ u)

-- columns that were made, and have taken some events, if a handle has some
abbrev pub HasTakenSome : Option (Option Batch) → Type 0
HasTakenSome (Some (Some c)) = (sites : List Site) × (es : List Event) × HasTaken c.limits sites es c
HasTakenSome x = ⊤

abbrev pub IsOneAnswerOfColumnsClear : Type 0
IsOneAnswerOfColumnsClear =
    (old x y : Option (Option Batch)) (a b : ℕ) → HasTakenSome old → Clears old a x → Clears old b y → (a ≡ b) × (x ≡ y)
