-- Laws of rows: what is written of pages is the text of the values in them.
use Rattle.std.specs.Prelude.{◌≡◌, ◌≢◌, ℕ, Bool, ◌+◌, ◌≤◌, ◌^◌, max, List, [], ◌∷◌, ◌++◌, length, Option, None, true, Ok, All, ◌⊎◌}
use Rattle.cqlp_note.specs.declared.limits.Limits.{Limits}
use Rattle.cqlp_note.specs.Limits.{Rules, first_bad, rules_of, with_lenient}
use Rattle.cqlp_kind.specs.declared.kind.Kind.{Kind}
use Rattle.cqlp_kind.specs.Types.{Types}
use Rattle.cqlp_value.specs.Values.{Values, NoValue, Null_and, Empty_and, Scalar_and, Counted_and, Fields_and, value_fits}
use Rattle.cqlp_grammar.specs.declared.event.Finish.{Finish}
use Rattle.cqlp_grammar.specs.declared.event.Finish.TheVariants as finish
use Rattle.cqlp_message.specs.FrameValues.{Message, Rows, FrameValue}
use Rattle.cqlp_message.specs.Parts.{Cell_is, part_events}
use Rattle.cqlp_message.specs.Frames.{AllSpell, Flat, FlatAll, IsWithin, unfit_of}
use Rattle.cqlp_decode.specs.declared.running.Outcome.TheVariants as outcome
use Rattle.cqlp_decode.specs.Reading.{Event, Gifts}
use Rattle.cqlp_decode.specs.Progress.{StreamState}
use Rattle.cqlp_decode.specs.Streams.{AfterGifts}
use Rattle.cqlp_laws.specs.Frames.{AllWithin, AllBeginInTime}
use Rattle.cqlp_laws.specs.Untyped.{AreWholeFrames, NoneInUse}
use Rattle.cqlp_text.specs.declared.ending.Ending.TheVariants as ending
use Rattle.cqlp_text.specs.Endings.{ending_line}
use Rattle.cqlp_text.specs.Outputs.{Output, with_text}
use Rattle.cqlp_text.specs.PageText.{PagePlace, no_page, page_text, whole_value}
use Rattle.cqlp_render.specs.declared.text_form.TextForm.TheVariants as forms
use Rattle.cqlp_render.specs.Rendering.{RendersTo}
use Rattle.cqlp_render.specs.Showing.{ShowsBytes}
use Rattle.cqlp_render.specs.Streams.{Streams}
use Rattle.cqlp_tool_laws.specs.Tool.{IsGranted}
use Rattle.cqlp_tool_laws.specs.ValueText.{value_texts, message_text, frames_text}

-- how many values with items are in one another, at most
abbrev pub nesting : Values → ℕ
nesting NoValue = 0
nesting (Null_and others) = nesting others
nesting (Empty_and others) = nesting others
nesting (Scalar_and v others) = nesting others
nesting (Counted_and k count items others) = max (1 + nesting items) (nesting others)
nesting (Fields_and k items others) = max (1 + nesting items) (nesting others)

-- the cells of a page nest no deeper
abbrev pub NestsWithin : (depth : ℕ) → Message → Type 0
NestsWithin depth (Rows p) = All (λ v. nesting v ≤ depth) p.cells
NestsWithin depth m = Unit {0}

-- ---- the text of events

-- the place in a page in this column, with no value open
abbrev pub in_column : (columns column : ℕ) → PagePlace
in_column columns column = record { is_page = true; columns = columns; column = column; open_values = [] }

-- A value that fits has one text. Wherever a page is between two cells, the events of a cell add the text of its value, with
-- what comes before and after a cell of its column.
abbrev pub CellIsItsValue : Type 0
CellIsItsValue =
    (l : Rules) (at columns last row column : ℕ) (k : Kind) (inner : Types) (v : Values) (more : List (ℕ × Event))
    → 1 ≤ l.part → value_fits k inner v ≡ true → nesting v ≤ 64
    → (text : List ℕ) × (value_texts v ≡ text ∷ [])
    × (page_text (in_column columns last) (part_events l at (Cell_is row column k inner v) ++ more)
    ≡ whole_value (in_column columns column) column text ++ page_text (in_column columns column) more)

-- The text of the events of a frame that nothing keeps from being spelled is that of its values, where those nest no deeper
-- than 64 and a part of a long content has any byte.
abbrev pub FrameIsItsValues : Type 0
FrameIsItsValues =
    (l : Rules) (at x : ℕ) (f : FrameValue) → 1 ≤ l.part → unfit_of f ≡ None → NestsWithin 64 f.message
    → page_text no_page (Flat l at f x) ≡ message_text f.message

-- The same of frames that bytes spell, one after the other.
abbrev pub FramesAreTheirValues : Type 0
FramesAreTheirValues =
    (l : Rules) (at : ℕ) (fs : List (FrameValue × ℕ)) (bytes : List ℕ)
    → 1 ≤ l.part → AllSpell fs bytes → All (λ f. NestsWithin 64 f.0.message) fs
    → page_text no_page (FlatAll l at fs) ≡ frames_text fs

-- Within limits the cells of a page nest no deeper than the limits allow types to, which is 64 at most: so the text of its
-- events is always that of its values.
abbrev pub NestingIsLimited : Type 0
NestingIsLimited =
    (limits : Limits) (f : FrameValue)
    → first_bad limits ≡ Ok tt → unfit_of f ≡ None → IsWithin (rules_of limits) f
    → NestsWithin limits.depth f.message × (limits.depth ≤ 64)

-- ---- what is written

-- A renderer of pages that is Finished, over bytes that spell frames within its limits, wrote the text of the values in them.
-- It may come after other frames, while types are given, where no given types are in use on the way.
abbrev pub ValuesAreRendered : Type 0
ValuesAreRendered =
    (gifts : Gifts) (turns : ℕ) (f : Finish) (old new : StreamState) (xs : List ℕ) (left : Option (List ℕ))
    (before after : Output) (s : List ℕ) (es : List (ℕ × Event)) (fs : List (FrameValue × ℕ))
    → AfterGifts gifts old s es → old.refusal ≡ None → new.rules ≡ old.rules
    → 1 ≤ old.rules.part → old.rules.depth ≤ 64
    → AreWholeFrames old.rules gifts s es → AllSpell fs xs → AllWithin old.rules fs → AllBeginInTime (length s) fs
    → NoneInUse old.rules gifts (s ++ xs) es (FlatAll old.rules (length s) fs)
    → RendersTo (forms.Pages no_page) turns (outcome.Finished f) old new xs left before after
    → after ≡ with_text before (frames_text fs)

-- `rows`, lenient or not, over bytes that spell frames within its limits, where the outside granted all, or the status is not that of a fault,
-- wrote just the text of the values in their pages, and reported that the stream is whole.
abbrev pub ValuesAreShown : Type 0
ValuesAreShown =
    (limits : Limits) (lenient : Bool) (turns : ℕ) (xs : List ℕ) (before : Streams) (status : ℕ) (after : Streams)
    (fs : List (FrameValue × ℕ))
    → first_bad limits ≡ Ok tt → AllSpell fs xs → AllWithin (with_lenient lenient (rules_of limits)) fs → length xs ≤ 2 ^ 63
    → IsGranted turns xs before after ⊎ (status ≢ 3)
    → ShowsBytes (forms.Pages no_page) (with_lenient lenient (rules_of limits)) turns xs before status after
    → (status ≡ 0) × (after.out ≡ with_text before.out (frames_text fs))
    × (after.err ≡ with_text before.err (ending_line (ending.Finished (finish.Whole (length xs)))))
