-- What is written of a frame is read back.
use Rattle.std.specs.Prelude.{◌≡◌, ◌++◌, ℕ, ◌≤◌, ◌^◌, List, length, None}
use Rattle.cqlp_note.specs.Limits.{Rules}
use Rattle.cqlp_value.specs.Values.{Values}
use Rattle.cqlp_message.specs.FrameValues.{FrameValue}
use Rattle.cqlp_message.specs.Frames.{IsWithin, Flat, frame_bytes, unfit_of}
use Rattle.cqlp_message.specs.Pages.{AreItsCells, cells_bytes, page_head, page_unfit_of, with_cells}
use Rattle.cqlp_decode.specs.Reading.{Event, Gifts, Waits, Says, start, start_with}
use Rattle.cqlp_laws.specs.Frames.{verdict_between}
use Rattle.cqlp_laws.specs.Untyped.{AreWholeFrames, NoneInUse}

-- The bytes that are written of a frame within the limits, which nothing keeps from being spelled, are read as its own
-- events, and then more is waited for: nothing is left.
abbrev pub WrittenIsRead : FrameValue → Type 0
WrittenIsRead f = (l : Rules) → unfit_of f ≡ None → IsWithin l f → Says l start (frame_bytes f) (Flat l 0 f 0) Waits

-- What is written of a page before its cells of n bytes, and then all its cells, are read as the events of the page with them,
-- where that is within the limits, and nothing is left.
abbrev pub PageIsRead : FrameValue → (n : ℕ) → List Values → Type 0
PageIsRead f n cells =
    (l : Rules) → page_unfit_of f n ≡ None → AreItsCells f n cells → IsWithin l (with_cells f cells)
    → Says l start (page_head f n ++ cells_bytes cells) (Flat l 0 (with_cells f cells) 0) Waits

-- The same after other frames, while types are given, where no given types are in use on the way.
abbrev pub WrittenIsReadWithGifts : FrameValue → Type 0
WrittenIsReadWithGifts f =
    (l : Rules) (gifts : Gifts) (s : List ℕ) (before : List (ℕ × Event))
    → AreWholeFrames l gifts s before → length s ≤ 2 ^ 63
    → unfit_of f ≡ None → IsWithin l f
    → NoneInUse l gifts (s ++ frame_bytes f) before (Flat l (length s) f 0)
    → Says l (start_with gifts) (s ++ frame_bytes f) (before ++ Flat l (length s) f 0)
    (verdict_between (length (s ++ frame_bytes f)))

abbrev pub PageIsReadWithGifts : FrameValue → (n : ℕ) → List Values → Type 0
PageIsReadWithGifts f n cells =
    (l : Rules) (gifts : Gifts) (s : List ℕ) (before : List (ℕ × Event))
    → AreWholeFrames l gifts s before → length s ≤ 2 ^ 63
    → page_unfit_of f n ≡ None → AreItsCells f n cells → IsWithin l (with_cells f cells)
    → let page = page_head f n ++ cells_bytes cells in
    NoneInUse l gifts (s ++ page) before (Flat l (length s) (with_cells f cells) 0)
    → Says l (start_with gifts) (s ++ page) (before ++ Flat l (length s) (with_cells f cells) 0)
    (verdict_between (length (s ++ page)))
