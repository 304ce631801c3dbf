-- Frames that are spelled are read.
use Rattle.std.specs.Prelude.{ℕ, ◌+◌, ◌≤◌, ◌^◌, ◌++◌, List, [], ◌∷◌, length, FitsSigned, nat_lt, if◌then◌else◌}
use Rattle.std.specs.Int.{w16}
use Rattle.cqlp_note.specs.declared.refusal.Reason.TheVariants.{StreamTooLong}
use Rattle.cqlp_note.specs.Limits.{Rules}
use Rattle.cqlp_message.specs.FrameValues.{FrameValue}
use Rattle.cqlp_message.specs.Frames.{AllSpell, FlatAll, IsWithin, frame_size}
use Rattle.cqlp_decode.specs.Reading.{Verdict, Refused, Waits, Event, Gifts, Says, start, start_with}
use Rattle.cqlp_laws.specs.Untyped.{AreWholeFrames, NoneInUse}

-- each frame is within the caller's limits, and its stream id has 16 bits
abbrev pub AllWithin : Rules → List (FrameValue × ℕ) → Type 0
AllWithin l [] = Unit {0}
AllWithin l (f ∷ fs) = IsWithin l f.0 × FitsSigned w16 f.0.stream × AllWithin l fs

-- Of these frames, the first of which begins at this offset, none begins past offset 2 ^ 63.
abbrev pub AllBeginInTime : (offset : ℕ) → List (FrameValue × ℕ) → Type 0
AllBeginInTime at [] = Unit {0}
AllBeginInTime at (f ∷ fs) = (at ≤ 2 ^ 63) × AllBeginInTime (at + frame_size f.0 f.1) fs

-- Where frames end, more is waited for; but past offset 2 ^ 63 no frame may begin.
abbrev pub verdict_between : (offset : ℕ) → Verdict
verdict_between at = if nat_lt (2 ^ 63) at then Refused at StreamTooLong else Waits

-- Frames one after the other, within the limits, each with this many bytes more, are read as their events, and then
-- more is waited for, unless the last of them ends past offset 2 ^ 63.
abbrev pub SpelledIsRead : Type 0
SpelledIsRead =
    (l : Rules) (fs : List (FrameValue × ℕ)) (bytes : List ℕ)
    → AllSpell fs bytes → AllWithin l fs → AllBeginInTime 0 fs
    → Says l start bytes (FlatAll l 0 fs) (verdict_between (length bytes))

-- The same after other frames, while types are given: the frames of these bytes are read as their events, where no given
-- types are in use on the way.
abbrev pub SpelledIsReadWithGifts : Type 0
SpelledIsReadWithGifts =
    (l : Rules) (gifts : Gifts) (s bytes : List ℕ) (before : List (ℕ × Event)) (fs : List (FrameValue × ℕ))
    → AreWholeFrames l gifts s before → AllSpell fs bytes → AllWithin l fs → AllBeginInTime (length s) fs
    → NoneInUse l gifts (s ++ bytes) before (FlatAll l (length s) fs)
    → Says l (start_with gifts) (s ++ bytes) (before ++ FlatAll l (length s) fs)
    (verdict_between (length (s ++ bytes)))
