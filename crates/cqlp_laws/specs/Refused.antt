-- What is refused, but for a limit, is no frame.
use Rattle.std.specs.Prelude.{◌≡◌, ◌≢◌, ℕ, ◌≤◌, ◌++◌, true, List, None}
use Rattle.cqlp_note.specs.declared.refusal.Reason.{Reason}
use Rattle.cqlp_note.specs.declared.refusal.Reason.TheVariants.{StreamTooLong}
use Rattle.cqlp_note.specs.declared.refusal.Refusal.{Refusal}
use Rattle.cqlp_note.specs.Limits.{Rules}
use Rattle.cqlp_message.specs.FrameValues.{FrameValue}
use Rattle.cqlp_message.specs.Frames.{AllSpell}
use Rattle.cqlp_decode.specs.declared.step.Step.TheVariants as step
use Rattle.cqlp_decode.specs.Reading.{Event, Refused, Gifts, Says, start, start_with}
use Rattle.cqlp_decode.specs.Progress.{StreamState}
use Rattle.cqlp_decode.specs.Streams.{After, AfterGifts, Answers}
use Rattle.cqlp_laws.specs.Limits.{IsOfLimit}
use Rattle.cqlp_laws.specs.Untyped.{AreWholeFrames, NoneInUse}

-- The fault is the bytes' own: no limit of the caller's, and not that a stream goes on past offset 2 ^ 63.
abbrev pub IsFault : Reason → Type 0
IsFault why = (IsOfLimit why → ⊥) × (why ≢ StreamTooLong)

-- Where cells are read as their types, and a part of a long content has any byte: bytes that are refused for a fault of
-- their own begin no list of frames, whatever bytes follow.
abbrev pub RefusedIsNoFrame : Type 0
RefusedIsNoFrame =
    (l : Rules) (bytes : List ℕ) (es : List (ℕ × Event)) (k : ℕ) (why : Reason)
    → l.types ≡ true → 1 ≤ l.part → Says l start bytes es (Refused k why) → IsFault why
    → (t : List ℕ) (fs : List (FrameValue × ℕ)) → AllSpell fs (bytes ++ t) → ⊥

-- So where a decoder that has used the bytes s refuses its input for such a fault, s and the input begin no frames.
abbrev pub DecoderRefusesNoFrame : Type 0
DecoderRefusesNoFrame =
    (old new : StreamState) (s input : List ℕ) (es : List (ℕ × Event)) (r : Refusal)
    → old.rules.types ≡ true → 1 ≤ old.rules.part → old.refusal ≡ None
    → After old s es → Answers old input (step.Refused r) new → IsFault r.why
    → (t : List ℕ) (fs : List (FrameValue × ℕ)) → AllSpell fs (s ++ input ++ t) → ⊥

-- The same after other frames, while types are given, where no given types are in use on the way: the bytes after those
-- frames begin no list of frames.
abbrev pub RefusedIsNoFrameWithGifts : Type 0
RefusedIsNoFrameWithGifts =
    (l : Rules) (gifts : Gifts) (s bytes : List ℕ) (before es : List (ℕ × Event)) (k : ℕ) (why : Reason)
    → l.types ≡ true → 1 ≤ l.part → AreWholeFrames l gifts s before
    → Says l (start_with gifts) (s ++ bytes) (before ++ es) (Refused k why) → IsFault why
    → NoneInUse l gifts (s ++ bytes) before es
    → (t : List ℕ) (fs : List (FrameValue × ℕ)) → AllSpell fs (bytes ++ t) → ⊥

-- And for a decoder that has used whole frames, and these bytes after them.
abbrev pub DecoderRefusesNoFrameWithGifts : Type 0
DecoderRefusesNoFrameWithGifts =
    (gifts : Gifts) (old new : StreamState) (s bytes input : List ℕ) (before es : List (ℕ × Event)) (r : Refusal)
    → old.rules.types ≡ true → 1 ≤ old.rules.part → old.refusal ≡ None → AreWholeFrames old.rules gifts s before
    → AfterGifts gifts old (s ++ bytes) (before ++ es) → Answers old input (step.Refused r) new → IsFault r.why
    → NoneInUse old.rules gifts (s ++ bytes ++ input) before es
    → (t : List ℕ) (fs : List (FrameValue × ℕ)) → AllSpell fs (bytes ++ input ++ t) → ⊥
