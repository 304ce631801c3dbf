-- Frames that are read are spelled.
use Rattle.std.specs.Prelude.{◌≡◌, ℕ, ◌-◌, ◌<◌, ◌++◌, true, false, List, [], ◌∷◌, All, take, drop}
use Rattle.cqlp_note.specs.declared.header.Header.{Header}
use Rattle.cqlp_note.specs.Limits.{Rules}
use Rattle.cqlp_message.specs.FrameValues.{FrameValue}
use Rattle.cqlp_grammar.specs.Events.{Event, Frame, End}
use Rattle.cqlp_message.specs.Frames.{FrameSpells, IsWithin, FrameIsInRange, Flat}
use Rattle.cqlp_decode.specs.Reading.{Verdict, Gifts, Says, start, start_with}
use Rattle.cqlp_decode.specs.Streams.{open_after}
use Rattle.cqlp_laws.specs.Untyped.{NoneInUse}

-- an event that ends no frame
abbrev pub EndsNone : ℕ × Event → Type 0
EndsNone e = open_after e.1 ≡ true

-- A frame value with x bytes more, which these bytes spell: it is within the caller's limits and in the ranges of its
-- types, and these are its events from this offset on.
pub record IsOfFrame (l : Rules) (bytes : List ℕ) (at x : ℕ) (said : List (ℕ × Event)) : Type 0 where
  pub frame : FrameValue
  pub spelled : FrameSpells frame x bytes
  pub within : IsWithin l frame
  pub range : FrameIsInRange frame
  pub events : said ≡ Flat l at frame x

-- What is read is spelled: wherever a stream says a header at p, and after it the end of its frame at q, the bytes from
-- the one to the other spell a frame value, with as many bytes more as the end has, and what was said are its events. (A
-- lenient reading says more than what is spelled.)
abbrev pub ReadIsSpelled : Type 0
ReadIsSpelled =
    (l : Rules) (bytes : List ℕ) (before middle after : List (ℕ × Event)) (p q x : ℕ) (h : Header) (v : Verdict)
    → l.types ≡ true → l.lenient ≡ false → All (λ b. b < 256) bytes → All EndsNone middle
    → let events = (p, Frame h) ∷ middle ++ (q, End x) ∷ [] in
    Says l start bytes (before ++ events ++ after) v → IsOfFrame l (take (q - p) (drop p bytes)) p x events

-- The same while types are given, of a frame in which no given types are in use.
abbrev pub ReadIsSpelledWithGifts : Type 0
ReadIsSpelledWithGifts =
    (l : Rules) (gifts : Gifts) (bytes : List ℕ) (before middle after : List (ℕ × Event)) (p q x : ℕ) (h : Header)
    (v : Verdict)
    → l.types ≡ true → l.lenient ≡ false → All (λ b. b < 256) bytes → All EndsNone middle
    → let events = (p, Frame h) ∷ middle ++ (q, End x) ∷ [] in
    Says l (start_with gifts) bytes (before ++ events ++ after) v → NoneInUse l gifts bytes before events
    → IsOfFrame l (take (q - p) (drop p bytes)) p x events
