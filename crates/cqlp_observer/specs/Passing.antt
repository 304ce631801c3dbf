-- A message whose body passes: what is kept of it.
use Rattle.std.specs.Prelude.{ℕ, ◌-◌, Bool, true, false, List, [], ◌++◌, Box, length, take, drop, Option, Some, None, if◌then◌else◌}
use Rattle.cqlp_note.specs.declared.header.Header.{Header}
use Rattle.cqlp_observer_facts.specs.declared.reader.FactsReader.{FactsReader}
use Rattle.cqlp_observer_facts.specs.Reading.{before, begun, read}
use Rattle.cqlp_observer.specs.declared.message.Frame.{Frame}
use Rattle.cqlp_observer.specs.declared.message.Message.{Message}
use Rattle.cqlp_observer.specs.Announcements.{announced_on, none_announced}
use Rattle.cqlp_observer.specs.Keeping.{Kept, bare_kept, kept}

-- its first bytes, those before them where warnings are among these, and what it says, as far as none of its bytes is missing before, and whether
-- none is
pub record Passing : Type 0 where
  pub front : List ℕ
  pub announced : Option (List ℕ)
  pub reader : FactsReader
  pub is_sound : Bool

abbrev pub passing : (front : List ℕ) → (announced : Option (List ℕ)) → FactsReader → (is_sound : Bool) → Passing
passing front announced reader is_sound = record { front = front; announced = announced; reader = reader; is_sound = is_sound }

-- nothing came of its body
abbrev pub begun_with : Header → Passing
begun_with h = passing [] (none_announced h) (begun h) true

-- If none is missing before them, bytes of the body are read. Of those that lie before the message proper, where these are kept, and of the others as
-- many are kept as there is room for.
abbrev pub read_on : List ℕ → Passing → Passing
read_on b p =
    if p.is_sound then
    passing (p.front ++ take (256 - length p.front) (drop (before b p.reader) b)) (announced_on (take (before b p.reader) b) p.announced)
    (read b p.reader) true
    else p

abbrev pub broken : Passing → Passing
broken p = passing p.front p.announced p.reader false

abbrev pub kept_in : Passing → Kept
kept_in p = kept p.front p.announced p.reader.facts false

-- ---- where there is one, of which more than the header is kept

abbrev pub read_on_if : List ℕ → Option Passing → Option Passing
read_on_if b None = None
read_on_if b (Some p) = Some (read_on b p)

abbrev pub broken_if : Option Passing → Option Passing
broken_if None = None
broken_if (Some p) = Some (broken p)

abbrev pub kept_if : Option Passing → Kept
kept_if None = bare_kept
kept_if (Some p) = kept_in p

abbrev pub message : Frame → Option Passing → Message Kept
message f p = record { frame = f; kept = kept_if p }

abbrev pub message_if : Option Frame → Option Passing → Option (Message Kept)
message_if None p = None
message_if (Some f) p = Some (message f p)

-- in its box
abbrev pub passing_of : {B : Type 0} → Option (Box Passing B) → Option Passing
passing_of None = None
passing_of (Some b) = Some b.value
