-- How much of a connection waits: what is counted of it, and that it stays within the room.
use Rattle.std.specs.Prelude.{◌≡◌, ℕ, ◌+◌, ◌≤◌, Bool, List, Option, length, max, sum_by, if◌then◌else◌}
use Rattle.std.specs.List.Sorted.{IsStrictlySortedBy}
use Rattle.std.specs.Map.{keys_of, values_of}
use Rattle.std.specs.Ordering.{int_cmp}
use Rattle.cqlp_observer.specs.declared.room.WatchRoom.{WatchRoom}
use Rattle.cqlp_observer.specs.Keeping.{Kept, cost_of}
use Rattle.cqlp_observer.specs.Pairings.{Waiting}
use Rattle.cqlp_observer.specs.Speakers.{Speaker, is_keeping}
use Rattle.cqlp_observer.specs.Watches.{Watched, after_end, after_gap, begun, finished, heard, new_watched}

-- the room that the texts take of all messages that wait
abbrev pub text_of : Waiting Kept → ℕ
text_of w = sum_by (λ m. cost_of m.kept) (values_of w)

-- and of the messages that pass
abbrev pub passing_text : Speaker → ℕ
passing_text s = if is_keeping s then 832 else 0

abbrev pub all_text : Watched → ℕ
all_text w = text_of w.waiting + passing_text w.requests + passing_text w.responses

-- It is known, and the messages are in the order of their ids.
pub record IsCounted (w : Watched) : Type 0 where
  pub ordered : IsStrictlySortedBy int_cmp (keys_of w.waiting)
  pub text : w.text ≡ all_text w

-- After a call no more wait than there is room for, or did before.
pub record StaysWithin (room : WatchRoom) (old new : Watched) : Type 0 where
  pub counted : IsCounted new
  pub messages : length new.waiting ≤ max room.messages (length old.waiting)
  pub text : all_text new ≤ max room.text (all_text old)

abbrev pub KeepsWithinRoom : Type 0
KeepsWithinRoom =
    IsCounted new_watched
    × ((responses from_start : Bool) (room : WatchRoom) (w : Watched) → IsCounted w → StaysWithin room w (begun responses from_start w))
    × ((responses : Bool) (time : Option ℕ) (begins : Bool) (b : List ℕ) (room : WatchRoom) (w : Watched)
    → IsCounted w → StaysWithin room w (heard responses time begins b room w).after)
    × ((responses : Bool) (n : ℕ) (time : Option ℕ) (room : WatchRoom) (w : Watched)
    → IsCounted w → StaysWithin room w (after_gap responses n time room w).after)
    × ((responses : Bool) (room : WatchRoom) (w : Watched) → IsCounted w → StaysWithin room w (after_end responses room w).after)
    × ((w : Watched) → IsCounted w → IsCounted (finished w).after)
