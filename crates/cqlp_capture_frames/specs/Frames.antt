-- What the first bytes of a frame say, and what those say that come next. A frame is read as a stream of its own.
use Rattle.std.specs.Prelude.{ℕ, zero, suc, ◌+◌, ◌-◌, ◌^◌, min, ◌&&◌, Bool, nat_le, if◌then◌else◌, List, [], ◌∷◌, ◌++◌, length, drop, Option, Some, None, option_map}
use Rattle.cqlp_note.specs.declared.refusal.Reason.{Reason}
use Rattle.cqlp_note.specs.Limits.{Rules}
use Rattle.cqlp_note.specs.Reader.{Said, More, Got, Bad, says as reported}
use Rattle.cqlp_note.specs.Step.{Emitted}
use Rattle.cqlp_kind.specs.declared.node.Node.{Node}
use Rattle.cqlp_kind.specs.Types.{types_of}
use Rattle.cqlp_type.specs.Forests.{depth_of}
use Rattle.cqlp_type.specs.Table.{Table}
use Rattle.cqlp_decode.specs.Giving.{are_whole}
use Rattle.cqlp_decode.specs.Reading.{Event, Gifts, Gives, Place, Read, Verdict, Waits, Refused, reading, start_with, step}
use Rattle.cqlp_capture_frames.specs.Happenings.{Happening, Says, Fails}

-- ---- the types that are given before the first event, for a page that does not describe its columns

-- They are taken where types are read, and they are whole and within the rules.
abbrev pub are_taken : Rules → List Node → Bool
are_taken l nodes =
    ((l.types && are_whole nodes) && nat_le (length nodes) l.entries) && nat_le (depth_of (types_of nodes)) l.depth

abbrev pub taken : Rules → Option (List Node) → Option (List Node)
taken l None = None
taken l (Some nodes) = if are_taken l nodes then Some nodes else None

abbrev pub gifts_of : Option (List Node) → Gifts
gifts_of None = []
gifts_of (Some nodes) = (Gives (types_of nodes) ∷ []) ∷ []

-- those of a table
abbrev pub nodes_of : Option Table → Option (List Node)
nodes_of table = option_map (λ (t : Table). t.nodes) table

-- ---- events

module _ (l : Rules) (given : Option (List Node)) where
  -- The events that these bytes say, all that there are, and the verdict where they end. There are no more events than bytes.
  abbrev pub read : List ℕ → Read
  read bytes = reading l (length bytes + 1) (start_with (gifts_of given)) bytes

  -- the events that more bytes say
  abbrev pub more_events : (before more : List ℕ) → List (ℕ × Event)
  more_events before more = drop (length (read before).0) (read (before ++ more)).0

-- ---- the types of the metadata that was read last: after a PREPARED those of its statement's result (section 4.2.5.4)

abbrev pub place_on : (Place → List ℕ → Place) → Place → List ℕ → Said (Emitted Event Place) (ℕ × Reason) → Place
place_on next p bytes More = p
place_on next p bytes (Bad fault) = p
place_on next p bytes (Got x used) = next (x.after used) (drop used bytes)

-- where the reading is after n events, or after all that there are
abbrev pub place_behind : Rules → (n : ℕ) → Place → List ℕ → Place
place_behind l zero p bytes = p
place_behind l (suc n) p bytes = place_on (place_behind l n) p bytes (reported (step l p) 0 bytes)

abbrev pub types_read : Rules → (given : Option (List Node)) → List ℕ → List Node
types_read l given bytes = (place_behind l (length bytes + 1) (start_with (gifts_of given)) bytes).nodes

-- ---- what is reported of a frame

-- the offset after this many bytes; the greatest number, if more
abbrev pub behind : (at n : ℕ) → ℕ
behind at n = min (at + n) (2 ^ 64 - 1)

-- in a frame that begins at this offset
abbrev pub says : (at : ℕ) → List (ℕ × Event) → List Happening
says at [] = []
says at (e ∷ es) = Says (behind at e.0) e.1 ∷ says at es

abbrev pub fails : (at : ℕ) → Verdict → List Happening
fails at Waits = []
fails at (Refused k why) = Fails (behind at k) why ∷ []

-- ---- a frame of which bytes are read: where it begins, the types that were given for it, and the bytes that came

pub record Open : Type 0 where
  pub at : ℕ
  pub given : Option (List Node)
  pub bytes : List ℕ

abbrev pub opened : ℕ → Option (List Node) → List ℕ → Open
opened at given bytes = record { at = at; given = given; bytes = bytes }

-- what more bytes of it say
abbrev pub more_of : Rules → Open → List ℕ → List Happening
more_of l f b = says f.at (more_events l f.given f.bytes b) ++ fails f.at (read l f.given (f.bytes ++ b)).1

-- Once it is refused, no more of it is read.
abbrev pub open_by : Verdict → Open → Option Open
open_by Waits f = Some f
open_by (Refused k why) f = None

-- the frame after more bytes
abbrev pub open_after : Rules → Open → List ℕ → Option Open
open_after l f b = open_by (read l f.given (f.bytes ++ b)).1 (opened f.at f.given (f.bytes ++ b))
