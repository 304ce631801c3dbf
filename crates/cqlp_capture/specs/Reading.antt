-- What a capture file says, from left to right.
use Rattle.std.specs.Prelude.{◌≡◌, ℕ, ◌+◌, ◌-◌, min, List, [], ◌∷◌, drop, Option, Some, None, Result, Ok, Err}
use Rattle.cqlp_note.specs.Reader.{Said, More, Bad, Got, Reader, Gives, Refuses, Takes, says}
use Rattle.cqlp_capture.specs.declared.file.SectionForm.{SectionForm}
use Rattle.cqlp_capture.specs.declared.event.InterfaceHead.{InterfaceHead}
use Rattle.cqlp_capture.specs.declared.event.PacketHead.{PacketHead}
use Rattle.cqlp_capture.specs.declared.event.SkipReason.{SkipReason}
use Rattle.cqlp_capture.specs.declared.event.EventOutline.{EventOutline}
use Rattle.cqlp_capture.specs.declared.event.EventOutline.TheVariants as outline
use Rattle.cqlp_capture.specs.declared.event.Emission.{Emission}
use Rattle.cqlp_capture.specs.declared.interfaces.KnownInterface.{KnownInterface}
use Rattle.cqlp_capture.specs.declared.limits.CaptureLimits.{CaptureLimits}
use Rattle.cqlp_capture.specs.declared.place.Stage.{Stage}
use Rattle.cqlp_capture.specs.declared.place.Stage.TheVariants.{Magic, FileHead, RecordHead, Data, Rest, SectionLength, SectionBody, BlockHead, InterfaceBody, OptionHead, TimeUnit, TimeOffset, EnhancedBody, PacketBody, SimpleBody, BlockData, Pass, BlockEnd}
use Rattle.cqlp_capture.specs.declared.place.Place.{Place}
use Rattle.cqlp_capture.specs.declared.refusal.CaptureRefusal.{CaptureRefusal}
use Rattle.cqlp_capture.specs.Interfaces.{changed}
use Rattle.cqlp_capture.specs.Emission.{goes_on}
use Rattle.cqlp_capture.specs.Numbers.{number_16, number_32}
use Rattle.cqlp_capture.specs.Records.{rest_of, read_magic, read_file_head, read_record_head}
use Rattle.cqlp_capture.specs.Blocks.{block_end, passing, read_data, read_section_length, read_section_body, read_block_head, read_interface_body, read_option_head, read_time_unit, read_time_offset, read_enhanced_body, read_simple_body, read_block_end}

-- An event: a section of this form begins, an interface, a packet, the bytes that were captured of it, and what cannot be read and
-- is passed over.
pub data Event : Type 0 where
  Section : SectionForm → Event
  Interface : InterfaceHead → Event
  Packet : PacketHead → Event
  Bytes : List ℕ → Event
  Skipped : SkipReason → Event

-- the event of this kind over the bytes that were read
abbrev pub event_with : EventOutline → List ℕ → Event
event_with (outline.Section f) b = Section f
event_with (outline.Interface i) b = Interface i
event_with (outline.Packet p) b = Packet p
event_with outline.Data b = Bytes b
event_with (outline.Skipped why) b = Skipped why

-- and that of a step, if it has one
abbrev pub event_if : Option EventOutline → List ℕ → Option Event
event_if None b = None
event_if (Some w) b = Some (event_with w b)

-- ---- the bytes of each place

-- How many bytes are read next. Those that are passed over are read one by one.
abbrev pub wanted : Stage → ℕ
wanted Magic = 4
wanted (FileHead f) = 20
wanted (RecordHead r) = 16
wanted (Data r n) = n
wanted (Rest r start left) = min left 64
wanted SectionLength = 4
wanted (SectionBody l) = 16
wanted (BlockHead o) = 8
wanted (InterfaceBody b) = 8
wanted (OptionHead b) = 4
wanted (TimeUnit b) = 4
wanted (TimeOffset b) = 8
wanted (EnhancedBody b) = 20
wanted (PacketBody b) = 20
wanted (SimpleBody b) = 4
wanted (BlockData b n) = n
wanted (Pass b until) = 1
wanted (BlockEnd b) = 4

-- What the bytes say that are read next, under these limits, where these are the section's interfaces so far. After a
-- packet of a block what is left of the block is passed over. A packet block has the number of its interface in two bytes, and
-- then two that are not used; else it is as an enhanced packet block.
abbrev pub read_at : CaptureLimits → List KnownInterface → (offset : ℕ) → Stage → List ℕ → Result Emission CaptureRefusal
read_at l known offset Magic bytes = read_magic bytes
read_at l known offset (FileHead f) bytes = read_file_head f bytes
read_at l known offset (RecordHead r) bytes = read_record_head l.packet offset r bytes
read_at l known offset (Data r n) bytes = read_data (offset + n) offset (RecordHead r)
read_at l known offset (Rest r start left) bytes = goes_on (offset + min left 64) (rest_of r start (left - min left 64))
read_at l known offset SectionLength bytes = read_section_length bytes
read_at l known offset (SectionBody e) bytes = read_section_body offset e bytes
read_at l known offset (BlockHead o) bytes = read_block_head offset o bytes
read_at l known offset (InterfaceBody b) bytes = read_interface_body offset b bytes
read_at l known offset (OptionHead b) bytes = read_option_head offset b bytes
read_at l known offset (TimeUnit b) bytes = read_time_unit offset b bytes
read_at l known offset (TimeOffset b) bytes = read_time_offset offset b bytes
read_at l known offset (EnhancedBody b) bytes = read_enhanced_body l.packet known (number_32 b.order 0 bytes) offset b bytes
read_at l known offset (PacketBody b) bytes = read_enhanced_body l.packet known (number_16 b.order 0 bytes) offset b bytes
read_at l known offset (SimpleBody b) bytes = read_simple_body l.packet known offset b bytes
read_at l known offset (BlockData b n) bytes = read_data (offset + n) offset (passing b (offset + n) (block_end b))
read_at l known offset (Pass b until) bytes = goes_on (offset + 1) (passing b (offset + 1) until)
read_at l known offset (BlockEnd b) bytes = read_block_end l.interfaces known offset b bytes

-- ---- steps

-- where the reading is, and the interfaces of the section so far
pub record Spot : Type 0 where
  pub place : Place
  pub known : List KnownInterface

-- an event at an offset, or none, and where the reading is after it
pub record Emitted : Type 0 where
  pub at : ℕ
  pub event : Option Event
  pub after : Spot

abbrev pub emission : CaptureLimits → Spot → List ℕ → Result Emission CaptureRefusal
emission l p b = read_at l p.known p.place.offset p.place.stage b

abbrev pub after_emission : List KnownInterface → Emission → Spot
after_emission known t = record { place = t.place; known = changed t.change known }

abbrev pub emitted : List KnownInterface → List ℕ → Result Emission CaptureRefusal → Reader Emitted CaptureRefusal
emitted known b (Ok t) = Gives (record { at = t.at; event = event_if t.what b; after = after_emission known t })
emitted known b (Err r) = Refuses r

abbrev pub step : CaptureLimits → Spot → Reader Emitted CaptureRefusal
step l p = Takes (wanted p.place.stage) (λ b. emitted p.known b (emission l p b))

-- where a file begins
abbrev pub start : Spot
start = record { place = record { offset = 0; stage = Magic }; known = [] }

-- Reading from p over these bytes takes these steps and leads to q, before the bytes that are left.
abbrev pub Reads : CaptureLimits → Spot → List ℕ → List (ℕ × Option Event) → Spot → List ℕ → Type 0
Reads l p bytes [] q rest = (q ≡ p) × (rest ≡ bytes)
Reads l p bytes (e ∷ es) q rest =
    (used : ℕ) × (after : Spot)
    × (says (step l p) 0 bytes ≡ Got (record { at = e.0; event = e.1; after = after }) used)
    × Reads l after (drop used bytes) es q rest

-- the event of a step, before those of other steps
abbrev pub heard_first : (at : ℕ) → Option Event → List (ℕ × Event) → List (ℕ × Event)
heard_first at None es = es
heard_first at (Some e) es = (at, e) ∷ es

-- the events of steps
abbrev pub heard : List (ℕ × Option Event) → List (ℕ × Event)
heard [] = []
heard (x ∷ xs) = heard_first x.0 x.1 (heard xs)

-- Reading from p over these bytes says these events and leads to q, before the bytes that are left.
pub record Hears (l : CaptureLimits) (p : Spot) (bytes : List ℕ) (es : List (ℕ × Event)) (q : Spot) (rest : List ℕ) : Type 0 where
  pub steps : List (ℕ × Option Event)
  pub events : heard steps ≡ es
  pub reads : Reads l p bytes steps q rest

pub data Verdict : Type 0 where
  Waits : Verdict
  Refused : CaptureRefusal → Verdict

-- a step that is not taken ends with this verdict
abbrev pub Ends : Said Emitted CaptureRefusal → Verdict → Type 0
Ends More Waits = Unit {0}
Ends (Bad r) (Refused s) = r ≡ s
Ends d v = ⊥

-- Reading from p over these bytes says these events, all that there are, and this verdict.
abbrev pub Says : CaptureLimits → Spot → List ℕ → List (ℕ × Event) → Verdict → Type 0
Says l p bytes es v =
    (q : Spot) × (rest : List ℕ) × Hears l p bytes es q rest × Ends (says (step l q) 0 rest) v
