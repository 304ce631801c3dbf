-- One direction of a connection: its stream, and what it delivered.
use Rattle.std.specs.Prelude.{◌≡◌, ℕ, length}
use Rattle.cqlp_tcp_reassembly.specs.declared.step.StreamStep.{StreamStep}
use Rattle.cqlp_tcp_reassembly.specs.declared.step.StreamStep.TheVariants as step
use Rattle.cqlp_tcp_reassembly.specs.Segments.{Segment}
use Rattle.cqlp_tcp_reassembly.specs.Streams as streams
use Rattle.cqlp_tcp_reassembly.specs.Streams.{StreamState, Delivery, after_acknowledgement, after_close, after_refusal, after_segment, held, size, unseen}
use Rattle.cqlp_tcp_connections.specs.declared.side.SideStep.{SideStep}
use Rattle.cqlp_tcp_connections.specs.declared.totals.DirectionTotals.{DirectionTotals}
use Rattle.cqlp_tcp_connections.specs.Totals.{begun, handed_on, none_delivered, noted, position}

pub record SideState : Type 0 where
  pub stream : StreamState
  pub totals : DirectionTotals

abbrev pub side : StreamState → DirectionTotals → SideState
side s t = record { stream = s; totals = t }

-- what is delivered, and the direction after it
pub record SideDelivery : Type 0 where
  pub what : SideStep
  pub after : SideState

abbrev pub side_delivered : SideStep → SideState → SideDelivery
side_delivered w s = record { what = w; after = s }

-- Nothing was delivered.
abbrev pub new_side : SideState
new_side = side unseen none_delivered

-- how much it holds of what came early, in the measure of `Stream::size`
abbrev pub size_of : SideState → ℕ
size_of s = size s.stream

-- what its stream delivers, at the place up to which all was delivered
abbrev pub delivering : Delivery → (before after : DirectionTotals) → SideDelivery
delivering t before after = side_delivered (record { at = position before; step = t.step }) (side t.state after)

-- of a segment, with whose number it may begin
abbrev pub with_begin : StreamStep → (sequence : ℕ) → DirectionTotals → DirectionTotals
with_begin (step.Began syn) sequence t = begun syn sequence t
with_begin (step.Payload from count) sequence t = t
with_begin (step.Held time begins) sequence t = t
with_begin (step.Gap n cause time) sequence t = t
with_begin step.Kept sequence t = t
with_begin step.Ended sequence t = t
with_begin step.Reset sequence t = t
with_begin step.Done sequence t = t

abbrev pub taken_as : Delivery → (sequence : ℕ) → DirectionTotals → SideDelivery
taken_as t sequence totals = delivering t totals (noted t.step (with_begin t.step sequence totals))

abbrev pub taken : SideState → Segment → (room : ℕ) → SideDelivery
taken s g room = taken_as (after_segment s.stream g room) g.control.sequence s.totals

-- where memory is refused
abbrev pub refused : SideState → Segment → SideState
refused s g = side (after_refusal s.stream g) s.totals

-- of an acknowledgement, and where no more segments come
abbrev pub noted_as : Delivery → DirectionTotals → SideDelivery
noted_as t totals = delivering t totals (noted t.step totals)

abbrev pub acknowledged : SideState → (number : ℕ) → SideDelivery
acknowledged s number = noted_as (after_acknowledgement s.stream number) s.totals

abbrev pub closed : SideState → SideDelivery
closed s = noted_as (after_close s.stream) s.totals

-- Bytes that came early are passed, and counted.
abbrev pub passed : SideState → SideState
passed s = side (streams.passed s.stream) (handed_on (length (held s.stream)) s.totals)

-- Nothing is delivered, and nothing changes.
abbrev pub IsIdle : SideState → SideDelivery → Type 0
IsIdle s t = (t.what.step ≡ step.Done) × (t.after ≡ s)
