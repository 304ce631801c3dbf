-- What a direction delivered, in numbers.
use Rattle.std.specs.Prelude.{ℕ, ◌+◌, ◌-◌, ◌^◌, Bool, min, if◌then◌else◌}
use Rattle.cqlp_tcp_reassembly.specs.declared.step.GapCause.{GapCause}
use Rattle.cqlp_tcp_reassembly.specs.declared.step.GapCause.TheVariants.{Lost, Snapped}
use Rattle.cqlp_tcp_reassembly.specs.declared.step.StreamStep.{StreamStep}
use Rattle.cqlp_tcp_reassembly.specs.declared.step.StreamStep.TheVariants as step
use Rattle.cqlp_tcp_connections.specs.declared.tally.BeginKind.{BeginKind}
use Rattle.cqlp_tcp_connections.specs.declared.tally.BeginKind.TheVariants as kind
use Rattle.cqlp_tcp_connections.specs.declared.totals.Begin.{Begin}
use Rattle.cqlp_tcp_connections.specs.declared.totals.Begin.TheVariants.{Unseen, Syn, Middle}
use Rattle.cqlp_tcp_connections.specs.declared.totals.End.{End}
use Rattle.cqlp_tcp_connections.specs.declared.totals.End.TheVariants.{Open, Fin, Reset}
use Rattle.cqlp_tcp_connections.specs.declared.totals.DirectionTotals.{DirectionTotals}

-- so many more, up to what a number holds
abbrev pub counted : ℕ → (more : ℕ) → ℕ
counted n more = min (n + more) (2 ^ 64 - 1)

abbrev pub direction_totals : (segments bytes gaps missing snapped snapped_bytes : ℕ) → Begin → End → DirectionTotals
direction_totals segments bytes gaps missing snapped snapped_bytes begin end = record {
  segments = segments;
  bytes = bytes;
  gaps = gaps;
  missing = missing;
  snapped = snapped;
  snapped_bytes = snapped_bytes;
  begin = begin;
  end = end;
}

-- how it began, with a number that one of which nothing was seen does not have
abbrev pub begin_of : BeginKind → (first : ℕ) → Begin
begin_of kind.Unseen first = Unseen
begin_of kind.Syn first = Syn first
begin_of kind.Middle first = Middle first

abbrev pub none_delivered : DirectionTotals
none_delivered = direction_totals 0 0 0 0 0 0 Unseen Open

abbrev pub one_more : DirectionTotals → DirectionTotals
one_more t = record t { segments = counted t.segments 1 }

abbrev pub handed_on : ℕ → DirectionTotals → DirectionTotals
handed_on n t = record t { bytes = counted t.bytes n }

-- It began with a segment of this number, which had SYN or not.
abbrev pub begun : (syn : Bool) → (sequence : ℕ) → DirectionTotals → DirectionTotals
begun syn sequence t = record t { begin = if syn then Syn sequence else Middle sequence }

-- It has a gap of so many bytes.
abbrev pub passed_over : GapCause → ℕ → DirectionTotals → DirectionTotals
passed_over Lost n t = record t { gaps = counted t.gaps 1; missing = counted t.missing n }
passed_over Snapped n t = record t { snapped = counted t.snapped 1; snapped_bytes = counted t.snapped_bytes n }

-- Bytes and gaps are counted, and an end is noted. Bytes that came early are counted once they are passed.
abbrev pub noted : StreamStep → DirectionTotals → DirectionTotals
noted (step.Began syn) t = t
noted (step.Payload from count) t = handed_on count t
noted (step.Held time begins) t = t
noted (step.Gap n cause time) t = passed_over cause n t
noted step.Kept t = t
noted step.Ended t = record t { end = Fin }
noted step.Reset t = record t { end = Reset }
noted step.Done t = t

-- how many bytes and bytes of gaps were delivered
abbrev pub position : DirectionTotals → ℕ
position t = counted (counted t.bytes t.missing) t.snapped_bytes
