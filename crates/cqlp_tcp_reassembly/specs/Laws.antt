-- What segments carried at each position, and what a stream holds of it.
use Rattle.std.specs.Prelude.{◌≡◌, ℕ, ◌+◌, ◌-◌, ◌%◌, ◌^◌, ◌<◌, ◌≤◌, ◌==◌, ◌&&◌, Bool, true, false, List, [], ◌∷◌, ◌++◌, length, Option, Some, None}
use Rattle.std.specs.Prelude.{slice_index, nat_lt, if◌then◌else◌, ⊤}
use Rattle.cqlp_tcp_reassembly.specs.Segments.{Segment}
use Rattle.cqlp_tcp_reassembly.specs.Runs.{EarlyRun, run_end}
use Rattle.cqlp_tcp_reassembly.specs.Streams.{StreamState, stop}

-- What was captured of a position: its byte, if the packet was not cut before it; whether that byte was the first of its
-- segment; and when the packet was captured.
pub record Entry : Type 0 where
  pub byte : Option ℕ
  pub begins : Bool
  pub time : Option ℕ

abbrev pub captured_byte : ℕ → Bool → Option ℕ → Entry
captured_byte b begins time = record { byte = Some b; begins = begins; time = time }

abbrev pub cut_off : Option ℕ → Entry
cut_off time = record { byte = None; begins = false; time = time }

-- at a position, of bytes from a position on and of those behind them that were not captured
abbrev pub entry_at : (start : ℕ) → List ℕ → (missing : ℕ) → (begins : Bool) → (time : Option ℕ) → (p : ℕ) → Option Entry
entry_at start bytes missing begins time p =
    if nat_lt p start then None
    else if nat_lt p (start + length bytes) then Some (captured_byte (slice_index bytes (p - start)) (begins && (p == start)) time)
    else if nat_lt p (start + length bytes + missing) then Some (cut_off time)
    else None

-- the first of two that is there
abbrev pub first : Option Entry → Option Entry → Option Entry
first (Some e) o = Some e
first None o = o

-- ---- segments, at positions that do not wrap

abbrev pub segment_entry : (start : ℕ) → Segment → (p : ℕ) → Option Entry
segment_entry start g p = entry_at start g.bytes g.control.missing true g.time p

-- a segment that begins at a position, as far as it lies before an end
pub record Carried : Type 0 where
  pub start : ℕ
  pub segment : Segment
  pub end : ℕ

abbrev pub carried : (start : ℕ) → Segment → (end : ℕ) → Carried
carried start g end = record { start = start; segment = g; end = end }

abbrev pub carried_entry : Carried → (p : ℕ) → Option Entry
carried_entry c p = if nat_lt p c.end then segment_entry c.start c.segment p else None

-- what the first segment carried that carried a position
abbrev pub first_entry : List Carried → (p : ℕ) → Option Entry
first_entry [] p = None
first_entry (c ∷ segments) p = first (carried_entry c p) (first_entry segments p)

-- with one more segment
abbrev pub with_more : List Carried → (start : ℕ) → Segment → (end : ℕ) → List Carried
with_more segments start g end = segments ++ carried start g end ∷ []

-- ---- what came early

abbrev pub run_entry : EarlyRun → (p : ℕ) → Option Entry
run_entry r p = entry_at r.at r.bytes r.missing r.begins r.time p

abbrev pub early_entry : List EarlyRun → (p : ℕ) → Option Entry
early_entry [] p = None
early_entry (r ∷ runs) p = first (run_entry r p) (early_entry runs p)

-- none is empty, and each lies behind the one before
abbrev pub AreInOrder : (from : ℕ) → List EarlyRun → Type 0
AreInOrder from [] = ⊤
AreInOrder from (r ∷ runs) = (from ≤ r.at) × (r.at < run_end r) × AreInOrder (run_end r) runs

-- The stream's position 0 is a number that does not wrap. From its position up to its end it has what the first of the segments
-- carried.
pub record Holds (s : StreamState) (origin : ℕ) (segments : List Carried) : Type 0 where
  pub first : s.first ≡ origin % 2 ^ 32
  pub order : AreInOrder s.position s.runs
  pub entries : (p : ℕ) → s.position ≤ p → p < stop s → early_entry s.runs p ≡ first_entry segments (origin + p)
