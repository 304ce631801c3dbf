-- Bytes that came early.
use Rattle.std.specs.Prelude.{ℕ, ◌+◌, ◌-◌, ◌==◌, ◌&&◌, Bool, false, List, [], ◌∷◌, length, insert, max, min, Option, Some, None, nat_lt, if◌then◌else◌}
use Rattle.cqlp_tcp_reassembly.specs.declared.run.EarlyPart.{EarlyPart}
use Rattle.cqlp_tcp_reassembly.specs.declared.run.Part.{Part}
use Rattle.cqlp_tcp_reassembly.specs.declared.run.RunSummary.{RunSummary}

-- A part of a segment that is kept: the position of its first byte, the bytes that were captured, how many behind them were not,
-- whether the segment began with it, and when its packet was captured.
pub record EarlyRun : Type 0 where
  pub at : ℕ
  pub bytes : List ℕ
  pub missing : ℕ
  pub begins : Bool
  pub time : Option ℕ

abbrev pub early_run : (at : ℕ) → List ℕ → (missing : ℕ) → Bool → Option ℕ → EarlyRun
early_run at bytes missing begins time =
    record { at = at; bytes = bytes; missing = missing; begins = begins; time = time }

-- this part, of which these bytes were captured
abbrev pub run_of : Part → List ℕ → Bool → Option ℕ → EarlyRun
run_of p bytes begins time = early_run p.from bytes (p.to - p.from - length bytes) begins time

abbrev pub kept : EarlyPart → EarlyRun
kept e = run_of e.part e.bytes.now e.begins e.time

-- a time, if it is known
abbrev pub time_if : (is_known : Bool) → ℕ → Option ℕ
time_if is_known time = if is_known then Some time else None

-- the position behind it
abbrev pub run_end : EarlyRun → ℕ
run_end r = r.at + length r.bytes + r.missing

abbrev pub summary : EarlyRun → RunSummary
summary r = record { length = length r.bytes; missing = r.missing; begins = r.begins; time = r.time }

-- it goes on behind its bytes
abbrev pub without_bytes : EarlyRun → EarlyRun
without_bytes r = early_run (r.at + length r.bytes) [] r.missing false r.time

-- ---- those that are kept, by position

-- what they count: their bytes, and 144 for each
abbrev pub size_of : List EarlyRun → ℕ
size_of [] = 0
size_of (r ∷ runs) = length r.bytes + 144 + size_of runs

-- the position of the first, or another one where it is less
abbrev pub first_at : (other : ℕ) → List EarlyRun → ℕ
first_at other [] = other
first_at other (r ∷ runs) = min other r.at

-- the first, if it begins at a position
abbrev pub summary_at : (position : ℕ) → List EarlyRun → Option RunSummary
summary_at position [] = None
summary_at position (r ∷ runs) = if r.at == position then Some (summary r) else None

abbrev pub bytes_at : (position : ℕ) → List EarlyRun → List ℕ
bytes_at position [] = []
bytes_at position (r ∷ runs) = if r.at == position then r.bytes else []

-- after the bytes of the first, or where it has none after all of it
abbrev pub behind_first : List EarlyRun → List EarlyRun
behind_first [] = []
behind_first (r ∷ runs) = if nat_lt 0 (length r.bytes) && nat_lt 0 r.missing then without_bytes r ∷ runs else runs

-- with one more
abbrev pub with_run : EarlyPart → List EarlyRun → List EarlyRun
with_run e runs = insert runs e.part.index (kept e)

-- The first part from one position up to another that none covers. So many lie before these.
abbrev pub part : (index from to : ℕ) → Part
part index from to = record { index = index; from = from; to = to }

abbrev pub free_part : (index from to : ℕ) → List EarlyRun → Part
free_part index from to [] = part index from to
free_part index from to (r ∷ runs) =
    if nat_lt from r.at then part index from (min to r.at) else free_part (index + 1) (max from (run_end r)) to runs

-- the last of them
abbrev pub last_of : List EarlyRun → Option EarlyRun
last_of [] = None
last_of (r ∷ []) = Some r
last_of (r ∷ s ∷ runs) = last_of (s ∷ runs)

-- behind it, where a position is no less than that of its first byte
abbrev pub behind_last : Option EarlyRun → (from : ℕ) → Option ℕ
behind_last None from = None
behind_last (Some last) from = if nat_lt from last.at then None else Some (max from (run_end last))

-- The part as it is found: at once behind the last, or else from the first on.
abbrev pub free_after : Option ℕ → (from to : ℕ) → List EarlyRun → Part
free_after None from to runs = free_part 0 from to runs
free_after (Some start) from to runs = part (length runs) start to

abbrev pub first_free : (from to : ℕ) → List EarlyRun → Part
first_free from to runs = free_after (behind_last (last_of runs) from) from to runs
