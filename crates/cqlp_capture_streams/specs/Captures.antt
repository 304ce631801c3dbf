-- What a whole capture reports, and what a listener has got of it.
use Rattle.std.specs.Prelude.{◌≡◌, ℕ, ◌*◌, ◌≤◌, Bool, ◌&&◌, true, false, List, [], ◌∷◌, ◌++◌, length, Option, Some, None, Result, Ok, Err, ◌⊎◌, ⊤}
use Rattle.cqlp_note.specs.Reader.{More, says}
use Rattle.cqlp_note.specs.declared.streams.Source as source
use Rattle.cqlp_note.specs.Streams.{CountsUp, counted}
use Rattle.cqlp_capture.specs.declared.event.CaptureEnd.{CaptureEnd}
use Rattle.cqlp_capture.specs.declared.event.CaptureEnd.TheVariants as end
use Rattle.cqlp_capture.specs.declared.limits.CaptureLimits.{CaptureLimits}
use Rattle.cqlp_capture.specs.declared.refusal.CaptureRefusal.{CaptureRefusal}
use Rattle.cqlp_capture.specs.Reading.{Event, Spot, Hears, Refused, Says, start, step}
use Rattle.cqlp_capture.specs.Places.{began, is_between}
use Rattle.cqlp_capture.specs.Progress.{After, CaptureState, ending, is_empty, new_state}
use Rattle.cqlp_capture_streams.specs.declared.fault.StreamsFault.{StreamsFault}
use Rattle.cqlp_capture_streams.specs.declared.fault.StreamsFault.TheVariants as fault
use Rattle.cqlp_capture_streams.specs.declared.running.Drained.{Drained}
use Rattle.cqlp_capture_streams.specs.declared.running.Drained.TheVariants as drained
use Rattle.cqlp_capture_streams.specs.ConnectionEvents.{ConnectionEvent}
use Rattle.cqlp_capture_streams.specs.Listening.{AreEndless, FailsAtLast, after_all}
use Rattle.cqlp_capture_streams.specs.Packets.{SplitState, Finishes, ReportsEvent, ReportsEvents, with_next_file}

-- ---- what the bytes of a file say

-- The bytes say these events and lead there, before the bytes that are left, and more are wanted.
pub record HearsAll (l : CaptureLimits) (bytes : List ℕ) (es : List (ℕ × Event)) (q : Spot) (rest : List ℕ) : Type 0 where
  pub hears : Hears l start bytes es q rest
  pub wants : says (step l q) 0 rest ≡ More

-- The bytes of a file say these events, all that there are, and it ends so: where a record or a block may begin, within what began
-- last, or where it is refused.
abbrev pub EndsSo : CaptureLimits → (bytes : List ℕ) → List (ℕ × Event) → CaptureEnd → Type 0
EndsSo l bytes es (end.Whole n) =
    (n ≡ length bytes) × (q : Spot) × (rest : List ℕ) × HearsAll l bytes es q rest
    × (is_between q.place.stage && is_empty rest ≡ true)
EndsSo l bytes es (end.Cut at n) =
    (n ≡ length bytes) × (q : Spot) × (rest : List ℕ) × HearsAll l bytes es q rest
    × (is_between q.place.stage && is_empty rest ≡ false) × (at ≡ began q.place)
EndsSo l bytes es (end.Refused r) = Says l start bytes es (Refused r)

-- ---- what that reports

-- All that a file reports: what its events do, in order, and then what connections do that leave.
pub record ReportsFile (l : CaptureLimits) (t : SplitState) (bytes : List ℕ) (e : CaptureEnd) (ss : List ConnectionEvent) (u : SplitState) : Type 0 where
  pub events : List (ℕ × Event)
  pub ends : EndsSo l bytes events e
  pub mid : SplitState
  pub front : List ConnectionEvent
  pub reports : ReportsEvents t events front mid
  pub last : List ConnectionEvent
  pub leave : Finishes true mid last u
  pub all : ss ≡ front ++ last

-- All that the first bytes of a file report, where more are wanted.
pub record ReportsSoFar (l : CaptureLimits) (t : SplitState) (bytes : List ℕ) (ss : List ConnectionEvent) (u : SplitState) : Type 0 where
  pub events : List (ℕ × Event)
  pub spot : Spot
  pub rest : List ℕ
  pub hears : HearsAll l bytes events spot rest
  pub reports : ReportsEvents t events ss u

-- what events report but for, maybe, the last of what the last of them reports
abbrev pub ReportsSome : SplitState → List (ℕ × Event) → List ConnectionEvent → SplitState → Type 0
ReportsSome s es ss u =
    ReportsEvents s es ss u
    ⊎ ((before : List (ℕ × Event)) × (last : ℕ × Event) × (es ≡ before ++ last ∷ []) × (m : SplitState)
    × (front : List ConnectionEvent) × (rest : List ConnectionEvent) × (ss ≡ front ++ rest)
    × ReportsEvents s before front m × ReportsEvent false m last.1 rest u)

-- of the first bytes of a file the first of what they hold,
pub record ReportsFirst (l : CaptureLimits) (t : SplitState) (bytes : List ℕ) (ss : List ConnectionEvent) (u : SplitState) : Type 0 where
  pub used : List ℕ
  pub later : List ℕ
  pub parts : bytes ≡ used ++ later
  pub events : List (ℕ × Event)
  pub spot : Spot
  pub rest : List ℕ
  pub hears : Hears l start used events spot rest
  pub reports : ReportsSome t events ss u

-- or all that its events report, and the first of what connections deliver that leave
pub record ReportsLeaving (l : CaptureLimits) (t : SplitState) (bytes : List ℕ) (ss : List ConnectionEvent) (u : SplitState) : Type 0 where
  pub events : List (ℕ × Event)
  pub end : CaptureEnd
  pub ends : EndsSo l bytes events end
  pub mid : SplitState
  pub front : List ConnectionEvent
  pub reports : ReportsEvents t events front mid
  pub last : List ConnectionEvent
  pub leave : Finishes false mid last u
  pub all : ss ≡ front ++ last

-- ---- reads

-- how many were made of an input, and whether one of them failed, which no more than one may
pub record ReadsMade : Type 0 where
  pub made : ℕ
  pub failed : Bool

abbrev pub no_reads : ReadsMade
no_reads = record { made = 0; failed = false }

-- how many bytes a read asks for
abbrev pub most_read : ℕ
most_read = 65536

-- how often an input was called, how often that failed, and how many bytes of room all calls had
pub record ReadCounts : Type 0 where
  pub reads : ℕ
  pub failures : ℕ
  pub asked : ℕ

abbrev pub read_counts : {R : Type 0} → source.Ghosts R → R → ReadCounts
read_counts members input =
    record { reads = members.reads input; failures = members.failures input; asked = members.asked input }

-- An input counts that many calls more, each of which asked for the whole room, and a failed one more if one failed.
abbrev pub AreCounted : ReadsMade → (old new : ReadCounts) → Type 0
AreCounted m old new =
    CountsUp m.made old.reads new.reads × (new.failures ≡ counted m.failed old.failures)
    × CountsUp (most_read * m.made) old.asked new.asked

-- The bytes read but the last, no more than one read asks for, had said all their events, and more were wanted: nothing was refused.
pub record ReadsOn (l : CaptureLimits) (read : List ℕ) : Type 0 where
  pub earlier : List ℕ
  pub last : List ℕ
  pub parts : read ≡ earlier ++ last
  pub few : length last ≤ most_read
  pub events : List (ℕ × Event)
  pub spot : Spot
  pub rest : List ℕ
  pub hears : HearsAll l earlier events spot rest

-- ---- the next file

-- a file that ends within what began last
abbrev pub is_cut : CaptureEnd → Bool
is_cut (end.Whole n) = false
is_cut (end.Cut at n) = true
is_cut (end.Refused r) = false

-- The next file begins, and is counted, and so is the one before it where that was cut; or there is none, and nothing changes.
abbrev pub BeginsNext : (is_begun : Bool) → CaptureState → SplitState → CaptureState → SplitState → Type 0
BeginsNext true d s e t = (e ≡ new_state d.limits) × (t ≡ with_next_file (is_cut (ending d)) s)
BeginsNext false d s e t = (e ≡ d) × (t ≡ s)

-- ---- what a listener has got of it

-- all was read, unless it is refused
abbrev pub IsAll : Result CaptureEnd StreamsFault → (rest : List ℕ) → Type 0
IsAll (Ok (end.Whole n)) rest = rest ≡ []
IsAll (Ok (end.Cut at n)) rest = rest ≡ []
IsAll r rest = ⊤

-- It is at the end of the bytes read: of all of them, and more are wanted; or where they are refused.
abbrev pub IsAtEndBy : Option CaptureRefusal → CaptureState → (read s : List ℕ) → List (ℕ × Event) → Type 0
IsAtEndBy None d read s es = (s ≡ read) × (says (step d.limits d.spot) 0 d.pending ≡ More)
IsAtEndBy (Some r) d read s es = Says d.limits start read es (Refused r)

abbrev pub IsAtEndOf : CaptureState → (read s : List ℕ) → List (ℕ × Event) → Type 0
IsAtEndOf d read s es = IsAtEndBy d.refusal d read s es

-- a read failed, or all were made that may be
abbrev pub IsOfReads : (turns : ℕ) → ReadsMade → StreamsFault → Type 0
IsOfReads turns m fault.Read = m.failed ≡ true
IsOfReads turns m fault.TooManyTurns = m.made ≡ turns
IsOfReads turns m e = ⊥

abbrev pub IsRefused : Drained → Option CaptureRefusal → Type 0
IsRefused drained.More r = r ≡ None
IsRefused drained.Refused r = (x : CaptureRefusal) × (r ≡ Some x)

module _ {V : Type 0} (after : V → ConnectionEvent → V) where
  -- A reader that was made used the bytes s, and the listener has got all that its events report.
  pub record Has (t : SplitState) (before : V) (s : List ℕ) (d : CaptureState) (u : SplitState) (v : V) : Type 0 where
    pub events : List (ℕ × Event)
    pub connection_events : List ConnectionEvent
    pub conforms : After d s events
    pub reports : ReportsEvents t events connection_events u
    pub got : v ≡ after_all after before connection_events

  module _ (faulted : V → ConnectionEvent → StreamsFault → V → Type 0) where
    -- What it has got of a file with these bytes, after so many reads of at most `turns`. A fault ends it: one of the input, or that no
    -- more reads are to be made, after all that was reported of the bytes read; any other within what they report, so that at most the bytes of
    -- one read are not reported, and it gets nothing more.
    abbrev pub EndsTo : CaptureLimits → SplitState → (turns : ℕ) → ReadsMade → (before : V) → (read : List ℕ) → Result CaptureEnd StreamsFault
        → SplitState → V → Type 0
    EndsTo l t turns m before read (Ok e) u v =
        (ss : List ConnectionEvent) × ReportsFile l t read e ss u × (v ≡ after_all after before ss)
    EndsTo l t turns m before read (Err e) u v =
        (ss : List ConnectionEvent)
        × ((IsOfReads turns m e × ReportsSoFar l t read ss u × (v ≡ after_all after before ss))
        ⊎ (((f : ReportsFirst l t read ss u) × FailsAtLast after faulted (AreEndless ss ⊎ AreEndless f.events) before ss e v
        × (length f.later ≤ most_read))
        ⊎ (ReportsLeaving l t read ss u × FailsAtLast after faulted (AreEndless ss) before ss e v)))

    -- Of the bytes xs of an input these were read, by so many reads of at most `turns`, of which one failed only where that is the answer;
    -- it has got this of them, and the others are left.
    pub record SplitsTo (l : CaptureLimits) (t : SplitState) (turns : ℕ) (m : ReadsMade) (before : V) (xs : List ℕ)
        (r : Result CaptureEnd StreamsFault) (left : Option (List ℕ)) (u : SplitState) (v : V) : Type 0 where
      pub few : m.made ≤ turns
      pub failed : m.failed ≡ true → r ≡ Err fault.Read
      pub read : List ℕ
      pub rest : List ℕ
      pub parts : xs ≡ read ++ rest
      pub others : left ≡ Some rest
      pub on : ReadsOn l read
      pub all : IsAll r rest
      pub ends : EndsTo l t turns m before read r u v

    -- What draining a piece after the bytes s leaves.
    abbrev pub DrainsTo : CaptureLimits → SplitState → (before : V) → (s piece : List ℕ) → Result Drained StreamsFault → CaptureState
        → SplitState → V → Type 0
    DrainsTo l t before s piece (Ok x) d u v =
        (d.limits ≡ l) × IsRefused x d.refusal × (used : List ℕ) × (h : Has t before used d u v)
        × IsAtEndOf d (s ++ piece) used h.events
    DrainsTo l t before s piece (Err e) d u v =
        (ss : List ConnectionEvent) × (f : ReportsFirst l t (s ++ piece) ss u)
        × FailsAtLast after faulted (AreEndless ss ⊎ AreEndless f.events) before ss e v × (length f.later ≤ length piece)
