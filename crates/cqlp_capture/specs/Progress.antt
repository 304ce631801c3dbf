-- Where a reader of captures is, and what its calls lead to.
use Rattle.std.specs.Prelude.{◌≡◌, ℕ, ◌+◌, ◌-◌, ◌<◌, ◌≤◌, ◌++◌, ◌==◌, ◌&&◌, Bool, true, List, [], ◌∷◌, length, take, drop, Option, Some, None}
use Rattle.std.specs.Prelude.{if◌then◌else◌, ⊤}
use Rattle.cqlp_note.specs.Reader.{More, Bad, Got, says}
use Rattle.cqlp_capture.specs.declared.limits.CaptureLimits.{CaptureLimits}
use Rattle.cqlp_capture.specs.declared.refusal.CaptureRefusal.{CaptureRefusal}
use Rattle.cqlp_capture.specs.declared.event.CaptureEvent.{CaptureEvent}
use Rattle.cqlp_capture.specs.declared.event.CaptureEvent.TheVariants as event
use Rattle.cqlp_capture.specs.declared.event.CaptureStep.{CaptureStep}
use Rattle.cqlp_capture.specs.declared.event.CaptureStep.TheVariants as answer
use Rattle.cqlp_capture.specs.declared.event.CaptureEnd.{CaptureEnd}
use Rattle.cqlp_capture.specs.declared.event.CaptureEnd.TheVariants as end
use Rattle.cqlp_capture.specs.declared.reader.CaptureAdvance.{CaptureAdvance}
use Rattle.cqlp_capture.specs.declared.reader.CaptureAdvance.TheVariants as advance
use Rattle.cqlp_capture.specs.declared.reader.StepTaken.{StepTaken}
use Rattle.cqlp_capture.specs.declared.reader.StepTaken.TheVariants as taken
use Rattle.cqlp_capture.specs.declared.place.Place.{Place}
use Rattle.cqlp_capture.specs.Limits.{is_in_range}
use Rattle.cqlp_capture.specs.Interfaces.{Interfaces}
use Rattle.cqlp_capture.specs.Reading.{Event, Section, Interface, Packet, Bytes, Skipped, Spot, event_with, wanted, step, start, heard, Reads, Hears, Says}
use Rattle.cqlp_capture.specs.Reading.{Waits, Refused}
use Rattle.cqlp_capture.specs.Places.{IsSpot, is_between, began, due}
use Rattle.cqlp_capture.specs.Gathering.{Gathered, LieThere, bytes_at}

-- What contracts see of a reader: the limits, where the reading is, the bytes that were used after the last step, those
-- that are held, and the refusal, if there was one.
pub record CaptureState : Type 0 where
  pub limits : CaptureLimits
  pub spot : Spot
  pub pending : List ℕ
  pub held : List ℕ
  pub refusal : Option CaptureRefusal

abbrev pub spot_of : Place → Interfaces → Spot
spot_of p t = record { place = p; known = t.known }

abbrev pub progress : CaptureLimits → Place → Interfaces → Gathered → Option CaptureRefusal → CaptureState
progress l p t g refusal =
    record { limits = l; spot = spot_of p t; pending = g.pending; held = g.held; refusal = refusal }

-- a reader that is made
abbrev pub new_state : CaptureLimits → CaptureState
new_state l = record { limits = l; spot = start; pending = []; held = []; refusal = None }

-- The rooms are the limits, and less has come than what is read next.
pub record IsLawful (l : CaptureLimits) (p : Place) (t : Interfaces) (g : Gathered) : Type 0 where
  pub room : g.room ≡ l.packet
  pub places : t.room ≡ l.interfaces
  pub range : is_in_range l ≡ true
  pub spot : IsSpot l (spot_of p t)
  pub fewer : length g.pending ≤ wanted p.stage - 1

-- ---- one step

-- an event without where its bytes lie in memory
abbrev pub event_of : CaptureEvent → Event
event_of (event.Section f) = Section f
event_of (event.Interface i) = Interface i
event_of (event.Packet p) = Packet p
event_of (event.Data b) = Bytes b.now
event_of (event.Skipped why) = Skipped why

-- All of the input was used, and more is wanted. Here and below the step begins at p, after the bytes that are pending.
pub record Goes (l : CaptureLimits) (p : Spot) (pending input : List ℕ) (used : ℕ) (new : CaptureState) : Type 0 where
  pub all : used ≡ length input
  pub is : says (step l p) 0 (pending ++ input) ≡ More
  pub left : new ≡ record {
    limits = l;
    spot = p;
    pending = pending ++ input;
    held = pending ++ input;
    refusal = None;
  }

-- The first `used` bytes of the input end this event. Where all its bytes are among them, none is held; else all are.
pub record Hands (l : CaptureLimits) (p : Spot) (pending input : List ℕ) (at used : ℕ) (e : Event) (new : CaptureState) : Type 0 where
  pub within : used ≤ length input
  pub is : says (step l p) 0 (pending ++ input)
      ≡ Got (record { at = at; event = Some e; after = new.spot }) (length pending + used)
  pub left : new ≡ record { limits = l; spot = new.spot; pending = []; held = new.held; refusal = None }
  pub lent : pending ≡ [] → new.held ≡ []
  pub kept : 0 < length pending → new.held ≡ pending ++ take used input

-- The bytes are refused.
pub record Fails (l : CaptureLimits) (p : Spot) (pending input : List ℕ) (r : CaptureRefusal) (new : CaptureState) : Type 0 where
  pub is : says (step l p) 0 (pending ++ input) ≡ Bad r
  pub left : new ≡ record { limits = l; spot = p; pending = []; held = []; refusal = Some r }

-- Steps that say no event lead from p to q over the first n bytes of the input. What had come before is used by the first
-- of them.
pub record Moves (l : CaptureLimits) (p : Spot) (pending input : List ℕ) (n : ℕ) (q : Spot) (rest : List ℕ) : Type 0 where
  pub within : n ≤ length input
  pub steps : List (ℕ × Option Event)
  pub silent : heard steps ≡ []
  pub reads : Reads l p (pending ++ take n input) steps q rest
  pub first : steps ≡ [] → n ≡ 0
  pub later : 0 < length steps → rest ≡ []

-- and each of them was paid
pub record Passes (old : CaptureState) (input : List ℕ) (n : ℕ) (new : CaptureState) : Type 0 where
  pub moves : Moves old.limits old.spot old.pending input n new.spot new.pending
  pub none : new.pending ≡ []
  pub paid : due new.spot.place.stage + (length input - n) < due old.spot.place.stage + length old.pending + length input
  pub limits : new.limits ≡ old.limits
  pub unrefused : new.refusal ≡ None

-- What a step makes of the input of a file that was not refused.
abbrev pub TakesStep : CaptureState → List ℕ → StepTaken → CaptureState → Type 0
TakesStep old input taken.More new = Goes old.limits old.spot old.pending input (length input) new
TakesStep old input (taken.Passed n) new = Passes old input n new
TakesStep old input (taken.Event at used w lies) new =
    Hands old.limits old.spot old.pending input at used (event_with w (bytes_at lies input new.held)) new
    × LieThere lies input
TakesStep old input (taken.Refused r) new = Fails old.limits old.spot old.pending input r new

-- ---- one call: steps that say no event, and one that does, or that is not taken

pub record GoesOn (old : CaptureState) (input : List ℕ) (used : ℕ) (new : CaptureState) : Type 0 where
  pub from : ℕ
  pub mid : Spot
  pub rest : List ℕ
  pub moves : Moves old.limits old.spot old.pending input from mid rest
  pub goes : Goes old.limits mid rest (drop from input) (used - from) new
  pub all : used ≡ length input

pub record HandsOut (old : CaptureState) (input : List ℕ) (at used : ℕ) (e : Event) (new : CaptureState) : Type 0 where
  pub from : ℕ
  pub mid : Spot
  pub rest : List ℕ
  pub moves : Moves old.limits old.spot old.pending input from mid rest
  pub order : from ≤ used
  pub hands : Hands old.limits mid rest (drop from input) at (used - from) e new

pub record FailsThere (old : CaptureState) (input : List ℕ) (r : CaptureRefusal) (new : CaptureState) : Type 0 where
  pub from : ℕ
  pub mid : Spot
  pub rest : List ℕ
  pub moves : Moves old.limits old.spot old.pending input from mid rest
  pub fails : Fails old.limits mid rest (drop from input) r new

-- What the input makes of a file that was not refused, and of one that was.
abbrev pub AdvancesFrom : Option CaptureRefusal → CaptureState → List ℕ → CaptureAdvance → CaptureState → Type 0
AdvancesFrom (Some r) old input a new = (a ≡ advance.Refused r) × (new ≡ old)
AdvancesFrom None old input (advance.More used) new = GoesOn old input used new
AdvancesFrom None old input (advance.Event at from used w lies) new =
    HandsOut old input at used (event_with w (bytes_at lies (drop from input) new.held)) new
    × LieThere lies (drop from input) × (from ≤ length input)
AdvancesFrom None old input (advance.Refused r) new = FailsThere old input r new

abbrev pub Advances : CaptureState → List ℕ → CaptureAdvance → CaptureState → Type 0
Advances old input a new = AdvancesFrom old.refusal old input a new

abbrev pub AnswersFrom : Option CaptureRefusal → CaptureState → List ℕ → CaptureStep → CaptureState → Type 0
AnswersFrom (Some r) old input x new = (x ≡ answer.Refused r) × (new ≡ old)
AnswersFrom None old input (answer.More used) new = GoesOn old input used new
AnswersFrom None old input (answer.Event at used e) new = HandsOut old input at used (event_of e) new
AnswersFrom None old input (answer.Refused r) new = FailsThere old input r new

-- ---- after some calls

-- A reader that has refused used these bytes and handed out these events: the bytes say the events, and with some more, that
-- were looked at but not used, they are refused so.
pub record HasRefused (r : CaptureRefusal) (d : CaptureState) (s : List ℕ) (es : List (ℕ × Event)) : Type 0 where
  pub at : Spot
  pub rest : List ℕ
  pub read : Hears d.limits start s es at rest
  pub looked : List ℕ
  pub refused : Says d.limits start (s ++ looked) es (Refused r)

abbrev pub AfterBy : Option CaptureRefusal → CaptureState → List ℕ → List (ℕ × Event) → Type 0
AfterBy None d s es = Hears d.limits start s es d.spot d.pending
AfterBy (Some r) d s es = HasRefused r d s es

-- A reader that was made used the bytes s and handed out the events es.
abbrev pub After : CaptureState → List ℕ → List (ℕ × Event) → Type 0
After d s es = AfterBy d.refusal d s es

-- a refusal is that of the bytes used and the input, or it is the one before
abbrev pub Refuses : Option CaptureRefusal → CaptureState → List ℕ → List (ℕ × Event) → List ℕ → CaptureRefusal → Type 0
Refuses None old s es input r = Says old.limits start (s ++ input) es (Refused r)
Refuses (Some before) old s es input r = r ≡ before

-- What a call leads to that was made after these bytes and events.
abbrev pub Leads : CaptureState → List ℕ → List (ℕ × Event) → List ℕ → CaptureStep → CaptureState → Type 0
Leads old s es input (answer.Event at used e) new =
    (used ≤ length input) × (new.refusal ≡ None) × (new.pending ≡ [])
    × After new (s ++ take used input) (es ++ (at, event_of e) ∷ [])
Leads old s es input (answer.More used) new =
    (used ≡ length input) × (new.refusal ≡ None) × After new (s ++ input) es
    × Says new.limits start (s ++ input) es Waits
Leads old s es input (answer.Refused r) new =
    (new.refusal ≡ Some r) × After new s es × Refuses old.refusal old s es input r

-- the same of any bytes and events that led here
abbrev pub LeadsOn : CaptureState → List ℕ → CaptureStep → CaptureState → Type 0
LeadsOn old input x new = (s : List ℕ) (es : List (ℕ × Event)) → After old s es → Leads old s es input x new

-- What a call answers.
abbrev pub Answers : CaptureState → List ℕ → CaptureStep → CaptureState → Type 0
Answers old input x new = AnswersFrom old.refusal old input x new × LeadsOn old input x new

-- how many bytes of the input a call uses
abbrev pub Uses : List ℕ → CaptureStep → Type 0
Uses input (answer.Event at used e) = used ≤ length input
Uses input (answer.More used) = used ≡ length input
Uses input (answer.Refused r) = ⊤

-- ---- the end of the file

abbrev pub is_empty : List ℕ → Bool
is_empty b = length b == 0

abbrev pub ending_by : Option CaptureRefusal → CaptureState → CaptureEnd
ending_by (Some r) d = end.Refused r
ending_by None d =
    if is_between d.spot.place.stage && is_empty d.pending then end.Whole d.spot.place.offset
    else end.Cut (began d.spot.place) (d.spot.place.offset + length d.pending)

-- how the file ends, if no byte comes after those that were used
abbrev pub ending : CaptureState → CaptureEnd
ending d = ending_by d.refusal d

-- The bytes lead to where a record or a block may begin, or to the end of what began last.
abbrev pub IsWhole : CaptureLimits → List ℕ → Type 0
IsWhole l s = (es : List (ℕ × Event)) × (q : Spot) × Hears l start s es q [] × (is_between q.place.stage ≡ true)

-- The file ends after all its bytes: whole, where a record or a block may begin there, and else cut within what began last.
abbrev pub FinishesBy : Option CaptureRefusal → CaptureState → List ℕ → CaptureEnd → Type 0
FinishesBy (Some r) d s f = f ≡ end.Refused r
FinishesBy None d s (end.Whole n) = (n ≡ length s) × IsWhole d.limits s
FinishesBy None d s (end.Cut at n) = (n ≡ length s) × (at ≤ n) × (at ≡ began d.spot.place)
FinishesBy None d s (end.Refused r) = ⊥

abbrev pub EndsAs : CaptureState → CaptureEnd → Type 0
EndsAs d f = (s : List ℕ) (es : List (ℕ × Event)) → After d s es → FinishesBy d.refusal d s f
