-- Laws: what bytes say is one list of events with one verdict, which goes on where more bytes come; and two answers of one
-- call are the same.
use Rattle.std.specs.Prelude.{◌≡◌, ◌↔◌, ℕ, ◌+◌, ◌≤◌, ◌++◌, ◌⊎◌, true, false, List, [], ◌∷◌, length, take, drop, Result, None, IfOk, IsErrOf}
use Rattle.cqlp_capture.specs.declared.event.CaptureEnd.{CaptureEnd}
use Rattle.cqlp_capture.specs.declared.event.CaptureEnd.TheVariants.{Cut}
use Rattle.cqlp_capture.specs.declared.event.CaptureStep.{CaptureStep}
use Rattle.cqlp_capture.specs.declared.event.CaptureStep.TheVariants as answer
use Rattle.cqlp_capture.specs.declared.event.InterfaceHead.{InterfaceHead}
use Rattle.cqlp_capture.specs.declared.event.PacketHead.{PacketHead}
use Rattle.cqlp_capture.specs.declared.limits.CaptureLimits.{CaptureLimits}
use Rattle.cqlp_capture.specs.declared.refusal.CaptureRefusal.{CaptureRefusal}
use Rattle.cqlp_capture.specs.declared.refusal.NewReaderError.{NewReaderError}
use Rattle.cqlp_capture.specs.declared.refusal.NewReaderError.TheVariants.{BadLimits, NoMemory}
use Rattle.cqlp_capture.specs.Limits.{is_in_range}
use Rattle.cqlp_capture.specs.Reading.{Event, Section, Interface, Bytes, Packet, Skipped, Spot, Hears, Verdict, Refused, Says, start}
use Rattle.cqlp_capture.specs.Progress.{CaptureState, After, Answers, IsWhole, ending, event_of, new_state}

-- Any bytes say some list of events and some verdict.
abbrev pub IsSaid : Type 0
IsSaid =
    (l : CaptureLimits) (bytes : List ℕ)
    → is_in_range l ≡ true → (es : List (ℕ × Event)) × (v : Verdict) × Says l start bytes es v

-- And they say no more than one list of events and one verdict.
abbrev pub IsSaidOnce : Type 0
IsSaidOnce =
    (l : CaptureLimits) (p : Spot) (bytes : List ℕ) (es es' : List (ℕ × Event)) (v v' : Verdict)
    → Says l p bytes es v → Says l p bytes es' v' → (es' ≡ es) × (v' ≡ v)

-- one list of events begins with the other
abbrev pub BeginsWith : (all front : List (ℕ × Event)) → Type 0
BeginsWith all front = (more : List (ℕ × Event)) × (all ≡ front ++ more)

-- Whatever bytes follow, the events go on, and a refusal stays.
abbrev pub GoesOn : Type 0
GoesOn =
    (l : CaptureLimits) (p : Spot) (bytes t : List ℕ) (es es' : List (ℕ × Event)) (v v' : Verdict)
    → Says l p bytes es v → Says l p (bytes ++ t) es' v'
    → BeginsWith es' es × ((r : CaptureRefusal) → v ≡ Refused r → (es' ≡ es) × (v' ≡ v))

-- There are no more events than bytes.
abbrev pub HasNoMoreEventsThanBytes : Type 0
HasNoMoreEventsThanBytes =
    (l : CaptureLimits) (bytes : List ℕ) (es : List (ℕ × Event)) (v : Verdict)
    → is_in_range l ≡ true → Says l start bytes es v → length es ≤ length bytes

-- So a reader has handed out no more events than it has used bytes, whether it has refused or not.
abbrev pub HandsOutNoMoreEventsThanBytes : Type 0
HandsOutNoMoreEventsThanBytes =
    (d : CaptureState) (s : List ℕ) (es : List (ℕ × Event))
    → is_in_range d.limits ≡ true → After d s es → length es ≤ length s

-- The bytes of a packet are those of the file at their offset.
abbrev pub AreTheFilesBytes : Type 0
AreTheFilesBytes =
    (l : CaptureLimits) (s rest : List ℕ) (es : List (ℕ × Event)) (at : ℕ) (b : List ℕ) (q : Spot)
    → is_in_range l ≡ true → Hears l start s (es ++ (at, Bytes b) ∷ []) q rest → b ≡ take (length b) (drop at s)

-- A packet's bytes begin right after the header of its record, of 16 bytes, or after its block's type, length and numbers:
-- 28 bytes, or 12 of a simple packet, which has no time.
abbrev pub BeginsAfterHead : (at next : ℕ) → PacketHead → Type 0
BeginsAfterHead at next h = (next ≡ at + 16) ⊎ ((next ≡ at + 28) ⊎ ((next ≡ at + 12) × (h.time ≡ None)))

-- After a packet's head come its bytes, as many as were captured.
abbrev pub FollowTheirHead : Type 0
FollowTheirHead =
    (l : CaptureLimits) (s rest : List ℕ) (es : List (ℕ × Event)) (at next : ℕ) (h : PacketHead) (e : Event) (q : Spot)
    → is_in_range l ≡ true → Hears l start s (es ++ (at, Packet h) ∷ (next, e) ∷ []) q rest
    → (b : List ℕ) × (e ≡ Bytes b) × (length b ≡ h.captured) × BeginsAfterHead at next h

-- how many interfaces a section has after this event, if it had n before
abbrev pub counted : ℕ → Event → ℕ
counted n (Section f) = 0
counted n (Interface i) = n + 1
counted n (Packet h) = n
counted n (Bytes b) = n
counted n (Skipped why) = n

-- and after these events
abbrev pub count_from : ℕ → List (ℕ × Event) → ℕ
count_from n [] = n
count_from n (e ∷ es) = count_from (counted n e.1) es

-- An interface's number is how many its section has before it.
abbrev pub AreNumbered : Type 0
AreNumbered =
    (l : CaptureLimits) (s rest : List ℕ) (es : List (ℕ × Event)) (at : ℕ) (i : InterfaceHead) (q : Spot)
    → is_in_range l ≡ true → Hears l start s (es ++ (at, Interface i) ∷ []) q rest → i.number ≡ count_from 0 es

-- What comes before a cut is whole, unless the file's first header is cut.
abbrev pub IsCutWithinTheLast : Type 0
IsCutWithinTheLast =
    (d : CaptureState) (s : List ℕ) (es : List (ℕ × Event)) (at n : ℕ)
    → is_in_range d.limits ≡ true → After d s es → ending d ≡ Cut at n → (at ≡ 0) ⊎ IsWhole d.limits (take at s)

-- ---- one answer

-- what the clauses of `new` say
pub record IsMade (limits : CaptureLimits) (made : Result CaptureState NewReaderError) : Type 0 where
  pub bad : IsErrOf made BadLimits ↔ (is_in_range limits ≡ false)
  pub fresh : IfOk made (λ d. d ≡ new_state limits)

abbrev pub OneAnswerOfNew : Type 0
OneAnswerOfNew =
    (limits : CaptureLimits) (a b : Result CaptureState NewReaderError)
    → IsMade limits a → IsMade limits b → (IsErrOf a NoMemory ↔ IsErrOf b NoMemory) → a ≡ b

-- what a call answers, wherever a packet's bytes lie
pub data Answer : Type 0 where
  Hands : (at used : ℕ) → Event → Answer
  Wants : (used : ℕ) → Answer
  Refuses : CaptureRefusal → Answer

abbrev pub answer_of : CaptureStep → Answer
answer_of (answer.Event at used e) = Hands at used (event_of e)
answer_of (answer.More used) = Wants used
answer_of (answer.Refused r) = Refuses r

abbrev pub OneAnswerOfNext : Type 0
OneAnswerOfNext =
    (old new new' : CaptureState) (input : List ℕ) (x y : CaptureStep)
    → Answers old input x new → Answers old input y new' → (answer_of y ≡ answer_of x) × (new' ≡ new)

-- Of one reader `finish` has one answer.
abbrev pub OneAnswerOfFinish : Type 0
OneAnswerOfFinish = (d : CaptureState) (x y : CaptureEnd) → x ≡ ending d → y ≡ ending d → y ≡ x
