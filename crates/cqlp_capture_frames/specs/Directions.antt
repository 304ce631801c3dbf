-- What is reported of one direction of a connection.
use Rattle.std.specs.Prelude.{◌≡◌, ℕ, zero, suc, ◌+◌, ◌-◌, ◌*◌, ◌==◌, ◌&&◌, Bool, true, false, not, nat_le, if◌then◌else◌}
use Rattle.std.specs.Prelude.{List, [], ◌++◌, length, take, drop, Option, Some, None, Result, Ok, Err}
use Rattle.cqlp_note.specs.declared.header.Header.{Header}
use Rattle.cqlp_note.specs.declared.header.TheConstants.Header.{LONGEST_BODY}
use Rattle.cqlp_note.specs.Heading.{answers, has, header_bytes, same}
use Rattle.cqlp_note.specs.Limits.{Rules}
use Rattle.cqlp_text.specs.Written.{Receives, Written}
use Rattle.cqlp_tcp_reassembly.specs.declared.step.GapCause.{GapCause}
use Rattle.cqlp_tcp_reassembly.specs.declared.step.StreamStep.{StreamStep}
use Rattle.cqlp_tcp_reassembly.specs.declared.step.StreamStep.TheVariants as step
use Rattle.cqlp_observer.specs.declared.heads.Heads.{Heads}
use Rattle.cqlp_observer.specs.declared.heads.Heard.{Heard}
use Rattle.cqlp_observer.specs.declared.heads.Heard.TheVariants as heard_as
use Rattle.cqlp_observer.specs.Directions as watch
use Rattle.cqlp_observer.specs.Directions.{Steps, anew}
use Rattle.cqlp_capture_frames.specs.Faults.{Stops}
use Rattle.cqlp_capture_frames.specs.Happenings.{Happening, Manner, Begins, Compressed, Unread, Closes, Ends, Gap, after_all, texts}
use Rattle.cqlp_capture_frames.specs.Frames.{Open, behind, more_of, open_after, opened, taken, types_read}

-- The rules that its frames are read by, whether they are responses, where they begin and end, and the frame of which bytes are read, if there
-- is one.
pub record Direction : Type 0 where
  pub rules : Rules
  pub responses : Bool
  pub heads : Heads
  pub frame : Option Open

abbrev pub direction : Rules → (responses : Bool) → Heads → Option Open → Direction
direction rules responses heads frame = record { rules = rules; responses = responses; heads = heads; frame = frame }

-- Nothing came. Its first byte begins a frame or not.
abbrev pub begun : Rules → (responses from_start : Bool) → Direction
begun rules responses from_start = direction rules responses (anew responses from_start) None

abbrev pub with_heads : Heads → Direction → Direction
with_heads heads d = direction d.rules d.responses heads d.frame

abbrev pub with_frame : Option Open → Direction → Direction
with_frame frame d = direction d.rules d.responses d.heads frame

-- Its rules stay, and whether it is that of the responses.
abbrev pub IsSame : (old new : Direction) → Type 0
IsSame old new = (new.rules ≡ old.rules) × (new.responses ≡ old.responses)

-- the text of what is reported, the direction after it, and what is known of what happened
pub record Reporting (S : Type 0) : Type 0 where
  pub text : List ℕ
  pub after : Direction
  pub known : S

abbrev pub reporting : {S : Type 0} → List ℕ → Direction → S → Reporting S
reporting text after known = record { text = text; after = after; known = known }

abbrev pub before : {S : Type 0} → List ℕ → Reporting S → Reporting S
before text t = reporting (text ++ t.text) t.after t.known

-- The text was taken, and this is left; or a fault came within the text.
abbrev pub IsReported : {S F : Type 0} → (refuses : F → Bool) → Reporting S → Result (Unit {0}) F → (old new : Written) → Direction → S → Type 0
IsReported refuses t (Ok u) old new d s = Receives old t.text new × (d ≡ t.after) × (s ≡ t.known)
IsReported refuses t (Err e) old new d s = Stops (refuses e) old t.text new

-- It is not compressed, goes in its opcode's direction, and is not too long (section 2).
abbrev pub is_plain : Header → Bool
is_plain h = (not (has h.flags 0x01) && same (answers h.opcode) h.response) && nat_le h.length LONGEST_BODY

abbrev pub is_done : Heard → Bool
is_done heard_as.More = true
is_done h = false

module _ {S : Type 0} (m : Manner S) where
  -- this happens, and leaves this direction
  abbrev pub happens : Happening → S → Direction → Reporting S
  happens h s d = reporting (m.text s h) d (m.after s h)

  -- no more is read of the frame, if one is open
  abbrev pub closes : Option Open → S → Direction → Reporting S
  closes None s d = reporting [] (with_frame None d) s
  closes (Some f) s d = happens Closes s (with_frame None d)

  -- the frame came whole, if one is open
  abbrev pub ends : Option Open → S → Direction → Reporting S
  ends None s d = reporting [] (with_frame None d) s
  ends (Some f) s d = happens (Ends (types_read d.rules f.given f.bytes)) s (with_frame None d)

  -- ---- a frame: its header and its body, as far as they come one after the other

  abbrev pub goes_on : List ℕ → Open → S → Direction → Reporting S
  goes_on b f s d = reporting (texts m s (more_of d.rules f b)) (with_frame (open_after d.rules f b) d) (after_all m s (more_of d.rules f b))

  abbrev pub begins_plain : (at : ℕ) → Header → S → Direction → Reporting S
  begins_plain at h s d =
      before (m.text s (Begins at h))
      (goes_on (header_bytes h) (opened at (taken d.rules (m.types s at h)) []) (m.after s (Begins at h)) d)

  -- a frame is read only where there is room for its memory
  abbrev pub begins : (room : Bool) → (at : ℕ) → Header → S → Direction → Reporting S
  begins room at h s d =
      if is_plain h then (if room then begins_plain at h s d else happens (Unread at h) s (with_frame None d))
      else happens (Compressed at h) s (with_frame None d)

  abbrev pub body : List ℕ → Option Open → S → Direction → Reporting S
  body b None s d = reporting [] (with_frame None d) s
  body b (Some f) s d = goes_on b f s d

  -- the bytes that lie before this offset, and what they are
  abbrev pub reports : (room : Bool) → (end : ℕ) → List ℕ → Heard → S → Direction → Reporting S
  reports room end b (heard_as.Begins h) s d = begins room (end - 9) h s d
  reports room end b heard_as.Body s d = body b d.frame s d
  reports room end b (heard_as.Ends f) s d = ends d.frame s d
  reports room end b heard_as.Stray s d = closes d.frame s d
  reports room end b heard_as.More s d = reporting [] d s

  -- ---- bytes, step by step. Their first one begins a segment or not.

  abbrev pub all_reported : (room : Bool) → (steps at : ℕ) → (begins : Bool) → List ℕ → S → Direction → Reporting S
  all_reported room zero at begins b s d = reporting [] d s
  all_reported room (suc n) at begins b s d =
      let x = watch.heard None begins b d.heads in
      let t = reports room (behind at x.step.used) (take x.step.used b) x.step.heard s (with_heads x.after d) in
      if is_done x.step.heard then t
      else before t.text (all_reported room n (behind at x.step.used) (begins && x.step.used == 0) (drop x.step.used b) t.known t.after)

  -- as many steps as they can take: each uses some byte, or ends a frame
  abbrev pub bytes_reported : (room : Bool) → (at : ℕ) → (begins : Bool) → List ℕ → S → Direction → Reporting S
  bytes_reported room at begins b s d = all_reported room (2 * length b + 2) at begins b s d

  -- ---- what a stream delivers: the first bytes of a segment's payload begin it

  abbrev pub gap_reported : (at length : ℕ) → GapCause → Reporting S → Reporting S
  gap_reported at n cause t = before t.text (happens (Gap at n cause) t.known t.after)

  abbrev pub step_reported : (room : Bool) → StreamStep → (at : ℕ) → List ℕ → S → Direction → Reporting S
  step_reported room (step.Began syn) at b s d = closes d.frame s (begun d.rules d.responses syn)
  step_reported room (step.Payload from count) at b s d = bytes_reported room at (from == 0) b s d
  step_reported room (step.Held time begins) at b s d = bytes_reported room at begins b s d
  step_reported room (step.Gap n cause time) at b s d = gap_reported at n cause (closes d.frame s (with_heads (watch.after_gap n None d.heads).after d))
  step_reported room step.Kept at b s d = reporting [] d s
  step_reported room step.Ended at b s d = closes d.frame s (with_heads (watch.after_end d.heads).after d)
  step_reported room step.Reset at b s d = closes d.frame s (with_heads (watch.after_end d.heads).after d)
  step_reported room step.Done at b s d = reporting [] d s
