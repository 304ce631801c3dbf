-- One side of a connection: the frames that it sends, each with the first bytes of its message and what that says.
use Rattle.std.specs.Prelude.{ℕ, ◌+◌, Bool, true, false, List, length, take, drop, nat_le, is_some, Option, Some, None, if◌then◌else◌}
use Rattle.cqlp_note.specs.declared.header.Header.{Header}
use Rattle.cqlp_observer.specs.declared.heads.Heads.{Heads}
use Rattle.cqlp_observer.specs.declared.heads.Heard.{Heard}
use Rattle.cqlp_observer.specs.declared.heads.Heard.TheVariants as heard_as
use Rattle.cqlp_observer.specs.declared.message.Frame.{Frame}
use Rattle.cqlp_observer.specs.declared.message.Message.{Message}
use Rattle.cqlp_observer.specs.declared.side.SideStep.{SideStep}
use Rattle.cqlp_observer.specs.Directions as direction
use Rattle.cqlp_observer.specs.Directions.{Closes, Steps, anew}
use Rattle.cqlp_observer.specs.Keeping.{Kept}
use Rattle.cqlp_observer.specs.Passing.{Passing, begun_with, broken_if, message, message_if, read_on, read_on_if}

-- Its frames, and what is kept of the message that passes, if more than its header is.
pub record Speaker : Type 0 where
  pub heads : Heads
  pub present : Option Passing

abbrev pub speaker : Heads → Option Passing → Speaker
speaker heads present = record { heads = heads; present = present }

abbrev pub silent : (responses from_start : Bool) → Speaker
silent responses from_start = speaker (anew responses from_start) None

-- More than a header is kept of the message that passes.
abbrev pub is_keeping : Speaker → Bool
is_keeping s = is_some s.present

-- what the first bytes of a piece say, and the side after them
pub record Hears : Type 0 where
  pub used : ℕ
  pub is_done : Bool
  pub message : Option (Message Kept)
  pub is_bare : Bool
  pub after : Speaker

abbrev pub says : ℕ → (is_done : Bool) → Option (Message Kept) → (is_bare : Bool) → Speaker → Hears
says used is_done m is_bare s = record { used = used; is_done = is_done; message = m; is_bare = is_bare; after = s }

abbrev pub hearing : SideStep → Option (Message Kept) → Speaker → Hears
hearing step m s = says step.used step.is_done m step.is_bare s

-- All of the body is in the piece: its frame ends with that.
abbrev pub ends_at_once : Closes → Header → (body : List ℕ) → (end : ℕ) → Hears
ends_at_once c h body end = says end false (message_if c.frame (Some (read_on body (begun_with h)))) false (speaker c.after None)

-- A frame begins. Of one that does not end in the piece more than the header is kept if there is room.
abbrev pub begins : Header → (used : ℕ) → (time : Option ℕ) → Heads → (rest : List ℕ) → (has_room : Bool) → Hears
begins h used time heads rest has_room =
    if nat_le h.length (length rest) then ends_at_once (direction.passed_whole time heads) h (take h.length rest) (used + h.length)
    else if has_room then says used false None false (speaker heads (Some (begun_with h)))
    else says used false None true (speaker heads None)

abbrev pub heard_of : Heard → (used : ℕ) → (time : Option ℕ) → Heads → List ℕ → (has_room : Bool) → Speaker → Hears
heard_of (heard_as.Begins h) used time heads b has_room s = begins h used time heads (drop used b) has_room
heard_of heard_as.Body used time heads b has_room s = says used false None false (speaker heads (read_on_if (take used b) s.present))
heard_of (heard_as.Ends f) used time heads b has_room s = says used false (Some (message f s.present)) false (speaker heads None)
heard_of heard_as.Stray used time heads b has_room s = says used false None false (speaker heads s.present)
heard_of heard_as.More used time heads b has_room s = says used true None false (speaker heads s.present)

abbrev pub heard_by : Steps → (time : Option ℕ) → List ℕ → (has_room : Bool) → Speaker → Hears
heard_by x time b has_room s = heard_of x.step.heard x.step.used time x.after b has_room s

abbrev pub heard : (time : Option ℕ) → (begins : Bool) → List ℕ → (has_room : Bool) → Speaker → Hears
heard time begins b has_room s = heard_by (direction.heard time begins b s.heads) time b has_room s

-- ---- a gap, and the end: the frame that is reported, and the side after it

pub record Endings : Type 0 where
  pub message : Option (Message Kept)
  pub after : Speaker

abbrev pub ending : Option (Message Kept) → Speaker → Endings
ending m s = record { message = m; after = s }

abbrev pub closed : Option Frame → Heads → Option Passing → Endings
closed None heads present = ending None (speaker heads present)
closed (Some f) heads present = ending (Some (message f present)) (speaker heads None)

abbrev pub closed_by : Closes → Option Passing → Endings
closed_by x present = closed x.frame x.after present

abbrev pub after_gap : ℕ → (time : Option ℕ) → Speaker → Endings
after_gap n time s = closed_by (direction.after_gap n time s.heads) (broken_if s.present)

abbrev pub after_end : Speaker → Endings
after_end s = closed_by (direction.after_end s.heads) s.present

-- a frame with this header that lies whole in the next bytes: its message, and the side after it
abbrev pub after_frame : Header → (time : Option ℕ) → List ℕ → Speaker → Endings
after_frame h time b s = closed_by (direction.passed_frame h time s.heads) (Some (read_on (take h.length (drop 9 b)) (begun_with h)))
