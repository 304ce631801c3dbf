-- The other connections of a capture, and what their PREPAREDs say of statements.
use Rattle.std.specs.Prelude.{ℕ, zero, suc, ◌+◌, ◌*◌, ◌==◌, ◌&&◌, Bool, true, false, if◌then◌else◌, List, [], length, take, drop, Option, Some, None}
use Rattle.std.specs.BTreeMap.{insert_entry, is_at}
use Rattle.std.specs.Map.{lookup, remove_entry, set_value}
use Rattle.std.specs.Ordering.{nat_cmp}
use Rattle.cqlp_tcp_reassembly.specs.declared.step.StreamStep.{StreamStep}
use Rattle.cqlp_tcp_reassembly.specs.declared.step.StreamStep.TheVariants as step
use Rattle.cqlp_observer.specs.declared.heads.Heads.{Heads}
use Rattle.cqlp_observer.specs.declared.heads.Heard.{Heard}
use Rattle.cqlp_observer.specs.declared.heads.Heard.TheVariants as heard
use Rattle.cqlp_observer.specs.Directions as direction
use Rattle.cqlp_observer.specs.Directions.{anew}
use Rattle.cqlp_capture_rows.specs.Others.{OtherTypes, learned}
use Rattle.cqlp_capture_rows.specs.Frames.{PreparedFrame, PreparedFrames, frame_begins, frame_ends, frame_grows, frame_of, no_frames}

-- ---- what the responses of a connection say of statements

pub record Learning : Type 0 where
  pub frames : PreparedFrames
  pub others : OtherTypes

abbrev pub learning : PreparedFrames → OtherTypes → Learning
learning frames others = record { frames = frames; others = others }

abbrev pub learned_from : Option PreparedFrame → OtherTypes → OtherTypes
learned_from None others = others
learned_from (Some f) others = learned f.bytes others

-- what bytes are: of a frame that ends all came, if it is still gathered
abbrev pub heard_as : (number : ℕ) → List ℕ → Heard → Learning → Learning
heard_as n b (heard.Begins h) l = learning (frame_begins n h l.frames) l.others
heard_as n b heard.Body l = learning (frame_grows b n l.frames) l.others
heard_as n b (heard.Ends f) l = learning (frame_ends n l.frames) (learned_from (frame_of n l.frames) l.others)
heard_as n b heard.Stray l = learning (frame_ends n l.frames) l.others
heard_as n b heard.More l = l

abbrev pub is_done : Heard → Bool
is_done heard.More = true
is_done h = false

-- where the frames of a connection begin and end, and what they said
pub record Place : Type 0 where
  pub heads : Heads
  pub learning : Learning

abbrev pub place : Heads → Learning → Place
place heads learning = record { heads = heads; learning = learning }

-- ---- bytes, step by step. Their first one begins a segment or not.

abbrev pub all_heard : (steps : ℕ) → (number : ℕ) → (begins : Bool) → List ℕ → Heads → Learning → Place
all_heard zero n begins b heads l = place heads l
all_heard (suc k) n begins b heads l =
    let x = direction.heard None begins b heads in
    let next = heard_as n (take x.step.used b) x.step.heard l in
    if is_done x.step.heard then place x.after next else all_heard k n (begins && x.step.used == 0) (drop x.step.used b) x.after next

-- as many steps as they can take: each uses some byte, or ends a frame
abbrev pub bytes_heard : (number : ℕ) → (begins : Bool) → List ℕ → Heads → Learning → Place
bytes_heard n begins b heads l = all_heard (2 * length b + 2) n begins b heads l

-- ---- what a stream delivers: the first bytes of a segment's payload begin it. A gap cuts the frame that it lies in.

abbrev pub cut_at : (number : ℕ) → Heads → Learning → Place
cut_at n heads l = place heads (learning (frame_ends n l.frames) l.others)

abbrev pub step_heard : (number : ℕ) → StreamStep → List ℕ → Heads → Learning → Place
step_heard n (step.Began syn) b heads l = cut_at n (anew true syn) l
step_heard n (step.Payload from count) b heads l = bytes_heard n (from == 0) b heads l
step_heard n (step.Held time begins) b heads l = bytes_heard n begins b heads l
step_heard n (step.Gap k cause time) b heads l = cut_at n (direction.after_gap k None heads).after l
step_heard n step.Kept b heads l = place heads l
step_heard n step.Ended b heads l = cut_at n (direction.after_end heads).after l
step_heard n step.Reset b heads l = cut_at n (direction.after_end heads).after l
step_heard n step.Done b heads l = place heads l

-- ---- all of them: the connections, the one with the least number first, and the frames that may be PREPAREDs

pub record OtherConnections : Type 0 where
  pub heads : List (ℕ × Heads)
  pub frames : PreparedFrames

abbrev pub other_connections : List (ℕ × Heads) → PreparedFrames → OtherConnections
other_connections heads frames = record { heads = heads; frames = frames }

abbrev pub no_connections : OtherConnections
no_connections = other_connections [] no_frames

abbrev pub begins : (number : ℕ) → OtherConnections → OtherConnections
begins n w = other_connections (insert_entry nat_cmp w.heads n (anew true false)) w.frames

-- the connections, and what is known of statements
pub record Overheard : Type 0 where
  pub connections : OtherConnections
  pub others : OtherTypes

abbrev pub overheard : OtherConnections → OtherTypes → Overheard
overheard connections others = record { connections = connections; others = others }

abbrev pub becomes : (number : ℕ) → Place → OtherConnections → Overheard
becomes n x w = overheard (other_connections (set_value (is_at (nat_cmp n)) w.heads x.heads) x.learning.frames) x.learning.others

abbrev pub overhears_at : Option Heads → (number : ℕ) → StreamStep → List ℕ → OtherConnections → OtherTypes → Overheard
overhears_at None n t b w others = overheard w others
overhears_at (Some heads) n t b w others = becomes n (step_heard n t b heads (learning w.frames others)) w

-- the responses of a connection deliver something
abbrev pub overhears : (number : ℕ) → StreamStep → List ℕ → OtherConnections → OtherTypes → Overheard
overhears n t b w others = overhears_at (lookup (is_at (nat_cmp n)) w.heads) n t b w others

abbrev pub leaves : (number : ℕ) → OtherConnections → OtherConnections
leaves n w = other_connections (remove_entry (is_at (nat_cmp n)) w.heads) (frame_ends n w.frames)
