-- One direction of a connection: what its bytes and gaps are.
use Rattle.std.specs.Prelude.{ℕ, ◌+◌, ◌-◌, ◌^◌, ◌==◌, ◌≡◌, ◌≤◌, Bool, true, false, List, [], ◌++◌, length, take, min, Option, Some, None, nat_lt, if◌then◌else◌}
use Rattle.std.specs.Option.{option_or}
use Rattle.cqlp_note.specs.declared.header.Header.{Header}
use Rattle.cqlp_observer.specs.declared.message.Extent.TheVariants.{Whole, Holed, Short}
use Rattle.cqlp_observer.specs.declared.message.Frame.{Frame}
use Rattle.cqlp_observer.specs.declared.heads.Heads.{Heads}
use Rattle.cqlp_observer.specs.declared.heads.HeardStep.{HeardStep}
use Rattle.cqlp_observer.specs.declared.heads.Heard.{Heard}
use Rattle.cqlp_observer.specs.declared.heads.Heard.TheVariants as heard_as
use Rattle.cqlp_observer.specs.declared.heads.Stage.{Stage}
use Rattle.cqlp_observer.specs.declared.heads.Stage.TheVariants as stage
use Rattle.cqlp_observer.specs.Heads.{head_of, head_within}
use Rattle.cqlp_observer.specs.Openings.{is_between}

abbrev pub direction : Bool → ℕ → Stage → Heads
direction responses position at = record { responses = responses; position = position; stage = at }

-- nothing came, and its first byte begins a frame or not
abbrev pub anew : (responses from_start : Bool) → Heads
anew responses from_start = direction responses 0 (if from_start then stage.Between else stage.Lost)

-- so many more bytes, or bytes of a gap
abbrev pub counted : ℕ → Heads → Heads
counted n s = direction s.responses (min (s.position + n) (2 ^ 64 - 1)) s.stage

abbrev pub at_stage : Stage → Heads → Heads
at_stage g s = direction s.responses s.position g

-- what the first bytes of a piece are, and the direction after them
pub record Steps : Type 0 where
  pub step : HeardStep
  pub after : Heads

abbrev pub stepping : HeardStep → Heads → Steps
stepping t s = record { step = t; after = s }

abbrev pub hears : ℕ → Heard → Stage → Heads → Steps
hears used what g s = stepping (record { used = used; heard = what }) (at_stage g (counted used s))

-- ---- a header

-- A frame begins, whose header ends after so many bytes. All of its bytes came so far.
abbrev pub begun : (used : ℕ) → Header → (at : ℕ) → (first last : Option ℕ) → Heads → Steps
begun used h at first last s =
    hears used (heard_as.Begins h) (stage.Body (record { header = h; at = at; begun = first; ended = last; extent = Whole }) h.length) s

abbrev pub begun_if : Option Header → (used at : ℕ) → (first last : Option ℕ) → Heads → Steps
begun_if (Some h) used at first last s = begun used h at first last s
begun_if None used at first last s = hears used heard_as.Stray stage.Lost s

-- Nine bytes are a header of the direction or stray, fewer wait for the others.
abbrev pub filled : List ℕ → (at : ℕ) → (first last : Option ℕ) → List ℕ → Heads → Steps
filled front at first last b s =
    let more = front ++ take (9 - length front) b in
    let used = length more - length front in
    if nat_lt (length more) 9 then hears used heard_as.More (stage.Header more at first) s
    else begun_if (head_within s.responses more) used at first last s

-- ---- where no frame is known to begin

abbrev pub sought_as : Option Header → (time : Option ℕ) → List ℕ → Heads → Steps
sought_as (Some h) time b s = begun 9 h s.position time time s
sought_as None time b s = hears (length b) heard_as.Stray stage.Lost s

-- One begins where a segment begins with a header of the direction.
abbrev pub sought : (time : Option ℕ) → (begins : Bool) → List ℕ → Heads → Steps
sought time begins b s = sought_as (if begins then head_within s.responses (take 9 b) else None) time b s

-- ---- a body

abbrev pub passed : Frame → (left : ℕ) → (time : Option ℕ) → List ℕ → Heads → Steps
passed f left time b s =
    let used = min (length b) left in
    hears used heard_as.Body (stage.Body (record f { ended = time }) (left - used)) s

-- how many bytes of it are still to come
abbrev pub left_in : Stage → Option ℕ
left_in stage.Lost = None
left_in stage.Between = None
left_in (stage.Header front at first) = None
left_in (stage.Body f left) = Some left

-- so many more of them came
abbrev pub passed_by : (used : ℕ) → (time : Option ℕ) → Stage → Stage
passed_by used time stage.Lost = stage.Lost
passed_by used time stage.Between = stage.Between
passed_by used time (stage.Header front at first) = stage.Header front at first
passed_by used time (stage.Body f left) = stage.Body (record f { ended = time }) (left - used)

-- Where the next frame begins is not known.
abbrev pub is_lost : Stage → Bool
is_lost stage.Lost = true
is_lost g = false

-- ---- the bytes of a piece

abbrev pub heard_in : Stage → (time : Option ℕ) → (begins : Bool) → List ℕ → Heads → Steps
heard_in stage.Lost time begins b s = sought time begins b s
heard_in stage.Between time begins b s = filled [] s.position time time b s
heard_in (stage.Header front at first) time begins b s = filled front at first time b s
heard_in (stage.Body f left) time begins b s = passed f left time b s

-- A frame ends once nothing of its body is left. Else the first bytes of the piece are reported, if there are any.
abbrev pub is_over : Stage → Bool
is_over stage.Lost = false
is_over stage.Between = false
is_over (stage.Header front at first) = false
is_over (stage.Body f left) = left == 0

abbrev pub ended_in : Stage → Heads → Steps
ended_in (stage.Body f left) s = stepping (record { used = 0; heard = heard_as.Ends f }) (at_stage stage.Between s)
ended_in g s = stepping (record { used = 0; heard = heard_as.More }) s

abbrev pub heard_some : (time : Option ℕ) → (begins : Bool) → List ℕ → Heads → Steps
heard_some time begins b s =
    if length b == 0 then stepping (record { used = 0; heard = heard_as.More }) s else heard_in s.stage time begins b s

abbrev pub heard : (time : Option ℕ) → (begins : Bool) → List ℕ → Heads → Steps
heard time begins b s = if is_over s.stage then ended_in s.stage s else heard_some time begins b s

-- the frame that is reported, and the direction after it
pub record Closes : Type 0 where
  pub frame : Option Frame
  pub after : Heads

abbrev pub closing : Option Frame → Heads → Closes
closing f s = record { frame = f; after = s }

-- ---- a frame that lies whole in a piece, between two frames

pub record IsWholeHead (h : Header) (b : List ℕ) (s : Heads) : Type 0 where
  pub between : is_between s.stage ≡ true
  pub head : head_of s.responses (take 9 b) ≡ Some h
  pub long : 9 + h.length ≤ length b

-- it passes
abbrev pub passed_frame : Header → (time : Option ℕ) → Heads → Closes
passed_frame h time s =
    closing (Some (record { header = h; at = s.position; begun = time; ended = time; extent = Whole })) (counted h.length (counted 9 s))

-- ---- a gap, and the end

abbrev pub holed : Frame → Frame
holed f = record f { extent = Holed }

-- so many bytes lie within a body, before its last one
abbrev pub is_fewer : ℕ → Option ℕ → Bool
is_fewer n None = false
is_fewer n (Some left) = nat_lt n left

abbrev pub is_within : ℕ → Stage → Bool
is_within n g = is_fewer n (left_in g)

-- These do not come.
abbrev pub holed_by : ℕ → Stage → Stage
holed_by n stage.Lost = stage.Lost
holed_by n stage.Between = stage.Between
holed_by n (stage.Header front at first) = stage.Header front at first
holed_by n (stage.Body f left) = stage.Body (holed f) (left - n)

-- If some of it is left, its last bytes lie in a gap, whose time is theirs, where that is known.
abbrev pub passed_in : Frame → (left : ℕ) → (time : Option ℕ) → Frame
passed_in f left time = if left == 0 then f else record f { ended = option_or time f.ended; extent = Holed }

-- If some of it is left, it ends early.
abbrev pub shortened : Frame → (left : ℕ) → Frame
shortened f left = if left == 0 then f else record f { extent = Short }

-- Within a body the gap makes a hole in the frame, and past its end no frame is known to begin.
abbrev pub gap_in : Stage → ℕ → (time : Option ℕ) → Heads → Closes
gap_in (stage.Body f left) n time s =
    if nat_lt n left then closing None (at_stage (stage.Body (holed f) (left - n)) s)
    else closing (Some (passed_in f left time)) (at_stage (if n == left then stage.Between else stage.Lost) s)
gap_in g n time s = closing None (if nat_lt 0 n then at_stage stage.Lost s else s)

abbrev pub after_gap : ℕ → (time : Option ℕ) → Heads → Closes
after_gap n time s = gap_in s.stage n time (counted n s)

-- All that is left of a body came, the last of it at this time.
abbrev pub whole_in : Stage → (time : Option ℕ) → Heads → Closes
whole_in (stage.Body f left) time s =
    closing (Some (if left == 0 then f else record f { ended = time })) (at_stage stage.Between (counted left s))
whole_in g time s = closing None s

abbrev pub passed_whole : (time : Option ℕ) → Heads → Closes
passed_whole time s = whole_in s.stage time s

abbrev pub end_in : Stage → Option Frame
end_in (stage.Body f left) = Some (shortened f left)
end_in g = None

abbrev pub after_end : Heads → Closes
after_end s = closing (end_in s.stage) (at_stage stage.Lost s)
