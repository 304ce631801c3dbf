-- Frames, messages, stages of a direction and what was missed, by their parts.
use Rattle.std.specs.Prelude.{ℕ, Bool, true, false, Option, Some, None}
use Rattle.cqlp_note.specs.declared.header.Header.{Header}
use Rattle.cqlp_observer.specs.declared.heads.Stage.{Stage}
use Rattle.cqlp_observer.specs.declared.heads.Stage.TheVariants as stage
use Rattle.cqlp_observer.specs.declared.stage_record.PassingFrame.{PassingFrame}
use Rattle.cqlp_observer.specs.declared.stage_record.StageParts.{StageParts}
use Rattle.cqlp_observer.specs.declared.stage_record.StageParts.TheVariants as parts
use Rattle.cqlp_observer.specs.declared.message.Extent.{Extent}
use Rattle.cqlp_observer.specs.declared.message.Frame.{Frame}
use Rattle.cqlp_observer.specs.declared.message.Message.{Message}
use Rattle.cqlp_observer.specs.declared.missed.Missed.{Missed}
use Rattle.cqlp_observer.specs.declared.missed_record.Counts.{Counts}
use Rattle.cqlp_observer.specs.declared.missed_record.Counts.TheVariants as counts_as

abbrev pub time_of : (is_known : Bool) → ℕ → Option ℕ
time_of true time = Some time
time_of false time = None

abbrev pub frame_with : Header → (at : ℕ) → (begun ended : Option ℕ) → Extent → Frame
frame_with header at begun ended extent = record { header = header; at = at; begun = begun; ended = ended; extent = extent }

abbrev pub message_with : {T : Type 0} → Frame → T → Message T
message_with frame kept = record { frame = frame; kept = kept }

-- Numbers of what was missed, in a box or not.
abbrev pub missed_in : {A : Type 0} → Counts A → Missed
missed_in (counts_as.Few overtaken texts gaps other_versions tls http) =
    record { overtaken = overtaken; texts = texts; gaps = gaps; other_versions = other_versions; tls = tls; http = http }
missed_in (counts_as.Many missed) = missed.value

-- A stage out of its parts.
abbrev pub frame_in : PassingFrame → Frame
frame_in p =
    let header : Header = record { response = p.response; flags = p.flags; stream = p.stream; opcode = p.opcode; length = p.length } in
    frame_with header p.at (time_of p.is_begun_known p.begun) (time_of p.is_ended_known p.ended) p.extent

abbrev pub stage_in : StageParts → Stage
stage_in parts.Lost = stage.Lost
stage_in parts.Between = stage.Between
stage_in (parts.Header front at begun is_begun_known) = stage.Header front at (time_of is_begun_known begun)
stage_in (parts.Body passing) = stage.Body (frame_in passing) passing.left
