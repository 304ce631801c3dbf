-- What a sink sees of events that are emitted at their offsets in the whole stream.
use Rattle.std.specs.Prelude.{◌≡◌, ℕ, Option}
use Rattle.cqlp_decode.specs.Reading.{Event}
use Rattle.cqlp_skip.specs.declared.frame.OpenFrame.{OpenFrame}
pub use Rattle.cqlp_skip.specs.Stretches.{stream_offset}
use Rattle.cqlp_skip.specs.Stretches.{frame_after}

-- what is seen of the sink, where the stretch begins, and the frame under way
pub record Shifted (V : Type 0) : Type 0 where
  pub view : V
  pub base : ℕ
  pub frame : Option OpenFrame

abbrev pub shifted : {V : Type 0} → V → ℕ → Option OpenFrame → Shifted V
shifted v base frame = record { view = v; base = base; frame = frame }

-- with an event
abbrev pub with_event : {V : Type 0} → (V → ℕ → Event → V) → Shifted V → (at : ℕ) → Event → Shifted V
with_event f s at e = shifted (f s.view (stream_offset s.base at) e) s.base (frame_after s.frame at e)

-- it failed at an event
abbrev pub FailsAtEvent : {V : Type 0} → (V → ℕ → Event → V → Type 0) → Shifted V → (at : ℕ) → Event → Shifted V → Type 0
FailsAtEvent faulted old at e new =
    faulted old.view (stream_offset old.base at) e new.view × (new.base ≡ old.base) × (new.frame ≡ frame_after old.frame at e)
