-- Fields, handed straight to a sink.
use Rattle.std.specs.Prelude.{ℕ, List, ⊤}
use Rattle.cqlp_note.specs.declared.field.Field.{Field}
use Rattle.cqlp_note.specs.declared.field.Notation.{Notation}
use Rattle.cqlp_note.specs.Field.{FieldValue}
use Rattle.cqlp_note.specs.Whole.{SaysField}
use Rattle.cqlp_decode.specs.declared.page_loop.Handed.{Handed}
use Rattle.cqlp_decode.specs.declared.page_loop.Handed.TheVariants as handed
use Rattle.cqlp_decode.specs.Reading.{Event, Holds}

-- Bytes say that a field in this notation has a value, of whose event this holds.
pub record HasField (n : Notation) (limit room : ℕ) (input : List ℕ) (f : Field) (used : ℕ) (IsEmitted : Event → Type 0)
    : Type 0 where
  pub value : FieldValue
  pub says : SaysField n limit room input used value
  pub emitted : IsEmitted (Holds f value)

-- What became of the field that is due: it was handed out, and the sink has got it, or it failed there.
abbrev pub HandsField : Notation → (limit room : ℕ) → List ℕ → Field → (HasGot Failed : Event → Type 0) → Handed
    → Type 0
HandsField n limit room input f HasGot Failed handed.Left = ⊤
HandsField n limit room input f HasGot Failed (handed.Taken used) = HasField n limit room input f used HasGot
HandsField n limit room input f HasGot Failed (handed.Fault used) = HasField n limit room input f used Failed
